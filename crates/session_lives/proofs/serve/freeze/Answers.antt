-- the life that was up
use Rattle.std.proofs.Common.{false, sym, subst, refl, None}
use Rattle.session_lives.specs.declared.called.Called.TheVariants.{Frozen}
use Rattle.session_lives.specs.Openings.{IsAloneAt, MayEndAt, EndsAt}
use Rattle.session_lives.proofs.serve.freeze.Goals as goal

pub lay_down-idle-requires-clause-text : goal.lay_down-idle-requires-clause-text
lay_down-idle-requires-clause-text g c = (subst (λ p. MayEndAt p c.args.session.now.kept) c.take_up-control.ensures.taken c.requires.may_end).text

pub lay_down-idle-requires-clause-only : goal.lay_down-idle-requires-clause-only
lay_down-idle-requires-clause-only g c = subst (λ p. IsAloneAt g.D.Disk.state p Frozen) c.take_up-control.ensures.taken c.requires.alone

pub lay_down-idle-requires-clause-life_room : goal.lay_down-idle-requires-clause-life_room
lay_down-idle-requires-clause-life_room g c = (subst (λ p. MayEndAt p c.args.session.now.kept) c.take_up-control.ensures.taken c.requires.may_end).life_room

pub returns : goal.returns
returns g c =
    subst (λ p. EndsAt g.D.Disk.state None false p c.args.session.now.kept (record { place = c.put.new.place; kept = c.args.session.now.kept })) (sym c.take_up-control.ensures.taken)
    (record { idle = c.lay_down-idle.result; place = c.put.ensures; disk = c.lay_down-idle.ensures.same; pick = refl; down = c.lay_down-idle.ensures.down; ready = c.lay_down-idle.ensures.ready })
