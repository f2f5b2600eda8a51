-- the life that was up
use Rattle.std.proofs.Common.{sym, subst, Some}
use Rattle.session_lives.specs.Openings.{MayEndAt, EndsAt}
use Rattle.session_lives.proofs.serve.end.Goals as goal

pub go_down-idle-requires-clause-text : goal.go_down-idle-requires-clause-text
go_down-idle-requires-clause-text g c = (subst (λ p. MayEndAt p c.args.session.now.kept) c.take_up-control.ensures.taken c.requires).text

pub go_down-idle-requires-clause-life_room : goal.go_down-idle-requires-clause-life_room
go_down-idle-requires-clause-life_room g c = (subst (λ p. MayEndAt p c.args.session.now.kept) c.take_up-control.ensures.taken c.requires).life_room

pub go_down-idle-requires-clause-stop_room : goal.go_down-idle-requires-clause-stop_room
go_down-idle-requires-clause-stop_room g c = (subst (λ p. MayEndAt p c.args.session.now.kept) c.take_up-control.ensures.taken c.requires).stop_room

pub returns : goal.returns
returns g c =
    subst (λ p. EndsAt g.D.Disk.state (Some c.args.pick) c.args.stopped p c.args.session.now.kept (record { place = c.put.new.place; kept = c.go_down-idle.new.kept })) (sym c.take_up-control.ensures.taken)
    (record { idle = c.go_down-idle.result; place = c.put.ensures; disk = c.go_down-idle.ensures.cut; pick = c.go_down-idle.ensures.pick; down = c.go_down-idle.ensures.down; ready = c.go_down-idle.ensures.ready })
