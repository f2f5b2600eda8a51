use Rattle.std.proofs.Common.{subst}
use Rattle.std.specs.Fn.{CalledAtMut}
use Rattle.pool_pass.specs.Passes.{PassState, IsShare, IsTurnsUntil, Lengthens, list_in}
use Rattle.pool_pass.proofs.pass.Pass.call_until.Goals as goal

pub turns_until-requires-clause-takes : goal.turns_until-requires-clause-takes
turns_until-requires-clause-takes g c = λ f x list longer share. c.requires.takes f x list
    (subst (λ (p : PassState g.row.I.Denot). Lengthens p.list list) c.self.view_is longer)
    (subst (λ (p : PassState g.row.I.Denot). IsShare p.number list (g.T.Listed.list x)) c.self.view_is share)

pub returns-clause-turns : goal.returns-clause-turns
returns-clause-turns g c = subst
    (λ (p : PassState g.row.I.Denot). IsTurnsUntil g.T.Listed.list p.number (λ f x r h y. CalledAtMut g.F.FnMut f x r h y) c.args.f p.list (list_in c.turns_until.new.seat.me.0.kept))
    c.self.view_is c.turns_until.ensures.turns
