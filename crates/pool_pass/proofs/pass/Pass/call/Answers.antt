use Rattle.std.proofs.Common.{ap, ◌∙◌, subst}
use Rattle.std.specs.Fn.{FnOnceReturnsAtMut}
use Rattle.pool_pass.specs.Passes.{PassState, IsShare, IsTurn, with_list, list_in}
use Rattle.pool_pass.proofs.pass.Pass.call.Goals as goal

pub turn-requires-clause-takes : goal.turn-requires-clause-takes
turn-requires-clause-takes g c = λ x share. c.requires.takes x (subst (λ (p : PassState g.row.I.Denot). IsShare p.number p.list (g.T.Listed.list x)) c.self.view_is share)

pub turn-requires-clause-lengthens : goal.turn-requires-clause-lengthens
turn-requires-clause-lengthens g c = λ x r y share ran. c.requires.lengthens x r y (subst (λ (p : PassState g.row.I.Denot). IsShare p.number p.list (g.T.Listed.list x)) c.self.view_is share) ran

pub returns-clause-same : goal.returns-clause-same
returns-clause-same g c = c.turn.ensures.same ∙ ap (λ (p : PassState g.row.I.Denot). with_list p (list_in c.turn.new.seat.me.0.kept)) c.self.view_is

pub returns-clause-turn : goal.returns-clause-turn
returns-clause-turn g c = subst
    (λ (p : PassState g.row.I.Denot). IsTurn g.T.Listed.list p.number (λ x y. FnOnceReturnsAtMut g.F.FnOnce c.args.f x c.turn.result y) p.list (list_in c.turn.new.seat.me.0.kept))
    c.self.view_is c.turn.ensures.turn
