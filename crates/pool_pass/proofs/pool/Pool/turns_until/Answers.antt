use Rattle.std.proofs.Common.{Bool, refl, ◌∙◌, subst}
use Rattle.std.specs.Fn.{CalledAtMut}
use Rattle.pool_pass.specs.Passes.{IsShare, IsTurn, list_in, number_in}
use Rattle.pool_pass.proofs.Waiting.{waiting_first, waiting_more, waiting_ends, number_stays}
use Rattle.pool_pass.proofs.pool.Pool.turns_until.Goals as goal

pub loop-init : goal.loop-init
loop-init g c = (refl, c.requires.pass, waiting_first g.T.Listed.list (λ f x r h y. CalledAtMut g.F.FnMut f x r h y) c.args.seat.now.me.0 c.args.f)

pub turn_again-requires-clause-takes : goal.turn_again-requires-clause-takes
turn_again-requires-clause-takes g c =
    let w = c.loop.invariant.2 in
    let calls : g.row.F.Denot → g.row.T.Denot → Bool → g.row.F.Denot → g.row.T.Denot → Type 0 = λ f x r h y. CalledAtMut g.F.FnMut f x r h y in
    λ x share. c.requires.takes c.loop.f x (list_in c.loop.seat.me.0.kept) w.longer
    (subst (λ number. IsShare number (list_in c.loop.seat.me.0.kept) (g.T.Listed.list x)) (number_stays g.T.Listed.list calls c.args.seat.now.me.0 c.loop.seat.me.0 c.args.f c.loop.f w) share)

pub turn_again-requires-clause-lengthens : goal.turn_again-requires-clause-lengthens
turn_again-requires-clause-lengthens g c = λ x r h y share call. c.requires.lengthens c.loop.f x r h y call

pub loop-preserved : goal.loop-preserved
loop-preserved g c =
    let t = c.turn_again.ensures in
    let i = c.loop.invariant in (
      t.seat.0 ∙ i.0,
      t.seat.1,
      waiting_more g.T.Listed.list (λ f x r h y. CalledAtMut g.F.FnMut f x r h y) _ _ _ _ _ _ i.2 t.same
          (subst (λ r. IsTurn g.T.Listed.list (number_in c.loop.seat.me.0.kept) (λ x y. CalledAtMut g.F.FnMut c.loop.f x r c.turn_again.new.f y) (list_in c.loop.seat.me.0.kept) (list_in c.turn_again.new.seat.me.0.kept)) c.if-turn_again.false t.turn),
    )

pub returns-then-turn_again-clause-turns : goal.returns-then-turn_again-clause-turns
returns-then-turn_again-clause-turns g c =
    let t = c.turn_again.ensures in
    let i = c.loop.invariant in
    waiting_ends g.T.Listed.list (λ f x r h y. CalledAtMut g.F.FnMut f x r h y) _ _ _ _ _ _ i.2
    (subst (λ r. IsTurn g.T.Listed.list (number_in c.loop.seat.me.0.kept) (λ x y. CalledAtMut g.F.FnMut c.loop.f x r c.turn_again.new.f y) (list_in c.loop.seat.me.0.kept) (list_in c.turn_again.new.seat.me.0.kept)) c.if-turn_again.true t.turn)
