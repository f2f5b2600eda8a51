use Rattle.std.proofs.Common.{◌≡◌, ℕ, [], length, ap, subst, arith}
use Rattle.std.specs.List.{All}
use Rattle.pool_pass.specs.Passes.{PassState}
use Rattle.pool_pass.proofs.Books.{All-rest}
use Rattle.pool_pass.proofs.tests.turns_of.Goals as goal

pub loop-pass-preserved : goal.loop-pass-preserved
loop-pass-preserved g c =
    let P : PassState ℕ → Type 0 = λ pass. (pass.passes ≡ g.row.ALL) × (pass.joined ≡ []) in
    let whole = c.in-Some.ensures in
    let one_less = ap length whole in
    let one_more = c.in_ok-push.ensures.len in
    let i = c.loop-pass.invariant in
    (omega (arith, one_less, one_more, i.0), All-rest P c.in-Some.pass c.take_first.new.self (subst (All P) whole i.1))
