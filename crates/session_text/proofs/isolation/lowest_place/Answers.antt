use Rattle.std.proofs.Common.{sym, ◌∙◌, arith}
use Rattle.std.proofs.lemmas.List.Sums.{position_or_len_is}
use Rattle.model_session.specs.Text.{is_lowest}
use Rattle.session_text.proofs.isolation.lowest_place.Goals as goal

pub returns-then-is_lowest-clause-value : goal.returns-then-is_lowest-clause-value
returns-then-is_lowest-clause-value c =
    sym (position_or_len_is (is_lowest c.args.regions.now) c.args.regions.now c.loop-place.place 0 (omega arith) c.loop-place.invariant
    (λ _. sym c.is_lowest.ensures ∙ c.if-is_lowest.true))

pub returns-clause-value : goal.returns-clause-value
returns-clause-value c =
    sym (position_or_len_is (is_lowest c.args.regions.now) c.args.regions.now _ 0 (omega arith)
    (λ k h. c.loop-place.invariant k (omega arith)) (λ h. absurd (omega arith)))
