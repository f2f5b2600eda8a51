use Rattle.std.proofs.Common.{ℕ, ◌≡◌, ◌+◌, ◌-◌, List, length, sym, ap, ◌∙◌, arith}
use Rattle.model_data.specs.Path.{end_type}
use Rattle.model_data.proofs.Paths.{end_type_at}
use Rattle.model_data.proofs.path.Path.segment.Goals as goal

pub returns-in-len1-up : goal.returns-in-len1-up
returns-in-len1-up c =
    let last : length c.as_slice.result.now - 1 + 1 ≡ length c.as_slice.result.now = omega (arith, c.in-len1-up.len_at_least) in
    ap (λ (p : ℕ × List ℕ). p.0) c.last-item.is
    ∙ (sym (end_type_at c.as_slice.result.now (length c.as_slice.result.now - 1) c.last-item.result last)
    ∙ ap end_type (c.as_slice.ensures.value ∙ c.self.view_is))
