use Rattle.std.proofs.Common.{ℕ, ◌≡◌, ◌+◌, ◌-◌, List, length, sym, ap, ◌∙◌, arith}
use Rattle.model_data.specs.Path.{end_key}
use Rattle.dli_calls.proofs.Asking.{end_key_at}
use Rattle.dli_calls.proofs.change.end_key.Goals as goal

pub returns : goal.returns
returns c =
    let last : length c.as_slice.result.now - 1 + 1 ≡ length c.as_slice.result.now = omega (arith, c.in-len1-up.len_at_least) in
    ap (λ (p : ℕ × List ℕ). p.1) c.last-item.is
    ∙ (sym (end_key_at c.as_slice.result.now (length c.as_slice.result.now - 1) c.last-item.result last) ∙ ap end_key c.as_slice.ensures)
