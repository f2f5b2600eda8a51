use Rattle.std.proofs.Common.{ℕ, ◌≡◌, ◌+◌, ◌-◌, List, length, sym, ap, ◌∙◌, arith}
use Rattle.model_data.proofs.Paths.{end_type_at}
use Rattle.seg_rows.proofs.decode.end_type.Goals as goal

pub returns-in-len1-up : goal.returns-in-len1-up
returns-in-len1-up c =
    let last : length c.args.path.now - 1 + 1 ≡ length c.args.path.now = omega (arith, c.in-len1-up.len_at_least) in
    ap (λ (p : ℕ × List ℕ). p.0) c.last-item.is
    ∙ sym (end_type_at c.args.path.now (length c.args.path.now - 1) c.last-item.result last)
