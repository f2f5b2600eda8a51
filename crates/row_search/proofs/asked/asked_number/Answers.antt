use Rattle.std.proofs.Common.{◌≡◌, ◌+◌, ◌-◌, length, sym, ap, ◌∙◌, arith}
use Rattle.tm_types.specs.declared.ssa.Ssa.{Ssa}
use Rattle.model_data.specs.Search.{number_named}
use Rattle.row_search.proofs.Fitting.{asked_number_at}
use Rattle.row_search.proofs.asked.asked_number.Goals as goal

pub returns-in-len1-up : goal.returns-in-len1-up
returns-in-len1-up c =
    let last : length c.args.ssas.now - 1 + 1 ≡ length c.args.ssas.now = omega (arith, c.in-len1-up.len_at_least) in
    c.number_named.ensures
    ∙ (ap (λ (s : Ssa). number_named c.args.types.now s.segment) c.last-item.is
    ∙ sym (asked_number_at c.args.types.now c.args.ssas.now (length c.args.ssas.now - 1) c.last-item.result last))
