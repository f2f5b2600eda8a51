use Rattle.std.proofs.Common.{◌++◌, take, drop, ap, ◌∙◌, arith}
use Rattle.std.specs.Prelude.{replicate}
use Rattle.row_search.proofs.Fitting.{set_into_blanks}
use Rattle.row_search.proofs.asked.fitted_key.Goals as goal

pub returns : goal.returns
returns c =
    c.in-Some.ensures.value
    ∙ (ap (λ front. take c.args.length (front ++ drop c.min-size.result (replicate 32 32))) c.copy_from_slice.ensures.after
    ∙ set_into_blanks c.args.bytes.now c.args.length 32 c.args.length c.min-size.result c.requires.short (omega arith) c.min-size.ensures)
