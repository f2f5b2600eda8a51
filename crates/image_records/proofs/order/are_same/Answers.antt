use Rattle.std.proofs.Common.{sym, arith}
use Rattle.image_records.proofs.Fronts.{lengths_apart}
use Rattle.image_records.proofs.order.are_same.Goals as goal

pub returns-then-names-others : goal.returns-then-names-others
returns-then-names-others c = sym (lengths_apart c.args.names.now c.args.others.now (λ e. omega (arith, c.if-names-others.true, e)))
