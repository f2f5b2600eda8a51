use Rattle.std.proofs.Common.{◌≡◌}
use Rattle.std.specs.Option.{option_copied}
use Rattle.text_rows.specs.Operands as spec
use Rattle.text_rows.proofs.operands.Operands.only_value.Given as goal

abbrev pub invariant-loop-operand : goal.invariant-loop-operand
invariant-loop-operand l =
    (goal.iterator-loop-operand).can_next l.operand-iterator ×
    (goal.iterator-loop-operand).is_finite l.operand-iterator ×
    (spec.value_and (option_copied l.found) (spec.values l.key l.operand-iterator) ≡ spec.values l.key l.self)
