use Rattle.std.proofs.Common.{◌≡◌, map}
use Rattle.std.specs.List.{list_all}
use Rattle.text_rows.specs.Operands as spec
use Rattle.text_rows.proofs.operands.Operands.known_among.Given as goal

abbrev pub invariant-loop-operand : goal.invariant-loop-operand
invariant-loop-operand l =
    (goal.iterator-loop-operand).can_next l.operand-iterator ×
    (goal.iterator-loop-operand).is_finite l.operand-iterator ×
    (list_all (spec.has_key (map (λ key. key.now) l.keys)) l.operand-iterator ≡ list_all (spec.has_key (map (λ key. key.now) l.keys)) l.self)
