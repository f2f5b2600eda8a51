-- the values so far, and those of the entries that are still to come
use Rattle.std.proofs.Common.{◌≡◌, ◌++◌}
use Rattle.session_lines.specs.LastValues.{values_of}
use Rattle.session_lines.proofs.values.copied_values.Given as goal

abbrev pub invariant-loop-name : goal.invariant-loop-name
invariant-loop-name l =
    (goal.iterator-loop-name).can_next l.name-iterator ×
    (goal.iterator-loop-name).is_finite l.name-iterator ×
    (l.copy ++ values_of l.name-iterator ≡ values_of l.values.entries)
