use Rattle.std.proofs.Common.{◌≡◌, ◌+◌, ◌≤◌, length, IfOk}
use Rattle.sysdef_rows.proofs.ClassSteps.{joined}
use Rattle.sysdef_rows.specs.Values as spec
use Rattle.sysdef_rows.proofs.values.classes_in.Given as goal

abbrev pub invariant-loop-element : goal.invariant-loop-element
invariant-loop-element l =
    (goal.iterator-loop-element).can_next l.element-iterator ×
    (goal.iterator-loop-element).is_finite l.element-iterator ×
    (joined l.classes (spec.each_class l.element-iterator) ≡ spec.each_class l.fn.elements) ×
    (l.count + length l.element-iterator ≡ length l.fn.elements) ×
    (l.count ≤ 4) ×
    IfOk l.classes (λ classes. length classes ≡ l.count)
