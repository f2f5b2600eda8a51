-- the arguments so far, and those that are still to be read
use Rattle.std.proofs.Common.{◌≡◌}
use Rattle.script_text.specs.WordLists.{and_more}
use Rattle.script_text.specs.Values as spec
use Rattle.script_text.proofs.values.ssas_of.Given as goal

abbrev pub invariant-loop-word : goal.invariant-loop-word
invariant-loop-word l =
    (goal.iterator-loop-word).can_next l.word-iterator ×
    (goal.iterator-loop-word).is_finite l.word-iterator ×
    (and_more l.ssas (spec.ssas_of l.word-iterator) ≡ spec.ssas_of l.fn.words)
