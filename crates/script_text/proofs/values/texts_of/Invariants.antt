-- the texts so far, and those that are still to be read
use Rattle.std.proofs.Common.{◌≡◌, ◌∷◌, IfOk}
use Rattle.std.specs.Prelude.{IsTrue}
use Rattle.std.specs.List.{list_all}
use Rattle.model_system.specs.Programs.{is_plain}
use Rattle.script_text.specs.GoodStatement.{are_all_printable}
use Rattle.script_text.specs.WordLists.{and_more}
use Rattle.script_text.specs.Values as spec
use Rattle.script_text.proofs.values.texts_of.Given as goal

abbrev pub invariant-loop-word : goal.invariant-loop-word
invariant-loop-word l =
    (goal.iterator-loop-word).can_next l.word-iterator ×
    (goal.iterator-loop-word).is_finite l.word-iterator ×
    (and_more l.texts (spec.read_texts l.word-iterator) ≡ spec.read_texts (l.first ∷ l.fn.words)) ×
    (IsTrue (are_all_printable (l.first ∷ l.fn.words)) → IsTrue (are_all_printable l.word-iterator)) ×
    IfOk l.texts (λ texts. IsTrue (are_all_printable (l.first ∷ l.fn.words)) → IsTrue (list_all is_plain texts))
