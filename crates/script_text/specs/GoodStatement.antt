-- What a statement that was read keeps.
use Rattle.std.specs.Prelude.{◌≡◌, ◌≤◌, ℕ, ⊤, Bool, true, false, Option, Some, None, List, IsTrue}
use Rattle.std.specs.List.{list_all}
use Rattle.std.specs.declared.cmp.Ordering.{Ordering}
use Rattle.std.specs.Ordering.{nat_cmp}
use Rattle.std.specs.Cmp.Lexicographic.{slice_cmp}
use Rattle.std.specs.BTreeMap.{BTreeMap, get}
use Rattle.tm_types.specs.Segment.{is_printable}
use Rattle.model_system.specs.Programs.{is_statement, is_label}
use Rattle.model_system.specs.declared.statement.Statement.{Statement}
use Rattle.script_text.specs.Scripts.{script_words, statements_before}
use Rattle.script_text.specs.Statements.{has_label_word, label_in}
use Rattle.model_system.specs.declared.statement.Statement.TheVariants.{Label, If, Goto}

abbrev pub label_name_cmp : List ℕ → List ℕ → Ordering
label_name_cmp a b = slice_cmp nat_cmp a b

-- the places of labels, as a map has them
abbrev pub places_in : BTreeMap (List ℕ) ℕ → List ℕ → Option ℕ
places_in labels name = get label_name_cmp labels name

abbrev pub are_all_printable : List (List ℕ) → Bool
are_all_printable words = list_all (list_all is_printable) words

abbrev pub label_name : Statement → Option (List ℕ)
label_name (Label name) = Some name
label_name _ = None

-- a label stands at its own first place, and a target has its label's
abbrev pub IsPlaced : (List ℕ → Option ℕ) → ℕ → Statement → Type 0
IsPlaced places here (Label name) = places name ≡ Some here
IsPlaced places here (If left comparison right target) = places target.label ≡ Some target.place
IsPlaced places here (Goto target) = places target.label ≡ Some target.place
IsPlaced places here _ = ⊤

-- a statement that is no label and goes to none
abbrev pub is_unlabelled : Statement → Bool
is_unlabelled (Label name) = false
is_unlabelled (If left comparison right target) = false
is_unlabelled (Goto target) = false
is_unlabelled _ = true

-- The statement of some words: it is allowed where they are printable, it stands where the labels say
-- so, and whether it is a label, and which.
pub record IsGood (places : List ℕ → Option ℕ) (here : ℕ) (words : List (List ℕ)) (labels : Bool) (label : Option (List ℕ)) (statement : Statement) : Type 0 where
  pub allowed : IsTrue (are_all_printable words) → IsTrue (is_statement statement)
  pub placed : IsPlaced places here statement
  pub kind : is_label statement ≡ labels
  pub label_is : label_name statement ≡ label

-- The statement of a line with so many statements before it.
pub record IsStatementKept (places : List ℕ → Option ℕ) (here before : ℕ) (line : List ℕ) (statement : Statement) : Type 0 where
  pub allowed : IsTrue (is_statement statement)
  pub placed : IsPlaced places here statement
  pub kind : is_label statement ≡ has_label_word (script_words line)
  pub label_is : label_name statement ≡ label_in (script_words line)
  pub room : statements_before before line ≤ 500
