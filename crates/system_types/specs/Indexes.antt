-- Indexes by name: of each name the place of the first that has it.
use Rattle.std.specs.Prelude.{◌≡◌, ℕ, Bool, List, Option, position}
use Rattle.std.specs.declared.cmp.Ordering.{Ordering}
use Rattle.std.specs.Ordering.{nat_cmp}
use Rattle.std.specs.Cmp.Lexicographic.{slice_cmp}
use Rattle.std.specs.List.{AllByRecursion, position_or_len}
use Rattle.std.specs.Str.{bytes_eq}
use Rattle.std.specs.BTreeMap.{BTreeMap, get}
use Rattle.tm_types.specs.Name.{IsName}
use Rattle.model_system.specs.declared.code.Code.{Code}
use Rattle.model_system.specs.declared.system_program.SystemProgram.{SystemProgram}

abbrev pub name_cmp : List ℕ → List ℕ → Ordering
name_cmp a b = slice_cmp nat_cmp a b

-- what an index has under a name
abbrev pub place_in : BTreeMap (List ℕ) ℕ → List ℕ → Option ℕ
place_in index name = get name_cmp index name

-- the index of a list by a test of names
pub record IsIndex {X : Type 0} (has_name : List ℕ → X → Bool) (index : BTreeMap (List ℕ) ℕ) (items : List X) : Type 0 where
  pub places : (name : List ℕ) → place_in index name ≡ position (has_name name) items

-- a code, a terminal and a program have this name
abbrev pub has_code_name : List ℕ → Code → Bool
has_code_name name code = bytes_eq code.transaction.code name

abbrev pub has_terminal_name : List ℕ → List ℕ → Bool
has_terminal_name name terminal = bytes_eq terminal name

abbrev pub has_program_name : List ℕ → SystemProgram → Bool
has_program_name name program = bytes_eq program.psb name

-- each item's name is one
abbrev pub AreItemsNamed : {X : Type 0} → (X → List ℕ) → List X → Type 0
AreItemsNamed name_of items = AllByRecursion (λ item. IsName (name_of item)) items

-- the place of a code's program, or how many there are where it has none
abbrev pub program_place : List SystemProgram → Code → ℕ
program_place programs code = position_or_len (has_program_name code.psb) programs
