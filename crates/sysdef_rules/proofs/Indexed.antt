-- Indexes of macros.
use Rattle.std.proofs.Common.{◌≡◌, ◌+◌, ◌||◌, ℕ, Bool, true, false, cond, List, [], ◌∷◌, Option, Some, refl, ap, ◌∙◌}
use Rattle.std.specs.Prelude.{is_some}
use Rattle.std.specs.List.{list_any, position_from}
use Rattle.std.specs.BTreeMap.{BTreeMap}
use Rattle.std.proofs.lemmas.Iterator.Adapters.{position_from-zero}
use Rattle.system_types.specs.declared.definition.Macro.{Macro}
use Rattle.system_types.specs.declared.definition.MacroLine.{MacroLine}
use Rattle.system_types.specs.Indexes.{IsIndex, place_in}
use Rattle.sysdef_rules.specs.Indexes.{on_line}
use Rattle.sysdef_rules.specs.Lookups.{has}

some_by : (b more : Bool) (place : ℕ) (rest : Option ℕ) → is_some rest ≡ more → is_some (cond b (Some place) rest) ≡ (b || more)
some_by true more place rest e = refl
some_by false more place rest e = e

some_from : {X : Type 0} (p : X → Bool) (place : ℕ) (xs : List X) → is_some (position_from p place xs) ≡ list_any p xs
some_from p place [] = refl
some_from p place (x ∷ xs) = some_by (p x) (list_any p xs) place (position_from p (place + 1) xs) (some_from p (place + 1) xs)

-- an index has a name where a macro has it
pub has_by : (has_name : List ℕ → Macro → Bool) (index : BTreeMap (List ℕ) ℕ) (lines : List MacroLine) (name : List ℕ) (found : Bool) → IsIndex (on_line has_name) index lines
    → found ≡ is_some (place_in index name) → found ≡ has (has_name name) lines
has_by has_name index lines name found indexed e =
    e ∙ ap is_some (indexed.places name) ∙ ap is_some (position_from-zero (on_line has_name name) lines) ∙ some_from (on_line has_name name) 0 lines
