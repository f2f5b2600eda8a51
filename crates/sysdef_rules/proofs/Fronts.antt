-- The lines at the front that are of one kind.
use Rattle.std.proofs.Common.{Bool, true, false, List, [], ◌∷◌, All, IsTrue, refl, ◌≡◌, cond, arith}
use Rattle.std.proofs.lemmas.List.Elements.{All-cons, All-head, All-tail}
use Rattle.std.specs.List.{list_all}
use Rattle.system_types.specs.declared.definition.MacroLine.{MacroLine}
use Rattle.sysdef_rules.specs.declared.lookups.MacroKind.{MacroKind}
use Rattle.sysdef_rules.specs.Lookups.{front, is_of_kind}

all_by : (kind : MacroKind) (b : Bool) (line : MacroLine) (lines : List MacroLine) → is_of_kind kind line.content ≡ b
    → IsTrue (list_all (λ l. is_of_kind kind l.content) lines) → IsTrue (list_all (λ l. is_of_kind kind l.content) (cond b (line ∷ lines) []))
all_by kind true line lines e h = rw (e, h) refl
all_by kind false line lines e h = refl

pub front_all : (kind : MacroKind) (lines : List MacroLine) → IsTrue (list_all (λ line. is_of_kind kind line.content) (front kind lines))
front_all kind [] = refl
front_all kind (line ∷ lines) = all_by kind (is_of_kind kind line.content) line (front kind lines) refl (front_all kind lines)

front_by : (P : MacroLine → Type 0) (b : Bool) (line : MacroLine) (lines : List MacroLine) → P line → All P lines → All P (cond b (line ∷ lines) [])
front_by P true line lines h rest = All-cons P line lines h rest
front_by P false line lines h rest = λ k d below. absurd (omega (arith, below))

-- what holds of each line holds of those at the front
pub front_holds : (P : MacroLine → Type 0) (kind : MacroKind) (lines : List MacroLine) → All P lines → All P (front kind lines)
front_holds P kind [] h = h
front_holds P kind (line ∷ lines) h = front_by P (is_of_kind kind line.content) line (front kind lines) (All-head P line lines h) (front_holds P kind lines (All-tail P line lines h))
