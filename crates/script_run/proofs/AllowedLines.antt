-- The lines of a program are allowed.
use Rattle.std.proofs.Common.{◌≡◌, ℕ, zero, suc, Bool, true, false, ◌&&◌, List, [], ◌∷◌, ap, ◌∙◌, refl}
use Rattle.std.specs.Prelude.{Some, slice_get}
use Rattle.std.specs.List.{list_all}
use Rattle.model_system.specs.declared.program.ScriptLine.{ScriptLine}
use Rattle.model_system.specs.Programs.{IsProgram, is_statement}

passes_first : (a b : Bool) → (a && b) ≡ true → (a ≡ true) × (b ≡ true)
passes_first true b e = (refl, e)
passes_first false b e = cc

passes_at : {A : Type 0} → (p : A → Bool) (xs : List A) (i : ℕ) (x : A) → list_all p xs ≡ true → slice_get xs i ≡ Some x → p x ≡ true
passes_at p [] i x e at = cc
passes_at {A} p (y ∷ ys) zero x e at = let same : x ≡ y = cc in ap p same ∙ (passes_first (p y) (list_all p ys) e).0
passes_at p (y ∷ ys) (suc i) x e at = passes_at p ys i x (passes_first (p y) (list_all p ys) e).1 at

-- a line of a program is a statement that there is
pub allowed_at : (lines : List ScriptLine) (place : ℕ) (line : ScriptLine) → IsProgram lines → slice_get lines place ≡ Some line → is_statement line.statement ≡ true
allowed_at lines place line valid at = passes_at (λ l. is_statement l.statement) lines place line valid.allowed at
