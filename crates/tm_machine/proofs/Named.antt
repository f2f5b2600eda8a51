-- What is found by a name has it.
use Rattle.std.proofs.Common.{◌≡◌, Bool, true, false, List, [], ◌∷◌, ℕ, refl, subst, sym, ap, ◌∙◌}
use Rattle.std.specs.Prelude.{Some, None, slice_get, if◌then◌else◌}
use Rattle.std.specs.Option.{option_and_then}
use Rattle.std.specs.Str.{bytes_eq}
use Rattle.std.proofs.lemmas.Slice.Eq.{bytes_eq-Decides}
use Rattle.model_system.specs.declared.code.Code.{Code}
use Rattle.model_system.specs.Codes.{code_at, code_place}
use Rattle.system_types.proofs.Indexed.{found_at}

pub code_named : (codes : List Code) (name : List ℕ) (code : Code) → code_at codes name ≡ Some code → code.transaction.code ≡ name
code_named [] name code e = cc
code_named (c ∷ codes) name code e = by (bytes_eq c.transaction.code name) refl e (code_named codes name code)
  where
    by : (b : Bool) → bytes_eq c.transaction.code name ≡ b → (if b then Some c else code_at codes name) ≡ Some code
        → (code_at codes name ≡ Some code → code.transaction.code ≡ name) → code.transaction.code ≡ name
    by true same h rest = let here : c ≡ code = cc in subst (λ d. d.transaction.code ≡ name) here ((bytes_eq-Decides c.transaction.code name).0 same)
    by false same h rest = rest h

-- a code is found at its place
pub code_there : (codes : List Code) (name : List ℕ) (place : ℕ) (code : Code) → Some place ≡ code_place codes name → slice_get codes place ≡ Some code → Some code ≡ code_at codes name
code_there codes name place code at is =
    sym is ∙ (ap (option_and_then (slice_get codes)) at ∙ found_at (λ c. bytes_eq c.transaction.code name) codes)

pub unplaced_code : (codes : List Code) (name : List ℕ) → None ≡ code_place codes name → None ≡ code_at codes name
unplaced_code codes name none = ap (option_and_then (slice_get codes)) none ∙ found_at (λ c. bytes_eq c.transaction.code name) codes
