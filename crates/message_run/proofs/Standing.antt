-- Where the PCBs of a program stand.
use Rattle.std.proofs.Common.{◌≡◌, ℕ, ◌-◌, suc, zero, List, [], ◌∷◌, length, sym, ◌∙◌, ap, refl, subst, ◌⊎◌, inl, inr}
use Rattle.std.specs.Prelude.{Some, replicate, slice_get, slice_set}
use Rattle.std.proofs.lemmas.List.{length-replicate, length-set}
use Rattle.tm_types.specs.declared.dbd.Dbd.{Dbd}
use Rattle.model_system.specs.declared.pcb.Pcb.{Pcb}
use Rattle.model_system.specs.declared.pcb.Pcb.TheVariants.{Database}
use Rattle.model_data.specs.declared.call.Position.{Position}
use Rattle.model_data.specs.Conditions.{IsPosition}
use Rattle.model_data.specs.Data.{nowhere}
use Rattle.message_run.specs.RunState.{AreStanding}

-- each of so many equal elements
replicated : {A : Type 0} (count place : ℕ) (x y : A) → slice_get (replicate count x) place ≡ Some y → y ≡ x
replicated zero place x y e = cc
replicated (suc count) zero x y e = cc
replicated (suc count) (suc place) x y e = replicated count place x y e

is_nowhere : (dbd : Dbd) (at : Position) → at ≡ nowhere → IsPosition dbd.types at
is_nowhere dbd at e = subst (IsPosition dbd.types) (sym e) (record { position = tt; parentage = tt; hold = tt })

-- PCBs that stand nowhere stand rightly
pub all_nowhere : (databases : List Dbd) (pcbs : List Pcb) (positions : List Position) → positions ≡ replicate (length pcbs) nowhere → AreStanding databases pcbs positions
all_nowhere databases pcbs positions e = record {
  count = ap length e ∙ length-replicate (length pcbs) nowhere;
  each = λ place number options dbd at pcb database stands.
      is_nowhere dbd at (replicated (length pcbs) place nowhere at (ap (λ ps. slice_get ps place) (sym e) ∙ stands));
}

-- an element of a list with one element set
set_at : {A : Type 0} (xs : List A) (place there : ℕ) (x y : A) → slice_get (slice_set xs there x) place ≡ Some y → (place ≡ there) × (y ≡ x) ⊎ (slice_get xs place ≡ Some y)
set_at [] place there x y e = inr e
set_at (z ∷ xs) zero zero x y e = inl (refl, cc)
set_at (z ∷ xs) (suc place) zero x y e = inr e
set_at (z ∷ xs) zero (suc there) x y e = inr e
set_at (z ∷ xs) (suc place) (suc there) x y e = by (set_at xs place there x y e)
  where
    by : (place ≡ there) × (y ≡ x) ⊎ (slice_get xs place ≡ Some y) → (suc place ≡ suc there) × (y ≡ x) ⊎ (slice_get xs place ≡ Some y)
    by (inl h) = inl (ap suc h.0, h.1)
    by (inr h) = inr h

-- one PCB of a database more stands at a position of its database
pub one_stands : (databases : List Dbd) (pcbs : List Pcb) (positions new : List Position) (place number options : ℕ) (dbd : Dbd) (given : Position)
    → AreStanding databases pcbs positions
    → slice_get pcbs place ≡ Some (Database number options) → slice_get databases (number - 1) ≡ Some dbd → IsPosition dbd.types given
    → new ≡ slice_set positions place given
    → AreStanding databases pcbs new
one_stands databases pcbs positions new place number options dbd given standing pcb database valid e =
    subst (AreStanding databases pcbs) (sym e) (record {
      count = length-set positions place given ∙ standing.count;
      each = λ p n o d at its base stands. by p n o d at its base (set_at positions p place given at stands);
    })
  where
    by : (p n o : ℕ) (d : Dbd) (at : Position) → slice_get pcbs p ≡ Some (Database n o) → slice_get databases (n - 1) ≡ Some d
        → (p ≡ place) × (at ≡ given) ⊎ (slice_get positions p ≡ Some at) → IsPosition d.types at
    by p n o d at its base (inr there) = standing.each p n o d at its base there
    by p n o d at its base (inl here) =
        let same : Some (Database n o) ≡ Some (Database number options) = sym its ∙ ap (slice_get pcbs) here.0 ∙ pcb in
        let one : n ≡ number = cc in
        let dbds : Some d ≡ Some dbd = sym base ∙ ap (λ m. slice_get databases (m - 1)) one ∙ database in
        let whose : d ≡ dbd = cc in
        subst (λ (x : Dbd). IsPosition x.types at) (sym whose) (subst (IsPosition dbd.types) (sym here.1) valid)
