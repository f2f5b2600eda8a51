-- What is picked is offered by a code.
use Rattle.std.proofs.Common.{◌≡◌, ℕ, ◌-◌, Bool, true, false, List, [], ◌∷◌, Option, Some, None, refl}
use Rattle.std.specs.Prelude.{if◌then◌else◌, slice_index_or}
use Rattle.std.specs.List.{AllByRecursion}
use Rattle.std.specs.Option.{option_or}
use Rattle.model_system.specs.declared.code.Code.{Code}
use Rattle.model_system.specs.declared.code_state.CodeState.{CodeState}
use Rattle.model_system.specs.System.{System}
use Rattle.model_machine.specs.Pick.{Candidate, is_code_served, candidate_by, candidate_of, goes_first, better, best_of, pick_among, pick_of}

-- A candidate is a code that has this, with what it offers.
pub record IsOffered (P : Code → Type 0) (offers : Code → Option ℕ) (pick : Candidate) : Type 0 where
  pub code : Code
  pub has : P code
  pub named : pick.code ≡ code.transaction.code
  pub offered : offers code ≡ Some pick.id

module _ (P : Code → Type 0) (offers : Code → Option ℕ) where
  abbrev pub IfOffered : Option Candidate → Type 0
  IfOffered None = Unit {0}
  IfOffered (Some pick) = IsOffered P offers pick

  by_offer : (code : Code) (state : CodeState) → P code → (offer : Option ℕ) → offers code ≡ offer → IfOffered (candidate_by code state offer)
  by_offer code state has None e = tt
  by_offer code state has (Some id) e = record { code = code; has = has; named = refl; offered = e }

  one_offered : (class : ℕ) (code : Code) (state : CodeState) → P code → IfOffered (candidate_of offers class code state)
  one_offered class code state has = by (is_code_served class code state) (by_offer code state has (offers code) refl) where
    by : (b : Bool) → IfOffered (candidate_by code state (offers code)) → IfOffered (if b then candidate_by code state (offers code) else None)
    by true is = is
    by false is = tt

  better_offered : (a b : Option Candidate) → IfOffered a → IfOffered b → IfOffered (better a b)
  better_offered None b one other = other
  better_offered (Some a) None one other = one
  better_offered (Some a) (Some b) one other = by (goes_first b a) where
    by : (c : Bool) → IfOffered (if c then Some b else Some a)
    by true = other
    by false = one

  best_offered : (class : ℕ) (codes : List Code) (states : List CodeState) → AllByRecursion P codes → IfOffered (best_of offers class codes states)
  best_offered class [] states all = tt
  best_offered class (code ∷ codes) [] all = tt
  best_offered class (code ∷ codes) (state ∷ states) all =
      better_offered (candidate_of offers class code state) (best_of offers class codes states) (one_offered class code state all.0) (best_offered class codes states all.1)

  either_offered : (a b : Option Candidate) → IfOffered a → IfOffered b → IfOffered (option_or a b)
  either_offered None b one other = other
  either_offered (Some a) b one other = one

  among_offered : (classes : List ℕ) (codes : List Code) (states : List CodeState) → AllByRecursion P codes → IfOffered (pick_among offers classes codes states)
  among_offered [] codes states all = tt
  among_offered (class ∷ classes) codes states all =
      either_offered (best_of offers class codes states) (pick_among offers classes codes states) (best_offered class codes states all) (among_offered classes codes states all)

  pub pick_offered : (system : System) (region : ℕ) (states : List CodeState) → AllByRecursion P system.codes → IfOffered (pick_of system region states offers)
  pick_offered system region states all = among_offered (slice_index_or system.regions (region - 1) []) system.codes states all
