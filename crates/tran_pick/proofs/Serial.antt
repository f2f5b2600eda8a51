-- What is picked of a serial code: no region has a message of it.
use Rattle.std.proofs.Common.{◌≡◌, ℕ, suc, ◌∷◌, [], List, refl, sym, ap, ◌∙◌, subst, slice_get, Bool, true, false, cond, ◌&&◌, Option, Some, None}
use Rattle.std.specs.Option.{IfSome, option_and_then, option_or}
use Rattle.std.specs.Str.{bytes_eq}
use Rattle.model_messages.specs.declared.queued.Queued.{Queued}
use Rattle.model_messages.specs.Queue.{any_held, first_free}
use Rattle.model_system.specs.declared.code.Code.{Code}
use Rattle.model_system.specs.declared.code_state.CodeState.{CodeState}
use Rattle.model_system.specs.Codes.{code_at, code_place}
use Rattle.model_machine.specs.Pick.{Candidate, candidate_by, candidate_of, is_code_served, best_of, pick_among}
use Rattle.system_types.proofs.Indexed.{found_at}
use Rattle.tran_pick.specs.RegionPick.{offered_in, IsUnheldIfSerial}
use Rattle.tran_pick.proofs.Found.{better_keeps}

-- the candidate is of one of the codes, which offered its message
record IsOffered (queued : List Queued) (codes : List Code) (c : Candidate) : Type 0 where
  place : ℕ
  code : Code
  there : slice_get codes place ≡ Some code
  name : code.transaction.code ≡ c.code
  unheld : IsUnheldIfSerial queued code

module _ (queued : List Queued) where
  offered_here : (class : ℕ) (code : Code) (codes : List Code) (state : CodeState) → IfSome (candidate_of (offered_in queued) class code state) (IsOffered queued (code ∷ codes))
  offered_here class code codes state =
      by (is_code_served class code state) code.transaction.serial (any_held code.transaction.code queued) (first_free code.transaction.code queued) refl refl
    where
      made : (id : ℕ) → IsUnheldIfSerial queued code → IfSome (candidate_by code state (Some id)) (IsOffered queued (code ∷ codes))
      made id unheld = record { place = 0; code = code; there = refl; name = refl; unheld = unheld }

      no_serial : code.transaction.serial ≡ false → IsUnheldIfSerial queued code
      no_serial e s = let clash : true ≡ false = sym s ∙ e in absurd (cc)

      by : (served serial held : Bool) (first : Option ℕ) → code.transaction.serial ≡ serial → any_held code.transaction.code queued ≡ held
          → IfSome (cond served (candidate_by code state (cond (serial && held) None first)) None) (IsOffered queued (code ∷ codes))
      by false serial held first e f = tt
      by true true true first e f = tt
      by true true false None e f = tt
      by true true false (Some id) e f = made id (λ _. f)
      by true false held None e f = tt
      by true false held (Some id) e f = made id (no_serial e)

  offered_later : (code : Code) (codes : List Code) (found : Option Candidate) → IfSome found (IsOffered queued codes) → IfSome found (IsOffered queued (code ∷ codes))
  offered_later code codes None h = tt
  offered_later code codes (Some c) h = record { place = suc h.place; code = h.code; there = h.there; name = h.name; unheld = h.unheld }

  best_offered : (class : ℕ) (codes : List Code) (states : List CodeState) → IfSome (best_of (offered_in queued) class codes states) (IsOffered queued codes)
  best_offered class [] states = tt
  best_offered class (code ∷ codes) [] = tt
  best_offered class (code ∷ codes) (state ∷ states) =
      better_keeps (IsOffered queued (code ∷ codes)) (candidate_of (offered_in queued) class code state) (best_of (offered_in queued) class codes states)
      (offered_here class code codes state) (offered_later code codes (best_of (offered_in queued) class codes states) (best_offered class codes states))

  picked_offered : (classes : List ℕ) (codes : List Code) (states : List CodeState) → IfSome (pick_among (offered_in queued) classes codes states) (IsOffered queued codes)
  picked_offered [] codes states = tt
  picked_offered (class ∷ classes) codes states =
      by (best_of (offered_in queued) class codes states) (best_offered class codes states) (picked_offered classes codes states)
    where
      by : (best : Option Candidate) → IfSome best (IsOffered queued codes) → IfSome (pick_among (offered_in queued) classes codes states) (IsOffered queued codes)
          → IfSome (option_or best (pick_among (offered_in queued) classes codes states)) (IsOffered queued codes)
      by None h rest = rest
      by (Some c) h rest = h

  -- where the codes have names of their own, the code of the pick's name is the one that offered it
  pub picked_serial : (classes : List ℕ) (codes : List Code) (states : List CodeState)
      → ((place : ℕ) (code : Code) → slice_get codes place ≡ Some code → code_place codes code.transaction.code ≡ Some place)
      → IfSome (pick_among (offered_in queued) classes codes states) (λ c. IfSome (code_at codes c.code) (IsUnheldIfSerial queued))
  picked_serial classes codes states apart = by (pick_among (offered_in queued) classes codes states) (picked_offered classes codes states)
    where
      by : (found : Option Candidate) → IfSome found (IsOffered queued codes) → IfSome found (λ c. IfSome (code_at codes c.code) (IsUnheldIfSerial queued))
      by None h = tt
      by (Some c) h =
          let found : Some h.code ≡ code_at codes h.code.transaction.code =
          sym h.there ∙ sym (ap (option_and_then (slice_get codes)) (apart h.place h.code h.there)) ∙ found_at (λ (code : Code). bytes_eq code.transaction.code h.code.transaction.code) codes in
          subst (λ o. IfSome o (IsUnheldIfSerial queued)) (found ∙ ap (code_at codes) h.name) h.unheld
