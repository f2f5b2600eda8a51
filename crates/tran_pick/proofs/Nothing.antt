-- Where no message is free, nothing is picked.
use Rattle.std.proofs.Common.{◌≡◌, ℕ, ◌∷◌, [], List, refl, sym, ap, Bool, true, false, cond, ◌&&◌, ◌||◌, Some, None}
use Rattle.std.specs.Prelude.{find}
use Rattle.std.specs.Option.{option_map, option_or, is_none}
use Rattle.std.specs.Str.{bytes_eq}
use Rattle.model_messages.specs.declared.queued.Queued.{Queued}
use Rattle.model_messages.specs.Queue.{is_free_of, first_free, any_held}
use Rattle.model_system.specs.declared.code.Code.{Code}
use Rattle.model_system.specs.declared.code_state.CodeState.{CodeState}
use Rattle.model_machine.specs.Pick.{is_code_served, candidate_by, candidate_of, better, best_of, pick_among}
use Rattle.msg_queues.specs.FreeMessages.{any_free}
use Rattle.tran_pick.specs.RegionPick.{offered_in}

none_of_code : (code : List ℕ) (queued : List Queued) → any_free queued ≡ false → find (is_free_of code) queued ≡ None
none_of_code code [] h = refl
none_of_code code (q ∷ queued) h = by (bytes_eq q.message.code code) (is_none q.holder) h (none_of_code code queued)
  where
    by : (a b : Bool) → b || any_free queued ≡ false → (any_free queued ≡ false → find (is_free_of code) queued ≡ None) → cond (a && b) (Some q) (find (is_free_of code) queued) ≡ None
    by a true h rec = let clash : true ≡ false = h in absurd (cc)
    by true false h rec = rec h
    by false false h rec = rec h

module _ (queued : List Queued) (h : any_free queued ≡ false) where
  none_offered : (code : Code) → offered_in queued code ≡ None
  none_offered code =
      by (code.transaction.serial && any_held code.transaction.code queued) (ap (option_map (λ q. q.message.id)) (none_of_code code.transaction.code queued h))
    where
      by : (b : Bool) → first_free code.transaction.code queued ≡ None → cond b None (first_free code.transaction.code queued) ≡ None
      by true e = refl
      by false e = e

  none_candidate : (class : ℕ) (code : Code) (state : CodeState) → candidate_of (offered_in queued) class code state ≡ None
  none_candidate class code state = by (is_code_served class code state) (ap (candidate_by code state) (none_offered code))
    where
      by : (b : Bool) → candidate_by code state (offered_in queued code) ≡ None → cond b (candidate_by code state (offered_in queued code)) None ≡ None
      by true e = e
      by false e = refl

  none_best : (class : ℕ) (codes : List Code) (states : List CodeState) → best_of (offered_in queued) class codes states ≡ None
  none_best class [] states = refl
  none_best class (code ∷ codes) [] = refl
  none_best class (code ∷ codes) (state ∷ states) = λ i. better (none_candidate class code state i) (none_best class codes states i)

  pub none_picked : (classes : List ℕ) (codes : List Code) (states : List CodeState) → None ≡ pick_among (offered_in queued) classes codes states
  none_picked [] codes states = refl
  none_picked (class ∷ classes) codes states = λ i. option_or (sym (none_best class codes states) i) (none_picked classes codes states i)
