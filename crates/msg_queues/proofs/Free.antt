-- How many messages no region has.
use Rattle.std.proofs.Common.{◌≡◌, ℕ, ◌+◌, ◌-◌, ◌≤◌, ◌∷◌, [], List, refl, sym, ◌∙◌, ap, arith, Bool, true, false, cond, not, ◌||◌, Option, Some, None, nat_lt}
use Rattle.std.specs.Prelude.{IsSome, IsSomeAnd}
use Rattle.std.specs.List.Sorted.{IsStrictlySortedBy}
use Rattle.std.specs.Option.{is_none}
use Rattle.std.specs.Ordering.{nat_cmp}
use Rattle.std.specs.Map.{keys_of, values_of}
use Rattle.std.proofs.lemmas.Bool.{lt-ltb}
use Rattle.std.proofs.lemmas.List.Sums.{sum_by-cons}
use Rattle.tm_types.specs.declared.message.Message.{Message}
use Rattle.model_messages.specs.declared.queued.Queued.{Queued}
use Rattle.model_messages.specs.Room.{message_bytes, messages_bytes}
use Rattle.model_messages.specs.Queue.{messages_of, has_id, queued_at, with_message, with_holder, without_id_queued}
use Rattle.msg_queues.specs.FreeMessages.{any_free, free_weight, free_total}
use Rattle.msg_queues.specs.KeptMessages.{AreKeyed}
use Rattle.msg_queues.proofs.ById.{AreOwn, own_test, with_holder_above, without_above, above_first}
use Rattle.msg_queues.proofs.Keys.{others_ascend}

the_one : (q r : Queued) → Some q ≡ Some r → q ≡ r
the_one q r e = cc

-- ---- there is one
pub any_is : (queued : List Queued) → nat_lt 0 (free_total queued) ≡ any_free queued
any_is [] = refl
any_is (q ∷ queued) = by q.holder (any_is queued)
  where
    by : (o : Option ℕ) → nat_lt 0 (free_total queued) ≡ any_free queued → nat_lt 0 (free_weight o + free_total queued) ≡ (is_none o || any_free queued)
    by None rec = lt-ltb 0 (1 + free_total queued) (omega arith)
    by (Some region) rec = let same : 0 + free_total queued ≡ free_total queued = omega arith in ap (nat_lt 0) same ∙ rec

-- ---- a new message
pub total_added : (message : Message) (queued : List Queued) → free_total (with_message message queued) ≡ free_total queued + 1
total_added message [] = refl
total_added message (q ∷ queued) = omega (arith, total_added message queued)

-- each message counts bytes, so there are no more messages than bytes
pub total_few : (queued : List Queued) → free_total queued ≤ messages_bytes (messages_of queued)
total_few [] = omega arith
total_few (q ∷ queued) = omega (arith, weight q.holder, total_few queued, sum_by-cons message_bytes q.message (messages_of queued))
  where
    weight : (o : Option ℕ) → free_weight o ≤ 1
    weight None = omega arith
    weight (Some region) = omega arith

-- ---- a new holder
pub total_held : (id : ℕ) (holder : Option ℕ) (q : Queued) (es : List (ℕ × Queued)) → AreOwn es → IsStrictlySortedBy nat_cmp (keys_of es) → queued_at id (values_of es) ≡ Some q
    → free_total (with_holder id holder (values_of es)) + free_weight q.holder ≡ free_total (values_of es) + free_weight holder
total_held id holder q [] h s e = let bad : None ≡ Some q = e in absurd (cc)
total_held id holder q (e ∷ es) h s found = by (has_id id e.1) refl found (total_held id holder q es h.1 (others_ascend e es s))
  where
    by : (b : Bool) → has_id id e.1 ≡ b → cond b (Some e.1) (queued_at id (values_of es)) ≡ Some q
        → (queued_at id (values_of es) ≡ Some q → free_total (with_holder id holder (values_of es)) + free_weight q.holder ≡ free_total (values_of es) + free_weight holder)
        → free_total (cond b (record e.1 { holder = holder }) e.1 ∷ with_holder id holder (values_of es)) + free_weight q.holder ≡ free_weight e.1.holder + free_total (values_of es) + free_weight holder
    by true t g rec =
        let same : free_weight e.1.holder ≡ free_weight q.holder = ap (λ r. free_weight r.holder) (the_one e.1 q g) in
        let rest : free_total (with_holder id holder (values_of es)) ≡ free_total (values_of es) =
        ap free_total (with_holder_above id holder es h.1 (above_first id e es s (sym (own_test id e h.0) ∙ t))) in
        omega (arith, same, rest)
    by false t g rec = omega (arith, rec g)

-- ---- a removal
pub total_removed : (id : ℕ) (q : Queued) (es : List (ℕ × Queued)) → AreOwn es → IsStrictlySortedBy nat_cmp (keys_of es) → queued_at id (values_of es) ≡ Some q
    → free_total (without_id_queued id (values_of es)) + free_weight q.holder ≡ free_total (values_of es)
total_removed id q [] h s e = let bad : None ≡ Some q = e in absurd (cc)
total_removed id q (e ∷ es) h s found = by (has_id id e.1) refl found (total_removed id q es h.1 (others_ascend e es s))
  where
    by : (b : Bool) → has_id id e.1 ≡ b → cond b (Some e.1) (queued_at id (values_of es)) ≡ Some q
        → (queued_at id (values_of es) ≡ Some q → free_total (without_id_queued id (values_of es)) + free_weight q.holder ≡ free_total (values_of es))
        → free_total (cond (not b) (e.1 ∷ without_id_queued id (values_of es)) (without_id_queued id (values_of es))) + free_weight q.holder ≡ free_weight e.1.holder + free_total (values_of es)
    by true t g rec =
        let same : free_weight e.1.holder ≡ free_weight q.holder = ap (λ r. free_weight r.holder) (the_one e.1 q g) in
        let rest : free_total (without_id_queued id (values_of es)) ≡ free_total (values_of es) =
        ap free_total (without_above id es h.1 (above_first id e es s (sym (own_test id e h.0) ∙ t))) in
        omega (arith, same, rest)
    by false t g rec = omega (arith, rec g)

-- ---- by what a call asks
module _ (id : ℕ) (es : List (ℕ × Queued)) (h : AreKeyed es) where
  -- a region gets the message
  pub one_less : (region : ℕ) → IsSomeAnd (queued_at id (values_of es)) (λ q. q.holder ≡ None) → free_total (with_holder id (Some region) (values_of es)) + 1 ≡ free_total (values_of es)
  one_less region free = by (queued_at id (values_of es)) refl free
    where
      by : (o : Option Queued) → queued_at id (values_of es) ≡ o → IsSomeAnd o (λ q. q.holder ≡ None) → free_total (with_holder id (Some region) (values_of es)) + 1 ≡ free_total (values_of es)
      by None e f = absurd f
      by (Some q) e f = omega (arith, ap free_weight f, total_held id (Some region) q es h.each h.ascending e)

  -- the message comes back
  pub one_more : IsSomeAnd (queued_at id (values_of es)) (λ q. IsSome q.holder) → free_total (with_holder id None (values_of es)) ≡ free_total (values_of es) + 1
  one_more held = by (queued_at id (values_of es)) refl held
    where
      none : (o : Option ℕ) → IsSome o → free_weight o ≡ 0
      none None f = let clash : false ≡ true = f in absurd (cc)
      none (Some region) f = refl

      by : (o : Option Queued) → queued_at id (values_of es) ≡ o → IsSomeAnd o (λ q. IsSome q.holder) → free_total (with_holder id None (values_of es)) ≡ free_total (values_of es) + 1
      by None e f = absurd f
      by (Some q) e f = omega (arith, none q.holder f, total_held id None q es h.each h.ascending e)
