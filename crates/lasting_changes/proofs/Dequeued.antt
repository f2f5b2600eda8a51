-- Replies that are removed, one after another.
use Rattle.std.proofs.Common.{◌≡◌, ℕ, ◌+◌, ◌-◌, ◌<◌, ◌≤◌, Bool, true, false, List, [], ◌∷◌, drop, length, refl, sym, ap, ◌∙◌, subst, arith}
use Rattle.std.specs.Prelude.{Option, Some, None, Result, Ok, Err, IfOk, IsSome, IsSomeAnd, nat_lt, ◌==◌, ◌&&◌, if◌then◌else◌, slice_get}
use Rattle.std.specs.Option.{is_some, option_and_then, option_map, option_map_or}
use Rattle.std.proofs.lemmas.Bool.{eq-eqb}
use Rattle.std.proofs.lemmas.Bool.Decides.{nat_tests}
use Rattle.tm_types.specs.declared.message.Reply.{Reply}
use Rattle.model_messages.specs.declared.replies.TerminalReplies.{TerminalReplies}
use Rattle.model_messages.specs.Outputs.{IsTerminal, first_number, are_replies_of, replies_at, reply_at, with_terminal, without_first}
use Rattle.model_machine.specs.LastingSteps.{without_replies}
use Rattle.out_queues.specs.declared.outputs.AckAhead.{AckAhead}
use Rattle.out_queues.specs.declared.outputs.Acked.{Acked}
use Rattle.out_queues.specs.declared.outputs.Acked.TheVariants.{Removed, Already}
use Rattle.out_queues.specs.Acknowledgement.{replies_ack_answer, left_by_acknowledgement}

-- ---- the first

no_first : (t : TerminalReplies) → slice_get t.replies 0 ≡ None → without_first t ≡ t
no_first t none = ap (λ rs. record t { replies = rs }) (by t.replies none) where
  by : (rs : List Reply) → slice_get rs 0 ≡ None → drop 1 rs ≡ rs
  by [] e = refl
  by (r ∷ rs) e = cc

none_kept : (name : List ℕ) (ts : List TerminalReplies) → reply_at name 0 ts ≡ None → ts ≡ with_terminal name without_first ts
none_kept name [] none = refl
none_kept name (t ∷ ts) none = by (are_replies_of name t) none (none_kept name ts) where
  by : (b : Bool) → option_and_then (λ u. slice_get u.replies 0) (if b then Some t else replies_at name ts) ≡ None → (reply_at name 0 ts ≡ None → ts ≡ with_terminal name without_first ts)
      → t ∷ ts ≡ (if b then without_first t ∷ ts else t ∷ with_terminal name without_first ts)
  by true e later = ap (λ u. u ∷ ts) (sym (no_first t e))
  by false e later = ap (λ us. t ∷ us) (later e)

no_number : (o : Option Reply) → None ≡ option_map (λ (r : Reply). r.number) o → o ≡ None
no_number None e = refl
no_number (Some r) e = cc

pub first_none : (name : List ℕ) (ts : List TerminalReplies) → None ≡ option_map (λ r. r.number) (reply_at name 0 ts) → ts ≡ with_terminal name without_first ts
first_none name ts e = none_kept name ts (no_number (reply_at name 0 ts) e)

-- a terminal with a reply of this number is there
pub first_there : (name : List ℕ) (ts : List TerminalReplies) (number : ℕ) → Some number ≡ option_map (λ r. r.number) (reply_at name 0 ts) → IsTerminal name ts
first_there name ts number e = by (replies_at name ts) e where
  by : (o : Option TerminalReplies) → Some number ≡ option_map (λ (r : Reply). r.number) (option_and_then (λ u. slice_get u.replies 0) o) → IsSome o
  by (Some t) f = refl
  by None f = cc

removed_by : (t : TerminalReplies) (number : ℕ) → Some number ≡ option_map (λ (r : Reply). r.number) (slice_get t.replies 0) → replies_ack_answer t number ≡ Ok Removed
removed_by t number e = by (slice_get t.replies 0) refl e where
  by : (o : Option Reply) → slice_get t.replies 0 ≡ o → Some number ≡ option_map (λ (r : Reply). r.number) o → replies_ack_answer t number ≡ Ok Removed
  by None is f = cc
  by (Some r) is f =
      let same : number ≡ r.number = cc in
      let first : first_number t ≡ number = ap (λ o. option_map_or (λ (x : Reply). x.number) o t.next) is ∙ sym same in
      tests (nat_lt number (first_number t)) (number == first_number t) (is_some (slice_get t.replies 0))
      (grind (arith, nat_tests, first)) (eq-eqb number (first_number t) (sym first)) (ap is_some is) where
        answer : Bool → Bool → Bool → Result Acked AckAhead
        answer low same some = if low then Ok Already else if same && some then Ok Removed else Err (record { first = first_number t })

        tests : (low same some : Bool) → low ≡ false → same ≡ true → some ≡ true → answer low same some ≡ Ok Removed
        tests true a b e1 e2 e3 = cc
        tests false true true e1 e2 e3 = refl
        tests false true false e1 e2 e3 = cc
        tests false false b e1 e2 e3 = cc

pub first_removed : (name : List ℕ) (ts new : List TerminalReplies) (number : ℕ) (result : Result Acked AckAhead) → Some number ≡ option_map (λ r. r.number) (reply_at name 0 ts)
    → IsSomeAnd (replies_at name ts) (λ t. result ≡ replies_ack_answer t number) → IfOk result (λ acked. new ≡ left_by_acknowledgement acked name ts) → new ≡ with_terminal name without_first ts
first_removed name ts new number result e answers left =
    by (replies_at name ts) e answers where
      done : result ≡ Ok Removed → new ≡ with_terminal name without_first ts
      done is = subst (λ r. IfOk r (λ acked. new ≡ left_by_acknowledgement acked name ts)) is left

      by : (o : Option TerminalReplies) → Some number ≡ option_map (λ (r : Reply). r.number) (option_and_then (λ u. slice_get u.replies 0) o) → IsSomeAnd o (λ t. result ≡ replies_ack_answer t number)
          → new ≡ with_terminal name without_first ts
      by (Some t) f a = done (a ∙ removed_by t number f)
      by None f a = absurd a

pub ruleset first_changes = (first_none, first_there, first_removed)

-- ---- all of them

abbrev pub kept_at : List ℕ → List TerminalReplies → ℕ
kept_at name ts = option_map_or (λ t. length t.replies) (replies_at name ts) 0

pub all_before : (name : List ℕ) (ts : List TerminalReplies) → with_terminal name without_replies (with_terminal name without_first ts) ≡ with_terminal name without_replies ts
all_before name [] = refl
all_before name (t ∷ ts) = by (are_replies_of name t) refl (all_before name ts) where
  by : (b : Bool) → are_replies_of name t ≡ b → with_terminal name without_replies (with_terminal name without_first ts) ≡ with_terminal name without_replies ts
      → with_terminal name without_replies (if b then without_first t ∷ ts else t ∷ with_terminal name without_first ts) ≡ (if b then without_replies t ∷ ts else t ∷ with_terminal name without_replies ts)
  by true is later = ap (λ b. if b then without_replies t ∷ ts else without_first t ∷ with_terminal name without_replies ts) is
  by false is later =
      ap (λ b. if b then without_replies t ∷ with_terminal name without_first ts else t ∷ with_terminal name without_replies (with_terminal name without_first ts)) is
      ∙ ap (λ us. t ∷ us) later

fewer : (rs : List Reply) → length (drop 1 rs) ≡ length rs - 1
fewer [] = refl
fewer (r ∷ rs) = omega arith

pub one_fewer : (name : List ℕ) (ts : List TerminalReplies) → kept_at name (with_terminal name without_first ts) ≡ kept_at name ts - 1
one_fewer name [] = refl
one_fewer name (t ∷ ts) = by (are_replies_of name t) refl (one_fewer name ts) where
  by : (b : Bool) → are_replies_of name t ≡ b → kept_at name (with_terminal name without_first ts) ≡ kept_at name ts - 1
      → kept_at name (if b then without_first t ∷ ts else t ∷ with_terminal name without_first ts) ≡ option_map_or (λ u. length u.replies) (if b then Some t else replies_at name ts) 0 - 1
  by true is later = ap (λ b. option_map_or (λ (u : TerminalReplies). length u.replies) (if b then Some (without_first t) else replies_at name ts) 0) is ∙ fewer t.replies
  by false is later = ap (λ b. option_map_or (λ (u : TerminalReplies). length u.replies) (if b then Some t else replies_at name (with_terminal name without_first ts)) 0) is ∙ later

no_replies : (t : TerminalReplies) → length t.replies ≡ 0 → without_replies t ≡ t
no_replies t none = ap (λ rs. record t { replies = rs }) (by t.replies none) where
  by : (rs : List Reply) → length rs ≡ 0 → [] ≡ rs
  by [] e = refl
  by (r ∷ rs) e = absurd (omega (arith, e))

pub none_left : (name : List ℕ) (ts : List TerminalReplies) → kept_at name ts ≡ 0 → ts ≡ with_terminal name without_replies ts
none_left name [] none = refl
none_left name (t ∷ ts) none = by (are_replies_of name t) none (none_left name ts) where
  by : (b : Bool) → option_map_or (λ u. length u.replies) (if b then Some t else replies_at name ts) 0 ≡ 0 → (kept_at name ts ≡ 0 → ts ≡ with_terminal name without_replies ts)
      → t ∷ ts ≡ (if b then without_replies t ∷ ts else t ∷ with_terminal name without_replies ts)
  by true e later = ap (λ u. u ∷ ts) (sym (no_replies t e))
  by false e later = ap (λ us. t ∷ us) (later e)

pub all_removed : (name : List ℕ) (first ts new : List TerminalReplies) (removed : ℕ) → with_terminal name without_replies ts ≡ with_terminal name without_replies first → kept_at name ts + removed ≡ kept_at name first
    → removed < kept_at name first → new ≡ with_terminal name without_first ts
    → (with_terminal name without_replies new ≡ with_terminal name without_replies first) × (kept_at name new + (removed + 1) ≡ kept_at name first)
all_removed name first ts new removed same left more is = (
  ap (with_terminal name without_replies) is ∙ all_before name ts ∙ same,
  (let count = ap (kept_at name) is ∙ one_fewer name ts in omega (arith, count, left, more)),
)

pub all_gone : (name : List ℕ) (first ts : List TerminalReplies) (removed : ℕ) → with_terminal name without_replies ts ≡ with_terminal name without_replies first → kept_at name ts + removed ≡ kept_at name first
    → kept_at name first ≤ removed → ts ≡ with_terminal name without_replies first
all_gone name first ts removed same left done = none_left name ts (omega (arith, left, done)) ∙ same
