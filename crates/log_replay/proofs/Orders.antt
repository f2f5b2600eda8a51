-- Ids and numbers while the records of a unit are done.
use Rattle.std.proofs.Common.{◌≡◌, Bool, true, false, not, ◌&&◌, ◌||◌, List, [], ◌∷◌, ◌++◌, ℕ, ◌+◌, ◌<◌, ◌≤◌, ◌^◌, refl, sym, ◌∙◌, ap, subst, arith, Some, None}
use Rattle.std.specs.Prelude.{IsSomeAnd, if◌then◌else◌, ◌==◌, nat_lt, Option, find, filter}
use Rattle.std.specs.List.{list_any}
use Rattle.std.specs.Option.{option_map_or, option_map, is_some}
use Rattle.std.proofs.lemmas.Bool.{le-ltb, ltb-true, ltb-false, eqb-true, eq-eqb, ne_eqb}
use Rattle.tm_types.specs.declared.message.Message.{Message}
use Rattle.model_messages.specs.declared.queued.Queued.{Queued}
use Rattle.model_messages.specs.declared.replies.TerminalReplies.{TerminalReplies}
use Rattle.model_messages.specs.Queue.{messages_of, IsNewId, with_message, without_id_queued}
use Rattle.model_messages.specs.Outputs.{are_replies_of, replies_at, next_of, with_terminal, with_reply}
use Rattle.model_image.specs.States.{is_small, ascend_below}
use Rattle.image_records.specs.KeptState.{KeptState}
use Rattle.image_law.proofs.Bools.{neither_first, neither_second, first_of, second_of}
use Rattle.image_law.proofs.Ordered.{ascend_more, ascend_filter}
use Rattle.log_replay.specs.ReplaySteps.{with_added, with_replied, with_gone, is_over, kept_replies, kept_switch}
use Rattle.log_replay.specs.ReplayRules.{IsOrderly, DoesStep}

-- ---- numbers that may be counted on

abbrev pub not_small : TerminalReplies → Bool
not_small t = not (is_small t.next)

pub next_not_small : (n : ℕ) → not (is_small n) ≡ true → not (is_small (n + 1)) ≡ true
next_not_small n is = ap (λ b. not b) (le-ltb (n + 1) 2000000000000000000 (omega (arith, past)))
  where
    by_test : (b : Bool) → nat_lt n 2000000000000000000 ≡ b → not b ≡ true → 2000000000000000000 ≤ n
    by_test true same on = cc
    by_test false same on = ltb-false n 2000000000000000000 same

    past : 2000000000000000000 ≤ n
    past = by_test (nat_lt n 2000000000000000000) refl is

-- a number whose next one may be counted on may be too
pub small_after : (n : ℕ) → is_small n && is_small (n + 1) ≡ is_small (n + 1)
small_after n = by_test (is_small n) refl where
  by_test : (b : Bool) → is_small n ≡ b → b && is_small (n + 1) ≡ is_small (n + 1)
  by_test true is = refl
  by_test false is = sym (le-ltb (n + 1) 2000000000000000000 (omega (arith, past)))
    where
      past : 2000000000000000000 ≤ n
      past = ltb-false n 2000000000000000000 is

-- where none passes a test, what is found doesn't
pub none_found : {X : Type 0} (p q : X → Bool) (xs : List X) (x : X) → list_any p xs ≡ false → find q xs ≡ Some x → p x ≡ false
none_found p q [] x none found = cc
none_found p q (y ∷ xs) x none found = by_first (q y) found (none_found p q xs x (neither_second (p y) (list_any p xs) none)) where
  by_first : (b : Bool) → (if b then Some y else find q xs) ≡ Some x → (find q xs ≡ Some x → p x ≡ false) → p x ≡ false
  by_first true is later = let e : y ≡ x = cc in ap p (sym e) ∙ neither_first (p y) (list_any p xs) none
  by_first false is later = later is

module _ (name : List ℕ) (change : TerminalReplies → TerminalReplies) where
  -- a test of one of the terminals, of which one changes
  pub any_changed : (p : TerminalReplies → Bool) (outputs : List TerminalReplies) (t : TerminalReplies) → replies_at name outputs ≡ Some t → list_any p outputs ≡ false → list_any p (with_terminal name change outputs) ≡ p (change t)
  any_changed p [] t found none = cc
  any_changed p (x ∷ xs) t found none = by_first (are_replies_of name x) found (any_changed p xs t) where
    or_false : (b : Bool) → b || false ≡ b
    or_false true = refl
    or_false false = refl

    by_first : (b : Bool) → (if b then Some x else replies_at name xs) ≡ Some t → (replies_at name xs ≡ Some t → list_any p xs ≡ false → list_any p (with_terminal name change xs) ≡ p (change t)) →
        list_any p (if b then change x ∷ xs else x ∷ with_terminal name change xs) ≡ p (change t)
    by_first true is later =
        let e : x ≡ t = cc in
        ap (λ b. p (change x) || b) (neither_second (p x) (list_any p xs) none) ∙ or_false (p (change x)) ∙ ap (λ (x : TerminalReplies). p (change x)) e
    by_first false is later =
        ap (λ b. b || list_any p (with_terminal name change xs)) (neither_first (p x) (list_any p xs) none)
        ∙ later is (neither_second (p x) (list_any p xs) none)

  -- what is there stays, where a change keeps the test
  pub any_stays : (p : TerminalReplies → Bool) (outputs : List TerminalReplies) → ((t : TerminalReplies) → p t ≡ true → p (change t) ≡ true) → list_any p outputs ≡ true → list_any p (with_terminal name change outputs) ≡ true
  any_stays p [] keeps one = one
  any_stays p (x ∷ xs) keeps one = by_first (are_replies_of name x) (p x) refl one (any_stays p xs keeps) where
    or_true : (b : Bool) → b || true ≡ true
    or_true true = refl
    or_true false = refl

    by_first : (b c : Bool) → p x ≡ c → c || list_any p xs ≡ true → (list_any p xs ≡ true → list_any p (with_terminal name change xs) ≡ true) →
        list_any p (if b then change x ∷ xs else x ∷ with_terminal name change xs) ≡ true
    by_first true true is one later = ap (λ b. b || list_any p xs) (keeps x is)
    by_first true false is one later = ap (λ b. p (change x) || b) one ∙ or_true (p (change x))
    by_first false true is one later = ap (λ b. b || list_any p (with_terminal name change xs)) is
    by_first false false is one later = ap (λ b. p x || b) (later one) ∙ or_true (p x)

  -- there is none of this name
  pub none_changed : (outputs : List TerminalReplies) → replies_at name outputs ≡ None → with_terminal name change outputs ≡ outputs
  none_changed [] none = refl
  none_changed (x ∷ xs) none = by_first (are_replies_of name x) none (none_changed xs) where
    by_first : (b : Bool) → (if b then Some x else replies_at name xs) ≡ None → (replies_at name xs ≡ None → with_terminal name change xs ≡ xs) → (if b then change x ∷ xs else x ∷ with_terminal name change xs) ≡ x ∷ xs
    by_first true is later = cc
    by_first false is later = ap (λ (ts : List TerminalReplies). x ∷ ts) (later is)

-- ---- ids

-- the next id is above every one that is there
pub new_id : (next : ℕ) (queued : List Queued) → ascend_below next (messages_of queued) ≡ true → IsNewId next queued
new_id next [] is = tt
new_id next (q ∷ []) is = (ltb-true q.message.id next is, tt)
new_id next (q ∷ later ∷ queued) is =
    let rest : IsNewId next (later ∷ queued) = new_id next (later ∷ queued) (second_of (nat_lt q.message.id later.message.id) (ascend_below next (messages_of (later ∷ queued))) is) in
    let first : q.message.id < later.message.id = ltb-true q.message.id later.message.id (first_of (nat_lt q.message.id later.message.id) (ascend_below next (messages_of (later ∷ queued))) is) in
    let second : later.message.id < next = rest.0 in
    (omega (arith, first, second), rest)

pub messages_more : (queued : List Queued) (message : Message) → messages_of (with_message message queued) ≡ messages_of queued ++ message ∷ []
messages_more [] message = refl
messages_more (q ∷ queued) message = ap (λ (ms : List Message). q.message ∷ ms) (messages_more queued message)

pub messages_without : (id : ℕ) (queued : List Queued) → messages_of (without_id_queued id queued) ≡ filter (λ message. not (message.id == id)) (messages_of queued)
messages_without id [] = refl
messages_without id (q ∷ queued) = by_first (q.message.id == id) (messages_without id queued) where
  by_first : (b : Bool) → messages_of (without_id_queued id queued) ≡ filter (λ message. not (message.id == id)) (messages_of queued) →
      messages_of (if not b then q ∷ without_id_queued id queued else without_id_queued id queued) ≡ (if not b then q.message ∷ filter (λ message. not (message.id == id)) (messages_of queued) else filter (λ message. not (message.id == id)) (messages_of queued))
  by_first true rest = rest
  by_first false rest = ap (λ (ms : List Message). q.message ∷ ms) rest

-- ---- what tables in order allow

module _ (kept : KeptState) (o : IsOrderly kept) where
  pub id_above : IsNewId kept.next_id kept.queues.queued
  id_above = new_id kept.next_id kept.queues.queued o.ascending

  pub id_small : kept.next_id < 2 ^ 62
  id_small = by_small (is_small kept.next_id) refl o.small where
    by_small : (b : Bool) → is_small kept.next_id ≡ b → not b || list_any not_small kept.outputs ≡ false → kept.next_id < 2 ^ 62
    by_small true is small = let less : kept.next_id < 2000000000000000000 = ltb-true kept.next_id 2000000000000000000 is in omega (arith, less)
    by_small false is small = cc

  -- the next number of a terminal that is there
  pub number_small : (name : List ℕ) → is_some (replies_at name kept.outputs) ≡ true → IsSomeAnd (replies_at name kept.outputs) (λ t. t.next < 2 ^ 62)
  number_small name there = by_found (replies_at name kept.outputs) refl there where
    by_test : (t : TerminalReplies) (b : Bool) → is_small t.next ≡ b → not b ≡ false → t.next < 2 ^ 62
    by_test t true is small = let less : t.next < 2000000000000000000 = ltb-true t.next 2000000000000000000 is in omega (arith, less)
    by_test t false is small = cc

    by_found : (found : Option TerminalReplies) → replies_at name kept.outputs ≡ found → is_some found ≡ true → IsSomeAnd found (λ t. t.next < 2 ^ 62)
    by_found (Some t) is there =
        by_test t (is_small t.next) refl (none_found not_small (are_replies_of name) kept.outputs t (neither_second (not (is_small kept.next_id)) (list_any not_small kept.outputs) o.small) is)
    by_found None is there = cc

-- ---- what a record leaves in order

pub orderly_gone : (id : ℕ) (kept : KeptState) → IsOrderly kept → IsOrderly (with_gone id kept)
orderly_gone id kept o = record {
  ascending = ap (ascend_below kept.next_id) (messages_without id kept.queues.queued) ∙ ascend_filter (λ message. not (message.id == id)) kept.next_id (messages_of kept.queues.queued) o.ascending;
  small = o.small;
}

module _ (terminal : List ℕ) (segments : List (List ℕ)) (kept : KeptState) (o : IsOrderly kept) (t : TerminalReplies) (found : replies_at terminal kept.outputs ≡ Some t) where
  none_over : list_any not_small kept.outputs ≡ false
  none_over = neither_second (not (is_small kept.next_id)) (list_any not_small kept.outputs) o.small

  replied_over : is_over (with_replied terminal segments kept) ≡ not (is_small (t.next + 1))
  replied_over =
      ap (λ b. b || list_any not_small (with_terminal terminal (with_reply segments) kept.outputs)) (neither_first (not (is_small kept.next_id)) (list_any not_small kept.outputs) o.small)
      ∙ any_changed terminal (with_reply segments) not_small kept.outputs t found none_over

  pub orderly_replied : is_small (t.next + 1) ≡ true → IsOrderly (with_replied terminal segments kept)
  orderly_replied small = record { ascending = o.ascending; small = replied_over ∙ ap (λ b. not b) small }

  -- a reply under the next number, behind which none may be counted on
  pub reply_over : (number : ℕ) (new : KeptState) → is_small (t.next + 1) ≡ false → DoesStep (kept_replies terminal number segments kept) new false
  reply_over number new over = by_number (next_of terminal kept.outputs == number) where
    by_number : (b : Bool) → option_map_or is_over (if b then Some (with_replied terminal segments kept) else None) true ≡ true
    by_number true = replied_over ∙ ap (λ b. not b) over
    by_number false = refl

module _ (number : ℕ) (message : Message) (kept : KeptState) (o : IsOrderly kept) where
  added_over : message.id ≡ kept.next_id → is_over (with_added message kept) ≡ not (is_small (message.id + 1))
  added_over same =
      ap (λ b. not (is_small (kept.next_id + 1)) || b) (neither_second (not (is_small kept.next_id)) (list_any not_small kept.outputs) o.small)
      ∙ or_false (not (is_small (kept.next_id + 1))) ∙ ap (λ (n : ℕ). not (is_small (n + 1))) (sym same) where
        or_false : (b : Bool) → b || false ≡ b
        or_false true = refl
        or_false false = refl

  pub orderly_added : message.id ≡ kept.next_id → is_small (message.id + 1) ≡ true → IsOrderly (with_added message kept)
  orderly_added same small = record {
    ascending = ap (ascend_below (kept.next_id + 1)) (messages_more kept.queues.queued message) ∙ ascend_more kept.next_id (messages_of kept.queues.queued) message o.ascending same;
    small = added_over same ∙ ap (λ b. not b) small;
  }

  pub switch_over : (new : KeptState) → is_small (message.id + 1) ≡ false → DoesStep (kept_switch number message kept) new false
  switch_over new over = by_id (kept.next_id == message.id) (number == 0) refl where
    by_id : (a b : Bool) → kept.next_id == message.id ≡ a → option_map_or is_over (if a && b then Some (with_added message kept) else None) true ≡ true
    by_id true true same = added_over (sym (eqb-true kept.next_id message.id same)) ∙ ap (λ b. not b) over
    by_id true false same = refl
    by_id false b same = refl

-- the same by the number that was looked up
module _ (terminal : List ℕ) (segments : List (List ℕ)) (kept : KeptState) (o : IsOrderly kept) (next : ℕ) (is : option_map (λ t. t.next) (replies_at terminal kept.outputs) ≡ Some next) where
  pub reply_there : is_some (replies_at terminal kept.outputs) ≡ true
  reply_there = by_found (replies_at terminal kept.outputs) is where
    by_found : (found : Option TerminalReplies) → option_map (λ t. t.next) found ≡ Some next → is_some found ≡ true
    by_found (Some t) is = refl
    by_found None is = cc

  pub reply_left : is_small (next + 1) ≡ true → IsOrderly (with_replied terminal segments kept)
  reply_left small = by_found (replies_at terminal kept.outputs) refl is where
    by_found : (found : Option TerminalReplies) → replies_at terminal kept.outputs ≡ found → option_map (λ t. t.next) found ≡ Some next → IsOrderly (with_replied terminal segments kept)
    by_found (Some t) found is = let e : t.next ≡ next = cc in orderly_replied terminal segments kept o t found (ap (λ (n : ℕ). is_small (n + 1)) e ∙ small)
    by_found None found is = cc

  pub reply_refused : (number : ℕ) (new : KeptState) → is_small (next + 1) ≡ false → DoesStep (kept_replies terminal number segments kept) new false
  reply_refused number new over = by_found (replies_at terminal kept.outputs) refl is where
    by_found : (found : Option TerminalReplies) → replies_at terminal kept.outputs ≡ found → option_map (λ t. t.next) found ≡ Some next → DoesStep (kept_replies terminal number segments kept) new false
    by_found (Some t) found is = let e : t.next ≡ next = cc in reply_over terminal segments kept o t found number new (ap (λ (n : ℕ). is_small (n + 1)) e ∙ over)
    by_found None found is = cc

  pub reply_done : (number : ℕ) → next ≡ number → kept_replies terminal number segments kept ≡ Some (with_replied terminal segments kept)
  reply_done number same = ap (λ b. if b then Some (with_replied terminal segments kept) else None) (next_is ∙ eq-eqb next number same) where
    next_is : next_of terminal kept.outputs == number ≡ next == number
    next_is = by_found (replies_at terminal kept.outputs) is where
      by_found : (found : Option TerminalReplies) → option_map (λ t. t.next) found ≡ Some next → option_map_or (λ t. t.next) found 1 == number ≡ next == number
      by_found (Some t) is = let e : t.next ≡ next = cc in ap (λ n. n == number) e
      by_found None is = cc

  pub reply_not_next : (number : ℕ) (new : KeptState) → (next ≡ number → ⊥) → DoesStep (kept_replies terminal number segments kept) new false
  reply_not_next number new other = ap (λ b. option_map_or is_over (if b then Some (with_replied terminal segments kept) else None) true) (next_is ∙ ne_eqb next number other) where
    next_is : next_of terminal kept.outputs == number ≡ next == number
    next_is = by_found (replies_at terminal kept.outputs) is where
      by_found : (found : Option TerminalReplies) → option_map (λ t. t.next) found ≡ Some next → option_map_or (λ t. t.next) found 1 == number ≡ next == number
      by_found (Some t) is = let e : t.next ≡ next = cc in ap (λ n. n == number) e
      by_found None is = cc

-- a reply to a terminal that isn't there changes nothing
pub reply_to_none : (terminal : List ℕ) (number : ℕ) (segments : List (List ℕ)) (kept : KeptState) → option_map (λ t. t.next) (replies_at terminal kept.outputs) ≡ None → DoesStep (kept_replies terminal number segments kept) kept (number == 1)
reply_to_none terminal number segments kept none = by_found (replies_at terminal kept.outputs) refl none where
  by_number : (b c : Bool) → 1 == number ≡ b → number == 1 ≡ c → with_terminal terminal (with_reply segments) kept.outputs ≡ kept.outputs → DoesStep (if b then Some (with_replied terminal segments kept) else None) kept c
  by_number true true isb isc same = ap (λ (ts : List TerminalReplies). Some (record kept { outputs = ts })) same
  by_number false false isb isc same = refl
  by_number true false isb isc same = absurd (subst (λ (b : Bool). b ≡ false → ⊥) (sym (eq-eqb number 1 (sym (eqb-true 1 number isb)))) (λ f. cc) isc)
  by_number false true isb isc same = absurd (subst (λ (b : Bool). b ≡ false → ⊥) (sym (eq-eqb 1 number (sym (eqb-true number 1 isc)))) (λ f. cc) isb)

  by_found : (found : Option TerminalReplies) → replies_at terminal kept.outputs ≡ found → option_map (λ t. t.next) found ≡ None → DoesStep (kept_replies terminal number segments kept) kept (number == 1)
  by_found (Some t) found none = cc
  by_found None found none =
      subst (λ (n : ℕ). DoesStep (if n == number then Some (with_replied terminal segments kept) else None) kept (number == 1)) (sym (ap (λ (f : Option TerminalReplies). option_map_or (λ t. t.next) f 1) found))
      (by_number (1 == number) (number == 1) refl refl (none_changed terminal (with_reply segments) kept.outputs found))
