-- The counts and the faults of messages, where one comes or goes.
use Rattle.std.proofs.Common.{◌≡◌, Bool, true, false, not, ◌&&◌, ◌||◌, List, [], ◌∷◌, ◌++◌, ℕ, ◌+◌, ◌-◌, ◌<◌, ◌≤◌, refl, sym, ◌∙◌, ap, subst, arith, Some}
use Rattle.std.specs.Prelude.{if◌then◌else◌, ◌==◌, filter, nat_lt}
use Rattle.std.specs.List.{list_all, list_any}
use Rattle.std.specs.BTreeMap.{is_at}
use Rattle.std.specs.Cmp.Lexicographic.{slice_cmp}
use Rattle.std.specs.Map.{lookup}
use Rattle.std.specs.Option.{unwrap_or}
use Rattle.std.specs.Ordering.{nat_cmp}
use Rattle.std.specs.Str.{bytes_eq}
use Rattle.std.proofs.lemmas.Map.Text.{is_eq-slice_cmp}
use Rattle.std.proofs.lemmas.Bool.{eqb-true, ne_eqb, ltb-true}
use Rattle.std.proofs.lemmas.List.{append-nil}
use Rattle.tm_types.specs.declared.message.Message.{Message}
use Rattle.model_messages.specs.declared.conversation.TerminalConversation.{TerminalConversation}
use Rattle.model_messages.specs.ConversationInput.{is_conversing}
use Rattle.model_system.specs.System.{System}
use Rattle.model_machine.specs.Machine.{message_at}
use Rattle.model_image.specs.States.{ascend_below, are_alone}
use Rattle.image_law.proofs.Bools.{first_of, second_of, same_bytes, bytes_same}
use Rattle.log_replay.specs.ReplayRules.{knows}
use Rattle.log_replay.specs.ConversationTally.{one_message_if, talks_of, faults_of, count_at, SetsCount, Counts, TallyState, TallyTells, AddsMessage, Removes}

-- ---- a list without one of its messages

pub record IsWithout (id : ℕ) (messages : List Message) (message : Message) : Type 0 where
  pub before : List Message
  pub after : List Message
  pub whole : messages ≡ before ++ message ∷ after
  pub rest : filter (λ message. not (message.id == id)) messages ≡ before ++ after

all_kept : (id next : ℕ) (x : Message) (messages : List Message) → id ≤ x.id → ascend_below next (x ∷ messages) ≡ true → filter (λ message. not (message.id == id)) messages ≡ messages
all_kept id next x [] low is = refl
all_kept id next x (y ∷ messages) low is =
    let less : x.id < y.id = ltb-true x.id y.id (first_of (nat_lt x.id y.id) (ascend_below next (y ∷ messages)) is) in
    let other : y.id == id ≡ false = ne_eqb y.id id (λ e. absurd (omega (arith, low, less, e))) in
    ap (λ b. if not b then y ∷ filter (λ message. not (message.id == id)) messages else filter (λ message. not (message.id == id)) messages) other
    ∙ ap (λ (ms : List Message). y ∷ ms) (all_kept id next y messages (omega (arith, low, less)) (second_of (nat_lt x.id y.id) (ascend_below next (y ∷ messages)) is))

tail_ascends : (next : ℕ) (x : Message) (messages : List Message) → ascend_below next (x ∷ messages) ≡ true → ascend_below next messages ≡ true
tail_ascends next x [] is = refl
tail_ascends next x (y ∷ messages) is = second_of (nat_lt x.id y.id) (ascend_below next (y ∷ messages)) is

pub taken_out : (id next : ℕ) (messages : List Message) (message : Message) → ascend_below next messages ≡ true → message_at messages id ≡ Some message → IsWithout id messages message
taken_out id next [] message is found = cc
taken_out id next (x ∷ messages) message is found =
    by_first (x.id == id) refl found (taken_out id next messages message (tail_ascends next x messages is)) where
      by_first : (b : Bool) → x.id == id ≡ b → (if b then Some x else message_at messages id) ≡ Some message → (message_at messages id ≡ Some message → IsWithout id messages message) → IsWithout id (x ∷ messages) message
      by_first true same found later =
          let e : x ≡ message = cc in
          let low : id ≤ x.id = omega (arith, eqb-true x.id id same) in
          record {
            before = [];
            after = messages;
            whole = ap (λ (m : Message). m ∷ messages) e;
            rest =
                ap (λ b. if not b then x ∷ filter (λ message. not (message.id == id)) messages else filter (λ message. not (message.id == id)) messages) same
                ∙ all_kept id next x messages low is;
          }
      by_first false same found later =
          let rec = later found in
          record {
            before = x ∷ rec.before;
            after = rec.after;
            whole = ap (λ (ms : List Message). x ∷ ms) rec.whole;
            rest =
                ap (λ b. if not b then x ∷ filter (λ message. not (message.id == id)) messages else filter (λ message. not (message.id == id)) messages) same
                ∙ ap (λ (ms : List Message). x ∷ ms) rec.rest;
          }

-- ---- counts

talks_within : (name : List ℕ) (before after : List Message) (message : Message) → talks_of name (before ++ message ∷ after) ≡ one_message_if (is_conversing name message) + talks_of name (before ++ after)
talks_within name [] after message = refl
talks_within name (x ∷ before) after message =
    moved (one_message_if (is_conversing name x)) (one_message_if (is_conversing name message)) (talks_of name (before ++ message ∷ after)) (talks_of name (before ++ after)) (talks_within name before after message) where
      moved : (x m t u : ℕ) → t ≡ m + u → x + t ≡ m + (x + u)
      moved x m t u e = omega (arith, e)

pub talks_behind : (name : List ℕ) (messages : List Message) (message : Message) → talks_of name (messages ++ message ∷ []) ≡ talks_of name messages + one_message_if (is_conversing name message)
talks_behind name messages message =
    talks_within name messages [] message ∙ ap (λ (ms : List Message). one_message_if (is_conversing name message) + talks_of name ms) (append-nil messages)
    ∙ turned (one_message_if (is_conversing name message)) (talks_of name messages) where
      turned : (n m : ℕ) → n + m ≡ m + n
      turned n m = omega arith

not_none : (n : ℕ) → 1 + n == 0 ≡ false
not_none n = ne_eqb (1 + n) 0 (λ e. absurd (omega (arith, e)))

-- there is one exactly where the count isn't 0
pub any_is : (name : List ℕ) (messages : List Message) → list_any (is_conversing name) messages ≡ not (talks_of name messages == 0)
any_is name [] = refl
any_is name (m ∷ messages) = by_one (is_conversing name m) (any_is name messages) where
  same : (n : ℕ) → n ≡ 0 + n
  same n = omega arith

  by_one : (b : Bool) → list_any (is_conversing name) messages ≡ not (talks_of name messages == 0) → b || list_any (is_conversing name) messages ≡ not (one_message_if b + talks_of name messages == 0)
  by_one true rest = sym (ap (λ b. not b) (not_none (talks_of name messages)))
  by_one false rest = rest ∙ ap (λ n. not (n == 0)) (same (talks_of name messages))

-- ---- faults

module _ (system : System) (conversations : List TerminalConversation) where
  abbrev its_faults : Message → List Message → ℕ
  its_faults message others = one_message_if (not (knows system conversations message)) + one_message_if (message.conversation && not (talks_of message.origin others == 0))

  -- of two messages it doesn't matter which one is looked at first
  either_first : (p q s t : Bool) (a b : ℕ) → s ≡ t → (s ≡ true → a ≡ b) →
      one_message_if (p && not (one_message_if (s && q) + a == 0)) + one_message_if (q && not (b == 0)) ≡ one_message_if (p && not (a == 0)) + one_message_if (q && not (one_message_if (t && p) + b == 0))
  either_first true true true true a b same one =
      let e : a ≡ b = one refl in
      ap (λ c. one_message_if (not c) + one_message_if (not (b == 0))) (not_none a)
      ∙ turned (one_message_if (not (b == 0))) ∙ ap (λ n. one_message_if (not (n == 0)) + 1) (sym e)
      ∙ ap (λ c. one_message_if (not (a == 0)) + one_message_if (not c)) (sym (not_none b)) where
        turned : (n : ℕ) → 1 + n ≡ n + 1
        turned n = omega arith
  either_first true false true true a b same one = ap (λ n. one_message_if (not (n == 0)) + 0) (zero_before a) where
    zero_before : (n : ℕ) → 0 + n ≡ n
    zero_before n = omega arith
  either_first false true true true a b same one = ap (λ n. 0 + one_message_if (not (n == 0))) (zero_before b) where
    zero_before : (n : ℕ) → n ≡ 0 + n
    zero_before n = omega arith
  either_first false false true true a b same one = refl
  either_first p q false false a b same one =
      ap (λ n. one_message_if (p && not (n == 0)) + one_message_if (q && not (b == 0))) (zero_before a)
      ∙ ap (λ n. one_message_if (p && not (a == 0)) + one_message_if (q && not (n == 0))) (sym (zero_before b)) where
        zero_before : (n : ℕ) → 0 + n ≡ n
        zero_before n = omega arith
  either_first p q true false a b same one = cc
  either_first p q false true a b same one = cc

  either_name : (x message : Message) → bytes_eq message.origin x.origin ≡ bytes_eq x.origin message.origin
  either_name x message = by_first (bytes_eq message.origin x.origin) (bytes_eq x.origin message.origin) refl refl where
    by_first : (a b : Bool) → bytes_eq message.origin x.origin ≡ a → bytes_eq x.origin message.origin ≡ b → a ≡ b
    by_first true true isa isb = refl
    by_first false false isa isb = refl
    by_first true false isa isb = sym (bytes_same x.origin) ∙ ap (λ (n : List ℕ). bytes_eq x.origin n) (sym (same_bytes message.origin x.origin isa)) ∙ isb
    by_first false true isa isb = sym isa ∙ ap (λ (n : List ℕ). bytes_eq message.origin n) (same_bytes x.origin message.origin isb) ∙ bytes_same message.origin

  faults_within : (before after : List Message) (message : Message) → faults_of system conversations (before ++ message ∷ after) ≡ faults_of system conversations (before ++ after) + its_faults message (before ++ after)
  faults_within [] after message = turned (its_faults message after) (faults_of system conversations after) where
    turned : (n f : ℕ) → n + f ≡ f + n
    turned n f = omega arith
  faults_within (x ∷ before) after message =
      let rest = before ++ after in
      let first : ℕ → ℕ = λ n. one_message_if (x.conversation && not (n == 0)) in
      moved (one_message_if (not (knows system conversations x))) (first (talks_of x.origin (before ++ message ∷ after))) (first (one_message_if (is_conversing x.origin message) + talks_of x.origin rest))
      (faults_of system conversations (before ++ message ∷ after)) (faults_of system conversations rest) (one_message_if (not (knows system conversations message)))
      (one_message_if (message.conversation && not (talks_of message.origin rest == 0))) (one_message_if (message.conversation && not (one_message_if (is_conversing message.origin x) + talks_of message.origin rest == 0)))
      (first (talks_of x.origin rest))
      (ap first (talks_within x.origin before after message)) (faults_within before after message)
      (either_first x.conversation message.conversation (bytes_eq message.origin x.origin) (bytes_eq x.origin message.origin) (talks_of x.origin rest) (talks_of message.origin rest)
      (either_name x message) (λ is. ap (λ (n : List ℕ). talks_of n rest) (sym (same_bytes message.origin x.origin is)))) where
        moved : (k a c f g n b d e : ℕ) → a ≡ c → f ≡ g + (n + b) → c + b ≡ e + d → (k + a) + f ≡ ((k + e) + g) + (n + d)
        moved k a c f g n b d e one two three = omega (arith, one, two, three)

  -- no fault is there exactly where the messages are known and alone
  pub right_is : (messages : List Message) → (list_all (knows system conversations) messages && are_alone messages) ≡ (faults_of system conversations messages == 0)
  right_is [] = refl
  right_is (m ∷ messages) =
      ap (λ b. (knows system conversations m && list_all (knows system conversations) messages) && (not (m.conversation && b) && are_alone messages)) (any_is m.origin messages)
      ∙ by_tests (knows system conversations m) (m.conversation && not (talks_of m.origin messages == 0)) (list_all (knows system conversations) messages) (are_alone messages) (faults_of system conversations messages) (right_is messages) where
        none_both : (b : Bool) → b && false ≡ false
        none_both true = refl
        none_both false = refl

        zeros_before : (n : ℕ) → n ≡ 0 + 0 + n
        zeros_before n = omega arith

        by_tests : (k z all alone : Bool) (n : ℕ) → (all && alone) ≡ (n == 0) → ((k && all) && (not z && alone)) ≡ (one_message_if (not k) + one_message_if z + n == 0)
        by_tests false z all alone n same = sym (ne_eqb (1 + one_message_if z + n) 0 (λ e. absurd (omega (arith, e))))
        by_tests true true all alone n same = none_both all ∙ sym (ne_eqb (0 + 1 + n) 0 (λ e. absurd (omega (arith, e))))
        by_tests true false all alone n same = same ∙ ap (λ n. n == 0) (zeros_before n)

  -- ---- what is counted

  pub comes : (messages : List Message) (message : Message) (old new : TallyState) → TallyTells system conversations messages old → AddsMessage message.origin message.conversation (knows system conversations message) old new →
      TallyTells system conversations (messages ++ message ∷ []) new
  comes messages message old new tells adds = record {
    counts = λ name.
        adds.counts name ∙ ap (λ n. n + one_message_if (is_conversing name message)) (tells.counts name) ∙ sym (talks_behind name messages message);
    faults =
        adds.faults
        ∙ ap (λ n. n + (one_message_if (not (knows system conversations message)) + one_message_if (message.conversation && not (count_at message.origin old.counts == 0)))) tells.faults
        ∙ ap (λ n. faults_of system conversations messages + (one_message_if (not (knows system conversations message)) + one_message_if (message.conversation && not (n == 0)))) (tells.counts message.origin)
        ∙ sym (faults_within messages [] message ∙ ap (λ (ms : List Message). faults_of system conversations ms + its_faults message ms) (append-nil messages));
  }

  pub goes : (id : ℕ) (messages : List Message) (message : Message) (old new : TallyState) → IsWithout id messages message → TallyTells system conversations messages old → Removes message.origin message.conversation (knows system conversations message) old new →
      TallyTells system conversations (filter (λ message. not (message.id == id)) messages) new
  goes id messages message old new out tells removes = subst (λ (ms : List Message). TallyTells system conversations ms new) (sym out.rest) (record { counts = counts; faults = faults }) where
    rest : List Message
    rest = out.before ++ out.after

    less : (n m t : ℕ) → n ≡ m + t → n - m ≡ t
    less n m t e = omega (arith, e)

    less_behind : (n m t : ℕ) → n ≡ t + m → n - m ≡ t
    less_behind n m t e = omega (arith, e)

    counts : Counts rest new.counts
    counts name =
        removes.counts name ∙ ap (λ n. n - one_message_if (is_conversing name message)) (tells.counts name)
        ∙ less (talks_of name messages) (one_message_if (is_conversing name message)) (talks_of name rest)
        (ap (λ (ms : List Message). talks_of name ms) out.whole ∙ talks_within name out.before out.after message)

    faults : new.faults ≡ faults_of system conversations rest
    faults =
        removes.faults
        ∙ ap (λ n. n - (one_message_if (not (knows system conversations message)) + one_message_if (message.conversation && not (count_at message.origin new.counts == 0)))) tells.faults
        ∙ ap (λ n. faults_of system conversations messages - (one_message_if (not (knows system conversations message)) + one_message_if (message.conversation && not (n == 0)))) (counts message.origin)
        ∙ less_behind (faults_of system conversations messages) (its_faults message rest) (faults_of system conversations rest)
        (ap (λ (ms : List Message). faults_of system conversations ms) out.whole ∙ faults_within out.before out.after message)

-- what was written under a name
pub is_set : (name : List ℕ) (n : ℕ) (old new : List (List ℕ × ℕ)) →
    ((q : List ℕ) → lookup (is_at (slice_cmp nat_cmp q)) new ≡ (if is_at (slice_cmp nat_cmp name) q then Some n else lookup (is_at (slice_cmp nat_cmp q)) old)) → SetsCount name n old new
is_set name n old new all other =
    ap (λ o. unwrap_or o 0) (all other ∙ ap (λ b. if b then Some n else lookup (is_at (slice_cmp nat_cmp other)) old) (is_eq-slice_cmp name other))
    ∙ by_name (bytes_eq name other) where
      by_name : (b : Bool) → unwrap_or (if b then Some n else lookup (is_at (slice_cmp nat_cmp other)) old) 0 ≡ (if b then n else count_at other old)
      by_name true = refl
      by_name false = refl
