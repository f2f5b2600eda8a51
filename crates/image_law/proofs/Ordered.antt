-- The order of ids and of numbers, and that messages are alone, where one more comes or some go.
use Rattle.std.proofs.Common.{◌≡◌, Bool, true, false, not, ◌&&◌, ◌||◌, List, [], ◌∷◌, ◌++◌, ℕ, ◌+◌, ◌<◌, refl, sym, ◌∙◌, ap, subst, arith, length, drop, Some}
use Rattle.std.specs.Prelude.{if◌then◌else◌, ◌==◌, nat_lt, filter, Option}
use Rattle.std.specs.List.{list_all, list_any}
use Rattle.std.specs.Option.{is_some}
use Rattle.std.specs.Str.{bytes_eq}
use Rattle.std.proofs.lemmas.Bool.{eq-eqb, eqb-true, lt-ltb, ltb-true}
use Rattle.std.proofs.lemmas.List.{length-append}
use Rattle.std.proofs.lemmas.List.Folds.{list_any-append}
use Rattle.tm_types.specs.declared.message.Message.{Message}
use Rattle.tm_types.specs.declared.message.Reply.{Reply}
use Rattle.model_messages.specs.ConversationInput.{is_conversing}
use Rattle.model_messages.specs.declared.replies.TerminalReplies.{TerminalReplies}
use Rattle.model_messages.specs.Outputs.{are_replies_of, replies_at, with_terminal}
use Rattle.model_machine.specs.Machine.{message_at}
use Rattle.model_image.specs.States.{ascend_below, are_alone, run_up_to}
use Rattle.image_law.proofs.Bools.{first_of, second_of, neither_first, neither_second, not_true, not_of_false, other_false, same_bytes, bytes_same}
use Rattle.image_law.proofs.Lists.{none_filter}
use Rattle.tm_types.proofs.Truths.{both}

-- ---- ids

pub ascend_more : (next : ℕ) (messages : List Message) (message : Message) → ascend_below next messages ≡ true → message.id ≡ next → ascend_below (next + 1) (messages ++ message ∷ []) ≡ true
ascend_more next [] message is same = lt-ltb message.id (next + 1) (omega (arith, same))
ascend_more next (m ∷ []) message is same =
    both (nat_lt m.id message.id) (nat_lt message.id (next + 1))
    (lt-ltb m.id message.id (omega (arith, same, ltb-true m.id next is))) (lt-ltb message.id (next + 1) (omega (arith, same)))
ascend_more next (m ∷ later ∷ messages) message is same =
    both (nat_lt m.id later.id) (ascend_below (next + 1) (later ∷ messages ++ message ∷ []))
    (first_of (nat_lt m.id later.id) (ascend_below next (later ∷ messages)) is)
    (ascend_more next (later ∷ messages) message (second_of (nat_lt m.id later.id) (ascend_below next (later ∷ messages)) is) same)

ascend_tail : (next : ℕ) (m : Message) (messages : List Message) → ascend_below next (m ∷ messages) ≡ true → ascend_below next messages ≡ true
ascend_tail next m [] is = refl
ascend_tail next m (later ∷ messages) is = second_of (nat_lt m.id later.id) (ascend_below next (later ∷ messages)) is

ascend_skip : (next : ℕ) (m later : Message) (messages : List Message) → ascend_below next (m ∷ later ∷ messages) ≡ true → ascend_below next (m ∷ messages) ≡ true
ascend_skip next m later [] is =
    lt-ltb m.id next (omega (arith, ltb-true m.id later.id (first_of (nat_lt m.id later.id) (nat_lt later.id next) is), ltb-true later.id next (second_of (nat_lt m.id later.id) (nat_lt later.id next) is)))
ascend_skip next m later (x ∷ messages) is =
    let rest = second_of (nat_lt m.id later.id) (ascend_below next (later ∷ x ∷ messages)) is in
    both (nat_lt m.id x.id) (ascend_below next (x ∷ messages))
    (lt-ltb m.id x.id (omega (arith, ltb-true m.id later.id (first_of (nat_lt m.id later.id) (ascend_below next (later ∷ x ∷ messages)) is), ltb-true later.id x.id (first_of (nat_lt later.id x.id) (ascend_below next (x ∷ messages)) rest))))
    (second_of (nat_lt later.id x.id) (ascend_below next (x ∷ messages)) rest)

ascend_head : (keeps : Message → Bool) (next : ℕ) (m : Message) (messages : List Message) → ascend_below next (m ∷ messages) ≡ true → ascend_below next (m ∷ filter keeps messages) ≡ true
ascend_head keeps next m [] is = is
ascend_head keeps next m (x ∷ messages) is =
    by_keeps (keeps x)
    (ascend_head keeps next x messages (second_of (nat_lt m.id x.id) (ascend_below next (x ∷ messages)) is))
    (ascend_head keeps next m messages (ascend_skip next m x messages is)) where
      by_keeps : (b : Bool) → ascend_below next (x ∷ filter keeps messages) ≡ true → ascend_below next (m ∷ filter keeps messages) ≡ true → ascend_below next (m ∷ (if b then x ∷ filter keeps messages else filter keeps messages)) ≡ true
      by_keeps true kept gone = both (nat_lt m.id x.id) (ascend_below next (x ∷ filter keeps messages)) (first_of (nat_lt m.id x.id) (ascend_below next (x ∷ messages)) is) kept
      by_keeps false kept gone = gone

pub ascend_filter : (keeps : Message → Bool) (next : ℕ) (messages : List Message) → ascend_below next messages ≡ true → ascend_below next (filter keeps messages) ≡ true
ascend_filter keeps next [] is = refl
ascend_filter keeps next (m ∷ messages) is =
    by_keeps (keeps m) (ascend_head keeps next m messages is) (ascend_filter keeps next messages (ascend_tail next m messages is)) where
      by_keeps : (b : Bool) → ascend_below next (m ∷ filter keeps messages) ≡ true → ascend_below next (filter keeps messages) ≡ true → ascend_below next (if b then m ∷ filter keeps messages else filter keeps messages) ≡ true
      by_keeps true kept gone = kept
      by_keeps false kept gone = gone

-- ---- messages of conversations

tail_free : (a b c : Bool) → a && (b || c) ≡ false → a && c ≡ false
tail_free true b c is = neither_second b c is
tail_free false b c is = refl

head_free : (a b c : Bool) → a ≡ true → a && (b || c) ≡ false → b ≡ false
head_free true b c on is = neither_first b c is
head_free false b c on is = cc

pub alone_more : (messages : List Message) (message : Message) → message.conversation && list_any (is_conversing message.origin) messages ≡ false → are_alone messages ≡ true → are_alone (messages ++ message ∷ []) ≡ true
alone_more [] message free alone = by_flag message.conversation where
  by_flag : (b : Bool) → not (b && false) && true ≡ true
  by_flag true = refl
  by_flag false = refl
alone_more (m ∷ messages) message free alone =
    both (not (m.conversation && list_any (is_conversing m.origin) (messages ++ message ∷ []))) (are_alone (messages ++ message ∷ []))
    (not_of_false (m.conversation && list_any (is_conversing m.origin) (messages ++ message ∷ [])) (head m.conversation refl))
    (alone_more messages message (tail_free message.conversation (is_conversing message.origin m) (list_any (is_conversing message.origin) messages) free)
    (second_of (not (m.conversation && list_any (is_conversing m.origin) messages)) (are_alone messages) alone)) where
      others : m.conversation && list_any (is_conversing m.origin) messages ≡ false
      others = not_true (m.conversation && list_any (is_conversing m.origin) messages) (first_of (not (m.conversation && list_any (is_conversing m.origin) messages)) (are_alone messages) alone)

      apart : (b : Bool) → m.conversation ≡ true → is_conversing m.origin message ≡ b → is_conversing m.origin message ≡ false
      apart false flag is = is
      apart true flag is =
          let from : message.origin ≡ m.origin = same_bytes message.origin m.origin (first_of (bytes_eq message.origin m.origin) message.conversation is) in
          let not_m : is_conversing message.origin m ≡ false =
          head_free message.conversation (is_conversing message.origin m) (list_any (is_conversing message.origin) messages) (second_of (bytes_eq message.origin m.origin) message.conversation is) free in
          let is_m : is_conversing message.origin m ≡ true =
          both (bytes_eq m.origin message.origin) m.conversation (ap (λ (n : List ℕ). bytes_eq m.origin n) from ∙ bytes_same m.origin) flag in
          absurd (subst (λ (b : Bool). b ≡ true → ⊥) (sym not_m) (λ e. cc) is_m)

      head : (b : Bool) → m.conversation ≡ b → m.conversation && list_any (is_conversing m.origin) (messages ++ message ∷ []) ≡ false
      head false is = rw is refl
      head true is =
          rw (list_any-append (is_conversing m.origin) messages (message ∷ []))
          (rw (other_false m.conversation (list_any (is_conversing m.origin) messages) is others)
          (rw (apart (is_conversing m.origin message) is refl) (rw is refl)))

pub alone_filter : (keeps : Message → Bool) (messages : List Message) → are_alone messages ≡ true → are_alone (filter keeps messages) ≡ true
alone_filter keeps [] alone = refl
alone_filter keeps (m ∷ messages) alone =
    by_keeps (keeps m) (alone_filter keeps messages (second_of (not (m.conversation && list_any (is_conversing m.origin) messages)) (are_alone messages) alone)) where
      others : m.conversation && list_any (is_conversing m.origin) messages ≡ false
      others = not_true (m.conversation && list_any (is_conversing m.origin) messages) (first_of (not (m.conversation && list_any (is_conversing m.origin) messages)) (are_alone messages) alone)

      fewer : (b : Bool) → b && list_any (is_conversing m.origin) messages ≡ false → b && list_any (is_conversing m.origin) (filter keeps messages) ≡ false
      fewer true none = none_filter (is_conversing m.origin) keeps messages none
      fewer false none = refl

      by_keeps : (b : Bool) → are_alone (filter keeps messages) ≡ true → are_alone (if b then m ∷ filter keeps messages else filter keeps messages) ≡ true
      by_keeps true rest =
          both (not (m.conversation && list_any (is_conversing m.origin) (filter keeps messages))) (are_alone (filter keeps messages))
          (not_of_false (m.conversation && list_any (is_conversing m.origin) (filter keeps messages)) (fewer m.conversation others)) rest
      by_keeps false rest = rest

-- ---- replies

pub run_more : (next : ℕ) (replies : List Reply) (reply : Reply) → reply.number ≡ next → not (next == 0) ≡ true → run_up_to next replies ≡ true → run_up_to (next + 1) (replies ++ reply ∷ []) ≡ true
run_more next [] reply same positive run =
    both (not (reply.number == 0) && (reply.number + 1 == next + 1)) true
    (both (not (reply.number == 0)) (reply.number + 1 == next + 1) (ap (λ n. not (n == 0)) same ∙ positive) (eq-eqb (reply.number + 1) (next + 1) (ap (λ n. n + 1) same))) refl
run_more next (r ∷ replies) reply same positive run =
    let here = not (r.number == 0) in
    let counts = r.number + length (r ∷ replies) == next in
    let front = first_of (here && counts) (run_up_to next replies) run in
    both (here && (r.number + length (r ∷ replies ++ reply ∷ []) == next + 1)) (run_up_to (next + 1) (replies ++ reply ∷ []))
    (both here (r.number + length (r ∷ replies ++ reply ∷ []) == next + 1) (first_of here counts front)
    (eq-eqb (r.number + length (r ∷ replies ++ reply ∷ [])) (next + 1)
    (omega (arith, length-append (r ∷ replies) (reply ∷ []), eqb-true (r.number + length (r ∷ replies)) next (second_of here counts front)))))
    (run_more next replies reply same positive (second_of (here && counts) (run_up_to next replies) run))

pub run_drop : (next : ℕ) (replies : List Reply) → run_up_to next replies ≡ true → run_up_to next (drop 1 replies) ≡ true
run_drop next [] run = refl
run_drop next (r ∷ replies) run = second_of (not (r.number == 0) && (r.number + length (r ∷ replies) == next)) (run_up_to next replies) run

-- ---- the terminals' replies

pub all_at : (p : TerminalReplies → Bool) (name : List ℕ) (change : TerminalReplies → TerminalReplies) (outputs : List TerminalReplies) → list_all p outputs ≡ true → ((t : TerminalReplies) → p t ≡ true → p (change t) ≡ true) → list_all p (with_terminal name change outputs) ≡ true
all_at p name change [] all changed = refl
all_at p name change (t ∷ ts) all changed = by_head (are_replies_of name t) (all_at p name change ts (second_of (p t) (list_all p ts) all) changed) where
  by_head : (b : Bool) → list_all p (with_terminal name change ts) ≡ true → list_all p (if b then change t ∷ ts else t ∷ with_terminal name change ts) ≡ true
  by_head true rest = both (p (change t)) (list_all p ts) (changed t (first_of (p t) (list_all p ts) all)) (second_of (p t) (list_all p ts) all)
  by_head false rest = both (p t) (list_all p (with_terminal name change ts)) (first_of (p t) (list_all p ts) all) rest

-- the same terminals are there
pub stays_there : (name other : List ℕ) (change : TerminalReplies → TerminalReplies) → ((t : TerminalReplies) → (change t).terminal ≡ t.terminal) → (outputs : List TerminalReplies) → is_some (replies_at name (with_terminal other change outputs)) ≡ is_some (replies_at name outputs)
stays_there name other change same [] = refl
stays_there name other change same (t ∷ ts) = by_head (are_replies_of other t) (stays_there name other change same ts) where
  by_name : (b : Bool) (x y : TerminalReplies) (rest more : Option TerminalReplies) → is_some rest ≡ is_some more → is_some (if b then Some x else rest) ≡ is_some (if b then Some y else more)
  by_name true x y rest more is = refl
  by_name false x y rest more is = is

  by_head : (b : Bool) → is_some (replies_at name (with_terminal other change ts)) ≡ is_some (replies_at name ts) → is_some (replies_at name (if b then change t ∷ ts else t ∷ with_terminal other change ts)) ≡ is_some (replies_at name (t ∷ ts))
  by_head true rest =
      ap (λ (n : List ℕ). is_some (if bytes_eq n name then Some (change t) else replies_at name ts)) (same t)
      ∙ by_name (are_replies_of name t) (change t) t (replies_at name ts) (replies_at name ts) refl
  by_head false rest = by_name (are_replies_of name t) t t (replies_at name (with_terminal other change ts)) (replies_at name ts) rest

-- ---- a message that is there has an id below the next one

head_below : (next : ℕ) (m : Message) (messages : List Message) → ascend_below next (m ∷ messages) ≡ true → m.id < next
head_below next m [] is = ltb-true m.id next is
head_below next m (later ∷ messages) is = head_below next m messages (ascend_skip next m later messages is)

pub below_next : (next id : ℕ) (messages : List Message) (message : Message) → ascend_below next messages ≡ true → message_at messages id ≡ Some message → id < next
below_next next id [] message is found = cc
below_next next id (m ∷ messages) message is found =
    by_first (m.id == id) refl found (below_next next id messages message (ascend_tail next m messages is)) where
      by_first : (b : Bool) → m.id == id ≡ b → (if b then Some m else message_at messages id) ≡ Some message → (message_at messages id ≡ Some message → id < next) → id < next
      by_first true same found later = omega (arith, eqb-true m.id id same, head_below next m messages is)
      by_first false same found later = later found
