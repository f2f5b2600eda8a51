-- What a change of one terminal leaves of the count and of the numbers.
use Rattle.std.proofs.Common.{◌≡◌, ℕ, ◌+◌, ◌-◌, ◌<◌, ◌≤◌, ◌^◌, ◌++◌, ◌∷◌, [], List, refl, sym, ◌∙◌, ap, subst, arith, Bool, true, false, cond, Option, Some, None, drop, take, length, length-append, zero, suc, get_or}
use Rattle.std.specs.Prelude.{map}
use Rattle.std.specs.List.{AllByRecursion}
use Rattle.std.specs.Option.{IsSome, IsSomeAnd, option_map_or}
use Rattle.std.proofs.lemmas.List.{length-take-le}
use Rattle.std.proofs.lemmas.List.Sums.{sum_by-cons, sum_by_push}
use Rattle.tm_types.specs.Segment.{counted_bytes}
use Rattle.tm_types.specs.declared.message.Reply.{Reply}
use Rattle.model_messages.specs.Room.{reply_bytes, replies_bytes}
use Rattle.model_messages.specs.declared.replies.TerminalReplies.{TerminalReplies}
use Rattle.model_messages.specs.Outputs.{fresh_terminal, are_replies_of, replies_at, IsTerminal, with_terminal, with_reply, without_first, without_last, with_next, next_of, RunUpTo, AreNumbered, outputs_bytes}
use Rattle.out_queues.specs.KeptReplies.{AreRepliesKept, AreUpTo}

abbrev terminal_bytes : TerminalReplies → ℕ
terminal_bytes t = replies_bytes t.replies

-- ---- the bytes
-- the terminal that is there counts what it did before, or after
bytes_changed : (name : List ℕ) (f : TerminalReplies → TerminalReplies) (ts : List TerminalReplies) (t : TerminalReplies) → replies_at name ts ≡ Some t
    → outputs_bytes (with_terminal name f ts) + terminal_bytes t ≡ outputs_bytes ts + terminal_bytes (f t)
bytes_changed name f [] t e = let clash : None ≡ Some t = e in absurd (cc)
bytes_changed name f (u ∷ ts) t e = by (are_replies_of name u) refl e (bytes_changed name f ts t)
  where
    by : (b : Bool) → are_replies_of name u ≡ b → cond b (Some u) (replies_at name ts) ≡ Some t
        → (replies_at name ts ≡ Some t → outputs_bytes (with_terminal name f ts) + terminal_bytes t ≡ outputs_bytes ts + terminal_bytes (f t))
        → outputs_bytes (cond (are_replies_of name u) (f u ∷ ts) (u ∷ with_terminal name f ts)) + terminal_bytes t ≡ outputs_bytes (u ∷ ts) + terminal_bytes (f t)
    by true q g rec =
        let some : Some u ≡ Some t = g in
        let same : u ≡ t = cc in
        ap (λ b. outputs_bytes (cond b (f u ∷ ts) (u ∷ with_terminal name f ts)) + terminal_bytes t) q
        ∙ omega (arith, sum_by-cons terminal_bytes (f u) ts, sum_by-cons terminal_bytes u ts, ap terminal_bytes same, ap (λ v. terminal_bytes (f v)) same)
    by false q g rec =
        ap (λ b. outputs_bytes (cond b (f u ∷ ts) (u ∷ with_terminal name f ts)) + terminal_bytes t) q
        ∙ omega (arith, sum_by-cons terminal_bytes u (with_terminal name f ts), sum_by-cons terminal_bytes u ts, rec g)

pub bytes_fresh : (names : List (List ℕ)) → outputs_bytes (map fresh_terminal names) ≡ 0
bytes_fresh [] = refl
bytes_fresh (name ∷ names) = omega (arith, sum_by-cons terminal_bytes (fresh_terminal name) (map fresh_terminal names), bytes_fresh names)

pub terminal_within : (name : List ℕ) (ts : List TerminalReplies) (t : TerminalReplies) → replies_at name ts ≡ Some t → replies_bytes t.replies ≤ outputs_bytes ts
terminal_within name [] t e = let clash : None ≡ Some t = e in absurd (cc)
terminal_within name (u ∷ ts) t e = by (are_replies_of name u) e (terminal_within name ts t)
  where
    by : (b : Bool) → cond b (Some u) (replies_at name ts) ≡ Some t → (replies_at name ts ≡ Some t → terminal_bytes t ≤ outputs_bytes ts) → terminal_bytes t ≤ outputs_bytes (u ∷ ts)
    by true g rec =
        let some : Some u ≡ Some t = g in
        let same : u ≡ t = cc in
        omega (arith, sum_by-cons terminal_bytes u ts, ap terminal_bytes same)
    by false g rec = omega (arith, sum_by-cons terminal_bytes u ts, rec g)

-- ---- the numbers
numbered_changed : (name : List ℕ) (f : TerminalReplies → TerminalReplies) (ts : List TerminalReplies) → AllByRecursion AreNumbered ts
    → ((t : TerminalReplies) → replies_at name ts ≡ Some t → AreNumbered t → AreNumbered (f t)) → AllByRecursion AreNumbered (with_terminal name f ts)
numbered_changed name f [] h g = tt
numbered_changed name f (u ∷ ts) h g = by (are_replies_of name u) g (numbered_changed name f ts h.1)
  where
    by : (b : Bool) → ((t : TerminalReplies) → cond b (Some u) (replies_at name ts) ≡ Some t → AreNumbered t → AreNumbered (f t))
        → (((t : TerminalReplies) → replies_at name ts ≡ Some t → AreNumbered t → AreNumbered (f t)) → AllByRecursion AreNumbered (with_terminal name f ts))
        → AllByRecursion AreNumbered (cond b (f u ∷ ts) (u ∷ with_terminal name f ts))
    by true k rec = (k u refl h.0, h.1)
    by false k rec = (h.0, rec k)

pub numbered_fresh : (names : List (List ℕ)) → AllByRecursion AreNumbered (map fresh_terminal names)
numbered_fresh [] = tt
numbered_fresh (name ∷ names) = (tt, numbered_fresh names)

run_more : (next : ℕ) (replies : List Reply) (segments : List (List ℕ)) → RunUpTo next replies → RunUpTo (next + 1) (replies ++ record { number = next; segments = segments } ∷ [])
run_more next [] segments h = (refl, tt)
run_more next (r ∷ replies) segments h =
    (omega (arith, h.0, length-append replies (record { number = next; segments = segments } ∷ [])), run_more next replies segments h.1)

run_fewer : (next : ℕ) (replies : List Reply) → RunUpTo next replies → RunUpTo next (drop 1 replies)
run_fewer next [] h = tt
run_fewer next (r ∷ replies) h = h.1

run_front : (next k : ℕ) (replies : List Reply) → length replies ≡ suc k → RunUpTo next replies → RunUpTo (next - 1) (take k replies)
run_front next zero replies e h = tt
run_front next (suc k) [] e h = absurd (omega (arith, e))
run_front next (suc k) (r ∷ replies) e h =
    (omega (arith, h.0, e, length-take-le k replies (omega (arith, e))), run_front next k replies (omega (arith, e)) h.1)

run_fewer_last : (next : ℕ) (replies : List Reply) → RunUpTo next replies → RunUpTo (next - 1) (take (length replies - 1) replies)
run_fewer_last next [] h = tt
run_fewer_last next (r ∷ replies) h =
    let fewer : length replies ≡ length (r ∷ replies) - 1 = omega arith in
    subst (λ k. RunUpTo (next - 1) (take k (r ∷ replies))) fewer (run_front next (length replies) (r ∷ replies) refl h)

run_next : (next : ℕ) (replies : List Reply) → RunUpTo next replies → 1 ≤ length replies → 1 ≤ next
run_next next [] h g = absurd (omega (arith, g))
run_next next (r ∷ replies) h g = omega (arith, h.0)

run_none : (next : ℕ) (replies : List Reply) → replies ≡ [] → RunUpTo next replies
run_none next replies e = subst (RunUpTo next) (sym e) tt

-- ---- the highest number
pub up_to_more : (low high : ℕ) (ts : List TerminalReplies) → low ≤ high → AreUpTo low ts → AreUpTo high ts
up_to_more low high [] le h = tt
up_to_more low high (t ∷ ts) le h = (omega (arith, le, h.0), up_to_more low high ts le h.1)

-- where no next number is above it, no number that was given is
pub given_up_to : (high : ℕ) (ts : List TerminalReplies) → AllByRecursion (λ t. t.next ≤ high) ts → AreUpTo high ts
given_up_to high [] h = tt
given_up_to high (t ∷ ts) h = (omega (arith, h.0), given_up_to high ts h.1)

-- one terminal more
pub next_more : (low high : ℕ) (ts : List TerminalReplies) (i : ℕ) (kept : TerminalReplies) → i < length ts → kept ≡ get_or ts i kept → low ≤ high → kept.next ≤ high
    → AllByRecursion (λ t. t.next ≤ low) (take i ts) → AllByRecursion (λ t. t.next ≤ high) (take (i + 1) ts)
next_more low high ts i kept lt here le new h =
    let next : suc i ≡ i + 1 = omega arith in
    subst (λ n. AllByRecursion (λ t. t.next ≤ high) (take n ts)) next (by ts i lt (subst (λ (t : TerminalReplies). t.next ≤ high) here new) h)
  where
    by : (ts : List TerminalReplies) (i : ℕ) → i < length ts → (get_or ts i kept).next ≤ high → AllByRecursion (λ t. t.next ≤ low) (take i ts) → AllByRecursion (λ t. t.next ≤ high) (take (suc i) ts)
    by [] i lt new h = absurd (omega (arith, lt))
    by (t ∷ ts) zero lt new h = (new, tt)
    by (t ∷ ts) (suc i) lt new h = (omega (arith, h.0, le), by ts i (omega (arith, lt)) new h.1)

up_to_changed : (low high : ℕ) (name : List ℕ) (f : TerminalReplies → TerminalReplies) (ts : List TerminalReplies) → low ≤ high → AreUpTo low ts
    → ((t : TerminalReplies) → replies_at name ts ≡ Some t → t.next ≤ low + 1 → (f t).next ≤ high + 1) → AreUpTo high (with_terminal name f ts)
up_to_changed low high name f [] le h g = tt
up_to_changed low high name f (u ∷ ts) le h g = by (are_replies_of name u) g (up_to_changed low high name f ts le h.1)
  where
    by : (b : Bool) → ((t : TerminalReplies) → cond b (Some u) (replies_at name ts) ≡ Some t → t.next ≤ low + 1 → (f t).next ≤ high + 1)
        → (((t : TerminalReplies) → replies_at name ts ≡ Some t → t.next ≤ low + 1 → (f t).next ≤ high + 1) → AreUpTo high (with_terminal name f ts))
        → AreUpTo high (cond b (f u ∷ ts) (u ∷ with_terminal name f ts))
    by true k rec = (k u refl h.0, up_to_more low high ts le h.1)
    by false k rec = (omega (arith, le, h.0), rec k)

up_to_fresh : (names : List (List ℕ)) → AreUpTo 0 (map fresh_terminal names)
up_to_fresh [] = tt
up_to_fresh (name ∷ names) = (omega arith, up_to_fresh names)

-- ---- whole tables
pub there_by : (o : Option TerminalReplies) (P : TerminalReplies → Type 0) → IsSomeAnd o P → IsSome o
there_by None P g = absurd g
there_by (Some t) P g = refl

pub kept_fresh : (names : List (List ℕ)) (ts : List TerminalReplies) → ts ≡ map fresh_terminal names → AreRepliesKept ts 0 0
kept_fresh names ts e =
    subst (λ us. AreRepliesKept us 0 0) (sym e) (record {
      counted = sym (bytes_fresh names);
      small = omega arith;
      numbered = numbered_fresh names;
      bounded = up_to_fresh names;
    })

the_terminal : (name : List ℕ) (ts : List TerminalReplies) → IsTerminal name ts → (t : TerminalReplies) × (replies_at name ts ≡ Some t)
the_terminal name ts h = by (replies_at name ts) refl h
  where
    by : (o : Option TerminalReplies) → replies_at name ts ≡ o → IsSome o → (t : TerminalReplies) × (replies_at name ts ≡ Some t)
    by None e g = let clash : false ≡ true = g in absurd (cc)
    by (Some t) e g = (t, e)

pub kept_removed : (name : List ℕ) (ts new fs : List TerminalReplies) (content bytes highest : ℕ) → AreRepliesKept ts content highest → new ≡ with_terminal name without_first ts
    → outputs_bytes new + bytes ≡ outputs_bytes ts → fs ≡ new → AreRepliesKept fs (content - bytes) highest
kept_removed name ts new fs content bytes highest h e g same =
    subst (λ us. AreRepliesKept us (content - bytes) highest) (sym same) (record {
      counted = omega (arith, h.counted, g);
      small = omega (arith, h.small);
      numbered = subst (AllByRecursion AreNumbered) (sym e) (numbered_changed name without_first ts h.numbered (λ t f n. run_fewer t.next t.replies n));
      bounded = subst (AreUpTo highest) (sym e) (up_to_changed highest highest name without_first ts (omega arith) h.bounded (λ t f n. n));
    })

pub kept_added : (name : List ℕ) (segments : List (List ℕ)) (ts new fs : List TerminalReplies) (content bytes low high number : ℕ) → AreRepliesKept ts content low → IsTerminal name ts
    → new ≡ with_terminal name (with_reply segments) ts → bytes ≡ counted_bytes segments → content + bytes < 2 ^ 62 → fs ≡ new
    → number ≡ next_of name ts → low ≤ high → number ≤ high → AreRepliesKept fs (content + bytes) high
kept_added name segments ts new fs content bytes low high number h there e b fits same is le above =
    let the = the_terminal name ts there in
    let t = the.0 in
    let moved : outputs_bytes new + terminal_bytes t ≡ outputs_bytes ts + terminal_bytes (with_reply segments t) =
    ap (λ us. outputs_bytes us + terminal_bytes t) e ∙ bytes_changed name (with_reply segments) ts t the.1 in
    let more : terminal_bytes (with_reply segments t) ≡ terminal_bytes t + counted_bytes segments = sum_by_push reply_bytes t.replies (record { number = t.next; segments = segments }) in
    subst (λ us. AreRepliesKept us (content + bytes) high) (sym same) (record {
      counted = omega (arith, h.counted, moved, more, b);
      small = fits;
      numbered = subst (AllByRecursion AreNumbered) (sym e) (numbered_changed name (with_reply segments) ts h.numbered (λ u f n. run_more u.next u.replies segments n));
      bounded = subst (AreUpTo high) (sym e) (up_to_changed low high name (with_reply segments) ts le h.bounded
          (λ u f n. let given : number ≡ u.next = is ∙ ap (λ (o : Option TerminalReplies). option_map_or (λ t. t.next) o 1) f in omega (arith, given, above)));
    })

pub kept_next : (name : List ℕ) (number : ℕ) (ts new fs : List TerminalReplies) (content low high : ℕ) → AreRepliesKept ts content low → IsSomeAnd (replies_at name ts) (λ t. t.replies ≡ [])
    → new ≡ with_terminal name (with_next number) ts → fs ≡ new → low ≤ high → number ≤ high → AreRepliesKept fs content high
kept_next name number ts new fs content low high h none e same le above =
    let the = the_terminal name ts (there_by (replies_at name ts) (λ t. t.replies ≡ []) none) in
    let moved : outputs_bytes new + terminal_bytes the.0 ≡ outputs_bytes ts + terminal_bytes the.0 =
    ap (λ us. outputs_bytes us + terminal_bytes the.0) e ∙ bytes_changed name (with_next number) ts the.0 the.1 in
    subst (λ us. AreRepliesKept us content high) (sym same) (record {
      counted = omega (arith, h.counted, moved);
      small = h.small;
      numbered =
          subst (AllByRecursion AreNumbered) (sym e)
          (numbered_changed name (with_next number) ts h.numbered (λ t f n. run_none number t.replies (subst (λ o. IsSomeAnd o (λ u. u.replies ≡ [])) f none)));
      bounded = subst (AreUpTo high) (sym e) (up_to_changed low high name (with_next number) ts le h.bounded (λ t f n. omega (arith, above)));
    })

pub kept_taken : (name : List ℕ) (ts new fs : List TerminalReplies) (content bytes highest : ℕ) → AreRepliesKept ts content highest → new ≡ with_terminal name without_last ts
    → outputs_bytes new + bytes ≡ outputs_bytes ts → fs ≡ new → AreRepliesKept fs (content - bytes) highest
kept_taken name ts new fs content bytes highest h e g same =
    subst (λ us. AreRepliesKept us (content - bytes) highest) (sym same) (record {
      counted = omega (arith, h.counted, g);
      small = omega (arith, h.small);
      numbered = subst (AllByRecursion AreNumbered) (sym e) (numbered_changed name without_last ts h.numbered (λ t f n. run_fewer_last t.next t.replies n));
      bounded = subst (AreUpTo highest) (sym e) (up_to_changed highest highest name without_last ts (omega arith) h.bounded (λ t f n. omega (arith, n)));
    })

-- where a reply is kept a number was given
pub next_given : (name : List ℕ) (ts : List TerminalReplies) → AllByRecursion AreNumbered ts → IsSomeAnd (replies_at name ts) (λ t. 1 ≤ length t.replies)
    → IsSomeAnd (replies_at name ts) (λ t. 1 ≤ t.next)
next_given name [] h g = absurd g
next_given name (u ∷ ts) h g = by (are_replies_of name u) g (next_given name ts h.1)
  where
    by : (b : Bool) → IsSomeAnd (cond b (Some u) (replies_at name ts)) (λ t. 1 ≤ length t.replies)
        → (IsSomeAnd (replies_at name ts) (λ t. 1 ≤ length t.replies) → IsSomeAnd (replies_at name ts) (λ t. 1 ≤ t.next))
        → IsSomeAnd (cond b (Some u) (replies_at name ts)) (λ t. 1 ≤ t.next)
    by true k rec = run_next u.next u.replies h.0 k
    by false k rec = rec k
