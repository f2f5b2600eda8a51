-- Sums that are capped on the way.
use Rattle.std.proofs.Common.{◌≡◌, ◌⊎◌, ℕ, ◌+◌, ◌^◌, ◌<◌, ◌≤◌, List, [], length, take, get_or, inl, inr, sym, ◌∙◌, ap, arith}
use Rattle.std.specs.Prelude.{Option, slice_get, nat_lt}
use Rattle.std.specs.List.{sum_by}
use Rattle.std.proofs.lemmas.Bool.{cases_lt, lt-ltb, le-ltb}
use Rattle.std.specs.Option.{option_map_or}
use Rattle.std.proofs.lemmas.Option.{slice_get-get_or}
use Rattle.std.proofs.lemmas.List.Sums.{sum_by_more}
use Rattle.std.proofs.Math.Seq.{take-length}
use Rattle.tm_types.specs.declared.message.Message.{Message}
use Rattle.tm_types.specs.declared.message.Reply.{Reply}
use Rattle.tm_types.specs.Segment.{segment_length}
use Rattle.model_messages.specs.declared.replies.TerminalReplies.{TerminalReplies}
use Rattle.model_messages.specs.Room.{message_bytes, messages_bytes, reply_bytes, replies_bytes}
use Rattle.model_messages.specs.Outputs.{outputs_bytes}
use Rattle.image_records.specs.CappedCounts.{capped_count}

pub capped_more : (a b c : ℕ) → capped_count (capped_count (a + b) + c) ≡ capped_count (a + (b + c))
capped_more a b c = by (cases_lt (a + b) (2 ^ 64)) where
  by : ((a + b) < 2 ^ 64) ⊎ (2 ^ 64 ≤ (a + b)) → capped_count (capped_count (a + b) + c) ≡ capped_count (a + (b + c))
  by (inl few) = omega (arith, few)
  by (inr many) = omega (arith, many)

pub capped_is : (n : ℕ) → n < 2 ^ 64 → n ≡ capped_count (n + 0)
capped_is n small = omega (arith, small)

pub over_is : (limit m o : ℕ) → limit < 2 ^ 32 → nat_lt limit (capped_count (capped_count (0 + m) + o)) ≡ nat_lt limit (m + o)
over_is limit m o small = by (cases_lt limit (m + o)) where
  by : (limit < m + o) ⊎ (m + o ≤ limit) → nat_lt limit (capped_count (capped_count (0 + m) + o)) ≡ nat_lt limit (m + o)
  by (inl over) = lt-ltb limit (capped_count (capped_count (0 + m) + o)) (omega (arith, over, small)) ∙ sym (lt-ltb limit (m + o) over)
  by (inr within) = le-ltb limit (capped_count (capped_count (0 + m) + o)) (omega (arith, within, small)) ∙ sym (le-ltb limit (m + o) within)

-- one more of a list is counted
more : {X : Type 0} (f : X → ℕ) (xs : List X) (index start now : ℕ) (x : X) → index < length xs → x ≡ get_or xs index x → now ≡ capped_count (start + sum_by f (take index xs))
    → capped_count (now + f x) ≡ capped_count (start + sum_by f (take (index + 1) xs))
more f xs index start now x within here so =
    let sum : sum_by f (take index xs) + f x ≡ sum_by f (take (index + 1) xs) =
    ap (λ y. sum_by f (take index xs) + f y) here ∙ sym (sum_by_more f xs index x within) in
    ap (λ n. capped_count (n + f x)) so ∙ capped_more start (sum_by f (take index xs)) (f x) ∙ ap (λ n. capped_count (start + n)) sum

all : {X : Type 0} (f : X → ℕ) (xs : List X) (index start now : ℕ) → length xs ≤ index → index ≤ length xs → now ≡ capped_count (start + sum_by f (take index xs)) → now ≡ capped_count (start + sum_by f xs)
all f xs index start now past within so =
    let same : index ≡ length xs = omega (arith, past, within) in
    so ∙ ap (λ k. capped_count (start + sum_by f (take k xs))) same ∙ ap (λ l. capped_count (start + sum_by f l)) (take-length xs)

pub message_more : (xs : List Message) (index start now : ℕ) (x : Message) → index < length xs → x ≡ get_or xs index x → now ≡ capped_count (start + messages_bytes (take index xs))
    → capped_count (now + message_bytes x) ≡ capped_count (start + messages_bytes (take (index + 1) xs))
message_more = more message_bytes

pub terminal_more : (xs : List TerminalReplies) (index start now : ℕ) (x : TerminalReplies) → index < length xs → x ≡ get_or xs index x → now ≡ capped_count (start + outputs_bytes (take index xs))
    → capped_count (now + replies_bytes x.replies) ≡ capped_count (start + outputs_bytes (take (index + 1) xs))
terminal_more = more (λ t. replies_bytes t.replies)

pub reply_more : (xs : List Reply) (index start now : ℕ) (x : Reply) → index < length xs → x ≡ get_or xs index x → now ≡ capped_count (start + replies_bytes (take index xs))
    → capped_count (now + reply_bytes x) ≡ capped_count (start + replies_bytes (take (index + 1) xs))
reply_more = more reply_bytes

pub segment_more : (xs : List (List ℕ)) (index start now one : ℕ) → index < length xs → one ≡ option_map_or segment_length (slice_get xs index) 0 → now ≡ capped_count (start + sum_by segment_length (take index xs))
    → capped_count (now + one) ≡ capped_count (start + sum_by segment_length (take (index + 1) xs))
segment_more xs index start now one within is so =
    let here : one ≡ segment_length (get_or xs index []) = is ∙ ap (λ (s : Option (List ℕ)). option_map_or segment_length s 0) (slice_get-get_or xs index [] within) in
    let sum : sum_by segment_length (take index xs) + one ≡ sum_by segment_length (take (index + 1) xs) =
    ap (λ n. sum_by segment_length (take index xs) + n) here ∙ sym (sum_by_more segment_length xs index [] within) in
    ap (λ n. capped_count (n + one)) so ∙ capped_more start (sum_by segment_length (take index xs)) one ∙ ap (λ n. capped_count (start + n)) sum

pub message_all : (xs : List Message) (index start now : ℕ) → length xs ≤ index → index ≤ length xs → now ≡ capped_count (start + messages_bytes (take index xs)) → now ≡ capped_count (start + messages_bytes xs)
message_all = all message_bytes

pub terminal_all : (xs : List TerminalReplies) (index start now : ℕ) → length xs ≤ index → index ≤ length xs → now ≡ capped_count (start + outputs_bytes (take index xs)) → now ≡ capped_count (start + outputs_bytes xs)
terminal_all = all (λ t. replies_bytes t.replies)

pub reply_all : (xs : List Reply) (index start now : ℕ) → length xs ≤ index → index ≤ length xs → now ≡ capped_count (start + replies_bytes (take index xs)) → now ≡ capped_count (start + replies_bytes xs)
reply_all = all reply_bytes

pub segment_all : (xs : List (List ℕ)) (index start now : ℕ) → length xs ≤ index → index ≤ length xs → now ≡ capped_count (start + sum_by segment_length (take index xs)) → now ≡ capped_count (start + sum_by segment_length xs)
segment_all = all segment_length

pub ruleset message_steps = (capped_is, message_more, message_all)

pub ruleset terminal_steps = (capped_is, terminal_more, terminal_all)

pub ruleset reply_steps = (capped_is, reply_more, reply_all)

pub ruleset segment_steps = (capped_is, segment_more, segment_all)

-- 48 bytes and the lengths
pub counted_is : (start lengths now : ℕ) → now ≡ capped_count (start + 48) → capped_count (now + lengths) ≡ capped_count (start + (48 + lengths))
counted_is start lengths now so = ap (λ n. capped_count (n + lengths)) so ∙ capped_more start 48 lengths

-- a content that isn't too large is counted whole
pub whole : (content counted : ℕ) → counted ≡ capped_count (0 + content) → content < 2 ^ 62 → counted ≡ content
whole content counted so small = omega (arith, so, small)
