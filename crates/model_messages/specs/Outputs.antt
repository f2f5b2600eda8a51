-- The replies of the terminals.
use Rattle.std.specs.Prelude.{◌≡◌, ℕ, ◌+◌, ◌-◌, Bool, if◌then◌else◌, List, [], ◌∷◌, ◌++◌, Option, length, find, drop, take, slice_get, sum_by, IsSome}
use Rattle.std.specs.Option.{option_map_or, option_and_then}
use Rattle.std.specs.Str.{bytes_eq}
use Rattle.tm_types.specs.declared.message.Reply.{Reply}
use Rattle.model_messages.specs.declared.replies.TerminalReplies.{TerminalReplies}
use Rattle.model_messages.specs.Room.{replies_bytes}

-- a terminal without replies, none of whose numbers is used
abbrev pub fresh_terminal : List ℕ → TerminalReplies
fresh_terminal name = record { terminal = name; next = 1; replies = [] }

abbrev pub are_replies_of : List ℕ → TerminalReplies → Bool
are_replies_of name t = bytes_eq t.terminal name

-- the terminal of this name, the first one if there are more
abbrev pub replies_at : List ℕ → List TerminalReplies → Option TerminalReplies
replies_at name outputs = find (are_replies_of name) outputs

-- there is a terminal of this name
abbrev pub IsTerminal : List ℕ → List TerminalReplies → Type 0
IsTerminal name outputs = IsSome (replies_at name outputs)

-- that terminal changed, all others staying
abbrev pub with_terminal : List ℕ → (TerminalReplies → TerminalReplies) → List TerminalReplies → List TerminalReplies
with_terminal name change [] = []
with_terminal name change (t ∷ ts) = if are_replies_of name t then change t ∷ ts else t ∷ with_terminal name change ts

-- a terminal with one more reply, under its next number
abbrev pub with_reply : List (List ℕ) → TerminalReplies → TerminalReplies
with_reply segments t = record t {
  next = t.next + 1;
  replies = t.replies ++ record { number = t.next; segments = segments } ∷ [];
}

-- a terminal without its first reply
abbrev pub without_first : TerminalReplies → TerminalReplies
without_first t = record t { replies = drop 1 t.replies }

-- a terminal without its last reply, whose number the next reply gets
abbrev pub without_last : TerminalReplies → TerminalReplies
without_last t = record t { next = t.next - 1; replies = take (length t.replies - 1) t.replies }

abbrev pub with_next : ℕ → TerminalReplies → TerminalReplies
with_next number t = record t { next = number }

-- the reply at this place of those that are kept
abbrev pub reply_at : List ℕ → ℕ → List TerminalReplies → Option Reply
reply_at name place outputs = option_and_then (λ t. slice_get t.replies place) (replies_at name outputs)

-- the number that the next reply gets
abbrev pub next_of : List ℕ → List TerminalReplies → ℕ
next_of name outputs = option_map_or (λ t. t.next) (replies_at name outputs) 1

-- the lowest number that is kept, or the next one where none is kept
abbrev pub first_number : TerminalReplies → ℕ
first_number t = option_map_or (λ reply. reply.number) (slice_get t.replies 0) t.next

-- the numbers of the replies follow one another, the last one being the one before the next
abbrev pub RunUpTo : ℕ → List Reply → Type 0
RunUpTo next [] = Unit {0}
RunUpTo next (reply ∷ replies) = (reply.number + length (reply ∷ replies) ≡ next) × RunUpTo next replies

abbrev pub AreNumbered : TerminalReplies → Type 0
AreNumbered t = RunUpTo t.next t.replies

-- the bytes of all replies
abbrev pub outputs_bytes : List TerminalReplies → ℕ
outputs_bytes outputs = sum_by (λ t. replies_bytes t.replies) outputs
