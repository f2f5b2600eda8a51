-- What each change of messages and of replies keeps.
use Rattle.std.proofs.Common.{ℕ, ◌+◌, Bool, true, false, List, [], ◌∷◌, ◌++◌, drop}
use Rattle.std.specs.Prelude.{filter, if◌then◌else◌}
use Rattle.std.specs.List.{AllByRecursion}
use Rattle.std.specs.Str.{bytes_eq}
use Rattle.tm_types.specs.declared.message.Reply.{Reply}
use Rattle.model_messages.specs.declared.replies.TerminalReplies.{TerminalReplies}
use Rattle.model_messages.specs.Outputs.{with_terminal, with_reply, without_first}
use Rattle.log_records.specs.RecordSpelling.{IsCount}
use Rattle.model_image.specs.Snapshot.{with_kept}
use Rattle.image_law.specs.SegmentCounts.{AreRepliesCounted, AreAllCounted}

pub one_more : {X : Type 0} (P : X → Type 0) (xs : List X) (x : X) → AllByRecursion P xs → P x → AllByRecursion P (xs ++ x ∷ [])
one_more P [] x all is = (is, tt)
one_more P (y ∷ xs) x all is = (all.0, one_more P xs x all.1 is)

pub filtered : {X : Type 0} (P : X → Type 0) (keeps : X → Bool) (xs : List X) → AllByRecursion P xs → AllByRecursion P (filter keeps xs)
filtered P keeps [] all = tt
filtered {X} P keeps (x ∷ xs) all = by (keeps x) (filtered P keeps xs all.1) where
  by : (b : Bool) → AllByRecursion P (filter keeps xs) → AllByRecursion P (if b then x ∷ filter keeps xs else filter keeps xs)
  by true rest = (all.0, rest)
  by false rest = rest

-- a change of one terminal keeps it of all, if it keeps it of that terminal
pub terminal_kept : (name : List ℕ) (change : TerminalReplies → TerminalReplies) (ts : List TerminalReplies) → ((t : TerminalReplies) → AreRepliesCounted t.replies → AreRepliesCounted (change t).replies) → AreAllCounted ts → AreAllCounted (with_terminal name change ts)
terminal_kept name change [] keeps all = tt
terminal_kept name change (t ∷ ts) keeps all = by (bytes_eq t.terminal name) (terminal_kept name change ts keeps all.1) where
  by : (b : Bool) → AreAllCounted (with_terminal name change ts) → AreAllCounted (if b then change t ∷ ts else t ∷ with_terminal name change ts)
  by true rest = (keeps t all.0, all.1)
  by false rest = (all.0, rest)

pub kept_counted : (number : ℕ) (segments : List (List ℕ)) → IsCount segments → (t : TerminalReplies) → AreRepliesCounted t.replies → AreRepliesCounted (with_kept number segments t).replies
kept_counted number segments is t all = one_more (λ r. IsCount r.segments) t.replies (record { number = number; segments = segments }) all is

pub reply_counted : (segments : List (List ℕ)) → IsCount segments → (t : TerminalReplies) → AreRepliesCounted t.replies → AreRepliesCounted (with_reply segments t).replies
reply_counted segments is t all = one_more (λ r. IsCount r.segments) t.replies (record { number = t.next; segments = segments }) all is

first_gone : (rs : List Reply) → AreRepliesCounted rs → AreRepliesCounted (drop 1 rs)
first_gone [] all = tt
first_gone (r ∷ rs) all = all.1

pub without_first_counted : (t : TerminalReplies) → AreRepliesCounted t.replies → AreRepliesCounted (without_first t).replies
without_first_counted t all = first_gone t.replies all
