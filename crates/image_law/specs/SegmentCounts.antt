-- How many segments messages and replies have.
use Rattle.std.specs.Prelude.{List}
use Rattle.std.specs.List.{AllByRecursion}
use Rattle.tm_types.specs.declared.message.Message.{Message}
use Rattle.tm_types.specs.declared.message.Reply.{Reply}
use Rattle.model_messages.specs.declared.replies.TerminalReplies.{TerminalReplies}
use Rattle.model_machine.specs.Machine.{LastingState}
use Rattle.log_records.specs.RecordSpelling.{IsCount}

-- each message has 1 to 32 segments
abbrev pub AreCounted : List Message → Type 0
AreCounted messages = AllByRecursion (λ m. IsCount m.segments) messages

-- each reply does
abbrev pub AreRepliesCounted : List Reply → Type 0
AreRepliesCounted replies = AllByRecursion (λ r. IsCount r.segments) replies

abbrev pub AreAllCounted : List TerminalReplies → Type 0
AreAllCounted terminals = AllByRecursion (λ t. AreRepliesCounted t.replies) terminals

-- each message and each reply of a state does
pub record AreSegmentsCounted (lasting : LastingState) : Type 0 where
  pub messages : AreCounted lasting.messages
  pub replies : AreAllCounted lasting.outputs
