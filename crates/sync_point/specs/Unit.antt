-- What a unit sent, and a writer with its records.
use Rattle.std.specs.Prelude.{ℕ, ◌≤◌, List, ◌++◌, length}
use Rattle.model_messages.specs.declared.conversation.PadChange.{PadChange}
use Rattle.model_messages.specs.declared.conversation.PadChange.TheVariants.{Stays, New, Ends}
use Rattle.log_writer.specs.Writer.{Writer}

-- a unit, and the bytes of the records of its outputs
pub record Sent : Type 0 where
  pub unit : ℕ
  pub bytes : List ℕ

-- a log writer with more bytes appended
abbrev pub with_bytes_appended : List ℕ → Writer → Writer
with_bytes_appended bytes writer = record writer { appended = writer.appended ++ bytes }

-- a new pad is so short that the record of its sync point has at most 65,535 bytes
abbrev pub IsShortChange : PadChange → Type 0
IsShortChange Stays = Unit {0}
IsShortChange (New pad) = length pad ≤ 65521
IsShortChange Ends = Unit {0}
