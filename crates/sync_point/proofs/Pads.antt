-- A short pad's record is one of the log.
use Rattle.std.proofs.Common.{ℕ, arith}
use Rattle.log_records.specs.declared.record.Record.TheVariants.{SyncPoint}
use Rattle.model_messages.specs.declared.conversation.PadChange.{PadChange}
use Rattle.model_messages.specs.declared.conversation.PadChange.TheVariants.{Stays, New, Ends}
use Rattle.log_records.specs.RecordSpelling.{IsPadChange, IsShort}
use Rattle.log_records.proofs.WithLength.{stays_short, ends_short, new_short}
use Rattle.sync_point.specs.Unit.{IsShortChange}

pub is_pad_change : (pad : PadChange) → IsShortChange pad → IsPadChange pad
is_pad_change Stays short = tt
is_pad_change (New pad) short = omega (arith, short)
is_pad_change Ends short = tt

pub is_short : (unit : ℕ) (pad : PadChange) → IsShortChange pad → IsShort (SyncPoint unit pad)
is_short unit Stays short = stays_short unit
is_short unit (New pad) short = new_short unit pad short
is_short unit Ends short = ends_short unit
