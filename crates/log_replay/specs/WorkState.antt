-- What lasts and waits while a log is done again.
use Rattle.std.specs.Prelude.{◌≡◌, ℕ, zero, suc, Bool, true, false, List, [], ◌∷◌, ◌++◌, filter, Option, Some, None}
use Rattle.log_records.specs.declared.record.Record.{Record}
use Rattle.log_records.specs.declared.record.Record.TheVariants.{Input, Command, Reply, Discarded, Completed, Acknowledged, SyncPoint, Change}
use Rattle.model_machine.specs.Machine.{LastingState}
use Rattle.model_system.specs.System.{System}
use Rattle.model_image.specs.States.{breaks_a_rule}
use Rattle.model_image.specs.Replay.{Replay, is_of_unit, replay_accepts, replay_acknowledges, commands, discards, syncs}
use Rattle.image_records.specs.KeptState.{KeptState}
use Rattle.log_replay.specs.ReplayRules.{lasting_in, AreMessagesFree, RecordLeaves}
use Rattle.log_replay.specs.ConversationTally.{TallyState, TallyFollows}
use Rattle.log_replay.specs.WaitingRecords.{of_unit, ChangesUnit}

-- the tables, the records of units that have no sync point yet, and the messages of conversations
pub record WorkState : Type 0 where
  pub kept : KeptState
  pub units : List (ℕ × List Record)
  pub tally : TallyState

-- It is at this point of a replay: the tables have what lasts, which breaks no rule, each unit's records wait, and the
-- messages are counted.
pub record IsAt (system : System) (replay : Replay) (work : WorkState) : Type 0 where
  pub lasting : replay.lasting ≡ lasting_in system work.kept
  pub free : AreMessagesFree system work.kept
  pub sound : breaks_a_rule system replay.lasting ≡ false
  pub waiting : (unit : ℕ) → of_unit unit work.units ≡ filter (is_of_unit unit) replay.waiting
  pub follows : TallyFollows system work.kept work.tally

-- a record was done again, or breaks the rule
abbrev pub RecordComesTo : System → Option Replay → WorkState → Bool → Type 0
RecordComesTo system answer work true = (replay : Replay) × (answer ≡ Some replay) × IsAt system replay work
RecordComesTo system answer work false = answer ≡ None

-- the same with the tables that are given back, or with none
abbrev pub ReplayComesTo : System → Option Replay → Option WorkState → Type 0
ReplayComesTo system answer (Some work) = RecordComesTo system answer work true
ReplayComesTo system answer None = answer ≡ None

-- the unit at whose sync point a record is done
abbrev pub waits_for_unit : Record → Option ℕ
waits_for_unit (Input zero id origin code number conversation segments) = None
waits_for_unit (Input (suc unit) id origin code number conversation segments) = Some (suc unit)
waits_for_unit (Reply unit terminal number segments) = Some unit
waits_for_unit (Completed unit id) = Some unit
waits_for_unit _ = None

-- the records that a record is to do: those of its unit, if it is a sync point
abbrev pub of_unit_of : Record → List (ℕ × List Record) → List Record
of_unit_of (SyncPoint unit pad) units = of_unit unit units
of_unit_of _ units = []

-- what a record leaves that doesn't wait, with those of its unit
abbrev pub does_now : System → Record → List Record → LastingState → Option LastingState
does_now system (Input unit id origin code number conversation segments) records lasting = replay_accepts system id origin code number conversation segments lasting
does_now system (Acknowledged terminal number) records lasting = replay_acknowledges terminal number lasting
does_now system (Command text) records lasting = commands text lasting
does_now system (Discarded unit id abend number) records lasting = discards id abend number lasting
does_now system (SyncPoint unit pad) records lasting = syncs pad records lasting
does_now system (Change unit database slot before after) records lasting = Some lasting
does_now system _ records lasting = None

-- a sync point leaves no record of its unit
abbrev pub LeavesUnits : Record → (old new : List (ℕ × List Record)) → Type 0
LeavesUnits (SyncPoint unit pad) old new = ChangesUnit unit (λ _. []) old new
LeavesUnits _ old new = new ≡ old

-- a record waits for its unit's sync point
pub record RecordWaits (unit : ℕ) (r : Record) (old new : WorkState) (fine : Bool) : Type 0 where
  pub is_fine : fine ≡ true
  pub kept : new.kept ≡ old.kept
  pub units : ChangesUnit unit (λ records. records ++ r ∷ []) old.units new.units
  pub tally : new.tally ≡ old.tally

-- a record was done that doesn't wait
pub record IsRecordDone (system : System) (r : Record) (old new : WorkState) (fine : Bool) : Type 0 where
  pub lasting : RecordLeaves system (does_now system r (of_unit_of r old.units) (lasting_in system old.kept)) new.kept fine
  pub units : LeavesUnits r old.units new.units
  pub follows : fine ≡ true → TallyFollows system new.kept new.tally
