-- What a call of a machine tells, and what it does, by its entry in a life's history.
use Rattle.std.specs.Prelude.{◌≡◌, ◌<◌, ◌≤◌, ⊤, ℕ, Bool, true, false, IfSome, None, Ok, List, ◌++◌, length}
use Rattle.std.specs.List.{flat_map, AllByRecursion}
use Rattle.model_machine.specs.CommandAnswers.{lasting_command}
use Rattle.model_machine.specs.History.{call_of}
use Rattle.model_machine.specs.declared.entry.ControlCall.{ControlCall}
use Rattle.model_machine.specs.declared.entry.ControlCall.TheVariants.{Input, Receive, Acknowledge, Turn, Command, Checkpoint, AskQuiet}
use Rattle.model_machine.specs.declared.entry.Entry.{Entry}
use Rattle.model_machine.specs.declared.entry.Entry.TheVariants.{Turn as TurnEntry}
use Rattle.openings.specs.Faults.{fault_in}
use Rattle.tm_types.specs.Commands.{IsSpellable}
use Rattle.log_records.specs.declared.record.Record.{Record}
use Rattle.log_records.specs.RecordSpelling.{record_spelling, IsLogRecord}
use Rattle.tm_machine.specs.Answers.{IsAnswered}
use Rattle.tm_machine.specs.SlotChanges.{TellByCall, TurnsSo, changes_told, turn_records}
use Rattle.tm_machine.specs.Parts.{PartsState}
use Rattle.tm_machine.specs.ToldByCall.{told_records_of}
use Rattle.journal.specs.UnitNumbers.{next_after, unit_of_region, units_after}

-- ---- which calls

-- A step may last of it.
abbrev pub may_last : ControlCall → Bool
may_last (Input terminal number segments) = true
may_last (Acknowledge terminal number) = true
may_last (Turn region) = true
may_last (Command command) = true
may_last (Receive terminal) = false
may_last (Checkpoint freeze) = false
may_last AskQuiet = false

-- It may change the databases.
abbrev pub may_change : ControlCall → Bool
may_change (Turn region) = true
may_change (Input terminal number segments) = false
may_change (Acknowledge terminal number) = false
may_change (Command command) = false
may_change (Receive terminal) = false
may_change (Checkpoint freeze) = false
may_change AskQuiet = false

-- an input's number is one that an image may have
abbrev pub IsCallWithin : ControlCall → Type 0
IsCallWithin (Input terminal number segments) = number < 2000000000000000000
IsCallWithin _ = ⊤

-- what a command that lasts names is a name, and what it assigns may be
abbrev pub IsCallSpellable : ControlCall → Type 0
IsCallSpellable (Command command) = IfSome (lasting_command command) IsSpellable
IsCallSpellable _ = ⊤

-- ---- what it tells

-- The records of a call of its own, by the machine and the numbers of the regions' units: those of the step that lasts of it,
-- and of a turn also what its call changes in the databases.
abbrev pub own_records : PartsState → List ℕ → ControlCall → List Record
own_records parts units (Turn region) = turn_records parts (unit_of_region units region) region
own_records parts units (Input terminal number segments) = told_records_of parts.system parts.moment 0 (Input terminal number segments)
own_records parts units (Receive terminal) = told_records_of parts.system parts.moment 0 (Receive terminal)
own_records parts units (Acknowledge terminal number) = told_records_of parts.system parts.moment 0 (Acknowledge terminal number)
own_records parts units (Command command) = told_records_of parts.system parts.moment 0 (Command command)
own_records parts units (Checkpoint freeze) = told_records_of parts.system parts.moment 0 (Checkpoint freeze)
own_records parts units AskQuiet = told_records_of parts.system parts.moment 0 AskQuiet

abbrev pub own_bytes : PartsState → List ℕ → ControlCall → List ℕ
own_bytes parts units call = flat_map record_spelling (own_records parts units call)

-- These were appended, each one by the ranges of its fields, and fit the room.
pub record TellsAllRecords (records : List Record) (room : ℕ) (before after : List ℕ) : Type 0 where
  pub told : after ≡ before ++ flat_map record_spelling records
  pub valid : AllByRecursion IsLogRecord records
  pub fits : length (flat_map record_spelling records) ≤ room

-- ---- what it does

-- The numbers of the regions' units behind a call that was answered, and the next one. A turn gives and takes them by its answer: a
-- region takes the next number with a message, and with another one that it goes on with. No other call touches them.
abbrev pub NumbersBy : Entry → List ℕ → List ℕ → ℕ → ℕ → Type 0
NumbersBy (TurnEntry region (Ok turned)) old new next next' = (new ≡ units_after turned region next old) × (next' ≡ next_after turned next)
NumbersBy _ old new next next' = (new ≡ old) × (next' ≡ next)

-- What it does to the databases: a turn what its answer says, in its region's unit, and any other call nothing.
abbrev pub DoesTo : List ℕ → Entry → PartsState → PartsState → Type 0
DoesTo units (TurnEntry region (Ok turned)) old new = TurnsSo old new (unit_of_region units region) region turned
DoesTo units _ old new = new.databases ≡ old.databases

-- of turns, only one that makes a call tells changes
abbrev pub ChangesBy : List ℕ → Entry → PartsState → Type 0
ChangesBy units (TurnEntry region (Ok turned)) parts = TellByCall (changes_told parts (unit_of_region units region) region) turned
ChangesBy units _ parts = ⊤

-- It was answered by this entry.
pub record DoesCall (units : List ℕ) (entry : Entry) (old new : PartsState) : Type 0 where
  pub answered : IsAnswered old new entry
  pub no_fault : fault_in entry ≡ None
  pub does : DoesTo units entry old new
  pub changes : ChangesBy units entry old
  pub spellable : IsCallSpellable (call_of entry)
