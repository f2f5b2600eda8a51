-- What opening an image answers.
use Rattle.std.specs.Prelude.{◌≡◌, ◌⊎◌, ℕ, ◌-◌, ◌<◌, ◌≤◌, false, List, ◌∷◌, length, map, find, nat_le, Option, Some, None, Result, Ok, Err}
use Rattle.std.specs.Option.{option_map}
use Rattle.tm_disk.specs.Disk.{Image, DiskState, Keeps, FailedSince}
use Rattle.model_messages.specs.declared.replies.TerminalReplies.{TerminalReplies}
use Rattle.model_system.specs.System.{System}
use Rattle.model_machine.specs.Machine.{LastingState, empty_state}
use Rattle.log_records.specs.declared.record.Record.{Record}
use Rattle.restart_data.specs.declared.restart.RestartSector.{RestartSector}
use Rattle.restart_data.specs.Restart.{IsRestart, restart_in}
use Rattle.model_system.specs.Areas.{is_single, snapshot_area}
use Rattle.model_image.specs.Counters.{next_unit, next_sequence}
use Rattle.model_image.specs.RecoveredState.{snapshot_from, log_in, Recovers}
use Rattle.model_image.specs.States.{breaks_a_rule}
use Rattle.checkpointing.specs.SnapshotRecords.{IsOfSystem}
use Rattle.image_law.specs.SegmentCounts.{AreSegmentsCounted}
use Rattle.model_machine.specs.declared.counts.Counter.{Counter}
use Rattle.model_machine.specs.declared.counts.Counter.TheVariants as counter
use Rattle.openings.specs.declared.refusals.OpenError.{OpenError}
use Rattle.openings.specs.declared.refusals.OpenError.TheVariants.{BadImage, WrongDefinition, TooSmall, Spent, Disk, Memory}
use Rattle.openings.specs.OpeningParts.{OpeningParts}
use Rattle.openings.specs.FirstImage.{IsFirstRestart, sectors_needed}
use Rattle.model_image.specs.Text.{text_in, first_difference}
use Rattle.openings.specs.Renewal.{IsNext}

-- ---- counters

-- where each terminal's next reply stands
abbrev pub output_counters : List TerminalReplies → List (Counter × ℕ)
output_counters outputs = map (λ t. (counter.NextOutput t.terminal, t.next)) outputs

-- What a life counts on, in the order in which it is looked at, with where each counter stands: the epoch, the log's next
-- sequence, the checkpoint, the next id, the next unit, the lasting steps, and each terminal's next reply.
abbrev pub counters : ℕ → ℕ → ℕ → ℕ → LastingState → List (Counter × ℕ)
counters epoch sequence checkpoint unit state =
    (counter.Epoch, epoch)
    ∷ (counter.Sequence, sequence)
    ∷ (counter.Checkpoint, checkpoint)
    ∷ (counter.NextId, state.next_id)
    ∷ (counter.NextUnit, unit)
    ∷ (counter.Steps, state.steps)
    ∷ output_counters state.outputs

-- the first that stands at the limit or above
abbrev pub first_spent : List (Counter × ℕ) → Option Counter
first_spent counts = option_map (λ c. c.0) (find (λ c. nat_le 1000000000000000000 c.1) counts)

abbrev pub spent_in : System → Image → RestartSector → ℕ → LastingState → Option Counter
spent_in system image restart unit state =
    first_spent (counters restart.epoch (next_sequence system image restart) restart.checkpoint unit state)

-- ---- what is found

-- The image has this restart sector, the text is its definition's, and it recovers to this state; the next unit is this one.
pub record IsFound (system : System) (text : List ℕ) (image : Image) (restart : RestartSector) (unit : ℕ) (state : LastingState) : Type 0 where
  pub snapshot : List Record
  pub has_restart : restart_in (snapshot_area system) (is_single system) image ≡ Ok (Some restart)
  pub has_text : first_difference text (text_in image restart.text) ≡ None
  pub recovers : Recovers system image (Ok state)
  pub has_snapshot : snapshot_from system image restart ≡ Ok snapshot
  pub next : unit ≡ next_unit snapshot (log_in system image restart).records

-- An image that is found is opened, where no counter is spent.
pub record IsReopened (system : System) (text : List ℕ) (image : Image) (parts : OpeningParts) (state : LastingState) : Type 0 where
  pub restart : RestartSector
  pub found : IsFound system text image restart parts.next_unit state
  pub unspent : spent_in system image restart parts.next_unit state ≡ None
  pub next : IsNext system image restart parts.now

-- what a cold start begins with
pub record IsBegunCold (system : System) (parts : OpeningParts) (state : LastingState) : Type 0 where
  pub empty : state ≡ empty_state system
  pub next_unit : parts.next_unit ≡ 1
  pub first : IsFirstRestart parts.now

-- Where sector 0 is all zeros, the image is begun cold.
pub record IsColdImage (system : System) (image : Image) (parts : OpeningParts) (state : LastingState) : Type 0 where
  pub zeros : restart_in (snapshot_area system) (is_single system) image ≡ Ok None
  pub begun : IsBegunCold system parts state

-- The text is not that of the image, from this place on.
pub record IsOther (system : System) (text : List ℕ) (image : Image) (place : ℕ) : Type 0 where
  pub restart : RestartSector
  pub has_restart : restart_in (snapshot_area system) (is_single system) image ≡ Ok (Some restart)
  pub differs : first_difference text (text_in image restart.text) ≡ Some place

-- A rule is broken: one on the restart sector, or one on the rest of an image with this text.
pub record IsBad (system : System) (text : List ℕ) (image : Image) (rule sector : ℕ) : Type 0 where
  pub recovers : Recovers system image (Err (rule, sector))
  pub same : (restart : RestartSector) → restart_in (snapshot_area system) (is_single system) image ≡ Ok (Some restart) → first_difference text (text_in image restart.text) ≡ None

-- a counter is spent
pub record IsSpent (system : System) (text : List ℕ) (image : Image) (counter : Counter) : Type 0 where
  pub restart : RestartSector
  pub unit : ℕ
  pub state : LastingState
  pub found : IsFound system text image restart unit state
  pub spent : spent_in system image restart unit state ≡ Some counter

-- ---- answers

-- the disk has fewer sectors than the system needs
pub record IsTooSmall (system : System) (size needed has : ℕ) : Type 0 where
  pub right_need : needed ≡ sectors_needed system
  pub right_size : has ≡ size
  pub less : has < needed

-- The size is looked at first, on every disk.
abbrev pub SizeFirst : System → ℕ → Result (OpeningParts × LastingState) OpenError → Type 0
SizeFirst system size (Err (TooSmall needed has)) = IsTooSmall system size needed has
SizeFirst system size (Ok opened) = sectors_needed system ≤ size
SizeFirst system size (Err (BadImage rule sector)) = sectors_needed system ≤ size
SizeFirst system size (Err (WrongDefinition place)) = sectors_needed system ≤ size
SizeFirst system size (Err (Spent counter)) = sectors_needed system ≤ size
SizeFirst system size (Err Disk) = sectors_needed system ≤ size
SizeFirst system size (Err Memory) = sectors_needed system ≤ size

-- What opening an image answers that is large enough, where there is memory and the disk doesn't fail. The restart sector
-- is looked at first, then the text, the rest of the image, and the counters.
abbrev pub TellsOpening : System → List ℕ → Image → Result (OpeningParts × LastingState) OpenError → Type 0
TellsOpening system text image (Ok opened) = IsReopened system text image opened.0 opened.1 ⊎ IsColdImage system image opened.0 opened.1
TellsOpening system text image (Err (BadImage rule sector)) = IsBad system text image rule sector
TellsOpening system text image (Err (WrongDefinition place)) = IsOther system text image place
TellsOpening system text image (Err (Spent counter)) = IsSpent system text image counter
TellsOpening system text image (Err (TooSmall needed has)) = Unit {0}
TellsOpening system text image (Err Disk) = Unit {0}
TellsOpening system text image (Err Memory) = Unit {0}

-- A cold start looks at the size alone.
abbrev pub TellsCold : System → Result (OpeningParts × LastingState) OpenError → Type 0
TellsCold system (Ok opened) = IsBegunCold system opened.0 opened.1
TellsCold system (Err (TooSmall needed has)) = Unit {0}
TellsCold system (Err (BadImage rule sector)) = ⊥
TellsCold system (Err (WrongDefinition place)) = ⊥
TellsCold system (Err (Spent counter)) = ⊥
TellsCold system (Err Disk) = Unit {0}
TellsCold system (Err Memory) = Unit {0}

-- What is judged before a life begins, on every disk, also on one that doesn't tell its contents: the state keeps the rules
-- and is one of the system, and its messages and replies have 1 to 32 segments; the restart sector is one of the system with
-- this text; units are numbered from 1; and no counter was spent before the life took its epoch and its checkpoint.
pub record MayBegin (system : System) (text : List ℕ) (parts : OpeningParts) (state : LastingState) : Type 0 where
  pub keeps_rules : breaks_a_rule system state ≡ false
  pub of_system : IsOfSystem system state
  pub counted : AreSegmentsCounted state
  pub restart : IsRestart parts.now
  pub sectors : parts.now.sectors ≤ snapshot_area system
  pub text_size : parts.now.text ≡ length text
  pub some_unit : 0 < parts.next_unit
  pub unspent : first_spent (counters (parts.now.epoch - 1) parts.now.sequence (parts.now.checkpoint - 1) parts.next_unit state) ≡ None

-- nothing was written, and the disk didn't fail
pub record WroteNothing (old new : DiskState) : Type 0 where
  pub keeps : Keeps old new
  pub no_fault : new.faults ≡ old.faults

-- The disk failed in the call exactly where that is told, and any other refusal has written nothing.
abbrev pub OpeningCause : Result (OpeningParts × LastingState) OpenError → DiskState → DiskState → Type 0
OpeningCause (Ok opened) old new = new.faults ≡ old.faults
OpeningCause (Err Disk) old new = FailedSince old new
OpeningCause (Err (TooSmall needed has)) old new = WroteNothing old new
OpeningCause (Err (BadImage rule sector)) old new = WroteNothing old new
OpeningCause (Err (WrongDefinition place)) old new = WroteNothing old new
OpeningCause (Err (Spent counter)) old new = WroteNothing old new
OpeningCause (Err Memory) old new = WroteNothing old new
