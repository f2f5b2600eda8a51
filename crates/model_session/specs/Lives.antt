-- Lives of a system, from one opening of its disk to the next, and what is kept of them.
use Rattle.std.specs.Prelude.{◌≡◌, ℕ, ◌+◌, ◌-◌, ◌≤◌, Bool, true, false, List, [], ◌∷◌, ◌++◌, Option, Some, None, Ok, Err}
use Rattle.std.specs.Option.{is_some}
use Rattle.model_machine.specs.declared.entry.Entry.{Entry}
use Rattle.model_machine.specs.declared.entry.Entry.TheVariants.{Accept, Show, Acked, Turn, Commanded, Checked}
use Rattle.model_machine.specs.declared.entry.ControlFault.TheVariants.{Disk}
use Rattle.model_machine.specs.declared.entry.Taken.TheVariants.{New}
use Rattle.model_machine.specs.declared.entry.Acked.TheVariants.{Removed}
use Rattle.model_machine.specs.declared.entry.ShowAnswer.TheVariants.{Reply as ShowReply}
use Rattle.model_machine.specs.declared.entry.InputRefused.TheVariants.{Fault as InputFault}
use Rattle.model_machine.specs.declared.entry.AckRefused.TheVariants.{Fault as AckFault}
use Rattle.model_machine.specs.declared.entry.CommandRefused.TheVariants.{Fault as CommandFault}
use Rattle.model_machine.specs.declared.entry.CheckpointRefused.TheVariants.{Fault as CheckpointFault}
use Rattle.model_system.specs.System.{System}
use Rattle.model_machine.specs.Machine.{LastingState, Moment, start_of}
use Rattle.model_machine.specs.CommandAnswers.{lasting_command}
use Rattle.model_machine.specs.History.{moment_after, IsLegal, AscendAbove}

-- a life as it is kept: what it opened with, the number of the checkpoint with which it did, its entries, how many of its lasting
-- steps were forced, and after how many of them the next life opened
pub record LifeState : Type 0 where
  pub opening : LastingState
  pub checkpoint : ℕ
  pub history : List Entry
  pub forced : ℕ
  pub kept : ℕ

-- a life behind which none has opened yet
pub record LastLife : Type 0 where
  pub opening : LastingState
  pub checkpoint : ℕ
  pub history : List Entry
  pub forced : ℕ

-- the moment that these entries of a life lead to, and the one that it has come to
abbrev pub life_moment : System → LastLife → List Entry → Moment
life_moment system life entries = moment_after system (start_of system life.opening) entries

abbrev pub now_in : System → LastLife → Moment
now_in system life = life_moment system life life.history

abbrev pub longer : LastLife → List Entry → LastLife
longer life entries = record life { history = life.history ++ entries }

-- so many of its lasting steps being forced
abbrev pub forced_to : ℕ → LastLife → LastLife
forced_to forced life = record life { forced = forced }

-- the number of the last checkpoint that these entries tell of, or this one
abbrev pub last_told : ℕ → List Entry → ℕ
last_told number [] = number
last_told number (Checked freeze (Ok told) ∷ entries) = last_told told entries
last_told number (entry ∷ entries) = last_told number entries

-- the last one that is known of a life
abbrev pub last_number : LastLife → ℕ
last_number life = last_told life.checkpoint life.history

-- an entry that ends its life: a freeze that was answered
abbrev pub ends_life : Entry → Bool
ends_life (Checked true (Ok number)) = true
ends_life _ = false

-- an entry has the disk's fault in place of its answer
abbrev pub is_disk_fault : Entry → Bool
is_disk_fault (Accept terminal number segments (Err (InputFault Disk))) = true
is_disk_fault (Acked terminal number (Err (AckFault Disk))) = true
is_disk_fault (Turn region (Err Disk)) = true
is_disk_fault (Commanded command (Err (CommandFault Disk))) = true
is_disk_fault (Checked freeze (Err (CheckpointFault Disk))) = true
is_disk_fault _ = false

-- A life that opened with this state is legal: each entry is the machine's answer at its place, but that the disk may have
-- failed in the last call, and no other fault stands there; and the numbers of checkpoints ascend from the one with which it opened.
pub record IsLegalLife (system : System) (opening : LastingState) (checkpoint : ℕ) (history : List Entry) : Type 0 where
  pub legal : IsLegal system (start_of system opening) history
  pub by_disk : (entry : Entry) → legal.last ≡ Some entry → is_disk_fault entry ≡ true
  pub numbers : AscendAbove checkpoint history

-- A life is legal, and so many of its lasting steps were answered.
pub record HasAnswered (system : System) (life : LastLife) (count : ℕ) : Type 0 where
  pub life_is : IsLegalLife system life.opening life.checkpoint life.history
  pub counted : life.opening.steps + count ≡ (life_moment system life life_is.legal.steps).lasting.steps

-- What a life leaves: the state after a front of its entries that has at least the lasting steps that were forced. So many are kept then.
pub record LifeLeaves (system : System) (life : LastLife) (kept : ℕ) (state : LastingState) : Type 0 where
  pub front : List Entry
  pub rest : List Entry
  pub split : life.history ≡ front ++ rest
  pub left : state ≡ (life_moment system life front).lasting
  pub counted : kept ≡ state.steps - life.opening.steps
  pub enough : life.forced ≤ kept

-- ---- what is forced

-- The text of an entry binds: an input was accepted, a reply was removed, a command was done that lasts, a reply was shown, or a
-- checkpoint was taken. It is printed only once all lasting steps up to it are forced.
abbrev pub binds : Entry → Bool
binds (Accept terminal number segments (Ok (New id))) = true
binds (Acked terminal number (Ok Removed)) = true
binds (Commanded command (Ok answer)) = is_some (lasting_command command)
binds (Show terminal (ShowReply number)) = true
binds (Checked freeze (Ok number)) = true
binds entry = false

-- all lasting steps of the life are forced, where so many are
abbrev pub IsAllForced : System → LastLife → ℕ → Type 0
IsAllForced system life forced = life.opening.steps + forced ≡ (now_in system life).lasting.steps

-- So many lasting steps of the life are forced then: no fewer than before, no more than it has, and all of them where a text binds.
pub record IsForcedTo (system : System) (life : LastLife) (bound : Bool) (forced : ℕ) : Type 0 where
  pub least : life.forced ≤ forced
  pub most : life.opening.steps + forced ≤ (now_in system life).lasting.steps
  pub all : bound ≡ true → IsAllForced system life forced

-- the entry of a force in which the disk failed
abbrev pub failed_force : Entry
failed_force = Checked false (Err (CheckpointFault Disk))

-- the life with what is kept of it, behind those before it
abbrev pub kept_life : LastLife → ℕ → LifeState
kept_life life kept = record { opening = life.opening; checkpoint = life.checkpoint; history = life.history; forced = life.forced; kept = kept }

abbrev pub with_life : List LifeState → Option LastLife → ℕ → List LifeState
with_life lives None kept = lives
with_life lives (Some life) kept = lives ++ kept_life life kept ∷ []

-- each of these lives is legal
abbrev pub AreLegal : System → List LifeState → Type 0
AreLegal system [] = Unit {0}
AreLegal system (life ∷ lives) = IsLegalLife system life.opening life.checkpoint life.history × AreLegal system lives
