-- What a life does while nothing is forced, and what an image has of it then.
use Rattle.std.specs.Prelude.{◌≡◌, ◌⊎◌, ℕ, Bool, List, [], ◌∷◌}
use Rattle.tm_disk.specs.Disk.{Image, DiskState}
use Rattle.model_system.specs.System.{System}
use Rattle.model_machine.specs.Machine.{LastingState}
use Rattle.log_writer.specs.Writer.{Writer}
use Rattle.log_writer.specs.ForcedLog.{AddsFront, AddsAll}
use Rattle.checkpointing.specs.Checkpoint.{KeepsRecovery}
use Rattle.disk_law.specs.Life.{LifeOnDisk, IsLifeOnDisk}
use Rattle.disk_law.specs.KeptImages.{AreImagesKept}
use Rattle.disk_law.specs.SlotChanges.{SlotChange, with_slot_change, MayChange, life_without_unit, MarksBack}
use Rattle.disk_law.specs.LifeSteps.{StepOnDisk, IsStep, after_step}

-- A unit changes a slot; a unit ends without a sync point, behind which these slots count as changed; or a step lasts.
pub data Move : Type 0 where
  Changes : ℕ → SlotChange → Move
  GivesUp : ℕ → (ℕ → ℕ → Bool) → Move
  Lasts : StepOnDisk → Move

abbrev pub after_move : Move → LifeOnDisk → LifeOnDisk
after_move (Changes unit change) life = with_slot_change unit change life
after_move (GivesUp unit changed) life = life_without_unit unit changed life
after_move (Lasts step) life = after_step step life

abbrev pub MayMove : Move → LifeOnDisk → Type 0
MayMove (Changes unit change) life = MayChange unit change life
MayMove (GivesUp unit changed) life = MarksBack unit changed life
MayMove (Lasts step) life = IsStep life step

-- one move after another
abbrev pub after_moves : List Move → LifeOnDisk → LifeOnDisk
after_moves [] life = life
after_moves (move ∷ moves) life = after_moves moves (after_move move life)

abbrev pub MayMoveAll : List Move → LifeOnDisk → Type 0
MayMoveAll [] life = Unit {0}
MayMoveAll (move ∷ moves) life = MayMove move life × MayMoveAll moves (after_move move life)

-- what lasts behind each of the steps among them
abbrev pub states_behind : List Move → List LastingState
states_behind [] = []
states_behind (Lasts step ∷ moves) = step.lasting ∷ states_behind moves
states_behind (Changes unit change ∷ moves) = states_behind moves
states_behind (GivesUp unit changed ∷ moves) = states_behind moves

-- The life goes on to the one behind by moves, whose steps leave these states.
pub record GoesOn (states : List LastingState) (life behind : LifeOnDisk) : Type 0 where
  pub moves : List Move
  pub may : MayMoveAll moves life
  pub ends : after_moves moves life ≡ behind
  pub leaves : states_behind moves ≡ states

-- Each image that a crash may leave has all of some life, of which nothing waits for a force, and from which this one has gone on. These
-- are the states: what lasts in the one that all images have, and behind each step since.
pub record PendsBehind (states : List LastingState) (life : LifeOnDisk) (disk : DiskState) : Type 0 where
  pub forced : LifeOnDisk
  pub is_life : IsLifeOnDisk forced
  pub nothing : forced.appended ≡ []
  pub kept : AreImagesKept forced disk
  pub since : List LastingState
  pub goes : GoesOn since forced life
  pub are : states ≡ forced.lasting ∷ since

-- ---- a checkpoint, before which all is forced

-- An image got all that waited for a force, and recovers as it did then.
pub record RecoversBehindForce (system : System) (log : Writer) (before after : Image) : Type 0 where
  pub middle : Image
  pub all : AddsAll log before middle
  pub keeps : KeepsRecovery system middle after

-- It got a front of that; or all of it, and recovers as it did then.
abbrev pub KeepsBehindForce : System → Writer → Image → Image → Type 0
KeepsBehindForce system log before after = AddsFront log before after ⊎ RecoversBehindForce system log before after
