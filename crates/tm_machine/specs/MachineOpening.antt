-- What a control region goes on with.
use Rattle.std.specs.Prelude.{◌≡◌, false}
use Rattle.model_system.specs.System.{System}
use Rattle.model_machine.specs.Machine.{LastingState}
use Rattle.model_image.specs.States.{breaks_a_rule}
use Rattle.checkpointing.specs.SnapshotRecords.{IsOfSystem}
use Rattle.openings.specs.OpeningParts.{OpeningParts, AreOpeningParts}

-- The parts are those of a state of this system that breaks no rule.
pub record IsOpenedWith (system : System) (state : LastingState) (parts : OpeningParts) : Type 0 where
  pub opening : AreOpeningParts system state parts
  pub rules : breaks_a_rule system state ≡ false
  pub of_system : IsOfSystem system state
