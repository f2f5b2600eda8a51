-- Images that recover alike.
use Rattle.std.specs.Prelude.{Result}
use Rattle.tm_disk.specs.Disk.{Image}
use Rattle.model_system.specs.System.{System}
use Rattle.model_machine.specs.Machine.{LastingState}
use Rattle.model_image.specs.Faults.{Fault}
use Rattle.model_image.specs.RecoveredState.{Recovers}

-- Whatever the one image recovers to, a state or a broken rule, the other does.
abbrev pub RecoversAlike : System → Image → Image → Type 0
RecoversAlike system before after = (answer : Result LastingState Fault) → Recovers system before answer → Recovers system after answer
