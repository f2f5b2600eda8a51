-- What is printed for the answer to a command, without the end of its line.
use Rattle.std.specs.Prelude.{ℕ, Bool, true, false, Option, Some, None, List, [], ◌∷◌, ◌++◌, codes, decimal}
use Rattle.std.specs.List.{flat_map}
use Rattle.model_machine.specs.declared.active.RegionWork.{RegionWork}
use Rattle.model_machine.specs.declared.active.RegionWork.TheVariants.{Idle, Working, Waiting}
use Rattle.model_machine.specs.declared.active.ActiveRegion.{ActiveRegion}
use Rattle.model_machine.specs.declared.answer.Answer.{Answer}
use Rattle.model_machine.specs.declared.answer.Answer.TheVariants.{Started, Stopped, Transaction, Terminal, Active, Checkpoint, Frozen, FreezeRefused, Dequeued, Exited, AssignedClass, AssignedPriority, ConversationBusy, NoConversation, Restarted, ColdStarted, Up, UnknownName, Bad}

-- whether a code or a terminal is stopped
abbrev pub state_text : Bool → List ℕ
state_text true = codes " STOPPED"
state_text false = codes " STARTED"

-- a resource is printed as the name of its database and its root key, or as the name alone
abbrev pub answer_root_text : Option (List ℕ) → List ℕ
answer_root_text (Some root) = codes "/" ++ root
answer_root_text None = []

-- the code and the id of a message
abbrev pub message_text : List ℕ → ℕ → List ℕ
message_text code id = codes " " ++ code ++ codes " " ++ decimal id

-- what a region does
abbrev pub work_text : RegionWork → List ℕ
work_text Idle = codes " IDLE"
work_text (Working code id) = message_text code id
work_text (Waiting code id database root by) = message_text code id ++ codes " WAITS " ++ database ++ answer_root_text root ++ codes " BY " ++ decimal by

abbrev pub region_text : ActiveRegion → List ℕ
region_text region = codes "REGION " ++ decimal region.region ++ work_text region.work

-- regions stand on lines of their own
abbrev pub next_region : ActiveRegion → List ℕ
next_region region = 10 ∷ region_text region

abbrev pub regions_text : List ActiveRegion → List ℕ
regions_text [] = []
regions_text (region ∷ regions) = region_text region ++ flat_map next_region regions

abbrev pub answer_text : Answer → List ℕ
answer_text (Started name) = codes "STARTED " ++ name
answer_text (Stopped name) = codes "STOPPED " ++ name
answer_text (Transaction code class priority queued stopped) = codes "TRANSACTION " ++ code ++ codes " CLASS " ++ decimal class ++ codes " PRIORITY " ++ decimal priority ++ codes " QUEUED " ++ decimal queued ++ state_text stopped
answer_text (Terminal terminal input output kept stopped) = codes "LTERM " ++ terminal ++ codes " IN " ++ decimal input ++ codes " OUT " ++ decimal output ++ codes " KEPT " ++ decimal kept ++ state_text stopped
answer_text (Active regions) = regions_text regions
answer_text (Checkpoint number) = codes "CHECKPOINT " ++ decimal number
answer_text (Frozen number) = codes "FROZEN " ++ decimal number
answer_text (FreezeRefused region id) = codes "REFUSED FREEZE REGION " ++ decimal region ++ codes " MESSAGE " ++ decimal id
answer_text (Dequeued count) = codes "DEQUEUED " ++ decimal count
answer_text (Exited terminal) = codes "EXITED " ++ terminal
answer_text (AssignedClass code class) = codes "ASSIGNED " ++ code ++ codes " CLASS " ++ decimal class
answer_text (AssignedPriority code priority) = codes "ASSIGNED " ++ code ++ codes " PRIORITY " ++ decimal priority
answer_text (ConversationBusy id) = codes "REFUSED CONVERSATION " ++ decimal id
answer_text NoConversation = codes "REFUSED NONE"
answer_text Restarted = codes "RESTARTED"
answer_text ColdStarted = codes "COLD STARTED"
answer_text Up = codes "UP"
answer_text (UnknownName name) = codes "REFUSED NAME " ++ name
answer_text (Bad rule) = codes "BAD COMMAND " ++ decimal rule
