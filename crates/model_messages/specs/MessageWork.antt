-- The work on a message, as far as calls on PCB 0 and on output PCBs change it.
use Rattle.std.specs.Prelude.{ℕ, Bool, false, List, [], ◌∷◌, Option, Some, None, map}
use Rattle.tm_types.specs.declared.message.Message.{Message}
use Rattle.model_messages.specs.declared.conversation.Conversation.{Conversation}
use Rattle.model_system.specs.declared.code.Transaction.{Transaction}
use Rattle.model_system.specs.declared.pcb.Pcb.{Pcb}
use Rattle.model_system.specs.declared.pcb.Pcb.TheVariants.{Database, Destination, Modifiable}
use Rattle.model_messages.specs.declared.ended_message.EndedMessage.{EndedMessage}
use Rattle.model_messages.specs.declared.open_pcb.OpenPcb.{OpenPcb}

-- The message's segments; the conversation that it belongs to, if it does, and the pad that was given back;
-- whether the script has got the first text, and the place of the one that is given next; the longest LL of a
-- segment that is inserted, and how many may be; how many were, by all PCBs together; the PCBs, of which PCB 0 is
-- the first; and the messages that were ended, in the order in which they were.
pub record MessageWork : Type 0 where
  pub segments : List (List ℕ)
  pub conversation : Option Conversation
  pub returned : Option (List ℕ)
  pub begun : Bool
  pub place : ℕ
  pub size_limit : ℕ
  pub count_limit : ℕ
  pub inserted : ℕ
  pub pcbs : List OpenPcb
  pub ended : List EndedMessage

-- a PCB by which nothing was done: no destination is chosen, and no message under construction
abbrev pub fresh_pcb : Pcb → OpenPcb
fresh_pcb kind = record { kind = kind; chosen = None; segments = [] }

-- PCB 0, whose destination is the message's origin, and the program's PCBs
abbrev pub fresh_pcbs : List ℕ → List Pcb → List OpenPcb
fresh_pcbs origin pcbs = map fresh_pcb (Destination origin ∷ pcbs)

-- the work on a message, in this conversation or in none, before the first call, by a program with these PCBs
abbrev pub message_start : Transaction → Message → Option Conversation → List Pcb → MessageWork
message_start transaction message conversation pcbs = record {
  segments = message.segments;
  conversation = conversation;
  returned = None;
  begun = false;
  place = 0;
  size_limit = transaction.segment_size;
  count_limit = transaction.segment_count;
  inserted = 0;
  pcbs = fresh_pcbs message.origin pcbs;
  ended = [];
}

-- Where a message by a PCB goes: to the PCB's own destination, or to the one that was chosen. A PCB
-- of a database has none.
abbrev pub destination_by : Pcb → Option (List ℕ) → Option (List ℕ)
destination_by (Destination name) chosen = Some name
destination_by Modifiable chosen = chosen
destination_by (Database number options) chosen = None

abbrev pub destination_of : OpenPcb → Option (List ℕ)
destination_of p = destination_by p.kind p.chosen

-- a message that is ended, which is none where it has no segments or no destination
abbrev pub ended_to : Option (List ℕ) → List (List ℕ) → List EndedMessage
ended_to None segments = []
ended_to (Some to) [] = []
ended_to (Some to) (segment ∷ segments) = record { to = to; segments = segment ∷ segments } ∷ []

-- what ends with the message under construction of a PCB, and the PCB after it, which keeps its
-- destination
abbrev pub output_ended_by : OpenPcb → List EndedMessage
output_ended_by p = ended_to (destination_of p) p.segments

abbrev pub without_output : OpenPcb → OpenPcb
without_output p = record p { segments = [] }
