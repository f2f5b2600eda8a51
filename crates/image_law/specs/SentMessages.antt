-- What the work on a message may send.
use Rattle.std.specs.Prelude.{◌≡◌, ℕ, ◌+◌, ◌*◌, ◌≤◌, nat_le, Bool, true, ◌&&◌, ◌||◌, List, length, sum_by}
use Rattle.std.specs.List.{list_all}
use Rattle.std.specs.Option.{option_map_or}
use Rattle.tm_types.specs.Segment.{segment_length, counted_bytes}
use Rattle.model_system.specs.declared.pcb.Pcb.{Pcb}
use Rattle.model_system.specs.declared.pcb.Pcb.TheVariants.{Database, Destination, Modifiable}
use Rattle.model_system.specs.System.{System}
use Rattle.model_messages.specs.declared.ended_message.EndedMessage.{EndedMessage}
use Rattle.model_messages.specs.declared.open_pcb.OpenPcb.{OpenPcb}
use Rattle.model_messages.specs.MessageWork.{MessageWork, destination_of}
use Rattle.model_image.specs.States.{is_system_terminal}
use Rattle.image_law.specs.StepNeeds.{takes_switched}

-- a terminal, or a code without conversations
abbrev pub is_receiver : System → List ℕ → Bool
is_receiver system name = is_system_terminal system name || takes_switched system name

-- a PCB of a program that sends to one, where its destination is its own
abbrev pub sends_well : System → Pcb → Bool
sends_well system (Destination name) = is_receiver system name
sends_well system (Database number options) = true
sends_well system Modifiable = true

-- segments of at most 2,000 bytes with their LL
abbrev pub is_short_text : List ℕ → Bool
is_short_text text = nat_le (segment_length text) 2000

-- a PCB whose message under construction has such segments, and goes to a receiver, if anywhere
abbrev pub is_well : System → OpenPcb → Bool
is_well system p = sends_well system p.kind && (option_map_or (is_receiver system) (destination_of p) true && list_all is_short_text p.segments)

-- the bytes that ended messages count
abbrev pub ended_bytes : EndedMessage → ℕ
ended_bytes output = counted_bytes output.segments

abbrev pub sent_bytes : List EndedMessage → ℕ
sent_bytes outputs = sum_by ended_bytes outputs

-- how many segments are under construction
abbrev pub segments_built : OpenPcb → ℕ
segments_built p = length p.segments

abbrev pub open_segments : List OpenPcb → ℕ
open_segments pcbs = sum_by segments_built pcbs

-- a message that goes to a receiver
abbrev pub is_sent_well : System → EndedMessage → Bool
is_sent_well system output = is_receiver system output.to

-- A unit inserts at most 32 segments, each of at most 2,000 bytes. As an ended message has a segment at least and counts 48
-- bytes more than its segments, each segment that was inserted stands for 2,048 bytes at most.
pub record SendsWithin (system : System) (work : MessageWork) : Type 0 where
  pub size : work.size_limit ≤ 2000
  pub count : work.count_limit ≤ 32
  pub inserted : work.inserted ≤ work.count_limit
  pub bytes : sent_bytes work.ended + open_segments work.pcbs * 2048 ≤ work.inserted * 2048
  pub pcbs : list_all (is_well system) work.pcbs ≡ true
  pub ended : list_all (is_sent_well system) work.ended ≡ true
