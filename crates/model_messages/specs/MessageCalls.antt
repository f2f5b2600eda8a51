-- The calls on PCB 0 and on output PCBs: what each is answered, and the work that it leaves.
use Rattle.std.specs.Prelude.{ℕ, ◌+◌, ◌-◌, nat_lt, nat_le, ◌==◌, ◌&&◌, Bool, true, false, not, if◌then◌else◌, List, [], ◌∷◌, ◌++◌, Option, Some, None, length, map, take, find, slice_get}
use Rattle.std.specs.List.{suffix_len, flat_map}
use Rattle.std.specs.Option.{option_map, option_map_or, option_and_then, option_or, is_some}
use Rattle.std.specs.Str.{bytes_eq}
use Rattle.tm_types.specs.declared.function.Function.{Function}
use Rattle.tm_types.specs.declared.function.Function.TheVariants.{GU, GN, ISRT, PURG, CHNG, ROLB, ROLL}
use Rattle.tm_types.specs.declared.status.Status.{Status}
use Rattle.tm_types.specs.declared.status.Status.TheVariants.{Blank, QD, A2, A3, A6, A7, QH, AM}
use Rattle.tm_types.specs.Segment.{segment_length}
use Rattle.tm_types.specs.declared.abend.AbendCode.{AbendCode}
use Rattle.model_messages.specs.declared.conversation.Conversation.{Conversation}
use Rattle.model_messages.specs.declared.conversation.PadChange.{PadChange}
use Rattle.model_messages.specs.Pads.{fitted_pad, is_pad, pad_change_by}
use Rattle.model_system.specs.declared.need.CallText.{CallText}
use Rattle.model_system.specs.Script.{Answer}
use Rattle.model_system.specs.declared.code.Code.{Code}
use Rattle.model_system.specs.declared.pcb.Pcb.{Pcb}
use Rattle.model_system.specs.declared.pcb.Pcb.TheVariants.{Modifiable}
use Rattle.model_system.specs.System.{System}
use Rattle.model_system.specs.Codes.{code_at}
use Rattle.model_system.specs.Lists.{change_at}
use Rattle.model_messages.specs.declared.ended_message.EndedMessage.{EndedMessage}
use Rattle.model_messages.specs.declared.open_pcb.OpenPcb.{OpenPcb}
use Rattle.model_messages.specs.MessageWork.{MessageWork, fresh_pcb, destination_of, output_ended_by, without_output}

-- an answer without data
abbrev pub status_alone : Status → Answer
status_alone status = record { status = status; area = None }

-- a segment that is there is given with a blank status; where there is none the status is QD
abbrev pub given : Option (List ℕ) → Answer
given (Some text) = record { status = Blank; area = Some text }
given None = status_alone QD

abbrev pub is_blank : Status → Bool
is_blank Blank = true
is_blank _ = false

-- what a message gives one after another: the pad of its conversation, if it belongs to one, and its segments
abbrev pub texts_by : Option Conversation → List (List ℕ) → List (List ℕ)
texts_by None segments = segments
texts_by (Some c) segments = c.pad ∷ segments

abbrev pub work_texts : MessageWork → List (List ℕ)
work_texts work = texts_by work.conversation work.segments

-- GU gives the first text.
abbrev pub unique_answer : MessageWork → Answer
unique_answer work = given (slice_get (work_texts work) 0)

abbrev pub unique_work : MessageWork → MessageWork
unique_work work = record work { begun = true; place = 1 }

-- GN gives the next text behind those that were given, or QD where there is none. Before a GU or a
-- ROLB there is none.
abbrev pub next_answer : MessageWork → Answer
next_answer work = if work.begun then given (slice_get (work_texts work) work.place) else status_alone QD

abbrev pub next_work : MessageWork → MessageWork
next_work work =
    if work.begun && nat_lt work.place (length (work_texts work)) then record work { place = work.place + 1 } else work

-- where a message by the PCB of this number goes, counted from PCB 0
abbrev pub destination_at : List OpenPcb → ℕ → Option (List ℕ)
destination_at pcbs pcb = option_and_then destination_of (slice_get pcbs pcb)

-- In a conversation the first ISRT on PCB 0 gives the pad back; it is no segment, and none of their limits
-- counts for it.
abbrev pub gives_back : MessageWork → ℕ → Bool
gives_back work pcb = (pcb == 0) && is_some work.conversation && not (is_some work.returned)

-- The text is padded with blanks, or cut, to the length of the pad.
abbrev pub returned_pad : Option Conversation → List ℕ → Option (List ℕ)
returned_pad conversation text = option_map (λ c. fitted_pad (length c.pad) text) conversation

-- A text that is shorter than 8 bytes, or begins neither with the conversation's code nor with blanks in its
-- place, is no pad: giving it back ends the work with U0904.
abbrev pub is_wrong_pad : Option Conversation → List ℕ → Bool
is_wrong_pad conversation text = option_map_or (λ c. not (is_pad c.code text)) conversation false

abbrev pub pad_abend : MessageWork → ℕ → List ℕ → Option AbendCode
pad_abend work pcb text = if gives_back work pcb && is_wrong_pad work.conversation text then Some (record { number = 904 }) else None

-- ISRT of a segment is refused with A3 where the PCB has no destination, with A6 where the segment is longer than
-- the code's limit, and with A7 where as many as its count were inserted, in this order. Else the
-- segment is put behind the others of the PCB's message under construction.
abbrev pub segment_status : MessageWork → ℕ → List ℕ → Status
segment_status work pcb text =
    if not (is_some (destination_at work.pcbs pcb)) then A3
    else if nat_lt work.size_limit (segment_length text) then A6
    else if nat_le work.count_limit work.inserted then A7
    else Blank

abbrev pub with_output_segment : List ℕ → OpenPcb → OpenPcb
with_output_segment text p = record p { segments = p.segments ++ text ∷ [] }

abbrev pub segment_work : MessageWork → ℕ → List ℕ → MessageWork
segment_work work pcb text =
    if is_blank (segment_status work pcb text)
    then record work { inserted = work.inserted + 1; pcbs = change_at work.pcbs (Some pcb) (with_output_segment text) }
    else work

-- ISRT of the pad or of a segment
abbrev pub insert_status : MessageWork → ℕ → List ℕ → Status
insert_status work pcb text = if gives_back work pcb then Blank else segment_status work pcb text

abbrev pub insert_work : MessageWork → ℕ → List ℕ → MessageWork
insert_work work pcb text =
    if gives_back work pcb then record work { returned = returned_pad work.conversation text } else segment_work work pcb text

-- PURG is refused with A3 where the PCB has no destination. Else the message under construction, if
-- there is one, is ended: it is the last of those that were.
abbrev pub purge_status : MessageWork → ℕ → Status
purge_status work pcb = if is_some (destination_at work.pcbs pcb) then Blank else A3

abbrev pub ended_at : List OpenPcb → ℕ → List EndedMessage
ended_at pcbs pcb = option_map_or output_ended_by (slice_get pcbs pcb) []

abbrev pub purge_work : MessageWork → ℕ → MessageWork
purge_work work pcb =
    if is_blank (purge_status work pcb)
    then record work { pcbs = change_at work.pcbs (Some pcb) without_output; ended = work.ended ++ ended_at work.pcbs pcb }
    else work

-- a text without the blanks at its end
abbrev pub without_blanks : List ℕ → List ℕ
without_blanks text = take (length text - suffix_len (λ byte. byte == 32) text) text

-- the terminal of this name, or else the code, if it has no conversations
abbrev pub switched_to : Code → Option (List ℕ)
switched_to code = if code.transaction.scratch_pad == 0 then Some code.transaction.code else None

abbrev pub destination_named : System → List ℕ → Option (List ℕ)
destination_named system name =
    option_or (find (λ terminal. bytes_eq terminal name) system.terminals) (option_and_then switched_to (code_at system.codes name))

abbrev pub is_modifiable : Pcb → Bool
is_modifiable Modifiable = true
is_modifiable _ = false

-- a destination can be chosen for a modifiable PCB without a message under construction
abbrev pub can_change : OpenPcb → Bool
can_change p = is_modifiable p.kind && (length p.segments == 0)

-- CHNG is refused with A2 where no destination can be chosen, and then with QH where no terminal and
-- no code without conversations has the name. Else that terminal or code is the PCB's destination.
abbrev pub change_by : Bool → Option (List ℕ) → Status
change_by false to = A2
change_by true None = QH
change_by true (Some to) = Blank

abbrev pub change_status : System → MessageWork → ℕ → List ℕ → Status
change_status system work pcb name =
    change_by (option_map_or can_change (slice_get work.pcbs pcb) false) (destination_named system (without_blanks name))

abbrev pub with_chosen : Option (List ℕ) → OpenPcb → OpenPcb
with_chosen to p = record p { chosen = to }

abbrev pub change_work : System → MessageWork → ℕ → List ℕ → MessageWork
change_work system work pcb name =
    if is_blank (change_status system work pcb name)
    then record work { pcbs = change_at work.pcbs (Some pcb) (with_chosen (destination_named system (without_blanks name))) }
    else work

-- ROLB gives the first text again, as the first GU does. All output is gone, that of messages
-- under construction too, and so are the destinations that were chosen and the pad that was given back; nothing
-- counts as inserted. The place is behind the text that was given.
abbrev pub reset_pcb : OpenPcb → OpenPcb
reset_pcb p = fresh_pcb p.kind

abbrev pub reset_work : MessageWork → MessageWork
reset_work work = record work { returned = None; begun = true; place = 1; inserted = 0; pcbs = map reset_pcb work.pcbs; ended = [] }

-- At the sync point each message under construction is ended, in the order of the PCBs.
abbrev pub finish_work : MessageWork → MessageWork
finish_work work = record work { pcbs = map without_output work.pcbs; ended = work.ended ++ flat_map output_ended_by work.pcbs }

-- what the sync point does with the conversation's pad
abbrev pub pad_change : MessageWork → PadChange
pad_change work = pad_change_by work.returned

-- What a call is answered, and the work after it. ROLL, which isn't answered, and a call that no
-- script makes on these PCBs are answered AM here, and do nothing.
abbrev pub answer_by : Function → System → MessageWork → ℕ → List ℕ → Answer
answer_by GU system work pcb text = unique_answer work
answer_by GN system work pcb text = next_answer work
answer_by ISRT system work pcb text = status_alone (insert_status work pcb text)
answer_by PURG system work pcb text = status_alone (purge_status work pcb)
answer_by CHNG system work pcb text = status_alone (change_status system work pcb text)
answer_by ROLB system work pcb text = unique_answer work
answer_by _ system work pcb text = status_alone AM

abbrev pub message_work_by : Function → System → MessageWork → ℕ → List ℕ → MessageWork
message_work_by GU system work pcb text = unique_work work
message_work_by GN system work pcb text = next_work work
message_work_by ISRT system work pcb text = insert_work work pcb text
message_work_by PURG system work pcb text = purge_work work pcb
message_work_by CHNG system work pcb text = change_work system work pcb text
message_work_by ROLB system work pcb text = reset_work work
message_work_by _ system work pcb text = work

-- ROLL ends the work with U0778, and so does a wrong pad with U0904.
abbrev pub message_abend_by : Function → MessageWork → ℕ → List ℕ → Option AbendCode
message_abend_by ROLL work pcb text = Some (record { number = 778 })
message_abend_by ISRT work pcb text = pad_abend work pcb text
message_abend_by _ work pcb text = None

-- the call of a script
abbrev pub message_answer : System → MessageWork → CallText → Answer
message_answer system work call = answer_by call.function system work call.pcb call.area

abbrev pub message_work : System → MessageWork → CallText → MessageWork
message_work system work call = message_work_by call.function system work call.pcb call.area

abbrev pub message_abend : MessageWork → CallText → Option AbendCode
message_abend work call = message_abend_by call.function work call.pcb call.area
