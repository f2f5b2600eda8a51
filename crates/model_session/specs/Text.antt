-- What is printed for an entry.
use Rattle.std.specs.Prelude.{ℕ, suc, Option, Some, None, Result, Ok, Err, List, [], ◌∷◌, ◌++◌, ◌-◌, ◌/◌, Bool, true, false, if◌then◌else◌, nat_le, take, drop, slice_get, codes, decimal}
use Rattle.std.specs.Option.{option_map_or, option_and_then}
use Rattle.std.specs.List.{flat_map, list_all, position_or_len}
use Rattle.tm_types.specs.Function.{function_name}
use Rattle.tm_types.specs.Digits.{four_digits, digit}
use Rattle.tm_types.specs.declared.status.Status.{Status}
use Rattle.tm_types.specs.declared.status.Status.TheVariants.{Blank}
use Rattle.tm_types.specs.Status.{status_text}
use Rattle.tm_types.specs.declared.message.Reply.{Reply}
use Rattle.tm_types.specs.declared.dbd.Dbd.{Dbd}
use Rattle.tm_types.specs.declared.resource.Resource.{Resource}
use Rattle.model_data.specs.declared.victim.Victim.{Victim}
use Rattle.model_system.specs.FormatLines.{FormatLines}
use Rattle.model_system.specs.ScreenPage.{shown_page}
use Rattle.model_system.specs.SystemFormats.{format_of}
use Rattle.model_system.specs.System.{System}
use Rattle.model_messages.specs.MessageCalls.{without_blanks}
use Rattle.model_machine.specs.declared.entry.Entry.{Entry}
use Rattle.model_machine.specs.declared.entry.Entry.TheVariants.{Accept, Show, Acked as AckedEntry, Turn, Commanded, Checked, Quiet}
use Rattle.model_machine.specs.declared.entry.ControlFault.{ControlFault}
use Rattle.model_machine.specs.declared.entry.Taken.{Taken}
use Rattle.model_machine.specs.declared.entry.Taken.TheVariants.{New, Already}
use Rattle.model_machine.specs.declared.entry.InputRefused.{InputRefused}
use Rattle.model_machine.specs.declared.entry.InputRefused.TheVariants.{Terminal as NoTerminal, StoppedTerminal as IsStoppedTerminal, Expected, Conversation as Conversing, Code as NoCode, StoppedCode, SegmentsOver, QueueFull, Fault as InputFault}
use Rattle.model_machine.specs.declared.entry.ShowAnswer.{ShowAnswer}
use Rattle.model_machine.specs.declared.entry.ShowAnswer.TheVariants.{Reply as Showed, Empty, Stopped as ShowStopped, Unknown as ShowUnknown}
use Rattle.model_machine.specs.declared.entry.Acked.{Acked}
use Rattle.model_machine.specs.declared.entry.Acked.TheVariants.{Removed, Already as AckAlready}
use Rattle.model_machine.specs.declared.entry.AckRefused.{AckRefused}
use Rattle.model_machine.specs.declared.entry.AckRefused.TheVariants.{Unknown as AckUnknown, Ahead, Fault as AckFault}
use Rattle.model_machine.specs.declared.entry.CommandRefused.{CommandRefused}
use Rattle.model_machine.specs.declared.entry.CommandRefused.TheVariants.{UnknownName, Busy, NoConversation, Fault as CommandFault}
use Rattle.model_machine.specs.declared.entry.CheckpointRefused.{CheckpointRefused}
use Rattle.model_machine.specs.declared.entry.CheckpointRefused.TheVariants.{BusyRegion, Fault as CheckpointFault}
use Rattle.model_machine.specs.declared.answer.Answer.{Answer}
use Rattle.model_machine.specs.declared.answer.Answer.TheVariants as answers
use Rattle.model_machine.specs.AnswerText.{answer_text}
use Rattle.model_machine.specs.declared.entry.Turned.{Turned}
use Rattle.model_machine.specs.declared.entry.Turned.TheVariants.{Scheduled, Called, Next, QC, Done, Abended, Idle, Held, Waits, Backed}
use Rattle.model_machine.specs.Machine.{Moment, output_at}
use Rattle.model_session.specs.declared.asked.ImageRefused.{ImageRefused}
use Rattle.model_session.specs.declared.asked.ImageRefused.TheVariants.{Rule, Text as ImageText, Size}
use Rattle.model_session.specs.declared.asked.InputStopped.{InputStopped}
use Rattle.model_session.specs.declared.asked.InputStopped.TheVariants.{Terminal as StoppedTerminal, Format as StoppedFormat, Field as StoppedField, TooLong}
use Rattle.model_machine.specs.LastingSteps.{code_word}

-- a word and a blank
abbrev pub spaced : List ℕ → List ℕ
spaced word = word ++ 32 ∷ []

-- the end of a printed line
abbrev pub line_end : List ℕ
line_end = 10 ∷ []

-- a terminal and a number, as most answers name them
abbrev pub about : List ℕ → List ℕ → ℕ → List ℕ
about word terminal number = spaced word ++ spaced terminal ++ decimal number

-- the first eight bytes of a word that is no code, or a dash where it is empty
abbrev pub shown_word : List ℕ → List ℕ
shown_word [] = codes "-"
shown_word (b ∷ bytes) = take 8 (b ∷ bytes)

-- what is printed for an input whose first word is shown so
abbrev pub input_text : List ℕ → ℕ → List ℕ → Result Taken InputRefused → List ℕ
input_text terminal number word (Ok (New id)) = about (codes "ACK") terminal number ++ line_end
input_text terminal number word (Ok Already) = about (codes "ALREADY") terminal number ++ line_end
input_text terminal number word (Err NoTerminal) = about (codes "REFUSED") terminal number ++ codes " TERMINAL" ++ line_end
input_text terminal number word (Err IsStoppedTerminal) = about (codes "REFUSED") terminal number ++ codes " STOPPED " ++ terminal ++ line_end
input_text terminal number word (Err (Expected next)) = about (codes "REFUSED") terminal number ++ codes " EXPECTED " ++ decimal next ++ line_end
input_text terminal number word (Err (Conversing id)) = about (codes "REFUSED") terminal number ++ codes " CONVERSATION " ++ decimal id ++ line_end
input_text terminal number word (Err NoCode) = about (codes "REFUSED") terminal number ++ codes " CODE " ++ word ++ line_end
input_text terminal number word (Err (StoppedCode code)) = about (codes "REFUSED") terminal number ++ codes " STOPPED " ++ code ++ line_end
input_text terminal number word (Err (SegmentsOver count most)) = about (codes "REFUSED") terminal number ++ codes " SEGMENTS " ++ decimal count ++ 32 ∷ [] ++ decimal most ++ line_end
input_text terminal number word (Err (QueueFull need limit)) = about (codes "REFUSED") terminal number ++ codes " QUEUE FULL " ++ decimal need ++ 32 ∷ [] ++ decimal limit ++ line_end
input_text terminal number word (Err (InputFault fault)) = []

-- a further segment stands on a line of its own
abbrev pub further_line : List ℕ → List ℕ
further_line segment = codes "+ " ++ segment ++ line_end

abbrev pub segments_text : List (List ℕ) → List ℕ
segments_text [] = line_end
segments_text (segment ∷ segments) = segment ++ line_end ++ flat_map further_line segments

abbrev pub reply_text : List ℕ → Reply → List ℕ
reply_text terminal reply = about (codes "OUT") terminal reply.number ++ 32 ∷ [] ++ segments_text reply.segments

-- A page has a line for each row that isn't blank, with the row's number, counted from 1, in two digits.
-- Blanks at the end of a row are dropped.
abbrev pub row_text : ℕ → List ℕ → List ℕ
row_text number [] = []
row_text number (b ∷ bytes) = codes "+ " ++ digit (number / 10) ∷ digit number ∷ 32 ∷ b ∷ bytes ++ line_end

abbrev pub rows_text : ℕ → List (List ℕ) → List ℕ
rows_text number [] = []
rows_text number (row ∷ rows) = row_text number (without_blanks row) ++ rows_text (suc number) rows

abbrev pub page_text : List ℕ → ℕ → List (List ℕ) → List ℕ
page_text terminal number rows = about (codes "OUT") terminal number ++ codes " PAGE" ++ line_end ++ rows_text 1 rows

-- a terminal with a format shows the page of a reply, and another one its segments
abbrev pub shown_text : List ℕ → Option FormatLines → Reply → List ℕ
shown_text terminal (Some format) reply = page_text terminal reply.number (shown_page format reply.segments)
shown_text terminal None reply = reply_text terminal reply

-- a terminal without a reply, and a name that is no terminal's
abbrev pub none_text : List ℕ → List ℕ
none_text terminal = spaced (codes "NONE") ++ terminal ++ line_end

abbrev pub unknown_text : List ℕ → List ℕ
unknown_text terminal = spaced (codes "REFUSED") ++ terminal ++ codes " TERMINAL" ++ line_end

-- a stopped terminal
abbrev pub held_text : List ℕ → List ℕ
held_text terminal = spaced (codes "REFUSED") ++ terminal ++ codes " STOPPED " ++ terminal ++ line_end

-- the first reply that a terminal has at the moment
abbrev pub first_reply : Moment → List ℕ → Option Reply
first_reply moment terminal = option_and_then (λ found. slice_get found.replies 0) (output_at moment.lasting.outputs terminal)

-- the entry keeps the number of the reply that was shown; the text is that of the reply
abbrev pub show_text : System → Moment → List ℕ → ShowAnswer → List ℕ
show_text system moment terminal (Showed number) = option_map_or (shown_text terminal (format_of system terminal)) (first_reply moment terminal) []
show_text system moment terminal Empty = none_text terminal
show_text system moment terminal ShowStopped = held_text terminal
show_text system moment terminal ShowUnknown = unknown_text terminal

abbrev pub ack_text : List ℕ → ℕ → Result Acked AckRefused → List ℕ
ack_text terminal number (Ok Removed) = about (codes "ACKED") terminal number ++ line_end
ack_text terminal number (Ok AckAlready) = about (codes "ALREADY") terminal number ++ line_end
ack_text terminal number (Err AckUnknown) = about (codes "REFUSED") terminal number ++ codes " TERMINAL" ++ line_end
ack_text terminal number (Err (Ahead first)) = about (codes "REFUSED") terminal number ++ codes " FIRST " ++ decimal first ++ line_end
ack_text terminal number (Err (AckFault fault)) = []

-- a region's lines begin with its number
abbrev pub region_line_head : ℕ → List ℕ
region_line_head region = codes "R" ++ decimal region ++ 32 ∷ []

-- a blank status is printed as OK
abbrev pub printed_status : Status → List ℕ
printed_status Blank = codes "OK"
printed_status status = status_text status

-- a resource is printed as the name of its database and its root key, or as the name alone
abbrev pub database_text : List Dbd → ℕ → List ℕ
database_text databases number = option_map_or (λ dbd. dbd.name) (slice_get databases (number - 1)) []

abbrev pub root_text : Option (List ℕ) → List ℕ
root_text (Some root) = 47 ∷ root
root_text None = []

abbrev pub resource_text : List Dbd → Resource → List ℕ
resource_text databases resource = database_text databases resource.db ++ root_text resource.root

-- a ring of regions, turned so that it begins with its lowest one, and these parted by commas
abbrev pub is_lowest : List ℕ → ℕ → Bool
is_lowest regions region = list_all (λ other. nat_le region other) regions

abbrev pub from_lowest : List ℕ → List ℕ
from_lowest regions = drop (position_or_len (is_lowest regions) regions) regions ++ take (position_or_len (is_lowest regions) regions) regions

abbrev pub parted : List ℕ → List ℕ
parted [] = []
parted (region ∷ regions) = decimal region ++ flat_map (λ next. 44 ∷ decimal next) regions

-- a region that gave way, and the ring that it broke
abbrev pub victim_text : Victim → List ℕ
victim_text victim = codes "U0777 " ++ decimal victim.region ++ codes " CYCLE " ++ parted (from_lowest victim.cycle)

-- what a region did; where regions gave way, each of them has a line of its own
abbrev pub did_text : List Dbd → Turned → List ℕ
did_text databases (Scheduled code id) = about (codes "SCHEDULED") code id
did_text databases (Called function pcb status) = spaced (function_name function) ++ spaced (decimal pcb) ++ printed_status status
did_text databases (Next code id next) = about (codes "NEXT") code id ++ 32 ∷ [] ++ decimal next
did_text databases (QC code id) = about (codes "QC") code id
did_text databases (Done code id) = about (codes "DONE") code id
did_text databases (Abended code id abend) = about (codes "ABENDED") code id ++ codes " U" ++ four_digits abend.number
did_text databases Idle = codes "IDLE"
did_text databases (Held need limit) = codes "HELD " ++ decimal need ++ 32 ∷ [] ++ decimal limit
did_text databases (Waits resource by) = codes "WAITS " ++ resource_text databases resource ++ codes " BY " ++ decimal by
did_text databases (Backed victims) = []

abbrev pub region_line : ℕ → List ℕ → List ℕ
region_line region did = region_line_head region ++ did ++ line_end

abbrev pub turned_text : List Dbd → ℕ → Turned → List ℕ
turned_text databases region (Backed victims) = flat_map (λ victim. region_line region (victim_text victim)) victims
turned_text databases region turned = region_line region (did_text databases turned)

abbrev pub turn_text : List Dbd → ℕ → Result Turned ControlFault → List ℕ
turn_text databases region (Ok turned) = turned_text databases region turned
turn_text databases region (Err fault) = []

-- What is printed for an entry at the moment before it. A fault has no text: what is printed for it is its block's.
abbrev pub command_line : Answer → List ℕ
command_line answer = answer_text answer ++ line_end

abbrev pub command_text : Result Answer CommandRefused → List ℕ
command_text (Ok answer) = command_line answer
command_text (Err (UnknownName name)) = command_line (answers.UnknownName name)
command_text (Err (Busy id)) = command_line (answers.ConversationBusy id)
command_text (Err NoConversation) = command_line answers.NoConversation
command_text (Err (CommandFault fault)) = []

-- behind a freeze the system is down
abbrev pub checkpoint_text : Bool → Result ℕ CheckpointRefused → List ℕ
checkpoint_text freeze (Ok number) = if freeze then command_line (answers.Frozen number) else command_line (answers.Checkpoint number)
checkpoint_text freeze (Err (BusyRegion region id)) = command_line (answers.FreezeRefused region id)
checkpoint_text freeze (Err (CheckpointFault fault)) = []

-- it is told that nothing is left to do
abbrev pub quiet_line : Bool → List ℕ
quiet_line true = codes "QUIET" ++ line_end
quiet_line false = []

abbrev pub entry_text : System → Moment → Entry → List ℕ
entry_text system moment (Accept terminal number segments answer) = input_text terminal number (shown_word (code_word segments)) answer
entry_text system moment (Show terminal answer) = show_text system moment terminal answer
entry_text system moment (AckedEntry terminal number answer) = ack_text terminal number answer
entry_text system moment (Turn region answer) = turn_text system.databases region answer
entry_text system moment (Commanded command answer) = command_text answer
entry_text system moment (Checked freeze answer) = checkpoint_text freeze answer
entry_text system moment (Quiet quiet) = quiet_line quiet

-- what is printed for a block that breaks a rule
abbrev pub bad_line_text : ℕ → List ℕ
bad_line_text rule = codes "BAD LINE " ++ decimal rule ++ line_end

-- what is printed for an input that is refused before the control region is asked for it
abbrev pub reason_text : InputStopped → List ℕ
reason_text StoppedTerminal = codes " TERMINAL"
reason_text StoppedFormat = codes " FORMAT"
reason_text (StoppedField name) = codes " FIELD " ++ name
reason_text (TooLong long) = codes " LENGTH " ++ decimal long ++ codes " 1996"

abbrev pub stopped_text : List ℕ → ℕ → InputStopped → List ℕ
stopped_text terminal number reason = about (codes "REFUSED") terminal number ++ reason_text reason ++ line_end

-- what is printed for a command that breaks a rule of commands
abbrev pub bad_command_text : ℕ → List ℕ
bad_command_text rule = codes "BAD COMMAND " ++ decimal rule ++ line_end

-- what is printed where the disk failed, where power failed, and while the system is down
abbrev pub broken_text : List ℕ
broken_text = codes "STOPPED" ++ line_end

abbrev pub power_text : List ℕ
power_text = codes "POWER" ++ line_end

abbrev pub down_text : List ℕ
down_text = codes "DOWN" ++ line_end

-- whether a disk was told to stop at the write that comes after so many, counted from 1
abbrev pub armed_text : Bool → ℕ → List ℕ
armed_text true writes = codes "ARMED " ++ decimal writes ++ line_end
armed_text false writes = codes "NOT ARMED" ++ line_end

-- what is printed for a restart: the system was up; a life opened, with the empty machine or not; or the disk
-- can't be opened
abbrev pub up_text : List ℕ
up_text = codes "UP" ++ line_end

abbrev pub opened_text : Bool → List ℕ
opened_text true = codes "COLD STARTED" ++ line_end
opened_text false = codes "RESTARTED" ++ line_end

abbrev pub image_text : ImageRefused → List ℕ
image_text (Rule rule sector) = codes "IMAGE " ++ decimal rule ++ 32 ∷ [] ++ decimal sector ++ line_end
image_text (ImageText place) = codes "IMAGE TEXT " ++ decimal place ++ line_end
image_text (Size needed has) = codes "IMAGE SIZE " ++ decimal needed ++ 32 ∷ [] ++ decimal has ++ line_end
