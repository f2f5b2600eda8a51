-- An input that is new was refused for nothing.
use Rattle.std.proofs.Common.{◌≡◌, ℕ, ◌+◌, ◌≤◌, nat_le, nat_lt, Bool, true, false, List, length, Option, Some, None, Result, Ok, Err, refl, arith}
use Rattle.std.specs.Prelude.{if◌then◌else◌}
use Rattle.std.specs.Option.{is_some, option_and_then, option_map_or, option_or, unwrap_or}
use Rattle.std.proofs.lemmas.Bool.{ltb-false}
use Rattle.tm_types.specs.Segment.{counted_bytes}
use Rattle.model_messages.specs.declared.conversation.Conversation.{Conversation}
use Rattle.model_messages.specs.ConversationInput.{busy_id}
use Rattle.model_messages.specs.Terminals.{conversation_at}
use Rattle.model_system.specs.declared.code.Code.{Code}
use Rattle.model_system.specs.declared.code_state.CodeState.{CodeState}
use Rattle.model_system.specs.Codes.{code_at}
use Rattle.model_system.specs.System.{System}
use Rattle.model_messages.specs.Room.{input_needs}
use Rattle.model_machine.specs.declared.entry.InputRefused.{InputRefused}
use Rattle.model_machine.specs.declared.entry.InputRefused.TheVariants.{Terminal as NoTerminal, StoppedTerminal, Code as NoCode, StoppedCode, Expected, SegmentsOver, QueueFull}
use Rattle.model_machine.specs.declared.entry.Taken.{Taken}
use Rattle.model_machine.specs.declared.entry.Taken.TheVariants.{New, Already}
use Rattle.model_machine.specs.declared.lasting.TerminalState.{TerminalState}
use Rattle.model_machine.specs.LastingSteps.{KeptInput, LastingStep, kept_input}
use Rattle.model_machine.specs.CommandAnswers.{state_now}
use Rattle.model_machine.specs.Machine.{Moment, busy_slots, content, terminal_at}
use Rattle.model_machine.specs.MachineCalls.{Refusal, accepted_step, busy_by, busy_conversation, by_count, by_number, by_room, first_refusal, input_answer, many_segments, most_segments, no_room, refusals, stopped_code, stopped_terminal, unknown_code, unknown_terminal, wrong_number}

-- no refusal says that an input is new
abbrev IsRefusal : Refusal → Type 0
IsRefusal None = Unit {0}
IsRefusal (Some (Ok (New id))) = ⊥
IsRefusal (Some _) = Unit {0}

if_refused : (b : Bool) (r : Result Taken InputRefused) → IsRefusal (Some r) → IsRefusal (if b then None else Some r)
if_refused true r is = tt
if_refused false r is = is

so_refused : (b : Bool) (r : Result Taken InputRefused) → IsRefusal (Some r) → IsRefusal (if b then Some r else None)
so_refused true r is = is
so_refused false r is = tt

number_refused : (last number : ℕ) → IsRefusal (by_number last number)
number_refused last number = by (nat_le number last) (nat_lt (last + 1) number) where
  by : (b c : Bool) → IsRefusal (if b then Some (Ok Already) else if c then Some (Err (Expected (last + 1))) else None)
  by true c = tt
  by false true = tt
  by false false = tt

wrong_refused : (found : Option TerminalState) (number : ℕ) → IsRefusal (option_and_then (λ (t : TerminalState). by_number t.last number) found)
wrong_refused None number = tt
wrong_refused (Some t) number = number_refused t.last number

busy_refused : (conversation : Option Conversation) (id : Option ℕ) → IsRefusal (busy_by conversation id)
busy_refused None id = tt
busy_refused (Some c) None = tt
busy_refused (Some c) (Some id) = tt

count_refused : (most count : ℕ) → IsRefusal (by_count most count)
count_refused most count = by (nat_lt most count) where
  by : (b : Bool) → IsRefusal (if b then Some (Err (SegmentsOver count most)) else None)
  by true = tt
  by false = tt

many_refused : (code : Option Code) (count : ℕ) → IsRefusal (option_and_then (λ (c : Code). by_count (most_segments c.transaction.segment_kind) count) code)
many_refused None count = tt
many_refused (Some code) count = count_refused (most_segments code.transaction.segment_kind) count

room_refused : (need limit : ℕ) → IsRefusal (by_room need limit)
room_refused need limit = by (nat_lt limit need) where
  by : (b : Bool) → IsRefusal (if b then Some (Err (QueueFull need limit)) else None)
  by true = tt
  by false = tt

or_refused : (a b : Refusal) → IsRefusal a → IsRefusal b → IsRefusal (option_or a b)
or_refused None b is more = more
or_refused (Some r) b is more = is

-- an input that is accepted was refused by none of them
none_of : (refusal : Refusal) (terminal : List ℕ) (number id : ℕ) (kept : KeptInput) (step : LastingStep) → IsRefusal refusal
    → accepted_step terminal number kept (unwrap_or refusal (Ok (New id))) ≡ Some step → refusal ≡ None
none_of None terminal number id kept step is e = refl
none_of (Some (Ok (New other))) terminal number id kept step is e = absurd is
none_of (Some (Ok Already)) terminal number id kept step is e = cc
none_of (Some (Err refused)) terminal number id kept step is e = cc

both_none : (a b : Refusal) → option_or a b ≡ None → (a ≡ None) × (b ≡ None)
both_none None b e = (refl, e)
both_none (Some r) b e = cc

-- what holds of an input that is accepted
pub record IsNew (system : System) (moment : Moment) (terminal : List ℕ) (number : ℕ) (segments : List (List ℕ)) : Type 0 where
  pub terminal_known : unknown_terminal moment.lasting terminal ≡ None
  pub number_next : wrong_number moment.lasting terminal number ≡ None
  pub free : busy_conversation moment.lasting terminal ≡ None
  pub code_known : unknown_code system.codes (kept_input system moment.lasting terminal segments).code ≡ None
  pub room : no_room system moment (kept_input system moment.lasting terminal segments).segments ≡ None

pub is_new : (system : System) (moment : Moment) (terminal : List ℕ) (number : ℕ) (segments : List (List ℕ)) (step : LastingStep)
    → accepted_step terminal number (kept_input system moment.lasting terminal segments) (input_answer system moment terminal number segments) ≡ Some step → IsNew system moment terminal number segments
is_new system moment terminal number segments step e =
    let kept = kept_input system moment.lasting terminal segments in
    let one = unknown_terminal moment.lasting terminal in
    let stopped = stopped_terminal moment.lasting terminal in
    let two = wrong_number moment.lasting terminal number in
    let three = busy_conversation moment.lasting terminal in
    let four = unknown_code system.codes kept.code in
    let halted = stopped_code system moment kept.code in
    let five = many_segments system.codes kept in
    let six = no_room system moment kept.segments in
    let need = input_needs (content moment.lasting) (counted_bytes kept.segments) (busy_slots moment.slots) in
    let r7 : IsRefusal (option_or six None) =
    or_refused six None (room_refused need system.qbytes) tt in
    let r6 : IsRefusal (option_or five (option_or six None)) =
    or_refused five (option_or six None) (many_refused (code_at system.codes kept.code) (length kept.segments)) r7 in
    let r5 : IsRefusal (option_or halted (option_or five (option_or six None))) =
    or_refused halted (option_or five (option_or six None)) (so_refused (option_map_or (λ (s : CodeState). s.stopped) (state_now system moment kept.code) false) (Err (StoppedCode kept.code)) tt) r6 in
    let r4 : IsRefusal (option_or four (option_or halted (option_or five (option_or six None)))) =
    or_refused four (option_or halted (option_or five (option_or six None))) (if_refused (is_some (code_at system.codes kept.code)) (Err NoCode) tt) r5 in
    let r3 : IsRefusal (option_or three (option_or four (option_or halted (option_or five (option_or six None))))) =
    or_refused three (option_or four (option_or halted (option_or five (option_or six None)))) (busy_refused (conversation_at terminal moment.lasting.conversations) (busy_id terminal moment.lasting.messages)) r4 in
    let r2 : IsRefusal (option_or two (option_or three (option_or four (option_or halted (option_or five (option_or six None)))))) =
    or_refused two (option_or three (option_or four (option_or halted (option_or five (option_or six None))))) (wrong_refused (terminal_at moment.lasting.terminals terminal) number) r3 in
    let r1 : IsRefusal (option_or stopped (option_or two (option_or three (option_or four (option_or halted (option_or five (option_or six None))))))) =
    or_refused stopped (option_or two (option_or three (option_or four (option_or halted (option_or five (option_or six None)))))) (so_refused (option_map_or (λ (t : TerminalState). t.stopped) (terminal_at moment.lasting.terminals terminal) false) (Err StoppedTerminal) tt) r2 in
    let r0 : IsRefusal (first_refusal (refusals system moment terminal number kept)) =
    or_refused one (option_or stopped (option_or two (option_or three (option_or four (option_or halted (option_or five (option_or six None))))))) (if_refused (is_some (terminal_at moment.lasting.terminals terminal)) (Err NoTerminal) tt) r1 in
    let none = none_of (first_refusal (refusals system moment terminal number kept)) terminal number moment.lasting.next_id kept step r0 e in
    let p0 = both_none one (option_or stopped (option_or two (option_or three (option_or four (option_or halted (option_or five (option_or six None))))))) none in
    let p1 = both_none stopped (option_or two (option_or three (option_or four (option_or halted (option_or five (option_or six None)))))) p0.1 in
    let p2 = both_none two (option_or three (option_or four (option_or halted (option_or five (option_or six None))))) p1.1 in
    let p3 = both_none three (option_or four (option_or halted (option_or five (option_or six None)))) p2.1 in
    let p4 = both_none four (option_or halted (option_or five (option_or six None))) p3.1 in
    let p5 = both_none halted (option_or five (option_or six None)) p4.1 in
    let p6 = both_none five (option_or six None) p5.1 in
    let p7 = both_none six None p6.1 in
    record { terminal_known = p0.0; number_next = p2.0; free = p3.0; code_known = p4.0; room = p7.0 }

-- then there is room for it
abbrev full_by : Bool → ℕ → ℕ → Refusal
full_by b need limit = if b then Some (Err (QueueFull need limit)) else None

room_by : (need limit : ℕ) (b : Bool) → nat_lt limit need ≡ b → full_by b need limit ≡ None → need ≤ limit
room_by need limit true e f = cc
room_by need limit false e f = omega (arith, ltb-false limit need e)

pub has_room : (need limit : ℕ) → by_room need limit ≡ None → need ≤ limit
has_room need limit e = room_by need limit (nat_lt limit need) refl e
