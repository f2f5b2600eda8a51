-- What an input and an acknowledgement are answered.
use Rattle.std.proofs.Common.{◌≡◌, ℕ, ◌+◌, ◌<◌, ◌≤◌, Bool, true, false, not, List, [], ◌∷◌, map, length, refl, sym, ap, ◌∙◌, subst, arith}
use Rattle.std.specs.Prelude.{Option, Some, None, IsSomeAnd, IfOk, OnErr, Result, Ok, Err, cond, if◌then◌else◌, ◌==◌, nat_lt, nat_le, slice_get}
use Rattle.std.specs.Option.{option_map, option_map_or, option_and_then, unwrap_or, is_some}
use Rattle.std.specs.Str.{bytes_eq}
use Rattle.std.specs.List.{position, prefix_len}
use Rattle.std.proofs.lemmas.Bool.{lt-ltb, le-ltb}
use Rattle.model_messages.specs.Queue.{free_count, messages_of}
use Rattle.conversation.specs.declared.conversations.Busy.{Busy as BusyMessage}
use Rattle.conversation.specs.Refusals.{conversation_answer as conversation_answer}
use Rattle.model_messages.specs.declared.conversation.Conversation.{Conversation}
use Rattle.model_system.specs.Codes.{code_at, code_place}
use Rattle.model_system.specs.declared.code.Code.{Code}
use Rattle.model_system.specs.declared.code.SegmentKind.{SegmentKind}
use Rattle.model_system.specs.declared.code.SegmentKind.TheVariants.{Multiple, Single}
use Rattle.model_system.specs.declared.code_state.CodeState.{CodeState}
use Rattle.model_system.specs.System.{System}
use Rattle.system_types.proofs.Indexed.{found_at}
use Rattle.model_machine.proofs.Flags.{states_again}
use Rattle.model_machine.specs.declared.entry.Taken.{Taken}
use Rattle.model_machine.specs.declared.entry.Taken.TheVariants.{New, Already}
use Rattle.model_machine.specs.declared.entry.ControlFault.{ControlFault}
use Rattle.model_machine.specs.declared.entry.InputRefused.{InputRefused}
use Rattle.model_machine.specs.declared.entry.InputRefused.TheVariants.{Terminal as NoTerminal, StoppedTerminal, Expected, Conversation as Conversing, Code as NoCode, StoppedCode, SegmentsOver, QueueFull, Fault}
use Rattle.model_machine.specs.declared.entry.Acked.{Acked}
use Rattle.model_machine.specs.declared.entry.Acked.TheVariants.{Removed, Already as AckAlready}
use Rattle.model_machine.specs.declared.entry.AckRefused.{AckRefused}
use Rattle.model_machine.specs.declared.entry.AckRefused.TheVariants.{Unknown, Ahead, Fault as AckFault}
use Rattle.model_machine.specs.declared.entry.Entry.TheVariants.{Accept, Acked as AckedEntry}
use Rattle.model_machine.specs.declared.lasting.TerminalState.{TerminalState}
use Rattle.model_machine.specs.Machine.{Moment, terminal_at, terminal_place, output_at, moment_with}
use Rattle.model_machine.specs.LastingSteps.{KeptInput, applied, code_word, kept_alone, kept_by, kept_by_code, kept_first, kept_input, without_word}
use Rattle.model_machine.specs.LastingSteps.LastingStep.{Acknowledges}
use Rattle.model_machine.specs.declared.entry.ControlCall.TheVariants.{Acknowledge}
use Rattle.model_machine.specs.MachineCalls.{Refusal, busy_by, first_refusal, by_number, by_count, most_segments, accepted_step, acknowledged_step, ack_by, input_answer, lasting_step, no_room, stopped_by, stopped_code}
use Rattle.log_records.specs.declared.untold.Untold.{Untold}
use Rattle.lasting_state.specs.ToldSteps.{TellsAcknowledged, WouldAcknowledge}
use Rattle.tm_machine.specs.ToldByCall.{IsCallLonger, TellsLastingStep}
use Rattle.tm_machine.proofs.Telling.{unlasting_tells, tells_step, longer_step}
use Rattle.lasting_state.specs.Tables.{TablesState, lasting_of, IsAcknowledged}
use Rattle.region_work.specs.declared.region.Busy.{Busy}
use Rattle.tm_machine.specs.Answers.{IsAnswered}
use Rattle.tm_machine.specs.Inputs.{IsNewInput, IsInputRefusal, code_for, is_input_fault, kept_so, way_by}
use Rattle.tm_machine.specs.declared.input.NewInput.{NewInput}
use Rattle.tm_types.specs.Name.{IsName}
use Rattle.model_messages.specs.ConversationInput.{busy_id}
use Rattle.model_messages.specs.Terminals.{conversation_at}
use Rattle.tm_machine.specs.declared.input.Way.TheVariants.{Alone, Begins}
use Rattle.tm_machine.specs.Parts.{PartsState, work_slots, settings_of, flags_of, AreParts}
use Rattle.tm_machine.proofs.Conversing.{no_both}
use Rattle.tm_machine.proofs.Leaving.{moment_is, moment_stays}
use Rattle.tm_machine.proofs.Named.{code_named, code_there, unplaced_code}
use Rattle.tm_machine.proofs.Raising.{followed_none}
use Rattle.tm_machine.proofs.Started.{moment_refused}

-- ---- terminals by their places
prefix_map : {X Y : Type 0} (q : Y → Bool) (f : X → Y) (xs : List X) → prefix_len q (map f xs) ≡ prefix_len (λ x. q (f x)) xs
prefix_map q f [] = refl
prefix_map q f (x ∷ xs) = ap (λ n. if q (f x) then 1 + n else 0) (prefix_map q f xs)

pub length_map : {X Y : Type 0} (f : X → Y) (xs : List X) → length (map f xs) ≡ length xs
length_map f [] = refl
length_map f (x ∷ xs) = let rest = length_map f xs in omega (arith, rest)

pub place_is : (terminals : List TerminalState) (names : List (List ℕ)) (name : List ℕ) → map (λ t. t.name) terminals ≡ names
    → position (λ n. bytes_eq n name) names ≡ terminal_place terminals name
place_is terminals names name e =
    ap (position (λ n. bytes_eq n name)) (sym e)
    ∙ ap (λ k. cond (nat_lt k (length (map (λ (t : TerminalState). t.name) terminals))) (Some k) None) (prefix_map (λ n. not (bytes_eq n name)) (λ (t : TerminalState). t.name) terminals)
    ∙ ap (λ m. cond (nat_lt (prefix_len (λ (t : TerminalState). not (bytes_eq t.name name)) terminals) m) (Some (prefix_len (λ (t : TerminalState). not (bytes_eq t.name name)) terminals)) None) (length_map (λ (t : TerminalState). t.name) terminals)

pub at_place : (terminals : List TerminalState) (name : List ℕ) (place : Option ℕ) → terminal_place terminals name ≡ place → terminal_at terminals name ≡ option_and_then (slice_get terminals) place
at_place terminals name place e = sym (found_at (λ (t : TerminalState). bytes_eq t.name name) terminals) ∙ ap (option_and_then (slice_get terminals)) e

-- ---- how an input is kept, by its terminal's conversation
abbrev code_of : Option Conversation → Option (List ℕ)
code_of conversation = option_map (λ c. c.code) conversation

kept_goes_by : (code : Option Code) (segments : List (List ℕ)) → (kept_by_code code segments).code ≡ code_word segments
kept_goes_by None segments = refl
kept_goes_by (Some code) segments = by (code.transaction.scratch_pad == 0)
  where
    by : (b : Bool) → (if b then kept_alone segments else kept_first code.transaction.scratch_pad segments).code ≡ code_word segments
    by true = refl
    by false = refl

pub kept_goes : (system : System) (conversation : Option Conversation) (segments : List (List ℕ)) → (kept_by system conversation segments).code ≡ code_for (code_of conversation) segments
kept_goes system (Some c) segments = refl
kept_goes system None segments = kept_goes_by (code_at system.codes (code_word segments)) segments

without_count : (segments : List (List ℕ)) → length (without_word segments) ≡ length segments
without_count [] = refl
without_count (s ∷ segments) = refl

kept_count_by : (code : Option Code) (segments : List (List ℕ)) → length (kept_by_code code segments).segments ≡ length segments
kept_count_by None segments = refl
kept_count_by (Some code) segments = by (code.transaction.scratch_pad == 0)
  where
    by : (b : Bool) → length (if b then kept_alone segments else kept_first code.transaction.scratch_pad segments).segments ≡ length segments
    by true = refl
    by false = without_count segments

pub kept_count : (system : System) (conversation : Option Conversation) (segments : List (List ℕ)) → length (kept_by system conversation segments).segments ≡ length segments
kept_count system (Some c) segments = refl
kept_count system None segments = kept_count_by (code_at system.codes (code_word segments)) segments

-- the code that was found tells how the input is kept
pub kept_is : (system : System) (conversation : Option Conversation) (segments : List (List ℕ)) (found : Code) → code_at system.codes (code_for (code_of conversation) segments) ≡ Some found
    → kept_so (way_by (code_of conversation) found.transaction.scratch_pad) (code_for (code_of conversation) segments) segments ≡ kept_by system conversation segments
kept_is system (Some c) segments found e = refl
kept_is system None segments found e = by (found.transaction.scratch_pad == 0) ∙ sym (ap (λ o. kept_by_code o segments) e)
  where
    by : (b : Bool) → kept_so (if b then Alone else Begins found.transaction.scratch_pad) (code_word segments) segments
        ≡ (if b then kept_alone segments else kept_first found.transaction.scratch_pad segments)
    by true = refl
    by false = refl

-- what a terminal's conversation answers
abbrev refuses : Result (Option (List ℕ)) BusyMessage → Bool
refuses (Err busy) = true
refuses (Ok code) = false

pub busy_now : (conversation : Option Conversation) (o : Option ℕ) (id : ℕ) → Err (record { id = id }) ≡ conversation_answer conversation o → busy_by conversation o ≡ Some (Err (Conversing id))
busy_now None o id e = absurd (no_both (ap refuses e))
busy_now (Some c) None id e = absurd (no_both (ap refuses e))
busy_now (Some c) (Some n) id e = ap (λ r. Some (Err (Conversing (id_in r)))) (sym e)
  where
    id_in : Result (Option (List ℕ)) BusyMessage → ℕ
    id_in (Err busy) = busy.id
    id_in (Ok code) = 0

pub idle_now : (conversation : Option Conversation) (o : Option ℕ) (code : Option (List ℕ)) → Ok code ≡ conversation_answer conversation o
    → (busy_by conversation o ≡ None) × (code ≡ code_of conversation)
idle_now None o code e = (refl, let same : code ≡ None = cc in same)
idle_now (Some c) None code e = (refl, let same : code ≡ Some c.code = cc in same)
idle_now (Some c) (Some n) code e = cc

-- ---- the answer of an input, by what was looked up
abbrev pub answer_by : Option TerminalState → ℕ → Refusal → Option Code → Refusal → ℕ → Refusal → ℕ → Result Taken InputRefused
answer_by terminal number busy code halted count room next =
    unwrap_or (first_refusal (
    (if is_some terminal then None else Some (Err NoTerminal))
    ∷ (if option_map_or (λ t. t.stopped) terminal false then Some (Err StoppedTerminal) else None)
    ∷ option_and_then (λ t. by_number t.last number) terminal
    ∷ busy
    ∷ (if is_some code then None else Some (Err NoCode))
    ∷ halted
    ∷ option_and_then (λ c. by_count (most_segments c.transaction.segment_kind) count) code
    ∷ room
    ∷ [])) (Ok (New next))

pub no_terminal : (t : Option TerminalState) (number : ℕ) (busy : Refusal) (code : Option Code) (halted : Refusal) (count : ℕ) (room : Refusal) (next : ℕ) → t ≡ None → Err NoTerminal ≡ answer_by t number busy code halted count room next
no_terminal t number busy code halted count room next e = sym (ap (λ o. answer_by o number busy code halted count room next) e)

-- a terminal that isn't stopped has this number as its last
abbrev pub IsRunning : ℕ → TerminalState → Type 0
IsRunning last s = (last ≡ s.last) × (s.stopped ≡ false)

pub stopped_terminal : (t : Option TerminalState) (number : ℕ) (busy : Refusal) (code : Option Code) (halted : Refusal) (count : ℕ) (room : Refusal) (next : ℕ)
    → IsSomeAnd t (λ s. s.stopped ≡ true) → Err StoppedTerminal ≡ answer_by t number busy code halted count room next
stopped_terminal (Some s) number busy code halted count room next is = step is
  where
    step : s.stopped ≡ true → Err StoppedTerminal ≡ answer_by (Some s) number busy code halted count room next
    step h = rw h refl
stopped_terminal None number busy code halted count room next is = absurd is

not_new : (last number id : ℕ) → by_number last number ≡ Some (Ok (New id)) → ⊥
not_new last number id e = by (nat_le number last) (nat_lt (last + 1) number) e
  where
    by : (a b : Bool) → ◌≡◌ {A = Refusal} (if a then Some (Ok Already) else if b then Some (Err (Expected (last + 1))) else None) (Some (Ok (New id))) → ⊥
    by true b f = cc
    by false true f = cc
    by false false f = cc

not_fault : (last number : ℕ) (fault : ControlFault) → by_number last number ≡ Some (Err (Fault fault)) → ⊥
not_fault last number fault e = by (nat_le number last) (nat_lt (last + 1) number) e
  where
    by : (a b : Bool) → ◌≡◌ {A = Refusal} (if a then Some (Ok Already) else if b then Some (Err (Expected (last + 1))) else None) (Some (Err (Fault fault))) → ⊥
    by true b f = cc
    by false true f = cc
    by false false f = cc

is_refusal : (right answer : Result Taken InputRefused) → answer ≡ right → ((id : ℕ) → answer ≡ Ok (New id) → ⊥) → ((fault : ControlFault) → answer ≡ Err (Fault fault) → ⊥) → IsInputRefusal right answer
is_refusal right (Ok (New id)) e other sound = absurd (other id refl)
is_refusal right (Ok Already) e other sound = e
is_refusal right (Err NoTerminal) e other sound = e
is_refusal right (Err StoppedTerminal) e other sound = e
is_refusal right (Err (StoppedCode code)) e other sound = e
is_refusal right (Err (Expected next)) e other sound = e
is_refusal right (Err (Conversing id)) e other sound = e
is_refusal right (Err NoCode) e other sound = e
is_refusal right (Err (SegmentsOver count most)) e other sound = e
is_refusal right (Err (QueueFull need limit)) e other sound = e
is_refusal right (Err (Fault fault)) e other sound = absurd (sound fault refl)

-- a refusal is no fault
pub refused_unfaulted : (right answer : Result Taken InputRefused) → IsInputRefusal right answer → is_input_fault answer ≡ false
refused_unfaulted right (Ok taken) h = refl
refused_unfaulted right (Err NoTerminal) h = refl
refused_unfaulted right (Err StoppedTerminal) h = refl
refused_unfaulted right (Err (StoppedCode code)) h = refl
refused_unfaulted right (Err (Expected next)) h = refl
refused_unfaulted right (Err (Conversing id)) h = refl
refused_unfaulted right (Err NoCode) h = refl
refused_unfaulted right (Err (SegmentsOver count most)) h = refl
refused_unfaulted right (Err (QueueFull need limit)) h = refl
refused_unfaulted right (Err (Fault fault)) h = absurd h

pub numbered : (t : Option TerminalState) (last number : ℕ) (busy : Refusal) (code : Option Code) (halted : Refusal) (count : ℕ) (room : Refusal) (next : ℕ) (answer : Result Taken InputRefused)
    → IsSomeAnd t (IsRunning last) → Some answer ≡ by_number last number → IsInputRefusal (answer_by t number busy code halted count room next) answer
numbered (Some s) last number busy code halted count room next answer same e =
    let here : by_number s.last number ≡ Some answer = ap (λ n. by_number n number) (sym same.0) ∙ sym e in
    is_refusal (answer_by (Some s) number busy code halted count room next) answer (sym (step same.1 here))
    (λ id f. not_new last number id (sym e ∙ ap (λ a. Some a) f)) (λ fault f. not_fault last number fault (sym e ∙ ap (λ a. Some a) f))
  where
    step : s.stopped ≡ false → by_number s.last number ≡ Some answer → answer_by (Some s) number busy code halted count room next ≡ answer
    step u h = rw u (rw h refl)
numbered None last number busy code halted count room next answer same e = absurd same

-- an input whose number is the next one
past_number : (t : Option TerminalState) (last number : ℕ) (busy : Refusal) (code : Option Code) (halted : Refusal) (count : ℕ) (room : Refusal) (next : ℕ)
    → IsSomeAnd t (IsRunning last) → None ≡ by_number last number
    → answer_by t number busy code halted count room next
    ≡ unwrap_or (first_refusal (busy ∷ (if is_some code then None else Some (Err NoCode)) ∷ halted ∷ option_and_then (λ c. by_count (most_segments c.transaction.segment_kind) count) code ∷ room ∷ [])) (Ok (New next))
past_number (Some s) last number busy code halted count room next same e = step same.1 (ap (λ n. by_number n number) (sym same.0) ∙ sym e)
  where
    step : s.stopped ≡ false → by_number s.last number ≡ None → answer_by (Some s) number busy code halted count room next
        ≡ unwrap_or (first_refusal (busy ∷ (if is_some code then None else Some (Err NoCode)) ∷ halted ∷ option_and_then (λ c. by_count (most_segments c.transaction.segment_kind) count) code ∷ room ∷ [])) (Ok (New next))
    step u h = rw u (rw h refl)
past_number None last number busy code halted count room next same e = absurd same

pub conversing_still : (t : Option TerminalState) (last number : ℕ) (busy : Refusal) (code : Option Code) (halted : Refusal) (count : ℕ) (room : Refusal) (next id : ℕ)
    → IsSomeAnd t (IsRunning last) → None ≡ by_number last number → busy ≡ Some (Err (Conversing id)) → Err (Conversing id) ≡ answer_by t number busy code halted count room next
conversing_still t last number busy code halted count room next id same e now =
    sym (past_number t last number busy code halted count room next same e
    ∙ ap (λ b. unwrap_or (first_refusal (b ∷ (if is_some code then None else Some (Err NoCode)) ∷ halted ∷ option_and_then (λ c. by_count (most_segments c.transaction.segment_kind) count) code ∷ room ∷ [])) (Ok (New next))) now)

-- and whose terminal's conversation isn't busy
past_busy : (t : Option TerminalState) (last number : ℕ) (busy : Refusal) (code : Option Code) (halted : Refusal) (count : ℕ) (room : Refusal) (next : ℕ)
    → IsSomeAnd t (IsRunning last) → None ≡ by_number last number → busy ≡ None
    → answer_by t number busy code halted count room next
    ≡ unwrap_or (first_refusal ((if is_some code then None else Some (Err NoCode)) ∷ halted ∷ option_and_then (λ c. by_count (most_segments c.transaction.segment_kind) count) code ∷ room ∷ [])) (Ok (New next))
past_busy t last number busy code halted count room next same e idle =
    past_number t last number busy code halted count room next same e
    ∙ ap (λ b. unwrap_or (first_refusal (b ∷ (if is_some code then None else Some (Err NoCode)) ∷ halted ∷ option_and_then (λ c. by_count (most_segments c.transaction.segment_kind) count) code ∷ room ∷ [])) (Ok (New next))) idle

pub no_code : (t : Option TerminalState) (last number : ℕ) (busy : Refusal) (code : Option Code) (halted : Refusal) (count : ℕ) (room : Refusal) (next : ℕ)
    → IsSomeAnd t (IsRunning last) → None ≡ by_number last number → busy ≡ None → code ≡ None → Err NoCode ≡ answer_by t number busy code halted count room next
no_code t last number busy code halted count room next same e idle none =
    sym (past_busy t last number busy code halted count room next same e idle
    ∙ ap (λ c. unwrap_or (first_refusal ((if is_some c then None else Some (Err NoCode)) ∷ halted ∷ option_and_then (λ k. by_count (most_segments k.transaction.segment_kind) count) c ∷ room ∷ [])) (Ok (New next))) none)

coded_by : (t : Option TerminalState) (last number : ℕ) (busy : Refusal) (code : Option Code) (found : Code) (halted : Refusal) (count : ℕ) (room : Refusal) (next : ℕ)
    → IsSomeAnd t (IsRunning last) → None ≡ by_number last number → busy ≡ None → code ≡ Some found
    → answer_by t number busy code halted count room next ≡ unwrap_or (first_refusal (halted ∷ by_count (most_segments found.transaction.segment_kind) count ∷ room ∷ [])) (Ok (New next))
coded_by t last number busy code found halted count room next same e idle there =
    past_busy t last number busy code halted count room next same e idle
    ∙ ap (λ c. unwrap_or (first_refusal ((if is_some c then None else Some (Err NoCode)) ∷ halted ∷ option_and_then (λ k. by_count (most_segments k.transaction.segment_kind) count) c ∷ room ∷ [])) (Ok (New next))) there

pub stopped_code_is : (t : Option TerminalState) (last number : ℕ) (busy : Refusal) (code : Option Code) (found : Code) (halted : Refusal) (count : ℕ) (room : Refusal) (next : ℕ) (name : List ℕ)
    → IsSomeAnd t (IsRunning last) → None ≡ by_number last number → busy ≡ None → code ≡ Some found → halted ≡ Some (Err (StoppedCode name))
    → Err (StoppedCode name) ≡ answer_by t number busy code halted count room next
stopped_code_is t last number busy code found halted count room next name same e idle there stops =
    sym (coded_by t last number busy code found halted count room next same e idle there
    ∙ ap (λ h. unwrap_or (first_refusal (h ∷ by_count (most_segments found.transaction.segment_kind) count ∷ room ∷ [])) (Ok (New next))) stops)

counted_by : (t : Option TerminalState) (last number : ℕ) (busy : Refusal) (code : Option Code) (found : Code) (halted : Refusal) (count : ℕ) (room : Refusal) (next : ℕ)
    → IsSomeAnd t (IsRunning last) → None ≡ by_number last number → busy ≡ None → code ≡ Some found → halted ≡ None
    → answer_by t number busy code halted count room next ≡ unwrap_or (first_refusal (by_count (most_segments found.transaction.segment_kind) count ∷ room ∷ [])) (Ok (New next))
counted_by t last number busy code found halted count room next same e idle there runs =
    coded_by t last number busy code found halted count room next same e idle there
    ∙ ap (λ h. unwrap_or (first_refusal (h ∷ by_count (most_segments found.transaction.segment_kind) count ∷ room ∷ [])) (Ok (New next))) runs

pub many : (t : Option TerminalState) (last number : ℕ) (busy : Refusal) (code : Option Code) (found : Code) (halted : Refusal) (count : ℕ) (room : Refusal) (next most size : ℕ)
    → IsSomeAnd t (IsRunning last) → None ≡ by_number last number → busy ≡ None → code ≡ Some found → halted ≡ None → most ≡ most_segments found.transaction.segment_kind → size ≡ count → most < size
    → Err (SegmentsOver size most) ≡ answer_by t number busy code halted count room next
many t last number busy code found halted count room next most size same e idle there runs m s over =
    sym (counted_by t last number busy code found halted count room next same e idle there runs
    ∙ ap (λ n. unwrap_or (first_refusal (by_count n count ∷ room ∷ [])) (Ok (New next))) (sym m)
    ∙ ap (λ n. unwrap_or (first_refusal (by_count most n ∷ room ∷ [])) (Ok (New next))) (sym s)
    ∙ ap (λ b. unwrap_or (first_refusal ((if b then Some (Err (SegmentsOver size most)) else None) ∷ room ∷ [])) (Ok (New next))) (lt-ltb most size over)) ∙ refl

pub room_left : (t : Option TerminalState) (last number : ℕ) (busy : Refusal) (code : Option Code) (found : Code) (halted : Refusal) (count : ℕ) (room : Refusal) (next most size : ℕ)
    → IsSomeAnd t (IsRunning last) → None ≡ by_number last number → busy ≡ None → code ≡ Some found → halted ≡ None → most ≡ most_segments found.transaction.segment_kind → size ≡ count → size ≤ most
    → answer_by t number busy code halted count room next ≡ unwrap_or room (Ok (New next))
room_left t last number busy code found halted count room next most size same e idle there runs m s fits =
    counted_by t last number busy code found halted count room next same e idle there runs
    ∙ ap (λ n. unwrap_or (first_refusal (by_count n count ∷ room ∷ [])) (Ok (New next))) (sym m)
    ∙ ap (λ n. unwrap_or (first_refusal (by_count most n ∷ room ∷ [])) (Ok (New next))) (sym s)
    ∙ ap (λ b. unwrap_or (first_refusal ((if b then Some (Err (SegmentsOver size most)) else None) ∷ room ∷ [])) (Ok (New next))) (le-ltb most size fits)
    ∙ none_last room
  where
    none_last : (r : Refusal) → unwrap_or (first_refusal (r ∷ [])) (Ok (New next)) ≡ unwrap_or r (Ok (New next))
    none_last (Some answer) = refl
    none_last None = refl

-- ---- whole calls
module _ (system : System) (tables : TablesState) (states : List CodeState) (regions : List (Option Busy)) (parts : AreParts system tables states regions) where
  abbrev moment_now : Moment
  moment_now = record { lasting = lasting_of (settings_of states) tables; slots = work_slots regions; enqueues = tables.databases.table; raised = flags_of states }

  abbrev state_now : PartsState
  state_now = record { system = system; moment = moment_now; databases = tables.databases }

  answered : (terminal : List ℕ) (number : ℕ) (segments : List (List ℕ)) (answer : Result Taken InputRefused) → 0 < length segments
      → answer ≡ input_answer system moment_now terminal number segments → accepted_step terminal number (kept_input system moment_now.lasting terminal segments) answer ≡ None
      → IsAnswered state_now state_now (Accept terminal number segments answer)
  answered terminal number segments answer some says none = record {
    may = record { call = some; victims = refl; answer = ap (Accept terminal number segments) says };
    after = moment_refused system tables states regions terminal number segments answer parts none says;
    system = refl;
  }

  -- an input that is refused
  pub refused_input : (terminal : List ℕ) (number : ℕ) (segments : List (List ℕ)) (answer : Result Taken InputRefused) → 0 < length segments
      → IsInputRefusal (input_answer system moment_now terminal number segments) answer → IsAnswered state_now state_now (Accept terminal number segments answer)
  refused_input terminal number segments (Ok (New id)) some h = absurd h
  refused_input terminal number segments (Ok Already) some h = answered terminal number segments (Ok Already) some h refl
  refused_input terminal number segments (Err NoTerminal) some h = answered terminal number segments (Err NoTerminal) some h refl
  refused_input terminal number segments (Err StoppedTerminal) some h = answered terminal number segments (Err StoppedTerminal) some h refl
  refused_input terminal number segments (Err (StoppedCode code)) some h = answered terminal number segments (Err (StoppedCode code)) some h refl
  refused_input terminal number segments (Err (Expected next)) some h = answered terminal number segments (Err (Expected next)) some h refl
  refused_input terminal number segments (Err (Conversing id)) some h = answered terminal number segments (Err (Conversing id)) some h refl
  refused_input terminal number segments (Err NoCode) some h = answered terminal number segments (Err NoCode) some h refl
  refused_input terminal number segments (Err (SegmentsOver count most)) some h = answered terminal number segments (Err (SegmentsOver count most)) some h refl
  refused_input terminal number segments (Err (QueueFull need limit)) some h = answered terminal number segments (Err (QueueFull need limit)) some h refl
  refused_input terminal number segments (Err (Fault fault)) some h = absurd h

  -- an acknowledgement
  abbrev state_with : TablesState → PartsState
  state_with t = record { system = system; moment = record { lasting = lasting_of (settings_of states) t; slots = work_slots regions; enqueues = t.databases.table; raised = flags_of states }; databases = t.databases }

  unchanged : (tables' : TablesState) (terminal : List ℕ) (number : ℕ) (answer : Result Acked AckRefused) → ack_by (output_at tables.outputs terminal) number ≡ answer
      → acknowledged_step terminal answer ≡ None → tables' ≡ tables → IsAnswered state_now (state_with tables') (AckedEntry terminal number answer)
  unchanged tables' terminal number answer says none same = record {
    may = record { call = tt; victims = refl; answer = ap (AckedEntry terminal number) (sym says) };
    after = ap (λ t. (state_with t).moment) same ∙ moment_stays system tables states regions parts
        ∙ ap (λ o. moment_with system (option_map_or (λ s. applied s moment_now.lasting) o moment_now.lasting) (work_slots regions) tables.databases.table (flags_of states))
        (sym none ∙ ap (acknowledged_step terminal) (sym says));
    system = refl;
  }

  pub acknowledged_is : (tables' : TablesState) (terminal : List ℕ) (number room : ℕ) (told now : List ℕ) (answer : Result Acked AckRefused) → TellsAcknowledged tables terminal room told now answer
      → IsAcknowledged tables tables' terminal number answer → IsAnswered state_now (state_with tables') (AckedEntry terminal number answer)
  acknowledged_is tables' terminal number room told now (Ok Removed) t h = record {
    may = record { call = tt; victims = refl; answer = ap (AckedEntry terminal number) (sym h.0) };
    after =
        moment_is system (applied (Acknowledges terminal) moment_now.lasting) (work_slots regions) tables' states states regions tables.databases.table
        (followed_none system (λ name. free_count name tables.queues.queued) (λ name. free_count name tables'.queues.queued) states parts.settled (λ name. ap (λ t. free_count name t.queues.queued) h.1))
        (rw h.1 parts.told) (ap (lasting_of (settings_of states)) h.1) refl (ap (λ t. t.databases.table) h.1)
        ∙ ap (λ a. moment_with system (option_map_or (λ s. applied s moment_now.lasting) (acknowledged_step terminal a) moment_now.lasting) (work_slots regions) tables.databases.table (flags_of states)) (sym h.0);
    system = refl;
  }
  acknowledged_is tables' terminal number room told now (Ok AckAlready) t h = unchanged tables' terminal number (Ok AckAlready) h.0 refl h.1
  acknowledged_is tables' terminal number room told now (Err Unknown) t h = unchanged tables' terminal number (Err Unknown) h.0 refl h.1
  acknowledged_is tables' terminal number room told now (Err (Ahead first)) t h = unchanged tables' terminal number (Err (Ahead first)) h.0 refl h.1
  acknowledged_is tables' terminal number room told now (Err (AckFault fault)) t h = absurd t

  -- what it tells
  acked_step : (terminal : List ℕ) (number : ℕ) (answer : Result Acked AckRefused) → ack_by (output_at tables.outputs terminal) number ≡ answer
      → lasting_step system moment_now (Acknowledge terminal number) ≡ acknowledged_step terminal answer
  acked_step terminal number answer says = ap (acknowledged_step terminal) says

  silent : (terminal : List ℕ) (number room : ℕ) (told now : List ℕ) (answer : Result Acked AckRefused) → ack_by (output_at tables.outputs terminal) number ≡ answer → acknowledged_step terminal answer ≡ None
      → now ≡ told → TellsLastingStep system moment_now 0 room (Acknowledge terminal number) told now
  silent terminal number room told now answer says none same =
      subst (TellsLastingStep system moment_now 0 room (Acknowledge terminal number) told) (sym same)
      (unlasting_tells system moment_now 0 room (Acknowledge terminal number) told (acked_step terminal number answer says ∙ none))

  pub acknowledged_tells : (tables' : TablesState) (terminal : List ℕ) (number room : ℕ) (told now : List ℕ) (answer : Result Acked AckRefused) → IsAcknowledged tables tables' terminal number answer
      → TellsAcknowledged tables terminal room told now answer → TellsLastingStep system moment_now 0 room (Acknowledge terminal number) told now
  acknowledged_tells tables' terminal number room told now (Ok Removed) h t =
      tells_step system moment_now 0 room (Acknowledge terminal number) (Acknowledges terminal) tables (settings_of states) refl (acked_step terminal number (Ok Removed) h.0) told now t
  acknowledged_tells tables' terminal number room told now (Ok AckAlready) h t = silent terminal number room told now (Ok AckAlready) h.0 refl t
  acknowledged_tells tables' terminal number room told now (Err Unknown) h t = silent terminal number room told now (Err Unknown) h.0 refl t
  acknowledged_tells tables' terminal number room told now (Err (Ahead first)) h t = silent terminal number room told now (Err (Ahead first)) h.0 refl t
  acknowledged_tells tables' terminal number room told now (Err (AckFault fault)) h t = absurd t

  pub acknowledged_longer : (terminal : List ℕ) (number room : ℕ) → WouldAcknowledge tables terminal number room → IsCallLonger system moment_now 0 room (Acknowledge terminal number)
  acknowledged_longer terminal number room w =
      longer_step system moment_now 0 room (Acknowledge terminal number) (Acknowledges terminal) tables (settings_of states) refl (acked_step terminal number (Ok Removed) w.removes) w.longer

  -- the databases stay
  pub acknowledged_databases : (tables' : TablesState) (terminal : List ℕ) (number : ℕ) (answer : Result Acked AckRefused) → IsAcknowledged tables tables' terminal number answer
      → tables'.databases ≡ tables.databases
  acknowledged_databases tables' terminal number (Ok Removed) h = ap (λ t. t.databases) h.1
  acknowledged_databases tables' terminal number (Ok AckAlready) h = ap (λ t. t.databases) h.1
  acknowledged_databases tables' terminal number (Err Unknown) h = ap (λ t. t.databases) h.1
  acknowledged_databases tables' terminal number (Err (Ahead first)) h = ap (λ t. t.databases) h.1
  acknowledged_databases tables' terminal number (Err (AckFault fault)) h = ap (λ t. t.databases) h

  parts_same : (tables' : TablesState) → tables' ≡ tables → AreParts system tables' states regions
  parts_same tables' same = subst (λ t. AreParts system t states regions) (sym same) parts

  pub parts_acknowledged : (tables' : TablesState) (terminal : List ℕ) (number : ℕ) (answer : Result Acked AckRefused) → IsAcknowledged tables tables' terminal number answer → AreParts system tables' states regions
  parts_acknowledged tables' terminal number (Ok Removed) h = rw h.1 (record {
    valid = parts.valid;
    limit = parts.limit;
    names = parts.names;
    regions_are = parts.regions_are;
    states_are = parts.states_are;
    settled = parts.settled;
    told = parts.told;
    at_work = parts.at_work;
    databases = parts.databases;
    idle = parts.idle;
    conversations = parts.conversations;
  })
  parts_acknowledged tables' terminal number (Ok AckAlready) h = parts_same tables' h.1
  parts_acknowledged tables' terminal number (Err Unknown) h = parts_same tables' h.1
  parts_acknowledged tables' terminal number (Err (Ahead first)) h = parts_same tables' h.1
  parts_acknowledged tables' terminal number (Err (AckFault fault)) h = parts_same tables' h

  -- whether or not it is answered
  pub parts_acked : (tables' : TablesState) (terminal : List ℕ) (number : ℕ) (made : Result (Result Acked AckRefused) Untold) → IfOk made (IsAcknowledged tables tables' terminal number)
      → OnErr made (tables' ≡ tables) → AreParts system tables' states regions
  parts_acked tables' terminal number (Ok answer) h e = parts_acknowledged tables' terminal number answer h
  parts_acked tables' terminal number (Err untold) h e = parts_same tables' e

  pub databases_acked : (tables' : TablesState) (terminal : List ℕ) (number : ℕ) (made : Result (Result Acked AckRefused) Untold) → IfOk made (IsAcknowledged tables tables' terminal number)
      → OnErr made (tables' ≡ tables) → tables'.databases ≡ tables.databases
  databases_acked tables' terminal number (Ok answer) h e = acknowledged_databases tables' terminal number answer h
  databases_acked tables' terminal number (Err untold) h e = ap (λ t. t.databases) e

most_few : (kind : SegmentKind) → most_segments kind ≤ 16
most_few Multiple = omega arith
most_few Single = omega arith

-- ---- an input, as it is looked up step by step
module _ (system : System) (tables : TablesState) (states : List CodeState) (regions : List (Option Busy)) (parts : AreParts system tables states regions)
    (terminal : List ℕ) (number : ℕ) (segments : List (List ℕ)) where
  abbrev moment_here : Moment
  moment_here = record { lasting = lasting_of (settings_of states) tables; slots = work_slots regions; enqueues = tables.databases.table; raised = flags_of states }

  abbrev conversation_here : Option Conversation
  conversation_here = conversation_at terminal tables.conversations

  abbrev busy_here : Option ℕ
  busy_here = busy_id terminal (messages_of tables.queues.queued)

  abbrev kept_here : KeptInput
  kept_here = kept_by system conversation_here segments

  abbrev room_here : Refusal
  room_here = no_room system moment_here kept_here.segments

  abbrev halted_here : Refusal
  halted_here = stopped_code system moment_here kept_here.code

  abbrev terminal_here : Option TerminalState
  terminal_here = terminal_at tables.terminals terminal

  abbrev place_here : Option ℕ
  place_here = position (λ n. bytes_eq n terminal) system.terminals

  pub unknown_input : None ≡ place_here → Err NoTerminal ≡ input_answer system moment_here terminal number segments
  unknown_input none =
      no_terminal terminal_here number (busy_by conversation_here busy_here) (code_at system.codes kept_here.code) halted_here (length kept_here.segments) room_here tables.next_id
      (at_place tables.terminals terminal None (sym (place_is tables.terminals system.terminals terminal parts.names) ∙ sym none))

  at_here : (place : ℕ) → Some place ≡ place_here → terminal_here ≡ slice_get tables.terminals place
  at_here place at = at_place tables.terminals terminal (Some place) (sym (place_is tables.terminals system.terminals terminal parts.names) ∙ sym at)

  pub stopped_input : (place : ℕ) → Some place ≡ place_here → (stopped : Bool) → IsSomeAnd (slice_get tables.terminals place) (λ s. stopped ≡ s.stopped) → stopped ≡ true
      → Err StoppedTerminal ≡ input_answer system moment_here terminal number segments
  stopped_input place at stopped is stops =
      stopped_terminal terminal_here number (busy_by conversation_here busy_here) (code_at system.codes kept_here.code) halted_here (length kept_here.segments) room_here tables.next_id
      (subst (λ o. IsSomeAnd o (λ s. s.stopped ≡ true)) (sym (at_here place at)) (both_known (slice_get tables.terminals place) is)) where
        both_known : (o : Option TerminalState) → IsSomeAnd o (λ s. stopped ≡ s.stopped) → IsSomeAnd o (λ s. s.stopped ≡ true)
        both_known (Some s) h = sym h ∙ stops
        both_known None h = absurd h

  module _ (place : ℕ) (at : Some place ≡ place_here) (stopped : Bool) (known : IsSomeAnd (slice_get tables.terminals place) (λ s. stopped ≡ s.stopped)) (runs : stopped ≡ false)
      (last : ℕ) (is : IsSomeAnd (slice_get tables.terminals place) (λ s. last ≡ s.last)) where
    both_known : (o : Option TerminalState) → IsSomeAnd o (λ s. stopped ≡ s.stopped) → IsSomeAnd o (λ s. last ≡ s.last) → IsSomeAnd o (IsRunning last)
    both_known (Some s) h k = (k, sym h ∙ runs)
    both_known None h k = absurd h

    there : IsSomeAnd terminal_here (IsRunning last)
    there = subst (λ o. IsSomeAnd o (IsRunning last)) (sym (at_here place at)) (both_known (slice_get tables.terminals place) known is)

    pub numbered_input : (answer : Result Taken InputRefused) → Some answer ≡ by_number last number → IsInputRefusal (input_answer system moment_here terminal number segments) answer
    numbered_input answer says =
        numbered terminal_here last number (busy_by conversation_here busy_here) (code_at system.codes kept_here.code) halted_here (length kept_here.segments) room_here tables.next_id answer there says

    module _ (next : None ≡ by_number last number) where
      pub busy_input : (id : ℕ) → Err (record { id = id }) ≡ conversation_answer conversation_here busy_here → Err (Conversing id) ≡ input_answer system moment_here terminal number segments
      busy_input id says =
          conversing_still terminal_here last number (busy_by conversation_here busy_here) (code_at system.codes kept_here.code) halted_here (length kept_here.segments) room_here tables.next_id id there next
          (busy_now conversation_here busy_here id says)

      module _ (conversation : Option (List ℕ)) (says : Ok conversation ≡ conversation_answer conversation_here busy_here) where
        idle : busy_by conversation_here busy_here ≡ None
        idle = (idle_now conversation_here busy_here conversation says).0

        code_is : conversation ≡ code_of conversation_here
        code_is = (idle_now conversation_here busy_here conversation says).1

        goes : kept_here.code ≡ code_for conversation segments
        goes = kept_goes system conversation_here segments ∙ ap (λ o. code_for o segments) (sym code_is)

        pub uncoded_input : None ≡ code_place system.codes (code_for conversation segments) → Err NoCode ≡ input_answer system moment_here terminal number segments
        uncoded_input none =
            no_code terminal_here last number (busy_by conversation_here busy_here) (code_at system.codes kept_here.code) halted_here (length kept_here.segments) room_here tables.next_id there next idle
            (ap (code_at system.codes) goes ∙ sym (unplaced_code system.codes (code_for conversation segments) none))

        -- the code is found at this place
        module _ (spot : ℕ) (at_spot : Some spot ≡ code_place system.codes (code_for conversation segments)) (found : Code) (is_there : slice_get system.codes spot ≡ Some found)
            (name : List ℕ) (named_so : name ≡ found.transaction.code) (halted : Bool) (told : halted ≡ option_map_or (λ s. s.stopped) (slice_get states spot) false) where
          is_found : Some found ≡ code_at system.codes (code_for conversation segments)
          is_found = code_there system.codes (code_for conversation segments) spot found at_spot is_there

          goes_to : name ≡ code_for conversation segments
          goes_to = named_so ∙ code_named system.codes (code_for conversation segments) found (sym is_found)

          placed_so : Some spot ≡ code_place system.codes name
          placed_so = at_spot ∙ ap (code_place system.codes) (sym goes_to)

          halts : halted_here ≡ (if halted then Some (Err (StoppedCode name)) else None)
          halts =
              ap (λ k. stopped_code system moment_here k) (sym (goes_to ∙ sym goes))
              ∙ ap (λ ss. stopped_by name (option_and_then (slice_get ss) (code_place system.codes name))) (states_again states)
              ∙ ap (λ p. stopped_by name (option_and_then (slice_get states) p)) (sym placed_so)
              ∙ ap (λ b. if b then Some (Err (StoppedCode name)) else None) (sym told)

          pub halted_input : halted ≡ true → Err (StoppedCode name) ≡ input_answer system moment_here terminal number segments
          halted_input stops =
              stopped_code_is terminal_here last number (busy_by conversation_here busy_here) (code_at system.codes kept_here.code) found halted_here (length kept_here.segments) room_here tables.next_id name there next idle
              (ap (code_at system.codes) goes ∙ sym is_found) (halts ∙ ap (λ b. if b then Some (Err (StoppedCode name)) else None) stops)

          module _ (starts : halted ≡ false) (most size : ℕ) (limit : most ≡ most_segments found.transaction.segment_kind) (count : size ≡ length segments) where
            free_code : halted_here ≡ None
            free_code = halts ∙ ap (λ b. if b then Some (Err (StoppedCode name)) else None) starts

            pub many_input : most < size → Err (SegmentsOver size most) ≡ input_answer system moment_here terminal number segments
            many_input over =
                many terminal_here last number (busy_by conversation_here busy_here) (code_at system.codes kept_here.code) found halted_here (length kept_here.segments) room_here tables.next_id most size there next idle
                (ap (code_at system.codes) goes ∙ sym is_found) free_code limit (count ∙ sym (kept_count system conversation_here segments)) over

            pub new_input : size ≤ most → (input : NewInput) → input.place ≡ place → place < length system.terminals → input.code_index ≡ spot → spot < length system.codes
                → input.way ≡ way_by conversation found.transaction.scratch_pad → input.code ≡ name → IsName input.code
                → IsNewInput (record { system = system; moment = moment_here; databases = tables.databases }) terminal number segments input
            new_input fits input placed within spotted code_within way code is_name = record {
              answer = room_left terminal_here last number (busy_by conversation_here busy_here) (code_at system.codes kept_here.code) found halted_here (length kept_here.segments) room_here tables.next_id most size there next idle
                  (ap (code_at system.codes) goes ∙ sym is_found) free_code limit (count ∙ sym (kept_count system conversation_here segments)) fits;
              place = sym (place_is tables.terminals system.terminals terminal parts.names) ∙ sym at ∙ ap (λ p. Some p) (sym placed);
              within = subst (λ p. p < length tables.terminals) (sym placed) (subst (λ n. place < n) (ap length (sym parts.names) ∙ length_map (λ (t : TerminalState). t.name) tables.terminals) within);
              kept =
                  ap (λ w. kept_so w input.code segments) way
                  ∙ ap (λ k. kept_so (way_by conversation found.transaction.scratch_pad) k segments) (code ∙ goes_to)
                  ∙ ap (λ o. kept_so (way_by o found.transaction.scratch_pad) (code_for o segments) segments) code_is
                  ∙ kept_is system conversation_here segments found (ap (λ o. code_at system.codes (code_for o segments)) (sym code_is) ∙ sym is_found);
              named = is_name;
              coded = ap (λ p. Some p) spotted ∙ placed_so ∙ ap (code_place system.codes) (sym code);
              code_within = subst (λ p. p < length system.codes) (sym spotted) code_within;
              free = idle;
              few = let most_is = most_few found.transaction.segment_kind in omega (arith, most_is, limit, count, fits);
            }
