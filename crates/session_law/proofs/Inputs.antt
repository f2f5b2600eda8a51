-- An input that was accepted is never accepted again under its number.
use Rattle.std.proofs.Common.{◌≡◌, ◌≢◌, ◌≤◌, ◌<◌, ℕ, suc, ◌+◌, Bool, true, false, List, [], ◌∷◌, length, Option, Some, None, refl, sym, ap, ◌∙◌, subst, arith, cond, nat_lt}
use Rattle.std.specs.Prelude.{Result, Ok, Err, nat_le, if◌then◌else◌, position, slice_get, slice_set}
use Rattle.std.specs.List.{position_or_len}
use Rattle.std.specs.Option.{is_some, option_map, option_map_or, option_and_then, option_or, unwrap_or}
use Rattle.std.specs.Str.{bytes_eq}
use Rattle.std.proofs.lemmas.Bool.{leb-false, ltb-false, le-leb}
use Rattle.tm_types.specs.declared.message.Message.{Message}
use Rattle.tm_types.specs.declared.command.LastingCommand.{LastingCommand}
use Rattle.tm_types.specs.declared.command.LastingCommand.TheVariants.{StartTransaction, StopTransaction, StartTerminal, StopTerminal, DequeueFirst, DequeueAll, Exit, AssignClass, AssignPriority}
use Rattle.model_messages.specs.declared.conversation.PadChange.{PadChange}
use Rattle.model_messages.specs.declared.ended_message.EndedMessage.{EndedMessage}
use Rattle.model_system.specs.System.{System}
use Rattle.model_system.specs.Lists.{change_at}
use Rattle.model_machine.specs.declared.lasting.TerminalState.{TerminalState}
use Rattle.model_machine.specs.declared.entry.Entry.{Entry}
use Rattle.model_machine.specs.declared.entry.Entry.TheVariants.{Accept}
use Rattle.model_machine.specs.declared.entry.ControlCall.{ControlCall}
use Rattle.model_machine.specs.declared.entry.ControlCall.TheVariants.{Input, Receive, Acknowledge, Turn, Command, Checkpoint, AskQuiet}
use Rattle.model_machine.specs.declared.entry.Taken.{Taken}
use Rattle.model_machine.specs.declared.entry.Taken.TheVariants.{New, Already}
use Rattle.model_machine.specs.declared.entry.Acked.{Acked}
use Rattle.model_machine.specs.declared.entry.Acked.TheVariants.{Removed, Already as AckAlready}
use Rattle.model_machine.specs.declared.entry.AckRefused.{AckRefused}
use Rattle.model_machine.specs.declared.entry.InputRefused.{InputRefused}
use Rattle.model_machine.specs.declared.entry.InputRefused.TheVariants.{Terminal as NoTerminal, StoppedTerminal, Expected}
use Rattle.model_machine.specs.Machine.{LastingState, Moment, terminal_at, terminal_place, output_at, message_at}
use Rattle.model_machine.specs.CommandAnswers.{lasting_command}
use Rattle.model_machine.proofs.Histories.{moment_after-append}
use Rattle.session_law.proofs.Steps.{FineBy, applied_by, turn_fine, command_fine}
use Rattle.model_machine.specs.LastingSteps.{LastingStep, KeptInput, with_last_number, stopped_terminal, applied, output_sent, replied, switched, all_sent, finished_by, without_message, with_pad_by, discarded_pad, abend_outputs, commanded, kept_input}
use Rattle.model_machine.specs.LastingSteps.LastingStep.{Accepts, Acknowledges, Completes, Discards, Commands}
use Rattle.model_machine.specs.MachineCalls.{Refusal, by_number, first_refusal, busy_conversation, unknown_code, stopped_code, many_segments, no_room, accepted_step, acknowledged_step, input_answer, ack_answer, lasting_step}
use Rattle.model_machine.specs.History.{call_of, after_entry}
use Rattle.model_session.specs.Blocks.{Block}
use Rattle.model_session.specs.Lives.{LastLife, IsForcedTo, binds, forced_to, life_moment, now_in, longer}
use Rattle.model_session.specs.SessionState.{Setting, SessionState, life_gone_on}
use Rattle.model_session.specs.Session.{AreServed}
use Rattle.session_law.specs.ResentInputs.{last_number_of, HasAlways, IsForcedWithin, IsKeptBy, any_call, all_ask_only}
use Rattle.session_law.proofs.Sessions.{kept_over, leaves_all, up_has}
use Rattle.tm_types.proofs.Positions.{less_more, zero_less, found}

-- ---- the terminal of a name

abbrev named : List ℕ → TerminalState → Bool
named name t = bytes_eq t.name name

abbrev pub last_in : List ℕ → List TerminalState → ℕ
last_in name ts = option_map_or (λ t. t.last) (terminal_at ts name) 0

place_more : (p : TerminalState → Bool) (x : TerminalState) (xs : List TerminalState) (b : Bool) → p x ≡ b → position p (x ∷ xs) ≡ cond b (Some 0) (option_map (λ n. suc n) (position p xs))
place_more p x xs true h = rw (h) (ap (λ (t : Bool). cond t (Some 0) None) (zero_less (length xs)))
place_more p x xs false h =
    rw (h) (found (nat_lt (1 + position_or_len p xs) (suc (length xs))) (nat_lt (position_or_len p xs) (length xs)) (position_or_len p xs) (less_more (position_or_len p xs) (length xs)))

later_place : (f : TerminalState → TerminalState) (x : TerminalState) (xs : List TerminalState) (place : Option ℕ) → change_at (x ∷ xs) (option_map (λ n. suc n) place) f ≡ x ∷ change_at xs place f
later_place f x xs None = refl
later_place f x xs (Some q) = by (slice_get xs q) where
  by : (there : Option TerminalState) → option_map_or (λ y. slice_set (x ∷ xs) (suc q) (f y)) there (x ∷ xs) ≡ x ∷ option_map_or (λ y. slice_set xs q (f y)) there xs
  by (Some y) = refl
  by None = refl

-- the terminal of this name is changed
abbrev pub change_named : List ℕ → (TerminalState → TerminalState) → List TerminalState → List TerminalState
change_named name f ts = change_at ts (terminal_place ts name) f

pub changed_here : (name : List ℕ) (f : TerminalState → TerminalState) (t : TerminalState) (ts : List TerminalState) → bytes_eq t.name name ≡ true → change_named name f (t ∷ ts) ≡ f t ∷ ts
changed_here name f t ts is = ap (λ p. change_at (t ∷ ts) p f) (place_more (λ u. bytes_eq u.name name) t ts true is)

pub changed_later : (name : List ℕ) (f : TerminalState → TerminalState) (t : TerminalState) (ts : List TerminalState) → bytes_eq t.name name ≡ false → change_named name f (t ∷ ts) ≡ t ∷ change_named name f ts
changed_later name f t ts is =
    ap (λ p. change_at (t ∷ ts) p f) (place_more (λ u. bytes_eq u.name name) t ts false is) ∙ later_place f t ts (terminal_place ts name)

pub last_cons : (name : List ℕ) (t : TerminalState) (ts : List TerminalState) → last_in name (t ∷ ts) ≡ cond (bytes_eq t.name name) t.last (last_in name ts)
last_cons name t ts = by (bytes_eq t.name name) where
  by : (b : Bool) → option_map_or (λ (u : TerminalState). u.last) (cond b (Some t) (terminal_at ts name)) 0 ≡ cond b t.last (last_in name ts)
  by true = refl
  by false = refl

-- ---- no change of a terminal lets its last number fall

-- the terminal of this name, if it is there, has no lower number behind the change
abbrev Rises : List ℕ → (TerminalState → TerminalState) → List TerminalState → Type 0
Rises name f ts = (t : TerminalState) → terminal_at ts name ≡ Some t → t.last ≤ (f t).last

higher : (c : Bool) (n m l number : ℕ) → n ≤ m → number ≤ cond c n l → number ≤ cond c m l
higher true n m l number up h = omega arith
higher false n m l number up h = h

behind : (c : Bool) (n l l' number : ℕ) → (number ≤ l → number ≤ l') → number ≤ cond c n l → number ≤ cond c n l'
behind true n l l' number up h = h
behind false n l l' number up h = up h

rises_at : (terminal other : List ℕ) (f : TerminalState → TerminalState) → ((t : TerminalState) → (f t).name ≡ t.name) → (number : ℕ) (ts : List TerminalState)
    → Rises other f ts → number ≤ last_in terminal ts → number ≤ last_in terminal (change_named other f ts)
rises_at terminal other f names number [] rises h = h
rises_at terminal other f names number (t ∷ ts) rises h = by (bytes_eq t.name other) refl (λ up has. rises_at terminal other f names number ts up has) where
  before : number ≤ cond (bytes_eq t.name terminal) t.last (last_in terminal ts)
  before = subst (λ k. number ≤ k) (last_cons terminal t ts) h

  by : (b : Bool) → bytes_eq t.name other ≡ b → (Rises other f ts → number ≤ last_in terminal ts → number ≤ last_in terminal (change_named other f ts)) → number ≤ last_in terminal (change_named other f (t ∷ ts))
  by true is more =
      subst (λ us. number ≤ last_in terminal us) (sym (changed_here other f t ts is))
      (subst (λ k. number ≤ k) (sym (last_cons terminal (f t) ts ∙ ap (λ n. cond (bytes_eq n terminal) (f t).last (last_in terminal ts)) (names t)))
      (higher (bytes_eq t.name terminal) t.last (f t).last (last_in terminal ts) number (rises t (ap (λ c. cond c (Some t) (terminal_at ts other)) is)) before))
  by false is more =
      subst (λ us. number ≤ last_in terminal us) (sym (changed_later other f t ts is))
      (subst (λ k. number ≤ k) (sym (last_cons terminal t (change_named other f ts)))
      (behind (bytes_eq t.name terminal) t.last (last_in terminal ts) (last_in terminal (change_named other f ts)) number
      (more (λ u e. rises u (ap (λ c. cond c (Some t) (terminal_at ts other)) is ∙ e))) before))

-- the number that is given is the last
given_at : (name : List ℕ) (number : ℕ) (ts : List TerminalState) (t : TerminalState) → terminal_at ts name ≡ Some t → number ≤ last_in name (change_named name (with_last_number number) ts)
given_at name number [] t e = cc
given_at name number (u ∷ ts) t e = by (bytes_eq u.name name) refl (λ there. given_at name number ts t there) where
  itself : (b : Bool) → b ≡ true → number ≤ cond b number (last_in name ts)
  itself true is = omega arith
  itself false is = cc

  by : (b : Bool) → bytes_eq u.name name ≡ b → (terminal_at ts name ≡ Some t → number ≤ last_in name (change_named name (with_last_number number) ts)) → number ≤ last_in name (change_named name (with_last_number number) (u ∷ ts))
  by true is more =
      subst (λ us. number ≤ last_in name us) (sym (changed_here name (with_last_number number) u ts is))
      (subst (λ k. number ≤ k) (sym (last_cons name (with_last_number number u) ts)) (itself (bytes_eq u.name name) is))
  by false is more =
      subst (λ us. number ≤ last_in name us) (sym (changed_later name (with_last_number number) u ts is))
      (subst (λ k. number ≤ k) (sym (last_cons name u (change_named name (with_last_number number) ts) ∙ ap (λ c. cond c u.last (last_in name (change_named name (with_last_number number) ts))) is))
      (more (ap (λ c. cond c (Some u) (terminal_at ts name)) (sym is) ∙ e)))

-- ---- what sends and pads leaves the terminals

sent_terminals : (origin : List ℕ) (output : EndedMessage) (lasting : LastingState) → (output_sent origin output lasting).terminals ≡ lasting.terminals
sent_terminals origin output lasting = by (is_some (output_at lasting.outputs output.to)) where
  by : (b : Bool) → (if b then replied output lasting else switched origin output lasting).terminals ≡ lasting.terminals
  by true = refl
  by false = refl

all_sent_terminals : (origin : List ℕ) (outputs : List EndedMessage) (lasting : LastingState) → (all_sent origin outputs lasting).terminals ≡ lasting.terminals
all_sent_terminals origin [] lasting = refl
all_sent_terminals origin (output ∷ outputs) lasting = all_sent_terminals origin outputs (output_sent origin output lasting) ∙ sent_terminals origin output lasting

pub finished_terminals : (message : Option Message) (outputs : Message → List EndedMessage) (lasting : LastingState) → (finished_by message outputs lasting).terminals ≡ lasting.terminals
finished_terminals None outputs lasting = refl
finished_terminals (Some message) outputs lasting =
    all_sent_terminals message.origin (outputs message) (record lasting { messages = without_message lasting.messages message.id })

pub pad_terminals : (message : Option Message) (change : Message → PadChange) (lasting : LastingState) → (with_pad_by message change lasting).terminals ≡ lasting.terminals
pad_terminals None change lasting = refl
pad_terminals (Some message) change lasting = refl

-- ---- no step lets a terminal's last number fall

module _ (terminal : List ℕ) (number : ℕ) where
  -- the number is at most the terminal's last
  abbrev pub Reached : LastingState → Type 0
  Reached lasting = number ≤ last_number_of terminal lasting

  by_terminals : (old new : LastingState) → new.terminals ≡ old.terminals → Reached old → Reached new
  by_terminals old new same h = subst (λ ts. number ≤ last_in terminal ts) (sym same) h

  commanded_keeps : (command : LastingCommand) (lasting : LastingState) → Reached lasting → Reached (commanded command lasting)
  commanded_keeps (StartTransaction code) lasting h = h
  commanded_keeps (StopTransaction code) lasting h = h
  commanded_keeps (StartTerminal other) lasting h = rises_at terminal other (stopped_terminal false) (λ t. refl) number lasting.terminals (λ t e. omega arith) h
  commanded_keeps (StopTerminal other) lasting h = rises_at terminal other (stopped_terminal true) (λ t. refl) number lasting.terminals (λ t e. omega arith) h
  commanded_keeps (DequeueFirst other) lasting h = h
  commanded_keeps (DequeueAll other) lasting h = h
  commanded_keeps (Exit other) lasting h = h
  commanded_keeps (AssignClass code class) lasting h = h
  commanded_keeps (AssignPriority code priority) lasting h = h

  -- A step keeps it; an accepted input's number is above its terminal's last.
  abbrev IsAbove : LastingStep → LastingState → Type 0
  IsAbove (Accepts other above kept) lasting = Rises other (with_last_number above) lasting.terminals
  IsAbove (Acknowledges other) lasting = Unit {0}
  IsAbove (Completes id rows outputs pad) lasting = Unit {0}
  IsAbove (Discards id abend) lasting = Unit {0}
  IsAbove (Commands command) lasting = Unit {0}

  step_keeps : (step : LastingStep) (lasting : LastingState) → IsAbove step lasting → Reached lasting → Reached (applied step lasting)
  step_keeps (Accepts other above kept) lasting rises h = rises_at terminal other (with_last_number above) (λ t. refl) number lasting.terminals rises h
  step_keeps (Acknowledges other) lasting is h = h
  step_keeps (Completes id rows outputs pad) lasting is h =
      by_terminals lasting (applied (Completes id rows outputs pad) lasting)
      (finished_terminals (message_at lasting.messages id) (λ _. outputs) (with_pad_by (message_at lasting.messages id) (λ _. pad) (record lasting { rows = rows }))
      ∙ pad_terminals (message_at lasting.messages id) (λ _. pad) (record lasting { rows = rows })) h
  step_keeps (Discards id abend) lasting is h =
      by_terminals lasting (applied (Discards id abend) lasting)
      (finished_terminals (message_at lasting.messages id) (λ message. abend_outputs message abend) (with_pad_by (message_at lasting.messages id) discarded_pad lasting)
      ∙ pad_terminals (message_at lasting.messages id) discarded_pad lasting) h
  step_keeps (Commands command) lasting is h = commanded_keeps command lasting h

-- ---- answers to inputs

-- the answer by the terminal, and by the refusals that come behind the number
abbrev pub answer_by : Option TerminalState → ℕ → ℕ → Refusal → Result Taken InputRefused
answer_by t number id later =
    unwrap_or
    (option_or (if is_some t then None else Some (Err NoTerminal))
    (option_or (if option_map_or (λ (u : TerminalState). u.stopped) t false then Some (Err StoppedTerminal) else None)
    (option_or (option_and_then (λ (u : TerminalState). by_number u.last number) t) later)))
    (Ok (New id))

abbrev pub later_refusals : System → Moment → List ℕ → List (List ℕ) → Refusal
later_refusals system moment terminal segments =
    first_refusal
    (busy_conversation moment.lasting terminal
    ∷ unknown_code system.codes (kept_input system moment.lasting terminal segments).code
    ∷ stopped_code system moment (kept_input system moment.lasting terminal segments).code
    ∷ many_segments system.codes (kept_input system moment.lasting terminal segments)
    ∷ no_room system moment (kept_input system moment.lasting terminal segments).segments
    ∷ [])

answer_is : (system : System) (moment : Moment) (terminal : List ℕ) (number : ℕ) (segments : List (List ℕ))
    → input_answer system moment terminal number segments
    ≡ answer_by (terminal_at moment.lasting.terminals terminal) number moment.lasting.next_id (later_refusals system moment terminal segments)
answer_is system moment terminal number segments = refl

-- an input that is new has the number behind the last one
pub next_by : (t : Option TerminalState) (number next id : ℕ) (later : Refusal) → answer_by t number next later ≡ Ok (New id) → (u : TerminalState) → t ≡ Some u → number ≡ u.last + 1
next_by None number next id later h u e = cc
next_by (Some v) number next id later h u e = by_stopped v.stopped h ∙ ap (λ (o : Option TerminalState). option_map_or (λ (w : TerminalState). w.last + 1) o 0) e where
  at : (low high : Bool) → nat_le number v.last ≡ low → nat_lt (v.last + 1) number ≡ high
      → unwrap_or (option_or (if low then Some (Ok Already) else if high then Some (Err (Expected (v.last + 1))) else None) later) (Ok (New next)) ≡ Ok (New id) → number ≡ v.last + 1
  at true high l r is = cc
  at false true l r is = cc
  at false false l r is = omega (arith, leb-false number v.last l, ltb-false (v.last + 1) number r)

  by_stopped : (s : Bool) → unwrap_or (option_or (if s then Some (Err StoppedTerminal) else None) (option_or (by_number v.last number) later)) (Ok (New next)) ≡ Ok (New id) → number ≡ v.last + 1
  by_stopped true is = cc
  by_stopped false is = at (nat_le number v.last) (nat_lt (v.last + 1) number) refl refl is

-- and its terminal is there
pub there_by : (t : Option TerminalState) (number next id : ℕ) (later : Refusal) → answer_by t number next later ≡ Ok (New id) → (u : TerminalState) × (t ≡ Some u)
there_by None number next id later h = absurd (no h) where
  no : Err NoTerminal ≡ Ok (New id) → ⊥
  no e = cc
there_by (Some v) number next id later h = (v, refl)

-- Below the last number and at it the answer is that the input was accepted before, where its terminal isn't stopped.
pub already : (system : System) (moment : Moment) (terminal : List ℕ) (number : ℕ) (segments : List (List ℕ)) (t : TerminalState)
    → terminal_at moment.lasting.terminals terminal ≡ Some t → t.stopped ≡ false → number ≤ t.last
    → input_answer system moment terminal number segments ≡ Ok Already
already system moment terminal number segments t there running low =
    ap (λ o. answer_by o number moment.lasting.next_id (later_refusals system moment terminal segments)) there
    ∙ ap (λ (s : Bool). unwrap_or (option_or (if s then Some (Err StoppedTerminal) else None) (option_or (by_number t.last number) (later_refusals system moment terminal segments))) (Ok (New moment.lasting.next_id))) running
    ∙ ap (λ (b : Bool). unwrap_or (option_or (if b then Some (Ok Already) else if nat_lt (t.last + 1) number then Some (Err (Expected (t.last + 1))) else None) (later_refusals system moment terminal segments)) (Ok (New moment.lasting.next_id))) (le-leb number t.last low)

-- Whatever it is answered, an input that is sent under a number up to the last is not accepted.
pub not_new : (system : System) (moment : Moment) (terminal : List ℕ) (number : ℕ) (segments : List (List ℕ)) (id : ℕ)
    → 0 < number → number ≤ last_number_of terminal moment.lasting → input_answer system moment terminal number segments ≢ Ok (New id)
not_new system moment terminal number segments id some low new =
    by (there_by (terminal_at moment.lasting.terminals terminal) number moment.lasting.next_id id (later_refusals system moment terminal segments) new)
  where
    by : (u : TerminalState) × (terminal_at moment.lasting.terminals terminal ≡ Some u) → ⊥
    by (u, e) =
        let next = next_by (terminal_at moment.lasting.terminals terminal) number moment.lasting.next_id id (later_refusals system moment terminal segments) new u e in
        let last = subst (λ o. number ≤ option_map_or (λ (w : TerminalState). w.last) o 0) e low in
        absurd (grind (arith, next, last))

-- ---- all calls

accepts_fine : (terminal other : List ℕ) (number above : ℕ) (kept : KeptInput) (lasting : LastingState) (answer : Result Taken InputRefused)
    → ((id : ℕ) → answer ≡ Ok (New id) → Rises other (with_last_number above) lasting.terminals) → FineBy (λ s. IsAbove terminal number s lasting) (accepted_step other above kept answer)
accepts_fine terminal other number above kept lasting (Ok (New id)) rises = rises id refl
accepts_fine terminal other number above kept lasting (Ok Already) rises = tt
accepts_fine terminal other number above kept lasting (Err refused) rises = tt

acknowledges_fine : (terminal other : List ℕ) (number : ℕ) (lasting : LastingState) (answer : Result Acked AckRefused) → FineBy (λ s. IsAbove terminal number s lasting) (acknowledged_step other answer)
acknowledges_fine terminal other number lasting (Ok Removed) = tt
acknowledges_fine terminal other number lasting (Ok AckAlready) = tt
acknowledges_fine terminal other number lasting (Err refused) = tt

commanded_fine : (terminal : List ℕ) (number : ℕ) (lasting : LastingState) (command : Option LastingCommand) → FineBy (λ s. IsAbove terminal number s lasting) (option_map Commands command)
commanded_fine terminal number lasting None = tt
commanded_fine terminal number lasting (Some command) = tt

call_fine : (terminal : List ℕ) (number : ℕ) (system : System) (moment : Moment) (call : ControlCall) → FineBy (λ s. IsAbove terminal number s moment.lasting) (lasting_step system moment call)
call_fine terminal number system moment (Input other above segments) =
    accepts_fine terminal other number above (kept_input system moment.lasting other segments) moment.lasting (input_answer system moment other above segments)
    (λ id new t there.
    let next = next_by (terminal_at moment.lasting.terminals other) above moment.lasting.next_id id (later_refusals system moment other segments) new t there in
    omega (arith, next))
call_fine terminal number system moment (Receive other) = tt
call_fine terminal number system moment (Acknowledge other n) = acknowledges_fine terminal other number moment.lasting (ack_answer moment other n)
call_fine terminal number system moment (Turn region) =
    turn_fine (λ s. IsAbove terminal number s moment.lasting) (λ id rows outputs pad. tt) (λ id abend. tt) system moment region
call_fine terminal number system moment (Command command) =
    command_fine (λ s. IsAbove terminal number s moment.lasting) system moment command (commanded_fine terminal number moment.lasting (lasting_command command))
call_fine terminal number system moment (Checkpoint freeze) = tt
call_fine terminal number system moment AskQuiet = tt

-- No call lets a terminal's last number fall.
pub numbers_kept : (terminal : List ℕ) (number : ℕ) (system : System) → IsKeptBy (Reached terminal number) system any_call
numbers_kept terminal number system moment entry is h =
    applied_by (Reached terminal number) (λ s. IsAbove terminal number s moment.lasting) moment.lasting
    (λ step above has. step_keeps terminal number step moment.lasting above has)
    (lasting_step system moment (call_of entry)) (call_fine terminal number system moment (call_of entry)) h

-- An input that is accepted has the last number then.
pub taken : (system : System) (moment : Moment) (terminal : List ℕ) (number : ℕ) (segments : List (List ℕ)) (id : ℕ)
    → input_answer system moment terminal number segments ≡ Ok (New id)
    → Reached terminal number (after_entry system moment (Accept terminal number segments (Ok (New id)))).lasting
taken system moment terminal number segments id new =
    subst (λ answer. Reached terminal number (option_map_or (λ step. applied step moment.lasting) (accepted_step terminal number (kept_input system moment.lasting terminal segments) answer) moment.lasting)) (sym new)
    (by (there_by (terminal_at moment.lasting.terminals terminal) number moment.lasting.next_id id (later_refusals system moment terminal segments) new))
  where
    by : (u : TerminalState) × (terminal_at moment.lasting.terminals terminal ≡ Some u) → number ≤ last_in terminal (change_named terminal (with_last_number number) moment.lasting.terminals)
    by (u, e) = given_at terminal number moment.lasting.terminals u e

-- Once an input was printed as accepted in a session, whatever a stop leaves behind any further lines, a cold start apart, has its
-- number as one that its terminal has used. So it is not accepted again (`not_new`), but told that it was accepted before
-- (`already`).
pub accepted_once : (setting : Setting) (terminal : List ℕ) (number id forced : ℕ) (segments : List (List ℕ)) (life : LastLife) (old mid new : SessionState) (blocks : List Block) (text : List ℕ)
    → setting.tells ≡ true
    → input_answer setting.system (now_in setting.system life) terminal number segments ≡ Ok (New id)
    → IsForcedTo setting.system (longer life (Accept terminal number segments (Ok (New id)) ∷ [])) (binds (Accept terminal number segments (Ok (New id)))) forced
    → mid ≡ life_gone_on old life (Accept terminal number segments (Ok (New id)) ∷ []) forced
    → all_ask_only any_call setting.system blocks ≡ true → AreServed setting blocks mid new text
    → HasAlways (Reached terminal number) setting new.standing
accepted_once setting terminal number id forced segments life old mid new blocks text tells new_input is_forced goes all served =
    kept_over (Reached terminal number) setting any_call (λ region. refl) (numbers_kept terminal number setting.system) blocks mid new text tells all served
    (subst (λ (s : SessionState). IsForcedWithin setting.system s.standing) (sym goes) is_forced.most)
    (subst (λ (s : SessionState). HasAlways (Reached terminal number) setting s.standing) (sym goes)
    (up_has (Reached terminal number) setting any_call (λ region. refl) (numbers_kept terminal number setting.system)
    (forced_to forced (longer life (entry ∷ [])))
    (leaves_all (Reached terminal number) setting.system (forced_to forced (longer life (entry ∷ []))) (is_forced.all refl)
    (subst (λ (m : Moment). Reached terminal number m.lasting) (sym (moment_after-append setting.system (life_moment setting.system life []) life.history entry))
    (taken setting.system (now_in setting.system life) terminal number segments id new_input)))))
  where
    entry : Entry
    entry = Accept terminal number segments (Ok (New id))
