-- Each call of the machine leaves it sound.
use Rattle.std.proofs.Common.{◌≡◌, ℕ, ◌+◌, ◌-◌, nat_le, Bool, true, false, ◌||◌, List, [], ◌∷◌, map, find, Option, Some, None, Result, Ok, Err, IsSome, IfSome, All, refl, sym, ◌∙◌, ap, subst, arith}
use Rattle.std.specs.Prelude.{if◌then◌else◌, ◌==◌}
use Rattle.std.specs.List.{list_all, list_any}
use Rattle.std.specs.Option.{is_some, option_and_then, option_map, option_map_or}
use Rattle.std.specs.Str.{bytes_eq}
use Rattle.std.proofs.lemmas.Bool.Decides.{nat_tests}
use Rattle.std.proofs.lemmas.List.Elements.{All-head, All-tail}
use Rattle.tm_types.specs.declared.abend.AbendCode.{AbendCode}
use Rattle.tm_types.specs.declared.command.LastingCommand.{LastingCommand}
use Rattle.tm_types.specs.declared.command.LastingCommand.TheVariants.{StartTransaction, StopTransaction, StartTerminal, StopTerminal, DequeueFirst, DequeueAll, Exit, AssignClass, AssignPriority}
use Rattle.tm_types.specs.declared.message.Message.{Message}
use Rattle.tm_types.specs.Commands.{IsAssigned}
use Rattle.model_machine.specs.declared.command.Command.{Command}
use Rattle.model_machine.specs.declared.command.Command.TheVariants as command
use Rattle.model_messages.specs.declared.conversation.Conversation.{Conversation}
use Rattle.model_messages.specs.declared.conversation.PadChange.{PadChange}
use Rattle.model_messages.specs.declared.conversation.PadChange.TheVariants.{Stays, New, Ends}
use Rattle.model_messages.specs.declared.conversation.TerminalConversation.{TerminalConversation}
use Rattle.model_messages.specs.ConversationInput.{is_conversing, busy_id}
use Rattle.model_messages.specs.Terminals as conversations
use Rattle.model_data.specs.declared.request.Request.{Request}
use Rattle.model_data.specs.declared.victim.Victim.{Victim}
use Rattle.model_messages.specs.declared.replies.TerminalReplies.{TerminalReplies}
use Rattle.model_system.specs.declared.code.Code.{Code}
use Rattle.model_system.specs.Codes.{code_at}
use Rattle.model_system.specs.System.{System}
use Rattle.model_messages.specs.declared.ended_message.EndedMessage.{EndedMessage}
use Rattle.model_data.specs.declared.row.Row.{Row}
use Rattle.model_image.specs.States.{has_right_pad, is_conversation, is_system_terminal}
use Rattle.model_machine.specs.declared.entry.Acked.{Acked}
use Rattle.model_machine.specs.declared.entry.Acked.TheVariants.{Removed, Already as AckAlready}
use Rattle.model_machine.specs.declared.entry.AckRefused.{AckRefused}
use Rattle.model_machine.specs.declared.entry.ControlCall.{ControlCall}
use Rattle.model_machine.specs.declared.entry.ControlCall.TheVariants.{Input, Receive, Acknowledge, Turn, Command as CommandCall, Checkpoint as CheckpointCall, AskQuiet}
use Rattle.model_machine.specs.declared.entry.InputRefused.{InputRefused}
use Rattle.model_machine.specs.declared.entry.InputRefused.TheVariants.{Terminal as NoTerminal, Code as NoCode}
use Rattle.model_machine.specs.declared.entry.Taken.{Taken}
use Rattle.model_machine.specs.declared.entry.Taken.TheVariants.{New as IsNewInput, Already}
use Rattle.model_machine.specs.declared.lasting.TerminalState.{TerminalState}
use Rattle.model_machine.specs.declared.entry.CommandRefused.TheVariants.{UnknownName}
use Rattle.model_machine.specs.CommandAnswers.{CommandAnswer, command_answer, command_step, exited, lasting_command, steps_by}
use Rattle.model_machine.specs.History.{AreVictims}
use Rattle.model_machine.specs.LastingSteps.{LastingStep, KeptInput, abend_outputs, dfs555i_text, all_sent, applied, discarded_pad, finished_by, kept_input, with_pad_changed, replied, output_sent, switched, with_pad_by, with_conversation_text}
use Rattle.model_machine.specs.LastingSteps.LastingStep.{Accepts, Commands}
use Rattle.model_machine.specs.Machine.{LastingState, Moment, Slot, message_at, output_at, slot_at, terminal_at}
use Rattle.model_machine.specs.Requests.{blocked_now}
use Rattle.model_machine.specs.MachineCalls.{AtWork, After, Refusal, accepted_step, ack_answer, acknowledged_step, busy_by, ended_step, input_answer, slot_work, step_in_turn, turn_step, unless_blocked}
use Rattle.model_machine.specs.Trial.{Advance, Trial, outputs_of, pad_of}
use Rattle.model_machine.specs.Trial.Advance.{Goes, Stops}
use Rattle.model_machine.specs.Trial.WorkEnd.{Ends as ScriptEnds, Syncs, Abends}
use Rattle.system_types.specs.ValidSystem.{IsPadLength, IsSystem}
use Rattle.image_law.specs.StepNeeds.{AssignsInRange, EndsNoneWaiting, IsConversationFree, PadFits, has_receiver, has_room, takes_switched}
use Rattle.image_law.proofs.Accepted.{accepted_stands}
use Rattle.image_law.proofs.Commanded.{commanded_stands}
use Rattle.image_law.proofs.Conversing.{itself_changed}
use Rattle.image_law.proofs.Kept.{acknowledged_stands, finished_stands}
use Rattle.image_law.specs.StandingState.{StandsLasting}
use Rattle.image_law.proofs.Lists.{all_imply, found_passes}
use Rattle.image_law.specs.SoundMachine.{StaysSound}
use Rattle.image_law.specs.SentMessages.{is_sent_well}
use Rattle.image_law.proofs.Pads.{Changes}
use Rattle.image_law.proofs.Refused.{IsNew, is_new}
use Rattle.image_law.proofs.Turns.{call_fits}
use Rattle.image_law.proofs.Works.{SendsWell, origin_known, work_sends}
use Rattle.tm_types.proofs.Truths.{both}

-- what lasts has the terminals of the system, in their order
pub record HasTerminals (system : System) (lasting : LastingState) : Type 0 where
  pub terminals : map (λ (t : TerminalState). t.name) lasting.terminals ≡ system.terminals
  pub outputs : map (λ (t : TerminalReplies). t.terminal) lasting.outputs ≡ system.terminals
  pub conversations : map (λ (t : TerminalConversation). t.terminal) lasting.conversations ≡ system.terminals

-- what is found by a name is there exactly where the name is one of theirs
pub there_by : {X : Type 0} (name_of : X → List ℕ) (xs : List X) (name : List ℕ) → is_some (find (λ x. bytes_eq (name_of x) name) xs) ≡ list_any (λ other. bytes_eq other name) (map name_of xs)
there_by name_of [] name = refl
there_by name_of (x ∷ xs) name = by (bytes_eq (name_of x) name) (there_by name_of xs name) where
  by : (b : Bool) → is_some (find (λ y. bytes_eq (name_of y) name) xs) ≡ list_any (λ other. bytes_eq other name) (map name_of xs)
      → is_some (if b then Some x else find (λ y. bytes_eq (name_of y) name) xs) ≡ (b || list_any (λ other. bytes_eq other name) (map name_of xs))
  by true e = refl
  by false e = e

pub pads_of_codes : (codes : List Code) → All (λ code. IsPadLength code.transaction.scratch_pad) codes → list_all has_room codes ≡ true
pads_of_codes [] all = refl
pads_of_codes (code ∷ codes) all =
    both (has_room code) (list_all has_room codes) (by code.transaction.scratch_pad (code.transaction.scratch_pad == 0) refl (All-head (λ c. IsPadLength c.transaction.scratch_pad) code codes all))
    (pads_of_codes codes (All-tail (λ c. IsPadLength c.transaction.scratch_pad) code codes all)) where
      by : (pad : ℕ) (b : Bool) → pad == 0 ≡ b → IsPadLength pad → (b || nat_le 14 pad) ≡ true
      by pad true e h = refl
      by pad false e h = grind (arith, nat_tests, e, h.least)

-- a step is counted
pub counted_stands : (system : System) (steps : ℕ) (lasting : LastingState) → StandsLasting system lasting → StandsLasting system (record lasting { steps = steps })
counted_stands system steps lasting s = record { settings = s.settings; pads = s.pads; ascending = s.ascending; known = s.known; alone = s.alone; runs = s.runs }

-- what is sent keeps the conversations
sent_keeps : (origin : List ℕ) (output : EndedMessage) (lasting : LastingState) → (output_sent origin output lasting).conversations ≡ lasting.conversations
sent_keeps origin output lasting = by (is_some (output_at lasting.outputs output.to)) where
  by : (b : Bool) → (if b then replied output lasting else switched origin output lasting).conversations ≡ lasting.conversations
  by true = refl
  by false = refl

pub all_keep : (origin : List ℕ) (outputs : List EndedMessage) (lasting : LastingState) → (all_sent origin outputs lasting).conversations ≡ lasting.conversations
all_keep origin [] lasting = refl
all_keep origin (output ∷ outputs) lasting = all_keep origin outputs (output_sent origin output lasting) ∙ sent_keeps origin output lasting

module _ (system : System) (valid : IsSystem system) (moment : Moment) (names : HasTerminals system moment.lasting) (sound : StaysSound system moment) where
  s : StandsLasting system moment.lasting
  s = sound.stands

  -- ---- inputs

  abbrev no_refusal : Refusal
  no_refusal = None

  known_by : (found : Option TerminalState) → (if is_some found then None else Some (Err NoTerminal)) ≡ no_refusal → is_some found ≡ true
  known_by None e = cc
  known_by (Some t) e = refl

  code_by : (found : Option Code) → (if is_some found then None else Some (Err NoCode)) ≡ no_refusal → is_some found ≡ true
  code_by None e = cc
  code_by (Some t) e = refl

  free_by : (terminal : List ℕ) (c : Option Conversation) (messages : List Message) → busy_by c (busy_id terminal messages) ≡ None → IsSome c → list_any (is_conversing terminal) messages ≡ false
  free_by terminal None messages e some = cc
  free_by terminal (Some c) [] e some = refl
  free_by terminal (Some c) (m ∷ messages) e some = by (is_conversing terminal m) e (λ f. free_by terminal (Some c) messages f refl) where
    by : (b : Bool) → busy_by (Some c) (option_map (λ (message : Message). message.id) (if b then Some m else find (is_conversing terminal) messages)) ≡ None
        → (busy_by (Some c) (busy_id terminal messages) ≡ None → list_any (is_conversing terminal) messages ≡ false) → (b || list_any (is_conversing terminal) messages) ≡ false
    by true f later = cc
    by false f later = later f

  pub is_free : (terminal : List ℕ) (number : ℕ) (segments : List (List ℕ)) → is_system_terminal system terminal ≡ true → IsNew system moment terminal number segments → IsConversationFree terminal moment.lasting
  is_free terminal number segments known new = record {
    place = there_by (λ (t : TerminalConversation). t.terminal) moment.lasting.conversations terminal ∙ ap (λ (ns : List (List ℕ)). list_any (λ other. bytes_eq other terminal) ns) names.conversations ∙ known;
    none = free_by terminal (conversations.conversation_at terminal moment.lasting.conversations) moment.lasting.messages new.free;
  }

  pub input_known : (terminal : List ℕ) (number : ℕ) (segments : List (List ℕ)) → IsNew system moment terminal number segments → is_system_terminal system terminal ≡ true
  input_known terminal number segments new =
      sym (ap (λ (ns : List (List ℕ)). list_any (λ other. bytes_eq other terminal) ns) names.terminals)
      ∙ sym (there_by (λ (t : TerminalState). t.name) moment.lasting.terminals terminal)
      ∙ known_by (terminal_at moment.lasting.terminals terminal) new.terminal_known

  accepts_stand : (terminal : List ℕ) (number : ℕ) (segments : List (List ℕ)) → IsNew system moment terminal number segments
      → StandsLasting system (applied (Accepts terminal number (kept_input system moment.lasting terminal segments)) moment.lasting)
  accepts_stand terminal number segments new =
      let known = input_known terminal number segments new in
      counted_stands system (moment.lasting.steps + 1) _
      (accepted_stands system (pads_of_codes system.codes valid.pads) terminal number segments moment.lasting s (is_free terminal number segments known new) known
      (code_by (code_at system.codes (kept_input system moment.lasting terminal segments).code) new.code_known))

  abbrev behind : Option LastingStep → LastingState
  behind step = option_map_or (λ s. applied s moment.lasting) step moment.lasting

  input_stands : (terminal : List ℕ) (number : ℕ) (segments : List (List ℕ)) (step : Option LastingStep)
      → accepted_step terminal number (kept_input system moment.lasting terminal segments) (input_answer system moment terminal number segments) ≡ step → StandsLasting system (behind step)
  input_stands terminal number segments None e = s
  input_stands terminal number segments (Some step) e =
      let kept = kept_input system moment.lasting terminal segments in
      let is : Accepts terminal number kept ≡ step = accepts_one (input_answer system moment terminal number segments) kept e in
      subst (λ (x : LastingStep). StandsLasting system (applied x moment.lasting)) is (accepts_stand terminal number segments (is_new system moment terminal number segments step e)) where
        accepts_one : (answer : Result Taken InputRefused) (kept : KeptInput) → accepted_step terminal number kept answer ≡ Some step → Accepts terminal number kept ≡ step
        accepts_one (Ok (IsNewInput id)) kept f = cc
        accepts_one (Ok Already) kept f = cc
        accepts_one (Err refused) kept f = cc

  ack_stands : (terminal : List ℕ) (answer : Result Acked AckRefused) → StandsLasting system (behind (acknowledged_step terminal answer))
  ack_stands terminal (Ok Removed) = counted_stands system (moment.lasting.steps + 1) _ (acknowledged_stands system terminal moment.lasting s)
  ack_stands terminal (Ok AckAlready) = s
  ack_stands terminal (Err refused) = s

  -- ---- completions and abends

  pub receives : (output : EndedMessage) → is_sent_well system output ≡ true → has_receiver system moment.lasting.outputs output ≡ true
  receives output is =
      let same : is_some (output_at moment.lasting.outputs output.to) ≡ is_system_terminal system output.to =
      there_by (λ (t : TerminalReplies). t.terminal) moment.lasting.outputs output.to ∙ ap (λ (ns : List (List ℕ)). list_any (λ other. bytes_eq other output.to) ns) names.outputs in
      ap (λ (b : Bool). if b then is_system_terminal system output.to else takes_switched system output.to) same ∙ by (is_system_terminal system output.to) (takes_switched system output.to) is where
        by : (t c : Bool) → (t || c) ≡ true → (if t then t else c) ≡ true
        by true c h = refl
        by false c h = h

  -- what the pads are behind a completion
  pad_right : (text origin : List ℕ) (t : Option TerminalConversation) → conversations.conversation_terminal origin moment.lasting.conversations ≡ t → list_all (has_right_pad system) (with_pad_changed (New text) origin moment.lasting.conversations) ≡ true
      → option_map_or (λ c. is_conversation system (with_conversation_text text c)) (option_and_then (λ (t : TerminalConversation). t.conversation) t) true ≡ true
  pad_right text origin None e right = refl
  pad_right text origin (Some t) e right =
      by t.conversation (itself_changed origin (option_map (with_conversation_text text)) moment.lasting.conversations t e) (conversations.conversation_terminal origin (with_pad_changed (New text) origin moment.lasting.conversations)) refl where
        by : (c : Option Conversation) → conversations.conversation_at origin (with_pad_changed (New text) origin moment.lasting.conversations) ≡ option_map (with_conversation_text text) c
            → (found : Option TerminalConversation) → conversations.conversation_terminal origin (with_pad_changed (New text) origin moment.lasting.conversations) ≡ found
            → option_map_or (λ c. is_conversation system (with_conversation_text text c)) c true ≡ true
        by None f found g = refl
        by (Some c) f None g = let none : None ≡ Some (with_conversation_text text c) = sym (ap (option_and_then (λ (t : TerminalConversation). t.conversation)) g) ∙ f in cc
        by (Some c) f (Some after) g =
            let is : after.conversation ≡ Some (with_conversation_text text c) = sym (ap (option_and_then (λ (t : TerminalConversation). t.conversation)) g) ∙ f in
            sym (ap (λ (o : Option Conversation). option_map_or (is_conversation system) o true) is)
            ∙ found_passes (has_right_pad system) (conversations.is_conversation_of origin) (with_pad_changed (New text) origin moment.lasting.conversations) after right g

  pub pad_fits : (pad : PadChange) (message : Message) → (Changes pad → message.conversation ≡ true) → list_all (has_right_pad system) (with_pad_changed pad message.origin moment.lasting.conversations) ≡ true → PadFits system pad message moment.lasting
  pad_fits Stays message flagged right = tt
  pad_fits (New text) message flagged right = (flagged tt, pad_right text message.origin (conversations.conversation_terminal message.origin moment.lasting.conversations) refl right)
  pad_fits Ends message flagged right = flagged tt

  rows_stand : (rows : List (List Row)) → StandsLasting system (record moment.lasting { rows = rows })
  rows_stand rows = record { settings = s.settings; pads = s.pads; ascending = s.ascending; known = s.known; alone = s.alone; runs = s.runs }

  completed_by : (id : ℕ) (rows : List (List Row)) (outputs : List EndedMessage) (pad : PadChange) (found : Option Message) → message_at moment.lasting.messages id ≡ found
      → list_all (is_sent_well system) outputs ≡ true → ((message : Message) → found ≡ Some message → Changes pad → message.conversation ≡ true)
      → list_all (has_right_pad system) (finished_by found (λ _. outputs) (with_pad_by found (λ _. pad) (record moment.lasting { rows = rows }))).conversations ≡ true
      → StandsLasting system (finished_by found (λ _. outputs) (with_pad_by found (λ _. pad) (record moment.lasting { rows = rows })))
  completed_by id rows outputs pad None e sends flagged right = rows_stand rows
  completed_by id rows outputs pad (Some message) e sends flagged right =
      finished_stands system id message (record moment.lasting { rows = rows }) e (rows_stand rows) pad outputs
      (fits_with_rows pad message (flagged message refl) (sym (ap (list_all (has_right_pad system)) (all_keep message.origin outputs _)) ∙ right))
      (all_imply (is_sent_well system) (has_receiver system moment.lasting.outputs) outputs receives sends) where
        fits_with_rows : (pad : PadChange) (message : Message) → (Changes pad → message.conversation ≡ true) → list_all (has_right_pad system) (with_pad_changed pad message.origin moment.lasting.conversations) ≡ true
            → PadFits system pad message (record moment.lasting { rows = rows })
        fits_with_rows Stays message flagged right = tt
        fits_with_rows (New text) message flagged right = pad_fits (New text) message flagged right
        fits_with_rows Ends message flagged right = flagged tt

  discarded_by : (id : ℕ) (abend : AbendCode) (found : Option Message) → message_at moment.lasting.messages id ≡ found
      → StandsLasting system (finished_by found (λ message. abend_outputs message abend) (with_pad_by found discarded_pad moment.lasting))
  discarded_by id abend None e = s
  discarded_by id abend (Some message) e =
      finished_stands system id message moment.lasting e s (discarded_pad message) (abend_outputs message abend) (flag message.conversation refl)
      (both (has_receiver system moment.lasting.outputs (record { to = message.origin; segments = dfs555i_text message.code abend ∷ [] })) true
      (receives (record { to = message.origin; segments = dfs555i_text message.code abend ∷ [] }) (by_terminal (is_system_terminal system message.origin) (takes_switched system message.origin) (origin_known system valid moment.lasting s id message e))) refl) where
        flag : (b : Bool) → message.conversation ≡ b → PadFits system (if b then Ends else Stays) message moment.lasting
        flag true is = is
        flag false is = tt

        by_terminal : (t c : Bool) → t ≡ true → (t || c) ≡ true
        by_terminal true c h = refl
        by_terminal false c h = cc

  abbrev RightPads : LastingState → Type 0
  RightPads after = list_all (has_right_pad system) after.conversations ≡ true

  ended_stands : (slot : Slot) (trial : Trial) → SendsWell system moment.lasting slot.id trial → (advance : Advance) → RightPads (behind (ended_step slot trial advance)) → StandsLasting system (behind (ended_step slot trial advance))
  ended_stands slot trial sends (Goes after call) right = s
  ended_stands slot trial sends (Stops ScriptEnds) right =
      counted_stands system (moment.lasting.steps + 1) _
      (completed_by slot.id trial.databases.rows (outputs_of trial) (pad_of trial) (message_at moment.lasting.messages slot.id) refl sends.receivers (λ message e changes. sends.flagged message e changes) right)
  ended_stands slot trial sends (Stops Syncs) right =
      counted_stands system (moment.lasting.steps + 1) _
      (completed_by slot.id trial.databases.rows (outputs_of trial) (pad_of trial) (message_at moment.lasting.messages slot.id) refl sends.receivers (λ message e changes. sends.flagged message e changes) right)
  ended_stands slot trial sends (Stops (Abends abend)) right =
      counted_stands system (moment.lasting.steps + 1) _ (discarded_by slot.id abend (message_at moment.lasting.messages slot.id) refl)

  work_stands : (slot : Slot) (found : Option AtWork) → slot_work system moment.lasting slot ≡ found
      → RightPads (behind (option_and_then (λ work. ended_step slot work.trial work.advance) found)) → StandsLasting system (behind (option_and_then (λ work. ended_step slot work.trial work.advance) found))
  work_stands slot None e right = s
  work_stands slot (Some work) e right = ended_stands slot work.trial (work_sends system valid moment.lasting s slot work e) work.advance right

  unblocked_stands : (slot : Slot) (blocked : Option (Request × ℕ)) → RightPads (behind (unless_blocked blocked (turn_step system moment.lasting slot)))
      → StandsLasting system (behind (unless_blocked blocked (turn_step system moment.lasting slot)))
  unblocked_stands slot (Some blocked) right = s
  unblocked_stands slot None right = work_stands slot (slot_work system moment.lasting slot) refl right

  turn_stands : (region : ℕ) (found : Option Slot) → RightPads (behind (option_and_then (step_in_turn system moment region) found)) → StandsLasting system (behind (option_and_then (step_in_turn system moment region) found))
  turn_stands region None right = s
  turn_stands region (Some slot) right = unblocked_stands slot (blocked_now system moment region slot) right

  -- ---- commands

  exit_free : (terminal : List ℕ) (c : Option Conversation) (messages : List Message) (step : LastingStep) → Some step ≡ steps_by (Some (Exit terminal)) (exited terminal c (busy_id terminal messages)) → list_any (is_conversing terminal) messages ≡ false
  exit_free terminal None messages step e = cc
  exit_free terminal (Some c) [] step e = refl
  exit_free terminal (Some c) (m ∷ messages) step e = by (is_conversing terminal m) e (λ f. exit_free terminal (Some c) messages step f) where
    by : (b : Bool) → Some step ≡ steps_by (Some (Exit terminal)) (exited terminal (Some c) (option_map (λ (message : Message). message.id) (if b then Some m else find (is_conversing terminal) messages)))
        → (Some step ≡ steps_by (Some (Exit terminal)) (exited terminal (Some c) (busy_id terminal messages)) → list_any (is_conversing terminal) messages ≡ false) → (b || list_any (is_conversing terminal) messages) ≡ false
    by true f later = cc
    by false f later = later f

  there_exit : (b : Bool) (terminal : List ℕ) (answer : CommandAnswer) (step : LastingStep) → Some step ≡ steps_by (Some (Exit terminal)) (if b then answer else Err (UnknownName terminal)) → Some step ≡ steps_by (Some (Exit terminal)) answer
  there_exit true terminal answer step e = e
  there_exit false terminal answer step e = cc

  -- a command that is done
  done_stands : (command : LastingCommand) → EndsNoneWaiting command moment.lasting → IsAssigned command → StandsLasting system (applied (Commands command) moment.lasting)
  done_stands command none assigned = counted_stands system (moment.lasting.steps + 1) _ (commanded_stands system command moment.lasting s none assigned)

  answered_stands : (command : LastingCommand) (answer : CommandAnswer) → EndsNoneWaiting command moment.lasting → IsAssigned command → StandsLasting system (behind (steps_by (Some command) answer))
  answered_stands command (Ok answer) none assigned = done_stands command none assigned
  answered_stands command (Err refused) none assigned = s

  exit_stands : (terminal : List ℕ) (step : Option LastingStep) → step ≡ command_step system moment (command.Exit terminal) → StandsLasting system (behind step)
  exit_stands terminal None e = s
  exit_stands terminal (Some step) e =
      let c = conversations.conversation_at terminal moment.lasting.conversations in
      let there = there_exit (is_some (terminal_at moment.lasting.terminals terminal)) terminal (exited terminal c (busy_id terminal moment.lasting.messages)) step e in
      let none = exit_free terminal c moment.lasting.messages step there in
      subst (λ (x : Option LastingStep). StandsLasting system (behind x)) (sym e) (answered_stands (Exit terminal) (command_answer system moment (command.Exit terminal)) none tt)

  nothing_stands : (answer : CommandAnswer) → StandsLasting system (behind (steps_by None answer))
  nothing_stands (Ok answer) = s
  nothing_stands (Err refused) = s

  command_stands : (c : Command) → IfSome (lasting_command c) IsAssigned → StandsLasting system (behind (command_step system moment c))
  command_stands (command.StartTransaction code) assigned = answered_stands (StartTransaction code) (command_answer system moment (command.StartTransaction code)) tt tt
  command_stands (command.StopTransaction code) assigned = answered_stands (StopTransaction code) (command_answer system moment (command.StopTransaction code)) tt tt
  command_stands (command.StartTerminal terminal) assigned = answered_stands (StartTerminal terminal) (command_answer system moment (command.StartTerminal terminal)) tt tt
  command_stands (command.StopTerminal terminal) assigned = answered_stands (StopTerminal terminal) (command_answer system moment (command.StopTerminal terminal)) tt tt
  command_stands (command.DequeueFirst terminal) assigned = answered_stands (DequeueFirst terminal) (command_answer system moment (command.DequeueFirst terminal)) tt tt
  command_stands (command.DequeueAll terminal) assigned = answered_stands (DequeueAll terminal) (command_answer system moment (command.DequeueAll terminal)) tt tt
  command_stands (command.Exit terminal) assigned = exit_stands terminal _ refl
  command_stands (command.AssignClass code class) assigned = answered_stands (AssignClass code class) (command_answer system moment (command.AssignClass code class)) tt assigned
  command_stands (command.AssignPriority code priority) assigned = answered_stands (AssignPriority code priority) (command_answer system moment (command.AssignPriority code priority)) tt assigned
  command_stands (command.DisplayTransaction code) assigned = nothing_stands (command_answer system moment (command.DisplayTransaction code))
  command_stands (command.DisplayTerminal terminal) assigned = nothing_stands (command_answer system moment (command.DisplayTerminal terminal))
  command_stands command.DisplayActive assigned = s
  command_stands command.Checkpoint assigned = s
  command_stands command.Freeze assigned = s
  command_stands command.EmergencyRestart assigned = s
  command_stands command.NormalRestart assigned = s
  command_stands command.ColdStart assigned = s

  -- ---- all calls

  call_stands : (call : ControlCall) (victims : List Victim) → AssignsInRange call → RightPads (After system moment call victims).lasting → StandsLasting system (After system moment call victims).lasting
  call_stands (Input terminal number segments) victims assigned right = input_stands terminal number segments _ refl
  call_stands (Receive terminal) victims assigned right = s
  call_stands (Acknowledge terminal number) victims assigned right = ack_stands terminal (ack_answer moment terminal number)
  call_stands (Turn region) victims assigned right = turn_stands region (slot_at moment region) right
  call_stands (CommandCall command) victims assigned right = command_stands command assigned
  call_stands (CheckpointCall freeze) victims assigned right = s
  call_stands AskQuiet victims assigned right = s

  -- A machine that is sound stays so, where its pads are right and what is assigned may be.
  pub stays_sound : (call : ControlCall) (victims : List Victim) → AssignsInRange call → AreVictims system moment victims call → list_all (has_right_pad system) (After system moment call victims).lasting.conversations ≡ true
      → StaysSound system (After system moment call victims)
  stays_sound call victims assigned are right = record {
    stands = call_stands call victims assigned right;
    room = call_fits system valid moment sound call victims are;
  }
