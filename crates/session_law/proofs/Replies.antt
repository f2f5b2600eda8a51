-- A reply that was shown is shown again, under its own number and with its bytes.
use Rattle.std.proofs.Common.{◌≡◌, ℕ, Bool, true, false, not, List, [], ◌∷◌, ◌++◌, Option, Some, None, refl, sym, ap, ◌∙◌, cond}
use Rattle.std.specs.Prelude.{Result, Ok, Err, if◌then◌else◌, slice_get}
use Rattle.std.specs.Option.{is_some, option_map, option_map_or, option_and_then}
use Rattle.std.specs.Str.{bytes_eq}
use Rattle.std.proofs.lemmas.Slice.Eq.{bytes_eq-Decides}
use Rattle.tm_types.specs.declared.message.Message.{Message}
use Rattle.tm_types.specs.declared.message.Reply.{Reply}
use Rattle.tm_types.specs.declared.command.LastingCommand.{LastingCommand}
use Rattle.tm_types.specs.declared.command.LastingCommand.TheVariants as lasts
use Rattle.model_machine.specs.declared.command.Command.{Command}
use Rattle.model_machine.specs.declared.command.Command.TheVariants.{StartTransaction, StopTransaction, StartTerminal, StopTerminal, DisplayTransaction, DisplayTerminal, DisplayActive, Checkpoint as CheckpointCommand, Freeze, DequeueFirst, DequeueAll, Exit, AssignClass, AssignPriority, EmergencyRestart, NormalRestart, ColdStart}
use Rattle.model_messages.specs.declared.conversation.PadChange.{PadChange}
use Rattle.model_messages.specs.declared.ended_message.EndedMessage.{EndedMessage}
use Rattle.model_system.specs.System.{System}
use Rattle.model_messages.specs.declared.replies.TerminalReplies.{TerminalReplies}
use Rattle.model_messages.specs.Outputs.{are_replies_of, replies_at, reply_at, with_terminal, with_reply, without_first}
use Rattle.model_machine.specs.declared.lasting.TerminalState.{TerminalState}
use Rattle.model_machine.specs.declared.entry.ShowAnswer.TheVariants.{Reply as Showed, Empty, Stopped as ShowStopped}
use Rattle.model_machine.specs.declared.entry.ControlCall.{ControlCall}
use Rattle.model_machine.specs.declared.entry.ControlCall.TheVariants.{Input, Receive, Acknowledge, Turn, Command as CommandCall, Checkpoint, AskQuiet}
use Rattle.model_machine.specs.declared.entry.Taken.{Taken}
use Rattle.model_machine.specs.declared.entry.Taken.TheVariants.{New, Already}
use Rattle.model_machine.specs.declared.entry.InputRefused.{InputRefused}
use Rattle.model_machine.specs.declared.entry.Acked.{Acked}
use Rattle.model_machine.specs.declared.entry.Acked.TheVariants.{Removed, Already as AckAlready}
use Rattle.model_machine.specs.declared.entry.AckRefused.{AckRefused}
use Rattle.model_machine.specs.Machine.{LastingState, Moment, terminal_at, output_at, message_at}
use Rattle.model_machine.specs.CommandAnswers.{lasting_command}
use Rattle.model_machine.specs.LastingSteps.{LastingStep, KeptInput, applied, output_sent, replied, switched, all_sent, finished_by, without_message, without_replies, with_pad_by, discarded_pad, abend_outputs, commanded, kept_input}
use Rattle.model_machine.specs.LastingSteps.LastingStep.{Accepts, Acknowledges, Completes, Discards, Commands}
use Rattle.model_machine.specs.MachineCalls.{accepted_step, acknowledged_step, input_answer, ack_answer, show_to, show_by, show_answer, lasting_step}
use Rattle.model_machine.specs.History.{call_of}
use Rattle.model_session.specs.Blocks.{Block}
use Rattle.model_session.specs.SessionState.{Setting, SessionState}
use Rattle.model_session.specs.Session.{AreServed}
use Rattle.session_law.specs.ResentInputs.{shown_reply, HasAlways, IsForcedWithin, IsKeptBy, spares, all_ask_only}
use Rattle.session_law.proofs.Sessions.{kept_over}
use Rattle.session_law.proofs.Steps.{FineBy, applied_by, turn_fine, command_fine}

-- ---- the first reply of a terminal

abbrev first_of_all : Bool → TerminalReplies → Option TerminalReplies → Option Reply
first_of_all b t rest = option_and_then (λ (u : TerminalReplies). slice_get u.replies 0) (cond b (Some t) rest)

first_here : (r : Reply) (c : Bool) (t u : TerminalReplies) (rest : Option TerminalReplies) → (c ≡ true → slice_get t.replies 0 ≡ Some r → slice_get u.replies 0 ≡ Some r)
    → first_of_all c t rest ≡ Some r → first_of_all c u rest ≡ Some r
first_here r true t u rest keeps h = keeps refl h
first_here r false t u rest keeps h = h

first_behind : (r : Reply) (c : Bool) (t : TerminalReplies) (rest rest' : Option TerminalReplies)
    → (option_and_then (λ (u : TerminalReplies). slice_get u.replies 0) rest ≡ Some r → option_and_then (λ (u : TerminalReplies). slice_get u.replies 0) rest' ≡ Some r)
    → first_of_all c t rest ≡ Some r → first_of_all c t rest' ≡ Some r
first_behind r true t rest rest' keeps h = h
first_behind r false t rest rest' keeps h = keeps h

-- it stays where a change of a terminal of this name leaves it
kept_at : (terminal other : List ℕ) (change : TerminalReplies → TerminalReplies) → ((t : TerminalReplies) → (change t).terminal ≡ t.terminal) → (r : Reply) (ts : List TerminalReplies)
    → ((t : TerminalReplies) → bytes_eq t.terminal other ≡ true → bytes_eq t.terminal terminal ≡ true → slice_get t.replies 0 ≡ Some r → slice_get (change t).replies 0 ≡ Some r)
    → reply_at terminal 0 ts ≡ Some r → reply_at terminal 0 (with_terminal other change ts) ≡ Some r
kept_at terminal other change names r [] keeps h = h
kept_at terminal other change names r (t ∷ ts) keeps h = by (are_replies_of other t) refl (λ first. kept_at terminal other change names r ts keeps first) where
  by : (b : Bool) → are_replies_of other t ≡ b → (reply_at terminal 0 ts ≡ Some r → reply_at terminal 0 (with_terminal other change ts) ≡ Some r)
      → reply_at terminal 0 (if b then change t ∷ ts else t ∷ with_terminal other change ts) ≡ Some r
  by true is more =
      ap (λ n. first_of_all (bytes_eq n terminal) (change t) (replies_at terminal ts)) (names t)
      ∙ first_here r (bytes_eq t.terminal terminal) t (change t) (replies_at terminal ts) (λ there. keeps t is there) h
  by false is more =
      first_behind r (bytes_eq t.terminal terminal) t (replies_at terminal ts) (replies_at terminal (with_terminal other change ts)) more h

-- a reply more stands behind it
one_behind : (r x : Reply) (replies : List Reply) → slice_get replies 0 ≡ Some r → slice_get (replies ++ x ∷ []) 0 ≡ Some r
one_behind r x [] h = cc
one_behind r x (y ∷ replies) h = h

-- a terminal of another name has other replies
other_name : (terminal other : List ℕ) (t : TerminalReplies) → not (bytes_eq other terminal) ≡ true → bytes_eq t.terminal other ≡ true → bytes_eq t.terminal terminal ≡ true → ⊥
other_name terminal other t apart is_other is_terminal =
    differ (sym apart ∙ ap not ((bytes_eq-Decides other terminal).1 (sym ((bytes_eq-Decides t.terminal other).0 is_other) ∙ (bytes_eq-Decides t.terminal terminal).0 is_terminal)))
  where
    differ : true ≡ false → ⊥
    differ e = cc

module _ (terminal : List ℕ) (r : Reply) where
  -- the terminal is to be shown this reply
  abbrev pub Waits : LastingState → Type 0
  Waits lasting = shown_reply terminal lasting ≡ Some r

  spared : (other : List ℕ) (change : TerminalReplies → TerminalReplies) → ((t : TerminalReplies) → (change t).terminal ≡ t.terminal) → (ts : List TerminalReplies)
      → not (bytes_eq other terminal) ≡ true → reply_at terminal 0 ts ≡ Some r → reply_at terminal 0 (with_terminal other change ts) ≡ Some r
  spared other change names ts apart h =
      kept_at terminal other change names r ts (λ t is_other is_terminal first. absurd (other_name terminal other t apart is_other is_terminal)) h

  sent_keeps : (origin : List ℕ) (output : EndedMessage) (lasting : LastingState) → Waits lasting → Waits (output_sent origin output lasting)
  sent_keeps origin output lasting h = by (is_some (output_at lasting.outputs output.to)) where
    by : (b : Bool) → Waits (if b then replied output lasting else switched origin output lasting)
    by true =
        kept_at terminal output.to (with_reply output.segments) (λ t. refl) r lasting.outputs
        (λ t is_other is_terminal first. one_behind r (record { number = t.next; segments = output.segments }) t.replies first) h
    by false = h

  all_sent_keeps : (origin : List ℕ) (outputs : List EndedMessage) (lasting : LastingState) → Waits lasting → Waits (all_sent origin outputs lasting)
  all_sent_keeps origin [] lasting h = h
  all_sent_keeps origin (output ∷ outputs) lasting h = all_sent_keeps origin outputs (output_sent origin output lasting) (sent_keeps origin output lasting h)

  finished_keeps : (message : Option Message) (outputs : Message → List EndedMessage) (lasting : LastingState) → Waits lasting → Waits (finished_by message outputs lasting)
  finished_keeps None outputs lasting h = h
  finished_keeps (Some message) outputs lasting h =
      all_sent_keeps message.origin (outputs message) (record lasting { messages = without_message lasting.messages message.id }) h

  pad_keeps : (message : Option Message) (change : Message → PadChange) (lasting : LastingState) → Waits lasting → Waits (with_pad_by message change lasting)
  pad_keeps None change lasting h = h
  pad_keeps (Some message) change lasting h = h

  -- a command that takes no reply of the terminal away
  abbrev SparesBy : LastingCommand → Type 0
  SparesBy (lasts.StartTransaction code) = Unit {0}
  SparesBy (lasts.StopTransaction code) = Unit {0}
  SparesBy (lasts.StartTerminal other) = Unit {0}
  SparesBy (lasts.StopTerminal other) = Unit {0}
  SparesBy (lasts.DequeueFirst other) = not (bytes_eq other terminal) ≡ true
  SparesBy (lasts.DequeueAll other) = not (bytes_eq other terminal) ≡ true
  SparesBy (lasts.Exit other) = Unit {0}
  SparesBy (lasts.AssignClass code class) = Unit {0}
  SparesBy (lasts.AssignPriority code priority) = Unit {0}

  commanded_keeps : (command : LastingCommand) (lasting : LastingState) → SparesBy command → Waits lasting → Waits (commanded command lasting)
  commanded_keeps (lasts.StartTransaction code) lasting is h = h
  commanded_keeps (lasts.StopTransaction code) lasting is h = h
  commanded_keeps (lasts.StartTerminal other) lasting is h = h
  commanded_keeps (lasts.StopTerminal other) lasting is h = h
  commanded_keeps (lasts.DequeueFirst other) lasting is h = spared other without_first (λ t. refl) lasting.outputs is h
  commanded_keeps (lasts.DequeueAll other) lasting is h = spared other without_replies (λ t. refl) lasting.outputs is h
  commanded_keeps (lasts.Exit other) lasting is h = h
  commanded_keeps (lasts.AssignClass code class) lasting is h = h
  commanded_keeps (lasts.AssignPriority code priority) lasting is h = h

  -- a step that takes none away
  abbrev Spares : LastingStep → Type 0
  Spares (Accepts other number kept) = Unit {0}
  Spares (Acknowledges other) = not (bytes_eq other terminal) ≡ true
  Spares (Completes id rows outputs pad) = Unit {0}
  Spares (Discards id abend) = Unit {0}
  Spares (Commands command) = SparesBy command

  step_keeps : (step : LastingStep) (lasting : LastingState) → Spares step → Waits lasting → Waits (applied step lasting)
  step_keeps (Accepts other number kept) lasting is h = h
  step_keeps (Acknowledges other) lasting is h = spared other without_first (λ t. refl) lasting.outputs is h
  step_keeps (Completes id rows outputs pad) lasting is h =
      finished_keeps (message_at lasting.messages id) (λ _. outputs) (with_pad_by (message_at lasting.messages id) (λ _. pad) (record lasting { rows = rows }))
      (pad_keeps (message_at lasting.messages id) (λ _. pad) (record lasting { rows = rows }) h)
  step_keeps (Discards id abend) lasting is h =
      finished_keeps (message_at lasting.messages id) (λ message. abend_outputs message abend) (with_pad_by (message_at lasting.messages id) discarded_pad lasting)
      (pad_keeps (message_at lasting.messages id) discarded_pad lasting h)
  step_keeps (Commands command) lasting is h = commanded_keeps command lasting is h

  accepts_spare : (other : List ℕ) (number : ℕ) (kept : KeptInput) (answer : Result Taken InputRefused) → FineBy Spares (accepted_step other number kept answer)
  accepts_spare other number kept (Ok (New id)) = tt
  accepts_spare other number kept (Ok Already) = tt
  accepts_spare other number kept (Err refused) = tt

  acknowledges_spare : (other : List ℕ) (answer : Result Acked AckRefused) → not (bytes_eq other terminal) ≡ true → FineBy Spares (acknowledged_step other answer)
  acknowledges_spare other (Ok Removed) is = is
  acknowledges_spare other (Ok AckAlready) is = tt
  acknowledges_spare other (Err refused) is = tt

  command_spares : (command : Command) → spares terminal (CommandCall command) ≡ true → FineBy Spares (option_map Commands (lasting_command command))
  command_spares (StartTransaction code) is = tt
  command_spares (StopTransaction code) is = tt
  command_spares (StartTerminal other) is = tt
  command_spares (StopTerminal other) is = tt
  command_spares (DisplayTransaction code) is = tt
  command_spares (DisplayTerminal other) is = tt
  command_spares DisplayActive is = tt
  command_spares CheckpointCommand is = tt
  command_spares Freeze is = tt
  command_spares (DequeueFirst other) is = is
  command_spares (DequeueAll other) is = is
  command_spares (Exit other) is = tt
  command_spares (AssignClass code class) is = tt
  command_spares (AssignPriority code priority) is = tt
  command_spares EmergencyRestart is = tt
  command_spares NormalRestart is = tt
  command_spares ColdStart is = tt

  call_spares : (system : System) (moment : Moment) (call : ControlCall) → spares terminal call ≡ true → FineBy Spares (lasting_step system moment call)
  call_spares system moment (Input other number segments) is =
      accepts_spare other number (kept_input system moment.lasting other segments) (input_answer system moment other number segments)
  call_spares system moment (Receive other) is = tt
  call_spares system moment (Acknowledge other number) is = acknowledges_spare other (ack_answer moment other number) is
  call_spares system moment (Turn region) is = turn_fine Spares (λ id rows outputs pad. tt) (λ id abend. tt) system moment region
  call_spares system moment (CommandCall command) is = command_fine Spares system moment command (command_spares command is)
  call_spares system moment (Checkpoint freeze) is = tt
  call_spares system moment AskQuiet is = tt

  -- The first reply of a terminal stays the first, with its number and its segments, until it is acknowledged or dequeued.
  pub replies_kept : (system : System) → IsKeptBy Waits system (spares terminal)
  replies_kept system moment entry is h =
      applied_by Waits Spares moment.lasting (λ step fine has. step_keeps step moment.lasting fine has)
      (lasting_step system moment (call_of entry)) (call_spares system moment (call_of entry) is) h

  -- So it is whatever stops and restarts lie between, a cold start apart.
  pub shown_again : (setting : Setting) (old new : SessionState) (blocks : List Block) (text : List ℕ)
      → setting.tells ≡ true → all_ask_only (spares terminal) setting.system blocks ≡ true → AreServed setting blocks old new text
      → IsForcedWithin setting.system old.standing → HasAlways Waits setting old.standing → HasAlways Waits setting new.standing
  shown_again setting old new blocks text tells all served within has =
      kept_over Waits setting (spares terminal) (λ region. refl) (replies_kept setting.system) blocks old new text tells all served within has

  -- And it is what the terminal is shown, unless it is stopped.
  pub shown : (moment : Moment) (t : TerminalState) → terminal_at moment.lasting.terminals terminal ≡ Some t → t.stopped ≡ false → Waits moment.lasting → show_answer moment terminal ≡ Showed r.number
  shown moment t there running h =
      ap (λ (o : Option TerminalState). show_to o (output_at moment.lasting.outputs terminal)) there
      ∙ ap (λ (b : Bool). if b then ShowStopped else show_by (output_at moment.lasting.outputs terminal)) running
      ∙ by (output_at moment.lasting.outputs terminal) h
    where
      by : (output : Option TerminalReplies) → option_and_then (λ (u : TerminalReplies). slice_get u.replies 0) output ≡ Some r → show_by output ≡ Showed r.number
      by None e = cc
      by (Some u) e = ap (λ (o : Option Reply). option_map_or (λ (reply : Reply). Showed reply.number) o Empty) e
