-- A command is answered: the life takes the step of one that lasts, and else nothing happens.
use Rattle.std.proofs.Common.{◌≡◌, ℕ, ◌≤◌, Bool, true, false, ◌||◌, List, [], ◌∷◌, find, Option, Some, None, Ok, Err, refl, sym, ◌∙◌, ap, subst, arith}
use Rattle.std.specs.Prelude.{if◌then◌else◌, IfSome}
use Rattle.std.specs.List.{list_all, list_any, flat_map}
use Rattle.std.specs.Option.{is_some, option_map, option_map_or}
use Rattle.std.specs.Str.{bytes_eq}
use Rattle.tm_types.specs.declared.command.LastingCommand.{LastingCommand}
use Rattle.tm_types.specs.declared.command.LastingCommand.TheVariants as lasts
use Rattle.tm_types.specs.declared.message.Message.{Message}
use Rattle.tm_types.specs.Commands as texts
use Rattle.model_machine.specs.declared.answer.Answer.{Answer}
use Rattle.model_machine.specs.declared.command.Command.{Command}
use Rattle.model_machine.specs.declared.command.Command.TheVariants.{StartTransaction, StopTransaction, StartTerminal, StopTerminal, DisplayTransaction, DisplayTerminal, DisplayActive, Checkpoint, Freeze, DequeueFirst, DequeueAll, Exit, AssignClass, AssignPriority, EmergencyRestart, NormalRestart, ColdStart}
use Rattle.model_messages.specs.declared.conversation.Conversation.{Conversation}
use Rattle.model_messages.specs.ConversationInput.{busy_id, is_conversing}
use Rattle.model_messages.specs.Terminals.{conversation_at}
use Rattle.model_messages.specs.declared.replies.TerminalReplies.{TerminalReplies}
use Rattle.model_system.specs.Codes.{code_at}
use Rattle.model_system.specs.System.{System}
use Rattle.model_machine.specs.declared.entry.CommandRefused.TheVariants.{UnknownName}
use Rattle.model_machine.specs.declared.entry.ControlCall.TheVariants.{Command as CommandCall, Checkpoint as CheckpointCall}
use Rattle.model_machine.specs.declared.lasting.TerminalState.{TerminalState}
use Rattle.model_machine.specs.CommandAnswers.{CommandAnswer, all_dequeued, command_answer, command_step, exited, first_dequeued, lasting_command, of_code, of_terminal, steps_by}
use Rattle.model_machine.specs.Machine.{LastingState, Moment, content, output_at, terminal_at}
use Rattle.model_machine.specs.LastingSteps.{LastingStep, applied}
use Rattle.model_machine.specs.LastingSteps.LastingStep.{Commands}
use Rattle.model_machine.specs.MachineCalls.{After, lasting_step}
use Rattle.model_image.specs.Replay.{names_known}
use Rattle.model_image.specs.States.{has_right_pad, is_system_terminal}
use Rattle.log_records.specs.RecordSpelling.{record_spelling}
use Rattle.system_types.specs.ValidSystem.{IsSystem}
use Rattle.image_law.specs.SoundState.{FitsRanges}
use Rattle.image_law.specs.StepNeeds.{EndsNoneWaiting}
use Rattle.image_law.specs.StandingState.{StandsLasting}
use Rattle.image_law.specs.SoundMachine.{StaysSound}
use Rattle.image_law.proofs.Steps.{HasTerminals, stays_sound, there_by}
use Rattle.checkpointing.specs.SnapshotRecords.{IsOfSystem}
use Rattle.disk_law.specs.Life.{LifeOnDisk}
use Rattle.disk_law.specs.LastingSteps.{MayCommand, command_record, commanding}
use Rattle.disk_law.proofs.LastingSteps as steps
use Rattle.disk_law.proofs.Stepping.{step_life}
use Rattle.program_rows.specs.SlotsState.{SlotsState}
use Rattle.journal.specs.UnspentCounts.{AreUnspent}
use Rattle.journal.specs.CarriedLife.{IsCarriedBy}
use Rattle.journal.specs.LifeByCall.{LifeGoesOn, LifeStepsOn}
use Rattle.journal.proofs.Answered.{same_goes}
use Rattle.journal.proofs.Counting.{commands_fits}
use Rattle.journal.proofs.Inputs.{HasRoom, counted_then, fits_now, has_terminals, room_for}
use Rattle.journal.proofs.Names.{of_system_behind}
use Rattle.journal.proofs.Turns.{GoesBy, told_by}

-- ---- what an answer that is no refusal tells

known_where : (b : Bool) (name : List ℕ) (answer : CommandAnswer) (a : Answer) → (if b then answer else Err (UnknownName name)) ≡ Ok a → b ≡ true
known_where true name answer a e = refl
known_where false name answer a e = absurd cc

answered_where : (b : Bool) (name : List ℕ) (answer : CommandAnswer) (a : Answer) → (if b then answer else Err (UnknownName name)) ≡ Ok a → answer ≡ Ok a
answered_where true name answer a e = e
answered_where false name answer a e = absurd cc

first_known : (name : List ℕ) (found : Option TerminalReplies) (a : Answer) → first_dequeued name found ≡ Ok a → is_some found ≡ true
first_known name None a e = absurd cc
first_known name (Some output) a e = refl

all_known : (name : List ℕ) (found : Option TerminalReplies) (a : Answer) → all_dequeued name found ≡ Ok a → is_some found ≡ true
all_known name None a e = absurd cc
all_known name (Some output) a e = refl

none_busy : (name : List ℕ) (c : Option Conversation) (found : Option Message) (a : Answer) → exited name c (option_map (λ (message : Message). message.id) found) ≡ Ok a → found ≡ None
none_busy name None found a e = absurd cc
none_busy name (Some c) None a e = refl
none_busy name (Some c) (Some message) a e = absurd cc

none_conversing : (terminal : List ℕ) (messages : List Message) → find (is_conversing terminal) messages ≡ None → list_any (is_conversing terminal) messages ≡ false
none_conversing terminal [] e = refl
none_conversing terminal (m ∷ messages) e = by (is_conversing terminal m) e (none_conversing terminal messages) where
  by : (b : Bool) → (if b then Some m else find (is_conversing terminal) messages) ≡ None → (find (is_conversing terminal) messages ≡ None → list_any (is_conversing terminal) messages ≡ false)
      → (b || list_any (is_conversing terminal) messages) ≡ false
  by true f later = absurd cc
  by false f later = later f

-- what a command that lasts asks for
record IsDone (system : System) (lasting : LastingState) (command : LastingCommand) : Type 0 where
  known : names_known system command ≡ true
  none : EndsNoneWaiting command lasting

module _ (system : System) (valid : IsSystem system) (moment : Moment) (slots : SlotsState) (units : List ℕ) (next : ℕ) (life : LifeOnDisk)
    (c : IsCarriedBy system moment slots units next life) (unspent : AreUnspent moment.lasting) where
  names : HasTerminals system moment.lasting
  names = has_terminals system moment.lasting c.is.names

  by_terminals : (terminal : List ℕ) → is_some (terminal_at moment.lasting.terminals terminal) ≡ true → is_system_terminal system terminal ≡ true
  by_terminals terminal there =
      sym (ap (λ (ns : List (List ℕ)). list_any (λ other. bytes_eq other terminal) ns) names.terminals)
      ∙ sym (there_by (λ (t : TerminalState). t.name) moment.lasting.terminals terminal)
      ∙ there

  by_outputs : (terminal : List ℕ) → is_some (output_at moment.lasting.outputs terminal) ≡ true → is_system_terminal system terminal ≡ true
  by_outputs terminal there =
      sym (ap (λ (ns : List (List ℕ)). list_any (λ other. bytes_eq other terminal) ns) names.outputs)
      ∙ sym (there_by (λ (t : TerminalReplies). t.terminal) moment.lasting.outputs terminal)
      ∙ there

  of_code_done : (code : List ℕ) (answer : CommandAnswer) (a : Answer) → of_code system code answer ≡ Ok a → is_some (code_at system.codes code) ≡ true
  of_code_done code answer a e = known_where (is_some (code_at system.codes code)) code answer a e

  of_terminal_done : (terminal : List ℕ) (answer : CommandAnswer) (a : Answer) → of_terminal moment.lasting terminal answer ≡ Ok a → is_system_terminal system terminal ≡ true
  of_terminal_done terminal answer a e = by_terminals terminal (known_where (is_some (terminal_at moment.lasting.terminals terminal)) terminal answer a e)

  exit_done : (terminal : List ℕ) (a : Answer) → command_answer system moment (Exit terminal) ≡ Ok a → list_any (is_conversing terminal) moment.lasting.messages ≡ false
  exit_done terminal a e =
      let answer = exited terminal (conversation_at terminal moment.lasting.conversations) (busy_id terminal moment.lasting.messages) in
      none_conversing terminal moment.lasting.messages
      (none_busy terminal (conversation_at terminal moment.lasting.conversations) (find (is_conversing terminal) moment.lasting.messages) a
      (answered_where (is_some (terminal_at moment.lasting.terminals terminal)) terminal answer a e))

  module _ (command : Command) (assigned : IfSome (lasting_command command) texts.IsAssigned) (right : list_all (has_right_pad system) (After system moment (CommandCall command) []).lasting.conversations ≡ true) where
    abbrev after : Moment
    after = After system moment (CommandCall command) []

    sound : StaysSound system after
    sound = stays_sound system valid moment names c.sound (CommandCall command) [] assigned refl right

    -- nothing lasts of it
    nothing : command_step system moment command ≡ None → LifeGoesOn [] system after slots units next life
    nothing none = same_goes system moment after slots units next life c (ap (λ (o : Option LastingStep). option_map_or (λ s. applied s moment.lasting) o moment.lasting) none) refl refl sound

    -- ---- one that lasts is done

    module _ (does : LastingCommand) (step_is : command_step system moment command ≡ Some (Commands does)) (named : texts.IsSpellable does) (is_done : IsDone system moment.lasting does) where
      abbrev behind : LastingState
      behind = applied (Commands does) moment.lasting

      behind_is : after.lasting ≡ behind
      behind_is = ap (λ (o : Option LastingStep). option_map_or (λ s. applied s moment.lasting) o moment.lasting) step_is

      stands : StandsLasting system behind
      stands = subst (StandsLasting system) behind_is sound.stands

      has_room : content behind ≤ system.qbytes
      has_room = subst (λ (l : LastingState). content l ≤ system.qbytes) behind_is (omega (arith, sound.room))

      fits_so : FitsRanges system behind
      fits_so = commands_fits system moment.lasting (fits_now system valid moment slots units next life c unspent) unspent does stands has_room

      may_command : HasRoom (command_record does ∷ []) life → MayCommand does life
      may_command room = record {
        named = named;
        known = rw (c.is.of_system) is_done.known;
        none = subst (λ (l : LastingState). EndsNoneWaiting does l) (sym c.is.lasts) is_done.none;
        fits = rw (c.is.of_system, c.is.lasts) fits_so;
        room = room_for (command_record does ∷ []) (command_record does ∷ []) life refl room;
      }

      lasts_so : applied (Commands does) life.lasting ≡ after.lasting
      lasts_so = ap (λ (l : LastingState). applied (Commands does) l) c.is.lasts ∙ sym behind_is

      done_goes : HasRoom (command_record does ∷ []) life → LifeStepsOn (flat_map record_spelling (command_record does ∷ [])) system after slots units next life
      done_goes room =
          let is = steps.command_step does life c.is.is_life (may_command room) in
          record {
            step = commanding does life;
            spelled = refl;
            is_step = is;
            lasts = lasts_so;
            is = record {
              is = record {
                of_system = c.is.of_system;
                lasts = lasts_so;
                names = subst (λ (l : LastingState). IsOfSystem system l) (sym behind_is) (of_system_behind system (Commands does) moment.lasting c.is.names);
                counted = counted_then system valid moment slots units next life c unspent (commanding does life) is after.lasting lasts_so;
                is_life = step_life life c.is.is_life (commanding does life) is;
                stores = record { are_of = c.is.stores.are_of; valid = c.is.stores.valid; present = c.is.stores.present; changed = c.is.stores.changed };
                committed = c.is.committed;
                numbers = c.is.numbers;
                touched = c.is.touched;
                syncs = c.is.syncs;
              };
              sound = sound;
            };
          }

    -- by its answer
    lasting_by : (does : LastingCommand) (answer : CommandAnswer) → command_step system moment command ≡ steps_by (Some does) answer → texts.IsSpellable does
        → ((a : Answer) → answer ≡ Ok a → IsDone system moment.lasting does) → HasRoom (told_by 0 moment.lasting (steps_by (Some does) answer)) life
        → GoesBy (steps_by (Some does) answer) (flat_map record_spelling (told_by 0 moment.lasting (steps_by (Some does) answer))) system after slots units next life
    lasting_by does (Ok a) is named done room = done_goes does is named (done a refl) room
    lasting_by does (Err refused) is named done room = nothing is

    shown_by : (answer : CommandAnswer) → command_step system moment command ≡ steps_by None answer
        → GoesBy (steps_by None answer) (flat_map record_spelling (told_by 0 moment.lasting (steps_by None answer))) system after slots units next life
    shown_by (Ok a) is = nothing is
    shown_by (Err refused) is = nothing is

  -- A command is answered.
  pub command_goes : (command : Command) → IfSome (lasting_command command) texts.IsSpellable
      → list_all (has_right_pad system) (After system moment (CommandCall command) []).lasting.conversations ≡ true
      → HasRoom (told_by 0 moment.lasting (lasting_step system moment (CommandCall command))) life
      → GoesBy (lasting_step system moment (CommandCall command)) (flat_map record_spelling (told_by 0 moment.lasting (lasting_step system moment (CommandCall command)))) system (After system moment (CommandCall command) []) slots units next life
  command_goes (StartTransaction code) named right room =
      lasting_by (StartTransaction code) named.1 right (lasts.StartTransaction code) (command_answer system moment (StartTransaction code)) refl named (λ a e. record { known = of_code_done code _ a e; none = tt }) room
  command_goes (StopTransaction code) named right room =
      lasting_by (StopTransaction code) named.1 right (lasts.StopTransaction code) (command_answer system moment (StopTransaction code)) refl named (λ a e. record { known = of_code_done code _ a e; none = tt }) room
  command_goes (StartTerminal terminal) named right room =
      lasting_by (StartTerminal terminal) named.1 right (lasts.StartTerminal terminal) (command_answer system moment (StartTerminal terminal)) refl named (λ a e. record { known = of_terminal_done terminal _ a e; none = tt }) room
  command_goes (StopTerminal terminal) named right room =
      lasting_by (StopTerminal terminal) named.1 right (lasts.StopTerminal terminal) (command_answer system moment (StopTerminal terminal)) refl named (λ a e. record { known = of_terminal_done terminal _ a e; none = tt }) room
  command_goes (DequeueFirst terminal) named right room =
      lasting_by (DequeueFirst terminal) named.1 right (lasts.DequeueFirst terminal) (command_answer system moment (DequeueFirst terminal)) refl named
      (λ a e. record { known = by_outputs terminal (first_known terminal (output_at moment.lasting.outputs terminal) a e); none = tt }) room
  command_goes (DequeueAll terminal) named right room =
      lasting_by (DequeueAll terminal) named.1 right (lasts.DequeueAll terminal) (command_answer system moment (DequeueAll terminal)) refl named
      (λ a e. record { known = by_outputs terminal (all_known terminal (output_at moment.lasting.outputs terminal) a e); none = tt }) room
  command_goes (Exit terminal) named right room =
      lasting_by (Exit terminal) named.1 right (lasts.Exit terminal) (command_answer system moment (Exit terminal)) refl named (λ a e. record { known = of_terminal_done terminal _ a e; none = exit_done terminal a e }) room
  command_goes (AssignClass code class) named right room =
      lasting_by (AssignClass code class) named.1 right (lasts.AssignClass code class) (command_answer system moment (AssignClass code class)) refl named (λ a e. record { known = of_code_done code _ a e; none = tt }) room
  command_goes (AssignPriority code priority) named right room =
      lasting_by (AssignPriority code priority) named.1 right (lasts.AssignPriority code priority) (command_answer system moment (AssignPriority code priority)) refl named (λ a e. record { known = of_code_done code _ a e; none = tt }) room
  command_goes (DisplayTransaction code) named right room = shown_by (DisplayTransaction code) tt right (command_answer system moment (DisplayTransaction code)) refl
  command_goes (DisplayTerminal terminal) named right room = shown_by (DisplayTerminal terminal) tt right (command_answer system moment (DisplayTerminal terminal)) refl
  command_goes DisplayActive named right room = shown_by DisplayActive tt right (command_answer system moment DisplayActive) refl
  command_goes Checkpoint named right room = shown_by Checkpoint tt right (command_answer system moment Checkpoint) refl
  command_goes Freeze named right room = shown_by Freeze tt right (command_answer system moment Freeze) refl
  command_goes EmergencyRestart named right room = shown_by EmergencyRestart tt right (command_answer system moment EmergencyRestart) refl
  command_goes NormalRestart named right room = shown_by NormalRestart tt right (command_answer system moment NormalRestart) refl
  command_goes ColdStart named right room = shown_by ColdStart tt right (command_answer system moment ColdStart) refl

  -- A checkpoint as a call leaves what the life has; what it writes is `checkpoint_carried`.
  pub checked_goes : (freeze : Bool) → list_all (has_right_pad system) (After system moment (CheckpointCall freeze) []).lasting.conversations ≡ true → LifeGoesOn [] system (After system moment (CheckpointCall freeze) []) slots units next life
  checked_goes freeze right =
      same_goes system moment (After system moment (CheckpointCall freeze) []) slots units next life c refl refl refl (stays_sound system valid moment names c.sound (CheckpointCall freeze) [] tt refl right)
