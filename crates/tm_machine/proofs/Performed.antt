-- What a command leaves and tells, by its answer.
use Rattle.std.proofs.Common.{◌≡◌, ℕ, ◌<◌, ◌≤◌, Bool, true, false, List, [], ◌++◌, length, refl, sym, ap, ◌∙◌, subst, arith}
use Rattle.std.specs.Prelude.{Option, Some, None, Ok, Err, if◌then◌else◌}
use Rattle.std.specs.List.{flat_map, AllByRecursion}
use Rattle.std.specs.Option.{is_some, option_map_or}
use Rattle.std.proofs.lemmas.List.{append-nil}
use Rattle.tm_types.specs.declared.command.LastingCommand.{LastingCommand}
use Rattle.tm_types.specs.declared.command.LastingCommand.TheVariants as lasts
use Rattle.model_machine.specs.declared.command.Command.{Command}
use Rattle.model_machine.specs.declared.command.Command.TheVariants as command
use Rattle.model_machine.specs.declared.answer.Answer.{Answer}
use Rattle.model_messages.specs.declared.conversation.Conversation.{Conversation}
use Rattle.model_messages.specs.ConversationInput.{busy_id}
use Rattle.model_messages.specs.Terminals.{conversation_at}
use Rattle.model_machine.specs.declared.entry.CommandRefused.{CommandRefused}
use Rattle.model_machine.specs.declared.entry.CommandRefused.TheVariants.{UnknownName}
use Rattle.model_machine.specs.declared.entry.ControlCall.TheVariants.{Command as CommandCall}
use Rattle.model_machine.specs.declared.entry.Entry.TheVariants.{Commanded}
use Rattle.model_machine.specs.CommandAnswers.{CommandAnswer, IsCommandServed, command_answer, command_step, exited, lasting_command, steps_by}
use Rattle.model_machine.specs.LastingSteps.{LastingStep, applied}
use Rattle.model_machine.specs.LastingSteps.LastingStep.{Commands}
use Rattle.model_machine.specs.Machine.{Moment, moment_with, terminal_at}
use Rattle.log_records.specs.declared.record.Record.{Record}
use Rattle.log_records.specs.RecordSpelling.{record_spelling, IsLogRecord}
use Rattle.model_image.specs.StepRecords.{step_bytes, step_records}
use Rattle.tm_machine.specs.Answers.{IsAnswered}
use Rattle.tm_machine.specs.LastingCommands.{EndsNoneBusy, IsCommanded, IsLongerCommand, TellsCommand}
use Rattle.tm_machine.specs.Parts.{PartsState}
use Rattle.tm_machine.specs.ToldByCall.{IsCallLonger, TellsLastingStep, told_bytes_of, told_records_of}

-- ---- the step

-- the parts are as they would follow on themselves now
abbrev pub Stays : PartsState → Type 0
Stays parts = moment_with parts.system parts.moment.lasting parts.moment.slots parts.moment.enqueues parts.moment.raised ≡ parts.moment

module _ (old : PartsState) (command : Command) where
  abbrev after_step : Option LastingStep → Moment
  after_step step =
      moment_with old.system (option_map_or (λ s. applied s old.moment.lasting) step old.moment.lasting) old.moment.slots old.moment.enqueues old.moment.raised

  -- nothing lasts
  none_answered : (answer : CommandAnswer) → answer ≡ command_answer old.system old.moment command → command_step old.system old.moment command ≡ None → IsCommandServed command → Stays old → IsAnswered old old (Commanded command answer)
  none_answered answer is none served stays = record {
    may = record { call = served; victims = refl; answer = ap (Commanded command) is };
    after = sym stays ∙ ap after_step (sym none);
    system = refl;
  }

  none_told : (told : List ℕ) (room : ℕ) → command_step old.system old.moment command ≡ None → TellsLastingStep old.system old.moment 0 room (CommandCall command) told told
  none_told told room none =
      let no_records : told_records_of old.system old.moment 0 (CommandCall command) ≡ [] = ap (λ s. option_map_or (λ x. step_records 0 x old.moment.lasting) s []) none in
      let nothing : told_bytes_of old.system old.moment 0 (CommandCall command) ≡ [] = ap (λ (rs : List Record). flat_map record_spelling rs) no_records in
      record {
        told = sym (append-nil told) ∙ ap (λ bs. told ++ bs) (sym nothing);
        valid = subst (AllByRecursion IsLogRecord) (sym no_records) tt;
        fits = subst (λ bs. length bs ≤ room) (sym nothing) (omega arith);
      }

  refused_none : (refused : CommandRefused) → Err refused ≡ command_answer old.system old.moment command → command_step old.system old.moment command ≡ None
  refused_none refused is = ap (steps_by (lasting_command command)) (sym is)

  pub refused_answered : (refused : CommandRefused) → Err refused ≡ command_answer old.system old.moment command → IsCommandServed command → Stays old → IsAnswered old old (Commanded command (Err refused))
  refused_answered refused is served stays = none_answered (Err refused) is (refused_none refused is) served stays

  pub refused_told : (refused : CommandRefused) (told : List ℕ) (room : ℕ) → Err refused ≡ command_answer old.system old.moment command → TellsLastingStep old.system old.moment 0 room (CommandCall command) told told
  refused_told refused told room is = none_told told room (refused_none refused is)

  module _ (answer : Answer) (is : Ok answer ≡ command_answer old.system old.moment command) where
    step_is : (lasting : Option LastingCommand) → lasting ≡ lasting_command command → command_step old.system old.moment command ≡ steps_by lasting (Ok answer)
    step_is lasting same = ap (λ l. steps_by l (command_answer old.system old.moment command)) (sym same) ∙ ap (steps_by lasting) (sym is)

    -- what shows something alone
    pub shown_answered : None ≡ lasting_command command → IsCommandServed command → Stays old → IsAnswered old old (Commanded command (Ok answer))
    shown_answered none served stays = none_answered (Ok answer) is (step_is None none) served stays

    pub shown_told : None ≡ lasting_command command → (told : List ℕ) (room : ℕ) → TellsLastingStep old.system old.moment 0 room (CommandCall command) told told
    shown_told none told room = none_told told room (step_is None none)

    -- what lasts
    module _ (lasting : LastingCommand) (lasts_so : Some lasting ≡ lasting_command command) where
      does : command_step old.system old.moment command ≡ Some (Commands lasting)
      does = step_is (Some lasting) lasts_so

      records_are : told_records_of old.system old.moment 0 (CommandCall command) ≡ step_records 0 (Commands lasting) old.moment.lasting
      records_are = ap (λ s. option_map_or (λ x. step_records 0 x old.moment.lasting) s []) does

      bytes_are : told_bytes_of old.system old.moment 0 (CommandCall command) ≡ step_bytes 0 (Commands lasting) old.moment.lasting
      bytes_are = ap (λ (rs : List Record). flat_map record_spelling rs) records_are

      pub done_answered : IsCommandServed command → (new : PartsState) → IsCommanded old new lasting → IsAnswered old new (Commanded command (Ok answer))
      done_answered served new done = record {
        may = record { call = served; victims = refl; answer = ap (Commanded command) is };
        after = done.moment ∙ ap after_step (sym does);
        system = done.system;
      }

      pub done_told : (room : ℕ) (before after : List ℕ) → TellsCommand old.moment room lasting before after → TellsLastingStep old.system old.moment 0 room (CommandCall command) before after
      done_told room before after h = record {
        told = h.told ∙ ap (λ bs. before ++ bs) (sym bytes_are);
        valid = subst (AllByRecursion IsLogRecord) (sym records_are) h.valid;
        fits = subst (λ bs. length bs ≤ room) (sym bytes_are) h.fits;
      }

      pub done_longer : (room : ℕ) → IsLongerCommand old.moment room lasting → IsCallLonger old.system old.moment 0 room (CommandCall command)
      done_longer room h = subst (λ bs. room < length bs) (sym bytes_are) h

-- ---- a conversation that ends has no message

exit_free : (name : List ℕ) (c : Option Conversation) (busy : Option ℕ) (answer : Answer) → Ok answer ≡ exited name c busy → busy ≡ None
exit_free name None busy answer e = cc
exit_free name (Some c) None answer e = refl
exit_free name (Some c) (Some id) answer e = cc

exit_there : (there : Bool) (name : List ℕ) (c : Option Conversation) (busy : Option ℕ) (answer : Answer) → Ok answer ≡ (if there then exited name c busy else Err (UnknownName name)) → busy ≡ None
exit_there true name c busy answer e = exit_free name c busy answer e
exit_there false name c busy answer e = cc

some_is : {A : Type 0} (a b : A) → Some a ≡ Some b → a ≡ b
some_is a b e = cc

pub ends_none : (old : PartsState) (c : Command) (answer : Answer) → Ok answer ≡ command_answer old.system old.moment c → (lasting : LastingCommand) → Some lasting ≡ lasting_command c → EndsNoneBusy lasting old.moment.lasting
ends_none old (command.StartTransaction code) answer is lasting e = subst (λ l. EndsNoneBusy l old.moment.lasting) (sym (some_is lasting (lasts.StartTransaction code) e)) tt
ends_none old (command.StopTransaction code) answer is lasting e = subst (λ l. EndsNoneBusy l old.moment.lasting) (sym (some_is lasting (lasts.StopTransaction code) e)) tt
ends_none old (command.StartTerminal name) answer is lasting e = subst (λ l. EndsNoneBusy l old.moment.lasting) (sym (some_is lasting (lasts.StartTerminal name) e)) tt
ends_none old (command.StopTerminal name) answer is lasting e = subst (λ l. EndsNoneBusy l old.moment.lasting) (sym (some_is lasting (lasts.StopTerminal name) e)) tt
ends_none old (command.DequeueFirst name) answer is lasting e = subst (λ l. EndsNoneBusy l old.moment.lasting) (sym (some_is lasting (lasts.DequeueFirst name) e)) tt
ends_none old (command.DequeueAll name) answer is lasting e = subst (λ l. EndsNoneBusy l old.moment.lasting) (sym (some_is lasting (lasts.DequeueAll name) e)) tt
ends_none old (command.Exit name) answer is lasting e =
    subst (λ l. EndsNoneBusy l old.moment.lasting) (sym (some_is lasting (lasts.Exit name) e))
    (exit_there (is_some (terminal_at old.moment.lasting.terminals name)) name (conversation_at name old.moment.lasting.conversations) (busy_id name old.moment.lasting.messages) answer is)
ends_none old (command.AssignClass code class) answer is lasting e = subst (λ l. EndsNoneBusy l old.moment.lasting) (sym (some_is lasting (lasts.AssignClass code class) e)) tt
ends_none old (command.AssignPriority code priority) answer is lasting e = subst (λ l. EndsNoneBusy l old.moment.lasting) (sym (some_is lasting (lasts.AssignPriority code priority) e)) tt
ends_none old (command.DisplayTransaction code) answer is lasting e = cc
ends_none old (command.DisplayTerminal name) answer is lasting e = cc
ends_none old command.DisplayActive answer is lasting e = cc
ends_none old command.Checkpoint answer is lasting e = cc
ends_none old command.Freeze answer is lasting e = cc
ends_none old command.EmergencyRestart answer is lasting e = cc
ends_none old command.NormalRestart answer is lasting e = cc
ends_none old command.ColdStart answer is lasting e = cc
