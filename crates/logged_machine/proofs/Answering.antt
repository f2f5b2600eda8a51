-- Inputs, acknowledgements, commands and what is shown: the life goes on with what the parts tell.
use Rattle.std.proofs.Common.{◌≡◌, ℕ, true, List, [], Result, refl, sym, ap, subst}
use Rattle.std.specs.Prelude.{IfSome}
use Rattle.std.specs.List.{flat_map}
use Rattle.tm_types.specs.Commands.{IsSpellable}
use Rattle.model_machine.specs.declared.answer.Answer.{Answer}
use Rattle.model_machine.specs.declared.command.Command.{Command}
use Rattle.log_records.specs.RecordSpelling.{record_spelling}
use Rattle.disk_law.specs.Life.{LifeOnDisk}
use Rattle.model_image.specs.States.{is_small}
use Rattle.model_machine.specs.declared.entry.ControlCall.TheVariants.{Input, Receive, Acknowledge, Command as CommandCall}
use Rattle.model_machine.specs.declared.entry.Acked.{Acked}
use Rattle.model_machine.specs.declared.entry.AckRefused.{AckRefused}
use Rattle.model_machine.specs.declared.entry.Entry.TheVariants.{Accept, Acked as AckedEntry, Commanded, Show as ShowEntry}
use Rattle.model_machine.specs.declared.entry.CommandRefused.{CommandRefused}
use Rattle.model_machine.specs.declared.entry.InputRefused.{InputRefused}
use Rattle.model_machine.specs.declared.entry.ShowAnswer.{ShowAnswer}
use Rattle.model_machine.specs.declared.entry.Taken.{Taken}
use Rattle.model_machine.specs.CommandAnswers.{lasting_command}
use Rattle.model_machine.specs.Machine.{Moment}
use Rattle.model_machine.specs.MachineCalls.{After, lasting_step}
use Rattle.program_rows.specs.SlotsState.{SlotsState, slots_state_of}
use Rattle.tm_machine.specs.Answers.{IsAnswered}
use Rattle.tm_machine.specs.SlotChanges.{HasSlots, slots_now}
use Rattle.tm_machine.specs.Parts.{PartsState}
use Rattle.tm_machine.specs.ToldByCall.{told_records_of}
use Rattle.journal.specs.UnspentCounts.{AreUnspent}
use Rattle.journal.specs.LifeByCall.{LifeGoesOn}
use Rattle.journal.proofs.Answered.{ack_goes, input_goes, show_goes}
use Rattle.journal.proofs.Commanding.{command_goes}
use Rattle.journal.proofs.Inputs.{HasRoom}
use Rattle.journal.proofs.Turns.{GoesBy}
use Rattle.logged_machine.specs.CarriedParts.{IsCarried}
use Rattle.logged_machine.proofs.Holding.{right_pads}

module _ (old new : PartsState) (units : List ℕ) (next : ℕ) (life : LifeOnDisk) (c : IsCarried old units next life) (unspent : AreUnspent old.moment.lasting) (has : HasSlots old) (had : HasSlots new)
    (databases : new.databases ≡ old.databases) where
  slots_same : slots_now old ≡ slots_now new
  slots_same = ap slots_state_of (sym databases)

  -- An input is answered.
  pub input_of_parts : (terminal : List ℕ) (number : ℕ) (segments : List (List ℕ)) (answer : Result Taken InputRefused) → IsAnswered old new (Accept terminal number segments answer) → is_small number ≡ true
      → HasRoom (told_records_of old.system old.moment 0 (Input terminal number segments)) life
      → GoesBy (lasting_step old.system old.moment (Input terminal number segments)) (flat_map record_spelling (told_records_of old.system old.moment 0 (Input terminal number segments))) old.system new.moment (slots_now new) units next life
  input_of_parts terminal number segments answer answered small room =
      let call = Input terminal number segments in
      subst (λ (m : Moment). GoesBy (lasting_step old.system old.moment call) (flat_map record_spelling (told_records_of old.system old.moment 0 call)) old.system m (slots_now new) units next life) (sym answered.after)
      (subst (λ (s : SlotsState). GoesBy (lasting_step old.system old.moment call) (flat_map record_spelling (told_records_of old.system old.moment 0 call)) old.system (After old.system old.moment call []) s units next life) slots_same
      (input_goes old.system has.defined old.moment (slots_now old) units next life c unspent terminal number segments small
      (right_pads old new (After old.system old.moment call []) had answered.system answered.after) room))

  -- An acknowledgement is answered.
  pub ack_of_parts : (terminal : List ℕ) (number : ℕ) (answer : Result Acked AckRefused) → IsAnswered old new (AckedEntry terminal number answer)
      → HasRoom (told_records_of old.system old.moment 0 (Acknowledge terminal number)) life
      → GoesBy (lasting_step old.system old.moment (Acknowledge terminal number)) (flat_map record_spelling (told_records_of old.system old.moment 0 (Acknowledge terminal number))) old.system new.moment (slots_now new) units next life
  ack_of_parts terminal number answer answered room =
      let call = Acknowledge terminal number in
      subst (λ (m : Moment). GoesBy (lasting_step old.system old.moment call) (flat_map record_spelling (told_records_of old.system old.moment 0 call)) old.system m (slots_now new) units next life) (sym answered.after)
      (subst (λ (s : SlotsState). GoesBy (lasting_step old.system old.moment call) (flat_map record_spelling (told_records_of old.system old.moment 0 call)) old.system (After old.system old.moment call []) s units next life) slots_same
      (ack_goes old.system has.defined old.moment (slots_now old) units next life c unspent terminal number
      (right_pads old new (After old.system old.moment call []) had answered.system answered.after) room))

  -- A command is answered.
  pub command_of_parts : (command : Command) (answer : Result Answer CommandRefused) → IsAnswered old new (Commanded command answer) → IfSome (lasting_command command) IsSpellable
      → HasRoom (told_records_of old.system old.moment 0 (CommandCall command)) life
      → GoesBy (lasting_step old.system old.moment (CommandCall command)) (flat_map record_spelling (told_records_of old.system old.moment 0 (CommandCall command))) old.system new.moment (slots_now new) units next life
  command_of_parts command answer answered named room =
      let call = CommandCall command in
      subst (λ (m : Moment). GoesBy (lasting_step old.system old.moment call) (flat_map record_spelling (told_records_of old.system old.moment 0 call)) old.system m (slots_now new) units next life) (sym answered.after)
      (subst (λ (s : SlotsState). GoesBy (lasting_step old.system old.moment call) (flat_map record_spelling (told_records_of old.system old.moment 0 call)) old.system (After old.system old.moment call []) s units next life) slots_same
      (command_goes old.system has.defined old.moment (slots_now old) units next life c unspent command named
      (right_pads old new (After old.system old.moment call []) had answered.system answered.after) room))

-- What is shown changes nothing of the parts.
pub show_of_parts : (parts : PartsState) (units : List ℕ) (next : ℕ) (life : LifeOnDisk) → IsCarried parts units next life → AreUnspent parts.moment.lasting → HasSlots parts → (terminal : List ℕ) (answer : ShowAnswer)
    → IsAnswered parts parts (ShowEntry terminal answer) → LifeGoesOn [] parts.system parts.moment (slots_now parts) units next life
show_of_parts parts units next life c unspent has terminal answer answered =
    subst (λ (m : Moment). LifeGoesOn [] parts.system m (slots_now parts) units next life) (sym answered.after)
    (show_goes parts.system has.defined parts.moment (slots_now parts) units next life c unspent terminal (right_pads parts parts (After parts.system parts.moment (Receive terminal) []) has refl answered.after))
