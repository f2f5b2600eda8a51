-- Inputs, acknowledgements and what is shown: the life goes on with each, whatever the answer.
use Rattle.std.proofs.Common.{◌≡◌, ℕ, true, List, [], Option, None, Result, Ok, Err, refl, sym, ◌∙◌, ap, subst}
use Rattle.std.specs.List.{list_all, flat_map}
use Rattle.std.specs.Option.{option_map_or}
use Rattle.tm_disk.specs.Disk.{Image}
use Rattle.model_system.specs.System.{System}
use Rattle.model_data.specs.Table.{EnqueueTable}
use Rattle.model_machine.specs.declared.entry.ControlCall.TheVariants.{Input, Receive, Acknowledge, AskQuiet}
use Rattle.model_machine.specs.declared.entry.Taken.{Taken}
use Rattle.model_machine.specs.declared.entry.Taken.TheVariants.{New, Already}
use Rattle.model_machine.specs.declared.entry.InputRefused.{InputRefused}
use Rattle.model_machine.specs.declared.entry.Acked.{Acked}
use Rattle.model_machine.specs.declared.entry.Acked.TheVariants.{Removed, Already as AckAlready}
use Rattle.model_machine.specs.declared.entry.AckRefused.{AckRefused}
use Rattle.model_machine.specs.Machine.{LastingState, Moment, Slot}
use Rattle.model_machine.specs.LastingSteps.{KeptInput, LastingStep, applied, kept_input}
use Rattle.model_machine.specs.MachineCalls.{After, accepted_step, ack_answer, acknowledged_step, input_answer, lasting_step}
use Rattle.model_image.specs.RecoveredState.{Recovers}
use Rattle.model_image.specs.States.{has_right_pad, is_small}
use Rattle.log_records.specs.RecordSpelling.{record_spelling}
use Rattle.system_types.specs.ValidSystem.{IsSystem}
use Rattle.image_law.specs.SoundMachine.{StaysSound}
use Rattle.image_law.proofs.Steps.{stays_sound}
use Rattle.disk_law.specs.Life.{LifeOnDisk}
use Rattle.disk_law.specs.KeptImages.{IsImageKept}
use Rattle.disk_law.proofs.Front.{recovers}
use Rattle.disk_law.proofs.OnDisk.{goes_nowhere}
use Rattle.journal.specs.UnspentCounts.{AreUnspent}
use Rattle.program_rows.specs.SlotsState.{SlotsState}
use Rattle.journal.specs.CarriedLife.{IsCarriedBy, IsLifeOf}
use Rattle.journal.specs.LifeByCall.{LifeGoesOn}
use Rattle.journal.proofs.Inputs.{HasRoom, has_terminals, accept_goes, acknowledge_goes}
use Rattle.journal.proofs.Staying.{no_bytes}
use Rattle.journal.proofs.Turns.{GoesBy, told_by}

-- A moment with the same of what the life has is carried by it too.
pub same_carried : (system : System) (moment after : Moment) (slots : SlotsState) (units : List ℕ) (next : ℕ) (life : LifeOnDisk) → IsCarriedBy system moment slots units next life
    → after.lasting ≡ moment.lasting → after.slots ≡ moment.slots → after.enqueues ≡ moment.enqueues → StaysSound system after → IsCarriedBy system after slots units next life
same_carried system moment after slots units next life c a b d sound = record {
  is =
      subst (λ (l : LastingState). IsLifeOf system l after.slots after.enqueues slots units next life) (sym a)
      (subst (λ (r : List (Option Slot)). IsLifeOf system moment.lasting r after.enqueues slots units next life) (sym b)
      (subst (λ (t : EnqueueTable). IsLifeOf system moment.lasting moment.slots t slots units next life) (sym d) c.is));
  sound = sound;
}

-- so nothing is appended
pub same_goes : (system : System) (moment after : Moment) (slots : SlotsState) (units : List ℕ) (next : ℕ) (life : LifeOnDisk) → IsCarriedBy system moment slots units next life
    → after.lasting ≡ moment.lasting → after.slots ≡ moment.slots → after.enqueues ≡ moment.enqueues → StaysSound system after → LifeGoesOn [] system after slots units next life
same_goes system moment after slots units next life c a b d sound = record {
  behind = life;
  text = refl;
  now = refl;
  log = no_bytes life.log;
  goes = goes_nowhere life;
  is = same_carried system moment after slots units next life c a b d sound;
}

-- Each image of the life recovers to what lasts of the machine.
pub carried_recovers : (system : System) (moment : Moment) (slots : SlotsState) (units : List ℕ) (next : ℕ) (life : LifeOnDisk) → IsCarriedBy system moment slots units next life → (image : Image) → IsImageKept life image → Recovers system image (Ok moment.lasting)
carried_recovers system moment slots units next life c image k =
    subst (λ (l : LastingState). Recovers system image (Ok l)) c.is.lasts (subst (λ (y : System). Recovers y image (Ok life.lasting)) c.is.of_system (recovers life c.is.is_life image k))

module _ (system : System) (valid : IsSystem system) (moment : Moment) (slots : SlotsState) (units : List ℕ) (next : ℕ) (life : LifeOnDisk)
    (c : IsCarriedBy system moment slots units next life) (unspent : AreUnspent moment.lasting) where
  -- what a step leaves, where there is none
  none_left : (step : Option LastingStep) → step ≡ None → option_map_or (λ s. applied s moment.lasting) step moment.lasting ≡ moment.lasting
  none_left step none = ap (λ (o : Option LastingStep). option_map_or (λ s. applied s moment.lasting) o moment.lasting) none

  -- ---- inputs

  module _ (terminal : List ℕ) (number : ℕ) (segments : List (List ℕ)) (small : is_small number ≡ true)
      (right : list_all (has_right_pad system) (After system moment (Input terminal number segments) []).lasting.conversations ≡ true) where
    abbrev kept : KeptInput
    kept = kept_input system moment.lasting terminal segments

    abbrev after_input : Moment
    after_input = After system moment (Input terminal number segments) []

    input_sound : StaysSound system after_input
    input_sound = stays_sound system valid moment (has_terminals system moment.lasting c.is.names) c.sound (Input terminal number segments) [] tt refl right

    refused : (answer : Result Taken InputRefused) → input_answer system moment terminal number segments ≡ answer → accepted_step terminal number kept answer ≡ None → LifeGoesOn [] system after_input slots units next life
    refused answer is none =
        same_goes system moment after_input slots units next life c (none_left (lasting_step system moment (Input terminal number segments)) (ap (accepted_step terminal number kept) is ∙ none)) refl refl input_sound

    input_by : (answer : Result Taken InputRefused) → input_answer system moment terminal number segments ≡ answer → HasRoom (told_by 0 moment.lasting (accepted_step terminal number kept answer)) life
        → GoesBy (accepted_step terminal number kept answer) (flat_map record_spelling (told_by 0 moment.lasting (accepted_step terminal number kept answer))) system after_input slots units next life
    input_by (Ok (New id)) is room = accept_goes system valid moment slots units next life c unspent terminal number segments id is small right room
    input_by (Ok Already) is room = refused (Ok Already) is refl
    input_by (Err refusal) is room = refused (Err refusal) is refl

    -- An input is answered.
    pub input_goes : HasRoom (told_by 0 moment.lasting (lasting_step system moment (Input terminal number segments))) life
        → GoesBy (lasting_step system moment (Input terminal number segments)) (flat_map record_spelling (told_by 0 moment.lasting (lasting_step system moment (Input terminal number segments)))) system after_input slots units next life
    input_goes room = input_by (input_answer system moment terminal number segments) refl room

  -- ---- acknowledgements

  module _ (terminal : List ℕ) (number : ℕ) (right : list_all (has_right_pad system) (After system moment (Acknowledge terminal number) []).lasting.conversations ≡ true) where
    abbrev after_ack : Moment
    after_ack = After system moment (Acknowledge terminal number) []

    ack_sound : StaysSound system after_ack
    ack_sound = stays_sound system valid moment (has_terminals system moment.lasting c.is.names) c.sound (Acknowledge terminal number) [] tt refl right

    nothing : (answer : Result Acked AckRefused) → ack_answer moment terminal number ≡ answer → acknowledged_step terminal answer ≡ None → LifeGoesOn [] system after_ack slots units next life
    nothing answer is none =
        same_goes system moment after_ack slots units next life c (none_left (lasting_step system moment (Acknowledge terminal number)) (ap (acknowledged_step terminal) is ∙ none)) refl refl ack_sound

    ack_by : (answer : Result Acked AckRefused) → ack_answer moment terminal number ≡ answer → HasRoom (told_by 0 moment.lasting (acknowledged_step terminal answer)) life
        → GoesBy (acknowledged_step terminal answer) (flat_map record_spelling (told_by 0 moment.lasting (acknowledged_step terminal answer))) system after_ack slots units next life
    ack_by (Ok Removed) is room = acknowledge_goes system valid moment slots units next life c unspent terminal number is right room
    ack_by (Ok AckAlready) is room = nothing (Ok AckAlready) is refl
    ack_by (Err refusal) is room = nothing (Err refusal) is refl

    -- An acknowledgement is answered.
    pub ack_goes : HasRoom (told_by 0 moment.lasting (lasting_step system moment (Acknowledge terminal number))) life
        → GoesBy (lasting_step system moment (Acknowledge terminal number)) (flat_map record_spelling (told_by 0 moment.lasting (lasting_step system moment (Acknowledge terminal number)))) system after_ack slots units next life
    ack_goes room = ack_by (ack_answer moment terminal number) refl room

  -- ---- what is shown

  -- A terminal is shown its reply.
  pub show_goes : (terminal : List ℕ) → list_all (has_right_pad system) (After system moment (Receive terminal) []).lasting.conversations ≡ true → LifeGoesOn [] system (After system moment (Receive terminal) []) slots units next life
  show_goes terminal right =
      same_goes system moment (After system moment (Receive terminal) []) slots units next life c refl refl refl (stays_sound system valid moment (has_terminals system moment.lasting c.is.names) c.sound (Receive terminal) [] tt refl right)

  -- It is told whether nothing is left to do.
  pub quiet_goes : list_all (has_right_pad system) (After system moment AskQuiet []).lasting.conversations ≡ true → LifeGoesOn [] system (After system moment AskQuiet []) slots units next life
  quiet_goes right =
      same_goes system moment (After system moment AskQuiet []) slots units next life c refl refl refl (stays_sound system valid moment (has_terminals system moment.lasting c.is.names) c.sound AskQuiet [] tt refl right)
