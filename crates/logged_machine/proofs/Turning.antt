-- A turn of a region: the life goes on with what the parts tell.
use Rattle.std.proofs.Common.{◌≡◌, ℕ, ◌-◌, List, [], ◌∷◌, length, map, Option, None, Ok, sym, ◌∙◌, ap, subst}
use Rattle.std.specs.Prelude.{slice_set}
use Rattle.std.specs.List.{flat_map}
use Rattle.tm_types.specs.declared.dbd.Dbd.{Dbd}
use Rattle.model_data.specs.declared.victim.Victim.{Victim}
use Rattle.log_records.specs.declared.record.Record.{Record}
use Rattle.log_records.specs.RecordSpelling.{record_spelling}
use Rattle.seg_store.specs.Slots.{rows_of_slots}
use Rattle.disk_law.specs.Life.{LifeOnDisk}
use Rattle.model_machine.specs.declared.entry.ControlCall.TheVariants.{Turn}
use Rattle.model_machine.specs.declared.entry.Entry.TheVariants.{Turn as TurnEntry}
use Rattle.model_machine.specs.declared.entry.Turned.{Turned}
use Rattle.model_machine.specs.declared.entry.Turned.TheVariants.{Scheduled, Called, Next, QC, Done, Abended, Idle, Held, Waits, Backed}
use Rattle.model_machine.specs.History.{victims_in}
use Rattle.model_machine.specs.Machine.{Moment, Slot}
use Rattle.model_machine.specs.MachineCalls.{After, lasting_step, turn_answer}
use Rattle.program_rows.specs.SlotsState.{SlotsState}
use Rattle.tm_machine.specs.Answers.{IsAnswered}
use Rattle.tm_machine.specs.SlotChanges as slots
use Rattle.tm_machine.specs.SlotChanges.{HasSlots, TellByCall, TurnsSo, changes_told, slots_now, turn_records}
use Rattle.tm_machine.specs.Parts.{PartsState}
use Rattle.journal.specs.UnspentCounts.{AreUnspent}
use Rattle.journal.specs.TurnChanges.{DoesSo, GiveUpInOrder, QuietUnlessCalled}
use Rattle.journal.specs.UnitNumbers.{next_after, unit_of_region, units_after}
use Rattle.journal.proofs.Inputs.{HasRoom}
use Rattle.journal.proofs.Turns.{GoesBy, turn_goes}
use Rattle.logged_machine.specs.CarriedParts.{IsCarried}
use Rattle.logged_machine.proofs.Holding.{have_slots, hold_touched, right_pads}

-- victims give up alike
give_up : (dbds : List Dbd) (regions : ℕ) (victims : List Victim) (taken : List (Option Slot)) (old new : SlotsState) → slots.GiveUpSo dbds regions taken victims old new → GiveUpInOrder dbds regions taken victims old new
give_up dbds regions [] taken old new up = up
give_up dbds regions (v ∷ victims) taken old new up = record {
  least = up.least;
  busy = up.busy;
  middle = up.middle;
  gives_up = up.gives_up;
  have = up.have;
  rest = give_up dbds regions victims (slice_set taken (v.region - 1) None) up.middle new up.rest;
}

does_so : (old new : PartsState) (unit region : ℕ) (turned : Turned) → TurnsSo old new unit region turned
    → DoesSo old.system.databases (length old.system.regions) old.moment.slots (slots_now old) (slots_now new) unit region (changes_told old unit region) turned
does_so old new unit region (Scheduled code id) does = does
does_so old new unit region (Called function pcb status) does = does
does_so old new unit region (Next code id next) does = does
does_so old new unit region (QC code id) does = does
does_so old new unit region (Done code id) does = does
does_so old new unit region (Abended code id abend) does = does
does_so old new unit region Idle does = does
does_so old new unit region (Held need limit) does = does
does_so old new unit region (Waits resource by) does = does
does_so old new unit region (Backed victims) does = give_up old.system.databases (length old.system.regions) victims old.moment.slots (slots_now old) (slots_now new) does

tells_so : (changes : List Record) (turned : Turned) → TellByCall changes turned → QuietUnlessCalled changes turned
tells_so changes (Scheduled code id) quiet = quiet
tells_so changes (Called function pcb status) quiet = tt
tells_so changes (Next code id next) quiet = quiet
tells_so changes (QC code id) quiet = quiet
tells_so changes (Done code id) quiet = quiet
tells_so changes (Abended code id abend) quiet = quiet
tells_so changes Idle quiet = quiet
tells_so changes (Held need limit) quiet = quiet
tells_so changes (Waits resource by) quiet = quiet
tells_so changes (Backed victims) quiet = quiet

turned_is : (region : ℕ) (a b : Turned) → TurnEntry region (Ok a) ≡ TurnEntry region (Ok b) → a ≡ b
turned_is region a b e = cc

module _ (old new : PartsState) (units : List ℕ) (next : ℕ) (life : LifeOnDisk) (c : IsCarried old units next life) (unspent : AreUnspent old.moment.lasting) (has : HasSlots old) (had : HasSlots new)
    (region : ℕ) (turned : Turned) (answered : IsAnswered old new (TurnEntry region (Ok turned))) (turns : TurnsSo old new (unit_of_region units region) region turned)
    (quiet : TellByCall (changes_told old (unit_of_region units region) region) turned) (room : HasRoom (turn_records old (unit_of_region units region) region) life) where
  abbrev victims : List Victim
  victims = victims_in (TurnEntry region (Ok turned))

  abbrev after : Moment
  after = After old.system old.moment (Turn region) victims

  right_rows : map (λ s. rows_of_slots s.slots) (slots_now new).committed ≡ after.lasting.rows
  right_rows = had.rows_are ∙ ap (λ (m : Moment). m.lasting.rows) answered.after

  -- The life takes the turn's step, or goes on.
  pub turn_of_parts : GoesBy (lasting_step old.system old.moment (Turn region)) (flat_map record_spelling (turn_records old (unit_of_region units region) region)) old.system new.moment (slots_now new)
      (units_after turned region next units) (next_after turned next) life
  turn_of_parts =
      subst (λ (m : Moment). GoesBy (lasting_step old.system old.moment (Turn region)) (flat_map record_spelling (turn_records old (unit_of_region units region) region)) old.system m (slots_now new) (units_after turned region next units) (next_after turned next) life) (sym answered.after)
      (turn_goes old.system has.defined (length old.system.regions) old.moment (slots_now old) (slots_now new) units next life c unspent has.have (have_slots old new had answered.system)
      (hold_touched old has) region answered.may.call.0 answered.may.call.1 victims answered.may.victims
      (right_pads old new after had answered.system answered.after)
      (subst (λ (m : Moment). Rattle.journal.specs.CarriedLife.HoldTouched m.enqueues (slots_now new)) answered.after (hold_touched new had)) right_rows
      (changes_told old (unit_of_region units region) region) turned
      (turned_is region turned (turn_answer old.system old.moment region victims) answered.may.answer)
      (tells_so (changes_told old (unit_of_region units region) region) turned quiet) (does_so old new (unit_of_region units region) region turned turns) room)
