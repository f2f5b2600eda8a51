-- What always holds of parts, as the laws of the life ask for it.
use Rattle.std.proofs.Common.{◌≡◌, true, subst}
use Rattle.std.specs.Prelude.{length}
use Rattle.std.specs.List.{list_all, AllByRecursion}
use Rattle.model_data.specs.Table.{EnqueueTable}
use Rattle.model_image.specs.States.{has_right_pad}
use Rattle.model_machine.specs.Machine.{Moment}
use Rattle.model_system.specs.System.{System}
use Rattle.pi_enqueue.specs.KeptTable.{IsTableKept}
use Rattle.program_rows.specs.SlotsState.{HaveSlots, HoldsSlot, touched_in}
use Rattle.tm_machine.specs.SlotChanges.{HasSlots, slots_now}
use Rattle.tm_machine.specs.Parts.{PartsState}
use Rattle.journal.specs.CarriedLife.{HoldTouched}
use Rattle.logged_machine.proofs.Pads.{pads_right}

-- regions hold what they have touched, by the moment's table
pub hold_touched : (parts : PartsState) → HasSlots parts → HoldTouched parts.moment.enqueues (slots_now parts)
hold_touched parts has = record {
  held = λ region least. subst (λ (table : EnqueueTable). AllByRecursion (HoldsSlot table region) (touched_in region (slots_now parts))) has.table_is (has.held region least);
  compatible = subst IsTableKept has.table_is has.compatible;
}

-- the slots of parts with the same system
pub have_slots : (old new : PartsState) → HasSlots new → new.system ≡ old.system → HaveSlots old.system.databases (length old.system.regions) (slots_now new)
have_slots old new has same = subst (λ (y : System). HaveSlots y.databases (length y.regions) (slots_now new)) same has.have

-- their pads are right
pub right_pads : (old new : PartsState) (after : Moment) → HasSlots new → new.system ≡ old.system → new.moment ≡ after → list_all (has_right_pad old.system) after.lasting.conversations ≡ true
right_pads old new after has same is =
    subst (λ (m : Moment). list_all (has_right_pad old.system) m.lasting.conversations ≡ true) is
    (subst (λ (y : System). list_all (has_right_pad y) new.moment.lasting.conversations ≡ true) same (pads_right new.system new.moment.lasting.conversations has.pads))
