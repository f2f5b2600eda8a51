-- A record that is set by a region's unit, and a unit that is put back.
use Rattle.std.proofs.Common.{◌≡◌, ℕ, ◌-◌, List, refl, sym, ◌∙◌, ap, subst, Bool, true, false, Option, Some, None, Result, Ok, Err, set}
use Rattle.std.specs.List.{slice_get}
use Rattle.std.specs.Option.{option_map, is_some}
use Rattle.std.specs.Prelude.{IfSome, OnOk, OnErr}
use Rattle.model_data.specs.declared.row.Row.{Row}
use Rattle.model_data.specs.Rows.{record_of}
use Rattle.seg_store.specs.Slots.{Stored, rows_of_slots}
use Rattle.unit_work.specs.declared.change.Change.{Change}
use Rattle.unit_work.specs.Changes.{Changes, AreSlotsInOrder, is_full, no_changes, with_change, with_slot, with_touch}
use Rattle.unit_work.specs.ReadyTouch.{Touching}
use Rattle.dli_calls.specs.declared.planned.Edit.{Edit}
use Rattle.model_data.specs.declared.request.Request.{Request}
use Rattle.pi_enqueue.specs.declared.table.Blocked.{Blocked}
use Rattle.pi_enqueue.specs.Grants.{blocked_told}
use Rattle.program_rows.specs.OpenUnits.{unit_records_of, unit_slots_of}
use Rattle.tm_types.specs.declared.dbd.Dbd.{Dbd}
use Rattle.log_records.specs.declared.untold.Untold.{Untold}
use Rattle.log_records.specs.declared.untold.Untold.TheVariants as untold
use Rattle.log_records.specs.ToldRecords.{AreRecordsUntold}
use Rattle.program_rows.specs.PlannedChanges.{IsPut, IsSame, IsSet, HasAskedIn, MarksEdit, TakesSlot, IsUntoldEdit, changed_in, edit_abend, edit_told, change_kept}
use Rattle.program_rows.specs.declared.asked.Asked.{Asked}
use Rattle.program_rows.specs.declared.opened.Opened.{Opened}
use Rattle.program_rows.proofs.Setting.{taken, unit_records, unit_slots, records_put, slots_put, put_back, put_twice}

-- the records of a unit that was taken out and put back
pub left_records : (old taken_out new : List Changes) (i : ℕ) (u : Changes) (v : Changes) → slice_get old i ≡ Some u → taken_out ≡ set old i v → new ≡ set taken_out i u → new ≡ old
left_records old taken_out new i u v at out back = back ∙ (ap (λ us. set us i u) out ∙ put_back old i u v at)

module _ {R E : Type 0} where
  pub set_done : (r : Result R E) (asked : Asked) (e : Edit) (slot : ℕ) (old new : Opened) (u : Changes) (s : Stored) (units : List Changes) (p : Touching)
      → slice_get old.units.items (asked.region - 1) ≡ Some u → units ≡ set old.units.items (asked.region - 1) no_changes → slice_get old.stores.stores (asked.number - 1) ≡ Some s
      → IfSome (slice_get old.stores.stores (asked.number - 1)) (λ s. TakesSlot s e slot) → is_full asked.number e.root (changed_in asked.region old) ≡ false
      → p.touched ≡ with_touch (change_kept asked.number slot e s) u
      → OnOk r (IsPut asked.number e old.stores.stores new.stores.stores) → OnOk r (new.units.items ≡ set units (asked.region - 1) p.touched) → OnOk r (AreSlotsInOrder p.touched.slots) → OnOk r (MarksEdit asked.number e old.stores new.stores) → OnOk r (HasAskedIn asked old.table new.table)
      → OnOk r (IsSet asked e old new)
  set_done (Err x) asked e slot old new u s units p at out there takes room touched put kept order marks asks = tt
  set_done (Ok x) asked e slot old new u s units p at out there takes room touched put kept order marks asks =
      let both : Some put.s ≡ Some s = sym put.at ∙ there in
      let same : put.s ≡ s = cc in
      record {
        slot = slot;
        put = put;
        takes = taken (λ s. TakesSlot s e slot) (slice_get old.stores.stores (asked.number - 1)) put.s put.at takes;
        room = room;
        units = ap unit_records_of (kept ∙ (ap (λ us. set us (asked.region - 1) p.touched) out ∙ put_twice old.units.items (asked.region - 1) p.touched no_changes))
            ∙ (records_put old.units.items (asked.region - 1) p.touched
            ∙ ap (set (unit_records_of old.units.items) (asked.region - 1))
            (ap (λ (c : Changes). c.records) touched
            ∙ (λ t. with_change (change_kept asked.number slot e (sym same t)) (sym (unit_records old.units.items (asked.region - 1) u at) t))));
        slots = ap unit_slots_of (kept ∙ (ap (λ us. set us (asked.region - 1) p.touched) out ∙ put_twice old.units.items (asked.region - 1) p.touched no_changes))
            ∙ (slots_put old.units.items (asked.region - 1) p.touched
            ∙ ap (set (unit_slots_of old.units.items) (asked.region - 1))
            (ap (λ (c : Changes). c.slots) touched
            ∙ (λ t. with_slot (change_kept asked.number slot e (sym same t)) (sym (unit_slots old.units.items (asked.region - 1) u at) t))));
        order = subst (λ (xs : List Change). AreSlotsInOrder xs)
            (ap (λ (c : Changes). c.slots) touched
            ∙ (λ t. with_slot (change_kept asked.number slot e (sym same t)) (sym (unit_slots old.units.items (asked.region - 1) u at) t))) order;
        marks = marks;
        asks = asks;
      }

  pub set_left : (r : Result R E) (region : ℕ) (old new : Opened) (u : Changes) (units : List Changes) (p : Touching) → slice_get old.units.items (region - 1) ≡ Some u
      → units ≡ set old.units.items (region - 1) no_changes → p.unit ≡ u → OnErr r (new.units.items ≡ set units (region - 1) p.unit) → OnErr r (new.stores.stores ≡ old.stores.stores) → OnErr r (new.stores.changed ≡ old.stores.changed) → OnErr r (new.table ≡ old.table)
      → OnErr r (IsSame old new)
  set_left (Ok x) region old new u units p at out same left stores changed table = tt
  set_left (Err x) region old new u units p at out same left stores changed table =
      record {
        units = ap unit_records_of (left_records old.units.items units new.units.items (region - 1) u no_changes at out (left ∙ ap (set units (region - 1)) same));
        slots = ap unit_slots_of (left_records old.units.items units new.units.items (region - 1) u no_changes at out (left ∙ ap (set units (region - 1)) same));
        stores = stores;
        changed = changed;
        table = table;
      }

-- ---- the image that a record had
-- of the store that is there
pub had_there : (o : Option Stored) (s : Stored) (P : Stored → Type 0) → o ≡ Some s → P s → IfSome o P
had_there None s P e h = tt
had_there (Some t) s P e h = let same : t ≡ s = cc in subst P (sym same) h

-- it is the one that is to come
pub came_back : (o : Option Stored) (s : Stored) (root : List ℕ) (image : Option (List Row)) (before : List Row) → o ≡ Some s → IfSome o (λ s. before ≡ record_of root (rows_of_slots s.slots))
    → IfSome o (λ s. IfSome image (λ i. i ≡ record_of root (rows_of_slots s.slots))) → IfSome image (λ i. i ≡ before)
came_back None s root image before e was h = let clash : None ≡ Some s = e in absurd (cc)
came_back (Some t) s root None before e was h = tt
came_back (Some t) s root (Some i) before e was h = h ∙ sym was

-- a unit for which there was no memory goes back
pub put_left : (region : ℕ) (old new : Opened) (u v : Changes) (units : List Changes) → slice_get old.units.items (region - 1) ≡ Some u
    → units ≡ set old.units.items (region - 1) no_changes → v ≡ u → new.units.items ≡ set units (region - 1) v → new.stores.stores ≡ old.stores.stores → new.stores.changed ≡ old.stores.changed → new.table ≡ old.table → IsSame old new
put_left region old new u v units at out same back stores changed table =
    record {
      units = ap unit_records_of (left_records old.units.items units new.units.items (region - 1) u no_changes at out (back ∙ ap (set units (region - 1)) same));
      slots = ap unit_slots_of (left_records old.units.items units new.units.items (region - 1) u no_changes at out (back ∙ ap (set units (region - 1)) same));
      stores = stores;
      changed = changed;
      table = table;
    }

-- whether the unit of a region is full
pub unit_full : (number : ℕ) (root : List ℕ) (region : ℕ) (o : Opened) (units : List Changes) (u : Changes) (b : Bool) → units ≡ o.units.items → slice_get units (region - 1) ≡ Some u
    → b ≡ is_full number root u.records → is_full number root (changed_in region o) ≡ b
unit_full number root region o units u b same at e =
    ap (is_full number root) (unit_records o.units.items (region - 1) u (ap (λ us. slice_get us (region - 1)) (sym same) ∙ at)) ∙ sym e

-- where none is told to be blocked, none is
pub none_told : (answered : Option Blocked) (some : Bool) (o : Option (Request × ℕ)) → answered ≡ option_map blocked_told o → some ≡ is_some answered → some ≡ false → o ≡ None
none_told answered some None e is h = refl
none_told answered some (Some x) e is h = let clash : true ≡ false = sym (is ∙ ap is_some e) ∙ h in absurd (cc)

-- an edit that leads to no abend isn't told for want of room
pub untold_edit : (asked : Asked) (dbd : Dbd) (e : Edit) (o : Opened) (unit room : ℕ) (error : Untold) → edit_abend asked dbd e o ≡ None
    → AreRecordsUntold (edit_told unit asked.number (Some e) o.stores.stores) room error → IsUntoldEdit asked dbd (Some e) o unit room error
untold_edit asked dbd e o unit room untold.Memory none h = tt
untold_edit asked dbd e o unit room untold.Full none h = (none, h)
