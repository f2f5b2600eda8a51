-- What calls do to slots and to the marks of those that were changed.
use Rattle.std.proofs.Common.{◌≡◌, ℕ, ◌-◌, ◌≤◌, ◌∷◌, [], List, refl, sym, ◌∙◌, ap, subst, Bool, true, false, Option, None, Some, ◌&&◌, ◌||◌, inl}
use Rattle.std.specs.List.{list_any}
use Rattle.std.specs.Prelude.{IfSome}
use Rattle.std.specs.Option.{option_map_or}
use Rattle.std.proofs.lemmas.Bool.{eq-eqb}
use Rattle.model_data.specs.declared.row.Row.{Row}
use Rattle.model_data.specs.Record as rows
use Rattle.log_records.specs.declared.record.Record.{Record}
use Rattle.tm_types.specs.declared.dbd.Dbd.{Dbd}
use Rattle.seg_store.specs.Slots.{Stored, AreSlots, rows_of_slots, slot_of_root, slot_for, lowest_free, first_slot_of, with_root, with_image}
use Rattle.seg_store.specs.ChangedSlots.{Kept, AllStores, with_changed_number, slot_changed}
use Rattle.seg_store.specs.Stores.{IsStoreOf, with_store}
use Rattle.seg_store.proofs.SlotRows.{free_at, set_itself, record_none}
use Rattle.dli_calls.specs.declared.planned.Edit.{Edit}
use Rattle.dli_calls.specs.CallPlan.{IsThere}
use Rattle.program_rows.specs.PlannedChanges.{MarksEdit}
use Rattle.unit_work.specs.Images.{slots_of_database}
use Rattle.unit_work.specs.Marks.{is_marked, AreMarked}
use Rattle.unit_work.specs.ToldChanges.{is_told_of, ChangesTold}
use Rattle.unit_work.proofs.Marking.{marks_none, marks_same, marks_one, set_marked}
use Rattle.program_rows.specs.SlotsState.{SlotsState, slots_stores, CallsSo}
use Rattle.program_rows.specs.ToldChanges.{set_told}
use Rattle.program_rows.proofs.ToldBack.{stays_told}

-- a call that changes nothing
pub calls_none : (unit region : ℕ) (old new : SlotsState) (records : List Record) → records ≡ [] → new ≡ old → CallsSo unit region old new records
calls_none unit region old new records none same =
    subst (λ (s : SlotsState). CallsSo unit region old s records) (sym same)
    (record {
      told = subst (λ rs. ChangesTold unit old.stores old.stores rs) (sym none) (stays_told unit old.stores old.stores refl);
      does = inl (record { none = none; same = refl });
      marks = marks_none (λ database slot. list_any (is_told_of database slot) records) (slots_stores old);
      committed = refl;
    })

-- the slot of a root that has none, where an image without rows is set
none_set : (root : List ℕ) (slots : List (List Row)) (o : Option ℕ) → lowest_free slots ≡ o → with_image o [] slots ≡ slots
none_set root slots None e = refl
none_set root slots (Some n) e = set_itself slots n [] (free_at slots n e)

-- a record is set, whose slot is told of
module _ (unit : ℕ) (all : AllStores) (number : ℕ) (s t : Kept) (least : 1 ≤ number) (of : IsStoreOf all number s) (root : List ℕ) (image : List Row)
    (changed : t.changed ≡ with_changed_number (slot_changed root image s.slots) s.changed) (slots : t.slots ≡ with_root root image s.slots) where
  abbrev records : List Record
  records = set_told unit number image all.stores (slot_for root (slots_of_database number all.stores))

  abbrev passing : ℕ → ℕ → Bool
  passing database slot = list_any (is_told_of database slot) records

  slots_are : slots_of_database number all.stores ≡ s.slots
  slots_are = ap (λ o. option_map_or (λ (x : Stored). x.slots) o []) of.stored_is

  told_here : (n : ℕ) → slot_for root s.slots ≡ Some n → passing number n ≡ true
  told_here n e =
      ap (λ o. list_any (is_told_of number n) (set_told unit number image all.stores o)) (ap (slot_for root) slots_are ∙ e)
      ∙ (λ i. (eq-eqb number number refl i && eq-eqb n n refl i) || false)

  one_set : (n : ℕ) → slot_for root s.slots ≡ Some n → slot_changed root image s.slots ≡ Some n → AreMarked passing all (with_store all number t)
  one_set n e c =
      marks_one passing all number s t least of n (changed ∙ ap (λ o. with_changed_number o s.changed) c) image (slots ∙ ap (λ o. with_image o image s.slots) e) (told_here n e)

  none_changed : slot_changed root image s.slots ≡ None → with_root root image s.slots ≡ s.slots → AreMarked passing all (with_store all number t)
  none_changed c same = marks_same passing all number s t least of (changed ∙ ap (λ o. with_changed_number o s.changed) c) (slots ∙ same)

  -- the slot that is set is marked
  pub own_marked : IfSome (slot_changed root image (slots_of_database number all.stores)) (λ slot. is_marked (with_store all number t).changed number slot ≡ true)
  own_marked =
      subst (λ o. IfSome o (λ slot. is_marked (with_store all number t).changed number slot ≡ true)) (sym (ap (slot_changed root image) slots_are)) (by (slot_changed root image s.slots) refl)
    where
      by : (o : Option ℕ) → slot_changed root image s.slots ≡ o → IfSome o (λ slot. is_marked (with_store all number t).changed number slot ≡ true)
      by None e = tt
      by (Some n) e = set_marked passing all number s t least of n (changed ∙ ap (λ o. with_changed_number o s.changed) e)

  pub marks_set : AreMarked passing all (with_store all number t)
  marks_set = by image refl (slot_of_root root s.slots) refl (slot_for root s.slots) refl
    where
      by : (rows : List Row) → image ≡ rows → (o : Option ℕ) → slot_of_root root s.slots ≡ o → (p : Option ℕ) → slot_for root s.slots ≡ p → AreMarked passing all (with_store all number t)
      by [] i (Some n) e p f =
          one_set n (ap (λ o. first_slot_of o (lowest_free s.slots)) e) (ap (λ im. slot_changed root im s.slots) i ∙ e)
      by [] i None e p f =
          none_changed (ap (λ im. slot_changed root im s.slots) i ∙ e)
          (ap (λ o. with_image (first_slot_of o (lowest_free s.slots)) image s.slots) e ∙ (ap (λ im. with_image (lowest_free s.slots) im s.slots) i ∙ none_set root s.slots (lowest_free s.slots) refl))
      by (row ∷ rows) i o e (Some n) f = one_set n f (ap (λ im. slot_changed root im s.slots) i ∙ f)
      by (row ∷ rows) i o e None f = none_changed (ap (λ im. slot_changed root im s.slots) i ∙ f) (ap (λ o. with_image o image s.slots) f)

-- the slot that an edit sets, which removes a record only where there is one
pub slot_is_changed : (dbd : Dbd) (slots : List (List Row)) (e : Edit) (slot : ℕ) → AreSlots dbd slots → IsThere (rows_of_slots slots) (Some e) → slot_for e.root slots ≡ Some slot
    → slot_changed e.root e.image slots ≡ Some slot
slot_is_changed dbd slots e slot valid there place = by e.image refl (slot_of_root e.root slots) refl
  where
    by : (image : List Row) → e.image ≡ image → (o : Option ℕ) → slot_of_root e.root slots ≡ o → slot_changed e.root e.image slots ≡ Some slot
    by (row ∷ rows) i o q = ap (λ im. slot_changed e.root im slots) i ∙ place
    by [] i None q = absurd (there i (record_none dbd slots e.root valid q))
    by [] i (Some n) q = ap (λ im. slot_changed e.root im slots) i ∙ (q ∙ (sym (ap (λ o. first_slot_of o (lowest_free slots)) q) ∙ place))

-- so it is marked
pub edit_marked : (number : ℕ) (e : Edit) (old new : AllStores) (s : Stored) (slot : ℕ) → MarksEdit number e old new → slots_of_database number old.stores ≡ s.slots → AreSlots s.dbd s.slots
    → IsThere (rows_of_slots s.slots) (Some e) → slot_for e.root s.slots ≡ Some slot → is_marked new.changed number slot ≡ true
edit_marked number e old new s slot marks at valid there place =
    subst (λ o. IfSome o (λ slot. is_marked new.changed number slot ≡ true))
    (ap (slot_changed e.root e.image) at ∙ slot_is_changed s.dbd s.slots e slot valid there place) marks.own
