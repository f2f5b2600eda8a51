-- Slots that were changed are written.
use Rattle.std.proofs.Common.{◌≡◌, ℕ, ◌-◌, zero, suc, refl, sym, ◌∙◌, [], ◌∷◌, List, map, ap, subst, get_or, eqb, false}
use Rattle.std.specs.List.{list_any}
use Rattle.std.proofs.lemmas.Bool.{false≢true}
use Rattle.seg_store.specs.ChangedSlots.{AllStores}
use Rattle.seg_store.specs.Slots.{Stored}
use Rattle.seg_store.specs.WrittenSlots.{all_written}
use Rattle.program_rows.specs.declared.opened.Opened.{Opened}
use Rattle.program_rows.specs.OpenUnits.{unit_records_of, unit_slots_of, AreUnits, AllTouch}
use Rattle.program_rows.specs.PlannedChanges.{AreThere, IsUnitWhole, databases_opened}

none_at : (slot : ℕ) (changed : List (List ℕ)) (i : ℕ) → list_any (λ n. eqb n slot) (get_or (map (λ (numbers : List ℕ). let none : List ℕ = [] in none) changed) i []) ≡ false
none_at slot [] i = refl
none_at slot (numbers ∷ changed) zero = refl
none_at slot (numbers ∷ changed) (suc i) = none_at slot changed i

pub written_there : (all : AllStores) → AreThere (all_written all)
written_there all db slot least e = absurd (false≢true (sym (none_at slot all.changed (db - 1)) ∙ e))

pub whole_settled : (o : Opened) → IsUnitWhole o → IsUnitWhole (record { units = o.units; stores = all_written o.stores; table = o.table })
whole_settled o w = record { units = w.units; touched = w.touched; marks = written_there o.stores }

-- these stores in place of those with the same slots
pub whole_put : (o : Opened) (all : AllStores) → IsUnitWhole o → all.stores ≡ o.stores.stores → AreThere all → IsUnitWhole (record { units = o.units; stores = all; table = o.table })
whole_put o all w same there = record {
  units = subst (λ (stores : List Stored). AreUnits (unit_records_of o.units.items) stores o.table) (sym same) w.units;
  touched = subst (λ (stores : List Stored). AllTouch (unit_records_of o.units.items) (unit_slots_of o.units.items) stores o.table) (sym same) w.touched;
  marks = there;
}

pub seen_put : (o : Opened) (all : AllStores) → all.stores ≡ o.stores.stores → databases_opened (record { units = o.units; stores = all; table = o.table }) ≡ record (databases_opened o) { changed = all.changed }
seen_put o all same = ap (λ (stores : List Stored). databases_opened (record { units = o.units; stores = record { stores = stores; changed = all.changed }; table = o.table })) same
