-- The next root, by the index.
use Rattle.std.proofs.Common.{◌≡◌, ℕ, List, sym, ◌∙◌, Option}
use Rattle.std.specs.Option.{option_map}
use Rattle.model_data.specs.declared.row.Row.{Row}
use Rattle.model_data.specs.Rows.{next_root, AreRows}
use Rattle.tm_types.specs.declared.dbd.Dbd.{Dbd}
use Rattle.seg_store.specs.Slots.{rows_of_slots}
use Rattle.seg_store.specs.Store.{AreSlotsIndexed, next_entry}
use Rattle.seg_store.proofs.Entries.{next_root_key}
use Rattle.seg_store.proofs.SlotRows.{slots_roots, slots_are_rows, index_keys}

module _ (dbd : Dbd) (slots : List (List Row)) (index : List (List ℕ × ℕ)) (ir : ℕ) (free : List ℕ) (fr : ℕ) (h : AreSlotsIndexed dbd slots index ir free fr) where
  pub next_root_is : (after : Option (List ℕ)) → next_root (rows_of_slots slots) after ≡ option_map (λ e. e.0) (next_entry index after)
  next_root_is after =
      next_root_key (rows_of_slots slots) index after
      (slots_roots dbd slots h.valid ∙ sym (index_keys slots index h.ascending h.found))

  pub indexed_rows : AreRows dbd (rows_of_slots slots)
  indexed_rows = slots_are_rows dbd slots h.valid
