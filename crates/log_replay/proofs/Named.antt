-- What is kept of a slot is what the records say of it.
use Rattle.std.proofs.Common.{◌≡◌, Bool, true, false, ◌&&◌, List, [], ◌∷◌, ◌++◌, ℕ, refl, sym, ◌∙◌, ap, subst, Some, None}
use Rattle.std.specs.Prelude.{if◌then◌else◌, ◌==◌, find, reverse, slice_get, filter, map, Option}
use Rattle.std.specs.List.{list_any}
use Rattle.std.specs.List.Sorted.{IsStrictlySortedBy}
use Rattle.std.specs.Map.{keys_of}
use Rattle.std.specs.Option.{option_or, option_map, unwrap_or}
use Rattle.std.proofs.lemmas.List.{reverse-append}
use Rattle.std.proofs.lemmas.List.Folds.{find-append}
use Rattle.log_records.specs.declared.record.Record.{Record}
use Rattle.log_records.specs.declared.record.Record.TheVariants.{Input, Command, Reply, Discarded, Completed, Acknowledged, SyncPoint, Checkpoint, Terminal, Code, Change}
use Rattle.model_image.specs.Slots.{is_change_of, is_sync_point_of, is_synced, before_image, after_image, named_by}
use Rattle.image_records.specs.declared.slots.NamedSlot.{NamedSlot}
use Rattle.image_records.specs.NamedSlots.{AreSlotsNamed, NamedSlotsAscend, named_bytes_at}
use Rattle.log_replay.specs.declared.said.Said.{Said}
use Rattle.log_replay.specs.SlotBytes.{place_cmp, said_at, said_slot, said_bytes, with_change_said, with_record_said, with_records_said}
use Rattle.log_replay.proofs.Order.{found_by, ascend_from}

-- what these changes say behind what was said before
abbrev says_after : (Record → Bool) → Option Said → List Record → Option (List ℕ)
says_after test None changes = option_or (option_map after_image (find test (reverse changes))) (option_map before_image (slice_get changes 0))
says_after test (Some said) changes = Some (unwrap_or (option_map after_image (find test (reverse changes))) (said_bytes said))

-- the same with the first of them apart
abbrev says_first : Record → Option Record → Bool → Option Said → Option (List ℕ)
says_first r later counts None = option_or (option_map after_image (option_or later (if counts then Some r else None))) (Some (before_image r))
says_first r later counts (Some said) = Some (unwrap_or (option_map after_image (option_or later (if counts then Some r else None))) (said_bytes said))

module _ (unit database slot : ℕ) (before after : List ℕ) where
  abbrev change : Record
  change = Change unit database slot before after

  one_first : (later : Option Record) (counts : Bool) (said : Option Said) → Some (unwrap_or (option_map after_image later) (said_bytes (with_change_said counts before after said))) ≡ says_first change later counts said
  one_first (Some r) counts None = refl
  one_first (Some r) counts (Some said) = refl
  one_first None true None = refl
  one_first None true (Some said) = refl
  one_first None false None = refl
  one_first None false (Some said) = refl

  first_apart : (test : Record → Bool) (said : Option Said) (changes : List Record) → says_after test said (change ∷ changes) ≡ says_first change (find test (reverse changes)) (test change) said
  first_apart test None changes =
      ap (λ (o : Option Record). option_or (option_map after_image o) (Some before)) (ap (find test) (reverse-append (change ∷ []) changes) ∙ find-append test (reverse changes) (change ∷ []))
  first_apart test (Some said) changes =
      ap (λ (o : Option Record). Some (unwrap_or (option_map after_image o) (said_bytes said))) (ap (find test) (reverse-append (change ∷ []) changes) ∙ find-append test (reverse changes) (change ∷ []))

module _ (counts : ℕ → Bool) (log : List Record) (same : (unit : ℕ) → counts unit ≡ list_any (is_sync_point_of unit) log) (d s : ℕ) where
  says : (records : List Record) (said : Option Said) → option_map said_bytes (with_records_said counts d s records said) ≡ says_after (is_synced log) said (filter (is_change_of d s) records)
  says [] None = refl
  says [] (Some said) = refl
  says (Change unit database slot before after ∷ records) said =
      by_place ((database == d) && (slot == s)) (says records said) (says records (Some (with_change_said (counts unit) before after said))) where
        by_place : (b : Bool) → option_map said_bytes (with_records_said counts d s records said) ≡ says_after (is_synced log) said (filter (is_change_of d s) records) →
            option_map said_bytes (with_records_said counts d s records (Some (with_change_said (counts unit) before after said))) ≡ says_after (is_synced log) (Some (with_change_said (counts unit) before after said)) (filter (is_change_of d s) records) →
            option_map said_bytes (with_records_said counts d s records (if b then Some (with_change_said (counts unit) before after said) else said)) ≡ says_after (is_synced log) said (if b then Change unit database slot before after ∷ filter (is_change_of d s) records else filter (is_change_of d s) records)
        by_place false rest more = rest
        by_place true rest more =
            let changes = filter (is_change_of d s) records in
            more ∙ one_first unit database slot before after (find (is_synced log) (reverse changes)) (counts unit) said
            ∙ ap (λ b. says_first (Change unit database slot before after) (find (is_synced log) (reverse changes)) b said) (same unit)
            ∙ sym (first_apart unit database slot before after (is_synced log) said changes)
  says (Input unit id origin code number conversation segments ∷ records) said = says records said
  says (Command text ∷ records) said = says records said
  says (Reply unit terminal number segments ∷ records) said = says records said
  says (Discarded unit id abend number ∷ records) said = says records said
  says (Completed unit id ∷ records) said = says records said
  says (Acknowledged terminal number ∷ records) said = says records said
  says (SyncPoint unit pad ∷ records) said = says records said
  says (Checkpoint checkpoint next_id next_unit steps ∷ records) said = says records said
  says (Terminal name last next stopped conversation ∷ records) said = says records said
  says (Code name stopped class priority ∷ records) said = says records said

  one_behind : (records more : List Record) (said : Option Said) → with_records_said counts d s (records ++ more) said ≡ with_records_said counts d s more (with_records_said counts d s records said)
  one_behind [] more said = refl
  one_behind (r ∷ records) more said = one_behind records more (with_record_said counts d s r said)

  pub named_is : (snapshot : List Record) → option_map said_bytes (with_records_said counts d s log (with_records_said counts d s snapshot None)) ≡ named_by snapshot log d s
  unfolding named_by
  named_is snapshot =
      ap (option_map said_bytes) (sym (one_behind snapshot log None)) ∙ says (snapshot ++ log) None

-- The slots of the map are those that the records name.
pub are_named : (counts : ℕ → Bool) (snapshot log : List Record) (entries : List ((ℕ × ℕ) × Said)) (slots : List NamedSlot) →
    ((unit : ℕ) → counts unit ≡ list_any (is_sync_point_of unit) log) → IsStrictlySortedBy place_cmp (keys_of entries) → slots ≡ map said_slot entries →
    ((d s : ℕ) → said_at d s entries ≡ with_records_said counts d s log (with_records_said counts d s snapshot None)) → AreSlotsNamed snapshot log slots
are_named counts snapshot log entries slots same sorted are each = record {
  ascending = subst NamedSlotsAscend (sym are) (ascend_from entries sorted);
  each = λ d s. ap (named_bytes_at d s) are ∙ found_by d s entries ∙ ap (option_map said_bytes) (each d s) ∙ named_is counts log same d s snapshot;
}
