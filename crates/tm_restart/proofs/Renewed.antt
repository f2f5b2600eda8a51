-- What a cold start has written is the first image of a life.
use Rattle.std.proofs.Common.{◌≡◌, ℕ, zero, suc, ◌+◌, ◌<◌, ◌≤◌, Bool, true, false, not, ◌&&◌, ◌||◌, List, [], ◌∷◌, ◌++◌, length, take, drop, map, refl, sym, ◌∙◌, ap, subst, inl, inr, ⊎_elim, arith, Some, None, Ok, nat_le, nat_lt}
use Rattle.std.specs.Prelude.{◌⊎◌, Option, Result, find, slice_get, slice_index_or, if◌then◌else◌, ◌==◌}
use Rattle.std.specs.Option.{option_map}
use Rattle.std.specs.Int.{w16, from_be_bytes}
use Rattle.std.proofs.lemmas.List.Concat.{flat_map-cons}
use Rattle.std.proofs.lemmas.Option.{none-some, same_Some}
use Rattle.tm_types.specs.declared.dbd.Dbd.{Dbd}
use Rattle.model_data.specs.declared.row.Row.{Row}
use Rattle.model_data.specs.Record.{rows_spelling}
use Rattle.tm_disk.specs.Disk.{Image, DiskState, sector_at, Within, Follows}
use Rattle.tm_disk.proofs.Words.{within_where}
use Rattle.tm_disk.specs.Sector.{zeros, blank}
use Rattle.model_messages.specs.Outputs.{fresh_terminal}
use Rattle.model_system.specs.System.{System}
use Rattle.model_machine.specs.Machine.{LastingState, empty_state}
use Rattle.log_records.specs.declared.record.Record.{Record}
use Rattle.log_sectors.specs.SealedSector.{opened_payload}
use Rattle.log_sectors.proofs.Sealing.{opened-blank}
use Rattle.restart_data.specs.declared.restart.RestartSector.{RestartSector}
use Rattle.restart_data.specs.Restart.{IsRestart, restart_in}
use Rattle.restart_data.specs.Fields.{number2_at, are_zeros}
use Rattle.restart_data.proofs.Zeros.{are_zeros-zeros}
use Rattle.seg_store.specs.Slots.{Stored, free_slots}
use Rattle.seg_store.specs.Stores.{empty_store, empty_stores}
use Rattle.system_types.specs.ValidSystem.{IsSystem}
use Rattle.model_image.specs.SectorsAhead.{NoneAhead}
use Rattle.model_image.specs.HeldStores.{HoldsStores}
use Rattle.model_system.specs.Areas.{is_single, snapshot_area, log_first, slot_first, slot_size}
use Rattle.model_image.specs.Slots.{used_in, payload_in, spelled_in, is_wrong_sector, wrong_from, sectors_from}
use Rattle.model_image.specs.RecoveredState.{snapshot_from}
use Rattle.model_image.proofs.Alike.{IsSlotOf}
use Rattle.model_image.proofs.Answers.{zeros_are_empty}
use Rattle.model_image.proofs.Places.{slot_above, slot_below, both_logs}
use Rattle.checkpointing.specs.SnapshotRecords.{snapshot_records}
use Rattle.openings.specs.FirstImage.{IsFirstRestart, IsFirstImage, BeginsImage, first_records}
use Rattle.checkpointing.specs.SpelledRecords.{AddsSpelled}
use Rattle.checkpointing.proofs.Read.{no_changes, read_from}
use Rattle.openings.proofs.Emptied.{empty_is, empty_sound}
use Rattle.openings.proofs.FirstWritten.{has_first, first_recovers}
use Rattle.model_machine.specs.declared.counts.Counter.{Counter}
use Rattle.model_machine.specs.declared.counts.Counter.TheVariants as counter
use Rattle.model_image.specs.Text.{text_in}
use Rattle.image_law.proofs.Told.{empty_counted}
use Rattle.openings.specs.MadeParts.{IsFirstMade}
use Rattle.checkpointing.specs.DefinitionText.{HasText}
use Rattle.checkpointing.specs.Counts.{RaisesCounts}
use Rattle.checkpointing.proofs.Counted.{same_raises}
use Rattle.openings.proofs.Counted.{renewed_up_to}
use Rattle.openings.specs.KeptImage.{KeepsOrEmpties}
use Rattle.openings.specs.OpenedImage.{IsBegunCold, MayBegin, counters, first_spent}
use Rattle.openings.specs.OpeningParts.{OpeningParts}
use Rattle.openings.specs.Renewal.{IsRenewed}
use Rattle.openings.proofs.TextBack.{text_back}
use Rattle.tm_disk.proofs.Zeros.{blank_is, take-zeros, drop-zeros}
use Rattle.checkpointing.proofs.Begun.{two_zeros}
use Rattle.checkpointing.proofs.Apart.{codes_apart}

-- ---- restart sectors

abbrev IsSameRead : Result (Option RestartSector) ℕ → Result (Option RestartSector) ℕ → Type 0
IsSameRead a b = a ≡ b

pub none_or_some : (restart : RestartSector) → IsSameRead (Ok None) (Ok (Some restart)) → ⊥
none_or_some restart e = cc

pub same_restart : (a b : RestartSector) → IsSameRead (Ok (Some a)) (Ok (Some b)) → a ≡ b
same_restart a b e = cc

-- ---- the first snapshot

first_snapshot_is : (system : System) (text bytes : List ℕ) (now : RestartSector) → IsSystem system → AddsSpelled (first_records system) [] bytes → IsFirstRestart now → (image : Image) → IsFirstImage system text bytes now image → snapshot_from system image now ≡ Ok (first_records system)
first_snapshot_is system text bytes now valid adds first image is =
    read_from system (empty_state system) 1 1 valid.terminals_apart (codes_apart system valid) (empty_is system) (record { checkpoint_small = refl; unit_next = refl }) (empty_sound system valid) [] (no_changes system) adds.valid now image
    (has_first system text bytes now valid adds first image is).read

-- ---- no counter is spent

none_replied : (names : List (List ℕ)) → find (λ (c : Counter × ℕ). nat_le 1000000000000000000 c.1) (map (λ t. (counter.NextOutput t.terminal, t.next)) (map fresh_terminal names)) ≡ None
none_replied [] = refl
none_replied (n ∷ names) = none_replied names

unspent : (system : System) → first_spent (counters 0 1 0 1 (empty_state system)) ≡ None
unspent system = ap (option_map (λ (c : Counter × ℕ). c.0)) (none_replied system.terminals)

-- ---- a free slot

front_blank : take 2 blank ≡ zeros 2
front_blank = ap (take 2) blank_is ∙ take-zeros 2 4096 (omega arith)

none_used : used_in blank ≡ 0
unfolding number2_at
none_used = ap (from_be_bytes w16) front_blank ∙ two_zeros

no_bytes : payload_in blank ≡ []
no_bytes = ap (λ (n : ℕ). take n (drop 2 blank)) none_used

zeros_behind : are_zeros (drop (2 + used_in blank) blank) ≡ true
zeros_behind =
    ap (λ (n : ℕ). are_zeros (drop (2 + n) blank)) none_used ∙ ap are_zeros (ap (drop 2) blank_is ∙ drop-zeros 2 4096) ∙ are_zeros-zeros 4094

none_wrong : (full : Bool) → not full && nat_lt 0 0 ≡ false
none_wrong true = refl
none_wrong false = refl

blank_right : (full : Bool) → is_wrong_sector full blank ≡ false
blank_right full =
    ap (λ (n : ℕ). nat_lt 4000 n || not (are_zeros (drop (2 + used_in blank) blank)) || (not full && nat_lt 0 n)) none_used
    ∙ ap (λ (b : Bool). nat_lt 4000 0 || not b || (not full && nat_lt 0 0)) zeros_behind
    ∙ none_wrong full

-- sectors of zeros, so many
all_right : (n : ℕ) (full : Bool) (at first : ℕ) (image : Image) → ((k : ℕ) → k < n → sector_at image (first + k) ≡ blank) → wrong_from full at (sectors_from image first n) ≡ None
all_right zero full at first image blanks = refl
all_right (suc n) full at first image blanks =
    let here : sector_at image first ≡ blank = ap (sector_at image) (omega arith) ∙ blanks 0 (omega arith) in
    let right : is_wrong_sector full (sector_at image first) ≡ false = ap (is_wrong_sector full) here ∙ blank_right full in
    ap (λ (b : Bool). if b then Some at else wrong_from (full && (used_in (sector_at image first) == 4000)) (at + 1) (sectors_from image (first + 1) n)) right
    ∙ all_right n (full && (used_in (sector_at image first) == 4000)) (at + 1) (first + 1) image (λ k lt. ap (sector_at image) (omega arith) ∙ blanks (suc k) (omega (arith, lt)))

all_empty : (n first : ℕ) (image : Image) → ((k : ℕ) → k < n → sector_at image (first + k) ≡ blank) → spelled_in (sectors_from image first n) ≡ []
all_empty zero first image blanks = refl
all_empty (suc n) first image blanks =
    let here : sector_at image first ≡ blank = ap (sector_at image) (omega arith) ∙ blanks 0 (omega arith) in
    flat_map-cons payload_in (sector_at image first) (sectors_from image (first + 1) n)
    ∙ ap (λ (l : List ℕ). l ++ spelled_in (sectors_from image (first + 1) n)) (ap payload_in here ∙ no_bytes)
    ∙ all_empty n (first + 1) image (λ k lt. ap (sector_at image) (omega arith) ∙ blanks (suc k) (omega (arith, lt)))

free_at : (roots number : ℕ) → slice_index_or (free_slots roots) number [] ≡ []
free_at zero number = refl
free_at (suc roots) zero = refl
free_at (suc roots) (suc number) = free_at roots number

record Empty (dbds : List Dbd) (place : ℕ) (store : Stored) : Type 0 where
  dbd : Dbd
  found : slice_get dbds place ≡ Some dbd
  is : store ≡ empty_store dbd

empty_at : (dbds : List Dbd) (place : ℕ) (store : Stored) → slice_get (empty_stores dbds) place ≡ Some store → Empty dbds place store
empty_at [] place store found = absurd (none-some store found)
empty_at (dbd ∷ dbds) zero store found = record { dbd = dbd; found = refl; is = sym (same_Some (empty_store dbd) store found) }
empty_at (dbd ∷ dbds) (suc place) store found = let rest = empty_at dbds place store found in record { dbd = rest.dbd; found = rest.found; is = rest.is }

-- ---- the first image

module _ (system : System) (text bytes : List ℕ) (parts : OpeningParts) (state : LastingState) (now : RestartSector) (made : IsFirstMade system (length text) parts state bytes now) where
  first_has : (P : RestartSector → Type 0) → P now → P parts.now
  first_has P is = subst P (sym made.has_sector) is

  pub begun : IsBegunCold system parts state
  begun = record { empty = made.state_is; next_unit = made.next_unit; first = first_has IsFirstRestart made.first }

  pub may_begin : MayBegin system text parts state
  may_begin =
      let sector = made.has_sector in
      record {
        keeps_rules = rw (made.state_is) (empty_sound system made.defined);
        of_system = rw (made.state_is) (empty_is system);
        counted = rw (made.state_is) (empty_counted system);
        restart = first_has IsRestart made.valid;
        sectors = rw (sector) (omega (arith, made.sectors, made.few));
        text_size = rw (sector) made.text_size;
        some_unit = omega (arith, made.next_unit);
        unspent = rw (sector, made.first.epoch, made.first.sequence, made.first.checkpoint, made.next_unit, made.state_is) (unspent system);
      }

  module _ (short : length text ≤ 262144) (image : Image) (is : IsFirstImage system text bytes now image) where
    none_ahead : NoneAhead system image now.epoch now.sequence
    none_ahead = record {
      none = λ x n lt le small.
          ap (λ (s : List ℕ). opened_payload now.epoch n s) (is.blanks (log_first system 0 + x) (omega arith) (omega (arith, lt, both_logs system, slot_above system (length system.databases) 0 0)))
          ∙ opened-blank now.epoch n;
    }

    renewed_by : IsRenewed system text now 1 (empty_state system) image
    renewed_by =
        let records : first_records system ≡ snapshot_records now.checkpoint 1 (empty_state system) [] = rw (made.first.checkpoint) refl in
        record {
          restart = is.restart;
          text_size = made.text_size;
          has_text = ap (λ (n : ℕ). text_in image n) made.text_size ∙ text_back text image is.has_text short;
          has_snapshot = first_snapshot_is system text bytes now made.defined made.records made.first image is ∙ ap (λ (rs : List Record). Ok rs) records;
          recovers = first_recovers system text bytes now made.defined made.records made.first image is;
          none_ahead = none_ahead;
        }

    renewed : IsRenewed system text parts.now parts.next_unit state image
    renewed = rw (made.has_sector, made.next_unit, made.state_is) renewed_by

    holds : HoldsStores system parts.stores.stores image
    holds = record {
      each = λ place number store found below.
          let at = empty_at system.databases place store (ap (λ (stores : List Stored). slice_get stores place) (sym made.stores) ∙ found) in
          let fewer : number < at.dbd.roots = omega (arith, below, ap (λ (s : Stored). s.dbd.roots) at.is) in
          let none : slice_index_or store.slots number [] ≡ [] = ap (λ (s : Stored). slice_index_or s.slots number []) at.is ∙ free_at at.dbd.roots number in
          let slot : IsSlotOf system place number = record { dbd = at.dbd; found = at.found; below = fewer } in
          let first : ℕ = slot_first system place number in
          let blanks : (k : ℕ) → k < slot_size system place → sector_at image (first + k) ≡ blank =
          λ k lt. is.blanks (first + k) (omega (arith, slot_above system place number k, both_logs system)) (slot_below system place number k slot lt) in
          record {
            right = λ n. all_right (slot_size system place) true n first image blanks;
            spelled = all_empty (slot_size system place) first image blanks ∙ sym (ap (λ (rows : List Row). rows_spelling rows) none);
          };
    }

  -- ---- at any moment

  module _ (short : length text ≤ 262144) where
    no_restart : (after : Image) → restart_in (snapshot_area system) (is_single system) after ≡ Ok None → HasText system text after
    no_restart after zeros = λ restart found. absurd (none_or_some restart (sym zeros ∙ found))

    first_text : (after : Image) → IsFirstImage system text bytes now after → HasText system text after
    first_text after is = λ restart found.
        ap (λ (r : RestartSector). text_in after r.text) (sym (same_restart now restart (sym is.restart ∙ found)))
        ∙ ap (λ (n : ℕ). text_in after n) made.text_size ∙ text_back text after is.has_text short

    empties : (before after : Image) → BeginsImage system text bytes now before after → KeepsOrEmpties system text before after
    empties before after begins =
        ⊎_elim (λ (same : after ≡ before). inl same)
        (λ rest. ⊎_elim
        (λ (zeros : restart_in (snapshot_area system) (is_single system) after ≡ Ok None). inr (record { recovers = zeros_are_empty system after zeros; has_text = no_restart after zeros }))
        (λ (is : IsFirstImage system text bytes now after). inr (record { recovers = first_recovers system text bytes now made.defined made.records made.first after is; has_text = first_text after is }))
        rest)
        begins

    pub empties_within : (old new : DiskState) → Within (BeginsImage system text bytes now) old new → Within (KeepsOrEmpties system text) old new
    empties_within old new within = within_where (BeginsImage system text bytes now) (KeepsOrEmpties system text) old new (λ before after left begins. empties before after begins) within

    -- what a cold start counts on stands at 1
    raises : (before after : Image) → BeginsImage system text bytes now before after → RaisesCounts 1 system before after
    raises before after begins =
        ⊎_elim (λ (same : after ≡ before). same_raises 1 system before after same)
        (λ rest. ⊎_elim
        (λ (zeros : restart_in (snapshot_area system) (is_single system) after ≡ Ok None). λ high counts restart found. absurd (none_or_some restart (sym zeros ∙ found)))
        (λ (is : IsFirstImage system text bytes now after). λ high counts.
        renewed_up_to system text now 1 (empty_state system) after (renewed_by short after is) made.valid (high + 1)
        (omega (arith, made.first.epoch)) (omega (arith, made.first.sequence)) (omega (arith, made.first.checkpoint)) (omega arith) (omega arith))
        rest)
        begins

    pub raises_within : (old new : DiskState) → Within (BeginsImage system text bytes now) old new → Within (RaisesCounts 1 system) old new
    raises_within old new within = within_where (BeginsImage system text bytes now) (RaisesCounts 1 system) old new (λ before after left begins. raises before after begins) within

  module _ (short : length text ≤ 262144) (old new : DiskState) (follows : Follows (λ before after. IsFirstImage system text bytes now after) old new) where
    pub all_renewed : (image : Image) → new.may_leave image → IsRenewed system text parts.now parts.next_unit state image
    all_renewed image left = renewed short image (follows.from image left).by

    pub all_hold : (image : Image) → new.may_leave image → HoldsStores system parts.stores.stores image
    all_hold image left = holds short image (follows.from image left).by
