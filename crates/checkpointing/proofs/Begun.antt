-- An image with a snapshot of the empty state, and zeros in the log areas and the data, recovers to the empty state.
use Rattle.std.proofs.Common.{◌≡◌, ℕ, zero, suc, ◌+◌, ◌-◌, ◌*◌, ◌<◌, ◌≤◌, Bool, true, false, not, ◌&&◌, ◌||◌, List, [], ◌∷◌, ◌++◌, length, take, drop, map, refl, sym, ◌∙◌, ap, subst, arith, Some, None, Ok, nat_le, nat_lt}
use Rattle.std.specs.Prelude.{Option, Result, if◌then◌else◌, ◌==◌, filter, find, slice_get}
use Rattle.std.specs.Option.{is_some, option_map, option_or, unwrap_or}
use Rattle.std.specs.List.{list_any, AllByRecursion, flat_map}
use Rattle.std.specs.Int.{w16, from_be_bytes}
use Rattle.std.specs.Str.{bytes_eq}
use Rattle.std.proofs.lemmas.Bool.Decides.{nat_tests}
use Rattle.tm_types.specs.declared.dbd.Dbd.{Dbd}
use Rattle.model_data.specs.declared.row.Row.{Row}
use Rattle.model_data.specs.Record.{record_limit}
use Rattle.tm_disk.specs.Disk.{Image, sector_at}
use Rattle.tm_disk.specs.Sector.{zeros, blank}
use Rattle.model_system.specs.System.{System}
use Rattle.model_machine.specs.Machine.{LastingState}
use Rattle.log_records.specs.declared.record.Record.{Record}
use Rattle.log_records.specs.RecordSpelling.{record_spelling, IsLogRecord}
use Rattle.log_records.specs.RecordReader.{◌>>=◌}
use Rattle.log_sectors.specs.SealedSector.{opened_payload}
use Rattle.log_sectors.specs.Chain.{before, chain, joined_payloads}
use Rattle.log_sectors.proofs.Sealing.{opened-blank}
use Rattle.restart_data.specs.declared.restart.RestartSector.{RestartSector}
use Rattle.restart_data.specs.Fields.{number2_at, are_zeros}
use Rattle.restart_data.specs.Restart.{restart_in}
use Rattle.restart_data.specs.Snapshot.{snapshot_in}
use Rattle.restart_data.proofs.Zeros.{are_zeros-zeros}
use Rattle.model_system.specs.Areas.{is_single, snapshot_area, snapshot_first, log_first, data_first}
use Rattle.model_image.specs.CutRecords.{Cut, cut_of, IsRecordCutOff}
use Rattle.model_image.specs.Faults.{Fault, in_sector, unless_fault}
use Rattle.model_image.specs.Slots.{SlotOnImage, Source, source_of, slots_by, image_slot_in, named_by, is_change_of, all_slots, slot_fault, rows_of_databases, image_rows_from, rows_of_bytes, rows_by, used_in, payload_in, spelled_in, is_wrong_sector, wrong_from, sectors_from, wrong_sector, has_no_record, slot_rows, have_one_root, first_shared, first_wrong, first_no_record, first_doubled, first_in, place_in, fault_of, is_image}
use Rattle.model_image.specs.Slots.Source.{Spelled}
use Rattle.model_image.specs.RecoveredState.{is_later, snapshot_from, log_in, log_from, state_from, later_sector, state_with, state_by_restart, rest_by, log_rest, Recovers}
use Rattle.model_image.specs.States.{breaks_a_rule}
use Rattle.model_image.proofs.Later.{none_later}
use Rattle.model_image.proofs.Answers.{nothing_cut_off}
use Rattle.model_image.proofs.Places.{size_of, slot_above, slot_below, both_logs, log_above, log_below}
use Rattle.seg_store.specs.Slots.{rows_of_slots, with_rows}
use Rattle.checkpointing.specs.SnapshotRecords.{snapshot_records, AreApart, IsOfSystem}
use Rattle.checkpointing.proofs.Told.{without_rows, state_told}
use Rattle.checkpointing.proofs.Plain.{none_named}
use Rattle.checkpointing.proofs.Judged.{AreCounts}
use Rattle.checkpointing.proofs.Read.{no_changes, read_from}
use Rattle.tm_disk.proofs.Zeros.{blank_is, take-zeros, drop-zeros}
use Rattle.model_image.specs.Snapshot.{code_names}

-- ---- a blank sector

front_blank : (at count : ℕ) → at + count ≤ 4096 → take count (drop at blank) ≡ zeros count
front_blank at count fits =
    ap (λ (l : List ℕ). take count (drop at l)) blank_is ∙ ap (take count) (drop-zeros at 4096) ∙ take-zeros count (4096 - at) (omega (arith, fits))

pub two_zeros : from_be_bytes w16 (zeros 2) ≡ 0
unfolding zeros
two_zeros = refl

used_blank : used_in blank ≡ 0
unfolding number2_at
used_blank = ap (from_be_bytes w16) (front_blank 0 2 (omega arith)) ∙ two_zeros

other_letters : bytes_eq (zeros 4) (73 ∷ 77 ∷ 83 ∷ 76 ∷ []) ≡ false
unfolding zeros
other_letters = refl

pub blank_not_later : (epoch : ℕ) → is_later epoch blank ≡ false
blank_not_later epoch = rw (front_blank 0 4 (omega arith), other_letters) refl

none_used : payload_in blank ≡ []
none_used = ap (λ (n : ℕ). take n (drop 2 blank)) used_blank

zeros_behind : are_zeros (drop 2 blank) ≡ true
zeros_behind = ap are_zeros (ap (drop 2) blank_is ∙ drop-zeros 2 4096) ∙ are_zeros-zeros 4094

-- it isn't wrong, whatever stands before it
right_by : (full : Bool) (used : ℕ) (clear : Bool) → used ≡ 0 → clear ≡ true → nat_lt 4000 used || not clear || (not full && nat_lt 0 used) ≡ false
right_by true used clear none all = rw (none, all) refl
right_by false used clear none all = rw (none, all) refl

right_blank : (full : Bool) → is_wrong_sector full blank ≡ false
right_blank full = right_by full (used_in blank) (are_zeros (drop (2 + used_in blank) blank)) used_blank (ap (λ (n : ℕ). are_zeros (drop (2 + n) blank)) used_blank ∙ zeros_behind)

-- ---- blank sectors of a slot

-- so many of them
abbrev pub blanks : ℕ → List (List ℕ)
blanks zero = []
blanks (suc n) = blank ∷ blanks n

none_wrong : (n : ℕ) (full : Bool) (at : ℕ) → wrong_from full at (blanks n) ≡ None
none_wrong zero full at = refl
none_wrong (suc n) full at =
    ap (λ (b : Bool). if b then Some at else wrong_from (full && (used_in blank == 4000)) (at + 1) (blanks n)) (right_blank full)
    ∙ none_wrong n (full && (used_in blank == 4000)) (at + 1)

none_spelled : (n : ℕ) → spelled_in (blanks n) ≡ []
none_spelled zero = refl
none_spelled (suc n) = ap (λ (l : List ℕ). l ++ spelled_in (blanks n)) none_used ∙ none_spelled n

all_blank : (n : ℕ) (image : Image) (at : ℕ) → ((k : ℕ) → k < n → sector_at image (at + k) ≡ blank) → sectors_from image at n ≡ blanks n
all_blank zero image at are = refl
all_blank (suc n) image at are =
    ap (λ (s : List ℕ). s ∷ sectors_from image (at + 1) n) (subst (λ p. sector_at image p ≡ blank) (omega arith) (are 0 (omega arith)))
    ∙ ap (λ (l : List (List ℕ)). blank ∷ l) (all_blank n image (at + 1) (λ k below. subst (λ p. sector_at image p ≡ blank) (omega arith) (are (suc k) (omega (arith, below)))))

least : (n : ℕ) → nat_le 0 n ≡ true
least n = grind (arith, nat_tests)

no_rows : (dbd : Dbd) → rows_of_bytes dbd [] ≡ Some []
unfolding rows_of_bytes
no_rows dbd = ap (λ (b : Bool). if b then rows_by 0 dbd.types [] [] else None) (least (record_limit dbd))

-- ---- free slots

pub record IsFreeSlot (slot : SlotOnImage) : Type 0 where
  pub right : wrong_sector slot ≡ None
  pub spells : has_no_record slot ≡ false
  pub none : slot_rows slot ≡ []

blank_free : (dbd : Dbd) (place n : ℕ) → IsFreeSlot (record { dbd = dbd; place = place; source = Spelled (blanks n) })
blank_free dbd place n = record {
  right = none_wrong n true place;
  spells = ap (λ (l : List ℕ). not (is_image dbd l)) (none_spelled n) ∙ ap (λ (r : Option (List Row)). not (is_some r)) (no_rows dbd);
  none = ap (λ (l : List ℕ). unwrap_or (rows_of_bytes dbd l) []) (none_spelled n) ∙ ap (λ (r : Option (List Row)). unwrap_or r []) (no_rows dbd);
}

abbrev AreFree : List SlotOnImage → Type 0
AreFree slots = AllByRecursion IsFreeSlot slots

found_none : (test : SlotOnImage → Bool) (slots : List SlotOnImage) → AllByRecursion (λ s. test s ≡ false) slots → find test slots ≡ None
found_none test [] none = refl
found_none test (s ∷ slots) none = ap (λ (b : Bool). if b then Some s else find test slots) none.0 ∙ found_none test slots none.1

rights : (slots : List SlotOnImage) → AreFree slots → first_wrong slots ≡ None
rights [] free = refl
rights (s ∷ slots) free = ap (λ (at : Option ℕ). option_or at (first_wrong slots)) free.0.right ∙ rights slots free.1

spelleds : (slots : List SlotOnImage) → AreFree slots → AllByRecursion (λ s. has_no_record s ≡ false) slots
spelleds [] free = tt
spelleds (s ∷ slots) free = (free.0.spells, spelleds slots free.1)

alone : (s other : SlotOnImage) → IsFreeSlot s → have_one_root s other ≡ false
alone s other free = rw (free.none) refl

none_alike : (s : SlotOnImage) (slots : List SlotOnImage) → IsFreeSlot s → list_any (have_one_root s) slots ≡ false
none_alike s [] free = refl
none_alike s (other ∷ slots) free = rw (alone s other free, none_alike s slots free) refl

none_shared : (slots : List SlotOnImage) → AreFree slots → first_shared slots ≡ None
none_shared [] free = refl
none_shared (s ∷ slots) free = ap (λ (b : Bool). if b then Some s else first_shared slots) (none_alike s slots free.0) ∙ none_shared slots free.1

abbrev AreAllFree : List (List SlotOnImage) → Type 0
AreAllFree databases = AllByRecursion AreFree databases

first_none : (place : List SlotOnImage → Option ℕ) (databases : List (List SlotOnImage)) → AllByRecursion (λ slots. place slots ≡ None) databases → first_in place databases ≡ None
first_none place [] none = refl
first_none place (slots ∷ databases) none = rw (none.0) (first_none place databases none.1)

each_right : (databases : List (List SlotOnImage)) → AreAllFree databases → AllByRecursion (λ slots. first_wrong slots ≡ None) databases
each_right [] free = tt
each_right (slots ∷ databases) free = (rights slots free.0, each_right databases free.1)

each_spelled : (databases : List (List SlotOnImage)) → AreAllFree databases → AllByRecursion (λ slots. first_no_record slots ≡ None) databases
each_spelled [] free = tt
each_spelled (slots ∷ databases) free = (ap place_in (found_none has_no_record slots (spelleds slots free.0)), each_spelled databases free.1)

each_apart : (databases : List (List SlotOnImage)) → AreAllFree databases → AllByRecursion (λ slots. first_doubled slots ≡ None) databases
each_apart [] free = tt
each_apart (slots ∷ databases) free = (ap place_in (none_shared slots free.0), each_apart databases free.1)

none_broken : (wrong no_record doubled : Option ℕ) → wrong ≡ None → no_record ≡ None → doubled ≡ None → option_or (fault_of 20 wrong) (option_or (fault_of 21 no_record) (fault_of 22 doubled)) ≡ None
none_broken wrong no_record doubled one two three = rw (one, two, three) refl

pub no_fault : (databases : List (List SlotOnImage)) → AreAllFree databases → slot_fault databases ≡ None
no_fault databases free =
    none_broken (first_in first_wrong databases) (first_in first_no_record databases) (first_in first_doubled databases)
    (first_none first_wrong databases (each_right databases free)) (first_none first_no_record databases (each_spelled databases free)) (first_none first_doubled databases (each_apart databases free))

rows_free : (slots : List SlotOnImage) → AreFree slots → rows_of_slots (map slot_rows slots) ≡ []
rows_free [] free = refl
rows_free (s ∷ slots) free =
    ap (λ (image : List Row). with_rows image (rows_of_slots (map slot_rows slots))) free.0.none ∙ rows_free slots free.1

free_by : (slot : ℕ → SlotOnImage) (n number : ℕ) → ((k : ℕ) → k < n → IsFreeSlot (slot (number + k))) → AreFree (slots_by slot n number)
free_by slot zero number free = tt
free_by slot (suc n) number free = (
  subst (λ (k : ℕ). IsFreeSlot (slot k)) (omega arith) (free 0 (omega arith)),
  free_by slot n (number + 1) (λ k lt. subst (λ (j : ℕ). IsFreeSlot (slot j)) (omega arith) (free (k + 1) (omega (arith, lt)))),
)

-- ---- the databases

-- the sectors of the logs and of the data are blank
pub record AreBlank (system : System) (image : Image) : Type 0 where
  pub each : (k : ℕ) → log_first system 0 ≤ k → k < data_first system (length system.databases) → sector_at image k ≡ blank

module _ (system : System) (image : Image) (records : List Record) (unnamed : (database slot : ℕ) → filter (is_change_of database slot) (records ++ []) ≡ []) (blank_all : AreBlank system image) where
  not_named : (database slot : ℕ) → named_by records [] database slot ≡ None
  unfolding named_by
  not_named database slot = rw (unnamed database slot) refl

  sector_blank : (dbd : Dbd) (place number index : ℕ) → slice_get system.databases place ≡ Some dbd → number < dbd.roots → index < dbd.sectors → sector_at image (data_first system place + number * dbd.sectors + index) ≡ blank
  sector_blank dbd place number index found below within =
      let size = size_of system place dbd found in
      let same = ap (λ n. number * n) size in
      blank_all.each (data_first system place + number * dbd.sectors + index)
      (omega (arith, slot_above system place number index, both_logs system, same))
      (omega (arith, slot_below system place number index (record { dbd = dbd; found = found; below = below }) (omega (arith, within, size)), same))

  one_free : (dbd : Dbd) (place number : ℕ) → slice_get system.databases place ≡ Some dbd → number < dbd.roots → IsFreeSlot (image_slot_in image records [] dbd (data_first system place) (place + 1) number)
  one_free dbd place number found below =
      let at : ℕ = data_first system place + number * dbd.sectors in
      let are_blank : sectors_from image at dbd.sectors ≡ blanks dbd.sectors = all_blank dbd.sectors image at (λ index within. sector_blank dbd place number index found below within) in
      let spelled : source_of (named_by records [] (place + 1) number) (sectors_from image at dbd.sectors) ≡ Spelled (blanks dbd.sectors) =
      ap (λ (named : Option (List ℕ)). source_of named (sectors_from image at dbd.sectors)) (not_named (place + 1) number) ∙ ap Spelled are_blank in
      subst (λ (source : Source). IsFreeSlot (record { dbd = dbd; place = at; source = source })) (sym spelled) (blank_free dbd at dbd.sectors)

  all_free : (place : ℕ) (dbds : List Dbd) → ((j : ℕ) → slice_get dbds j ≡ slice_get system.databases (place + j)) → AreAllFree (all_slots system image records [] place dbds)
  unfolding all_slots
  all_free place [] same = tt
  all_free place (dbd ∷ dbds) same =
      let found : slice_get system.databases place ≡ Some dbd = ap (slice_get system.databases) (omega arith) ∙ sym (same 0) in (
        free_by (image_slot_in image records [] dbd (data_first system place) (place + 1)) dbd.roots 0 (λ k lt. one_free dbd place (0 + k) found (omega (arith, lt))),
        all_free (place + 1) dbds (λ j. same (suc j) ∙ ap (slice_get system.databases) (omega arith)),
      )

  all_rows : (place : ℕ) (dbds : List Dbd) → ((j : ℕ) → slice_get dbds j ≡ slice_get system.databases (place + j)) → rows_of_databases (all_slots system image records [] place dbds) ≡ map (λ _. []) dbds
  unfolding all_slots
  all_rows place [] same = refl
  all_rows place (dbd ∷ dbds) same =
      let free = all_free place (dbd ∷ dbds) same in
      ap (λ (rows : List Row). rows ∷ rows_of_databases (all_slots system image records [] (place + 1) dbds)) (rows_free (slots_by (image_slot_in image records [] dbd (data_first system place) (place + 1)) dbd.roots 0) free.0)
      ∙ ap (λ (others : List (List Row)). [] ∷ others) (all_rows (place + 1) dbds (λ j. same (suc j) ∙ ap (slice_get system.databases) (omega arith)))

  no_rows_there : image_rows_from system image records [] ≡ Ok (map (λ _. []) system.databases)
  no_rows_there =
      let same : (j : ℕ) → slice_get system.databases j ≡ slice_get system.databases (0 + j) = λ j. ap (slice_get system.databases) (omega arith) in
      ap (λ (fault : Option Fault). unless_fault fault (rows_of_databases (all_slots system image records [] 0 system.databases))) (no_fault (all_slots system image records [] 0 system.databases) (all_free 0 system.databases same))
      ∙ ap (λ (rows : List (List Row)). Ok rows) (all_rows 0 system.databases same)

-- ---- the log

chain_none : (count : ℕ) (image : Image) (at sequence epoch : ℕ) → ((k : ℕ) → at ≤ k → k < at + count → sector_at image k ≡ blank) → chain count image at sequence epoch ≡ []
chain_none zero image at sequence epoch blanks = refl
chain_none (suc n) image at sequence epoch blanks =
    ap (λ (s : List ℕ). before (opened_payload epoch sequence s) (chain n image (at + 1) (sequence + 1) epoch)) (blanks at (omega arith) (omega arith))
    ∙ ap (λ (payload : Option (List ℕ)). before payload (chain n image (at + 1) (sequence + 1) epoch)) (opened-blank epoch sequence)

pub nothing_cut : cut_of [] ≡ record { records = []; rest = [] }
unfolding cut_of
nothing_cut = refl

pub bind_is : {A B : Type 0} (a : Result A Fault) (f : A → Result B Fault) (x : A) → a ≡ Ok x → (a >>= f) ≡ f x
bind_is a f x is = ap (λ r. r >>= f) is

-- what is left of the recovery, once the records are there
abbrev pub of_rows : System → Image → RestartSector → LastingState → List (List Row) → Result LastingState Fault
of_rows system image now lasting rows = unless_fault (later_sector system image now) (record lasting { rows = rows })

abbrev pub of_state : System → Image → RestartSector → List Record → List Record → LastingState → Result LastingState Fault
of_state system image now records log lasting = image_rows_from system image records log >>= λ rows. of_rows system image now lasting rows

abbrev pub of_log : System → Image → RestartSector → List Record → List Record → Result LastingState Fault
of_log system image now records log = state_from system now records log >>= λ lasting. of_state system image now records log lasting

abbrev pub of_snapshot : System → Image → RestartSector → List Record → Result LastingState Fault
of_snapshot system image now records = log_from system image now true >>= λ log. of_log system image now records log

-- The image has this restart sector, and the bytes of these records as its snapshot; the logs and the data are blank.
pub record HasSnapshot (system : System) (now : RestartSector) (records : List Record) (image : Image) : Type 0 where
  pub restart : restart_in (snapshot_area system) (is_single system) image ≡ Ok (Some now)
  pub log : now.log ≤ 1
  pub read : snapshot_in now.sectors image (snapshot_first system now.snapshot) now.checkpoint ≡ Ok (flat_map record_spelling records)
  pub valid : AllByRecursion IsLogRecord records
  pub blanks : AreBlank system image

module _ (system : System) (state : LastingState) (checkpoint unit : ℕ) (terminals_apart : AreApart system.terminals) (codes_apart : AreApart (code_names system)) (is : IsOfSystem system state) (counts : AreCounts checkpoint unit) (sound : breaks_a_rule system state ≡ false) (now : RestartSector) (image : Image) (has : HasSnapshot system now (snapshot_records checkpoint unit state []) image) where
  snapshot_is : snapshot_from system image now ≡ Ok (snapshot_records checkpoint unit state [])
  snapshot_is = read_from system state checkpoint unit terminals_apart codes_apart is counts sound [] (no_changes system) has.valid now image has.read

  log_is : log_in system image now ≡ record { records = []; rest = [] }
  log_is =
      ap (λ (payloads : List (List ℕ)). cut_of (joined_payloads payloads))
      (chain_none system.logs image (log_first system now.log) now.sequence now.epoch (λ k low high.
      has.blanks.each k (omega (arith, low, log_above system now.log)) (omega (arith, high, log_below system now.log has.log, slot_above system (length system.databases) 0 0))))
      ∙ nothing_cut

  none_is_later : later_sector system image now ≡ None
  none_is_later =
      ap (option_map (λ sector. (24, sector)))
      (none_later (2 * system.logs) image (log_first system 0) now.epoch (λ k low high.
      ap (is_later now.epoch) (has.blanks.each k low (omega (arith, high, both_logs system, slot_above system (length system.databases) 0 0))) ∙ blank_not_later now.epoch))

  state_is : state_with system image true now ≡ Ok (without_rows system state)
  state_is =
      let records : List Record = snapshot_records checkpoint unit state [] in
      bind_is (snapshot_from system image now) (of_snapshot system image now) records snapshot_is
      ∙ bind_is (log_from system image now true) (of_log system image now records) [] (ap (λ (cut : Cut). Ok cut.records) log_is)
      ∙ ap (of_state system image now records []) (state_told system state terminals_apart codes_apart is checkpoint unit [] tt)
      ∙ bind_is (image_rows_from system image records []) (of_rows system image now (without_rows system state)) (map (λ _. []) system.databases) (no_rows_there system image records (none_named system checkpoint unit state) has.blanks)
      ∙ ap (λ (fault : Option Fault). unless_fault fault (without_rows system state)) none_is_later

  -- it recovers to that state, without rows
  pub recovers_begun : Recovers system image (Ok (without_rows system state))
  recovers_begun =
      let rest : log_rest system image ≡ [] = ap (rest_by system image) has.restart ∙ ap (λ (cut : Cut). cut.rest) log_is in
      record {
        is_cut_off = true;
        decides = (λ _. subst (λ (l : List ℕ). IsRecordCutOff l) (sym rest) nothing_cut_off, λ _. refl);
        is = ap (λ (read : Result (Option RestartSector) ℕ). in_sector 0 read >>= λ restart. state_by_restart system image true restart) has.restart ∙ state_is;
      }
