-- The slots that open units touched are changes of a snapshot, and there is room for them.
use Rattle.std.proofs.Common.{◌≡◌, ◌⊎◌, ⊎_elim, ℕ, ◌+◌, ◌-◌, ◌*◌, ◌≤◌, ◌<◌, Bool, true, false, ◌&&◌, ◌||◌, List, [], ◌∷◌, ◌++◌, length, map, refl, sym, ◌∙◌, ap, subst, arith, Some, None, nat_lt, mul-add, mul-suc, mul-le-mul_left}
use Rattle.std.specs.Prelude.{Option, ◌==◌, sum_by, slice_get, slice_index_or, if◌then◌else◌}
use Rattle.std.specs.Option.{option_map_or, is_some, option_map}
use Rattle.std.specs.List.{list_all, AllByRecursion}
use Rattle.std.proofs.lemmas.Bool.Decides.{nat_tests}
use Rattle.std.proofs.lemmas.List.Sums.{sum_by-cons}
use Rattle.std.proofs.lemmas.Option.{slice_get_within, slice_get-map}
use Rattle.tm_types.specs.declared.dbd.Dbd.{Dbd}
use Rattle.tm_types.specs.SegTypes.{IsHierarchy}
use Rattle.model_data.specs.declared.row.Row.{Row}
use Rattle.model_data.specs.Record.{rows_spelling}
use Rattle.model_system.specs.System.{System}
use Rattle.log_records.specs.declared.record.Record.{Record}
use Rattle.log_records.specs.RecordSpelling.{record_length}
use Rattle.log_records.specs.declared.record.Record.TheVariants as record_of
use Rattle.seg_store.specs.Slots.{Stored, IsSlot, image_root}
use Rattle.unit_work.specs.declared.change.Change.{Change}
use Rattle.image_loading.proofs.Spelled.{spells_rows, no_bytes}
use Rattle.model_image.specs.Slots.{is_image, are_images, dbd_at, is_image_of}
use Rattle.model_image.specs.Snapshot.{is_record_before, ascend}
use Rattle.checkpointing.specs.declared.touches.OpenUnit.{OpenUnit}
use Rattle.checkpointing.specs.Changes.{IsChange, AreChanges}
use Rattle.checkpointing.specs.Touches.{image_in, touch_record, touch_records, changes_of_units, HasFewSectors, IsSpelled, AreAllSpelled, IsSlotTouched, IsSlotBefore, SlotsAscend, touched_records_in, AreSlotsTouched, UnitsAscend, AreOpen}
use Rattle.checkpointing.proofs.Present.{slot_at}
use Rattle.checkpointing.proofs.Sizes.{size, size_both, size_more, change_size}
use Rattle.disk_law.proofs.Recovering.{all_at}

-- ---- tests

or_first : (a b : Bool) → a ≡ true → a || b ≡ true
or_first a b h = rw (h) refl

or_second : (a b : Bool) → b ≡ true → a || b ≡ true
or_second true b h = refl
or_second false b h = h

pub both : (a b : Bool) → a ≡ true → b ≡ true → a && b ≡ true
both a b h k = rw (h, k) refl

less : (a b : ℕ) → a < b → nat_lt a b ≡ true
less a b h = grind (arith, nat_tests)

same : (a b : ℕ) → a ≡ b → (a == b) ≡ true
same a b h = grind (arith, nat_tests)

some_database : (n : ℕ) → 1 ≤ n → (n == 0) ≡ false
some_database n h = grind (arith, nat_tests)

-- ---- each is a change

changes_both : (some more : List Record) → AllByRecursion IsChange some → AllByRecursion IsChange more → AllByRecursion IsChange (some ++ more)
changes_both [] more a b = b
changes_both (r ∷ some) more a b = (a.0, changes_both some more a.1 b)

unit_changes : (unit : ℕ) (stores : List Stored) (slots : List Change) → AllByRecursion IsChange (touch_records unit stores slots)
unit_changes unit stores [] = tt
unit_changes unit stores (c ∷ slots) = (tt, unit_changes unit stores slots)

all_changes : (stores : List Stored) (units : List OpenUnit) → AllByRecursion IsChange (changes_of_units stores units)
all_changes stores [] = tt
all_changes stores (u ∷ units) =
    changes_both (touch_records u.number stores u.work.now.slots) (changes_of_units stores units) (unit_changes u.number stores u.work.now.slots) (all_changes stores units)

-- ---- their order

-- the first of these, if there is one, stands behind
abbrev Follows : Record → List Record → Type 0
Follows r [] = Unit {0}
Follows r (next ∷ records) = is_record_before r next ≡ true

ascend_first : (r : Record) (more : List Record) → Follows r more → ascend more ≡ true → ascend (r ∷ more) ≡ true
ascend_first r [] follows are = refl
ascend_first r (next ∷ more) follows are = both (is_record_before r next) (ascend (next ∷ more)) follows are

slot_before : (unit : ℕ) (stores : List Stored) (c d : Change) → IsSlotBefore c d → is_record_before (touch_record unit stores c) (touch_record unit stores d) ≡ true
slot_before unit stores c d before =
    or_second (nat_lt unit unit) ((unit == unit) && (nat_lt c.db d.db || ((c.db == d.db) && nat_lt c.slot d.slot)))
    (both (unit == unit) (nat_lt c.db d.db || ((c.db == d.db) && nat_lt c.slot d.slot)) (same unit unit refl)
    (⊎_elim
    (λ (lower : c.db < d.db). or_first (nat_lt c.db d.db) ((c.db == d.db) && nat_lt c.slot d.slot) (less c.db d.db lower))
    (λ (here : (c.db ≡ d.db) × (c.slot < d.slot)). or_second (nat_lt c.db d.db) ((c.db == d.db) && nat_lt c.slot d.slot) (both (c.db == d.db) (nat_lt c.slot d.slot) (same c.db d.db here.0) (less c.slot d.slot here.1)))
    before))

unit_ascends : (unit : ℕ) (stores : List Stored) (slots : List Change) (more : List Record) → SlotsAscend slots → ((c : Change) → Follows (touch_record unit stores c) more) → ascend more ≡ true → ascend (touch_records unit stores slots ++ more) ≡ true
unit_ascends unit stores [] more ascending follows are = are
unit_ascends unit stores (c ∷ []) more ascending follows are = ascend_first (touch_record unit stores c) more (follows c) are
unit_ascends unit stores (c ∷ d ∷ slots) more ascending follows are =
    both (is_record_before (touch_record unit stores c) (touch_record unit stores d)) (ascend (touch_records unit stores (d ∷ slots) ++ more))
    (slot_before unit stores c d ascending.0) (unit_ascends unit stores (d ∷ slots) more ascending.1 follows are)

follows_unit : (unit later : ℕ) (stores : List Stored) (c : Change) (slots : List Change) (more : List Record) → unit < later → Follows (touch_record unit stores c) more → Follows (touch_record unit stores c) (touch_records later stores slots ++ more)
follows_unit unit later stores c [] more above follows = follows
follows_unit unit later stores c (d ∷ slots) more above follows =
    or_first (nat_lt unit later) ((unit == later) && (nat_lt c.db d.db || ((c.db == d.db) && nat_lt c.slot d.slot))) (less unit later above)

follows_all : (unit : ℕ) (stores : List Stored) (units : List OpenUnit) (c : Change) → AllByRecursion (λ v. unit < v.number) units → Follows (touch_record unit stores c) (changes_of_units stores units)
follows_all unit stores [] c above = tt
follows_all unit stores (v ∷ units) c above =
    follows_unit unit v.number stores c v.work.now.slots (changes_of_units stores units) above.0 (follows_all unit stores units c above.1)

all_ascend : (stores : List Stored) (units : List OpenUnit) → AllByRecursion (λ u. AreSlotsTouched stores u.work.now.slots) units → UnitsAscend units → ascend (changes_of_units stores units) ≡ true
all_ascend stores [] each ascending = refl
all_ascend stores (u ∷ units) each ascending =
    unit_ascends u.number stores u.work.now.slots (changes_of_units stores units) each.0.ascending (λ c. follows_all u.number stores units c ascending.0) (all_ascend stores units each.1 ascending.1)

-- ---- their images

slot_image : (dbd : Dbd) → IsHierarchy dbd.types → (rows : List Row) → IsSlot dbd rows → is_image dbd (rows_spelling rows) ≡ true
slot_image dbd types rows is =
    ⊎_elim
    (λ (none : rows ≡ []). ap (λ (l : List Row). is_image dbd (rows_spelling l)) none ∙ ap (λ (o : Option (List Row)). is_some o) (no_bytes dbd))
    (λ valid. ap (λ (o : Option (List Row)). is_some o) (spells_rows dbd types (rows_spelling rows) rows (record { root = image_root rows; valid = valid; spelled = refl })))
    is

database_mapped : (stores : List Stored) (k : ℕ) (s : Stored) → slice_get stores k ≡ Some s → slice_get (map (λ s. s.dbd) stores) k ≡ Some s.dbd
database_mapped stores k s found = slice_get-map (λ (s : Stored). s.dbd) stores k ∙ ap (option_map (λ (s : Stored). s.dbd)) found

images_of : (slot : ℕ) (before after : List ℕ) (dbd : Dbd) (found : Option Dbd) → found ≡ Some dbd → slot < dbd.roots → is_image dbd before ≡ true → is_image dbd after ≡ true → are_images slot before after found ≡ true
images_of slot before after dbd found is within a b =
    ap (are_images slot before after) is
    ∙ both (nat_lt slot dbd.roots && is_image dbd before) (is_image dbd after) (both (nat_lt slot dbd.roots) (is_image dbd before) (less slot dbd.roots within) a) b

touch_image : (system : System) (stores : List Stored) (unit : ℕ) (c : Change) → map (λ s. s.dbd) stores ≡ system.databases → IsSlotTouched stores c → is_image_of system (touch_record unit stores c) ≡ true
touch_image system stores unit c databases is =
    let dbd : Dbd = is.store.dbd in
    let here : dbd_at system c.db ≡ Some dbd =
    ap (λ (b : Bool). if b then None else slice_get system.databases (c.db - 1)) (some_database c.db is.least)
    ∙ ap (λ (l : List Dbd). slice_get l (c.db - 1)) (sym databases)
    ∙ database_mapped stores (c.db - 1) is.store is.found in
    let present : image_in stores c.db c.slot ≡ slice_index_or is.store.slots c.slot [] = ap (λ (o : Option Stored). option_map_or (λ s. slice_index_or s.slots c.slot []) o []) is.found in
    images_of c.slot (rows_spelling c.before) (rows_spelling (image_in stores c.db c.slot)) dbd (dbd_at system c.db) here is.within
    (slot_image dbd is.slots.types c.before is.before)
    (slot_image dbd is.slots.types (image_in stores c.db c.slot) (subst (λ (rows : List Row). IsSlot dbd rows) (sym present) (slot_at dbd is.store.slots c.slot is.slots.each)))

unit_images : (system : System) (stores : List Stored) (unit : ℕ) (slots : List Change) (more : List Record) → map (λ s. s.dbd) stores ≡ system.databases → AllByRecursion (IsSlotTouched stores) slots → list_all (is_image_of system) more ≡ true → list_all (is_image_of system) (touch_records unit stores slots ++ more) ≡ true
unit_images system stores unit [] more databases each are = are
unit_images system stores unit (c ∷ slots) more databases each are =
    both (is_image_of system (touch_record unit stores c)) (list_all (is_image_of system) (touch_records unit stores slots ++ more))
    (touch_image system stores unit c databases each.0) (unit_images system stores unit slots more databases each.1 are)

all_images : (system : System) (stores : List Stored) (units : List OpenUnit) → map (λ s. s.dbd) stores ≡ system.databases → AllByRecursion (λ u. AreSlotsTouched stores u.work.now.slots) units → list_all (is_image_of system) (changes_of_units stores units) ≡ true
all_images system stores [] databases each = refl
all_images system stores (u ∷ units) databases each =
    unit_images system stores u.number u.work.now.slots (changes_of_units stores units) databases each.0.each (all_images system stores units databases each.1)

-- what open units touched is what a snapshot may tell of
pub open_changes : (system : System) (stores : List Stored) (units : List OpenUnit) → map (λ s. s.dbd) stores ≡ system.databases → AreOpen stores units → AreChanges system (changes_of_units stores units)
open_changes system stores units databases are = record {
  each = all_changes stores units;
  ascending = all_ascend stores units are.each are.ascending;
  images = all_images system stores units databases are.each;
}

-- ---- their bytes

-- a database whose slots have at most so many sectors
abbrev HasUpTo : ℕ → Stored → Type 0
HasUpTo most s = s.dbd.sectors ≤ most

short_image : (most : ℕ) (dbd : Dbd) (rows : List Row) → dbd.sectors ≤ most → IsSlot dbd rows → length (rows_spelling rows) ≤ 4000 * (most * touched_records_in rows)
short_image most dbd [] few is = omega arith
short_image most dbd (row ∷ rows) few is =
    ⊎_elim (λ (none : row ∷ rows ≡ []). absurd cc) (λ valid. omega (arith, valid.within, few)) is

one_record : (rows : List Row) → touched_records_in rows ≤ 1
one_record [] = omega arith
one_record (row ∷ rows) = omega arith

touched_spelled : (stores : List Stored) (slots : List Change) → AllByRecursion HasFewSectors stores → AllByRecursion (IsSlotTouched stores) slots → AllByRecursion (IsSpelled stores) slots
touched_spelled stores [] few each = tt
touched_spelled stores (c ∷ slots) few each =
    let is = each.0 in
    let place = slice_get_within stores (c.db - 1) is.store is.found in
    let least = is.least in (
      record {
        least = is.least;
        most = omega (arith, place, least);
        short = omega (arith, short_image 8 is.store.dbd c.before (all_at HasFewSectors stores (c.db - 1) is.store few is.found) is.before, one_record c.before);
      },
      touched_spelled stores slots few each.1,
    )

-- what open units touched can be spelled
pub open_spelled : (stores : List Stored) (units : List OpenUnit) → AllByRecursion HasFewSectors stores → AllByRecursion (λ u. AreSlotsTouched stores u.work.now.slots) units → AreAllSpelled stores units
open_spelled stores [] few each = tt
open_spelled stores (u ∷ units) few each =
    (record { each = touched_spelled stores u.work.now.slots few each.0.each; few = each.0.few }, open_spelled stores units few each.1)

touch_size : (most : ℕ) (stores : List Stored) (unit : ℕ) (c : Change) → AllByRecursion (HasUpTo most) stores → IsSlotTouched stores c
    → record_length (touch_record unit stores c) ≤ 18 + 4000 * (most * touched_records_in c.before) + 4000 * (most * touched_records_in (image_in stores c.db c.slot))
touch_size most stores unit c few is =
    let sectors = all_at (HasUpTo most) stores (c.db - 1) is.store few is.found in
    let present : image_in stores c.db c.slot ≡ slice_index_or is.store.slots c.slot [] = ap (λ (o : Option Stored). option_map_or (λ s. slice_index_or s.slots c.slot []) o []) is.found in
    omega (
      arith,
      change_size unit c.db c.slot (rows_spelling c.before) (rows_spelling (image_in stores c.db c.slot)),
      short_image most is.store.dbd c.before sectors is.before,
      short_image most is.store.dbd (image_in stores c.db c.slot) sectors (subst (λ (rows : List Row). IsSlot is.store.dbd rows) (sym present) (slot_at is.store.dbd is.store.slots c.slot is.slots.each)),
    )

-- of one more the weights are one more than of the rest, also times a number
weighed : (most : ℕ) (f : Change → ℕ) (c : Change) (slots : List Change) → most * sum_by f (c ∷ slots) ≡ most * f c + most * sum_by f slots
weighed most f c slots = ap (λ n. most * n) (sum_by-cons f c slots) ∙ mul-add most (f c) (sum_by f slots)

unit_size : (most : ℕ) (stores : List Stored) (unit : ℕ) (slots : List Change) → AllByRecursion (HasUpTo most) stores → AllByRecursion (IsSlotTouched stores) slots
    → size (touch_records unit stores slots) ≤ 18 * length slots + 4000 * (most * sum_by (λ c. touched_records_in c.before) slots) + 4000 * (most * sum_by (λ c. touched_records_in (image_in stores c.db c.slot)) slots)
unit_size most stores unit [] few each = omega arith
unit_size most stores unit (c ∷ slots) few each =
    omega (
      arith,
      size_more (touch_record unit stores c) (touch_records unit stores slots),
      touch_size most stores unit c few each.0,
      unit_size most stores unit slots few each.1,
      weighed most (λ (d : Change). touched_records_in d.before) c slots,
      weighed most (λ (d : Change). touched_records_in (image_in stores d.db d.slot)) c slots,
    )

-- a unit's 32 records before and 32 now
unit_short : (most : ℕ) (stores : List Stored) (unit : ℕ) (slots : List Change) → AllByRecursion (HasUpTo most) stores → 1 ≤ most → AreSlotsTouched stores slots
    → size (touch_records unit stores slots) ≤ 262144 * most
unit_short most stores unit slots few some are =
    omega (
      arith,
      some,
      unit_size most stores unit slots few are.each,
      are.few,
      mul-le-mul_left most are.few_before,
      mul-le-mul_left most are.few_now,
    )

-- at most 262,144 bytes a unit, for each sector that a record has at most
pub open_size : (most : ℕ) (stores : List Stored) (units : List OpenUnit) → AllByRecursion (λ s. s.dbd.sectors ≤ most) stores → 1 ≤ most → AllByRecursion (λ u. AreSlotsTouched stores u.work.now.slots) units
    → size (changes_of_units stores units) ≤ 262144 * most * length units
open_size most stores [] few some each = omega arith
open_size most stores (u ∷ units) few some each =
    omega (
      arith,
      size_both (touch_records u.number stores u.work.now.slots) (changes_of_units stores units),
      unit_short most stores u.number u.work.now.slots few some each.0,
      open_size most stores units few some each.1,
      mul-suc (262144 * most) (length units),
    )
