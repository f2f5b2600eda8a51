-- What a unit of work keeps: the records and the slots that it changed.
use Rattle.std.specs.Prelude.{◌≡◌, ◌≤◌, ℕ, Bool, true, false, ◌==◌, ◌&&◌, ◌||◌, nat_lt, nat_le, List, [], ◌∷◌, ◌++◌, if◌then◌else◌, length}
use Rattle.std.specs.List.{AllByRecursion, list_any}
use Rattle.std.specs.Ordering.{is_eq}
use Rattle.model_data.specs.Path.{key_cmp}
use Rattle.unit_work.specs.declared.change.Change.{Change}

-- the changed records in the order in which they were first touched, each with its first slot and
-- image; and the touched slots by database and slot, each with the root last touched in it and its
-- first image
pub record Changes : Type 0 where
  pub records : List Change
  pub slots : List Change

-- nothing is changed
abbrev pub no_changes : Changes
no_changes = record { records = []; slots = [] }

-- whether the change is one of the record of this root
abbrev pub is_change_of_record : ℕ → List ℕ → Change → Bool
is_change_of_record db root c = c.db == db && is_eq (key_cmp c.root root)

-- whether the record of this root is changed
abbrev pub is_record_changed : ℕ → List ℕ → List Change → Bool
is_record_changed db root records = list_any (is_change_of_record db root) records

-- the records with one more that is changed; the first image of a record is kept
abbrev pub with_change : Change → List Change → List Change
with_change c records = if is_record_changed c.db c.root records then records else records ++ c ∷ []

-- whether a slot goes before this one, and whether it is this one
abbrev pub is_slot_before : ℕ → ℕ → Change → Bool
is_slot_before db slot c = nat_lt c.db db || (c.db == db && nat_lt c.slot slot)

abbrev pub is_slot : ℕ → ℕ → Change → Bool
is_slot db slot c = c.db == db && c.slot == slot

-- the slots with one more that is touched, by database and slot; the first image in a slot is kept,
-- and the root is the last
abbrev pub with_slot : Change → List Change → List Change
with_slot c [] = c ∷ []
with_slot c (s ∷ slots) =
    if is_slot_before c.db c.slot s then s ∷ with_slot c slots
    else (if is_slot c.db c.slot s then record s { root = c.root } ∷ slots else c ∷ s ∷ slots)

-- what a touch leaves
abbrev pub with_touch : Change → Changes → Changes
with_touch c changes = record { records = with_change c changes.records; slots = with_slot c changes.slots }

-- whether one record more would be changed than a unit may change
abbrev pub is_full : ℕ → List ℕ → List Change → Bool
is_full db root records = if is_record_changed db root records then false else nat_le 32 (length records)

-- these hold of each element and each later one
abbrev pub Pairs : (Change → Change → Type 0) → List Change → Type 0
Pairs R [] = Unit {0}
Pairs R (c ∷ changes) = AllByRecursion (R c) changes × Pairs R changes

-- two changes are of different records
abbrev pub AreOther : Change → Change → Type 0
AreOther c d = is_change_of_record d.db d.root c ≡ false

-- each record is kept once
abbrev pub AreRecordsOnce : List Change → Type 0
AreRecordsOnce records = Pairs AreOther records

-- whether a slot is among these, which stand by database and slot
abbrev pub is_seen : ℕ → ℕ → List Change → Bool
is_seen db slot [] = false
is_seen db slot (s ∷ slots) = if is_slot_before db slot s then is_seen db slot slots else is_slot db slot s

-- the records of a unit: each is kept once, and there are at most 32
pub record AreChangesKept (records : List Change) : Type 0 where
  pub once : AreRecordsOnce records
  pub few : length records ≤ 32

-- each of these slots stands before all later ones, by database and slot
abbrev pub ChangesAscend : List Change → Type 0
ChangesAscend [] = Unit {0}
ChangesAscend (c ∷ slots) = AllByRecursion (λ d. is_slot_before d.db d.slot c ≡ true) slots × ChangesAscend slots

-- the slots of a unit: each once, in order, and at most 64
pub record AreSlotsInOrder (slots : List Change) : Type 0 where
  pub ascend : ChangesAscend slots
  pub few : length slots ≤ 64

-- what always holds of a unit
pub record AreAllKept (changes : Changes) : Type 0 where
  pub records : AreChangesKept changes.records
  pub slots : AreSlotsInOrder changes.slots

-- a slot more has a place among them, or is there already
abbrev pub has_place : ℕ → ℕ → List Change → Bool
has_place db slot slots = is_seen db slot slots || nat_lt (length slots) 64
