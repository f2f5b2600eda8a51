-- What the records of a snapshot and of a log say of the slots, beside what open units did to them: the committed bytes.
use Rattle.std.specs.Prelude.{◌≡◌, ◌⊎◌, ℕ, ◌==◌, Bool, true, false, not, ◌&&◌, if◌then◌else◌, List, [], ◌∷◌, ◌++◌, filter, slice_get, reverse, Option, Some, None, IfSome}
use Rattle.std.specs.List.{list_any}
use Rattle.std.specs.Option.{option_map_or}
use Rattle.log_records.specs.declared.record.Record.{Record}
use Rattle.log_records.specs.declared.record.Record.TheVariants.{Change}
use Rattle.model_image.specs.Slots.{is_change_of, is_sync_point_of, named_by}

-- What an open unit did to a slot: what stood there before its first change, and what stands there now.
pub record Touch : Type 0 where
  pub first : List ℕ
  pub present : List ℕ

-- by unit, database and slot; none where the unit left the slot alone
abbrev pub Touches : Type 0
Touches = ℕ → ℕ → ℕ → Option Touch

-- the committed bytes, by database and slot
abbrev pub Bytes : Type 0
Bytes = ℕ → ℕ → List ℕ

-- the changes of a slot in these records, and the last of them
abbrev pub changes_of_slot : List Record → ℕ → ℕ → List Record
changes_of_slot records database slot = filter (is_change_of database slot) records

abbrev pub last_change : List Record → ℕ → ℕ → Option Record
last_change records database slot = slice_get (reverse (changes_of_slot records database slot)) 0

-- a change that this unit made
abbrev pub is_by : ℕ → Record → Bool
is_by unit (Change u database slot before after) = u == unit
is_by unit _ = false

-- a change of this unit, which left these bytes
abbrev pub LeavesBytes : ℕ → List ℕ → Record → Type 0
LeavesBytes unit present (Change u database slot before after) = (u ≡ unit) × (after ≡ present)
LeavesBytes unit present _ = ⊥

abbrev pub IsLast : ℕ → List ℕ → Option Record → Type 0
IsLast unit present (Some r) = LeavesBytes unit present r
IsLast unit present None = ⊥

-- The records say of each slot that they name its committed bytes. A unit that may still reach its sync point has none
-- yet in the log. Of a slot that it touched, the first bytes before are the committed ones, and the last change in the
-- records is its own and left what stands there now; of all others the records have no change of it.
pub record AreCommitted (snapshot log : List Record) (may_sync : ℕ → Bool) (touches : Touches) (committed : Bytes) : Type 0 where
  pub named : (database slot : ℕ) → IfSome (named_by snapshot log database slot) (λ bytes. bytes ≡ committed database slot)
  pub open_yet : (unit : ℕ) → may_sync unit ≡ true → list_any (is_sync_point_of unit) log ≡ false
  pub live : (unit database slot : ℕ) (t : Touch) → touches unit database slot ≡ Some t → may_sync unit ≡ true
  pub first : (unit database slot : ℕ) (t : Touch) → touches unit database slot ≡ Some t → t.first ≡ committed database slot
  pub last : (unit database slot : ℕ) (t : Touch) → touches unit database slot ≡ Some t → IsLast unit t.present (last_change (snapshot ++ log) database slot)
  pub others : (unit database slot : ℕ) → may_sync unit ≡ true → touches unit database slot ≡ None → list_any (is_by unit) (changes_of_slot (snapshot ++ log) database slot) ≡ false

-- ---- what the units do

abbrev pub is_place : ℕ → ℕ → ℕ → ℕ → Bool
is_place database slot d s = (d == database) && (s == slot)

-- A unit changes a slot, where these bytes stood: it touched the slot with these as its first ones, unless it had before.
abbrev pub touched : Option Touch → List ℕ → List ℕ → Touch
touched None before after = record { first = before; present = after }
touched (Some t) before after = record t { present = after }

abbrev pub with_slot_touch : ℕ → ℕ → ℕ → List ℕ → List ℕ → Touches → Touches
with_slot_touch unit database slot before after touches u d s =
    if (u == unit) && is_place database slot d s then Some (touched (touches unit database slot) before after) else touches u d s

-- A unit has ended: it touches nothing any more, and reaches no sync point again.
abbrev pub without_touches : ℕ → Touches → Touches
without_touches unit touches u d s = if u == unit then None else touches u d s

abbrev pub without_sync : ℕ → (ℕ → Bool) → ℕ → Bool
without_sync unit may_sync u = not (u == unit) && may_sync u

-- What it touched is committed as it stands.
abbrev pub synced : ℕ → Touches → Bytes → Bytes
synced unit touches committed d s = option_map_or (λ t. t.present) (touches unit d s) (committed d s)

-- ---- a snapshot

-- a slot that no record of it tells of, or one that an open unit touched, of which it tells once
abbrev pub IsTouchTold : List Record → Touches → ℕ → ℕ → ℕ → Touch → Type 0
IsTouchTold snapshot touches unit database slot t =
    (touches unit database slot ≡ Some t) × (changes_of_slot snapshot database slot ≡ Change unit database slot t.first t.present ∷ [])

-- A snapshot tells of each slot that an open unit touched, and of no other.
pub record TellsTouches (snapshot : List Record) (touches : Touches) : Type 0 where
  pub each : (database slot : ℕ) → (changes_of_slot snapshot database slot ≡ []) ⊎ ((unit : ℕ) × (t : Touch) × IsTouchTold snapshot touches unit database slot t)
  pub all : (unit database slot : ℕ) (t : Touch) → touches unit database slot ≡ Some t → changes_of_slot snapshot database slot ≡ Change unit database slot t.first t.present ∷ []
