-- The slots of which a record says what stands there.
use Rattle.std.specs.Prelude.{◌≡◌, ◌⊎◌, ℕ, ◌<◌, ◌==◌, Bool, false, nat_lt, ◌&&◌, List, [], ◌∷◌, Option, Some, None, find}
use Rattle.std.specs.Option.{option_map}
use Rattle.tm_types.specs.declared.dbd.Dbd.{Dbd}
use Rattle.model_system.specs.System.{System}
use Rattle.log_records.specs.declared.record.Record.{Record}
use Rattle.model_image.specs.Slots.{is_image, dbd_at, named_by}
use Rattle.image_records.specs.declared.slots.NamedSlot.{NamedSlot}

abbrev pub is_at : ℕ → ℕ → NamedSlot → Bool
is_at database number s = (s.database == database) && (s.slot == number)

-- what stands in a slot of a database, where the list has it
abbrev pub named_bytes_at : ℕ → ℕ → List NamedSlot → Option (List ℕ)
named_bytes_at database number slots = option_map (λ s. s.bytes) (find (is_at database number) slots)

-- by database and slot, each once
abbrev pub IsNamedSlotBefore : NamedSlot → NamedSlot → Type 0
IsNamedSlotBefore s other = (s.database < other.database) ⊎ ((s.database ≡ other.database) × (s.slot < other.slot))

abbrev pub NamedSlotsAscend : List NamedSlot → Type 0
NamedSlotsAscend [] = Unit {0}
NamedSlotsAscend (s ∷ []) = Unit {0}
NamedSlotsAscend (s ∷ next ∷ slots) = IsNamedSlotBefore s next × NamedSlotsAscend (next ∷ slots)

-- a slot that the system has, with the bytes of a record or of none
abbrev pub is_slot_by : ℕ → List ℕ → Option Dbd → Bool
is_slot_by number bytes None = false
is_slot_by number bytes (Some dbd) = nat_lt number dbd.roots && is_image dbd bytes

abbrev pub is_slot_of : System → NamedSlot → Bool
is_slot_of system s = is_slot_by s.slot s.bytes (dbd_at system s.database)

-- The list has the slots that a record of the snapshot or the log names, each with the bytes that it says.
pub record AreSlotsNamed (snapshot log : List Record) (slots : List NamedSlot) : Type 0 where
  pub ascending : NamedSlotsAscend slots
  pub each : (database number : ℕ) → named_bytes_at database number slots ≡ named_by snapshot log database number
