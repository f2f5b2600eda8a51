-- What changes say of a slot, one after another.
use Rattle.std.specs.Prelude.{ℕ, ◌==◌, ◌&&◌, Bool, if◌then◌else◌, List, [], ◌∷◌, Option, Some, None}
use Rattle.std.specs.BTreeMap.{is_at}
use Rattle.std.specs.Map.{lookup}
use Rattle.std.specs.Option.{unwrap_or}
use Rattle.std.specs.declared.cmp.Ordering.{Ordering}
use Rattle.std.specs.Ordering.{nat_cmp, ordering_then}
use Rattle.log_records.specs.declared.record.Record.{Record}
use Rattle.log_records.specs.declared.record.Record.TheVariants.{Change}
use Rattle.image_records.specs.declared.slots.NamedSlot.{NamedSlot}
use Rattle.log_replay.specs.declared.said.Said.{Said}

-- the bytes of the slot: what the last change left that counts, else what stood there before the first
abbrev pub said_bytes : Said → List ℕ
said_bytes s = unwrap_or s.last s.first

-- a change more, which counts or doesn't
abbrev pub last_by : Bool → List ℕ → Option (List ℕ) → Option (List ℕ)
last_by counts after last = if counts then Some after else last

abbrev pub with_change_said : Bool → List ℕ → List ℕ → Option Said → Said
with_change_said counts before after None = record { first = before; last = last_by counts after None }
with_change_said counts before after (Some s) = record s { last = last_by counts after s.last }

-- these records more: of the changes of the slot those count whose unit does
abbrev pub with_record_said : (ℕ → Bool) → ℕ → ℕ → Record → Option Said → Option Said
with_record_said counts database slot (Change unit d s before after) said =
    if (d == database) && (s == slot) then Some (with_change_said (counts unit) before after said) else said
with_record_said counts database slot _ said = said

abbrev pub with_records_said : (ℕ → Bool) → ℕ → ℕ → List Record → Option Said → Option Said
with_records_said counts database slot [] said = said
with_records_said counts database slot (r ∷ records) said = with_records_said counts database slot records (with_record_said counts database slot r said)

-- slots stand by database, and those of one database by their numbers
abbrev pub place_cmp : ℕ × ℕ → ℕ × ℕ → Ordering
place_cmp x y = ordering_then (nat_cmp x.0 y.0) (nat_cmp x.1 y.1)

-- what is kept of a slot
abbrev pub said_at : ℕ → ℕ → List ((ℕ × ℕ) × Said) → Option Said
said_at database slot entries = lookup (is_at (place_cmp (database, slot))) entries

-- a slot with its bytes
abbrev pub said_slot : (ℕ × ℕ) × Said → NamedSlot
said_slot entry = record { database = entry.0.0; slot = entry.0.1; bytes = said_bytes entry.1 }
