-- The changed slots of all databases, and what writing them leaves.
use Rattle.std.specs.Prelude.{ℕ, ◌+◌, ◌*◌, List, [], ◌∷◌, ◌++◌, length, map, sum_by}
use Rattle.seg_store.specs.Slots.{Stored}
use Rattle.seg_store.specs.ChangedSlots.{Kept, AllStores}
use Rattle.seg_store.specs.DataSectors.{pieces_of, bytes_of_slots}

-- how many sectors the slots of the databases have together
abbrev pub sector_count : List Stored → ℕ
sector_count stores = sum_by (λ s. s.dbd.roots * s.dbd.sectors) stores

-- how many of them the changed slots have
abbrev pub changed_sectors : List Stored → List (List ℕ) → ℕ
changed_sectors [] changed = 0
changed_sectors (s ∷ stores) [] = 0
changed_sectors (s ∷ stores) (numbers ∷ changed) = length numbers * s.dbd.sectors + changed_sectors stores changed

-- pieces whose places stand behind so many others
abbrev pub behind : ℕ → List (ℕ × List ℕ) → List (ℕ × List ℕ)
behind others pieces = map (λ piece. (others + piece.0, piece.1)) pieces

-- the changed slots of all databases, whose sectors stand one database behind the other
abbrev pub all_bytes : ℕ → List Stored → List (List ℕ) → List (ℕ × List ℕ)
all_bytes others [] changed = []
all_bytes others (s ∷ stores) [] = []
all_bytes others (s ∷ stores) (numbers ∷ changed) =
    behind others (pieces_of s.dbd.sectors (bytes_of_slots s.slots numbers)) ++ all_bytes (others + s.dbd.roots * s.dbd.sectors) stores changed

abbrev pub changed_bytes : AllStores → List (ℕ × List ℕ)
changed_bytes all = all_bytes 0 all.stores all.changed

-- the stores with no slot changed since it was written
abbrev pub all_written : AllStores → AllStores
all_written all = record all { changed = map (λ numbers. []) all.changed }

-- ---- the same of stores that are kept one by one

abbrev pub written_kept : Kept → Kept
written_kept one = record one { changed = [] }

abbrev pub kept_sectors : List Kept → ℕ
kept_sectors kept = sum_by (λ k. k.dbd.roots * k.dbd.sectors) kept

-- how many of them the changed slots have
abbrev pub kept_changed : List Kept → ℕ
kept_changed kept = sum_by (λ k. length k.changed * k.dbd.sectors) kept

abbrev pub pieces_kept : Kept → List (ℕ × List ℕ)
pieces_kept one = pieces_of one.dbd.sectors (bytes_of_slots one.slots one.changed)

abbrev pub kept_bytes : ℕ → List Kept → List (ℕ × List ℕ)
kept_bytes others [] = []
kept_bytes others (k ∷ kept) = behind others (pieces_kept k) ++ kept_bytes (others + k.dbd.roots * k.dbd.sectors) kept
