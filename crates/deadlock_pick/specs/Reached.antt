-- The regions that reach a region along the waits.
use Rattle.std.specs.Prelude.{◌≡◌, ℕ, nat_eq, true, List, [], ◌∷◌, ◌++◌, not, ◌&&◌, if◌then◌else◌, All}
use Rattle.std.specs.List.{IsDistinct, list_any}
use Rattle.model_data.specs.Table.{EnqueueTable, waits_for}
use Rattle.model_data.specs.Cycle.{IsTableRegion}

-- regions of the table, each once
pub record AreRegions (table : EnqueueTable) (reaching : List ℕ) : Type 0 where
  pub regions : All (IsTableRegion table) reaching
  pub distinct : IsDistinct nat_eq reaching

-- none but these wait for a region
abbrev pub IsWaitedForWithin : EnqueueTable → List ℕ → ℕ → Type 0
IsWaitedForWithin table reaching from = (next : ℕ) → IsTableRegion table next → waits_for next from table ≡ true → list_any (nat_eq next) reaching ≡ true

-- with this region more, where it waits for that one and isn't among them
abbrev pub with_next : EnqueueTable → ℕ → ℕ → List ℕ → List ℕ
with_next table from next reaching =
    if not (list_any (nat_eq next) reaching) && waits_for next from table then reaching ++ next ∷ [] else reaching
