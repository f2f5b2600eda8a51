-- How many sectors a slot of a checked system has.
use Rattle.std.proofs.Common.{◌≡◌, ℕ, ◌≤◌, zero, suc, List, [], ◌∷◌, subst, arith, Some}
use Rattle.std.specs.List.{All, AllByRecursion, slice_get}
use Rattle.std.proofs.lemmas.List.Elements.{All-head, All-tail}
use Rattle.tm_types.specs.declared.dbd.Dbd.{Dbd}
use Rattle.system_types.specs.ValidSystem.{IsDatabase, IsSystem}
use Rattle.model_system.specs.System.{System}
use Rattle.model_system.specs.Areas.{most_sectors, most_sectors_from}
use Rattle.model_image.proofs.Places.{most_above, most_within}

each_few : (dbds : List Dbd) → All IsDatabase dbds → AllByRecursion (λ dbd. dbd.sectors ≤ 8) dbds
each_few [] all = tt
each_few (dbd ∷ dbds) all = ((All-head IsDatabase dbd dbds all).few_sectors, each_few dbds (All-tail IsDatabase dbd dbds all))

pub most_few : (system : System) → IsSystem system → most_sectors system ≤ 8
most_few system valid = most_within 1 system.databases 8 (omega arith) (each_few system.databases valid.databases)

pub most_some : (dbds : List Dbd) → 1 ≤ most_sectors_from 1 dbds
most_some dbds = most_above 1 dbds

few_at : (dbds : List Dbd) (i : ℕ) (dbd : Dbd) → AllByRecursion (λ dbd. dbd.sectors ≤ 8) dbds → slice_get dbds i ≡ Some dbd → dbd.sectors ≤ 8
few_at [] i dbd all found = cc
few_at (d ∷ dbds) zero dbd all found = let same : d ≡ dbd = cc in subst (λ (x : Dbd). x.sectors ≤ 8) same all.0
few_at (d ∷ dbds) (suc i) dbd all found = few_at dbds i dbd all.1 found

-- a record of a database has few sectors
pub database_few : (system : System) (i : ℕ) (dbd : Dbd) → IsSystem system → slice_get system.databases i ≡ Some dbd → dbd.sectors ≤ 8
database_few system i dbd valid found = few_at system.databases i dbd (each_few system.databases valid.databases) found
