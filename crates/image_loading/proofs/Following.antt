-- Where the slots of the next database begin.
use Rattle.std.proofs.Common.{◌≡◌, ℕ, zero, suc, ◌+◌, ◌*◌, ◌≤◌, List, [], ◌∷◌, length, take, ap, arith, Some}
use Rattle.std.specs.Prelude.{slice_get, sum_by}
use Rattle.std.proofs.lemmas.List.Sums.{sum_by-cons}
use Rattle.std.proofs.lemmas.Option.{slice_get_within}
use Rattle.tm_types.specs.declared.dbd.Dbd.{Dbd}
use Rattle.model_system.specs.System.{System}
use Rattle.model_system.specs.Areas.{data_first, sectors_needed}
use Rattle.model_image.proofs.Places.{slots_before}

sum_next : (f : Dbd → ℕ) (dbds : List Dbd) (i : ℕ) (dbd : Dbd) → slice_get dbds i ≡ Some dbd → sum_by f (take (suc i) dbds) ≡ sum_by f (take i dbds) + f dbd
sum_next f [] i dbd found = cc
sum_next f (d ∷ dbds) zero dbd found =
    let same : d ≡ dbd = cc in
    omega (arith, sum_by-cons f d (take 0 dbds), ap f same)
sum_next f (d ∷ dbds) (suc i) dbd found =
    omega (arith, sum_next f dbds i dbd found, sum_by-cons f d (take (suc i) dbds), sum_by-cons f d (take i dbds))

-- how many sectors the slots of a database have
abbrev sectors_of : Dbd → ℕ
sectors_of dbd = dbd.roots * dbd.sectors

pub next_first : (system : System) (i : ℕ) (dbd : Dbd) → slice_get system.databases i ≡ Some dbd → data_first system (i + 1) ≡ data_first system i + dbd.roots * dbd.sectors
next_first system i dbd found =
    let next : i + 1 ≡ suc i = omega arith in
    omega (arith, sum_next sectors_of system.databases i dbd found, ap (λ k. sum_by sectors_of (take k system.databases)) next)

pub first_fits : (system : System) (i : ℕ) (dbd : Dbd) (size : ℕ) → slice_get system.databases i ≡ Some dbd → sectors_needed system ≤ size → data_first system i + dbd.roots * dbd.sectors ≤ size
first_fits system i dbd size found le =
    omega (arith, le, slots_before system i (length system.databases) dbd found (slice_get_within system.databases i dbd found))
