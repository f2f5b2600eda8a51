-- The work in one region at each step of another.
use Rattle.std.proofs.Common.{◌≡◌, ◌≢◌, ℕ, ◌-◌, ◌≤◌, List, length, get_or, sym, ◌∙◌, ap, subst, arith}
use Rattle.std.specs.Prelude.{slice_set}
use Rattle.std.proofs.lemmas.List.{get_or-set_other}
use Rattle.model_system.specs.Jobs.{Job}
use Rattle.model_data.specs.declared.request.Request.{Request}
use Rattle.model_data.specs.Table.{EnqueueTable}
use Rattle.model_data.specs.EnqueueRequests.{after_asks, released}
use Rattle.model_machine.specs.Trial.{Given}
use Rattle.system_types.specs.ValidSystem.{IsServable}
use Rattle.program_rows.specs.DatabasesState.{DatabasesState, RegionRows, AreRowsOf, clean_region, committed_rows, dbds_of, no_rows, region_at}
use Rattle.program_rows.specs.CallAnswers.{IsCommitted, IsGivenUp}
use Rattle.message_run.specs.WorkAhead.{IsAhead, IsHeld, StayOthers}
use Rattle.message_run.specs.RunState.{RunState}
use Rattle.message_run.proofs.Holding.{asks_keep}
use Rattle.message_run.proofs.Beside.{beside, kept, released_keeps}

-- what another region sees where what one sees is put
sees_on : (other region : ℕ) (regions new : List RegionRows) (rows : RegionRows) → 1 ≤ other → 1 ≤ region → other ≢ region → new ≡ slice_set regions (region - 1) rows
    → get_or new (other - 1) no_rows ≡ get_or regions (other - 1) no_rows
sees_on other region regions new rows least_other least differs e =
    ap (λ (rs : List RegionRows). get_or rs (other - 1) no_rows) e ∙ get_or-set_other regions (region - 1) (other - 1) rows no_rows (λ f. differs (omega (arith, f, least_other, least)))

keeps_asked : (region : ℕ) (requests : List Request) (old new : EnqueueTable) → new ≡ after_asks region requests old → (r : Request) → IsHeld old r → IsHeld new r
keeps_asked region requests old new e r held = subst (λ t. IsHeld t r) (sym e) (asks_keep region requests old r held)

keeps_released : (other region : ℕ) (old new : EnqueueTable) → other ≢ region → new ≡ released region old → (r : Request) → r.region ≡ other → IsHeld old r → IsHeld new r
keeps_released other region old new differs e r own held = subst (λ t. IsHeld t r) (sym e) (released_keeps region old r (λ f. differs (sym own ∙ f)) held)

module _ (job : Job) (given : Given) (other region : ℕ) (old new : DatabasesState) (run : RunState) (least_other : 1 ≤ other) (least : 1 ≤ region) (differs : other ≢ region)
    (dbds : dbds_of new ≡ dbds_of old) (ahead : IsAhead job given other old run) where
  -- it goes on by a call, takes back what it changed, or waits
  pub beside_call : StayOthers region old new → (requests : List Request) → new.table ≡ after_asks region requests old.table → IsAhead job given other new run
  beside_call stay requests asked =
      kept job given other old new run dbds (λ r own held. keeps_asked region requests old.table new.table asked r held) ahead stay.committed
      (sees_on other region old.regions new.regions (region_at region new) least_other least differs stay.regions)

  -- it gives all up
  pub beside_given_up : IsGivenUp region old new → IsAhead job given other new run
  beside_given_up left =
      kept job given other old new run dbds (keeps_released other region old.table new.table differs left.table) ahead left.committed
      (sees_on other region old.regions new.regions (clean_region (committed_rows old)) least_other least differs left.regions)

  -- its changes stay
  pub beside_committed : IsServable job.system.databases job.pcbs job.lines → AreRowsOf (dbds_of old) (committed_rows old) → AreRowsOf (dbds_of new) (committed_rows new)
      → other ≤ length old.regions → IsCommitted region old new → IsAhead job given other new run
  beside_committed servable rows_old rows_new most committed =
      beside job given other old new run dbds (keeps_released other region old.table new.table differs committed.table) ahead servable rows_old rows_new
      (committed.others other differs least_other most)
