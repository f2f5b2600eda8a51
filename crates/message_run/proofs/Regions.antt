-- What a region sees, and what a change of it leaves of the others.
use Rattle.std.proofs.Common.{◌≡◌, ℕ, ◌-◌, ◌<◌, List, length, get_or, sym, ◌∙◌, ap, arith}
use Rattle.std.specs.Prelude.{slice_set}
use Rattle.std.proofs.lemmas.List.{set-get_or, get_or-set_same}
use Rattle.program_rows.specs.DatabasesState.{DatabasesState, RegionRows, IsRegionOf, no_rows, region_at, dbds_of}
use Rattle.message_run.specs.WorkAhead.{StayOthers}

-- a region sees what was put for it
pub set_region : (before : DatabasesState) (region : ℕ) → IsRegionOf before region → (rows : RegionRows) (after : DatabasesState)
    → after.regions ≡ slice_set before.regions (region - 1) rows → region_at region after ≡ rows
set_region before region there rows after e =
    let within : region - 1 < length before.regions = omega (arith, there.least, there.most) in
    ap (λ (rs : List RegionRows). get_or rs (region - 1) no_rows) e ∙ get_or-set_same before.regions (region - 1) rows no_rows within

-- the others stay where what a region sees is put
pub put_others : (before : DatabasesState) (region : ℕ) → IsRegionOf before region → (rows : RegionRows) (after : DatabasesState)
    → after.regions ≡ slice_set before.regions (region - 1) rows → after.committed ≡ before.committed → dbds_of after ≡ dbds_of before
    → StayOthers region before after
put_others before region there rows after e committed dbds = record {
  committed = committed;
  dbds = dbds;
  regions = e ∙ ap (slice_set before.regions (region - 1)) (sym (set_region before region there rows after e));
}

-- and where all regions see what they saw
pub kept_others : (before : DatabasesState) (region : ℕ) (after : DatabasesState)
    → after.regions ≡ before.regions → after.committed ≡ before.committed → dbds_of after ≡ dbds_of before
    → StayOthers region before after
kept_others before region after e committed dbds = record {
  committed = committed;
  dbds = dbds;
  regions =
      e
      ∙ (sym (set-get_or before.regions (region - 1) no_rows)
      ∙ ap (λ (rs : List RegionRows). slice_set before.regions (region - 1) (get_or rs (region - 1) no_rows)) (sym e));
}
