-- What a region's step, or the end of its work, leaves of the work of other regions.
use Rattle.std.proofs.Common.{◌≡◌, ℕ, zero, suc, ◌+◌, ◌-◌, ◌≤◌, ◌<◌, List, [], ◌∷◌, Bool, true, false, Option, Some, None, length, get_or, refl, sym, ap, ◌∙◌, subst, arith, ◌⊎◌, inl, inr, ⊎_elim}
use Rattle.std.specs.Prelude.{All, find, if◌then◌else◌, map, slice_get, slice_set}
use Rattle.std.specs.Option.{option_map, option_and_then}
use Rattle.std.specs.Str.{bytes_eq}
use Rattle.std.proofs.lemmas.List.{get_or-set_other, get_or-set_same}
use Rattle.std.proofs.lemmas.List.Elements.{All-head, All-tail}
use Rattle.model_data.specs.declared.need.Need.{Need as RootNeed}
use Rattle.model_data.specs.Data.{Data}
use Rattle.model_data.specs.declared.request.Request.{Request}
use Rattle.model_data.specs.Table.{wait_of}
use Rattle.model_data.specs.EnqueueRequests.{after_asks}
use Rattle.model_system.specs.declared.need.CallText.{CallText}
use Rattle.model_system.specs.declared.need.Need.{Need}
use Rattle.model_system.specs.declared.need.Need.TheVariants.{Call, Ended, Abend}
use Rattle.model_system.specs.Jobs.{Job, job_of, job_by, job_with, program_at}
use Rattle.model_machine.specs.Trial.{Given, Reached, Trial, pcb_reached, trial_need}
use Rattle.model_machine.specs.Trial.Reached.{Messages, Rows, Nothing}
use Rattle.model_machine.specs.Requests.{request_for, requests_at, requests_by, requests_of, asked_behind}
use Rattle.program_rows.specs.DatabasesState.{DatabasesState, RegionRows, AreRowsOf, IsClean, IsRegionOf, no_rows, region_at, committed_rows, dbds_of, rows_of_stores, clean_region, with_records_from}
use Rattle.program_rows.specs.CallAnswers.{IsBeside, IsCommitted, IsGivenUp}
use Rattle.message_run.specs.WorkAhead.{IsAhead, IsHeld, StayOthers}
use Rattle.message_run.specs.RunState.{RunState}
use Rattle.message_run.proofs.Holding.{asks_keep}
use Rattle.message_run.proofs.Beside.{kept}
use Rattle.message_run.proofs.Others.{beside_committed as committed_law}
use Rattle.model_system.specs.declared.code.Code.{Code}
use Rattle.model_system.specs.declared.system_program.SystemProgram.{SystemProgram}
use Rattle.model_system.specs.Codes.{code_at}
use Rattle.system_types.specs.ValidSystem.{IsServable, IsSystem}
use Rattle.model_system.specs.System.{System}
use Rattle.region_work.specs.declared.region.Busy.{Busy}
use Rattle.region_work.specs.RegionWork.{IsRegionUnit}
use Rattle.tm_machine.specs.Parts.{IsIdle, AreDatabases, AreIdle}
use Rattle.tm_machine.proofs.Linked.{StayAtWork}
use Rattle.tm_machine.proofs.Tabled.{AreOwn, regions_asks, held_released, wait_asks, wait_ended, wait_released}

-- ---- a region's requests are its own
own_map : (region number : ℕ) (needs : List RootNeed) → AreOwn region (map (request_for region number) needs)
own_map region number [] = tt
own_map region number (need ∷ needs) = (refl, own_map region number needs)

own_at : (region : ℕ) (target : Reached) (d : Data) (call : CallText) → AreOwn region (requests_at region target d call)
own_at region Messages d call = tt
own_at region (Rows target) d call = own_map region target.number _
own_at region Nothing d call = tt

own_by : (region : ℕ) (job : Job) (trial : Trial) (need : Need) → AreOwn region (requests_by region job trial need)
own_by region job trial (Call call) = own_at region (pcb_reached job.system.databases job.pcbs call.pcb) trial.databases call
own_by region job trial Ended = tt
own_by region job trial (Abend code) = tt

pub own_requests : (region : ℕ) (job : Job) (trial : Trial) → AreOwn region (requests_of region job trial)
own_requests region job trial = own_by region job trial (trial_need job trial)

own_behind : (region : ℕ) (job : Job) (trial : Option Trial) → AreOwn region (asked_behind region job trial)
own_behind region job (Some trial) = own_requests region job trial
own_behind region job None = tt

-- ---- the work of a region that sees what it saw, and holds what it held
clean_same : (other : ℕ) (old new : DatabasesState) → new.committed ≡ old.committed → region_at other new ≡ region_at other old → IsClean other old → IsClean other new
clean_same other old new committed sees h = record {
  sees = ap (λ r. r.rows) sees ∙ h.sees ∙ sym (ap rows_of_stores committed);
  changed = ap (λ r. r.changed) sees ∙ h.changed;
}

unit_same : (job : Job) (given : Given) (other : ℕ) (old new : DatabasesState) (unit : Option RunState)
    → new.committed ≡ old.committed → region_at other new ≡ region_at other old → dbds_of new ≡ dbds_of old
    → ((q : Request) → q.region ≡ other → IsHeld old.table q → IsHeld new.table q)
    → IsRegionUnit job given other old unit → IsRegionUnit job given other new unit
unit_same job given other old new None committed sees dbds holds h = clean_same other old new committed sees h
unit_same job given other old new (Some unit) committed sees dbds holds h = kept job given other old new unit dbds holds h committed sees

-- ---- other regions
-- A region's step, or the end of its work, leaves the work of the other regions as it was.
pub record IsKeptBeside (region : ℕ) (old new : DatabasesState) : Type 0 where
  pub count : length new.regions ≡ length old.regions
  pub regions : new.table.regions ≡ old.table.regions
  pub units : (other : ℕ) → (other ≡ region → ⊥) → IsRegionOf old other → (job : Job) (given : Given) (unit : Option RunState)
      → IsServable job.system.databases job.pcbs job.lines → IsRegionUnit job given other old unit → IsRegionUnit job given other new unit
  pub idle : (other : ℕ) → (other ≡ region → ⊥) → IsRegionOf old other → IsIdle other old → IsIdle other new

places_apart : (other region : ℕ) → (other ≡ region → ⊥) → 1 ≤ other → 1 ≤ region → other - 1 ≡ region - 1 → ⊥
places_apart other region apart a b e = apart (omega (arith, a, b, e))

sees_other : (region other : ℕ) (old new : DatabasesState) (rows : RegionRows) → (other ≡ region → ⊥) → 1 ≤ other → 1 ≤ region
    → new.regions ≡ slice_set old.regions (region - 1) rows → region_at other new ≡ region_at other old
sees_other region other old new rows apart a b e =
    ap (λ (rs : List RegionRows). get_or rs (other - 1) no_rows) e
    ∙ get_or-set_other old.regions (region - 1) (other - 1) rows no_rows (places_apart other region apart a b)

set_count : (rs : List RegionRows) (place : ℕ) (rows : RegionRows) → length (slice_set rs place rows) ≡ length rs
set_count [] place rows = refl
set_count (r ∷ rs) zero rows = refl
set_count (r ∷ rs) (suc place) rows = ap suc (set_count rs place rows)

-- a region asks for what its call needs, and makes it or not
pub beside_step : (region : ℕ) (old new : DatabasesState) (requests : List Request) → 1 ≤ region → StayOthers region old new → AreOwn region requests
    → new.table ≡ after_asks region requests old.table → IsKeptBeside region old new
beside_step region old new requests positive stays own asked = record {
  count = ap length stays.regions ∙ set_count old.regions (region - 1) (region_at region new);
  regions = ap (λ t. t.regions) asked ∙ regions_asks region requests old.table;
  units = λ other apart there job given unit servable.
      unit_same job given other old new unit stays.committed
      (sees_other region other old new (region_at region new) apart there.least positive stays.regions) stays.dbds
      (λ q same held. subst (λ t. IsHeld t q) (sym asked) (asks_keep region requests old.table q held));
  idle = λ other apart there was. record {
    clean = clean_same other old new stays.committed (sees_other region other old new (region_at region new) apart there.least positive stays.regions) was.clean;
    waits = ap (wait_of other) asked ∙ wait_asks other region requests old.table own apart ∙ was.waits;
  };
}

-- nothing changed
pub beside_same : (region : ℕ) (old new : DatabasesState) → new ≡ old → IsKeptBeside region old new
beside_same region old new same = record {
  count = ap (λ d. length d.regions) same;
  regions = ap (λ d. d.table.regions) same;
  units = λ other apart there job given unit servable was. subst (λ d. IsRegionUnit job given other d unit) (sym same) was;
  idle = λ other apart there was. subst (IsIdle other) (sym same) was;
}

-- a region takes all back and gives all up
pub beside_given_up : (region : ℕ) (old new : DatabasesState) → 1 ≤ region → IsGivenUp region old new → dbds_of new ≡ dbds_of old → IsKeptBeside region old new
beside_given_up region old new positive back dbds = record {
  count = ap length back.regions ∙ set_count old.regions (region - 1) (clean_region (committed_rows old));
  regions = ap (λ t. t.regions) back.table;
  units = λ other apart there job given unit servable.
      unit_same job given other old new unit back.committed
      (sees_other region other old new (clean_region (committed_rows old)) apart there.least positive back.regions) dbds
      (λ q same held. subst (λ t. IsHeld t q) (sym back.table) (held_released region old.table q (λ s. apart (sym same ∙ s)) held));
  idle = λ other apart there was. record {
    clean = clean_same other old new back.committed (sees_other region other old new (clean_region (committed_rows old)) apart there.least positive back.regions) was.clean;
    waits = ap (wait_of other) back.table ∙ wait_released other region old.table apart ∙ was.waits;
  };
}

-- The work in another region stays as it was where a region's changes are committed: what it holds is as before.
abbrev BesideLaw : ℕ → DatabasesState → DatabasesState → Type 0
BesideLaw region old new =
    (other : ℕ) → (other ≡ region → ⊥) → IsRegionOf old other → (job : Job) (given : Given) (unit : RunState)
    → IsServable job.system.databases job.pcbs job.lines → IsAhead job given other old unit → IsAhead job given other new unit

beside_clean : (other : ℕ) (old new : DatabasesState) → IsBeside other old new → IsClean other old → IsClean other new
beside_clean other old new beside was = record {
  sees = ap (λ r. r.rows) now;
  changed = ap (λ r. r.changed) now;
}
  where
    now : region_at other new ≡ clean_region (committed_rows new)
    now =
        beside.sees
        ∙ ap (λ (cs : List (ℕ × List ℕ)). record { rows = with_records_from cs (region_at other old).rows (committed_rows new); changed = cs }) was.changed

-- a region's changes are committed
pub beside_committed : (region : ℕ) (old new : DatabasesState) → 1 ≤ region → IsCommitted region old new → dbds_of new ≡ dbds_of old
    → AreRowsOf (dbds_of old) (committed_rows old) → AreRowsOf (dbds_of new) (committed_rows new) → IsKeptBeside region old new
beside_committed region old new positive stays dbds rows_old rows_new = record {
  count = stays.count;
  regions = ap (λ t. t.regions) stays.table;
  units = units;
  idle = λ other apart there was. record {
    clean = beside_clean other old new (stays.others other apart there.least there.most) was.clean;
    waits = ap (wait_of other) stays.table ∙ wait_released other region old.table apart ∙ was.waits;
  };
}
  where
    law : BesideLaw region old new
    law other apart there job given unit servable ahead =
        committed_law job given other region old new unit there.least positive apart dbds ahead servable rows_old rows_new there.most stays

    units : (other : ℕ) → (other ≡ region → ⊥) → IsRegionOf old other → (job : Job) (given : Given) (unit : Option RunState)
        → IsServable job.system.databases job.pcbs job.lines → IsRegionUnit job given other old unit → IsRegionUnit job given other new unit
    units other apart there job given None servable was = beside_clean other old new (stays.others other apart there.least there.most) was
    units other apart there job given (Some unit) servable was = law other apart there job given unit servable was

pub are_beside : (system : System) (region : ℕ) (old new : DatabasesState) → AreDatabases system old → IsKeptBeside region old new → dbds_of new ≡ dbds_of old
    → AreRowsOf (dbds_of new) (committed_rows new) → AreDatabases system new
are_beside system region old new are beside dbds rows = record {
  stores = dbds ∙ are.stores;
  rows = rows;
  regions = beside.count ∙ are.regions;
  table = beside.regions ∙ are.table;
}

-- what is committed stays
pub rows_stay : (old new : DatabasesState) → new.committed ≡ old.committed → dbds_of new ≡ dbds_of old → AreRowsOf (dbds_of old) (committed_rows old) → AreRowsOf (dbds_of new) (committed_rows new)
rows_stay old new committed dbds rows =
    subst (λ ds. AreRowsOf ds (committed_rows new)) (sym dbds) (subst (λ c. AreRowsOf (dbds_of old) (rows_of_stores c)) (sym committed) rows)

-- ---- jobs
program_holds : (P : SystemProgram → Type 0) (p : SystemProgram → Bool) (programs : List SystemProgram) → All P programs → (found : SystemProgram) → find p programs ≡ Some found → P found
program_holds P p [] h found e = cc
program_holds P p (program ∷ programs) h found e =
    by (p program) e (All-head P program programs h) (λ f. program_holds P p programs (All-tail P program programs h) found f)
  where
    by : (b : Bool) → (if b then Some program else find p programs) ≡ Some found → P program → (find p programs ≡ Some found → P found) → P found
    by true f here rest = let same : program ≡ found = cc in subst P same here
    by false f here rest = rest f

-- the job of a code can be served
pub job_servable : (system : System) (code : List ℕ) (job : Job) → IsSystem system → job_of system code ≡ Some job → IsServable job.system.databases job.pcbs job.lines
job_servable system code job valid e = by (code_at system.codes code) e
  where
    by_program : (c : Code) (program : Option SystemProgram) → program_at system.programs c.psb ≡ program → option_map (job_with system c) program ≡ Some job
        → IsServable job.system.databases job.pcbs job.lines
    by_program c None f g = cc
    by_program c (Some program) f g =
        let same : job_with system c program ≡ job = cc in
        subst (λ (j : Job). IsServable j.system.databases j.pcbs j.lines) same
        (program_holds (λ (p : SystemProgram). IsServable system.databases p.pcbs p.program) (λ (p : SystemProgram). bytes_eq p.psb c.psb) system.programs valid.programs program f)

    by : (c : Option Code) → option_and_then (job_by system) c ≡ Some job → IsServable job.system.databases job.pcbs job.lines
    by None f = cc
    by (Some c) f = by_program c (program_at system.programs c.psb) refl f

-- ---- the regions of a control region
within : (regions : List (Option Busy)) (place : ℕ) (r : Option Busy) → slice_get regions place ≡ Some r → place < length regions
within [] place r e = cc
within (x ∷ regions) zero r e = omega arith
within (x ∷ regions) (suc place) r e = let rest = within regions place r e in omega (arith, rest)

set_none : (regions : List (Option Busy)) (place other : ℕ) (new : Option Busy)
    → slice_get (slice_set regions place new) other ≡ Some None → ((place ≡ other) × (new ≡ None)) ⊎ ((place ≡ other → ⊥) × (slice_get regions other ≡ Some None))
set_none [] place other new e = cc
set_none (r ∷ regions) zero zero new e = let here : new ≡ None = cc in inl (refl, here)
set_none (r ∷ regions) zero (suc other) new e = inr (λ h. cc, e)
set_none (r ∷ regions) (suc place) zero new e = inr (λ h. cc, e)
set_none (r ∷ regions) (suc place) (suc other) new e =
    ⊎_elim (λ h. inl (ap suc h.0, h.1)) (λ h. inr (λ s. h.0 (pred-same s), h.1)) (set_none regions place other new e)
  where
    pred-same : suc place ≡ suc other → place ≡ other
    pred-same s = omega (arith, s)

module _ (system : System) (valid : IsSystem system) (old new : DatabasesState) (regions : List (Option Busy)) (region : ℕ) (beside : IsKeptBeside region old new)
    (count : length old.regions ≡ length regions) (positive : 1 ≤ region) where
  apart_from : (other : ℕ) → (region - 1 ≡ other → ⊥) → other + 1 ≡ region → ⊥
  apart_from other apart e = apart (omega (arith, positive, e))

  there_for : (other : ℕ) (r : Option Busy) → slice_get regions other ≡ Some r → IsRegionOf old (other + 1)
  there_for other r e = let below = within regions other r e in record { least = omega arith; most = omega (arith, below, count) }

  pub stay_at_work : StayAtWork system old new regions (region - 1)
  stay_at_work other busy apart e given was = record {
    job = was.job;
    serves = was.serves;
    unit = beside.units (other + 1) (apart_from other apart) (there_for other (Some busy) e) was.job given busy.unit (job_servable system busy.code was.job valid was.serves) was.unit;
  }

  idle_there : (other : ℕ) → (region - 1 ≡ other → ⊥) → slice_get regions other ≡ Some None → AreIdle old regions → IsIdle (other + 1) new
  idle_there other apart e idle = beside.idle (other + 1) (apart_from other apart) (there_for other None e) (idle other e)

  -- a region works on, or has ended its work
  pub idle_at_work : (busy : Busy) → AreIdle old regions → AreIdle new (slice_set regions (region - 1) (Some busy))
  idle_at_work busy idle other e =
      ⊎_elim (λ h. absurd (some-none h.1)) (λ h. idle_there other h.0 h.1 idle) (set_none regions (region - 1) other (Some busy) e)
    where
      some-none : Some busy ≡ None → ⊥
      some-none h = cc

  pub idle_ended : IsIdle region new → AreIdle old regions → AreIdle new (slice_set regions (region - 1) None)
  idle_ended own idle other e =
      ⊎_elim (λ h. subst (λ n. IsIdle n new) (here h.0) own) (λ h. idle_there other h.0 h.1 idle) (set_none regions (region - 1) other None e)
    where
      here : region - 1 ≡ other → region ≡ other + 1
      here h = omega (arith, positive, h)

-- a region that begins to work leaves the others idle
pub idle_taken : (databases : DatabasesState) (regions : List (Option Busy)) (place : ℕ) (busy : Busy) → AreIdle databases regions → AreIdle databases (slice_set regions place (Some busy))
idle_taken databases regions place busy idle other e =
    ⊎_elim (λ h. absurd (some-none h.1)) (λ h. idle other h.1) (set_none regions place other (Some busy) e)
  where
    some-none : Some busy ≡ None → ⊥
    some-none h = cc

-- ---- the region itself
-- a region whose changes are committed is idle, and so is one that has given all up
pub idle_committed : (region : ℕ) (old new : DatabasesState) → IsCommitted region old new → IsIdle region new
idle_committed region old new stays = record {
  clean = record { sees = ap (λ r. r.rows) stays.own; changed = ap (λ r. r.changed) stays.own };
  waits = ap (wait_of region) stays.table ∙ wait_ended region old.table;
}

pub idle_given_up : (region : ℕ) (old new : DatabasesState) → IsRegionOf old region → IsGivenUp region old new → IsIdle region new
idle_given_up region old new there back = record {
  clean = record { sees = ap (λ r. r.rows) own ∙ sym (ap rows_of_stores back.committed); changed = ap (λ r. r.changed) own };
  waits = ap (wait_of region) back.table ∙ wait_ended region old.table;
}
  where
    within : region - 1 < length old.regions
    within = omega (arith, there.least, there.most)

    own : region_at region new ≡ clean_region (committed_rows old)
    own = ap (λ (rs : List RegionRows). get_or rs (region - 1) no_rows) back.regions
        ∙ get_or-set_same old.regions (region - 1) (clean_region (committed_rows old)) no_rows within
