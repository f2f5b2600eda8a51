-- What a disk in memory counts, and when it fails.
use Rattle.std.specs.Prelude.{ℕ, None, Contains}
use Rattle.tm_disk.specs.Disk.{Cuts, one_less}
use Rattle.tm_disk.specs.Count.{raised}
use Rattle.tm_disk.specs.declared.plan.Plan.{Plan}

-- the call to come is listed
abbrev pub IsListed : Plan → Type 0
IsListed plan = Contains plan.fail_at.items (raised plan.calls)

-- how often it was cut, and with which pick at last
abbrev pub plan_cuts : Plan → Cuts
plan_cuts plan = record { count = plan.cuts; pick = plan.last_pick }

-- after a read or a sync began
abbrev pub plan_called : Plan → Plan
plan_called plan = record plan { calls = raised plan.calls }

-- after a write began, which counts towards the stop
abbrev pub told_to_write : Plan → Plan
told_to_write plan = record plan { calls = raised plan.calls; writes = raised plan.writes; until_stop = one_less plan.until_stop }

-- after a fault
abbrev pub faulted : Plan → Plan
faulted plan = record plan { faults = raised plan.faults }

-- after a write that met want of memory
abbrev pub starved : Plan → Plan
starved plan = record plan { faults = raised plan.faults; starved = raised plan.starved }

-- after a cut, which disarms it
abbrev pub cut_off : ℕ → Plan → Plan
cut_off pick plan = record plan { until_stop = None; cuts = raised plan.cuts; last_pick = pick }
