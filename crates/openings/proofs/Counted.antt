-- What an image counts on behind an opening.
use Rattle.std.proofs.Common.{ℕ, ◌+◌, ◌≤◌, List, [], refl, sym, subst, arith}
use Rattle.tm_disk.specs.Disk.{Image}
use Rattle.model_system.specs.System.{System}
use Rattle.model_machine.specs.Machine.{LastingState}
use Rattle.restart_data.specs.declared.restart.RestartSector.{RestartSector}
use Rattle.restart_data.specs.Restart.{IsRestart}
use Rattle.checkpointing.specs.SnapshotRecords.{snapshot_records}
use Rattle.checkpointing.specs.Counts.{CountsUpTo, RaisesCounts}
use Rattle.checkpointing.proofs.Counted.{begun_up_to}
use Rattle.openings.specs.OpeningParts.{OpeningParts}
use Rattle.openings.specs.OpenedImage.{IsReopened}
use Rattle.openings.specs.Renewal.{IsRenewed}

-- A life that begins counts as its restart sector and its next unit say.
pub renewed_up_to : (system : System) (text : List ℕ) (now : RestartSector) (unit : ℕ) (state : LastingState) (image : Image) → IsRenewed system text now unit state image → IsRestart now
    → (high : ℕ) → now.epoch ≤ high → now.sequence ≤ high → now.checkpoint ≤ high → unit ≤ high → 1 ≤ high → CountsUpTo system high image
renewed_up_to system text now unit state image is range =
    begun_up_to system image now is.none_ahead range (snapshot_records now.checkpoint unit state []) unit is.has_snapshot refl is.restart

-- An image that is opened counts further by one at most.
pub reopened_raises : (system : System) (text : List ℕ) (parts : OpeningParts) (state : LastingState) (before after : Image)
    → IsReopened system text before parts state → IsRenewed system text parts.now parts.next_unit state after → IsRestart parts.now → RaisesCounts 1 system before after
reopened_raises system text parts state before after reopened is range high counts =
    let c = counts reopened.restart reopened.found.has_restart in
    let unit : parts.next_unit ≤ high = subst (λ (n : ℕ). n ≤ high) (sym reopened.found.next) (c.unit reopened.found.snapshot reopened.found.has_snapshot) in
    renewed_up_to system text parts.now parts.next_unit state after is range (high + 1)
    (omega (arith, c.epoch, reopened.next.epoch)) (omega (arith, c.sequence, reopened.next.sequence)) (omega (arith, c.checkpoint, reopened.next.checkpoint)) (omega (arith, unit)) (omega arith)
