use Rattle.std.proofs.Common.{length, sym, subst}
use Rattle.tm_disk.specs.Disk.{Within, Follows}
use Rattle.tm_disk.proofs.Words.{stays_on}
use Rattle.restart_data.specs.Snapshot as snapshot
use Rattle.log_writer.specs.ForcedLog.{AddsAll}
use Rattle.checkpointing.specs.CheckpointParts.{checkpoint_parts_of}
use Rattle.seg_store.specs.DataSectors.{MayPut, HasPut}
use Rattle.seg_store.specs.WrittenSlots.{changed_bytes}
use Rattle.model_system.specs.Areas.{data_first}
use Rattle.checkpointing.proofs.Preparing.{sectors_fit, within_slots, follows_slots, within_snapshot}
use Rattle.checkpointing.proofs.steps.prepare.Goals as goal
use Rattle.tm_disk.proofs.States.{at_ok}

pub returns-then-is_err-2-clause-any_moment : goal.returns-then-is_err-2-clause-any_moment
returns-then-is_err-2-clause-any_moment g c =
    let old = g.D.Disk.state c.args.disk.now in
    let mid = g.D.Disk.state c.force.new.disk in
    let new = g.D.Disk.state c.write_slots.new.disk in
    let forced : Follows (AddsAll c.args.log.now) old mid = at_ok c.force.result (Follows (AddsAll c.args.log.now) old mid) (sym c.if-is_err.ensures.value) c.force.ensures.done in
    within_slots (checkpoint_parts_of c.args.parts.now) c.args.log.now c.args.stores.now c.requires.stores old mid new c.force.ensures.any_moment forced (subst (λ f. Within (MayPut f (changed_bytes c.args.stores.now)) mid new) c.requires.first c.write_slots.ensures.any_moment)

pub returns-clause-any_moment : goal.returns-clause-any_moment
returns-clause-any_moment g c =
    let parts = checkpoint_parts_of c.args.parts.now in
    let old = g.D.Disk.state c.args.disk.now in
    let mid = g.D.Disk.state c.force.new.disk in
    let next = g.D.Disk.state c.write_slots.new.disk in
    let new = g.D.Disk.state c.save_snapshot.new.disk in
    let forced : Follows (AddsAll c.args.log.now) old mid = at_ok c.force.result (Follows (AddsAll c.args.log.now) old mid) (sym c.if-is_err.ensures.value) c.force.ensures.done in
    let holds : Follows (HasPut (data_first parts.system 0) (changed_bytes c.args.stores.now)) mid next = subst (λ f. Follows (HasPut f (changed_bytes c.args.stores.now)) mid next) c.requires.first
    (at_ok c.write_slots.result (Follows (HasPut c.args.first (changed_bytes c.args.stores.now)) mid next) (sym c.if-is_err-2.ensures.value) c.write_slots.ensures.done) in
    within_snapshot parts c.args.log.now c.args.stores.now c.requires.stores (snapshot.snapshot_sectors_of (length parts.snapshot)) old next new
    (sectors_fit (length parts.snapshot) parts.snapshot_sectors c.requires.fits)
    (within_slots parts c.args.log.now c.args.stores.now c.requires.stores old mid next c.force.ensures.any_moment forced (subst (λ f. Within (MayPut f (changed_bytes c.args.stores.now)) mid next) c.requires.first c.write_slots.ensures.any_moment))
    (follows_slots parts c.args.log.now c.args.stores.now c.requires.stores old mid next forced holds)
    c.save_snapshot.ensures.any_moment

pub returns-clause-stays : goal.returns-clause-stays
returns-clause-stays g c =
    let old = g.D.Disk.state c.args.disk.now in
    let mid = g.D.Disk.state c.force.new.disk in
    let next = g.D.Disk.state c.write_slots.new.disk in
    let new = g.D.Disk.state c.save_snapshot.new.disk in
    stays_on old mid new c.force.ensures.stays (stays_on mid next new c.write_slots.ensures.stays c.save_snapshot.ensures.stays)
