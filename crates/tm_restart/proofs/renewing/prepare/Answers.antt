use Rattle.std.proofs.Common.{sym, subst}
use Rattle.tm_disk.specs.Disk.{Within, Follows, ChangesOnly}
use Rattle.restart_data.specs.Snapshot.{snapshot_sectors_of}
use Rattle.model_system.specs.Areas.{snapshot_area}
use Rattle.seg_store.proofs.Putting.{at_ok}
use Rattle.tm_restart.specs.GivenSlots.{HasPutAll}
use Rattle.tm_restart.proofs.Rewriting.{sectors_fit, prepared_within}
use Rattle.tm_restart.proofs.renewing.prepare.Goals as goal

pub returns-in-Ok-clause-any_moment : goal.returns-in-Ok-clause-any_moment
returns-in-Ok-clause-any_moment g c =
    let system = c.args.system.now in
    let given = c.args.given.now in
    let bytes = c.args.bytes.now in
    let now = c.args.now.now in
    let old = g.D.Disk.state c.args.disk.now in
    let mid = g.D.Disk.state c.save_slots.new.disk in
    let new = g.D.Disk.state c.save_snapshot.new.disk in
    prepared_within system given bytes now old mid new (sectors_fit (Rattle.std.specs.Prelude.length bytes) (snapshot_area system) c.requires.fits) c.save_slots.ensures.any_moment
    (at_ok c.save_slots.result (Follows (HasPutAll system given) old mid) (sym c.if-is_err.ensures.value) c.save_slots.ensures.done)
    (subst (λ first. Within (ChangesOnly first (snapshot_sectors_of (Rattle.std.specs.Prelude.length bytes))) mid new) c.snapshot_first-first.ensures.value c.save_snapshot.ensures.any_moment)

pub returns-in-Err-clause-any_moment : goal.returns-in-Err-clause-any_moment
returns-in-Err-clause-any_moment g c =
    let system = c.args.system.now in
    let given = c.args.given.now in
    let bytes = c.args.bytes.now in
    let now = c.args.now.now in
    let old = g.D.Disk.state c.args.disk.now in
    let mid = g.D.Disk.state c.save_slots.new.disk in
    let new = g.D.Disk.state c.save_snapshot.new.disk in
    prepared_within system given bytes now old mid new (sectors_fit (Rattle.std.specs.Prelude.length bytes) (snapshot_area system) c.requires.fits) c.save_slots.ensures.any_moment
    (at_ok c.save_slots.result (Follows (HasPutAll system given) old mid) (sym c.if-is_err.ensures.value) c.save_slots.ensures.done)
    (subst (λ first. Within (ChangesOnly first (snapshot_sectors_of (Rattle.std.specs.Prelude.length bytes))) mid new) c.snapshot_first-first.ensures.value c.save_snapshot.ensures.any_moment)
