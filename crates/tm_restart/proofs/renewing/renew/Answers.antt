use Rattle.std.proofs.Common.{sym, length}
use Rattle.tm_disk.specs.Disk.{Follows}
use Rattle.model_system.specs.Areas.{snapshot_area}
use Rattle.restart_data.specs.WrittenSectors.{Restarts}
use Rattle.seg_store.proofs.Putting.{at_ok}
use Rattle.tm_restart.specs.LifeWrites.{WritesLifeSnapshot, IsRewritten}
use Rattle.tm_restart.proofs.Rewriting.{sectors_fit, renewed_within, renewed_follows, on_ok}
use Rattle.tm_restart.proofs.renewing.renew.Goals as goal

pub returns-clause-any_moment : goal.returns-clause-any_moment
returns-clause-any_moment g c =
    let system = c.args.system.now in
    let given = c.args.given.now in
    let bytes = c.args.bytes.now in
    let now = c.args.now.now in
    let old = g.D.Disk.state c.args.disk.now in
    let mid = g.D.Disk.state c.prepare.new.disk in
    let new = g.D.Disk.state c.write_restart.new.disk in
    renewed_within system given bytes now (sectors_fit (length bytes) (snapshot_area system) c.requires.fits) c.requires.now c.requires.sectors old (g.met.D.Disk.is_disk c.args.disk.now) c.requires.areas mid new c.prepare.ensures.any_moment
    (at_ok c.prepare.result (Follows (WritesLifeSnapshot system given bytes now) old mid) (sym c.if-is_err.ensures.value) c.prepare.ensures.done)
    c.write_restart.ensures.any_moment

pub returns-clause-done : goal.returns-clause-done
returns-clause-done g c =
    let system = c.args.system.now in
    let given = c.args.given.now in
    let bytes = c.args.bytes.now in
    let now = c.args.now.now in
    let old = g.D.Disk.state c.args.disk.now in
    let mid = g.D.Disk.state c.prepare.new.disk in
    let new = g.D.Disk.state c.write_restart.new.disk in
    on_ok c.write_restart.result (Follows (Restarts now) mid new) (Follows (IsRewritten system given bytes now) old new)
    (λ restarts. renewed_follows system given bytes now (sectors_fit (length bytes) (snapshot_area system) c.requires.fits) c.requires.now old mid new
    (at_ok c.prepare.result (Follows (WritesLifeSnapshot system given bytes now) old mid) (sym c.if-is_err.ensures.value) c.prepare.ensures.done) restarts)
    c.write_restart.ensures.done
