use Rattle.std.proofs.Common.{◌≡◌, ℕ, ◌+◌, ◌≤◌, List, length, refl, ap, sym, subst, ◌∙◌, arith, IsTrue}
use Rattle.tm_disk.specs.Disk.{HasWritten}
use Rattle.tm_disk.proofs.Words.{stays_on}
use Rattle.tm_disk.proofs.States.{at_ok}
use Rattle.restart_data.specs.Snapshot.{snapshot_sectors_of, snapshot_sector}
use Rattle.restart_data.proofs.Laying.{HoldsFront, saves, holds_step, changes_follows, changes_within}
use Rattle.restart_data.proofs.snapshot.write_snapshot.Goals as goal

pub returns-clause-shown : goal.returns-clause-shown
returns-clause-shown g c tells =
    let old = g.D.Disk.state c.args.disk.now in
    let new = g.D.Disk.state c.loop-place.disk in
    let bytes = c.args.bytes.now in
    let all : c.loop-place.place ≡ snapshot_sectors_of (length bytes) = omega arith in
    saves c.args.first c.args.number bytes old.shown new.shown (omega arith) (omega arith)
    (subst (λ n. HoldsFront c.args.first c.args.number bytes n old.shown new.shown) all (c.loop-place.invariant.shown tells))

pub loop-place-preserved : goal.loop-place-preserved
loop-place-preserved g c =
    let old = g.D.Disk.state c.args.disk.now in
    let mid = g.D.Disk.state c.loop-place.disk in
    let new = g.D.Disk.state c.write.new.self in
    let first = c.args.first in
    let count = snapshot_sectors_of (length c.args.bytes.now) in
    let i = c.loop-place.place in
    let inv = c.loop-place.invariant in
    let sector = c.seal-sector.result in
    let within : i + 1 ≤ count = omega arith in
    let disk = g.met.D.Disk.is_disk c.loop-place.disk in
    let done = at_ok c.write.result (HasWritten (first + i) sector mid new) (sym c.if-is_err.ensures.value) c.write.ensures.done in
    record {
      stays = stays_on old mid new inv.stays c.write.ensures.tried.stays;
      within = changes_within first count (first + i) sector old mid new (omega arith) (omega (arith, within)) inv.within inv.follows c.write.ensures.tried.elapses c.write.ensures.tried.follows;
      follows = changes_follows first count (first + i) sector old mid new (omega arith) (omega (arith, within)) inv.follows c.write.ensures.tried.follows;
      shown = λ tells.
          holds_step first c.args.number c.args.bytes.now i (first + i) old.shown mid.shown new.shown sector refl
          (omega (arith, disk.shown_size, inv.stays.size, c.requires.within, c.requires.fits, within)) (c.seal-sector.ensures ∙ ap (λ (b : List ℕ). snapshot_sector c.args.number i b) c.piece.ensures.value)
          (inv.shown tells) (done.shown (subst (λ b. IsTrue b) (sym inv.stays.tells) tells));
      faults = at_ok c.write.result (new.faults ≡ mid.faults) (sym c.if-is_err.ensures.value) c.write.ensures.no_fault ∙ inv.faults;
      writes = omega (arith, inv.writes, c.write.ensures.tried.writes);
    }
