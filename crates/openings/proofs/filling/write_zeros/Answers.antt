use Rattle.std.proofs.Common.{◌≡◌, ◌+◌, List, ℕ, refl, sym, ◌∙◌, subst, arith, IsTrue}
use Rattle.tm_disk.specs.Disk.{HasWritten}
use Rattle.tm_disk.specs.Sector.{blank}
use Rattle.tm_disk.proofs.Words.{stays_on}
use Rattle.restart_data.proofs.Laying.{changes_follows, changes_within}
use Rattle.openings.proofs.Laying.{fills_step}
use Rattle.openings.proofs.filling.write_zeros.Goals as goal
use Rattle.tm_disk.proofs.States.{at_ok}

pub loop-place-preserved : goal.loop-place-preserved
loop-place-preserved g c =
    let old = g.D.Disk.state c.args.disk.now in
    let mid = g.D.Disk.state c.loop-place.disk in
    let new = g.D.Disk.state c.write.new.self in
    let n = c.loop-place.place in
    let first = c.args.first in
    let count = c.args.count in
    let sector = c.blank-zeros.result in
    let stays = c.loop-place.invariant.stays in
    let disk = g.met.D.Disk.is_disk c.loop-place.disk in
    let done = at_ok c.write.result (HasWritten (first + n) sector mid new) (sym c.if-is_err.ensures.value) c.write.ensures.done in
    let each : ℕ → List ℕ = λ x. blank in
    record {
      stays = stays_on old mid new stays c.write.ensures.tried.stays;
      within = changes_within first count (first + n) sector old mid new (omega arith) (omega (arith, c.loop-place-test.true)) c.loop-place.invariant.within c.loop-place.invariant.follows c.write.ensures.tried.elapses c.write.ensures.tried.follows;
      follows = changes_follows first count (first + n) sector old mid new (omega arith) (omega (arith, c.loop-place-test.true)) c.loop-place.invariant.follows c.write.ensures.tried.follows;
      shown = λ tells.
          fills_step each first n (first + n) old.shown mid.shown new.shown sector refl
          (omega (arith, disk.shown_size, stays.size, c.requires.within, c.loop-place-test.true))
          c.blank-zeros.ensures (c.loop-place.invariant.shown tells) (done.shown (subst (λ b. IsTrue b) (sym stays.tells) tells));
      faults = at_ok c.write.result (new.faults ≡ mid.faults) (sym c.if-is_err.ensures.value) c.write.ensures.no_fault ∙ c.loop-place.invariant.faults;
      writes = omega (arith, c.loop-place.invariant.writes, c.write.ensures.tried.writes);
    }
