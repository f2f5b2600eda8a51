use Rattle.std.proofs.Common.{◌≡◌, ℕ, ◌+◌, List, length, refl, inl, sym, ◌∙◌, ap, subst, arith, IsTrue}
use Rattle.tm_disk.specs.Disk.{HasWritten}
use Rattle.tm_disk.proofs.Words.{stays_on, stays_same, within_same, follows_same}
use Rattle.log_sectors.specs.SealedSector.{sealed}
use Rattle.log_writer.specs.ForcedLog.{log_sectors_of, log_pieces, log_piece, Lays}
use Rattle.log_writer.proofs.Laying.{has_laid_step}
use Rattle.log_writer.proofs.Calls.{lays_follows, lays_within}
use Rattle.log_writer.proofs.lay.lay.Goals as goal
use Rattle.tm_disk.proofs.States.{at_ok}

pub returns-then-is_err-clause-any_moment : goal.returns-then-is_err-clause-any_moment
returns-then-is_err-clause-any_moment g c =
    let old = g.D.Disk.state c.args.disk.now in
    let mid = g.D.Disk.state c.loop-place.disk in
    let new = g.D.Disk.state c.write.new.self in
    let count = log_sectors_of (length c.args.bytes.now) in
    let payloads = log_pieces count c.args.bytes.now in
    let is : c.sector.result.now ≡ sealed c.args.epoch (c.args.sequence + c.loop-place.place) (log_piece payloads c.loop-place.place) =
    c.sector.ensures ∙ c.seal.ensures ∙ ap (λ (p : List ℕ). sealed c.args.epoch (c.args.sequence + c.loop-place.place) p) c.piece-payload.ensures.value in
    lays_within c.args.at c.args.sequence c.args.epoch payloads c.loop-place.place count c.sector.result.now old mid new is (omega arith) c.loop-place.invariant.within c.loop-place.invariant.follows c.write.ensures.tried.elapses c.write.ensures.tried.follows

pub returns-then-is_err-clause-follows : goal.returns-then-is_err-clause-follows
returns-then-is_err-clause-follows g c =
    let old = g.D.Disk.state c.args.disk.now in
    let mid = g.D.Disk.state c.loop-place.disk in
    let new = g.D.Disk.state c.write.new.self in
    let count = log_sectors_of (length c.args.bytes.now) in
    let payloads = log_pieces count c.args.bytes.now in
    let is : c.sector.result.now ≡ sealed c.args.epoch (c.args.sequence + c.loop-place.place) (log_piece payloads c.loop-place.place) =
    c.sector.ensures ∙ c.seal.ensures ∙ ap (λ (p : List ℕ). sealed c.args.epoch (c.args.sequence + c.loop-place.place) p) c.piece-payload.ensures.value in
    lays_follows c.args.at c.args.sequence c.args.epoch payloads c.loop-place.place count c.sector.result.now old mid new is (omega arith) c.loop-place.invariant.follows c.write.ensures.tried.follows

pub loop-place-init : goal.loop-place-init
loop-place-init g c =
    let old = g.D.Disk.state c.args.disk.now in
    let payloads = log_pieces (log_sectors_of (length c.args.bytes.now)) c.args.bytes.now in
    let none = Lays c.args.at c.args.sequence c.args.epoch payloads 0 in
    record {
      stays = stays_same old;
      within = within_same none old;
      follows = follows_same none old (λ image. record { size = refl; below = λ k lt. refl; above = λ k le. refl; each = λ x lt. inl refl });
      shown = λ tells. record { size = refl; below = λ k lt. refl; above = λ k le. refl; each = λ x lt. absurd (omega (arith, lt)) };
      faults = refl;
      writes = omega arith;
    }

pub loop-place-preserved : goal.loop-place-preserved
loop-place-preserved g c =
    let old = g.D.Disk.state c.args.disk.now in
    let mid = g.D.Disk.state c.loop-place.disk in
    let new = g.D.Disk.state c.write.new.self in
    let n = c.loop-place.place in
    let count = log_sectors_of (length c.args.bytes.now) in
    let payloads = log_pieces count c.args.bytes.now in
    let is : c.sector.result.now ≡ sealed c.args.epoch (c.args.sequence + n) (log_piece payloads n) =
    c.sector.ensures ∙ c.seal.ensures ∙ ap (λ (p : List ℕ). sealed c.args.epoch (c.args.sequence + n) p) c.piece-payload.ensures.value in
    let stays = c.loop-place.invariant.stays in
    let disk = g.met.D.Disk.is_disk c.loop-place.disk in
    let done = at_ok c.write.result (HasWritten (c.args.at + n) c.sector.result.now mid new) (sym c.if-is_err.ensures.value) c.write.ensures.done in
    record {
      stays = stays_on old mid new stays c.write.ensures.tried.stays;
      within = lays_within c.args.at c.args.sequence c.args.epoch payloads n (n + 1) c.sector.result.now old mid new is (omega arith) c.loop-place.invariant.within c.loop-place.invariant.follows c.write.ensures.tried.elapses c.write.ensures.tried.follows;
      follows = lays_follows c.args.at c.args.sequence c.args.epoch payloads n (n + 1) c.sector.result.now old mid new is (omega arith) c.loop-place.invariant.follows c.write.ensures.tried.follows;
      shown = λ tells.
          has_laid_step c.args.at c.args.sequence c.args.epoch payloads n (c.args.at + n) old.shown mid.shown new.shown c.sector.result.now refl
          (omega (arith, disk.shown_size, stays.size, c.requires.within, c.loop-place-test.true, c.sectors_of-count.ensures))
          is (c.loop-place.invariant.shown tells) (done.shown (subst (λ b. IsTrue b) (sym stays.tells) tells));
      faults = at_ok c.write.result (new.faults ≡ mid.faults) (sym c.if-is_err.ensures.value) c.write.ensures.no_fault ∙ c.loop-place.invariant.faults;
      writes = omega (arith, c.loop-place.invariant.writes, c.write.ensures.tried.writes);
    }
