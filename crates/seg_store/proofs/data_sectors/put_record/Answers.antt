use Rattle.std.proofs.Common.{◌≡◌, ◌+◌, sym, ◌∙◌, ap, subst, arith, IsTrue}
use Rattle.tm_disk.specs.Disk.{HasWritten}
use Rattle.tm_disk.proofs.Words.{stays_on}
use Rattle.seg_store.specs.DataSectors.{data_sector, pieces_from}
use Rattle.seg_store.proofs.Putting.{at_ok, put_follows, put_within}
use Rattle.seg_store.proofs.Pieces.{piece_at, piece_short, given_here, has_here, front_here}
use Rattle.seg_store.proofs.data_sectors.put_record.Goals as goal

pub seal_bytes-sector-requires : goal.seal_bytes-sector-requires
seal_bytes-sector-requires g c = piece_short c.loop-place.place c.args.bytes.now c.piece_at.result.now c.piece_at.ensures

pub returns-then-is_err-clause-any_moment : goal.returns-then-is_err-clause-any_moment
returns-then-is_err-clause-any_moment g c =
    let k = c.loop-place.place in
    let p = c.args.at + c.from.result in
    let sealed : c.seal_bytes-sector.result ≡ data_sector (piece_at k c.args.bytes.now) = c.seal_bytes-sector.ensures ∙ ap data_sector c.piece_at.ensures in
    let given = given_here c.args.sectors c.args.at c.args.bytes.now k p c.seal_bytes-sector.result c.loop-place-test.true (omega (arith, c.from.ensures)) sealed in
    put_within c.args.at (pieces_from c.args.sectors 0 c.args.bytes.now) p c.seal_bytes-sector.result given
    (g.D.Disk.state c.args.disk.now) (g.D.Disk.state c.loop-place.disk) (g.D.Disk.state c.write.new.self)
    c.loop-place.invariant.within c.loop-place.invariant.follows c.write.ensures.tried.elapses c.write.ensures.tried.follows

pub returns-then-is_err-clause-follows : goal.returns-then-is_err-clause-follows
returns-then-is_err-clause-follows g c =
    let k = c.loop-place.place in
    let p = c.args.at + c.from.result in
    let sealed : c.seal_bytes-sector.result ≡ data_sector (piece_at k c.args.bytes.now) = c.seal_bytes-sector.ensures ∙ ap data_sector c.piece_at.ensures in
    let given = given_here c.args.sectors c.args.at c.args.bytes.now k p c.seal_bytes-sector.result c.loop-place-test.true (omega (arith, c.from.ensures)) sealed in
    put_follows c.args.at (pieces_from c.args.sectors 0 c.args.bytes.now) p c.seal_bytes-sector.result given
    (g.D.Disk.state c.args.disk.now) (g.D.Disk.state c.loop-place.disk) (g.D.Disk.state c.write.new.self)
    c.loop-place.invariant.follows c.write.ensures.tried.follows

pub returns-then-is_err-clause-ascending : goal.returns-then-is_err-clause-ascending
returns-then-is_err-clause-ascending g c =
    let old = g.D.Disk.state c.args.disk.now in
    let mid = g.D.Disk.state c.loop-place.disk in
    let new = g.D.Disk.state c.write.new.self in
    let k = c.loop-place.place in
    let p = c.args.at + c.from.result in
    let sealed : c.seal_bytes-sector.result ≡ data_sector (piece_at k c.args.bytes.now) = c.seal_bytes-sector.ensures ∙ ap data_sector c.piece_at.ensures in
    let stays = c.loop-place.invariant.stays in
    let disk = g.met.D.Disk.is_disk c.loop-place.disk in
    λ tells.
    front_here c.args.sectors c.args.at c.args.bytes.now k p c.seal_bytes-sector.result c.loop-place-test.true (omega (arith, c.from.ensures)) sealed
    old.shown mid.shown new.shown
    (omega (arith, disk.shown_size, stays.size, c.requires.area, c.from.ensures, c.loop-place-test.true))
    (c.loop-place.invariant.shown tells) (c.write.ensures.tried.shown (subst (λ b. IsTrue b) (sym stays.tells) tells))

pub loop-place-preserved : goal.loop-place-preserved
loop-place-preserved g c =
    let old = g.D.Disk.state c.args.disk.now in
    let mid = g.D.Disk.state c.loop-place.disk in
    let new = g.D.Disk.state c.write.new.self in
    let k = c.loop-place.place in
    let p = c.args.at + c.from.result in
    let pieces = pieces_from c.args.sectors 0 c.args.bytes.now in
    let sealed : c.seal_bytes-sector.result ≡ data_sector (piece_at k c.args.bytes.now) = c.seal_bytes-sector.ensures ∙ ap data_sector c.piece_at.ensures in
    let given = given_here c.args.sectors c.args.at c.args.bytes.now k p c.seal_bytes-sector.result c.loop-place-test.true (omega (arith, c.from.ensures)) sealed in
    let stays = c.loop-place.invariant.stays in
    let disk = g.met.D.Disk.is_disk c.loop-place.disk in
    let done = at_ok c.write.result (HasWritten p c.seal_bytes-sector.result mid new) (sym c.if-is_err.ensures.value) c.write.ensures.done in
    record {
      stays = stays_on old mid new stays c.write.ensures.tried.stays;
      within = put_within c.args.at pieces p c.seal_bytes-sector.result given old mid new c.loop-place.invariant.within c.loop-place.invariant.follows c.write.ensures.tried.elapses c.write.ensures.tried.follows;
      follows = put_follows c.args.at pieces p c.seal_bytes-sector.result given old mid new c.loop-place.invariant.follows c.write.ensures.tried.follows;
      shown = λ tells.
          has_here c.args.sectors c.args.at c.args.bytes.now k p c.seal_bytes-sector.result c.loop-place-test.true (omega (arith, c.from.ensures)) sealed
          old.shown mid.shown new.shown
          (omega (arith, disk.shown_size, stays.size, c.requires.area, c.from.ensures, c.loop-place-test.true))
          (c.loop-place.invariant.shown tells) (done.shown (subst (λ b. IsTrue b) (sym stays.tells) tells));
      faults = at_ok c.write.result (new.faults ≡ mid.faults) (sym c.if-is_err.ensures.value) c.write.ensures.no_fault ∙ c.loop-place.invariant.faults;
      writes = omega (arith, c.loop-place.invariant.writes, c.write.ensures.tried.writes);
    }
