use Rattle.std.proofs.Common.{◌≡◌, ◌+◌, refl, sym, ◌∙◌, ap, subst, arith, IsTrue, Some}
use Rattle.tm_disk.specs.Disk.{sector_at}
use Rattle.tm_disk.proofs.Words.{keeps_on}
use Rattle.seg_store.proofs.Putting.{at_ok}
use Rattle.image_loading.proofs.SectorsRead.{sector_wrong, sector_read, right_short, bytes_short}
use Rattle.image_loading.proofs.reading.read_sectors.Goals as goal

pub returns-in_default-clause-value : goal.returns-in_default-clause-value
returns-in_default-clause-value g c tells =
    let old = g.D.Disk.state c.args.disk.now in
    let mid = g.D.Disk.state c.loop-index.disk in
    let inv = c.loop-index.invariant in
    let read = at_ok c.read.result (IsTrue mid.tells → c.read.new.into ≡ sector_at mid.shown (c.args.at + c.from.result)) (sym c.if-is_err.ensures.value) c.read.ensures.value in
    let sector : c.read.new.into ≡ sector_at old.shown (c.args.at + c.loop-index.index) =
    read (subst (λ b. IsTrue b) (sym inv.keeps.stays.tells) tells) ∙ (λ i. sector_at (inv.keeps.shown i) (c.args.at + c.from.ensures i)) in (
      sector_wrong old.shown c.args.at c.args.sectors c.loop-index.index c.loop-index-test.true c.loop-index.full c.loop-index.spelled c.read.new.into (inv.read tells) sector c.in_default.ensures
          ∙ ap (λ n. Some (c.args.at + n)) (sym c.from.ensures),
      refl,
    )

pub loop-index-preserved : goal.loop-index-preserved
loop-index-preserved g c =
    let old = g.D.Disk.state c.args.disk.now in
    let mid = g.D.Disk.state c.loop-index.disk in
    let new = g.D.Disk.state c.read.new.self in
    let inv = c.loop-index.invariant in
    let read = at_ok c.read.result (IsTrue mid.tells → c.read.new.into ≡ sector_at mid.shown (c.args.at + c.from.result)) (sym c.if-is_err.ensures.value) c.read.ensures.value in
    let right = c.in-Some.ensures.2 in
    record {
      keeps = keeps_on old mid new (g.met.D.Disk.is_disk c.args.disk.now) inv.keeps c.read.ensures.keeps;
      until_stop = c.read.ensures.until_stop ∙ inv.until_stop;
      faults = at_ok c.read.result (new.faults ≡ mid.faults) (sym c.if-is_err.ensures.value) c.read.ensures.no_fault ∙ inv.faults;
      short = bytes_short c.loop-index.spelled c.in-Some.bytes.now c.push.new.self c.loop-index.index c.push.ensures (omega (arith, c.in-Some.ensures.1, right_short c.loop-index.full c.read.new.into right)) inv.short;
      read = λ tells.
          sector_read old.shown c.args.at c.args.sectors c.loop-index.index c.loop-index-test.true c.loop-index.full c.are_full-full.result c.loop-index.spelled c.push.new.self c.read.new.into c.in-Some.bytes.now (inv.read tells)
          (read (subst (λ b. IsTrue b) (sym inv.keeps.stays.tells) tells) ∙ (λ i. sector_at (inv.keeps.shown i) (c.args.at + c.from.ensures i)))
          right c.in-Some.ensures.0 c.in-Some.ensures.1 c.are_full-full.ensures c.push.ensures;
    }
