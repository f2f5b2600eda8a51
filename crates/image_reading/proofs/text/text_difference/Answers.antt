use Rattle.std.proofs.Common.{◌≡◌, ◌+◌, drop, sym, ◌∙◌, ap, subst, arith, IsTrue}
use Rattle.tm_disk.specs.Disk.{Image, sector_at}
use Rattle.tm_disk.proofs.Words.{keeps_on}
use Rattle.model_image.specs.Text.{text_in, first_difference}
use Rattle.image_reading.proofs.Differing.{moved}
use Rattle.image_reading.proofs.Pieces.{left_at, reaches, goes_on, stops, text_ends, text_goes_on}
use Rattle.image_reading.proofs.text.text_difference.Goals as goal
use Rattle.tm_disk.proofs.States.{at_ok}

pub returns-then-is_some-clause-value : goal.returns-then-is_some-clause-value
returns-then-is_some-clause-value g c tells =
    let old = g.D.Disk.state c.args.disk.now in
    let mid = g.D.Disk.state c.loop-same.disk in
    let inv = c.loop-same.invariant in
    let at = c.loop-same.at in
    let value = at_ok c.read.result (IsTrue mid.tells → c.read.new.into ≡ sector_at mid.shown at) (sym c.if-is_err.ensures.value) c.read.ensures.value in
    let sector : c.read.new.into ≡ sector_at old.shown at = value (subst (λ b. IsTrue b) (sym inv.keeps.stays.tells) tells) ∙ ap (λ (i : Image). sector_at i at) inv.keeps.shown in
    stops c.args.text.now c.args.size c.loop-same.same c.read.new.into c.difference_in-found.ensures.size c.difference_in-found.result c.difference_in-found.ensures.value old.shown at sector
    (omega (arith, c.loop-same-test.true, inv.place, inv.begun, c.requires.short)) (first_difference c.args.text.now (text_in old.shown c.args.size)) (inv.value tells) (sym c.if-is_some.ensures)

pub loop-same-preserved : goal.loop-same-preserved
loop-same-preserved g c =
    let old = g.D.Disk.state c.args.disk.now in
    let mid = g.D.Disk.state c.loop-same.disk in
    let new = g.D.Disk.state c.read.new.self in
    let inv = c.loop-same.invariant in
    let text = c.args.text.now in
    let size = c.args.size in
    let at = c.loop-same.at in
    let same = c.loop-same.same in
    let found = c.difference_in-found.result in
    let is = c.difference_in-found.ensures.value in
    let none = sym c.if-is_some.ensures in
    record {
      keeps = keeps_on old mid new (g.met.D.Disk.is_disk c.args.disk.now) inv.keeps c.read.ensures.keeps;
      faults = at_ok c.read.result (new.faults ≡ mid.faults) (sym c.if-is_err.ensures.value) c.read.ensures.no_fault ∙ inv.faults;
      begun = omega (arith, inv.begun);
      place = omega (arith, c.min-same.ensures, inv.place, inv.begun, c.loop-same-test.true);
      long = omega (arith, c.min-same.ensures, reaches text size same c.read.new.into c.difference_in-found.ensures.size found is inv.long none);
      value = λ tells.
          let value = at_ok c.read.result (IsTrue mid.tells → c.read.new.into ≡ sector_at mid.shown at) (sym c.if-is_err.ensures.value) c.read.ensures.value in
          let sector : c.read.new.into ≡ sector_at old.shown at = value (subst (λ b. IsTrue b) (sym inv.keeps.stays.tells) tells) ∙ ap (λ (i : Image). sector_at i at) inv.keeps.shown in
          let whole = first_difference text (text_in old.shown size) in
          subst (λ n. whole ≡ moved (same + n) (first_difference (drop (same + n) text) (left_at old.shown size (at + 1) (same + n)))) (sym c.min-same.ensures)
          (goes_on text size same c.read.new.into c.difference_in-found.ensures.size found is old.shown at sector
          (omega (arith, c.loop-same-test.true, inv.place, inv.begun, c.requires.short)) whole (inv.value tells) none);
    }

pub returns-then-text-same-clause-value : goal.returns-then-text-same-clause-value
returns-then-text-same-clause-value g c tells =
    let old = g.D.Disk.state c.args.disk.now in
    text_goes_on old.shown c.args.text.now c.args.size c.loop-same.at c.loop-same.same (omega (arith, c.loop-same-test.false)) (first_difference c.args.text.now (text_in old.shown c.args.size)) (c.loop-same.invariant.value tells)
    (omega (arith, c.if-text-same.true))

pub returns-clause-value : goal.returns-clause-value
returns-clause-value g c tells =
    let old = g.D.Disk.state c.args.disk.now in
    text_ends old.shown c.args.text.now c.args.size c.loop-same.at c.loop-same.same (omega (arith, c.loop-same-test.false)) (first_difference c.args.text.now (text_in old.shown c.args.size)) (c.loop-same.invariant.value tells)
    (omega (arith, c.if-text-same.false))
