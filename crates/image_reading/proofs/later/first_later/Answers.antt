use Rattle.std.proofs.Common.{◌≡◌, ◌+◌, List, sym, ◌∙◌, ap, subst, IsTrue, true, false}
use Rattle.tm_disk.specs.Disk.{Image, sector_at}
use Rattle.tm_disk.proofs.Words.{keeps_on}
use Rattle.model_image.specs.RecoveredState.{is_later, first_later}
use Rattle.image_reading.proofs.Sectors.{later_next, later_here}
use Rattle.image_reading.proofs.later.first_later.Goals as goal
use Rattle.tm_disk.proofs.States.{at_ok}

pub returns-then-is_later-clause-value : goal.returns-then-is_later-clause-value
returns-then-is_later-clause-value g c tells =
    let old = g.D.Disk.state c.args.disk.now in
    let mid = g.D.Disk.state c.loop-place.disk in
    let keeps = c.loop-place.invariant.keeps in
    let at = c.args.first + c.loop-place.place in
    let value = at_ok c.read.result (IsTrue mid.tells → c.read.new.into ≡ sector_at mid.shown at) (sym c.if-is_err.ensures.value) c.read.ensures.value in
    let sector : c.read.new.into ≡ sector_at old.shown at = value (subst (λ b. IsTrue b) (sym keeps.stays.tells) tells) ∙ ap (λ (i : Image). sector_at i at) keeps.shown in
    let is : is_later c.args.epoch (sector_at old.shown at) ≡ true = ap (λ (s : List _). is_later c.args.epoch s) (sym sector) ∙ sym c.if-is_later.ensures in
    sym (later_here c.args.count c.loop-place.place old.shown c.args.first c.args.epoch (first_later c.args.count old.shown c.args.first c.args.epoch) c.loop-place-test.true (c.loop-place.invariant.later tells) is)

pub loop-place-preserved : goal.loop-place-preserved
loop-place-preserved g c =
    let old = g.D.Disk.state c.args.disk.now in
    let mid = g.D.Disk.state c.loop-place.disk in
    let new = g.D.Disk.state c.read.new.self in
    let keeps = c.loop-place.invariant.keeps in
    let at = c.args.first + c.loop-place.place in
    record {
      keeps = keeps_on old mid new (g.met.D.Disk.is_disk c.args.disk.now) keeps c.read.ensures.keeps;
      faults = at_ok c.read.result (new.faults ≡ mid.faults) (sym c.if-is_err.ensures.value) c.read.ensures.no_fault ∙ c.loop-place.invariant.faults;
      later = λ tells.
          let value = at_ok c.read.result (IsTrue mid.tells → c.read.new.into ≡ sector_at mid.shown at) (sym c.if-is_err.ensures.value) c.read.ensures.value in
          let sector : c.read.new.into ≡ sector_at old.shown at = value (subst (λ b. IsTrue b) (sym keeps.stays.tells) tells) ∙ ap (λ (i : Image). sector_at i at) keeps.shown in
          let is : is_later c.args.epoch (sector_at old.shown at) ≡ false = ap (λ (s : List _). is_later c.args.epoch s) (sym sector) ∙ sym c.if-is_later.ensures in
          later_next c.args.count c.loop-place.place old.shown c.args.first c.args.epoch (first_later c.args.count old.shown c.args.first c.args.epoch) c.loop-place-test.true (c.loop-place.invariant.later tells) is;
    }
