use Rattle.std.proofs.Common.{◌≡◌, ℕ, ◌+◌, ◌*◌, ◌<◌, List, length, sym, ◌∙◌, ap, subst, arith, IsTrue, Some}
use Rattle.std.specs.List.{AllByRecursion, slice_get}
use Rattle.std.proofs.lemmas.Nat.{row_fits}
use Rattle.tm_disk.proofs.Words.{stays_on}
use Rattle.seg_store.specs.DataSectors.{HasPut, PutsFront, pieces_from}
use Rattle.seg_store.proofs.Putting.{at_ok, at_err}
use Rattle.image_loading.proofs.Slotted.{all_at, slots_few, slot_there}
use Rattle.seg_store.proofs.SlotsWritten.{slot_fits, next_within, next_follows, next_has, next_front}
use Rattle.image_loading.proofs.writing.write_slots.Goals as goal

pub put_record-requires : goal.put_record-requires
put_record-requires g c =
    let within : c.slot-item.result.0 < c.args.dbd.now.roots =
    subst (λ (s : ℕ × List ℕ). s.0 < c.args.dbd.now.roots) (sym c.slot-item.is)
    (all_at (λ s. s.0 < c.args.dbd.now.roots) c.as_slice-slots.result.now c.loop-slot.slot-index c.slot-item.result c.loop-slot-test.true (subst (AllByRecursion (λ s. s.0 < c.args.dbd.now.roots)) (sym c.as_slice-slots.ensures.value) c.requires.within)) in
    let sectors : c.from.result * c.from-in-loop-slot.result ≡ c.slot-item.result.0 * c.args.dbd.now.sectors = λ i. c.from.ensures i * c.from-in-loop-slot.ensures i in
    omega (arith, sectors, c.loop-slot.invariant.stays.size, slot_fits c.args.first c.args.dbd.now.roots c.args.dbd.now.sectors c.slot-item.result.0 (g.D.Disk.state c.args.disk.now).size within c.requires.area)

pub returns-then-is_err-clause-any_moment : goal.returns-then-is_err-clause-any_moment
returns-then-is_err-clause-any_moment g c =
    let slots = c.args.given.now in
    let inv = c.loop-slot.invariant in
    let there : slice_get slots c.loop-slot.slot-index ≡ Some c.slot-item.result = slot_there c.as_slice-slots.result.now slots c.loop-slot.slot-index c.slot-item.result c.as_slice-slots.ensures.value c.loop-slot-test.true c.slot-item.is in
    next_within c.args.first c.args.dbd.now.sectors slots c.loop-slot.slot-index c.slot-item.result there (c.args.first + c.from.result * c.from-in-loop-slot.result) (λ i. c.args.first + c.from.ensures i * c.from-in-loop-slot.ensures i) c.as_slice.result.now c.as_slice.ensures
    (g.D.Disk.state c.args.disk.now) (g.D.Disk.state c.loop-slot.disk) (g.D.Disk.state c.put_record.new.disk) inv.within inv.follows c.put_record.ensures.any_moment

pub returns-then-is_err-clause-follows : goal.returns-then-is_err-clause-follows
returns-then-is_err-clause-follows g c =
    let slots = c.args.given.now in
    let there : slice_get slots c.loop-slot.slot-index ≡ Some c.slot-item.result = slot_there c.as_slice-slots.result.now slots c.loop-slot.slot-index c.slot-item.result c.as_slice-slots.ensures.value c.loop-slot-test.true c.slot-item.is in
    next_follows c.args.first c.args.dbd.now.sectors slots c.loop-slot.slot-index c.slot-item.result there (c.args.first + c.from.result * c.from-in-loop-slot.result) (λ i. c.args.first + c.from.ensures i * c.from-in-loop-slot.ensures i) c.as_slice.result.now c.as_slice.ensures
    (g.D.Disk.state c.args.disk.now) (g.D.Disk.state c.loop-slot.disk) (g.D.Disk.state c.put_record.new.disk) c.loop-slot.invariant.follows c.put_record.ensures.follows

pub returns-then-is_err-clause-ascending : goal.returns-then-is_err-clause-ascending
returns-then-is_err-clause-ascending g c tells =
    let old = g.D.Disk.state c.args.disk.now in
    let mid = g.D.Disk.state c.loop-slot.disk in
    let new = g.D.Disk.state c.put_record.new.disk in
    let slots = c.args.given.now in
    let there : slice_get slots c.loop-slot.slot-index ≡ Some c.slot-item.result = slot_there c.as_slice-slots.result.now slots c.loop-slot.slot-index c.slot-item.result c.as_slice-slots.ensures.value c.loop-slot-test.true c.slot-item.is in
    let at = c.args.first + c.from.result * c.from-in-loop-slot.result in
    let place : at ≡ c.args.first + c.slot-item.result.0 * c.args.dbd.now.sectors = λ i. c.args.first + c.from.ensures i * c.from-in-loop-slot.ensures i in
    let puts = at_err c.put_record.result (IsTrue mid.tells → PutsFront at (pieces_from c.args.dbd.now.sectors 0 c.as_slice.result.now) mid.shown new.shown) (sym c.if-is_err.ensures.value) c.put_record.ensures.ascending in
    next_front c.args.first c.args.dbd.now.sectors slots c.loop-slot.slot-index c.slot-item.result there at place c.as_slice.result.now c.as_slice.ensures
    old.shown mid.shown new.shown (c.loop-slot.invariant.shown tells) (puts (subst (λ b. IsTrue b) (sym c.loop-slot.invariant.stays.tells) tells))

pub loop-slot-preserved : goal.loop-slot-preserved
loop-slot-preserved g c =
    let old = g.D.Disk.state c.args.disk.now in
    let mid = g.D.Disk.state c.loop-slot.disk in
    let new = g.D.Disk.state c.put_record.new.disk in
    let slots = c.args.given.now in
    let sectors = c.args.dbd.now.sectors in
    let i = c.loop-slot.slot-index in
    let at = c.args.first + c.from.result * c.from-in-loop-slot.result in
    let place : at ≡ c.args.first + c.slot-item.result.0 * sectors = λ i. c.args.first + c.from.ensures i * c.from-in-loop-slot.ensures i in
    let there : slice_get slots i ≡ Some c.slot-item.result = slot_there c.as_slice-slots.result.now slots i c.slot-item.result c.as_slice-slots.ensures.value c.loop-slot-test.true c.slot-item.is in
    let inv = c.loop-slot.invariant in
    let done = at_ok c.put_record.result (IsTrue mid.tells → HasPut at (pieces_from sectors 0 c.as_slice.result.now) mid.shown new.shown) (sym c.if-is_err.ensures.value) c.put_record.ensures.shown in
    let more : (i + 1) * sectors ≡ i * sectors + sectors = omega arith in
    record {
      stays = stays_on old mid new inv.stays c.put_record.ensures.stays;
      within = next_within c.args.first sectors slots i c.slot-item.result there at place c.as_slice.result.now c.as_slice.ensures old mid new inv.within inv.follows c.put_record.ensures.any_moment;
      follows = next_follows c.args.first sectors slots i c.slot-item.result there at place c.as_slice.result.now c.as_slice.ensures old mid new inv.follows c.put_record.ensures.follows;
      shown = λ tells.
          next_has c.args.first sectors slots i c.slot-item.result there at place c.as_slice.result.now c.as_slice.ensures old.shown mid.shown new.shown
          (inv.shown tells) (done (subst (λ b. IsTrue b) (sym inv.stays.tells) tells));
      faults = at_ok c.put_record.result (new.faults ≡ mid.faults) (sym c.if-is_err.ensures.value) c.put_record.ensures.no_fault ∙ inv.faults;
      writes = omega (arith, inv.writes, c.put_record.ensures.writes, more);
    }

pub returns-then-is_err-clause-writes : goal.returns-then-is_err-clause-writes
returns-then-is_err-clause-writes g c =
    omega (
      arith,
      c.loop-slot.invariant.writes,
      c.put_record.ensures.writes,
      ap (length {A = ℕ × List ℕ}) c.as_slice-slots.ensures.value,
      row_fits c.loop-slot.slot-index c.args.dbd.now.sectors (length c.args.given.now) c.args.dbd.now.sectors (omega (arith, c.loop-slot-test.true, ap (length {A = ℕ × List ℕ}) c.as_slice-slots.ensures.value)) (omega arith),
    )

pub overflow_cast-result : goal.overflow_cast-result
overflow_cast-result g c =
    omega (arith, ap length c.as_slice-slots.ensures.value, slots_few c.args.dbd.now.roots c.args.given.now c.as_slice-slots.ensures.ascending c.requires.within)
