use Rattle.std.proofs.Common.{◌≡◌, ◌+◌, ◌-◌, ◌*◌, ◌∷◌, [], refl, sym, ◌∙◌, ap, subst, arith, cond, IsTrue, None, Some}
use Rattle.std.specs.List.{AllByRecursion}
use Rattle.std.specs.Option.{option_or, is_some}
use Rattle.tm_disk.proofs.Words.{keeps_same, keeps_on}
use Rattle.model_data.proofs.Lists.{all_append}
use Rattle.model_image.specs.Slots.{is_image, slots_by}
use Rattle.seg_store.specs.Slots.{IsSlot}
use Rattle.image_loading.specs.LoadedStore.{image_slots_in, slot_from}
use Rattle.image_loading.proofs.SlotsRead.{IsAhead, IsReadTo, ahead_begins, ahead_next, behind_all, read_starts, read_next, left_next, rows_here, wrong_here, slot_or}
use Rattle.image_loading.proofs.reading.read_slots.Goals as goal

pub loop-number-init : goal.loop-number-init
loop-number-init g c =
    record {
      keeps = keeps_same (g.D.Disk.state c.args.disk.now);
      until_stop = refl;
      faults = refl;
      ahead = ahead_begins c.args.given.now c.requires.ascending;
      images = c.requires.given;
      each = subst (AllByRecursion (IsSlot c.args.dbd.now)) (sym c.in-Ok.ensures.items) tt;
      len = c.in-Ok.ensures.len;
      room = omega (arith, c.in-Ok.ensures.exact);
      read = λ tells.
          subst (λ xs. IsReadTo (image_slots_in (g.D.Disk.state c.args.disk.now).shown c.args.dbd.now c.args.first c.args.given.now) (slots_by (slot_from (g.D.Disk.state c.args.disk.now).shown c.args.dbd.now c.args.first c.args.given.now) (c.args.dbd.now.roots - 0) 0) xs None)
          (sym c.in-Ok.ensures.items) (read_starts (g.D.Disk.state c.args.disk.now).shown c.args.dbd.now c.args.first c.args.given.now);
    }

pub returns-in-Err-clause-value : goal.returns-in-Err-clause-value
returns-in-Err-clause-value g c tells =
    let old = g.D.Disk.state c.args.disk.now in
    let mid = g.D.Disk.state c.loop-number.disk in
    let inv = c.loop-number.invariant in
    let number = c.loop-number.number in
    let all = image_slots_in old.shown c.args.dbd.now c.args.first c.args.given.now in
    let left = slots_by (slot_from old.shown c.args.dbd.now c.args.first c.args.given.now) (c.args.dbd.now.roots - (number + 1)) (number + 1) in
    wrong_here old.shown mid.shown c.args.dbd.now c.args.first number (c.args.first + c.from.result * c.from-in-loop-number.result) c.args.given.now c.loop-number.rest.now _ c.head_given-bytes.ensures inv.ahead inv.keeps.shown (λ i. c.args.first + c.from.ensures i * c.from-in-loop-number.ensures i)
    c.in-Err.fault all left c.loop-number.images.items c.loop-number.broken
    (c.in-Err.ensures.value (subst (λ b. IsTrue b) (sym inv.keeps.stays.tells) tells))
    (subst (λ xs. IsReadTo all xs c.loop-number.images.items c.loop-number.broken) (left_next (slot_from old.shown c.args.dbd.now c.args.first c.args.given.now) c.args.dbd.now.roots number c.loop-number-test.true) (inv.read tells))

pub loop-number-preserved : goal.loop-number-preserved
loop-number-preserved g c =
    let old = g.D.Disk.state c.args.disk.now in
    let mid = g.D.Disk.state c.loop-number.disk in
    let new = g.D.Disk.state c.slot_rows.new.disk in
    let inv = c.loop-number.invariant in
    let number = c.loop-number.number in
    let rows = c.in-Ok-slot_rows.rows in
    let dbd = c.args.dbd.now in
    let all = image_slots_in old.shown dbd c.args.first c.args.given.now in
    let slot = slot_from old.shown dbd c.args.first c.args.given.now in
    let left = slots_by slot (dbd.roots - (number + 1)) (number + 1) in
    let place : c.args.first + c.from.result * c.from-in-loop-number.result ≡ c.args.first + number * dbd.sectors = λ i. c.args.first + c.from.ensures i * c.from-in-loop-number.ensures i in
    record {
      keeps = keeps_on old mid new (g.met.D.Disk.is_disk c.args.disk.now) inv.keeps c.in-Ok-slot_rows.ensures.keeps;
      until_stop = c.in-Ok-slot_rows.ensures.until_stop ∙ inv.until_stop;
      faults = c.in-Ok-slot_rows.ensures.cause ∙ inv.faults;
      ahead = subst (IsAhead (number + 1) c.args.given.now) (sym c.behind-rest.ensures) (ahead_next number c.args.given.now c.loop-number.rest.now inv.ahead);
      images = subst (AllByRecursion (λ s. IsTrue (is_image dbd s.1))) (sym c.behind-rest.ensures) (behind_all (λ s. IsTrue (is_image dbd s.1)) number c.loop-number.rest.now inv.images);
      each = subst (AllByRecursion (IsSlot dbd)) (sym c.push_reserved.ensures.items)
          (all_append (IsSlot dbd) c.loop-number.images.items (c.or_none.result ∷ []) inv.each (subst (IsSlot dbd) (sym c.or_none.ensures) (slot_or dbd rows c.in-Ok-slot_rows.ensures.slot), tt));
      len = omega (arith, c.push_reserved.ensures.len, inv.len);
      room = omega (arith, c.push_reserved.ensures.capacity, inv.room);
      read = λ tells.
          let here = rows_here old.shown mid.shown dbd c.args.first number (c.args.first + c.from.result * c.from-in-loop-number.result) c.args.given.now c.loop-number.rest.now _ c.head_given-bytes.ensures inv.ahead inv.keeps.shown place
          rows (c.in-Ok-slot_rows.ensures.value (subst (λ b. IsTrue b) (sym inv.keeps.stays.tells) tells)) in
          let before = subst (λ xs. IsReadTo all xs c.loop-number.images.items c.loop-number.broken) (left_next slot dbd.roots number c.loop-number-test.true) (inv.read tells) in
          read_next all left (slot number) c.loop-number.images.items c.loop-number.broken rows before here c.or_none.result c.push_reserved.new.self.items c.first_broken-broken.result
          c.push_reserved.ensures.items c.or_none.ensures (c.first_broken-broken.ensures ∙ ap (λ p. option_or c.loop-number.broken (cond (is_some rows) None (Some p))) place);
    }
