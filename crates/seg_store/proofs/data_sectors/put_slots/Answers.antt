use Rattle.std.proofs.Common.{◌≡◌, ℕ, ◌+◌, ◌*◌, ◌≤◌, get_or, length, List, sym, ◌∙◌, ap, subst, arith, IsTrue}
use Rattle.tm_disk.proofs.Words.{stays_on}
use Rattle.model_data.specs.declared.row.Row.{Row}
use Rattle.model_data.specs.Record.{rows_spelling}
use Rattle.seg_store.specs.DataSectors.{pieces_from, pieces_of, bytes_of_slots, HasPut, PutsFront}
use Rattle.seg_store.proofs.Putting.{at_ok, at_err}
use Rattle.seg_store.proofs.SlotsWritten.{slot_fits, all_images, number_within, slot_of_number, numbers_front, next_within, next_follows, next_has, next_front}
use Rattle.seg_store.proofs.data_sectors.put_slots.Goals as goal

pub spell-requires : goal.spell-requires
spell-requires g c =
    subst (λ (rows : List Row). length (rows_spelling rows) ≤ 32000) (sym c.as_slice.ensures)
    (all_images (λ rows. length (rows_spelling rows) ≤ 32000) c.args.slots.now (get_or c.args.numbers.now c.loop-number.number-index 0) c.index-slots-number.result
    (number_within c.args.slots.now c.args.numbers.now c.loop-number.number-index c.index-slots-number.result c.loop-number-test.true c.requires.within c.index-slots-number.is)
    c.index-slots-number.is c.requires.fits)

pub put_record-requires : goal.put_record-requires
put_record-requires g c =
    let number = get_or c.args.numbers.now c.loop-number.number-index 0 in
    let at_is : c.args.first + c.from.result * c.from-in-loop-number.result ≡ c.args.first + number * c.args.sectors = λ j. c.args.first + c.from.ensures j * c.from-in-loop-number.ensures j in
    omega (
      arith,
      c.loop-number.invariant.stays.size,
      at_is,
      slot_fits c.args.first (length c.args.slots.now) c.args.sectors number (g.D.Disk.state c.args.disk.now).size
          (number_within c.args.slots.now c.args.numbers.now c.loop-number.number-index c.index-slots-number.result c.loop-number-test.true c.requires.within c.index-slots-number.is) c.requires.area,
    )

pub returns-then-is_err-clause-any_moment : goal.returns-then-is_err-clause-any_moment
returns-then-is_err-clause-any_moment g c =
    let i = c.loop-number.number-index in
    let image = c.index-slots-number.result in
    let slots = bytes_of_slots c.args.slots.now c.args.numbers.now in
    let there = slot_of_number c.args.slots.now c.args.numbers.now i image c.loop-number-test.true c.requires.within c.index-slots-number.is in
    let at_is : c.args.first + c.from.result * c.from-in-loop-number.result ≡ c.args.first + get_or c.args.numbers.now i 0 * c.args.sectors = λ j. c.args.first + c.from.ensures j * c.from-in-loop-number.ensures j in
    let bytes_are : c.as_slice-in-loop-number.result.now ≡ rows_spelling image = c.as_slice-in-loop-number.ensures ∙ c.spell.ensures ∙ ap rows_spelling c.as_slice.ensures in
    next_within c.args.first c.args.sectors slots i (get_or c.args.numbers.now i 0, rows_spelling image) there (c.args.first + c.from.result * c.from-in-loop-number.result) at_is c.as_slice-in-loop-number.result.now bytes_are
    (g.D.Disk.state c.args.disk.now) (g.D.Disk.state c.loop-number.disk) (g.D.Disk.state c.put_record.new.disk)
    c.loop-number.invariant.within c.loop-number.invariant.follows c.put_record.ensures.any_moment

pub returns-then-is_err-clause-follows : goal.returns-then-is_err-clause-follows
returns-then-is_err-clause-follows g c =
    let i = c.loop-number.number-index in
    let image = c.index-slots-number.result in
    let slots = bytes_of_slots c.args.slots.now c.args.numbers.now in
    let there = slot_of_number c.args.slots.now c.args.numbers.now i image c.loop-number-test.true c.requires.within c.index-slots-number.is in
    let at_is : c.args.first + c.from.result * c.from-in-loop-number.result ≡ c.args.first + get_or c.args.numbers.now i 0 * c.args.sectors = λ j. c.args.first + c.from.ensures j * c.from-in-loop-number.ensures j in
    let bytes_are : c.as_slice-in-loop-number.result.now ≡ rows_spelling image = c.as_slice-in-loop-number.ensures ∙ c.spell.ensures ∙ ap rows_spelling c.as_slice.ensures in
    next_follows c.args.first c.args.sectors slots i (get_or c.args.numbers.now i 0, rows_spelling image) there (c.args.first + c.from.result * c.from-in-loop-number.result) at_is c.as_slice-in-loop-number.result.now bytes_are
    (g.D.Disk.state c.args.disk.now) (g.D.Disk.state c.loop-number.disk) (g.D.Disk.state c.put_record.new.disk)
    c.loop-number.invariant.follows c.put_record.ensures.follows

pub returns-then-is_err-clause-ascending : goal.returns-then-is_err-clause-ascending
returns-then-is_err-clause-ascending g c =
    let old = g.D.Disk.state c.args.disk.now in
    let mid = g.D.Disk.state c.loop-number.disk in
    let new = g.D.Disk.state c.put_record.new.disk in
    let i = c.loop-number.number-index in
    let image = c.index-slots-number.result in
    let slots = bytes_of_slots c.args.slots.now c.args.numbers.now in
    let at = c.args.first + c.from.result * c.from-in-loop-number.result in
    let there = slot_of_number c.args.slots.now c.args.numbers.now i image c.loop-number-test.true c.requires.within c.index-slots-number.is in
    let at_is : at ≡ c.args.first + get_or c.args.numbers.now i 0 * c.args.sectors = λ j. c.args.first + c.from.ensures j * c.from-in-loop-number.ensures j in
    let bytes_are : c.as_slice-in-loop-number.result.now ≡ rows_spelling image = c.as_slice-in-loop-number.ensures ∙ c.spell.ensures ∙ ap rows_spelling c.as_slice.ensures in
    let puts = at_err c.put_record.result (IsTrue mid.tells → PutsFront at (pieces_from c.args.sectors 0 c.as_slice-in-loop-number.result.now) mid.shown new.shown) (sym c.if-is_err.ensures.value) c.put_record.ensures.ascending in
    let front = numbers_front c.args.slots.now c.args.numbers.now i in
    λ tells.
    next_front c.args.first c.args.sectors slots i (get_or c.args.numbers.now i 0, rows_spelling image) there at at_is c.as_slice-in-loop-number.result.now bytes_are old.shown mid.shown new.shown
    (subst (λ (l : List (ℕ × List ℕ)). HasPut c.args.first (pieces_of c.args.sectors l) old.shown mid.shown) (sym front) (c.loop-number.invariant.shown tells))
    (puts (subst (λ b. IsTrue b) (sym c.loop-number.invariant.stays.tells) tells))

pub loop-number-preserved : goal.loop-number-preserved
loop-number-preserved g c =
    let old = g.D.Disk.state c.args.disk.now in
    let mid = g.D.Disk.state c.loop-number.disk in
    let new = g.D.Disk.state c.put_record.new.disk in
    let inv = c.loop-number.invariant in
    let i = c.loop-number.number-index in
    let image = c.index-slots-number.result in
    let slots = bytes_of_slots c.args.slots.now c.args.numbers.now in
    let at = c.args.first + c.from.result * c.from-in-loop-number.result in
    let slot : ℕ × List ℕ = (get_or c.args.numbers.now i 0, rows_spelling image) in
    let bytes = c.as_slice-in-loop-number.result.now in
    let there = slot_of_number c.args.slots.now c.args.numbers.now i image c.loop-number-test.true c.requires.within c.index-slots-number.is in
    let at_is : at ≡ c.args.first + get_or c.args.numbers.now i 0 * c.args.sectors = λ j. c.args.first + c.from.ensures j * c.from-in-loop-number.ensures j in
    let bytes_are : bytes ≡ rows_spelling image = c.as_slice-in-loop-number.ensures ∙ c.spell.ensures ∙ ap rows_spelling c.as_slice.ensures in
    let done = at_ok c.put_record.result (IsTrue mid.tells → HasPut at (pieces_from c.args.sectors 0 bytes) mid.shown new.shown) (sym c.if-is_err.ensures.value) c.put_record.ensures.shown in
    let front = numbers_front c.args.slots.now c.args.numbers.now i in
    let more : (i + 1) * c.args.sectors ≡ i * c.args.sectors + c.args.sectors = omega arith in
    record {
      stays = stays_on old mid new inv.stays c.put_record.ensures.stays;
      within = next_within c.args.first c.args.sectors slots i slot there at at_is bytes bytes_are old mid new inv.within inv.follows c.put_record.ensures.any_moment;
      follows = next_follows c.args.first c.args.sectors slots i slot there at at_is bytes bytes_are old mid new inv.follows c.put_record.ensures.follows;
      shown = λ tells.
          subst (λ (l : List (ℕ × List ℕ)). HasPut c.args.first (pieces_of c.args.sectors l) old.shown new.shown) (numbers_front c.args.slots.now c.args.numbers.now (i + 1))
          (next_has c.args.first c.args.sectors slots i slot there at at_is bytes bytes_are old.shown mid.shown new.shown
          (subst (λ (l : List (ℕ × List ℕ)). HasPut c.args.first (pieces_of c.args.sectors l) old.shown mid.shown) (sym front) (inv.shown tells))
          (done (subst (λ b. IsTrue b) (sym inv.stays.tells) tells)));
      faults = at_ok c.put_record.result (new.faults ≡ mid.faults) (sym c.if-is_err.ensures.value) c.put_record.ensures.no_fault ∙ inv.faults;
      writes = omega (arith, inv.writes, c.put_record.ensures.writes, more);
    }
