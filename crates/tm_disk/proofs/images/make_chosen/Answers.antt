-- one write after another
use Rattle.std.proofs.Common.{◌+◌, ◌-◌, ◌∙◌, arith, refl, ap, get_or, set}
use Rattle.std.proofs.lemmas.List.{get_or_default}
use Rattle.tm_disk.specs.NumberedSectors.{chosen_by}
use Rattle.tm_disk.specs.Record.{nothing_written}
use Rattle.tm_disk.specs.Written.{Written}
use Rattle.tm_disk.proofs.Numbers.{chosen_start, chosen_next, chosen_end}
use Rattle.tm_disk.proofs.images.make_chosen.Goals as goal

pub loop-place-init : goal.loop-place-init
loop-place-init c = chosen_start c.args.writes.now.items c.args.settled c.args.numbers.now.items c.args.left.now.items c.requires.same_size

pub loop-place-preserved : goal.loop-place-preserved
loop-place-preserved c =
    let write : Written = get_or c.args.writes.now.items c.loop-place.place nothing_written in
    chosen_next c.args.writes.now.items c.args.settled c.loop-place.place c.args.numbers.now.items c.args.left.now.items c.loop-place.numbers.items c.loop-place.left.items write (omega (arith, c.loop-place-test.true, c.len-place-end.ensures))
    (get_or_default c.args.writes.now.items c.loop-place.place nothing_written write (omega (arith, c.loop-place-test.true, c.len-place-end.ensures))) (c.requires.in_range c.loop-place.place nothing_written (omega (arith, c.loop-place-test.true, c.len-place-end.ensures))) c.loop-place.invariant
    c.choose_one.new.numbers.items c.choose_one.new.left.items (c.loop-place.place + 1) refl (c.choose_one.ensures.left ∙ ap (λ a. set c.loop-place.left.items a (get_or c.loop-place.left.items a 0 - 1)) c.at-at.ensures)
    (c.choose_one.ensures.numbers ∙ ap (λ a. chosen_by (get_or c.loop-place.left.items a 0) c.loop-place.numbers.items a (c.loop-place.place + 1)) c.at-at.ensures)

pub returns-clause-chosen : goal.returns-clause-chosen
returns-clause-chosen c = chosen_end c.args.writes.now.items c.args.settled c.loop-place.place c.args.numbers.now.items c.args.left.now.items c.loop-place.numbers.items c.loop-place.left.items (omega arith) c.loop-place.invariant

pub returns-clause-others : goal.returns-clause-others
returns-clause-others c = λ k none. (c.loop-place.invariant.others k none).1
