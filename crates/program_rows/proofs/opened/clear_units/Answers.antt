use Rattle.std.proofs.Common.{◌<◌, ◌++◌, List, drop, length, replicate, ◌∙◌, ap, arith, set}
use Rattle.unit_work.specs.Changes.{Changes, no_changes}
use Rattle.program_rows.proofs.Clearing.{cleared_next, cleared_all}
use Rattle.program_rows.proofs.opened.clear_units.Goals as goal

pub loop-place-preserved : goal.loop-place-preserved
loop-place-preserved c =
    let lt : c.loop-place.place < length c.args.units.now.items = omega (arith, c.loop-place-test.true, c.len-place-end.ensures, c.args.units.now.ok) in
    ap (λ (us : List Changes). set us c.loop-place.place c.new.result) c.loop-place.invariant
    ∙ ap (λ (u : Changes). set (replicate c.loop-place.place no_changes ++ drop c.loop-place.place c.args.units.now.items) c.loop-place.place u) c.new.ensures
    ∙ cleared_next no_changes c.args.units.now.items c.loop-place.place lt

pub returns : goal.returns
returns c = c.loop-place.invariant ∙ cleared_all no_changes c.args.units.now.items c.loop-place.place (omega (arith, c.loop-place-test.false, c.loop-place.auto.place-end, c.len-place-end.ensures))
