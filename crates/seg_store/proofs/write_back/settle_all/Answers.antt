use Rattle.std.proofs.Common.{◌<◌, List, length, ◌∙◌, ap, arith}
use Rattle.std.specs.List.{slice_get}
use Rattle.std.specs.Prelude.{slice_set}
use Rattle.seg_store.specs.ChangedSlots.{Kept}
use Rattle.seg_store.specs.WrittenSlots.{written_kept}
use Rattle.seg_store.proofs.WritingBack.{partly_get, partly_set, found_at}
use Rattle.seg_store.proofs.write_back.settle_all.Goals as goal

pub loop-place-preserved : goal.loop-place-preserved
loop-place-preserved c =
    let kept = c.args.stores.now.items in
    let i = c.loop-place.place in
    let lt : i < length kept = omega (arith, c.loop-place-test.true, c.len-place-end.ensures, c.args.stores.now.ok) in
    let f = found_at kept i lt in
    let there = ap (λ (l : List Kept). slice_get l i) c.loop-place.invariant ∙ partly_get kept i lt ∙ f.is in
    c.settle_one.ensures f.one there ∙ ap (λ (l : List Kept). slice_set l i (written_kept f.one)) c.loop-place.invariant ∙ partly_set kept i f.one f.is
