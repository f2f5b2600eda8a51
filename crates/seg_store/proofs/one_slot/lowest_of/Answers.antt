use Rattle.std.proofs.Common.{◌≡◌, ◌+◌, ◌<◌, length, sym, ◌∙◌, ap, arith, Some, []}
use Rattle.std.specs.List.{slice_get}
use Rattle.std.specs.Option.{option_map}
use Rattle.std.proofs.lemmas.Option.{slice_get-map, get_or_from_slice_get}
use Rattle.seg_store.specs.ChangedSlots.{Kept}
use Rattle.seg_store.proofs.WritingBack.{found_at}
use Rattle.seg_store.proofs.OneSlot.{marks, lowest_here, lowest_past, none_first}
use Rattle.seg_store.proofs.one_slot.lowest_of.Goals as goal

pub returns-in-Some-clause-value : goal.returns-in-Some-clause-value
returns-in-Some-clause-value c =
    let kept = c.args.stores.now.items in
    let i = c.loop-place.place in
    let lt : i < length kept = omega (arith, c.loop-place-test.true, c.len-place-end.ensures, c.args.stores.now.ok) in
    let f = found_at kept i lt in
    let indexed : c.index.result.now ≡ f.one = c.index.ensures ∙ get_or_from_slice_get c.args.stores.now.items i f.one _ f.is in
    let got : slice_get (marks kept) i ≡ Some f.one.changed = slice_get-map (λ (k : Kept). k.changed) kept i ∙ ap (option_map (λ (k : Kept). k.changed)) f.is in
    let number : 1 + i ≡ i + 1 = omega arith in
    let first : slice_get f.one.changed 0 ≡ Some c.in-Some.slot = sym (c.in-Some.ensures.value ∙ ap (λ (k : Kept). slice_get k.changed 0) indexed) in
    sym (c.loop-place.invariant ∙ (lowest_here 1 (marks kept) i f.one.changed c.in-Some.slot got first ∙ ap (λ n. Some (record { db = n; slot = c.in-Some.slot })) number))

pub loop-place-preserved : goal.loop-place-preserved
loop-place-preserved c =
    let kept = c.args.stores.now.items in
    let i = c.loop-place.place in
    let lt : i < length kept = omega (arith, c.loop-place-test.true, c.len-place-end.ensures, c.args.stores.now.ok) in
    let f = found_at kept i lt in
    let indexed : c.index.result.now ≡ f.one = c.index.ensures ∙ get_or_from_slice_get c.args.stores.now.items i f.one _ f.is in
    let none : f.one.changed ≡ [] = none_first f.one.changed (sym (c.in-None.ensures.value ∙ ap (λ (k : Kept). slice_get k.changed 0) indexed)) in
    let got : slice_get (marks kept) i ≡ Some [] = slice_get-map (λ (k : Kept). k.changed) kept i ∙ (ap (option_map (λ (k : Kept). k.changed)) f.is ∙ ap Some none) in
    c.loop-place.invariant ∙ lowest_past 1 (marks kept) i got
