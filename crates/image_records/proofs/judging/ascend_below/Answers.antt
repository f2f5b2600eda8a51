use Rattle.std.proofs.Common.{◌+◌, ◌&&◌, ◌∙◌, drop, sym, ap, arith}
use Rattle.std.proofs.lemmas.Bool.{lt-ltb, le-ltb}
use Rattle.tm_types.specs.declared.message.Message.{Message}
use Rattle.model_image.specs.States.{ascend_below}
use Rattle.image_records.proofs.Fronts.{ids_after}
use Rattle.image_records.proofs.judging.ascend_below.Goals as goal

pub returns-then-messages-place : goal.returns-then-messages-place
returns-then-messages-place c =
    let next = c.args.next in
    let messages = c.args.messages.now in
    let place = c.loop-place.place in
    let m = c.index-messages-place.result in
    sym (ids_after next messages place m c.id_after.result c.loop-place-test.true c.index-messages-place.is c.id_after.ensures
    ∙ ap (λ b. b && ascend_below next (drop (place + 1) messages)) (le-ltb m.id c.id_after.result (omega (arith, c.if-messages-place.true, ap (λ (x : Message). x.id) c.index-messages-place.is))))
    ∙ c.loop-place.invariant

pub loop-place-preserved : goal.loop-place-preserved
loop-place-preserved c =
    let next = c.args.next in
    let messages = c.args.messages.now in
    let place = c.loop-place.place in
    let m = c.index-messages-place.result in
    sym (ids_after next messages place m c.id_after.result c.loop-place-test.true c.index-messages-place.is c.id_after.ensures
    ∙ ap (λ b. b && ascend_below next (drop (place + 1) messages)) (lt-ltb m.id c.id_after.result (omega (arith, c.if-messages-place.false, ap (λ (x : Message). x.id) c.index-messages-place.is))))
    ∙ c.loop-place.invariant
