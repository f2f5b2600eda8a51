use Rattle.std.proofs.Common.{◌≡◌, ◌++◌, ◌∷◌, [], List, Some, ap, sym, ◌∙◌}
use Rattle.std.specs.Prelude.{slice_get}
use Rattle.tm_types.specs.declared.message.Reply.{Reply}
use Rattle.openings.proofs.StoresMade.{take_next}
use Rattle.openings.proofs.copies.all_replies_like.Goals as goal

pub loop-place-preserved : goal.loop-place-preserved
loop-place-preserved c =
    let rs : List Reply = c.args.replies.now in
    let i = c.loop-place.place in
    let r : Reply = c.in-Some.reply.now in
    let here : slice_get rs i ≡ Some r = sym c.in-Some.ensures in
    c.in_ok-add_copy.ensures ∙ ap (λ (l : List Reply). l ++ r ∷ []) c.loop-place.invariant ∙ sym (take_next rs i r here)
