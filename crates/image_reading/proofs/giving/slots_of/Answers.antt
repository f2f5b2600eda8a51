use Rattle.std.proofs.Common.{◌≡◌, ◌∷◌, ◌++◌, [], length, take, refl, sym, ◌<◌, ◌∙◌, ap, subst, Some}
use Rattle.std.specs.List.{AllByRecursion, slice_get}
use Rattle.std.proofs.lemmas.Option.{slice_get_read}
use Rattle.seg_store.proofs.Putting.{at_ok}
use Rattle.image_reading.specs.NamedBytes.{of_database}
use Rattle.image_reading.proofs.Given.{before_all, of_both}
use Rattle.image_reading.proofs.giving.slots_of.Goals as goal
use Rattle.image_loading.proofs.Adding.{take_next}

pub add-requires : goal.add-requires
add-requires c here =
    let named = c.args.named.now in
    let i = c.loop-slot.slot-index in
    let s = c.slot-item.result in
    let found : slice_get named i ≡ Some s = slice_get_read named (length named) i s refl c.loop-slot-test.true c.slot-item.is in
    subst (AllByRecursion (λ p. p.0 < s.slot)) (sym c.loop-slot.invariant) (before_all c.args.database named i s c.requires found here)

pub loop-slot-preserved : goal.loop-slot-preserved
loop-slot-preserved c =
    let named = c.args.named.now in
    let i = c.loop-slot.slot-index in
    let s = c.slot-item.result in
    let found : slice_get named i ≡ Some s = slice_get_read named (length named) i s refl c.loop-slot-test.true c.slot-item.is in
    at_ok c.add.result (c.add.new.slots ≡ c.loop-slot.slots ++ of_database c.args.database (s ∷ [])) (sym c.if-is_err.ensures.value) c.add.ensures
    ∙ ap (λ l. l ++ of_database c.args.database (s ∷ [])) c.loop-slot.invariant
    ∙ sym (of_both c.args.database (take i named) (s ∷ []))
    ∙ ap (of_database c.args.database) (sym (take_next named i s found))
