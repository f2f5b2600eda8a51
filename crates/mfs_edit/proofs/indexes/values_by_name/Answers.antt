use Rattle.std.proofs.Common.{◌≡◌, refl}
use Rattle.std.specs.Prelude.{Some, slice_get, length}
use Rattle.std.proofs.lemmas.Option.{slice_get_read}
use Rattle.model_system.specs.declared.fields.FieldValue.{FieldValue}
use Rattle.mfs_edit.specs.Indexes.{field_place_in}
use Rattle.mfs_edit.proofs.Placing.{placed}
use Rattle.mfs_edit.proofs.indexes.values_by_name.Goals as goal

pub loop-index-preserved : goal.loop-index-preserved
loop-index-preserved c =
    let items = c.args.values.now in
    let item = c.index-values-index.result in
    let at : slice_get items c.loop-index.index ≡ Some item = slice_get_read items (length items) c.loop-index.index item refl c.loop-index-test.true c.index-values-index.is in
    placed (λ (i : FieldValue). i.name) (field_place_in c.loop-index.places) (field_place_in c.insert.new.self) items c.loop-index.index item c.loop-index-test.true c.index-values-index.is at
    c.in_ok-insert.ensures.updates.0 c.loop-index.invariant
