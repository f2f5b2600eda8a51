use Rattle.std.proofs.Common.{◌≡◌, take}
use Rattle.model_system.specs.Pages.{IsPage}
use Rattle.model_system.specs.ScreenPage as spec
use Rattle.mfs_edit.proofs.output.edit_out.Given as goal

abbrev pub invariant-loop-index : goal.invariant-loop-index
invariant-loop-index l = record {
  page : IsPage l.rows.items;
  shown : l.rows.items ≡ spec.page_of l.format.fields (spec.all_pieces (take l.index l.format.output) l.segments);
}
