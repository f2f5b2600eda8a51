use Rattle.std.proofs.Common.{◌≡◌, ◌++◌, List, take}
use Rattle.model_system.specs.Pages.{IsPage}
use Rattle.model_system.specs.ScreenPage as spec
use Rattle.mfs_edit.specs.Pieces.{rest_of}
use Rattle.mfs_edit.proofs.output.show_segment.Given as goal

abbrev pub invariant-loop-line : goal.invariant-loop-line
invariant-loop-line l = record {
  page : IsPage l.rows.items;
  rest : l.rest ≡ rest_of (take l.line-index l.lines) l.text;
  shown : (done : List spec.Piece) → l.fn.rows.items ≡ spec.page_of l.fields done → l.rows.items ≡ spec.page_of l.fields (done ++ spec.pieces_of (take l.line-index l.lines) l.text);
}
