use Rattle.std.proofs.Common.{◌≡◌, ◌++◌, drop, map}
use Rattle.std.specs.Prelude.{IsTrue}
use Rattle.std.specs.List.{list_all}
use Rattle.model_system.specs.ScreenInput as spec
use Rattle.mfs_edit.specs.Texts.{is_text}
use Rattle.mfs_edit.proofs.input.segments_of.Given as goal

abbrev pub invariant-loop-line : goal.invariant-loop-line
invariant-loop-line l = record {
  made : l.segments ++ map (λ line. spec.field_texts_of l.values line.fields) (drop l.line-index l.lines) ≡ map (λ line. spec.field_texts_of l.values line.fields) l.lines;
  rest : IsTrue (list_all (λ line. is_text (spec.field_texts_of l.values line.fields)) (drop l.line-index l.lines));
}
