use Rattle.std.proofs.Common.{◌≡◌, ◌++◌, drop}
use Rattle.model_system.specs.ScreenInput as spec
use Rattle.mfs_edit.proofs.input.segment_of.Given as goal

abbrev pub invariant-loop-line : goal.invariant-loop-line
invariant-loop-line l = l.text.items ++ spec.field_texts_of l.values (drop l.line-index l.lines) ≡ spec.field_texts_of l.values l.lines
