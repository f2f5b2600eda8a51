-- what was read, before what is still to be read
use Rattle.std.proofs.Common.{◌≡◌, ◌+◌, drop}
use Rattle.model_system.specs.ValidFormat.{IsFormat}
use Rattle.mfs_text.specs.BuiltFormat.{lines_in}
use Rattle.mfs_text.specs.Formats.{read_format, lines_from}
use Rattle.mfs_text.proofs.Joining.{finished}
use Rattle.mfs_text.proofs.reader.read_format.Given as goal

abbrev pub invariant-loop-index : goal.invariant-loop-index
invariant-loop-index l = record {
  read : finished l.section (lines_in l.built) (lines_from l.section (l.first + l.index) (drop l.index l.lines)) ≡ read_format l.first l.lines;
  valid : IsFormat (lines_in l.built);
}
