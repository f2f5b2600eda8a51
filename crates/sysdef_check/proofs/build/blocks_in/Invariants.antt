use Rattle.std.proofs.Common.{◌≡◌, ◌++◌, length}
use Rattle.std.specs.Vec.Iter.{into_iter_items}
use Rattle.sysdef_check.specs.Systems as spec
use Rattle.sysdef_check.proofs.build.blocks_in.Given as goal

abbrev pub invariant-loop-line : goal.invariant-loop-line
invariant-loop-line l =
    (length (into_iter_items l.lists) ≡ length (into_iter_items l.line-iterator))
    × (l.programs.items ++ spec.programs_with (into_iter_items l.line-iterator) (into_iter_items l.lists) ≡ spec.programs_with l.fn.lines.items l.fn.lists.items)
    × (l.formats.items ++ spec.formats_in (into_iter_items l.line-iterator) ≡ spec.formats_in l.fn.lines.items)
