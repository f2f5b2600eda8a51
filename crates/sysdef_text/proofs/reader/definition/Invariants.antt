use Rattle.std.proofs.Common.{◌≡◌, ◌+◌, drop}
use Rattle.text_rows.specs.Refusals.{values_behind}
use Rattle.sysdef_text.specs.declared.modes.Mode.TheVariants.{Start}
use Rattle.sysdef_text.specs.Definitions as spec
use Rattle.sysdef_text.proofs.reader.definition.Given as goal

abbrev pub invariant-loop-index : goal.invariant-loop-index
invariant-loop-index l =
    values_behind l.items.items (spec.definition l.mode l.over (1 + l.index) (drop l.index l.lines)) ≡ spec.definition Start l.over 1 l.lines
