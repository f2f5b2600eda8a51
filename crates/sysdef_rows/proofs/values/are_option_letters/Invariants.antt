use Rattle.std.proofs.Common.{◌≡◌, drop}
use Rattle.sysdef_rows.specs.Values as spec
use Rattle.sysdef_rows.proofs.values.are_option_letters.Given as goal

abbrev pub invariant-loop-index : goal.invariant-loop-index
invariant-loop-index l = spec.are_option_letters (drop l.index l.word) ≡ spec.are_option_letters l.word
