use Rattle.std.proofs.Common.{◌≡◌, take}
use Rattle.sysdef_rules.proofs.named.NamedMacros.of.Given as goal

abbrev pub invariant-loop-index : goal.invariant-loop-index
invariant-loop-index l = l.named ≡ take l.index l.lines
