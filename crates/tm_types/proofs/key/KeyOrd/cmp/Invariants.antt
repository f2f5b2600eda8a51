use Rattle.std.proofs.Common.{◌≡◌, ◌*◌, drop}
use Rattle.std.specs.Ordering.{nat_cmp}
use Rattle.std.specs.Cmp.Lexicographic.{slice_cmp}
use Rattle.tm_types.proofs.key.KeyOrd.cmp.Given as goal

abbrev pub invariant-loop-index : goal.invariant-loop-index
invariant-loop-index l = slice_cmp nat_cmp l.self-inside.bytes l.other-inside.bytes ≡ slice_cmp nat_cmp (drop (l.index * 8) l.self-inside.bytes) (drop (l.index * 8) l.other-inside.bytes)
