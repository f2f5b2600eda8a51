use Rattle.std.proofs.Common.{◌≡◌, ◌+◌, ◌≤◌, eqb, length, take}
use Rattle.std.specs.List.{suffix_len}
use Rattle.session_text.proofs.page.row_end.Given as goal

abbrev pub invariant-loop-end : goal.invariant-loop-end
invariant-loop-end l = (l.end ≤ length l.row) × (l.end + suffix_len (λ x. eqb x 32) l.row ≡ length l.row + suffix_len (λ x. eqb x 32) (take l.end l.row))

abbrev pub decreases-loop-end : goal.decreases-loop-end
decreases-loop-end l = l.end
