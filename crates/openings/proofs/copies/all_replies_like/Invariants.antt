use Rattle.std.proofs.Common.{◌≡◌, take}
use Rattle.openings.proofs.copies.all_replies_like.Given as goal

abbrev pub invariant-loop-place : goal.invariant-loop-place
invariant-loop-place l = l.items.items ≡ take l.place l.replies
