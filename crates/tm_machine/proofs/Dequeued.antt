-- How many replies go where the first one does.
use Rattle.std.proofs.Common.{◌≡◌, List, length, take, arith}
use Rattle.std.specs.Prelude.{min}
use Rattle.std.proofs.lemmas.List.{length-take}
use Rattle.tm_types.specs.declared.message.Reply.{Reply}

pub first_count : (replies : List Reply) → min (length replies) 1 ≡ length (take 1 replies)
first_count replies = omega (arith, length-take 1 replies)

pub ruleset first_counts = (first_count)
