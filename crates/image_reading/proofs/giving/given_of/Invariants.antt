use Rattle.image_reading.specs.NamedBytes.{AreNamedBytes}
use Rattle.image_reading.proofs.giving.given_of.Given as goal

abbrev pub invariant-loop-place : goal.invariant-loop-place
invariant-loop-place l = AreNamedBytes l.place l.named l.given.items
