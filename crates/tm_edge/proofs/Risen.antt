-- A count that rose during a call rose during the calls around it.
use Rattle.std.proofs.Common.{ℕ, ◌≤◌, inl, inr, arith}
use Rattle.tm_edge.specs.Fault.{HasRisen}

pub risen_around : (start before now last : ℕ) → start ≤ before → HasRisen before now → now ≤ last → HasRisen start last
risen_around start before now last earlier risen later = elim risen [ inl more ↦ inl (omega arith) | inr full ↦ inr (omega arith) ]
