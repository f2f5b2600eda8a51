-- What holds of the output queues at all times.
use Rattle.std.specs.Prelude.{◌≡◌, ℕ, ◌+◌, ◌<◌, ◌≤◌, ◌^◌, List}
use Rattle.std.specs.List.{AllByRecursion}
use Rattle.model_messages.specs.declared.replies.TerminalReplies.{TerminalReplies}
use Rattle.model_messages.specs.Outputs.{AreNumbered, outputs_bytes}

-- no terminal has given a number above this one
abbrev pub AreUpTo : ℕ → List TerminalReplies → Type 0
AreUpTo highest outputs = AllByRecursion (λ t. t.next ≤ highest + 1) outputs

-- the bytes are counted, each terminal's numbers follow one another, and none was given above the highest
pub record AreRepliesKept (outputs : List TerminalReplies) (content highest : ℕ) : Type 0 where
  pub counted : content ≡ outputs_bytes outputs
  pub small : content < 2 ^ 62
  pub numbered : AllByRecursion AreNumbered outputs
  pub bounded : AreUpTo highest outputs
