-- What is counted of what lasts.
use Rattle.std.specs.Prelude.{ℕ, ◌+◌, ◌*◌, ◌≤◌, List, Option, Some, None}
use Rattle.std.specs.List.{AllByRecursion}
use Rattle.model_machine.specs.Machine.{LastingState}
use Rattle.model_session.specs.Lives.{LastLife}
use Rattle.model_session.specs.SessionState.{Setting, SessionState, last_life}
use Rattle.model_messages.specs.declared.replies.TerminalReplies.{TerminalReplies}
use Rattle.session_law.specs.Measures.{lives_measure}

-- where each terminal's next reply stands isn't above a bound
abbrev pub RepliesUpTo : ℕ → List TerminalReplies → Type 0
RepliesUpTo high outputs = AllByRecursion (λ t. t.next ≤ high) outputs

-- No counter of what lasts is above a bound: the next id, the lasting steps, and each terminal's next reply.
pub record LastsUpTo (high : ℕ) (lasting : LastingState) : Type 0 where
  pub next_id : lasting.next_id ≤ high
  pub steps : lasting.steps ≤ high
  pub replies : RepliesUpTo high lasting.outputs

-- An entry raises none of them by more.
abbrev pub most_raised : ℕ
most_raised = 32

-- What the last life opened with is up to a bound; before the first life what the disk held when it was handed in.
abbrev pub OpensUpTo : Setting → ℕ → Option LastLife → Type 0
OpensUpTo setting high None = (state : LastingState) → setting.begins state → LastsUpTo high state
OpensUpTo setting high (Some life) = LastsUpTo high life.opening

-- Each life behind the first opened with what the lives before it left, so the bound rises with what these have done.
abbrev pub LivesUpTo : Setting → ℕ → SessionState → Type 0
LivesUpTo setting high state = OpensUpTo setting (high + most_raised * lives_measure state.lives) (last_life state.standing)
