use Rattle.std.proofs.Common.{◌≡◌, drop}
use Rattle.model_machine.specs.LastingSteps.{without_word}
use Rattle.lasting_state.proofs.Cut.{joined}
use Rattle.lasting_state.proofs.conversing.without_word.Given as goal

-- the segments so far, and those to come
abbrev pub invariant-loop-place : goal.invariant-loop-place
invariant-loop-place l = joined l.kept (drop l.place l.segments) ≡ without_word l.segments
