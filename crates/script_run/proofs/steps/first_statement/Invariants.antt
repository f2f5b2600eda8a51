-- the labels from here on are those that are left
use Rattle.std.proofs.Common.{◌≡◌, ◌+◌, ◌-◌, drop, length}
use Rattle.model_system.specs.Script.{labels_first}
use Rattle.script_run.proofs.steps.first_statement.Given as goal

abbrev pub invariant-loop-here : goal.invariant-loop-here
invariant-loop-here l = l.here + labels_first (drop l.here l.lines) ≡ l.place + labels_first (drop l.place l.lines)

abbrev pub decreases-loop-here : goal.decreases-loop-here
decreases-loop-here l = length l.lines - l.here
