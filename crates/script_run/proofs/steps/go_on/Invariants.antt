-- the script settles as it would have from its start
use Rattle.std.proofs.Common.{◌≡◌, ◌-◌}
use Rattle.model_system.specs.Script.{script_settled}
use Rattle.script_run.proofs.steps.go_on.Given as goal

abbrev pub invariant-loop-need : goal.invariant-loop-need
invariant-loop-need l = record {
  settles : script_settled l.program l.limit l.script.here ≡ script_settled l.program l.limit l.initial.script.here;
  stood : l.script.stood ≡ l.initial.script.stood;
}

abbrev pub decreases-loop-need : goal.decreases-loop-need
decreases-loop-need l = l.limit - l.script.here.executed
