-- the arguments so far
use Rattle.std.proofs.Common.{◌≡◌, take, map}
use Rattle.model_system.specs.Script.{call_ssa}
use Rattle.script_run.specs.RunningScript.{AreKeyTexts}
use Rattle.script_run.proofs.statements.call_ssas.Given as goal

abbrev pub invariant-loop-ssa : goal.invariant-loop-ssa
invariant-loop-ssa l = record {
  so_far : l.made ≡ map (call_ssa l.script.here) (take l.ssa-index l.ssas);
  texts : AreKeyTexts l.made;
}
