-- the variables so far are empty
use Rattle.std.proofs.Common.{◌≡◌, [], replicate}
use Rattle.std.specs.Prelude.{None}
use Rattle.script_run.proofs.script.Script.start.Given as goal

abbrev pub invariant-loop-place : goal.invariant-loop-place
invariant-loop-place l = record {
  variables : l.variables.items ≡ replicate l._place [];
  kept : l.kept.items ≡ replicate l._place None;
}
