-- what the variables were is the same, and of the first ones nothing is kept
use Rattle.std.proofs.Common.{◌≡◌, length, replicate, take}
use Rattle.std.specs.Prelude.{None}
use Rattle.script_run.specs.RunningScript.{texts_before}
use Rattle.script_run.proofs.script.put_back.Given as goal

abbrev pub invariant-loop-place : goal.invariant-loop-place
invariant-loop-place l =
    record {
      before : texts_before l.kept.items l.variables.items ≡ texts_before l.initial.kept.items l.initial.variables.items;
      size : length l.kept.items ≡ length l.initial.kept.items;
      variables : length l.variables.items ≡ length l.initial.variables.items;
      none : take l.place l.kept.items ≡ replicate l.place None;
    }
