use Rattle.std.proofs.Common.{◌≡◌, length, replicate, take}
use Rattle.std.specs.Prelude.{None}
use Rattle.script_run.proofs.script.keep_none.Given as goal

abbrev pub invariant-loop-text : goal.invariant-loop-text
invariant-loop-text l =
    record {
      size : length l.text-items ≡ length l.initial.text-items;
      none : take l.text-index l.text-items ≡ replicate l.text-index None;
    }
