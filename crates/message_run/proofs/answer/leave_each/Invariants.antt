use Rattle.std.proofs.Common.{◌≡◌, length, replicate, take}
use Rattle.model_data.specs.Data.{nowhere}
use Rattle.message_run.proofs.answer.leave_each.Given as goal

abbrev pub invariant-loop-position : goal.invariant-loop-position
invariant-loop-position l =
    record {
      size : length l.position-items ≡ length l.initial.position-items;
      left : take l.position-index l.position-items ≡ replicate l.position-index nowhere;
    }
