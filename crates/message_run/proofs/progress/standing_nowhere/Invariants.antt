use Rattle.std.proofs.Common.{◌≡◌, replicate}
use Rattle.model_data.specs.Data.{nowhere}
use Rattle.message_run.proofs.progress.standing_nowhere.Given as goal

abbrev pub invariant-loop-pcb : goal.invariant-loop-pcb
invariant-loop-pcb l = l.positions.items ≡ replicate l._pcb nowhere
