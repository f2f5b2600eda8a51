use Rattle.std.proofs.Common.{◌≡◌, drop, length}
use Rattle.model_messages.specs.Queue.{free_count}
use Rattle.model_machine.specs.Flags.{all_followed}
use Rattle.region_work.proofs.flags.follow_all.Given as goal

-- the flags of the codes to come are left to follow
abbrev pub invariant-loop-name : goal.invariant-loop-name
invariant-loop-name l = record {
  count : length l.codes ≡ length l.system.codes;
  rest : all_followed l.system.codes (λ name. free_count name l.queues.queued) l.names l.initial.codes
      ≡ all_followed l.system.codes (λ name. free_count name l.queues.queued) (drop l.name-index l.names) l.codes;
}
