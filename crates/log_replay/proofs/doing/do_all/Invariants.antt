use Rattle.std.proofs.Common.{◌≡◌, length}
use Rattle.log_replay.specs.ReplaySteps.{does_all}
use Rattle.log_replay.specs.ReplayRules.{IsOrderly}
use Rattle.log_replay.specs.ConversationTally.{TallyFollows}
use Rattle.log_replay.proofs.doing.do_all.Given as goal

-- doing the rest from here is doing all, and the messages are counted
abbrev pub invariant-loop-r : goal.invariant-loop-r
invariant-loop-r l = (does_all l.records l.kept ≡ does_all l.fn.records l.fn.kept) × IsOrderly l.kept × TallyFollows l.system l.kept l.tally

abbrev pub decreases-loop-r : goal.decreases-loop-r
decreases-loop-r l = length l.records
