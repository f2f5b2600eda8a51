use Rattle.std.proofs.Common.{subst}
use Rattle.out_queues.specs.KeptReplies.{AreUpTo}
use Rattle.out_queues.proofs.Counted.{given_up_to}
use Rattle.out_queues.proofs.outputs.Outputs.of.Goals as goal

pub invariant_of-result : goal.invariant_of-result
invariant_of-result c = record {
  counted = c.requires.counted;
  small = c.requires.small;
  numbered = c.requires.numbered;
  bounded = subst (AreUpTo c.highest_next-highest.result) c.deref.ensures.value (given_up_to c.highest_next-highest.result c.deref.result.now c.highest_next-highest.ensures);
}
