use Rattle.std.proofs.Common.{append_assoc}
use Rattle.tm_prog.proofs.run.add_two.Goals as goal

pub returns : goal.returns
returns c = rw (c.push-3.ensures.text, c.push_number-2.ensures.text, c.push-2.ensures.text, c.push_number.ensures.text, c.push.ensures.text) (simp append_assoc)
