use Rattle.std.proofs.Common.{rules}
use Rattle.io_pcb.proofs.Kept.{back_is}
use Rattle.io_pcb.proofs.work.Work.give_back.Goals as goal

pub invariant_of-self : goal.invariant_of-self
invariant_of-self c =
    back_is c.self.inside.code c.self.inside.pad c.self.inside.returned c.text-length.result.now c.args.text.now c.in_ok-returned.returned c.args.pcb
    (search rules) c.self.invariant c.requires.text
    (rw (← c.self.view_is) at c.requires.gives) (rw (← c.self.view_is) at c.requires.pad) c.in_ok-returned.ensures
