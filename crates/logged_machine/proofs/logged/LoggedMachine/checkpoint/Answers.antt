-- as callers see it
use Rattle.std.proofs.Common.{◌*◌, arith}
use Rattle.model_machine.specs.declared.entry.Entry.TheVariants.{Checked}
use Rattle.openings.specs.Faults.{fault_in}
use Rattle.logged_machine.proofs.Doing.{counted, crashes, goes}
use Rattle.logged_machine.proofs.Unspent.{counted_now}
use Rattle.logged_machine.proofs.logged.LoggedMachine.checkpoint.Goals as goal

pub checkpoint_any-answer-requires-clause-counted : goal.checkpoint_any-answer-requires-clause-counted
checkpoint_any-answer-requires-clause-counted g c = counted_now c.args.self.now.machine.moment.lasting c.args.self.now.next_unit c.args.self.now.journal c.requires.unspent

pub returns-clause-goes : goal.returns-clause-goes
returns-clause-goes g c = goes g.D.Disk.state c.args.self.now c.checkpoint_any-answer.new.self (c.is_served-before.ensures.lasts c.requires.served) (g.met.D.Disk.is_disk c.args.self.now.disk) (g.met.D.Disk.is_disk c.checkpoint_any-answer.new.self.disk) (fault_in (Checked c.args.freeze c.checkpoint_any-answer.result)) (Checked c.args.freeze c.checkpoint_any-answer.result) c.checkpoint_any-answer.ensures.did.did

pub returns-clause-crash : goal.returns-clause-crash
returns-clause-crash g c = crashes g.D.Disk.state c.args.self.now c.checkpoint_any-answer.new.self (c.is_served-before.ensures.lasts c.requires.served) (g.met.D.Disk.is_disk c.args.self.now.disk) (g.met.D.Disk.is_disk c.checkpoint_any-answer.new.self.disk) (fault_in (Checked c.args.freeze c.checkpoint_any-answer.result)) (Checked c.args.freeze c.checkpoint_any-answer.result) c.checkpoint_any-answer.ensures.did.did

pub returns-clause-counts : goal.returns-clause-counts
returns-clause-counts g c =
    counted g.D.Disk.state c.args.self.now c.checkpoint_any-answer.new.self (c.is_served-before.ensures.lasts c.requires.served) (g.met.D.Disk.is_disk c.args.self.now.disk) (g.met.D.Disk.is_disk c.checkpoint_any-answer.new.self.disk) (2 * c.args.self.now.machine.system.logs) (omega arith) c.checkpoint_any-answer.ensures.counts
