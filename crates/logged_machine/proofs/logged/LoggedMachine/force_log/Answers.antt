-- as callers see it
use Rattle.std.proofs.Common.{arith}
use Rattle.logged_machine.proofs.Doing.{counted, crashes_into, failed}
use Rattle.logged_machine.proofs.Appending.{on_err}
use Rattle.logged_machine.proofs.logged.LoggedMachine.force_log.Goals as goal

pub returns-clause-fault : goal.returns-clause-fault
returns-clause-fault g c = on_err c.force_any-forced.result (λ broke. failed g.D.Disk.state c.args.self.now c.force_any-forced.new.self (c.is_served-before.ensures.lasts c.requires.served) (g.met.D.Disk.is_disk c.args.self.now.disk) (g.met.D.Disk.is_disk c.force_any-forced.new.self.disk) broke c.force_any-forced.ensures.leaves) c.force_any-forced.ensures.broke

pub returns-clause-crash : goal.returns-clause-crash
returns-clause-crash g c = crashes_into g.D.Disk.state c.args.self.now c.force_any-forced.new.self (c.is_served-before.ensures.lasts c.requires.served) (g.met.D.Disk.is_disk c.args.self.now.disk) (g.met.D.Disk.is_disk c.force_any-forced.new.self.disk) c.force_any-forced.ensures.leaves

pub returns-clause-counts : goal.returns-clause-counts
returns-clause-counts g c = counted g.D.Disk.state c.args.self.now c.force_any-forced.new.self (c.is_served-before.ensures.lasts c.requires.served) (g.met.D.Disk.is_disk c.args.self.now.disk) (g.met.D.Disk.is_disk c.force_any-forced.new.self.disk) c.args.self.now.machine.system.logs (omega arith) c.force_any-forced.ensures.counts
