-- as callers see it
use Rattle.std.proofs.Common.{◌*◌, arith, subst}
use Rattle.model_machine.specs.declared.entry.ControlCall.{ControlCall}
use Rattle.openings.specs.Faults.{fault_in}
use Rattle.logged_machine.specs.CallOutcome.{PendsBy}
use Rattle.logged_machine.specs.CheckpointDue.{TakesCheckpointWhereDue}
use Rattle.logged_machine.proofs.Doing.{counted, crashes, goes}
use Rattle.logged_machine.proofs.Unspent.{counted_now}
use Rattle.logged_machine.proofs.logged.LoggedMachine.serve.Goals as goal

pub serve_any-answer-requires-clause-counted : goal.serve_any-answer-requires-clause-counted
serve_any-answer-requires-clause-counted g c = counted_now c.args.self.now.machine.moment.lasting c.args.self.now.next_unit c.args.self.now.journal c.requires.unspent

pub returns-clause-goes : goal.returns-clause-goes
returns-clause-goes g c = goes g.D.Disk.state c.args.self.now c.serve_any-answer.new.self (c.is_served-before.ensures.lasts c.requires.served) (g.met.D.Disk.is_disk c.args.self.now.disk) (g.met.D.Disk.is_disk c.serve_any-answer.new.self.disk) (fault_in (g.C.Call.entry c.args.call.now c.serve_any-answer.result)) (g.C.Call.entry c.args.call.now c.serve_any-answer.result) c.serve_any-answer.ensures.did.did.did

pub returns-clause-crash : goal.returns-clause-crash
returns-clause-crash g c = crashes g.D.Disk.state c.args.self.now c.serve_any-answer.new.self (c.is_served-before.ensures.lasts c.requires.served) (g.met.D.Disk.is_disk c.args.self.now.disk) (g.met.D.Disk.is_disk c.serve_any-answer.new.self.disk) (fault_in (g.C.Call.entry c.args.call.now c.serve_any-answer.result)) (g.C.Call.entry c.args.call.now c.serve_any-answer.result) c.serve_any-answer.ensures.did.did.did

pub returns-clause-counts : goal.returns-clause-counts
returns-clause-counts g c =
    counted g.D.Disk.state c.args.self.now c.serve_any-answer.new.self (c.is_served-before.ensures.lasts c.requires.served) (g.met.D.Disk.is_disk c.args.self.now.disk) (g.met.D.Disk.is_disk c.serve_any-answer.new.self.disk) (2 * c.args.self.now.machine.system.logs) (omega arith) c.serve_any-answer.ensures.did.counts

pub returns-clause-frugal : goal.returns-clause-frugal
returns-clause-frugal g c =
    subst (λ (call : ControlCall). TakesCheckpointWhereDue g.D.Disk.state (fault_in (g.C.Call.entry c.args.call.now c.serve_any-answer.result)) c.args.self.now.machine c.args.self.now.units call c.args.self.now.journal c.serve_any-answer.new.self.journal c.args.self.now.disk c.serve_any-answer.new.self.disk)
    (g.met.C.Call.of_call c.args.call.now c.serve_any-answer.result) c.serve_any-answer.ensures.did.frugal

pub returns-clause-pends : goal.returns-clause-pends
returns-clause-pends g c =
    subst (λ (call : ControlCall). PendsBy g.D.Disk.state (fault_in (g.C.Call.entry c.args.call.now c.serve_any-answer.result)) call c.args.self.now c.serve_any-answer.new.self)
    (g.met.C.Call.of_call c.args.call.now c.serve_any-answer.result) c.serve_any-answer.ensures.did.pends
