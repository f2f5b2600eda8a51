-- a checkpoint that was taken, or not
use Rattle.std.proofs.Common.{ℕ, false, Err, Result, IfErr, IfOk, OnOk, sym, subst}
use Rattle.model_machine.specs.declared.entry.CheckpointRefused.{CheckpointRefused}
use Rattle.model_machine.specs.declared.entry.CheckpointRefused.TheVariants.{Fault}
use Rattle.model_machine.specs.declared.entry.Entry.TheVariants.{Checked}
use Rattle.logged_machine.specs.Attempts.{Did}
use Rattle.logged_machine.specs.CallOutcome.{PendsAnew}
use Rattle.openings.specs.Faults.{fault_in}
use Rattle.logged_machine.specs.TakenCheckpoint.{IsTaken, LeavesSettled, StaysUntaken}
use Rattle.logged_machine.proofs.Checked.{is_taken, leaves_settled, stays_untaken, taken_did, untaken_most}
use Rattle.logged_machine.proofs.Checkpointed.{unrefreshed}
use Rattle.logged_machine.proofs.Frugality.{checked_counts, checked_pends, checked_raises, unchecked_counts, unchecked_raises}
use Rattle.logged_machine.proofs.logged.LoggedMachine.checkpoint_free.Goals as goal

pub number_taken-requires-clause-served : goal.number_taken-requires-clause-served
number_taken-requires-clause-served g c = c.in-Ok.ensures.done.stood.served

pub number_taken-requires-clause-place : goal.number_taken-requires-clause-place
number_taken-requires-clause-place g c = c.in-Ok.ensures.done.place

pub returns-in-Ok-clause-did : goal.returns-in-Ok-clause-did
returns-in-Ok-clause-did g c =
    subst (λ (r : Result ℕ CheckpointRefused). Did g.D.Disk.state (fault_in (Checked c.args.freeze r)) c.args.self.now c.refresh.new.self (Checked c.args.freeze r)) (sym c.number_taken.ensures.value)
    (taken_did g.D.Disk.state c.args.self.now c.refresh.new.self c.args.freeze c.refresh.new.self.journal.restart.checkpoint c.requires.stays c.requires.free c.in-Ok.ensures.done)

pub returns-in-Ok-clause-forced : goal.returns-in-Ok-clause-forced
returns-in-Ok-clause-forced g c =
    subst (λ (r : Result ℕ CheckpointRefused). OnOk r (PendsAnew g.D.Disk.state false c.args.self.now c.refresh.new.self)) (sym c.number_taken.ensures.value) (checked_pends g.D.Disk.state c.args.self.now c.refresh.new.self c.in-Ok.ensures.done)

pub returns-in-Ok-clause-taken : goal.returns-in-Ok-clause-taken
returns-in-Ok-clause-taken g c =
    subst (λ (r : Result ℕ CheckpointRefused). IfOk r (λ number. IsTaken c.refresh.new.self.machine.system number c.args.self.now.journal c.refresh.new.self.journal (g.D.Disk.state c.refresh.new.self.disk))) (sym c.number_taken.ensures.value)
    (is_taken g.D.Disk.state c.args.self.now c.refresh.new.self c.number_taken.ensures.images c.in-Ok.ensures.done)

pub returns-in-Err-clause-did : goal.returns-in-Err-clause-did
returns-in-Err-clause-did g c = unrefreshed g.D.Disk.state c.args.self.now c.refresh.new.self (Checked c.args.freeze (Err (Fault c.in-Err.fault))) c.in-Err.fault c.requires.served c.in-Err.ensures.fault

pub returns-in-Ok-clause-raises : goal.returns-in-Ok-clause-raises
returns-in-Ok-clause-raises g c = λ up. checked_raises g.D.Disk.state c.args.self.now c.refresh.new.self c.in-Ok.ensures.done

pub returns-in-Err-clause-raises : goal.returns-in-Err-clause-raises
returns-in-Err-clause-raises g c = λ up. unchecked_raises g.D.Disk.state c.args.self.now c.refresh.new.self c.in-Err.fault c.in-Err.ensures.fault up

pub returns-in-Ok-clause-counts : goal.returns-in-Ok-clause-counts
returns-in-Ok-clause-counts g c = checked_counts g.D.Disk.state c.args.self.now c.refresh.new.self c.in-Ok.ensures.done

pub returns-in-Err-clause-counts : goal.returns-in-Err-clause-counts
returns-in-Err-clause-counts g c = unchecked_counts g.D.Disk.state c.args.self.now c.refresh.new.self c.in-Err.fault c.in-Err.ensures.fault

pub returns-in-Ok-clause-refused : goal.returns-in-Ok-clause-refused
returns-in-Ok-clause-refused g c =
    subst (λ (r : Result ℕ CheckpointRefused). IfErr r (λ refusal. StaysUntaken refusal c.args.self.now c.refresh.new.self)) (sym c.number_taken.ensures.value) tt

pub returns-in-Err-clause-refused : goal.returns-in-Err-clause-refused
returns-in-Err-clause-refused g c = stays_untaken g.D.Disk.state c.args.self.now c.refresh.new.self c.in-Err.fault c.in-Err.ensures.fault

pub returns-in-Ok-clause-settled : goal.returns-in-Ok-clause-settled
returns-in-Ok-clause-settled g c =
    subst
    (λ (r : Result ℕ CheckpointRefused).
    OnOk r (LeavesSettled c.args.self.now.machine.databases c.refresh.new.self.machine.databases c.args.self.now.units c.refresh.new.self.units c.args.self.now.next_unit c.refresh.new.self.next_unit))
    (sym c.number_taken.ensures.value) (leaves_settled g.D.Disk.state c.args.self.now c.refresh.new.self c.in-Ok.ensures.done)

pub returns-in-Ok-clause-writes : goal.returns-in-Ok-clause-writes
returns-in-Ok-clause-writes g c = c.in-Ok.ensures.done.most

pub returns-in-Err-clause-writes : goal.returns-in-Err-clause-writes
returns-in-Err-clause-writes g c = untaken_most g.D.Disk.state c.args.self.now c.refresh.new.self c.in-Err.fault c.in-Err.ensures.fault
