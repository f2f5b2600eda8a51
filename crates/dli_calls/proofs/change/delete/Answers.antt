use Rattle.std.proofs.Common.{sym}
use Rattle.dli_calls.proofs.OwnChanges.{held_some, delete_unmade, delete_made}
use Rattle.dli_calls.proofs.change.delete.Goals as goal

pub returns-in-Some-delete_fault-clause-planned : goal.returns-in-Some-delete_fault-clause-planned
returns-in-Some-delete_fault-clause-planned c = λ rows h.
    delete_unmade c.args.dbd.now c.args.at rows c.args.seen.now c.in-Some.held c.in-Some.is h c.in-Some-delete_fault.status c.answer_at-in-Some-delete_fault.result
    (sym c.in-Some-delete_fault.ensures) c.answer_at-in-Some-delete_fault.ensures

pub returns-clause-planned : goal.returns-clause-planned
returns-clause-planned c = λ rows h.
    delete_made c.args.dbd.now c.args.at rows c.args.seen.now c.in-Some.held c.in-Some.is h c.in-Some-root.root c.in_ok-image.image c.set_record.result
    (held_some c.args.dbd.now c.args.at c.in-Some.held c.requires c.in-Some.is)
    (sym c.in_default-delete_fault.ensures) (sym c.in-Some-root.ensures.value) c.in_ok-image.ensures c.set_record.ensures
