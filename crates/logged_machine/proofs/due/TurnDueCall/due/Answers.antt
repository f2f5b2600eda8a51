use Rattle.std.proofs.Common.{◌∙◌, ap, subst}
use Rattle.tm_machine.specs.SlotChanges.{turn_records}
use Rattle.tm_machine.specs.Parts.{PartsState}
use Rattle.journal.specs.UnitNumbers.{unit_of_region}
use Rattle.logged_machine.specs.RecordsBehindLog.{Appends}
use Rattle.logged_machine.proofs.Behind.{behind, counts, may, written}
use Rattle.logged_machine.proofs.due.TurnDueCall.due.Goals as goal

pub write_told-requires-clause-can : goal.write_told-requires-clause-can
write_told-requires-clause-can g c =
    may g.D.Disk.state c.requires.logged c.next_snapshot.ensures.slots c.requires.counted c.in_ok-bytes.ensures.snapshot c.as_slice.ensures.value
    (c.system.ensures ∙ c.in-Ok-tell.ensures.does.answered.system ∙ ap (λ (p : PartsState). p.system) c.settle.ensures) (c.in-Ok.ensures ∙ c.stores.ensures.value)

pub returns-clause-behind : goal.returns-clause-behind
returns-clause-behind g c =
    behind g.D.Disk.state c.requires.logged c.next_snapshot.ensures.slots c.requires.counted c.in_ok-bytes.ensures.snapshot c.as_slice.ensures.value
    (c.system.ensures ∙ c.in-Ok-tell.ensures.does.answered.system ∙ ap (λ (p : PartsState). p.system) c.settle.ensures) (c.in-Ok.ensures ∙ c.stores.ensures.value)
    c.write_told.ensures.keeps.stays.size c.journal_apart-told.ensures
    (subst (λ (p : PartsState). Appends (turn_records p (unit_of_region c.args.units.now c.args.self.now.region) c.args.self.now.region) c.journal_apart-told.result c.tell.new.journal) c.settle.ensures c.in-Ok-tell.ensures.told)
    c.in_ok-write_told.ensures.done

pub returns-clause-counts : goal.returns-clause-counts
returns-clause-counts g c =
    counts g.D.Disk.state c.requires.logged c.next_snapshot.ensures.slots c.requires.counted c.in_ok-bytes.ensures.snapshot c.as_slice.ensures.value
    (c.system.ensures ∙ c.in-Ok-tell.ensures.does.answered.system ∙ ap (λ (p : PartsState). p.system) c.settle.ensures) (c.in-Ok.ensures ∙ c.stores.ensures.value)
    c.write_told.ensures.steps

pub returns-in_err-write_told-clause-counts : goal.returns-in_err-write_told-clause-counts
returns-in_err-write_told-clause-counts g c =
    counts g.D.Disk.state c.requires.logged c.next_snapshot.ensures.slots c.requires.counted c.in_ok-bytes.ensures.snapshot c.as_slice.ensures.value
    (c.system.ensures ∙ c.in-Ok-tell.ensures.does.answered.system ∙ ap (λ (p : PartsState). p.system) c.settle.ensures) (c.in-Ok.ensures ∙ c.stores.ensures.value)
    c.write_told.ensures.steps

pub returns-clause-writes : goal.returns-clause-writes
returns-clause-writes g c =
    written c.args.parts.now c.args.journal.now (g.D.Disk.state c.args.disk.now) (g.D.Disk.state c.write_told.new.disk)
    (c.system.ensures ∙ c.in-Ok-tell.ensures.does.answered.system ∙ ap (λ (p : PartsState). p.system) c.settle.ensures) (c.in-Ok.ensures ∙ c.stores.ensures.value) c.write_told.ensures.writes

pub returns-in_err-write_told-clause-writes : goal.returns-in_err-write_told-clause-writes
returns-in_err-write_told-clause-writes g c =
    written c.args.parts.now c.args.journal.now (g.D.Disk.state c.args.disk.now) (g.D.Disk.state c.write_told.new.disk)
    (c.system.ensures ∙ c.in-Ok-tell.ensures.does.answered.system ∙ ap (λ (p : PartsState). p.system) c.settle.ensures) (c.in-Ok.ensures ∙ c.stores.ensures.value) c.write_told.ensures.writes
