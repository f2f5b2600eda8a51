use Rattle.std.proofs.Common.{List, ◌∙◌, ap, subst}
use Rattle.log_records.specs.declared.record.Record.{Record}
use Rattle.program_rows.specs.SlotsState.{slots_stores, slots_state_of}
use Rattle.program_rows.specs.DatabasesState.{DatabasesState}
use Rattle.logged_machine.specs.ToldCalls.{may_change}
use Rattle.logged_machine.specs.RecordsBehindLog.{Appends}
use Rattle.logged_machine.proofs.Behind.{behind, counts, has_settled, may, written}
use Rattle.logged_machine.proofs.Still.{does_settled, records_settled, still}
use Rattle.logged_machine.proofs.due.still_due.Goals as goal

pub write_parts-requires-clause-can : goal.write_parts-requires-clause-can
write_parts-requires-clause-can g c =
    may g.D.Disk.state c.requires.logged c.next_snapshot.ensures.slots c.requires.counted c.in_ok-bytes.ensures.snapshot c.as_slice.ensures.value c.in-Ok.ensures.does.answered.system
    (ap (λ (d : DatabasesState). slots_stores (slots_state_of d)) (still c.args.units.now (g.C.Call.entry c.args.call.now c.in-Ok.answer) c.args.parts.now c.tell.new.parts (ap may_change (g.met.C.Call.of_call c.args.call.now c.in-Ok.answer) ∙ c.requires.still) c.in-Ok.ensures.does.does))

pub returns-clause-behind : goal.returns-clause-behind
returns-clause-behind g c =
    behind g.D.Disk.state c.requires.logged c.next_snapshot.ensures.slots c.requires.counted c.in_ok-bytes.ensures.snapshot c.as_slice.ensures.value c.in-Ok.ensures.does.answered.system
    (ap (λ (d : DatabasesState). slots_stores (slots_state_of d)) (still c.args.units.now (g.C.Call.entry c.args.call.now c.in-Ok.answer) c.args.parts.now c.tell.new.parts (ap may_change (g.met.C.Call.of_call c.args.call.now c.in-Ok.answer) ∙ c.requires.still) c.in-Ok.ensures.does.does))
    c.write_parts.ensures.keeps.stays.size c.journal_apart-told.ensures
    (subst (λ (rs : List Record). Appends rs c.journal_apart-told.result c.tell.new.journal) (records_settled c.args.parts.now c.args.units.now (g.C.Call.call c.args.call.now) c.requires.still) c.in-Ok.ensures.told)
    c.in_ok-write_parts.ensures.done

pub returns-clause-does : goal.returns-clause-does
returns-clause-does g c =
    does_settled c.args.units.now (g.C.Call.entry c.args.call.now c.in-Ok.answer) c.args.parts.now c.tell.new.parts c.write_parts.new.parts
    (ap may_change (g.met.C.Call.of_call c.args.call.now c.in-Ok.answer) ∙ c.requires.still) c.in_ok-write_parts.ensures.settled c.in-Ok.ensures.does

pub returns-clause-before : goal.returns-clause-before
returns-clause-before g c = has_settled c.args.parts.now c.next_snapshot.ensures.slots

pub returns-clause-system : goal.returns-clause-system
returns-clause-system g c = c.write_parts.ensures.system ∙ c.in-Ok.ensures.does.answered.system

pub returns-in_err-write_parts-clause-system : goal.returns-in_err-write_parts-clause-system
returns-in_err-write_parts-clause-system g c = c.write_parts.ensures.system ∙ c.in-Ok.ensures.does.answered.system

pub returns-clause-counts : goal.returns-clause-counts
returns-clause-counts g c =
    counts g.D.Disk.state c.requires.logged c.next_snapshot.ensures.slots c.requires.counted c.in_ok-bytes.ensures.snapshot c.as_slice.ensures.value c.in-Ok.ensures.does.answered.system
    (ap (λ (d : DatabasesState). slots_stores (slots_state_of d)) (still c.args.units.now (g.C.Call.entry c.args.call.now c.in-Ok.answer) c.args.parts.now c.tell.new.parts (ap may_change (g.met.C.Call.of_call c.args.call.now c.in-Ok.answer) ∙ c.requires.still) c.in-Ok.ensures.does.does))
    c.write_parts.ensures.steps

pub returns-in_err-write_parts-clause-counts : goal.returns-in_err-write_parts-clause-counts
returns-in_err-write_parts-clause-counts g c =
    counts g.D.Disk.state c.requires.logged c.next_snapshot.ensures.slots c.requires.counted c.in_ok-bytes.ensures.snapshot c.as_slice.ensures.value c.in-Ok.ensures.does.answered.system
    (ap (λ (d : DatabasesState). slots_stores (slots_state_of d)) (still c.args.units.now (g.C.Call.entry c.args.call.now c.in-Ok.answer) c.args.parts.now c.tell.new.parts (ap may_change (g.met.C.Call.of_call c.args.call.now c.in-Ok.answer) ∙ c.requires.still) c.in-Ok.ensures.does.does))
    c.write_parts.ensures.steps

pub returns-clause-writes : goal.returns-clause-writes
returns-clause-writes g c =
    written c.args.parts.now c.args.journal.now (g.D.Disk.state c.args.disk.now) (g.D.Disk.state c.write_parts.new.disk) c.in-Ok.ensures.does.answered.system
    (ap (λ (d : DatabasesState). slots_stores (slots_state_of d)) (still c.args.units.now (g.C.Call.entry c.args.call.now c.in-Ok.answer) c.args.parts.now c.tell.new.parts (ap may_change (g.met.C.Call.of_call c.args.call.now c.in-Ok.answer) ∙ c.requires.still) c.in-Ok.ensures.does.does)) c.write_parts.ensures.writes

pub returns-in_err-write_parts-clause-writes : goal.returns-in_err-write_parts-clause-writes
returns-in_err-write_parts-clause-writes g c =
    written c.args.parts.now c.args.journal.now (g.D.Disk.state c.args.disk.now) (g.D.Disk.state c.write_parts.new.disk) c.in-Ok.ensures.does.answered.system
    (ap (λ (d : DatabasesState). slots_stores (slots_state_of d)) (still c.args.units.now (g.C.Call.entry c.args.call.now c.in-Ok.answer) c.args.parts.now c.tell.new.parts (ap may_change (g.met.C.Call.of_call c.args.call.now c.in-Ok.answer) ∙ c.requires.still) c.in-Ok.ensures.does.does)) c.write_parts.ensures.writes
