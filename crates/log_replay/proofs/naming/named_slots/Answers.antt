use Rattle.std.proofs.Common.{ap, ◌∙◌}
use Rattle.std.specs.BTreeSet.{contains}
use Rattle.std.specs.Ordering.{nat_cmp}
use Rattle.std.proofs.lemmas.Result.{IfOk-weaker}
use Rattle.log_replay.specs.SlotBytes.{said_at, with_records_said}
use Rattle.log_replay.proofs.Named.{are_named}
use Rattle.log_replay.proofs.naming.named_slots.Goals as goal

pub returns : goal.returns
returns c =
    let counts = contains nat_cmp c.in_ok-units.units in
    let changes = c.args.changes.now in
    let log = c.args.log.now in
    IfOk-weaker c.slots_of.result _ _
    (λ slots are. are_named counts changes log c.note_all-2.new.said.entries slots.items c.in_ok-units.ensures c.slots_of.ensures.ordered are
    (λ d s. c.in_ok-note_all-2.ensures d s ∙ ap (with_records_said counts d s log) (c.in_ok-note_all.ensures d s ∙ ap (λ entries. with_records_said counts d s changes (said_at d s entries)) c.new-said.ensures.empty)))
    c.slots_of.ensures.value
