use Rattle.std.proofs.Common.{◌-◌, List, sym, subst, ap, ◌∙◌}
use Rattle.std.specs.Prelude.{max}
use Rattle.log_records.specs.declared.record.Record.{Record}
use Rattle.model_image.specs.Counters.{greatest_unit}
use Rattle.image_records.specs.RecordAnswers.{SnapshotState, IsSnapshotStateOf}
use Rattle.image_records.specs.NamedSlots.{AreSlotsNamed}
use Rattle.model_image.specs.Replay.{replay_of}
use Rattle.log_replay.specs.ReplayRules.{AreSound, lasting_in}
use Rattle.log_replay.specs.ReplayedLog.{ReplayEnds}
use Rattle.log_replay.proofs.Tables.{sound_tables}
use Rattle.log_replay.proofs.Answered.{comes_to, breaks}
use Rattle.log_replay.proofs.whole_log.replay_log.Goals as goal

pub replay_all-requires : goal.replay_all-requires
replay_all-requires c =
    subst (λ (s : SnapshotState). AreSound c.args.system.now s.kept) (sym c.snapshot.view_is) (sound_tables c.args.system.now c.requires.0 c.args.snapshot.kept c.requires.1.kept)

pub returns-in-Ok-Some : goal.returns-in-Ok-Some
returns-in-Ok-Some c bytes cut_is decides records images of =
    let s : SnapshotState = record { kept = c.snapshot.inside.kept; changes = c.snapshot.inside.changes.items; next_unit = c.snapshot.inside.next_unit } in
    let cut = c.args.log.items in
    let slots = c.in-Ok.slots.items in
    comes_to c.args.system.now records s bytes (subst (IsSnapshotStateOf c.args.system.now records) (sym c.snapshot.view_is) of)
    c.args.is_cut_off decides c.if-not-is_cut_off.false cut cut_is
    c.in-Ok-Some.kept slots c.last_unit-last_unit.result images
    (subst (ReplayEnds c.args.system.now (replay_of c.args.system.now cut (lasting_in c.args.system.now s.kept))) c.in-Ok-Some.field-0-is c.in-Ok-Some.ensures)
    (subst (λ (cs : List Record). AreSlotsNamed cs cut slots) c.deref.ensures.value (subst (λ (ls : List Record). AreSlotsNamed c.deref.result.now ls slots) c.deref-2.ensures.value c.in-Ok.ensures))
    (c.last_unit-last_unit.ensures ∙ ap (λ (rs : List Record). max (s.next_unit - 1) (greatest_unit rs)) c.deref-3.ensures.value)

pub returns-in-Ok-None : goal.returns-in-Ok-None
returns-in-Ok-None c bytes cut_is decides records images of =
    let s : SnapshotState = record { kept = c.snapshot.inside.kept; changes = c.snapshot.inside.changes.items; next_unit = c.snapshot.inside.next_unit } in
    breaks c.args.system.now records s bytes (subst (IsSnapshotStateOf c.args.system.now records) (sym c.snapshot.view_is) of)
    c.args.is_cut_off decides c.if-not-is_cut_off.false c.args.log.items cut_is
    (subst (ReplayEnds c.args.system.now (replay_of c.args.system.now c.args.log.items (lasting_in c.args.system.now s.kept))) c.in-Ok-None.field-0-is c.in-Ok-None.ensures)
