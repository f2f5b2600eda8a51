use Rattle.std.proofs.Common.{sym, ap, ◌∙◌}
use Rattle.std.specs.Option.{is_some}
use Rattle.std.proofs.lemmas.Result.{IfOk-weaker}
use Rattle.log_replay.specs.SlotBytes.{with_change_said}
use Rattle.log_replay.proofs.Order.{changed}
use Rattle.log_replay.proofs.said.note_change.Goals as goal

pub returns-in-Some : goal.returns-in-Some
returns-in-Some c =
    IfOk-weaker c.add.result _ _ (λ _ e database slot. changed database slot c.args.place.0 c.args.place.1 c.args.counts c.args.before.now c.args.after.now c.args.said.now.entries _ c.add.new.said
    (e ∙ ap (with_change_said c.args.counts c.args.before.now c.args.after.now) c.in-Some.ensures.value)
    ((c.get_mut.follows.holds _).3 (sym (ap is_some c.in-Some.ensures.value))).0)
    c.add.ensures
