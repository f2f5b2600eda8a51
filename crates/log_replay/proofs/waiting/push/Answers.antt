use Rattle.std.proofs.Common.{[], ◌∷◌, ◌++◌, Some, sym, ap, ◌∙◌}
use Rattle.std.specs.Option.{is_some, unwrap_or}
use Rattle.std.proofs.lemmas.Result.{IfOk-weaker}
use Rattle.log_replay.proofs.UnitRecords.{changed}
use Rattle.log_replay.proofs.waiting.push.Goals as goal

pub returns-in-Some : goal.returns-in-Some
returns-in-Some c =
    IfOk-weaker c.push.result _ _ (λ _ e. changed c.args.unit (λ records. records ++ c.args.r ∷ []) c.args.units.now.entries _ (Some c.push.new.self)
    (e ∙ ap (λ o. unwrap_or o [] ++ c.args.r ∷ []) c.in-Some.ensures.value)
    ((c.get_mut.follows.holds _).3 (sym (ap is_some c.in-Some.ensures.value))).0)
    c.push.ensures
