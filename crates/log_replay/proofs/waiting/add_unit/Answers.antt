use Rattle.std.proofs.Common.{[], ◌∷◌, ◌++◌, Some, sym, ap, ◌∙◌}
use Rattle.std.specs.Option.{unwrap_or}
use Rattle.log_replay.proofs.UnitRecords.{changed}
use Rattle.log_replay.proofs.waiting.add_unit.Goals as goal

pub returns-in-Ok : goal.returns-in-Ok
returns-in-Ok c =
    changed c.args.unit (λ records. records ++ c.args.r ∷ []) c.args.units.now.entries c.insert.new.self.entries (Some c.push.new.self)
    (c.in_ok-push.ensures ∙ (ap (λ records. records ++ c.args.r ∷ []) c.new-records.ensures ∙ ap (λ o. unwrap_or o [] ++ c.args.r ∷ []) (sym c.requires)))
    c.in-Ok.ensures.updates.0
