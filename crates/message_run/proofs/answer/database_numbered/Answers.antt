use Rattle.std.proofs.Common.{ℕ, ◌-◌, get_or, ap, ◌∙◌}
use Rattle.message_run.proofs.Database.{numbered_valid}
use Rattle.message_run.proofs.answer.database_numbered.Goals as goal

pub returns-clause-valid : goal.returns-clause-valid
returns-clause-valid c =
    numbered_valid c.args.system.now.databases c.databases.result.now (c.args.number - 1) c.index-databases-from.result c.databases.ensures.value c.databases.ensures.valid.databases c.requires.most
    (c.index-databases-from.is ∙ ap (λ (n : ℕ). get_or c.databases.result.now (n - 1) c.index-databases-from.result) c.from.ensures)
