use Rattle.std.proofs.Common.{ℕ, replicate, ap, refl, ◌∙◌}
use Rattle.model_data.specs.Data.{nowhere}
use Rattle.system_types.specs.Jobs.{lent_job}
use Rattle.std.specs.Option.{option_copied}
use Rattle.message_run.specs.WorkAhead.{given_with}
use Rattle.message_run.proofs.Steps.{start_is}
use Rattle.message_run.proofs.progress.Progress.start.Goals as goal

pub returns-clause-start : goal.returns-clause-start
returns-clause-start c = λ system.
    start_is (lent_job system c.args.job.now) (given_with c.args.message.now (option_copied c.args.pad))
    (record { calls = 0; machine = c.in_ok-machine.machine; work = c.in_ok-work.work; positions = c.in_ok-positions.positions.items })
    refl (ap (λ m. m.limit) c.in_ok-machine.ensures ∙ c.from-limit.ensures) (ap (λ m. m.script) c.in_ok-machine.ensures)
    c.in_ok-work.ensures (c.in_ok-positions.ensures ∙ ap (λ (n : ℕ). replicate n nowhere) c.len.ensures)
