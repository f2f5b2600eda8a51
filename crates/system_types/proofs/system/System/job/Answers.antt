use Rattle.std.proofs.Common.{◌≡◌}
use Rattle.std.specs.Option.{option_copied, option_map}
use Rattle.model_system.specs.Jobs.{job_of}
use Rattle.system_types.specs.Jobs.{lent_job}
use Rattle.system_types.specs.Parts.{system_of_parts}
use Rattle.system_types.proofs.Served.{is_lent, job_by_places, lent_padded, lent_sent, lent_serves}
use Rattle.system_types.proofs.system.System.job.Goals as goal

lent_is : (c : goal.After-job_of) → option_map (lent_job (system_of_parts c.self.inside.parts)) c.job_of.result ≡ job_of (system_of_parts c.self.inside.parts) c.args.code.now
lent_is c =
    job_by_places (system_of_parts c.self.inside.parts) c.args.code.now c.self.inside.program_places.items c.job_of.result (option_copied c.code_at.result) (option_copied c.program_at.result)
    c.code_place-place.result c.self.invariant.3 (rw (← c.self.view_is) at c.code_place-place.ensures.value) (rw c.deref.ensures.value at c.code_at.ensures)
    (rw (c.deref-2.ensures.value, c.deref-3.ensures.value) at c.program_at.ensures) (c.job_of.ensures (system_of_parts c.self.inside.parts))

pub returns-clause-value : goal.returns-clause-value
returns-clause-value c = rw (← c.self.view_is) (lent_is c)

pub returns-clause-there : goal.returns-clause-there
returns-clause-there c = rw (← c.self.view_is) (is_lent (system_of_parts c.self.inside.parts) c.args.code.now c.job_of.result c.self.invariant.0.served (lent_is c))

pub returns-clause-servable : goal.returns-clause-servable
returns-clause-servable c = rw (← c.self.view_is) (lent_serves (system_of_parts c.self.inside.parts) c.args.code.now c.job_of.result c.self.invariant.0 (lent_is c))

pub returns-clause-sent : goal.returns-clause-sent
returns-clause-sent c = rw (← c.self.view_is) (lent_sent (system_of_parts c.self.inside.parts) c.args.code.now c.job_of.result c.self.invariant.0 (lent_is c))

pub returns-clause-pad : goal.returns-clause-pad
returns-clause-pad c = lent_padded (system_of_parts c.self.inside.parts) c.args.code.now c.job_of.result c.self.invariant.0 (lent_is c)
