-- What serves the messages of a code, as the system lends it.
use Rattle.model_system.specs.Jobs as model
use Rattle.model_system.specs.System.{System}
use Rattle.system_types.specs.declared.job.Job.{Job}

-- the job that is lent, of this system
abbrev pub lent_job : System → Job → model.Job
lent_job system job = record { system = system; transaction = job.transaction.now; lines = job.program.now; pcbs = job.pcbs.now }
