use Rattle.std.proofs.Common.{Ok}
use Rattle.log_records.specs.declared.untold.Untold.{Untold}
use Rattle.region_work.proofs.Going.{goes_so, tells_so, longer_so}
use Rattle.region_work.proofs.region.advance_unit.Goals as goal

pub returns-in-Ok-clause-advances : goal.returns-in-Ok-clause-advances
returns-in-Ok-clause-advances c =
    goes_so {E = Untold} c.args.system.now c.args.region c.args.code.now c.job_of-job.result c.args.databases.now c.advance.new.databases c.args.run.now c.advance.new.self (Ok c.in-Ok.advanced)
    c.job_of-job.ensures.value c.in-Ok.ensures.advances

pub returns-in-Ok-clause-tells : goal.returns-in-Ok-clause-tells
returns-in-Ok-clause-tells c =
    tells_so c.args.system.now c.args.region c.args.code.now c.job_of-job.result c.args.databases.now c.advance.new.databases c.args.run.now c.args.telling.now.unit c.args.telling.now.room c.args.telling.now.told.items c.advance.new.telling.told.items
    c.job_of-job.ensures.value c.in-Ok.ensures.tells

pub returns-in-Err-clause-full : goal.returns-in-Err-clause-full
returns-in-Err-clause-full c =
    longer_so c.args.system.now c.args.region c.args.code.now c.job_of-job.result c.args.databases.now c.args.run.now c.args.telling.now.unit c.args.telling.now.room c.in-Err.untold
    c.job_of-job.ensures.value c.in-Err.ensures.full
