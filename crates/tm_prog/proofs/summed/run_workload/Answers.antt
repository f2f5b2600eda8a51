-- there was no memory for the text
use Rattle.tm_prog.proofs.Runs.{unbegun_workload}
use Rattle.tm_prog.proofs.summed.run_workload.Goals as goal

pub returns-in_default-clause-session : goal.returns-in_default-clause-session
returns-in_default-clause-session g c =
    unbegun_workload g.D.Disk.state c.args.workload (g.K.Sink.written c.args.sink.now) c.args.line.now.text c.args.disk c.unbegun.result.disk c.unbegun.result.status c.unbegun.result.lives c.unbegun.result.stops
    c.requires.fresh c.unbegun.ensures.status c.unbegun.ensures.lives c.unbegun.ensures.stops c.unbegun.ensures.disk
