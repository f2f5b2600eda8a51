-- by whether the disk failed
use Rattle.std.proofs.Common.{ap, length, arith}
use Rattle.session_lives.proofs.Bound.{forced_behind, history_one}
use Rattle.session_lives.proofs.Counting.{pace_forced}
use Rattle.session_lives.proofs.forcing.force.Goals as goal

pub returns-in-Ok-clause-forced : goal.returns-in-Ok-clause-forced
returns-in-Ok-clause-forced g c = forced_behind g.D.Disk.state c.args.control.now c.force_log.new.self c.requires.up c.is_up.ensures.lasts c.in-Ok.ensures.forces

pub returns-in-Err-clause-forced : goal.returns-in-Err-clause-forced
returns-in-Err-clause-forced g c = record { broke = c.in-Err.ensures.broke; forced = c.in-Err.ensures.as_forced }

pub returns-in-Ok-clause-pace : goal.returns-in-Ok-clause-pace
returns-in-Ok-clause-pace g c =
    pace_forced g.D.Disk.state c.args.control.now c.force_log.new.self c.requires.up (g.met.D.Disk.is_disk c.force_log.new.self.disk) c.force_log.ensures.stays c.force_log.ensures.raises c.force_log.ensures.counts
    (omega (arith, ap (λ es. length es) c.in-Ok.ensures.forces.adds.history))

pub returns-in-Err-clause-pace : goal.returns-in-Err-clause-pace
returns-in-Err-clause-pace g c =
    pace_forced g.D.Disk.state c.args.control.now c.force_log.new.self c.requires.up (g.met.D.Disk.is_disk c.force_log.new.self.disk) c.force_log.ensures.stays c.force_log.ensures.raises c.force_log.ensures.counts
    (history_one c.args.control.now.control c.force_log.new.self.control _ c.in-Err.ensures.broke.history)
