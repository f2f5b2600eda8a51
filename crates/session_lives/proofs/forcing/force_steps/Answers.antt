-- where nothing waits all is forced
use Rattle.std.proofs.Common.{arith}
use Rattle.session_lives.proofs.Bound.{forced_already}
use Rattle.session_lives.proofs.Asked.{stays_so}
use Rattle.session_lives.proofs.Counting.{pace_none}
use Rattle.session_lives.proofs.forcing.force_steps.Goals as goal

pub returns-clause-forced : goal.returns-clause-forced
returns-clause-forced g c = forced_already g.D.Disk.state c.args.control.now c.requires.up c.is_up.ensures.lasts (omega (arith, c.front.ensures, c.forced.ensures))

pub returns-clause-pace : goal.returns-clause-pace
returns-clause-pace g c = pace_none g.D.Disk.state c.args.control.now

pub returns-clause-stays : goal.returns-clause-stays
returns-clause-stays g c = stays_so g.D.Disk.state c.args.control.now
