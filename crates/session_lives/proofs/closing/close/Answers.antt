-- by where the session stands
use Rattle.session_lives.proofs.Remaining.{closed_leaves}
use Rattle.session_lives.proofs.closing.close.Goals as goal

pub returns-clause-leaves : goal.returns-clause-leaves
returns-clause-leaves g c =
    closed_leaves g.D.Disk.state c.args.session c.hand_over.result.disk c.hand_over.result.lives.items c.hand_over.result.stops.items c.requires.ready c.hand_over.ensures.closed
