use Rattle.session_lives.specs.RegionTurns.{TurnsSoFar}
use Rattle.session_lives.proofs.turns.turn_while_left.Given as goal

abbrev pub invariant-loop-turns : goal.invariant-loop-turns
invariant-loop-turns g l = TurnsSoFar g.D.Disk.state l.turns l.fn.control l.control
