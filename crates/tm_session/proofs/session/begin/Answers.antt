-- before the first life
use Rattle.std.proofs.Common.{false, refl}
use Rattle.std.specs.Prelude.{None}
use Rattle.tm_session.proofs.session.begin.Goals as goal

pub returns-clause-begun : goal.returns-clause-begun
returns-clause-begun g c = record {
  opening = c.open-session.result.1;
  idle = record { disk = c.args.disk; system = c.args.system; text = c.args.text; last = None; emptied = false; stopped = false };
  disk_is = refl;
  system_is = refl;
  text_is = refl;
  last_is = refl;
  emptied_is = refl;
  stopped_is = refl;
  kept = c.new.result;
  lives = c.new.ensures.lives;
  stops = c.new.ensures.stops;
  pick = c.new.ensures.pick;
  valid = c.logs.ensures.valid;
  gone = c.open-session.ensures.gone;
  ends = c.refusal.ensures;
}
