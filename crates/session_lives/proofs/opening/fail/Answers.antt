-- the disk as it was cut, and one stop more
use Rattle.std.proofs.Common.{true, [], ◌∷◌, ◌++◌, ◌∙◌, ap, refl}
use Rattle.session_lives.proofs.opening.fail.Goals as goal

pub returns-clause-failed : goal.returns-clause-failed
returns-clause-failed g c = record {
  after = record { disk = c.cut.new.self; system = c.args.idle.system; text = c.args.idle.text; last = c.args.idle.last; emptied = c.or_cold.result; stopped = true };
  place = refl;
  system_is = refl;
  text_is = refl;
  last_is = refl;
  emptied_is = c.or_cold.ensures;
  stopped_is = refl;
  cut = c.cut.ensures;
  pick = refl;
  lives = refl;
  stops = c.push_reserved.ensures.items ∙ ap (λ n. c.args.kept.stops.items ++ (c.args.began, n) ∷ []) c.faults.ensures;
}
