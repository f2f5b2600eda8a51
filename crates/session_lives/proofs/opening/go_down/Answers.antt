-- the disk as it was cut, and a stop more where it had failed
use Rattle.std.proofs.Common.{◌++◌, ◌∷◌, [], ◌∙◌, ap, subst, refl}
use Rattle.std.specs.Prelude.{if◌then◌else◌}
use Rattle.tm_control.specs.ClosedControl.{Closes}
use Rattle.session_lives.proofs.opening.go_down.Goals as goal

pub returns-clause-down : goal.returns-clause-down
returns-clause-down g c =
    let closes = c.into_disk-disk.ensures.closes in
    record {
      disk = c.into_disk-disk.result.disk;
      life = c.into_disk-disk.result.life;
      closes = subst (λ f. Closes c.args.control c.into_disk-disk.result.disk c.into_disk-disk.result.life c.into_disk-disk.result.system c.into_disk-disk.result.text f) closes.faults_are closes;
      lasts = c.into_disk-disk.ensures.lasts;
      last = refl;
      emptied = refl;
      stopped_is = refl;
      laid = record { same = c.cut.ensures.same; no_more = c.cut.ensures.no_more; faults = c.cut.ensures.faults };
      lives = refl;
      stops = c.note_stop.ensures
          ∙ ap (λ n. c.args.kept.now.stops.items ++ (if c.args.stopped then (n, c.faults.result) ∷ [] else [])) closes.faults_are
          ∙ ap (λ n. c.args.kept.now.stops.items ++ (if c.args.stopped then (c.args.control.began, n) ∷ [] else [])) c.faults.ensures;
    }
