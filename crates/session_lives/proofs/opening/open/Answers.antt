-- by the refusal
use Rattle.std.proofs.Common.{◌≡◌, ◌∙◌, ap, subst, refl}
use Rattle.tm_disk.proofs.Words.{keeps_same}
use Rattle.openings.specs.LifeBeginning.{HandsBack}
use Rattle.model_machine.specs.Machine.{start_of}
use Rattle.model_machine.specs.History.{moment_after}
use Rattle.tm_control.specs.ClosedControl.{OpensControl}
use Rattle.session_lives.specs.Openings.{with_last_life, how_of, StandsAbove}
use Rattle.session_lives.proofs.Refusals.{refused_gone}
use Rattle.session_lives.proofs.opening.open.Goals as goal

pub returns-then-is_err-clause-gone : goal.returns-then-is_err-clause-gone
returns-then-is_err-clause-gone g c = record {
  after = c.args.idle;
  place = refl;
  system_is = refl;
  text_is = refl;
  last = refl;
  emptied = refl;
  stopped = refl;
  wrote = record { keeps = keeps_same (g.D.Disk.state c.args.idle.disk); no_fault = refl };
  lives = c.make_room.ensures.lives;
  stops = c.make_room.ensures.stops;
  pick = c.make_room.ensures.pick;
}

pub returns-in-Err-clause-gone : goal.returns-in-Err-clause-gone
returns-in-Err-clause-gone g c =
    refused_gone g.D.Disk.state c.args.idle c.args.kept c.make_room.new.self c.args.cold c.in-Err.refused.disk c.in-Err.refused.system c.in-Err.refused.text c.faults-began.result c.refuse.result.0
    c.faults-began.ensures c.in-Err.ensures.counts_back c.make_room.ensures.lives c.make_room.ensures.stops c.make_room.ensures.pick c.in-Err.refused.error c.refuse.result.1
    (subst (λ h. HandsBack g.D.Disk.state h c.args.idle.system c.args.idle.text c.args.idle.disk c.in-Err.refused.error c.in-Err.refused.disk c.in-Err.refused.system c.in-Err.refused.text) c.how.ensures c.in-Err.ensures.refused)
    c.refuse.ensures.refused c.refuse.ensures.opening

pub returns-in-Ok-clause-gone : goal.returns-in-Ok-clause-gone
returns-in-Ok-clause-gone g c =
    let control = c.in-Ok.control.control in
    let opens : OpensControl g.D.Disk.state (how_of c.args.cold) c.args.idle.system c.args.idle.text c.args.idle.disk c.in-Ok.control =
    subst (λ h. OpensControl g.D.Disk.state h c.args.idle.system c.args.idle.text c.args.idle.disk c.in-Ok.control) c.how.ensures c.in-Ok.ensures.opened in
    let steps : c.steps.result ≡ control.opening.steps = c.steps.ensures ∙ ap (λ h. (moment_after control.system (start_of control.system control.opening) h).lasting.steps) opens.history in
    record {
      control = c.in-Ok.control;
      place = refl;
      opens = opens;
      lasts = c.in-Ok.ensures.lasts;
      counts = c.in-Ok.ensures.counts;
      stands = subst (λ h. StandsAbove h c.args.idle.system (g.D.Disk.state c.args.idle.disk) c.in-Ok.control.journal c.in-Ok.control.next_unit) c.how.ensures c.in-Ok.ensures.stands;
      lives = c.keep.ensures.items ∙ ap (λ l. with_last_life l c.args.idle.last c.args.cold c.steps.result) c.make_room.ensures.lives
          ∙ ap (with_last_life c.args.kept.lives.items c.args.idle.last c.args.cold) steps;
      stops = c.make_room.ensures.stops;
      pick = c.make_room.ensures.pick;
    }
