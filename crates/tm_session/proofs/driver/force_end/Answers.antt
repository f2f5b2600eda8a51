-- it was forced, or of a failed force was told
use Rattle.std.proofs.Common.{refl, sym, subst}
use Rattle.std.specs.Prelude.{None}
use Rattle.session_lives.proofs.Leading.{leads_map}
use Rattle.tm_session.specs.DrivenSession.{EndsWhole}
use Rattle.tm_session.proofs.Steps.{whole_forced, whole_broke}
use Rattle.tm_session.proofs.driver.force_end.Goals as goal

pub returns-in-Forced-clause-step : goal.returns-in-Forced-clause-step
returns-in-Forced-clause-step g c =
    leads_map g.D.Disk.state _ _ c.args.session.now c.end_source.new.session
    (λ setting x y one. whole_forced setting (g.K.Sink.written c.args.sink.now) (g.K.Sink.written c.args.sink.now) x y one refl)
    (rw c.in-Forced.is at c.end_source.ensures.ended)

pub returns-in-Broke-clause-step : goal.returns-in-Broke-clause-step
returns-in-Broke-clause-step g c =
    leads_map g.D.Disk.state _ _ c.args.session.now c.end_source.new.session
    (λ setting x y one. subst (λ s. EndsWhole setting s None (g.K.Sink.written c.args.sink.now) (g.K.Sink.written c.write-failed.new.sink) x y) (sym c.end_by.ensures)
    (whole_broke setting (g.K.Sink.written c.args.sink.now) (g.K.Sink.written c.write-failed.new.sink) x y c.write-failed.result one c.write-failed.ensures.written))
    (rw c.in-Broke.is at c.end_source.ensures.ended)
