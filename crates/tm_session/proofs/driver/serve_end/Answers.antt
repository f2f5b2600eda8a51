-- the line that was kept, if one was
use Rattle.std.proofs.Common.{◌≡◌, sym, subst}
use Rattle.std.specs.Prelude.{Some, None}
use Rattle.session_lives.proofs.Leading.{leads_map}
use Rattle.tm_session.specs.DrivenSession.{EndsWhole}
use Rattle.tm_session.proofs.driver.serve_end.Goals as goal

pub returns-in-None-clause-step : goal.returns-in-None-clause-step
returns-in-None-clause-step g c =
    let none : c.args.pending.now ≡ None = cc in
    leads_map g.D.Disk.state _ _ c.args.session.now c.force_end.new.session
    (λ setting x y one. subst (λ p. EndsWhole setting c.force_end.result p (g.K.Sink.written c.args.sink.now) (g.K.Sink.written c.force_end.new.sink) x y) (sym none) one)
    c.force_end.ensures.step

pub returns-in-Some-clause-step : goal.returns-in-Some-clause-step
returns-in-Some-clause-step g c =
    let some : c.args.pending.now ≡ Some c.in-Some.block = cc in
    leads_map g.D.Disk.state _ _ c.args.session.now c.serve_last.new.session
    (λ setting x y one. subst (λ p. EndsWhole setting c.serve_last.result p (g.K.Sink.written c.args.sink.now) (g.K.Sink.written c.serve_last.new.sink) x y) (sym some) one)
    c.serve_last.ensures.step
