-- it was served, and what lasts was forced; or not
use Rattle.session_lives.proofs.Leading.{leads_map, leads_then}
use Rattle.tm_session.proofs.Steps.{whole_behind, whole_failed}
use Rattle.tm_session.proofs.driver.serve_last.Goals as goal

pub returns-in-None-clause-step : goal.returns-in-None-clause-step
returns-in-None-clause-step g c =
    leads_then g.D.Disk.state _ _ _ c.args.session.now c.serve_whole-failed.new.session c.force_end.new.session
    (λ setting x y z one two. whole_behind setting c.force_end.result c.args.block.now (g.K.Sink.written c.args.sink.now) (g.K.Sink.written c.serve_whole-failed.new.sink) (g.K.Sink.written c.force_end.new.sink) x y z one two)
    (rw c.in-None.is at c.serve_whole-failed.ensures.step) c.force_end.ensures.step

pub returns-in-Some-clause-step : goal.returns-in-Some-clause-step
returns-in-Some-clause-step g c =
    leads_map g.D.Disk.state _ _ c.args.session.now c.serve_whole-failed.new.session
    (λ setting x y one. whole_failed setting c.in-Some.ended c.args.block.now (g.K.Sink.written c.args.sink.now) (g.K.Sink.written c.serve_whole-failed.new.sink) x y one)
    (rw c.in-Some.is at c.serve_whole-failed.ensures.step)
