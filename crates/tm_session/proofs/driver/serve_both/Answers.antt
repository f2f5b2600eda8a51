-- the line that was kept first, and then the next
use Rattle.session_lives.proofs.Leading.{leads_map, leads_then}
use Rattle.tm_session.proofs.Steps.{ends_first, both_step}
use Rattle.tm_session.proofs.driver.serve_both.Goals as goal

pub returns-in-None-clause-step : goal.returns-in-None-clause-step
returns-in-None-clause-step g c =
    leads_then g.D.Disk.state _ _ _ c.args.session.now c.serve_whole-failed.new.session c.begin_block.new.session
    (λ setting x y z one two. both_step setting c.args.block c.args.line (g.K.Sink.written c.args.sink.now) (g.K.Sink.written c.serve_whole-failed.new.sink) (g.K.Sink.written c.begin_block.new.sink) x y z
    c.requires.seen c.requires.plain c.begin_block.result c.begin_block.new.pending one two)
    (rw c.in-None.is at c.serve_whole-failed.ensures.step) c.begin_block.ensures.step

pub returns-clause-step : goal.returns-clause-step
returns-clause-step g c =
    leads_map g.D.Disk.state _ _ c.args.session.now c.serve_whole-failed.new.session
    (λ setting x y one. ends_first setting c.in-Some.ended c.args.block c.args.line (g.K.Sink.written c.args.sink.now) (g.K.Sink.written c.serve_whole-failed.new.sink) x y c.requires.seen c.requires.plain one)
    (rw c.in-Some.is at c.serve_whole-failed.ensures.step)
