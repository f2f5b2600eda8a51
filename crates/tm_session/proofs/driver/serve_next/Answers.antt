-- a line was read, or none
use Rattle.std.proofs.Common.{inl}
use Rattle.tm_edge.specs.Lines.{unread}
use Rattle.session_lives.proofs.Leading.{leads_same, leads_map}
use Rattle.tm_session.proofs.Reading.{next_step, stops_whole, unread_between, broken_unread}
use Rattle.tm_session.proofs.Taking.{back_served}
use Rattle.tm_session.proofs.driver.serve_next.Goals as goal

pub returns-in-Ok-Some-clause-step : goal.returns-in-Ok-Some-clause-step
returns-in-Ok-Some-clause-step g c =
    leads_map g.D.Disk.state _ _ c.args.session.now c.serve_read.new.session
    (λ setting x y one. next_step setting c.serve_read.result (unread c.args.lines.now (g.S.Source.left c.args.source.now)) (unread c.read_line.new.lines (g.S.Source.left c.read_line.new.source)) c.args.pending.now c.serve_read.new.pending c.in-Ok-Some.line
    (g.K.Sink.written c.args.sink.now) (g.K.Sink.written c.serve_read.new.sink) x y (rw c.in-Ok-Some.field-0-is at c.in-Ok-Some.ensures.line) one)
    c.serve_read.ensures.step

pub returns-in-Ok-Some-clause-back : goal.returns-in-Ok-Some-clause-back
returns-in-Ok-Some-clause-back g c = back_served _ _ _ c.in-Ok-Some.ensures.line

pub returns-in-Ok-Some-clause-whole : goal.returns-in-Ok-Some-clause-whole
returns-in-Ok-Some-clause-whole g c = broken_unread _ _ c.serve_read.ensures.broken

pub returns-in-Ok-None-clause-back : goal.returns-in-Ok-None-clause-back
returns-in-Ok-None-clause-back g c = back_served _ _ _ c.in-Ok-None.ensures.line

pub returns-in-Ok-None-clause-step : goal.returns-in-Ok-None-clause-step
returns-in-Ok-None-clause-step g c =
    leads_map g.D.Disk.state _ _ c.args.session.now c.serve_end-ended.new.session
    (λ setting x y one count below. inl (stops_whole setting c.serve_end-ended.result (unread c.args.lines.now (g.S.Source.left c.args.source.now)) (unread c.read_line.new.lines (g.S.Source.left c.read_line.new.source)) c.args.pending.now
    (g.K.Sink.written c.args.sink.now) (g.K.Sink.written c.serve_end-ended.new.sink) x y (rw c.in-Ok-None.field-0-is at c.in-Ok-None.ensures.line) one count))
    c.serve_end-ended.ensures.step

pub returns-in-Err-clause-step : goal.returns-in-Err-clause-step
returns-in-Err-clause-step g c =
    leads_same g.D.Disk.state _ c.args.session.now
    (λ setting x count below. inl (inl (unread_between c.in-Err.stopped (unread c.args.lines.now (g.S.Source.left c.args.source.now)) (unread c.read_line.new.lines (g.S.Source.left c.read_line.new.source)) c.read_line.new.lines
    (g.S.Source.faults c.args.source.now) (g.S.Source.faults c.read_line.new.source) (g.K.Sink.written c.args.sink.now) x c.in-Err.ensures.none_lost c.in-Err.ensures.unread count below)))
