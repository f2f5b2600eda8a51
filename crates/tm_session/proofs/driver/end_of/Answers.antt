-- behind the last line
use Rattle.std.proofs.Common.{inl, sym, subst}
use Rattle.tm_edge.specs.Lines.{unread}
use Rattle.session_lives.proofs.Leading.{leads_same, leads_map}
use Rattle.tm_session.specs.DrivenSession.{StopsBetween}
use Rattle.tm_session.proofs.Reading.{past_between, stops_whole, last_between}
use Rattle.tm_session.proofs.Taking.{back_served}
use Rattle.tm_session.proofs.driver.end_of.Goals as goal

pub returns-in-Ok-Some-clause-step : goal.returns-in-Ok-Some-clause-step
returns-in-Ok-Some-clause-step g c =
    leads_same g.D.Disk.state _ c.args.session.now
    (λ setting x. inl (past_between (unread c.args.lines.now (g.S.Source.left c.args.source.now)) (unread c.read_line.new.lines (g.S.Source.left c.read_line.new.source)) c.in-Ok-Some.field-0-0 (g.K.Sink.written c.args.sink.now) x (rw c.in-Ok-Some.field-0-is at c.in-Ok-Some.ensures.line)))

pub returns-in-Ok-Some-clause-back : goal.returns-in-Ok-Some-clause-back
returns-in-Ok-Some-clause-back g c = back_served _ _ _ c.in-Ok-Some.ensures.line

pub returns-in-Ok-None-clause-back : goal.returns-in-Ok-None-clause-back
returns-in-Ok-None-clause-back g c = back_served _ _ _ c.in-Ok-None.ensures.line

pub returns-in-Ok-None-clause-step : goal.returns-in-Ok-None-clause-step
returns-in-Ok-None-clause-step g c =
    leads_map g.D.Disk.state _ _ c.args.session.now c.serve_end.new.session
    (λ setting x y one. stops_whole setting c.serve_end.result (unread c.args.lines.now (g.S.Source.left c.args.source.now)) (unread c.read_line.new.lines (g.S.Source.left c.read_line.new.source)) c.args.pending.now (g.K.Sink.written c.args.sink.now) (g.K.Sink.written c.serve_end.new.sink) x y
    (rw c.in-Ok-None.field-0-is at c.in-Ok-None.ensures.line) one 1000000)
    c.serve_end.ensures.step

pub returns-clause-step : goal.returns-clause-step
returns-clause-step g c =
    leads_same g.D.Disk.state _ c.args.session.now
    (λ setting x. inl (subst (λ s. StopsBetween 1000000 s (unread c.args.lines.now (g.S.Source.left c.args.source.now)) (unread c.read_line.new.lines (g.S.Source.left c.read_line.new.source)) (g.K.Sink.written c.args.sink.now) (g.K.Sink.written c.args.sink.now) x x) (sym c.behind_last.ensures)
    (last_between c.in-Err.ended (unread c.args.lines.now (g.S.Source.left c.args.source.now)) (unread c.read_line.new.lines (g.S.Source.left c.read_line.new.source)) c.read_line.new.lines (g.S.Source.faults c.args.source.now) (g.S.Source.faults c.read_line.new.source) (g.K.Sink.written c.args.sink.now) x
    c.in-Err.ensures.none_lost c.in-Err.ensures.unread)))
