-- the lines so far were served
use Rattle.std.proofs.Common.{◌≡◌}
use Rattle.std.specs.Prelude.{IfSome}
use Rattle.tm_edge.specs.Lines.{unread}
use Rattle.session_lives.specs.RunningSession.{IsSessionReady, Leads}
use Rattle.tm_session.specs.DrivenSession.{SoFar, IsBlockOpen}
use Rattle.tm_session.specs.Outcome.{IsTextBack}
use Rattle.tm_session.proofs.driver.serve_lines.Given as goal

abbrev pub invariant-loop-count : goal.invariant-loop-count
invariant-loop-count g l = record {
  so_far : Leads g.D.Disk.state (λ setting a b. SoFar setting l.before l._count (unread l.fn.lines (g.S.Source.left l.fn.source)) (unread l.lines (g.S.Source.left l.source)) l.pending
      (g.K.Sink.written l.fn.sink) (g.K.Sink.written l.sink) a b) l.fn.session l.session;
  ready : IsSessionReady g.D.Disk.state l.session;
  begun : IfSome l.pending IsBlockOpen;
  back : IsTextBack (unread l.fn.lines (g.S.Source.left l.fn.source)) (unread l.lines (g.S.Source.left l.source));
  reads : g.S.Source.faults l.source ≡ g.S.Source.faults l.fn.source;
  writes : g.K.Sink.faults l.sink ≡ g.K.Sink.faults l.fn.sink;
}
