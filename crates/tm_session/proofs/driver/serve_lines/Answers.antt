-- each line goes on from those before it
use Rattle.std.proofs.Common.{◌∙◌, refl, arith}
use Rattle.tm_edge.specs.Lines.{unread}
use Rattle.session_lives.proofs.Leading.{leads_same, leads_then}
use Rattle.tm_session.proofs.Reading.{so_far_start, so_far_next, driven_here, driven_end}
use Rattle.tm_session.proofs.Taking.{back_same, back_twice, back_held, whole_held}
use Rattle.tm_session.proofs.driver.serve_lines.Goals as goal

pub loop-count-init : goal.loop-count-init
loop-count-init g c = record {
  so_far = leads_same g.D.Disk.state _ c.args.session.now (λ setting x. so_far_start setting c.args.before (unread c.args.lines.now (g.S.Source.left c.args.source.now)) (g.K.Sink.written c.args.sink.now) x);
  ready = c.requires.ready;
  begun = tt;
  back = back_same _ _ refl;
  reads = refl;
  writes = refl;
}

pub returns-in-Some-clause-driven : goal.returns-in-Some-clause-driven
returns-in-Some-clause-driven g c =
    leads_then g.D.Disk.state _ _ _ c.args.session.now c.loop-count.session c.serve_next-ended.new.session
    (λ setting x y z far one. driven_here setting c.args.before c.loop-count._count (unread c.args.lines.now (g.S.Source.left c.args.source.now)) (unread c.loop-count.lines (g.S.Source.left c.loop-count.source)) (unread c.serve_next-ended.new.lines (g.S.Source.left c.serve_next-ended.new.source)) c.loop-count.pending
    (g.K.Sink.written c.args.sink.now) (g.K.Sink.written c.loop-count.sink) (g.K.Sink.written c.serve_next-ended.new.sink) x y z c.in-Some.ended far (omega arith) (one c.loop-count._count (omega arith)))
    c.loop-count.invariant.so_far (rw c.in-Some.is at c.serve_next-ended.ensures.step)

pub returns-in-Some-clause-taken : goal.returns-in-Some-clause-taken
returns-in-Some-clause-taken g c = back_held _ _ _ (back_twice _ _ _ c.loop-count.invariant.back c.serve_next-ended.ensures.back)

pub loop-count-preserved : goal.loop-count-preserved
loop-count-preserved g c = record {
  so_far = leads_then g.D.Disk.state _ _ _ c.args.session.now c.loop-count.session c.serve_next-ended.new.session
      (λ setting x y z far one. so_far_next setting c.args.before c.loop-count._count (unread c.args.lines.now (g.S.Source.left c.args.source.now)) (unread c.loop-count.lines (g.S.Source.left c.loop-count.source)) (unread c.serve_next-ended.new.lines (g.S.Source.left c.serve_next-ended.new.source)) c.loop-count.pending c.serve_next-ended.new.pending
      (g.K.Sink.written c.args.sink.now) (g.K.Sink.written c.loop-count.sink) (g.K.Sink.written c.serve_next-ended.new.sink) x y z far one)
      c.loop-count.invariant.so_far (rw c.in-None.is at c.serve_next-ended.ensures.step);
  ready = c.serve_next-ended.ensures.ready;
  begun = c.serve_next-ended.ensures.begun;
  back = back_twice _ _ _ c.loop-count.invariant.back c.serve_next-ended.ensures.back;
  reads = (rw c.in-None.is at c.serve_next-ended.ensures.reads) refl ∙ c.loop-count.invariant.reads;
  writes = (rw c.in-None.is at c.serve_next-ended.ensures.writes) refl ∙ c.loop-count.invariant.writes;
}

pub returns-clause-driven : goal.returns-clause-driven
returns-clause-driven g c =
    leads_then g.D.Disk.state _ _ _ c.args.session.now c.loop-count.session c.end_of.new.session
    (λ setting x y z far one. driven_end setting c.args.before c.loop-count._count (unread c.args.lines.now (g.S.Source.left c.args.source.now)) (unread c.loop-count.lines (g.S.Source.left c.loop-count.source)) (unread c.end_of.new.lines (g.S.Source.left c.end_of.new.source)) c.loop-count.pending
    (g.K.Sink.written c.args.sink.now) (g.K.Sink.written c.loop-count.sink) (g.K.Sink.written c.end_of.new.sink) x y z c.end_of.result far (omega arith) one)
    c.loop-count.invariant.so_far c.end_of.ensures.step

pub returns-clause-taken : goal.returns-clause-taken
returns-clause-taken g c = back_held _ _ _ (back_twice _ _ _ c.loop-count.invariant.back c.end_of.ensures.back)

pub returns-clause-whole : goal.returns-clause-whole
returns-clause-whole g c = whole_held _ _ _ c.end_of.ensures.whole
