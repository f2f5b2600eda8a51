-- there was no memory for the last line; or the words were looked at, and a session was served by them
use Rattle.std.proofs.Common.{rules, map, sym, subst}
use Rattle.std.specs.Prelude.{string_bytes}
use Rattle.tm_session.specs.declared.outcome.Ended.{Ended}
use Rattle.tm_prog.specs.Words.{workload_of}
use Rattle.tm_prog.specs.Workload.{bytes_served_by}
use Rattle.tm_prog.specs.Status.{IsNear}
use Rattle.tm_prog.proofs.Causes.{complete_run, near_run}
use Rattle.tm_prog.proofs.Runs.{no_room}
use Rattle.tm_session.proofs.SentAgain.{answered_as_kept}
use Rattle.tm_prog.proofs.run.run.Goals as goal

pub returns-then-is_err-clause-headline : goal.returns-then-is_err-clause-headline
returns-then-is_err-clause-headline g c =
    no_room g.D.Disk.state (map (λ word. string_bytes word) c.args.words.now) (g.S.Source.left c.args.source.now) (g.K.Sink.written c.args.sink.now) (g.K.Sink.written c.print_last.new.sink)
    c.args.disk c.unbegun.result.disk c.unbegun.result.status c.unbegun.result.lives c.unbegun.result.stops (g.S.Source.faults c.args.source.now) (g.K.Sink.faults c.args.sink.now) (g.K.Sink.faults c.print_last.new.sink)
    c.unbegun.ensures.status c.unbegun.ensures.lives c.unbegun.ensures.stops c.unbegun.ensures.disk c.print_last.ensures

pub returns-clause-complete : goal.returns-clause-complete
returns-clause-complete g c = λ valid reads writes within.
    complete_run g.D.Disk.state g.met.D.Disk.is_disk c.args.disk c.serve-outcome.result.disk c.serve-outcome.result.lives c.serve-outcome.result.stops (map (λ word. string_bytes word) c.args.words.now)
    (g.S.Source.left c.args.source.now) (g.S.Source.left c.serve-outcome.new.source) (g.K.Sink.written c.args.sink.now) (g.K.Sink.written c.print_last-2.new.sink) c.serve-outcome.result.status
    (g.S.Source.faults c.args.source.now) (g.S.Source.faults c.serve-outcome.new.source) (g.K.Sink.faults c.args.sink.now) (g.K.Sink.faults c.print_last-2.new.sink)
    (search rules) valid reads writes within

pub returns-then-is_err-clause-near : goal.returns-then-is_err-clause-near
returns-then-is_err-clause-near g c =
    subst (λ (s : Ended). IsNear (bytes_served_by (workload_of (map (λ word. string_bytes word) c.args.words.now)) (g.S.Source.left c.args.source.now)) (g.D.Disk.state c.args.disk) s) (sym c.unbegun.ensures.status) tt

pub returns-clause-near : goal.returns-clause-near
returns-clause-near g c =
    near_run g.D.Disk.state g.met.D.Disk.is_disk c.args.disk c.serve-outcome.result.disk c.serve-outcome.result.lives c.serve-outcome.result.stops (map (λ word. string_bytes word) c.args.words.now)
    (g.S.Source.left c.args.source.now) (g.S.Source.left c.serve-outcome.new.source) (g.K.Sink.written c.args.sink.now) (g.K.Sink.written c.print_last-2.new.sink) c.serve-outcome.result.status
    (g.S.Source.faults c.args.source.now) (g.S.Source.faults c.serve-outcome.new.source) (g.K.Sink.faults c.args.sink.now) (g.K.Sink.faults c.print_last-2.new.sink)
    (search rules)

pub returns-then-is_err-clause-resends : goal.returns-then-is_err-clause-resends
returns-then-is_err-clause-resends g c = answered_as_kept g.D.Disk.state g.met.D.Disk.is_disk c.args.disk c.unbegun.result.disk c.unbegun.result.stops c.unbegun.result.lives

pub returns-clause-resends : goal.returns-clause-resends
returns-clause-resends g c = answered_as_kept g.D.Disk.state g.met.D.Disk.is_disk c.args.disk c.serve-outcome.result.disk c.serve-outcome.result.stops c.serve-outcome.result.lives
