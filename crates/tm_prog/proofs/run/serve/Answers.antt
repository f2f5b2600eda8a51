-- the words break no rule and ask for no workload: the session of the source is served
use Rattle.std.proofs.Common.{map}
use Rattle.std.specs.Prelude.{string_bytes}
use Rattle.tm_prog.specs.Words.{word_fault, workload_of}
use Rattle.tm_prog.proofs.Runs.{none_broken, served_source}
use Rattle.tm_prog.proofs.run.serve.Goals as goal

pub returns-in-None-clause-session : goal.returns-in-None-clause-session
returns-in-None-clause-session g c =
    served_source g.D.Disk.state (word_fault (map (λ word. string_bytes word) c.args.words.now)) (workload_of (map (λ word. string_bytes word) c.args.words.now))
    (g.S.Source.left c.args.source.now) (g.S.Source.left c.drill_session.new.source) (g.K.Sink.written c.args.sink.now) (g.K.Sink.written c.drill_session.new.sink) c.args.line.now.text
    c.args.disk c.drill_session.result.disk c.drill_session.result.status c.drill_session.result.lives c.drill_session.result.stops
    c.in_default.ensures.fault c.in-None.ensures.value c.requires.fresh c.drill_session.ensures.session

pub returns-in-None-clause-unread : goal.returns-in-None-clause-unread
returns-in-None-clause-unread g c = λ broken. absurd (none_broken (word_fault (map (λ word. string_bytes word) c.args.words.now)) c.in_default.ensures.fault broken)
