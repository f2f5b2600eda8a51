use Rattle.tm_edge.specs.Lines.{unread}
use Rattle.tm_session.proofs.Judging.{unbegun_judged}
use Rattle.tm_session.proofs.session.read_system.Goals as goal

pub returns-in-Err-judge-clause-unbegun : goal.returns-in-Err-judge-clause-unbegun
returns-in-Err-judge-clause-unbegun g c =
    unbegun_judged c.in-Err-judge.ended (unread c.args.lines.now (g.S.Source.left c.args.source.now)) (unread c.read_definition.new.lines (g.S.Source.left c.read_definition.new.source)) c.in-Ok.definition.lines
    c.in-Ok.ensures.read c.in-Err-judge.ensures
