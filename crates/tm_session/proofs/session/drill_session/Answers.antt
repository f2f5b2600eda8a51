-- the definition was read and opened, and then its session was driven
use Rattle.std.proofs.Common.{ℕ, List, [], sym, ◌∙◌, subst}
use Rattle.std.specs.Prelude.{Option}
use Rattle.tm_edge.specs.Lines.{unread}
use Rattle.model_session.specs.SessionState.{is_session_stopped}
use Rattle.tm_session.specs.Outcome.{IsTextBack}
use Rattle.session_lives.specs.RunningSession.{standing_of}
use Rattle.session_lives.proofs.Restarted.{events_opening}
use Rattle.tm_session.specs.Headline.{IsUnbegun}
use Rattle.tm_session.specs.BegunSession.{IsDefinitionRead}
use Rattle.tm_session.proofs.Begun.{begun_is}
use Rattle.tm_session.proofs.Endings.{never_cause, driven_cause}
use Rattle.tm_session.proofs.Judging.{text_told}
use Rattle.tm_session.proofs.Taking.{back_whole, back_twice}
use Rattle.tm_session.proofs.Whole.{begins, begun_sound, opened_first, never_opened, is_session, nothing_session}
use Rattle.tm_session.proofs.session.drill_session.Goals as goal

pub returns-in-Err-clause-session : goal.returns-in-Err-clause-session
returns-in-Err-clause-session g c =
    nothing_session g.D.Disk.state (g.S.Source.left c.args.source.now) (g.S.Source.left c.read_system.new.source) (g.K.Sink.written c.args.sink.now) c.args.disk c.nothing.result.disk c.in-Err.status c.nothing.result.status
    c.nothing.result.lives c.nothing.result.stops
    (subst (λ (told : Option (List ℕ)). IsUnbegun told c.in-Err.status) (begun_is c.new-lines.result (g.S.Source.left c.args.source.now) c.new-lines.ensures) c.in-Err.ensures.unbegun) c.nothing.ensures

pub returns-in-Some-clause-session : goal.returns-in-Some-clause-session
returns-in-Some-clause-session g c =
    let read : IsDefinitionRead (g.S.Source.left c.args.source.now) (unread c.read_system.new.lines (g.S.Source.left c.read_system.new.source)) c.in-Ok.read.0 c.in-Ok.read.1 c.in-Ok.read.2 =
    subst (λ (told : Option (List ℕ)). IsDefinitionRead told (unread c.read_system.new.lines (g.S.Source.left c.read_system.new.source)) c.in-Ok.read.0 c.in-Ok.read.1 c.in-Ok.read.2)
    (begun_is c.new-lines.result (g.S.Source.left c.args.source.now) c.new-lines.ensures) c.in-Ok.ensures.read in
    never_opened g.D.Disk.state g.met.D.Disk.is_disk c.in-Ok.read.1 c.in-Ok.read.2 c.args.disk c.begin-session.result.0 c.begin-session.result.1 c.requires.only c.begin-session.ensures.begun
    (g.S.Source.left c.args.source.now) (g.S.Source.left c.read_system.new.source) (g.K.Sink.written c.args.sink.now) c.in-Some.status c.finish.result.status c.finish.result.disk c.finish.result.lives c.finish.result.stops
    c.in-Some.is read.defines (text_told (g.S.Source.left c.args.source.now) (unread c.read_system.new.lines (g.S.Source.left c.read_system.new.source)) read.texts c.in-Ok.read.2 read.read read.joined) c.finish.ensures.status c.finish.ensures.closed

pub returns-clause-session : goal.returns-clause-session
returns-clause-session g c =
    let read : IsDefinitionRead (g.S.Source.left c.args.source.now) (unread c.read_system.new.lines (g.S.Source.left c.read_system.new.source)) c.in-Ok.read.0 c.in-Ok.read.1 c.in-Ok.read.2 =
    subst (λ (told : Option (List ℕ)). IsDefinitionRead told (unread c.read_system.new.lines (g.S.Source.left c.read_system.new.source)) c.in-Ok.read.0 c.in-Ok.read.1 c.in-Ok.read.2)
    (begun_is c.new-lines.result (g.S.Source.left c.args.source.now) c.new-lines.ensures) c.in-Ok.ensures.read in
    is_session g.D.Disk.state c.in-Ok.read.1 c.in-Ok.read.2 c.args.disk (g.S.Source.left c.args.source.now) (unread c.read_system.new.lines (g.S.Source.left c.read_system.new.source)) c.serve_lines-status.new.lines (g.S.Source.left c.serve_lines-status.new.source)
    (g.K.Sink.written c.args.sink.now) (g.K.Sink.written c.serve_lines-status.new.sink) c.in-Ok.read.0 c.finish-in-None.result.disk
    (events_opening [] c.begin-session.ensures.begun.kept c.begin-session.ensures.begun.opening) c.begin-session.result.0 c.serve_lines-status.new.session c.serve_lines-status.result
    c.finish-in-None.result.status c.finish-in-None.result.lives c.finish-in-None.result.stops read
    (text_told (g.S.Source.left c.args.source.now) (unread c.read_system.new.lines (g.S.Source.left c.read_system.new.source)) read.texts c.in-Ok.read.2 read.read read.joined)
    (begins g.D.Disk.state g.met.D.Disk.is_disk c.in-Ok.read.1 c.in-Ok.read.2 c.args.disk c.begin-session.result.0 c.begin-session.result.1 c.requires.only c.begin-session.ensures.begun c.in-None.is)
    (opened_first g.D.Disk.state g.met.D.Disk.is_disk c.in-Ok.read.1 c.in-Ok.read.2 c.args.disk c.begin-session.result.0 c.begin-session.result.1 c.requires.only c.begin-session.ensures.begun c.in-None.is)
    (begun_sound g.D.Disk.state g.met.D.Disk.is_disk c.in-Ok.read.1 c.in-Ok.read.2 c.args.disk c.begin-session.result.0 c.begin-session.result.1 c.requires.only c.begin-session.ensures.begun)
    c.serve_lines-status.ensures.driven c.finish-in-None.ensures.status c.finish-in-None.ensures.leaves

pub returns-in-Err-clause-taken : goal.returns-in-Err-clause-taken
returns-in-Err-clause-taken g c =
    back_whole c.new-lines.result (g.S.Source.left c.args.source.now) c.read_system.new.lines (g.S.Source.left c.read_system.new.source) c.new-lines.ensures c.read_system.ensures.back

pub returns-in-Some-clause-taken : goal.returns-in-Some-clause-taken
returns-in-Some-clause-taken g c =
    back_whole c.new-lines.result (g.S.Source.left c.args.source.now) c.read_system.new.lines (g.S.Source.left c.read_system.new.source) c.new-lines.ensures c.read_system.ensures.back

pub returns-clause-taken : goal.returns-clause-taken
returns-clause-taken g c =
    let back : IsTextBack (g.S.Source.left c.args.source.now) (unread c.read_system.new.lines (g.S.Source.left c.read_system.new.source)) =
    subst (λ (told : Option (List ℕ)). IsTextBack told (unread c.read_system.new.lines (g.S.Source.left c.read_system.new.source)))
    (begun_is c.new-lines.result (g.S.Source.left c.args.source.now) c.new-lines.ensures) c.read_system.ensures.back in
    back_twice (g.S.Source.left c.args.source.now) (unread c.read_system.new.lines (g.S.Source.left c.read_system.new.source)) (g.S.Source.left c.serve_lines-status.new.source) back c.serve_lines-status.ensures.taken

pub returns-in-Some-clause-cause : goal.returns-in-Some-clause-cause
returns-in-Some-clause-cause g c =
    let session = c.begin-session.result.0 in
    never_cause (is_session_stopped (standing_of session.place)) c.begin-session.ensures.begun.opening c.in-Some.status c.finish.result.status
    (g.S.Source.faults c.args.source.now) (g.S.Source.faults c.read_system.new.source) (g.K.Sink.faults c.args.sink.now) (sym c.begin-session.ensures.begun.ends ∙ c.in-Some.is)
    c.finish.ensures.status c.in-Ok.ensures.calm

pub returns-clause-cause : goal.returns-clause-cause
returns-clause-cause g c =
    let session = c.serve_lines-status.new.session in
    driven_cause (is_session_stopped (standing_of session.place)) c.serve_lines-status.result c.finish-in-None.result.status
    (g.S.Source.faults c.args.source.now) (g.S.Source.faults c.read_system.new.source) (g.S.Source.faults c.serve_lines-status.new.source) (g.K.Sink.faults c.args.sink.now) (g.K.Sink.faults c.serve_lines-status.new.sink)
    c.serve_lines-status.ensures.cause
    c.finish-in-None.ensures.status
    c.in-Ok.ensures.calm
