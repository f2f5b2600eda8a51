use Rattle.std.proofs.Common.{◌≡◌, sym, rules}
use Rattle.std.specs.Prelude.{Some}
use Rattle.model_system.specs.ScreenInput.{entered}
use Rattle.model_system.specs.SystemFormats.{format_of}
use Rattle.model_session.specs.Lines as spec
use Rattle.session_lines.proofs.Screens.{if_asked, refusal_asked, segments_asked}
use Rattle.session_lines.proofs.asking.screen_asked.Goals as goal

pub returns-in-Ok-clause-asked : goal.returns-in-Ok-clause-asked
returns-in-Ok-clause-asked c =
    let there : format_of c.args.system.now c.args.terminal ≡ Some c.in-Some.format.now = sym c.in-Some.ensures.value in
    segments_asked c.args.system.now c.args.terminal c.args.number c.args.block.now.values c.in-Some.format.now (format_of c.args.system.now c.args.terminal) c.in-Ok.segments there (search rules) c.in-Ok.ensures.texts

pub returns-clause-asked : goal.returns-clause-asked
returns-clause-asked c =
    let there : format_of c.args.system.now c.args.terminal ≡ Some c.in-Some.format.now = sym c.in-Some.ensures.value in
    let values = c.args.block.now.values in
    if_asked (λ asked. asked ≡ spec.entered_asked c.args.system.now c.args.terminal c.args.number (entered c.in-Some.format.now values))
    (λ asked. asked ≡ spec.screen_asked c.args.system.now c.args.terminal c.args.number values (format_of c.args.system.now c.args.terminal)) c.refused_asked.result
    (λ asked e. refusal_asked c.args.system.now c.args.terminal c.args.number values c.in-Some.format.now (format_of c.args.system.now c.args.terminal) asked there e)
    (c.refused_asked.ensures.asked (entered c.in-Some.format.now values) (search rules))
