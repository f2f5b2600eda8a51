-- a restart
use Rattle.std.proofs.Common.{sym}
use Rattle.std.specs.Option.{is_some}
use Rattle.session_lives.proofs.Restarted.{served_down}
use Rattle.session_lives.proofs.Picks.{picks_down, cuts_down}
use Rattle.session_lives.proofs.serve.serve_asked.Goals as goal

pub returns-in-Some-clause-served : goal.returns-in-Some-clause-served
returns-in-Some-clause-served g c = λ system source handed cut sound.
    served_down g.D.Disk.state g.met.D.Disk.is_disk system source handed cut c.args.idle c.args.kept c.restart.result.0 sound c.args.asked.now c.restart.new.printed.text c.restart.result.1 c.in-Some.cold
    (sym c.in-Some.ensures) c.restart.ensures.gone

pub returns-in-Some-clause-pick : goal.returns-in-Some-clause-pick
returns-in-Some-clause-pick g c =
    let gone = c.restart.ensures.gone in
    picks_down g.D.Disk.state c.args.idle c.args.kept c.restart.result.0 c.restart.new.printed.text c.in-Some.cold (is_some c.args.idle.last) gone.opening c.restart.result.1 gone.gone gone.told

pub returns-in-Some-clause-power : goal.returns-in-Some-clause-power
returns-in-Some-clause-power g c =
    let gone = c.restart.ensures.gone in
    cuts_down g.D.Disk.state c.args.idle c.args.kept c.restart.result.0 c.restart.new.printed.text c.in-Some.cold (is_some c.args.idle.last) gone.opening c.restart.result.1 gone.gone gone.told
