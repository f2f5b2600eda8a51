-- what was read
use Rattle.session_lives.specs.RunningSession.{session_down}
use Rattle.session_lives.proofs.Blocks.{not_served, block_down}
use Rattle.session_lives.proofs.serve.serve_idle.Goals as goal

pub returns-in_default-clause-served : goal.returns-in_default-clause-served
returns-in_default-clause-served g c = not_served g.D.Disk.state c.args.block.now c.args.printed.now.text (session_down c.args.idle c.args.kept)

pub returns-clause-served : goal.returns-clause-served
returns-clause-served g c =
    block_down g.D.Disk.state c.args.block.now c.serve_asked.new.printed.text c.args.idle c.args.kept c.serve_asked.result.0 c.in-Ok.asked c.serve_asked.result.1 c.in-Ok.ensures.asked c.serve_asked.ensures.served
