use Rattle.tm_restart.proofs.Rereading.{behind_of}
use Rattle.tm_restart.proofs.replaying.replay.Goals as goal

pub replay_log-requires : goal.replay_log-requires
replay_log-requires c = (c.requires.snapshot.records, c.requires.snapshot.is_of)

pub returns-clause-value : goal.returns-clause-value
returns-clause-value c bytes cut = c.replay_log.ensures bytes cut.all cut.decided

pub returns-clause-behind : goal.returns-clause-behind
returns-clause-behind c =
    let read = c.requires.snapshot in
    behind_of c.args.system.now c.args.log.items c.args.is_cut_off read.records c.replay_log.result c.requires.log read.valid
    (λ bytes cut. c.replay_log.ensures bytes cut.all cut.decided read.records read.images read.is_of)
