use Rattle.std.proofs.Common.{◌≡◌, Some, subst}
use Rattle.log_replay.specs.ReplaySteps.{step_acknowledges}
use Rattle.log_replay.specs.ReplayRules.{DoesStep, lasting_in}
use Rattle.log_replay.proofs.Before.{steps_before, refused, judged}
use Rattle.log_replay.proofs.Lifted.{acknowledges_is}
use Rattle.log_replay.proofs.Leaving.{rest_acknowledged, free_acknowledged, numbers_acknowledged, inputs_acknowledged, pads_acknowledged}
use Rattle.log_replay.proofs.Right.{acknowledged_follows, acknowledged_right}
use Rattle.model_image.specs.Replay.{replay_acknowledges}
use Rattle.log_replay.proofs.replaying.replay_acknowledged.Goals as goal

pub acknowledge-fine-requires : goal.acknowledge-fine-requires
acknowledge-fine-requires c = steps_before c.args.system.now c.args.kept.now c.requires.sound

pub returns-then-not-fine-clause-leaves : goal.returns-then-not-fine-clause-leaves
returns-then-not-fine-clause-leaves c =
    let step = step_acknowledges c.args.terminal.now c.args.number c.args.kept.now in
    refused c.args.system.now (replay_acknowledges c.args.terminal.now c.args.number (lasting_in c.args.system.now c.args.kept.now)) step
    (acknowledges_is c.args.system.now c.args.terminal.now c.args.number c.args.kept.now) c.acknowledge-fine.new.kept c.acknowledge-fine.new.kept
    (subst (DoesStep step c.acknowledge-fine.new.kept) c.if-not-fine.true c.acknowledge-fine.ensures)

pub is_sound-requires-clause-rest : goal.is_sound-requires-clause-rest
is_sound-requires-clause-rest c =
    let step = step_acknowledges c.args.terminal.now c.args.number c.args.kept.now in
    rest_acknowledged c.args.system.now c.args.kept.now c.requires.sound c.args.terminal.now c.args.number c.acknowledge-fine.new.kept
    (subst (DoesStep step c.acknowledge-fine.new.kept) c.if-not-fine.false c.acknowledge-fine.ensures)

pub is_sound-requires-clause-numbers : goal.is_sound-requires-clause-numbers
is_sound-requires-clause-numbers c =
    let step = step_acknowledges c.args.terminal.now c.args.number c.args.kept.now in
    numbers_acknowledged c.args.system.now c.args.kept.now c.requires.sound c.args.terminal.now c.args.number c.acknowledge-fine.new.kept
    (subst (DoesStep step c.acknowledge-fine.new.kept) c.if-not-fine.false c.acknowledge-fine.ensures)

pub is_sound-requires-clause-inputs : goal.is_sound-requires-clause-inputs
is_sound-requires-clause-inputs c =
    let step = step_acknowledges c.args.terminal.now c.args.number c.args.kept.now in
    inputs_acknowledged c.args.system.now c.args.kept.now c.requires.sound c.args.terminal.now c.args.number c.acknowledge-fine.new.kept
    (subst (DoesStep step c.acknowledge-fine.new.kept) c.if-not-fine.false c.acknowledge-fine.ensures)

pub is_sound-requires-clause-pads : goal.is_sound-requires-clause-pads
is_sound-requires-clause-pads c =
    let step = step_acknowledges c.args.terminal.now c.args.number c.args.kept.now in
    pads_acknowledged c.args.system.now c.args.kept.now c.requires.sound c.args.terminal.now c.args.number c.acknowledge-fine.new.kept
    (subst (DoesStep step c.acknowledge-fine.new.kept) c.if-not-fine.false c.acknowledge-fine.ensures)

pub returns-clause-leaves : goal.returns-clause-leaves
returns-clause-leaves c =
    let step = step_acknowledges c.args.terminal.now c.args.number c.args.kept.now in
    let done : step ≡ Some c.acknowledge-fine.new.kept = subst (DoesStep step c.acknowledge-fine.new.kept) c.if-not-fine.false c.acknowledge-fine.ensures in
    judged c.args.system.now (replay_acknowledges c.args.terminal.now c.args.number (lasting_in c.args.system.now c.args.kept.now)) step
    (acknowledges_is c.args.system.now c.args.terminal.now c.args.number c.args.kept.now) c.acknowledge-fine.new.kept done
    (free_acknowledged c.args.system.now c.args.kept.now c.requires.sound c.args.terminal.now c.args.number c.acknowledge-fine.new.kept done) c.is_sound.result c.is_sound.ensures

pub is_sound-requires-clause-right : goal.is_sound-requires-clause-right
is_sound-requires-clause-right c =
    let step = step_acknowledges c.args.terminal.now c.args.number c.args.kept.now in
    acknowledged_right c.args.system.now c.args.kept.now c.requires.sound c.args.tally.now c.requires.follows c.args.terminal.now c.args.number c.acknowledge-fine.new.kept
    (subst (DoesStep step c.acknowledge-fine.new.kept) c.if-not-fine.false c.acknowledge-fine.ensures)

pub returns-clause-follows : goal.returns-clause-follows
returns-clause-follows c surely =
    let step = step_acknowledges c.args.terminal.now c.args.number c.args.kept.now in
    acknowledged_follows c.args.system.now c.args.kept.now c.requires.sound c.args.tally.now c.requires.follows c.args.terminal.now c.args.number c.acknowledge-fine.new.kept
    (subst (DoesStep step c.acknowledge-fine.new.kept) c.if-not-fine.false c.acknowledge-fine.ensures)
