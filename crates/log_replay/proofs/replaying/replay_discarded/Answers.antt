use Rattle.std.proofs.Common.{◌≡◌, Some, sym, subst, ap, ◌∙◌}
use Rattle.std.specs.Option.{option_copied}
use Rattle.log_replay.specs.ReplaySteps.{step_discards}
use Rattle.model_messages.specs.Queue.{messages_of}
use Rattle.log_replay.specs.ReplayRules.{DoesStep, lasting_in}
use Rattle.log_replay.specs.ConversationTally.{TallyTells}
use Rattle.log_replay.proofs.Before.{orderly_before, steps_before, numbers_from, refused, judged}
use Rattle.log_replay.proofs.Lifted.{discards_is}
use Rattle.log_replay.proofs.Leaving.{rest_discarded, free_discarded, inputs_discarded, pads_discarded}
use Rattle.log_replay.proofs.Right.{discarded_right, discarded_tells, goes_on}
use Rattle.log_replay.proofs.Stepped.{not_found}
use Rattle.model_image.specs.Replay.{discards}
use Rattle.log_replay.proofs.replaying.replay_discarded.Goals as goal

pub discard-requires-clause-orderly : goal.discard-requires-clause-orderly
discard-requires-clause-orderly c = orderly_before c.args.system.now c.args.kept.now c.requires.sound

pub discard-requires-clause-steps : goal.discard-requires-clause-steps
discard-requires-clause-steps c = steps_before c.args.system.now c.args.kept.now c.requires.sound

pub returns-then-not-fine-clause-leaves : goal.returns-then-not-fine-clause-leaves
returns-then-not-fine-clause-leaves c =
    let step = step_discards c.args.id c.args.abend c.args.number c.args.kept.now in
    refused c.args.system.now (discards c.args.id c.args.abend c.args.number (lasting_in c.args.system.now c.args.kept.now)) step
    (discards_is c.args.system.now c.args.id c.args.abend c.args.number c.args.kept.now) c.discard.new.kept c.discard.new.kept
    (subst (DoesStep step c.discard.new.kept) c.if-not-fine.true c.in_ok-fine.ensures.done)

pub is_sound-requires-clause-rest : goal.is_sound-requires-clause-rest
is_sound-requires-clause-rest c =
    let step = step_discards c.args.id c.args.abend c.args.number c.args.kept.now in
    rest_discarded c.args.system.now c.args.kept.now c.requires.sound c.args.id c.args.abend c.args.number c.discard.new.kept
    (subst (DoesStep step c.discard.new.kept) c.if-not-fine.false c.in_ok-fine.ensures.done)

pub is_sound-requires-clause-numbers : goal.is_sound-requires-clause-numbers
is_sound-requires-clause-numbers c =
    let step = step_discards c.args.id c.args.abend c.args.number c.args.kept.now in
    numbers_from c.discard.new.kept.outputs
    (rest_discarded c.args.system.now c.args.kept.now c.requires.sound c.args.id c.args.abend c.args.number c.discard.new.kept
    (subst (DoesStep step c.discard.new.kept) c.if-not-fine.false c.in_ok-fine.ensures.done)).runs
    c.in_ok-fine.ensures.small

pub is_sound-requires-clause-inputs : goal.is_sound-requires-clause-inputs
is_sound-requires-clause-inputs c =
    let step = step_discards c.args.id c.args.abend c.args.number c.args.kept.now in
    inputs_discarded c.args.system.now c.args.kept.now c.requires.sound c.args.id c.args.abend c.args.number c.discard.new.kept
    (subst (DoesStep step c.discard.new.kept) c.if-not-fine.false c.in_ok-fine.ensures.done)

pub is_sound-requires-clause-pads : goal.is_sound-requires-clause-pads
is_sound-requires-clause-pads c =
    let step = step_discards c.args.id c.args.abend c.args.number c.args.kept.now in
    pads_discarded c.args.system.now c.args.kept.now c.requires.sound c.args.id c.args.abend c.args.number c.discard.new.kept
    (subst (DoesStep step c.discard.new.kept) c.if-not-fine.false c.in_ok-fine.ensures.done)

pub returns-clause-leaves : goal.returns-clause-leaves
returns-clause-leaves c =
    let step = step_discards c.args.id c.args.abend c.args.number c.args.kept.now in
    let done : step ≡ Some c.discard.new.kept = subst (DoesStep step c.discard.new.kept) c.if-not-fine.false c.in_ok-fine.ensures.done in
    judged c.args.system.now (discards c.args.id c.args.abend c.args.number (lasting_in c.args.system.now c.args.kept.now)) step
    (discards_is c.args.system.now c.args.id c.args.abend c.args.number c.args.kept.now) c.discard.new.kept done
    (free_discarded c.args.system.now c.args.kept.now c.requires.sound c.args.id c.args.abend c.args.number c.discard.new.kept done) c.is_sound.result c.is_sound.ensures

pub is_sound-requires-clause-right : goal.is_sound-requires-clause-right
is_sound-requires-clause-right c =
    let step = step_discards c.args.id c.args.abend c.args.number c.args.kept.now in
    c.is_right-right.ensures
    ∙ discarded_right c.args.system.now c.args.kept.now c.requires.sound (orderly_before c.args.system.now c.args.kept.now c.requires.sound) c.args.tally.now c.count_discarded.new.tally c.requires.follows c.args.id c.args.abend c.args.number
    c.in-Some.message.now (sym c.found.ensures ∙ ap option_copied c.in-Some.is) c.in_ok-count_discarded.ensures c.discard.new.kept (subst (DoesStep step c.discard.new.kept) c.if-not-fine.false c.in_ok-fine.ensures.done)

pub returns-clause-follows : goal.returns-clause-follows
returns-clause-follows c =
    let step = step_discards c.args.id c.args.abend c.args.number c.args.kept.now in
    let counted : TallyTells c.args.system.now c.args.kept.now.conversations (messages_of c.discard.new.kept.queues.queued) c.count_discarded.new.tally =
    discarded_tells c.args.system.now c.args.kept.now c.requires.sound (orderly_before c.args.system.now c.args.kept.now c.requires.sound) c.args.tally.now c.count_discarded.new.tally c.requires.follows c.args.id c.args.abend c.args.number
    c.in-Some.message.now (sym c.found.ensures ∙ ap option_copied c.in-Some.is) c.in_ok-count_discarded.ensures c.discard.new.kept (subst (DoesStep step c.discard.new.kept) c.if-not-fine.false c.in_ok-fine.ensures.done) in
    goes_on c.args.system.now c.discard.new.kept c.count_discarded.new.tally counted.counts c.in-Some.message.now.conversation (Some c.in-Some.message.now.origin)
    (discarded_right c.args.system.now c.args.kept.now c.requires.sound (orderly_before c.args.system.now c.args.kept.now c.requires.sound) c.args.tally.now c.count_discarded.new.tally c.requires.follows c.args.id c.args.abend c.args.number
    c.in-Some.message.now (sym c.found.ensures ∙ ap option_copied c.in-Some.is) c.in_ok-count_discarded.ensures c.discard.new.kept (subst (DoesStep step c.discard.new.kept) c.if-not-fine.false c.in_ok-fine.ensures.done))
    c.is_sound.result c.is_sound.ensures

pub returns-in_default-clause-leaves : goal.returns-in_default-clause-leaves
returns-in_default-clause-leaves c =
    refused c.args.system.now (discards c.args.id c.args.abend c.args.number (lasting_in c.args.system.now c.args.kept.now)) (step_discards c.args.id c.args.abend c.args.number c.args.kept.now)
    (discards_is c.args.system.now c.args.id c.args.abend c.args.number c.args.kept.now) c.args.kept.now c.args.kept.now
    (not_found c.args.id c.args.abend c.args.number c.args.kept.now c.args.kept.now (sym c.found.ensures ∙ ap option_copied c.in_default.is))
