use Rattle.std.proofs.Common.{◌≡◌, false, Some, subst, ◌∙◌}
use Rattle.log_replay.specs.ReplaySteps.{step_accepts}
use Rattle.model_messages.specs.Queue.{messages_of}
use Rattle.log_replay.specs.ReplayRules.{DoesStep, lasting_in}
use Rattle.log_replay.specs.ConversationTally.{AddsMessage, TallyFollows}
use Rattle.log_replay.proofs.Before.{orderly_before, inputs_before, steps_before, refused, judged}
use Rattle.log_replay.proofs.Lifted.{accepts_is}
use Rattle.log_replay.proofs.Leaving.{rest_accepted, free_accepted, numbers_accepted, inputs_accepted, pads_accepted}
use Rattle.log_replay.proofs.Right.{accepted_follows, same_right}
use Rattle.model_image.specs.Replay.{replay_accepts}
use Rattle.log_replay.proofs.replaying.replay_input.Goals as goal

pub accept-requires-clause-orderly : goal.accept-requires-clause-orderly
accept-requires-clause-orderly c = orderly_before c.args.system.now c.args.kept.now c.requires.sound

pub accept-requires-clause-inputs : goal.accept-requires-clause-inputs
accept-requires-clause-inputs c = inputs_before c.args.system.now c.args.kept.now c.requires.sound

pub accept-requires-clause-steps : goal.accept-requires-clause-steps
accept-requires-clause-steps c = steps_before c.args.system.now c.args.kept.now c.requires.sound

pub returns-then-not-fine-clause-leaves : goal.returns-then-not-fine-clause-leaves
returns-then-not-fine-clause-leaves c =
    let m = c.args.message in
    let step = step_accepts c.args.system.now m.id m.origin m.code c.args.number m.conversation m.segments c.args.kept.now in
    refused c.args.system.now (replay_accepts c.args.system.now m.id m.origin m.code c.args.number m.conversation m.segments (lasting_in c.args.system.now c.args.kept.now)) step
    (accepts_is c.args.system.now m.id m.origin m.code c.args.number m.conversation m.segments c.args.kept.now) c.accept.new.kept c.accept.new.kept
    (subst (DoesStep step c.accept.new.kept) c.if-not-fine.true c.in_ok-fine.ensures)

pub is_sound-requires-clause-rest : goal.is_sound-requires-clause-rest
is_sound-requires-clause-rest c =
    let m = c.args.message in
    let step = step_accepts c.args.system.now m.id m.origin m.code c.args.number m.conversation m.segments c.args.kept.now in
    rest_accepted c.args.system.now c.args.kept.now c.requires.sound m.id m.origin m.code c.args.number m.conversation m.segments c.accept.new.kept
    (subst (DoesStep step c.accept.new.kept) c.if-not-fine.false c.in_ok-fine.ensures)

pub is_sound-requires-clause-numbers : goal.is_sound-requires-clause-numbers
is_sound-requires-clause-numbers c =
    let m = c.args.message in
    let step = step_accepts c.args.system.now m.id m.origin m.code c.args.number m.conversation m.segments c.args.kept.now in
    numbers_accepted c.args.system.now c.args.kept.now c.requires.sound m.id m.origin m.code c.args.number m.conversation m.segments c.accept.new.kept
    (subst (DoesStep step c.accept.new.kept) c.if-not-fine.false c.in_ok-fine.ensures)

pub is_sound-requires-clause-inputs : goal.is_sound-requires-clause-inputs
is_sound-requires-clause-inputs c =
    let m = c.args.message in
    let step = step_accepts c.args.system.now m.id m.origin m.code c.args.number m.conversation m.segments c.args.kept.now in
    c.is_small.ensures ∙ inputs_accepted c.args.system.now c.args.kept.now c.requires.sound m.id m.origin m.code c.args.number m.conversation m.segments c.accept.new.kept
    (subst (DoesStep step c.accept.new.kept) c.if-not-fine.false c.in_ok-fine.ensures)

pub is_sound-requires-clause-pads : goal.is_sound-requires-clause-pads
is_sound-requires-clause-pads c =
    let m = c.args.message in
    let step = step_accepts c.args.system.now m.id m.origin m.code c.args.number m.conversation m.segments c.args.kept.now in
    c.has_pad_at-pads.ensures ∙ pads_accepted c.args.system.now c.args.kept.now c.requires.sound m.id m.origin m.code c.args.number m.conversation m.segments c.accept.new.kept
    (subst (DoesStep step c.accept.new.kept) c.if-not-fine.false c.in_ok-fine.ensures)

pub returns-clause-leaves : goal.returns-clause-leaves
returns-clause-leaves c =
    let m = c.args.message in
    let step = step_accepts c.args.system.now m.id m.origin m.code c.args.number m.conversation m.segments c.args.kept.now in
    let done : step ≡ Some c.accept.new.kept = subst (DoesStep step c.accept.new.kept) c.if-not-fine.false c.in_ok-fine.ensures in
    judged c.args.system.now (replay_accepts c.args.system.now m.id m.origin m.code c.args.number m.conversation m.segments (lasting_in c.args.system.now c.args.kept.now)) step
    (accepts_is c.args.system.now m.id m.origin m.code c.args.number m.conversation m.segments c.args.kept.now) c.accept.new.kept done
    (free_accepted c.args.system.now c.args.kept.now c.requires.sound m.id m.origin m.code c.args.number m.conversation m.segments c.accept.new.kept done) c.is_sound.result c.is_sound.ensures

pub is_sound-requires-clause-right : goal.is_sound-requires-clause-right
is_sound-requires-clause-right c =
    let m = c.args.message in
    let step = step_accepts c.args.system.now m.id m.origin m.code c.args.number m.conversation m.segments c.args.kept.now in
    let left : TallyFollows c.args.system.now c.accept.new.kept c.add.new.self =
    accepted_follows c.args.system.now c.args.kept.now c.requires.sound c.args.tally.now c.requires.follows m.id m.origin m.code c.args.number m.conversation m.segments c.accept.new.kept c.add.new.self
    (subst (DoesStep step c.accept.new.kept) c.if-not-fine.false c.in_ok-fine.ensures)
    (subst (λ b. AddsMessage m.origin m.conversation b c.args.tally.now c.add.new.self) c.is_known-known.ensures c.in_ok-add.ensures) in
    c.is_right-right.ensures ∙ same_right c.args.system.now c.accept.new.kept.conversations (messages_of c.accept.new.kept.queues.queued) c.add.new.self left false

pub returns-clause-follows : goal.returns-clause-follows
returns-clause-follows c surely =
    let m = c.args.message in
    let step = step_accepts c.args.system.now m.id m.origin m.code c.args.number m.conversation m.segments c.args.kept.now in
    let left : TallyFollows c.args.system.now c.accept.new.kept c.add.new.self =
    accepted_follows c.args.system.now c.args.kept.now c.requires.sound c.args.tally.now c.requires.follows m.id m.origin m.code c.args.number m.conversation m.segments c.accept.new.kept c.add.new.self
    (subst (DoesStep step c.accept.new.kept) c.if-not-fine.false c.in_ok-fine.ensures)
    (subst (λ b. AddsMessage m.origin m.conversation b c.args.tally.now c.add.new.self) c.is_known-known.ensures c.in_ok-add.ensures) in
    left
