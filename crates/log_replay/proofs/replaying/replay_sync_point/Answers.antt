use Rattle.std.proofs.Common.{◌≡◌, ℕ, List, true, Some, subst, ap, ◌∙◌}
use Rattle.std.specs.Prelude.{Option}
use Rattle.std.specs.Option.{option_map_or}
use Rattle.model_messages.specs.Terminals.{conversation_at}
use Rattle.model_image.specs.States.{is_conversation}
use Rattle.log_replay.specs.ReplaySteps.{step_syncs}
use Rattle.log_replay.specs.ReplayRules.{DoesStep, lasting_in}
use Rattle.log_replay.specs.ConversationTally.{ends_pad, is_right}
use Rattle.log_replay.proofs.Before.{orderly_before, steps_before, numbers_from, refused, judged}
use Rattle.log_replay.proofs.Lifted.{syncs_is}
use Rattle.log_replay.proofs.Leaving.{rest_synced, free_synced, inputs_synced, pads_synced}
use Rattle.log_replay.proofs.Right.{goes_on, synced_right}
use Rattle.model_image.specs.Replay.{syncs}
use Rattle.log_replay.proofs.replaying.replay_sync_point.Goals as goal

pub sync-requires-clause-orderly : goal.sync-requires-clause-orderly
sync-requires-clause-orderly c = orderly_before c.args.system.now c.args.kept.now c.requires.sound

pub sync-requires-clause-steps : goal.sync-requires-clause-steps
sync-requires-clause-steps c = steps_before c.args.system.now c.args.kept.now c.requires.sound

pub returns-then-not-fine-clause-leaves : goal.returns-then-not-fine-clause-leaves
returns-then-not-fine-clause-leaves c =
    let step = step_syncs c.args.pad c.args.records c.args.kept.now in
    refused c.args.system.now (syncs c.args.pad c.args.records (lasting_in c.args.system.now c.args.kept.now)) step
    (syncs_is c.args.system.now c.args.pad c.args.records c.args.kept.now) c.sync.new.kept c.sync.new.kept
    (subst (DoesStep step c.sync.new.kept) c.if-not-fine.true c.in_ok-fine.ensures.done)

pub is_sound-requires-clause-rest : goal.is_sound-requires-clause-rest
is_sound-requires-clause-rest c =
    let step = step_syncs c.args.pad c.args.records c.args.kept.now in
    rest_synced c.args.system.now c.args.kept.now c.requires.sound c.args.pad c.args.records c.sync.new.kept
    (subst (DoesStep step c.sync.new.kept) c.if-not-fine.false c.in_ok-fine.ensures.done)

pub is_sound-requires-clause-numbers : goal.is_sound-requires-clause-numbers
is_sound-requires-clause-numbers c =
    let step = step_syncs c.args.pad c.args.records c.args.kept.now in
    numbers_from c.sync.new.kept.outputs
    (rest_synced c.args.system.now c.args.kept.now c.requires.sound c.args.pad c.args.records c.sync.new.kept
    (subst (DoesStep step c.sync.new.kept) c.if-not-fine.false c.in_ok-fine.ensures.done)).runs
    c.in_ok-fine.ensures.small

pub is_sound-requires-clause-inputs : goal.is_sound-requires-clause-inputs
is_sound-requires-clause-inputs c =
    let step = step_syncs c.args.pad c.args.records c.args.kept.now in
    inputs_synced c.args.system.now c.args.kept.now c.requires.sound c.args.pad c.args.records c.sync.new.kept
    (subst (DoesStep step c.sync.new.kept) c.if-not-fine.false c.in_ok-fine.ensures.done)

pub is_sound-requires-clause-pads : goal.is_sound-requires-clause-pads
is_sound-requires-clause-pads c =
    let step = step_syncs c.args.pad c.args.records c.args.kept.now in
    c.has_pad_of-pads.ensures
    ∙ ap (λ (o : Option (List ℕ)). option_map_or (λ name. option_map_or (is_conversation c.args.system.now) (conversation_at name c.sync.new.kept.conversations) true) o true) c.origin_done-origin.ensures
    ∙ pads_synced c.args.system.now c.args.kept.now c.requires.sound c.args.pad c.args.records c.sync.new.kept
    (subst (DoesStep step c.sync.new.kept) c.if-not-fine.false c.in_ok-fine.ensures.done)

pub returns-clause-leaves : goal.returns-clause-leaves
returns-clause-leaves c =
    let step = step_syncs c.args.pad c.args.records c.args.kept.now in
    let done : step ≡ Some c.sync.new.kept = subst (DoesStep step c.sync.new.kept) c.if-not-fine.false c.in_ok-fine.ensures.done in
    judged c.args.system.now (syncs c.args.pad c.args.records (lasting_in c.args.system.now c.args.kept.now)) step
    (syncs_is c.args.system.now c.args.pad c.args.records c.args.kept.now) c.sync.new.kept done
    (free_synced c.args.system.now c.args.kept.now c.requires.sound c.args.pad c.args.records c.sync.new.kept done) c.is_sound.result c.is_sound.ensures

pub is_sound-requires-clause-right : goal.is_sound-requires-clause-right
is_sound-requires-clause-right c =
    let step = step_syncs c.args.pad c.args.records c.args.kept.now in
    c.is_right-right.ensures
    ∙ ap (λ b. is_right b c.origin_done-origin.result c.sync.new.tally) c.ends_pad-ends.ensures
    ∙ ap (λ o. is_right (ends_pad c.args.pad) o c.sync.new.tally) c.origin_done-origin.ensures
    ∙ synced_right c.args.system.now c.args.kept.now c.requires.sound c.args.pad c.args.records c.sync.new.kept c.sync.new.tally
    (subst (DoesStep step c.sync.new.kept) c.if-not-fine.false c.in_ok-fine.ensures.done) (c.in_ok-fine.ensures.tells c.if-not-fine.false)

pub returns-clause-follows : goal.returns-clause-follows
returns-clause-follows c =
    let step = step_syncs c.args.pad c.args.records c.args.kept.now in
    goes_on c.args.system.now c.sync.new.kept c.sync.new.tally (c.in_ok-fine.ensures.tells c.if-not-fine.false).counts c.ends_pad-ends.result c.origin_done-origin.result
    (ap (λ b. is_right b c.origin_done-origin.result c.sync.new.tally) c.ends_pad-ends.ensures
    ∙ ap (λ o. is_right (ends_pad c.args.pad) o c.sync.new.tally) c.origin_done-origin.ensures
    ∙ synced_right c.args.system.now c.args.kept.now c.requires.sound c.args.pad c.args.records c.sync.new.kept c.sync.new.tally
    (subst (DoesStep step c.sync.new.kept) c.if-not-fine.false c.in_ok-fine.ensures.done) (c.in_ok-fine.ensures.tells c.if-not-fine.false))
    c.is_sound.result c.is_sound.ensures
