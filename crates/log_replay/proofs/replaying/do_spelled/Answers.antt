use Rattle.std.proofs.Common.{◌≡◌, true, Some, sym, subst, ap, ◌∙◌}
use Rattle.std.specs.List.{list_all}
use Rattle.model_image.specs.States.{has_right_pad, is_next, is_small}
use Rattle.model_machine.specs.LastingSteps.{applied}
use Rattle.model_machine.specs.LastingSteps.LastingStep.{Commands}
use Rattle.log_replay.specs.ReplayRules.{AreMessagesFree, KeepsRest, are_right, lasting_in}
use Rattle.model_messages.specs.Queue.{messages_of}
use Rattle.log_replay.specs.ReplaySteps.{step_commands}
use Rattle.log_replay.specs.ConversationTally.{Counts, is_right}
use Rattle.log_replay.proofs.Before.{steps_before, judged}
use Rattle.log_replay.proofs.Commands.{commands_is, free_commanded, inputs_commanded, numbers_commanded, pads_commanded, rest_commanded}
use Rattle.log_replay.proofs.Right.{commanded_counts, commanded_right, goes_on}
use Rattle.log_replay.proofs.replaying.do_spelled.Goals as goal

pub command-requires : goal.command-requires
command-requires c = steps_before c.args.system.now c.args.kept.now c.requires.sound

pub is_sound-requires-clause-rest : goal.is_sound-requires-clause-rest
is_sound-requires-clause-rest c = subst KeepsRest (sym c.command.ensures) (rest_commanded c.args.system.now c.args.kept.now c.requires.sound c.args.spelled.now c.requires.assigned)

pub is_sound-requires-clause-numbers : goal.is_sound-requires-clause-numbers
is_sound-requires-clause-numbers c =
    subst (λ k. list_all (λ t. is_next t.next) k.outputs ≡ true) (sym c.command.ensures) (numbers_commanded c.args.system.now c.args.kept.now c.requires.sound c.args.spelled.now)

pub is_sound-requires-clause-inputs : goal.is_sound-requires-clause-inputs
is_sound-requires-clause-inputs c =
    subst (λ k. true ≡ list_all (λ t. is_small t.last) k.terminals) (sym c.command.ensures) (inputs_commanded c.args.system.now c.args.kept.now c.requires.sound c.args.spelled.now)

pub is_sound-requires-clause-pads : goal.is_sound-requires-clause-pads
is_sound-requires-clause-pads c =
    subst (λ k. true ≡ list_all (has_right_pad c.args.system.now) k.conversations) (sym c.command.ensures) (pads_commanded c.args.system.now c.args.kept.now c.requires.sound c.args.spelled.now)

pub is_sound-requires-clause-right : goal.is_sound-requires-clause-right
is_sound-requires-clause-right c =
    c.is_right-right.ensures
    ∙ ap (λ o. is_right true o c.args.tally.now) c.ended_by-ended.ensures
    ∙ commanded_right c.args.system.now c.args.kept.now c.requires.sound c.args.tally.now c.requires.follows c.args.spelled.now
    ∙ ap (are_right c.args.system.now) (sym c.command.ensures)

pub returns-clause-follows : goal.returns-clause-follows
returns-clause-follows c =
    goes_on c.args.system.now c.command.new.kept c.args.tally.now
    (subst (λ k. Counts (messages_of k.queues.queued) c.args.tally.now.counts) (sym c.command.ensures) (commanded_counts c.args.system.now c.args.kept.now c.requires.sound c.args.tally.now c.requires.follows c.args.spelled.now))
    true c.ended_by-ended.result
    (ap (λ o. is_right true o c.args.tally.now) c.ended_by-ended.ensures
    ∙ commanded_right c.args.system.now c.args.kept.now c.requires.sound c.args.tally.now c.requires.follows c.args.spelled.now
    ∙ ap (are_right c.args.system.now) (sym c.command.ensures))
    c.is_sound.result c.is_sound.ensures

pub returns-clause-leaves : goal.returns-clause-leaves
returns-clause-leaves c =
    judged c.args.system.now (Some (applied (Commands c.args.spelled.now) (lasting_in c.args.system.now c.args.kept.now))) (Some (step_commands c.args.spelled.now c.args.kept.now))
    (ap (λ l. Some l) (commands_is c.args.system.now c.args.spelled.now c.args.kept.now)) c.command.new.kept (ap (λ k. Some k) (sym c.command.ensures))
    (subst (AreMessagesFree c.args.system.now) (sym c.command.ensures) (free_commanded c.args.system.now c.args.kept.now c.requires.sound c.args.spelled.now)) c.is_sound.result c.is_sound.ensures
