use Rattle.std.proofs.Common.{true, refl, sym, subst, ap}
use Rattle.std.specs.Option.{option_map, option_map_or}
use Rattle.model_image.specs.States.{breaks_a_rule}
use Rattle.model_machine.specs.LastingSteps.{applied}
use Rattle.model_machine.specs.LastingSteps.LastingStep.{Commands}
use Rattle.log_replay.specs.ReplayRules.{RecordLeaves, lasting_in}
use Rattle.log_replay.proofs.replaying.replay_command.Goals as goal

pub do_spelled-requires-clause-assigned : goal.do_spelled-requires-clause-assigned
do_spelled-requires-clause-assigned c = ((c.in-Some.ensures.spelled _).0 refl).assigned

pub returns-in-Some-clause-leaves : goal.returns-in-Some-clause-leaves
returns-in-Some-clause-leaves c =
    subst (λ o. RecordLeaves c.args.system.now (option_map (λ k. applied (Commands k) (lasting_in c.args.system.now c.args.kept.now)) o) c.do_spelled.new.kept c.do_spelled.result) c.in-Some.ensures.value c.do_spelled.ensures.leaves

pub returns-in-None-clause-leaves : goal.returns-in-None-clause-leaves
returns-in-None-clause-leaves c =
    sym (ap (λ o. option_map_or (breaks_a_rule c.args.system.now) (option_map (λ k. applied (Commands k) (lasting_in c.args.system.now c.args.kept.now)) o) true) c.in-None.ensures.value)
