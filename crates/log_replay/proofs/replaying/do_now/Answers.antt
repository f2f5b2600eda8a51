use Rattle.std.proofs.Common.{sym, subst, ap}
use Rattle.log_records.specs.declared.record.Record.{Record}
use Rattle.model_image.specs.Replay.{replay_accepts, commands}
use Rattle.log_replay.specs.ReplayRules.{RecordLeaves, lasting_in}
use Rattle.log_replay.specs.WorkState.{WorkState, IsRecordDone}
use Rattle.log_replay.proofs.Coming.{command_done, input_done, of_both}
use Rattle.log_replay.proofs.replaying.do_now.Goals as goal

pub returns-in-Input : goal.returns-in-Input
returns-in-Input c =
    let i = c.in-Input in
    let new : WorkState = record { kept = c.replay_input.new.kept; units = c.working.inside.units.entries; tally = c.replay_input.new.tally } in
    of_both c.replay_input.result _ _ _
    (λ fine leaves follows. subst (λ (r : Record). IsRecordDone c.args.system.now r c.args.working.now new fine) (sym i.is)
    (input_done c.args.system.now _ i.id i.origin i.code i.number i.conversation i.segments c.args.working.now new fine
    (subst (λ (w : WorkState). RecordLeaves c.args.system.now (replay_accepts c.args.system.now i.id i.origin i.code i.number i.conversation i.segments (lasting_in c.args.system.now w.kept)) c.replay_input.new.kept fine) c.working.view_is leaves)
    (ap (λ (w : WorkState). w.units) c.working.view_is) follows))
    c.replay_input.ensures.leaves c.replay_input.ensures.follows

pub returns-in-Command : goal.returns-in-Command
returns-in-Command c =
    let i = c.in-Command in
    let new : WorkState = record { kept = c.replay_command.new.kept; units = c.working.inside.units.entries; tally = c.working.inside.tally } in
    of_both c.replay_command.result _ _ _
    (λ fine leaves follows. subst (λ (r : Record). IsRecordDone c.args.system.now r c.args.working.now new fine) (sym i.is)
    (command_done c.args.system.now c.in-Command.text c.args.working.now new fine
    (subst (λ (w : WorkState). RecordLeaves c.args.system.now (commands c.in-Command.text (lasting_in c.args.system.now w.kept)) c.replay_command.new.kept fine) c.working.view_is
    (subst (λ text. RecordLeaves c.args.system.now (commands text (lasting_in c.args.system.now c.working.inside.kept)) c.replay_command.new.kept fine) c.as_slice.ensures leaves))
    (ap (λ (w : WorkState). w.units) c.working.view_is) follows))
    c.replay_command.ensures.leaves c.replay_command.ensures.follows
