use Rattle.std.proofs.Common.{[], ◌∷◌, rules}
use Rattle.std.proofs.lemmas.Result.{IfErr-weaker}
use Rattle.tm_types.specs.Commands as command_text
use Rattle.log_records.specs.declared.record.Record.TheVariants.{Command}
use Rattle.log_records.specs.ToldRecords.{AreRecordsUntold}
use Rattle.model_machine.specs.LastingSteps.LastingStep.{Commands}
use Rattle.lasting_state.specs.UntoldSteps.{WhereFull}
use Rattle.lasting_state.specs.ToldSteps.{AreRecordsLonger}
use Rattle.lasting_state.proofs.Commanded.{applies_command}
use Rattle.lasting_state.proofs.Told.{tells, longer}
use Rattle.lasting_state.proofs.tables.Tables.command.Goals as goal

pub returns-clause-applies : goal.returns-clause-applies
returns-clause-applies c = applies_command c.args.command.now c.args.self.now c.do_command.new.self c.do_command.ensures

pub returns-clause-told : goal.returns-clause-told
returns-clause-told c = tells 0 c.args.telling.now.room (Commands c.args.command.now) c.args.self.now c.args.telling.now.told.items c.tell_command.new.telling.told.items (λ settings. c.in_ok-tell_command.ensures.told)

pub returns-in_err-tell_command-clause-full : goal.returns-in_err-tell_command-clause-full
returns-in_err-tell_command-clause-full c =
    IfErr-weaker c.from_residual.result (AreRecordsUntold (Command (command_text.command_spelling c.args.command.now) ∷ []) c.args.telling.now.room) (WhereFull (AreRecordsLonger 0 c.args.telling.now.room (Commands c.args.command.now) c.args.self.now))
    (λ error h. longer 0 c.args.telling.now.room (Commands c.args.command.now) c.args.self.now error (λ settings. h))
    (search rules)
