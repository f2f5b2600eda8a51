use Rattle.std.proofs.Common.{List, [], ◌∷◌, rules, subst}
use Rattle.std.proofs.lemmas.Result.{IfErr-weaker}
use Rattle.log_records.specs.declared.record.Record.{Record}
use Rattle.log_records.specs.declared.record.Record.TheVariants.{Acknowledged}
use Rattle.log_records.specs.ToldRecords.{AreRecordsUntold, TellsInRoom as RecordsTell}
use Rattle.model_machine.specs.Machine.{output_at}
use Rattle.model_machine.specs.LastingSteps.LastingStep.{Acknowledges}
use Rattle.lasting_state.specs.UntoldSteps.{WhereFull}
use Rattle.lasting_state.specs.ToldSteps.{WouldAcknowledge}
use Rattle.lasting_state.proofs.Told.{acknowledged_are, removed_told, removes_so, tells, longer, where_full}
use Rattle.lasting_state.proofs.tables.Tables.remove.Goals as goal

pub returns-clause-told : goal.returns-clause-told
returns-clause-told c =
    removed_told c.args.self.now c.args.terminal.now c.args.number c.args.telling.now.room c.args.telling.now.told.items c.tell_acknowledged.new.telling.told.items c.take_acknowledgement.result c.requires.removes c.take_acknowledgement.ensures.answer
    (tells 0 c.args.telling.now.room (Acknowledges c.args.terminal.now) c.args.self.now c.args.telling.now.told.items c.tell_acknowledged.new.telling.told.items
    (λ settings. subst (λ (rs : List Record). RecordsTell rs c.args.telling.now.room c.args.telling.now.told.items c.tell_acknowledged.new.telling.told.items)
    (acknowledged_are c.args.self.now c.args.terminal.now c.args.number c.requires.removes settings) c.in_ok-tell_acknowledged.ensures.told))

pub returns-in_err-tell_acknowledged-clause-full : goal.returns-in_err-tell_acknowledged-clause-full
returns-in_err-tell_acknowledged-clause-full c =
    IfErr-weaker c.from_residual.result (AreRecordsUntold (Acknowledged c.args.terminal.now c.args.number ∷ []) c.args.telling.now.room) (WhereFull (WouldAcknowledge c.args.self.now c.args.terminal.now c.args.number c.args.telling.now.room))
    (λ error h. where_full error
    (λ is_longer. record { removes = (removes_so (output_at c.args.self.now.outputs c.args.terminal.now) c.args.number c.requires.removes).0; longer = is_longer })
    (longer 0 c.args.telling.now.room (Acknowledges c.args.terminal.now) c.args.self.now error
    (λ settings. subst (λ (rs : List Record). AreRecordsUntold rs c.args.telling.now.room error) (acknowledged_are c.args.self.now c.args.terminal.now c.args.number c.requires.removes settings) h)))
    (search rules)
