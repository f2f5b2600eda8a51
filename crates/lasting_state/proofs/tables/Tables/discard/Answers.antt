use Rattle.std.proofs.Common.{List, [], ◌∷◌, rules, subst, sym}
use Rattle.std.proofs.lemmas.Result.{IfErr-weaker}
use Rattle.log_records.specs.declared.record.Record.{Record}
use Rattle.log_records.specs.declared.record.Record.TheVariants.{Discarded}
use Rattle.log_records.specs.ToldRecords.{AreRecordsUntold, TellsInRoom as RecordsTell}
use Rattle.model_machine.specs.LastingSteps.LastingStep.{Discards}
use Rattle.lasting_state.specs.UntoldSteps.{WhereFull}
use Rattle.lasting_state.specs.Tables.{TablesState}
use Rattle.lasting_state.specs.ToldSteps.{AreRecordsLonger}
use Rattle.lasting_state.proofs.Told.{discarding_are, longer, tells}
use Rattle.lasting_state.proofs.tables.Tables.discard.Goals as goal

pub returns-in_err-tell_discarded-clause-full : goal.returns-in_err-tell_discarded-clause-full
returns-in_err-tell_discarded-clause-full c =
    let old : TablesState = record { databases = c.self.inside.databases; queues = c.self.inside.queues; next_id = c.self.inside.next_id; terminals = c.self.inside.terminals.items; outputs = c.self.inside.outputs; conversations = c.self.inside.conversations; steps = c.self.inside.steps } in
    rw (sym c.self.view_is)
    (IfErr-weaker c.from_residual.result (AreRecordsUntold (Discarded c.args.telling.now.unit c.args.id c.args.abend c.next_number-number.result ∷ []) c.args.telling.now.room)
    (WhereFull (AreRecordsLonger c.args.telling.now.unit c.args.telling.now.room (Discards c.args.id c.args.abend) old))
    (λ error h. longer c.args.telling.now.unit c.args.telling.now.room (Discards c.args.id c.args.abend) old error
    (λ settings. subst (λ (rs : List Record). AreRecordsUntold rs c.args.telling.now.room error)
    (discarding_are c.args.telling.now.unit old c.args.id c.args.abend c.in-Some.message.now c.next_number-number.result c.in-Some.ensures c.next_number-number.ensures settings) h))
    (search rules))

pub returns-in-Ok-clause-told : goal.returns-in-Ok-clause-told
returns-in-Ok-clause-told c =
    let old : TablesState = record { databases = c.self.inside.databases; queues = c.self.inside.queues; next_id = c.self.inside.next_id; terminals = c.self.inside.terminals.items; outputs = c.self.inside.outputs; conversations = c.self.inside.conversations; steps = c.self.inside.steps } in
    rw (sym c.self.view_is)
    (tells c.args.telling.now.unit c.args.telling.now.room (Discards c.args.id c.args.abend) old c.args.telling.now.told.items c.tell_discarded.new.telling.told.items
    (λ settings. subst (λ (rs : List Record). RecordsTell rs c.args.telling.now.room c.args.telling.now.told.items c.tell_discarded.new.telling.told.items)
    (discarding_are c.args.telling.now.unit old c.args.id c.args.abend c.in-Some.message.now c.next_number-number.result c.in-Some.ensures c.next_number-number.ensures settings)
    c.in_ok-tell_discarded.ensures.told))
