use Rattle.std.proofs.Common.{List, [], ◌∷◌, ◌++◌, refl, rules, subst, sym}
use Rattle.log_records.specs.declared.record.Record.{Record}
use Rattle.log_records.specs.declared.record.Record.TheVariants.{SyncPoint}
use Rattle.log_records.specs.ToldRecords.{AreRecordsUntold, TellsInRoom as RecordsTell}
use Rattle.model_machine.specs.LastingSteps.LastingStep.{Completes}
use Rattle.model_machine.specs.Machine.{LastingState}
use Rattle.program_rows.specs.DatabasesState.{region_at}
use Rattle.model_image.specs.StepRecords.{completion_records}
use Rattle.lasting_state.specs.UntoldSteps.{WhereFull}
use Rattle.lasting_state.specs.Tables.{lasting_of, TablesState}
use Rattle.lasting_state.specs.ToldSteps.{AreRecordsLonger}
use Rattle.lasting_state.proofs.Told.{completion_are, cut_back, err_is, longer, tells}
use Rattle.lasting_state.proofs.tables.Tables.complete.Goals as goal

pub returns-in_err-tell_completion-clause-full : goal.returns-in_err-tell_completion-clause-full
returns-in_err-tell_completion-clause-full c =
    let old : TablesState = record { databases = c.self.inside.databases; queues = c.self.inside.queues; next_id = c.self.inside.next_id; terminals = c.self.inside.terminals.items; outputs = c.self.inside.outputs; conversations = c.self.inside.conversations; steps = c.self.inside.steps } in
    rw (sym c.self.view_is)
    (err_is (WhereFull (AreRecordsLonger c.args.telling.now.unit c.args.telling.now.room (Completes c.args.id (region_at c.args.region old.databases).rows c.args.outputs.items c.args.pad) old))
    c.from_residual.result c.in_err-tell_completion.field-0.0 (search rules)
    (longer c.args.telling.now.unit c.args.telling.now.room (Completes c.args.id (region_at c.args.region old.databases).rows c.args.outputs.items c.args.pad) old c.in_err-tell_completion.field-0.0
    (λ settings. subst (λ (rs : List Record). AreRecordsUntold rs c.args.telling.now.room c.in_err-tell_completion.field-0.0)
    (completion_are c.args.telling.now.unit old c.args.id c.args.outputs.items c.args.pad c.in-Some.message.now c.in-Some.ensures (region_at c.args.region old.databases).rows settings)
    (c.in_err-tell_completion.ensures.full (lasting_of settings old) refl refl))))

pub returns-in-Ok-clause-told : goal.returns-in-Ok-clause-told
returns-in-Ok-clause-told c =
    let old : TablesState = record { databases = c.self.inside.databases; queues = c.self.inside.queues; next_id = c.self.inside.next_id; terminals = c.self.inside.terminals.items; outputs = c.self.inside.outputs; conversations = c.self.inside.conversations; steps = c.self.inside.steps } in
    rw (sym c.self.view_is)
    (tells c.args.telling.now.unit c.args.telling.now.room (Completes c.args.id (region_at c.args.region old.databases).rows c.args.outputs.items c.args.pad) old c.args.telling.now.told.items c.tell_completion.new.telling.told.items
    (λ settings. subst (λ (rs : List Record). RecordsTell rs c.args.telling.now.room c.args.telling.now.told.items c.tell_completion.new.telling.told.items)
    (completion_are c.args.telling.now.unit old c.args.id c.args.outputs.items c.args.pad c.in-Some.message.now c.in-Some.ensures (region_at c.args.region old.databases).rows settings)
    (c.in_ok-tell_completion.ensures.told (lasting_of settings old) refl refl)))

pub returns-in-Err-clause-untold : goal.returns-in-Err-clause-untold
returns-in-Err-clause-untold c =
    let old : TablesState = record { databases = c.self.inside.databases; queues = c.self.inside.queues; next_id = c.self.inside.next_id; terminals = c.self.inside.terminals.items; outputs = c.self.inside.outputs; conversations = c.self.inside.conversations; steps = c.self.inside.steps } in
    let lasting : LastingState = lasting_of [] old in
    cut_back (completion_records c.args.telling.now.unit c.in-Some.message.now.origin c.args.id c.args.outputs.items lasting ++ SyncPoint c.args.telling.now.unit c.args.pad ∷ []) c.args.telling.now.room c.len-start.result
    c.args.telling.now.told.items c.tell_completion.new.telling.told.items c.truncate.new.self.items (c.in_ok-tell_completion.ensures.told lasting refl refl) (search rules) c.truncate.ensures.items
