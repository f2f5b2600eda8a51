use Rattle.std.proofs.Common.{[], ◌∷◌, rules, sym}
use Rattle.std.proofs.lemmas.Result.{IfErr-weaker}
use Rattle.log_records.specs.declared.record.Record.TheVariants.{Input}
use Rattle.log_records.specs.ToldRecords.{AreRecordsUntold}
use Rattle.model_machine.specs.LastingSteps.LastingStep.{Accepts}
use Rattle.lasting_state.proofs.Told.{tells, longer, where_full}
use Rattle.lasting_state.proofs.tables.Tables.keep_told.Goals as goal

pub returns-in_err-tell_kept-clause-full : goal.returns-in_err-tell_kept-clause-full
returns-in_err-tell_kept-clause-full c =
    rw (sym c.self.view_is)
    (IfErr-weaker c.from_residual.result (AreRecordsUntold (Input 0 c.self.inside.next_id c.args.terminal.now c.args.kept.code c.args.number c.args.kept.conversation c.args.kept.segments ∷ []) c.args.telling.now.room) _
    (λ error h. where_full error (λ is_longer. record { fits = rw (← c.self.view_is) at c.requires.fits; longer = is_longer })
    (longer 0 c.args.telling.now.room (Accepts c.args.terminal.now c.args.number c.args.kept) (record { databases = c.self.inside.databases; queues = c.self.inside.queues; next_id = c.self.inside.next_id; terminals = c.self.inside.terminals.items; outputs = c.self.inside.outputs; conversations = c.self.inside.conversations; steps = c.self.inside.steps }) error (λ settings. h)))
    (search rules))

pub returns-in-Ok-New-clause-told : goal.returns-in-Ok-New-clause-told
returns-in-Ok-New-clause-told c =
    rw (sym c.self.view_is)
    (tells 0 c.args.telling.now.room (Accepts c.args.terminal.now c.args.number c.args.kept)
    (record { databases = c.self.inside.databases; queues = c.self.inside.queues; next_id = c.self.inside.next_id; terminals = c.self.inside.terminals.items; outputs = c.self.inside.outputs; conversations = c.self.inside.conversations; steps = c.self.inside.steps })
    c.args.telling.now.told.items c.tell_kept.new.telling.told.items (λ settings. c.in_ok-tell_kept.ensures.told))
