use Rattle.std.proofs.Common.{sym, ap, ◌∙◌}
use Rattle.lasting_state.specs.ToldSteps.{removes_by}
use Rattle.lasting_state.proofs.Told.{declined_told}
use Rattle.lasting_state.proofs.tables.Tables.acknowledge.Goals as goal

pub returns-clause-told : goal.returns-clause-told
returns-clause-told c =
    declined_told c.args.self.now c.args.terminal.now c.args.number c.args.telling.now.room c.args.telling.now.told.items c.take_acknowledgement.result
    (rw (sym c.self.view_is) (ap (λ o. removes_by o c.args.number) (sym c.terminal.ensures) ∙ (sym c.removes.ensures ∙ c.if-removes.false)))
    c.take_acknowledgement.ensures.answer
