use Rattle.std.proofs.Common.{Option, sym, subst}
use Rattle.dli_calls.specs.declared.planned.Edit.{Edit}
use Rattle.log_records.specs.ToldRecords.{TellsInRoom}
use Rattle.program_rows.specs.PlannedChanges.{IsUntoldEdit, edit_told}
use Rattle.program_rows.proofs.making.make.Goals as goal

pub returns-in-Ok-None-clause-tells : goal.returns-in-Ok-None-clause-tells
returns-in-Ok-None-clause-tells c =
    subst (λ (e : Option Edit). TellsInRoom (edit_told c.args.telling.now.unit c.args.asked.now.number e c.args.opened.now.stores.stores) c.args.telling.now.room c.args.telling.now.told.items c.change.new.telling.told.items) (sym c.in-Some.is)
    (rw c.in-Some.edit-is at (rw c.in-Ok-None.field-0-is at c.in-Ok-None.ensures.tells))

pub returns-in-Err-change-clause-full : goal.returns-in-Err-change-clause-full
returns-in-Err-change-clause-full c =
    subst (λ (e : Option Edit). IsUntoldEdit c.args.asked.now c.args.dbd.now e c.args.opened.now c.args.telling.now.unit c.args.telling.now.room c.in-Err-change.error) (sym c.in-Some.is)
    (rw c.in-Some.edit-is at c.in-Err-change.ensures.full)
