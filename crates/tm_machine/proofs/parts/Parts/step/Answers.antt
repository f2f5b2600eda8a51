use Rattle.std.proofs.Common.{◌≡◌, refl, sym, ap, subst, ◌∙◌}
use Rattle.model_machine.specs.declared.entry.Turned.TheVariants.{Called as TurnCalled}
use Rattle.tm_machine.specs.SlotChanges.{changes_told, TurnsSo}
use Rattle.tm_machine.specs.Turns.{IsRegionTurned}
use Rattle.tm_machine.proofs.Breaking.{turned_waits}
use Rattle.tm_machine.proofs.Going.{err_map}
use Rattle.region_work.proofs.Results.{ok_map, on_map, if_err_map}
use Rattle.tm_machine.proofs.Slotting.{none_added, none_told, tells_call, tells_later, longer_call, longer_later, turns_later, empty_tells, by_call, all_by_call, waits_so, table_alone}
use Rattle.lasting_state.proofs.Told.{where_full}
use Rattle.tm_machine.proofs.Telling.{quiet_tells}
use Rattle.tm_machine.proofs.parts.Parts.step.Goals as goal

-- an empty region
pub returns-in-Ok-None-clause-turned : goal.returns-in-Ok-None-clause-turned
returns-in-Ok-None-clause-turned c =
    let goes = (rw c.in-Ok-None.field-0-is at c.in-Ok-None.ensures.ok) in
    subst (λ s. IsRegionTurned s c.schedule.new.self c.args.region c.schedule.result) goes.1 c.schedule.ensures.turned

pub returns-in-Ok-None-clause-told : goal.returns-in-Ok-None-clause-told
returns-in-Ok-None-clause-told c =
    let goes = (rw c.in-Ok-None.field-0-is at c.in-Ok-None.ensures.ok) in
    let none = empty_tells c.args.self.now c.args.telling.now.unit c.args.region goes.0 in
    tells_later c.args.self.now c.advance.new.self c.args.telling.now.unit c.args.telling.now.room c.args.region c.args.telling.now.told.items c.advance.new.telling.told.items c.advance.new.telling.told.items goes.1 none
    (none_told (changes_told c.args.self.now c.args.telling.now.unit c.args.region) c.args.telling.now.room c.args.telling.now.told.items c.advance.new.telling.told.items none c.in-Ok-None.ensures.tells.tells)
    (quiet_tells c.advance.new.self c.schedule.new.self c.args.region c.args.telling.now.unit c.args.telling.now.room c.schedule.result c.advance.new.telling.told.items c.schedule.ensures.turned c.schedule.ensures.quiet)

pub returns-in-Ok-None-clause-slots : goal.returns-in-Ok-None-clause-slots
returns-in-Ok-None-clause-slots c =
    let goes = (rw c.in-Ok-None.field-0-is at c.in-Ok-None.ensures.ok) in
    turns_later c.args.self.now c.advance.new.self c.schedule.new.self c.args.telling.now.unit c.args.region c.schedule.result goes.1 (c.schedule.ensures.slots c.args.telling.now.unit)

pub returns-in-Ok-None-clause-calls : goal.returns-in-Ok-None-clause-calls
returns-in-Ok-None-clause-calls c =
    let goes = (rw c.in-Ok-None.field-0-is at c.in-Ok-None.ensures.ok) in
    by_call (changes_told c.args.self.now c.args.telling.now.unit c.args.region) c.schedule.result (empty_tells c.args.self.now c.args.telling.now.unit c.args.region goes.0)

-- a call
pub returns-in-Ok-Some-Called-clause-told : goal.returns-in-Ok-Some-Called-clause-told
returns-in-Ok-Some-Called-clause-told c =
    let goes = (rw c.in-Ok-Some-Called.field-0-0-is at (rw c.in-Ok-Some-Called.field-0-is at c.in-Ok-Some-Called.ensures.ok)) in
    tells_call c.args.self.now c.args.telling.now.unit c.args.telling.now.room c.args.region c.args.telling.now.told.items c.advance.new.telling.told.items c.in-Ok-Some-Called.ensures.tells.tells
    (quiet_tells c.args.self.now c.advance.new.self c.args.region c.args.telling.now.unit c.args.telling.now.room (TurnCalled c.in-Ok-Some-Called.function c.in-Ok-Some-Called.pcb c.in-Ok-Some-Called.status) c.advance.new.telling.told.items goes refl)

pub returns-in-Ok-Some-Called-clause-slots : goal.returns-in-Ok-Some-Called-clause-slots
returns-in-Ok-Some-Called-clause-slots c = c.in-Ok-Some-Called.ensures.tells.slots

-- the end of the work
pub returns-in-Ok-Some-Ended-clause-told : goal.returns-in-Ok-Some-Ended-clause-told
returns-in-Ok-Some-Ended-clause-told c =
    let goes = (rw c.in-Ok-Some-Ended.field-0-0-is at (rw c.in-Ok-Some-Ended.field-0-is at c.in-Ok-Some-Ended.ensures.ok)) in
    let same = (rw c.in-Ok-Some-Ended.field-0-0-is at (rw c.in-Ok-Some-Ended.field-0-is at c.in-Ok-Some-Ended.ensures.quiet)) in
    on_map c.finish.result
    (tells_later c.args.self.now c.advance.new.self c.args.telling.now.unit c.args.telling.now.room c.args.region c.args.telling.now.told.items c.advance.new.telling.told.items c.finish.new.telling.told.items goes.1
    (none_added (changes_told c.args.self.now c.args.telling.now.unit c.args.region) c.args.telling.now.room c.args.telling.now.told.items c.advance.new.telling.told.items same c.in-Ok-Some-Ended.ensures.tells.tells) same)
    (rw c.in-Ok-Some-Ended.ensures.place at c.finish.ensures.told)

pub returns-in-Ok-Some-Ended-clause-slots : goal.returns-in-Ok-Some-Ended-clause-slots
returns-in-Ok-Some-Ended-clause-slots c =
    let goes = (rw c.in-Ok-Some-Ended.field-0-0-is at (rw c.in-Ok-Some-Ended.field-0-is at c.in-Ok-Some-Ended.ensures.ok)) in
    ok_map _ _ c.finish.result (λ turned. turns_later c.args.self.now c.advance.new.self c.finish.new.self c.args.telling.now.unit c.args.region turned goes.1) (rw c.in-Ok-Some-Ended.ensures.place at c.finish.ensures.slots)

pub returns-in-Ok-Some-Ended-clause-untold : goal.returns-in-Ok-Some-Ended-clause-untold
returns-in-Ok-Some-Ended-clause-untold c =
    let same = (rw c.in-Ok-Some-Ended.field-0-0-is at (rw c.in-Ok-Some-Ended.field-0-is at c.in-Ok-Some-Ended.ensures.quiet)) in
    err_map c.finish.result (λ (e : c.finish.new.telling.told.items ≡ c.advance.new.telling.told.items). e ∙ same) c.finish.ensures.untold

pub returns-in-Ok-Some-Ended-clause-full : goal.returns-in-Ok-Some-Ended-clause-full
returns-in-Ok-Some-Ended-clause-full c =
    let goes = (rw c.in-Ok-Some-Ended.field-0-0-is at (rw c.in-Ok-Some-Ended.field-0-is at c.in-Ok-Some-Ended.ensures.ok)) in
    if_err_map c.finish.result (λ error. where_full error (longer_later c.args.self.now c.advance.new.self c.args.telling.now.unit c.args.telling.now.room c.args.region goes.1)) (rw c.in-Ok-Some-Ended.ensures.place at c.finish.ensures.full)

pub returns-in-Ok-Some-Ended-clause-calls : goal.returns-in-Ok-Some-Ended-clause-calls
returns-in-Ok-Some-Ended-clause-calls c =
    let same = (rw c.in-Ok-Some-Ended.field-0-0-is at (rw c.in-Ok-Some-Ended.field-0-is at c.in-Ok-Some-Ended.ensures.quiet)) in
    all_by_call (changes_told c.args.self.now c.args.telling.now.unit c.args.region) c.finish.result
    (none_added (changes_told c.args.self.now c.args.telling.now.unit c.args.region) c.args.telling.now.room c.args.telling.now.told.items c.advance.new.telling.told.items same c.in-Ok-Some-Ended.ensures.tells.tells)

-- a region that waits
pub returns-in-Ok-Some-Waits-clause-turned : goal.returns-in-Ok-Some-Waits-clause-turned
returns-in-Ok-Some-Waits-clause-turned c =
    let goes = (rw c.in-Ok-Some-Waits.field-0-0-is at (rw c.in-Ok-Some-Waits.field-0-is at c.in-Ok-Some-Waits.ensures.ok)) in
    subst (IsRegionTurned c.args.self.now c.break_rings-victims.new.self c.args.region) (sym c.waited.ensures.value)
    (turned_waits c.args.self.now c.advance.new.self c.break_rings-victims.new.self c.args.region c.in-Ok-Some-Waits.resource c.in-Ok-Some-Waits.by c.break_rings-victims.result
    goes c.break_rings-victims.ensures.breaks)

pub returns-in-Ok-Some-Waits-clause-told : goal.returns-in-Ok-Some-Waits-clause-told
returns-in-Ok-Some-Waits-clause-told c =
    let goes = (rw c.in-Ok-Some-Waits.field-0-0-is at (rw c.in-Ok-Some-Waits.field-0-is at c.in-Ok-Some-Waits.ensures.ok)) in
    let same = (rw c.in-Ok-Some-Waits.field-0-0-is at (rw c.in-Ok-Some-Waits.field-0-is at c.in-Ok-Some-Waits.ensures.quiet)) in
    tells_later c.args.self.now c.args.self.now c.args.telling.now.unit c.args.telling.now.room c.args.region c.args.telling.now.told.items c.advance.new.telling.told.items c.advance.new.telling.told.items refl
    (none_added (changes_told c.args.self.now c.args.telling.now.unit c.args.region) c.args.telling.now.room c.args.telling.now.told.items c.advance.new.telling.told.items same c.in-Ok-Some-Waits.ensures.tells.tells) same
    (quiet_tells c.args.self.now c.break_rings-victims.new.self c.args.region c.args.telling.now.unit c.args.telling.now.room c.waited.result c.advance.new.telling.told.items
    (subst (IsRegionTurned c.args.self.now c.break_rings-victims.new.self c.args.region) (sym c.waited.ensures.value)
    (turned_waits c.args.self.now c.advance.new.self c.break_rings-victims.new.self c.args.region c.in-Ok-Some-Waits.resource c.in-Ok-Some-Waits.by c.break_rings-victims.result
    goes c.break_rings-victims.ensures.breaks)) c.waited.ensures.quiet)

pub returns-in-Ok-Some-Waits-clause-slots : goal.returns-in-Ok-Some-Waits-clause-slots
returns-in-Ok-Some-Waits-clause-slots c =
    let goes = (rw c.in-Ok-Some-Waits.field-0-0-is at (rw c.in-Ok-Some-Waits.field-0-is at c.in-Ok-Some-Waits.ensures.ok)) in
    subst (TurnsSo c.args.self.now c.break_rings-victims.new.self c.args.telling.now.unit c.args.region) (sym c.waited.ensures.value)
    (waits_so c.args.self.now c.advance.new.self c.break_rings-victims.new.self c.args.telling.now.unit c.args.region c.in-Ok-Some-Waits.resource c.in-Ok-Some-Waits.by c.break_rings-victims.result
    goes.system (ap (λ m. m.slots) goes.moment) (table_alone c.args.self.now c.advance.new.self goes.databases) c.break_rings-victims.ensures.slots)

pub returns-in-Ok-Some-Waits-clause-calls : goal.returns-in-Ok-Some-Waits-clause-calls
returns-in-Ok-Some-Waits-clause-calls c =
    let same = (rw c.in-Ok-Some-Waits.field-0-0-is at (rw c.in-Ok-Some-Waits.field-0-is at c.in-Ok-Some-Waits.ensures.quiet)) in
    by_call (changes_told c.args.self.now c.args.telling.now.unit c.args.region) c.waited.result
    (none_added (changes_told c.args.self.now c.args.telling.now.unit c.args.region) c.args.telling.now.room c.args.telling.now.told.items c.advance.new.telling.told.items same c.in-Ok-Some-Waits.ensures.tells.tells)

pub returns-in-Err-clause-full : goal.returns-in-Err-clause-full
returns-in-Err-clause-full c = where_full c.in-Err.untold (longer_call c.args.self.now c.args.telling.now.unit c.args.telling.now.room c.args.region) c.in-Err.ensures.full
