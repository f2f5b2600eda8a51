use Rattle.std.proofs.Common.{◌≡◌, ◌-◌, ◌≤◌, List, [], None, refl, sym, ap, ◌∙◌, subst, arith, length, map}
use Rattle.std.specs.List.{AllByRecursion}
use Rattle.std.specs.Prelude.{IfOk, IfErr}
use Rattle.std.proofs.lemmas.List.{length-map}
use Rattle.model_data.specs.declared.row.Row.{Row}
use Rattle.model_data.specs.Footprint.{footprint}
use Rattle.model_data.specs.declared.request.Request.{Request}
use Rattle.model_data.specs.EnqueueRequests.{first_blocked}
use Rattle.seg_store.specs.ChangedSlots.{AllStores}
use Rattle.seg_store.specs.Slots.{rows_of_slots}
use Rattle.unit_work.specs.Changes.{Changes}
use Rattle.dli_calls.specs.CallPlan.{IsThere}
use Rattle.program_rows.specs.DatabasesState.{database_rows_in, rows_of_stores}
use Rattle.program_rows.specs.Isolation.{request_of}
use Rattle.program_rows.specs.OpenUnits.{unit_records_of}
use Rattle.program_rows.proofs.Doing.{waited, made, read_done, is_none_is}
use Rattle.program_rows.proofs.Makings.{none_told}
use Rattle.program_rows.proofs.Setting.{dbd_there, rows_at_is}
use Rattle.log_records.specs.ToldRecords.{TellsInRoom}
use Rattle.log_records.specs.declared.record.Record.{Record}
use Rattle.program_rows.specs.declared.answer.DataAnswer.{DataAnswer}
use Rattle.program_rows.specs.PlannedChanges.{databases_opened, made_told, Makes, IsUntoldEdit}
use Rattle.program_rows.specs.ToldChanges.{call_told}
use Rattle.program_rows.proofs.Retold.{waits_told, made_told_so, read_told, untold_so, tells_none, tells_made, slots_so, touched_so, touch_so, memory_untold}
use Rattle.program_rows.proofs.calling.call.Goals as goal

pub read-requires-clause-own : goal.read-requires-clause-own
read-requires-clause-own c =
    subst (λ n. AllByRecursion (λ (q : Request). q.region ≡ n) c.in_ok-asked.asked.requests.items) (sym c.in_ok-asked.ensures.region) c.in_ok-asked.ensures.own

pub wait-requires-clause-own : goal.wait-requires-clause-own
wait-requires-clause-own c =
    subst (λ n. AllByRecursion (λ (q : Request). q.region ≡ n) c.in_ok-asked.asked.requests.items) (sym c.in_ok-asked.ensures.region) c.in_ok-asked.ensures.own

pub make-requires-clause-own : goal.make-requires-clause-own
make-requires-clause-own c =
    subst (λ n. AllByRecursion (λ (q : Request). q.region ≡ n) c.in_ok-asked.asked.requests.items) (sym c.in_ok-asked.ensures.region) c.in_ok-asked.ensures.own

pub first_blocked-requires-clause-own : goal.first_blocked-requires-clause-own
first_blocked-requires-clause-own c =
    subst (λ qs. AllByRecursion (λ (q : Request). q.region ≡ c.args.region) qs) (sym c.deref.ensures.value) c.in_ok-asked.ensures.own

pub make-requires-clause-there : goal.make-requires-clause-there
make-requires-clause-there c =
    let rows = rows_at_is c.args.number c.args.opened.now.stores.stores c.in_ok-needed.ensures.planned.store c.in_ok-needed.ensures.planned.is_stored in
    subst (λ (all : AllStores). IsThere (database_rows_in c.in_ok-asked.asked.number (rows_of_stores all.stores)) c.in_ok-needed.needed.planned.edit) (sym c.plan_in.ensures.stays)
    (subst (λ n. IsThere (database_rows_in n (rows_of_stores c.args.opened.now.stores.stores)) c.in_ok-needed.needed.planned.edit) (sym c.in_ok-asked.ensures.number)
    (subst (λ (rs : List Row). IsThere rs c.in_ok-needed.needed.planned.edit) (sym rows) c.in_ok-needed.ensures.planned.there))

pub returns-then-is_none-clause-done : goal.returns-then-is_none-clause-done
returns-then-is_none-clause-done c =
    let last : c.args.region ≤ length (unit_records_of c.args.opened.now.units.items) = omega (arith, c.requires.last, length-map c.args.opened.now.units.items (λ (u : Changes). u.records)) in
    let requests : c.in_ok-asked.asked.requests.items ≡ map (request_of c.args.region c.args.number) (footprint c.args.dbd.now c.args.call.now c.args.at.now (rows_of_slots c.in_ok-needed.ensures.planned.store.slots)) =
    c.in_ok-asked.ensures.requests ∙ ap (map (request_of c.args.region c.args.number)) (c.as_slice.ensures ∙ c.in_ok-needed.ensures.planned.needs) in
    read_done c.args.opened.now c.requires.open c.args.region c.args.number c.requires.first last c.requires.number c.args.dbd.now c.args.call.now c.args.at.now c.requires.position c.requires.call
    c.in_ok-needed.ensures.planned.store c.in_ok-needed.ensures.planned.is_stored (dbd_there c.args.opened.now.stores.stores (c.args.number - 1) c.in_ok-needed.ensures.planned.store c.args.dbd.now c.in_ok-needed.ensures.planned.is_stored c.requires.database)
    (record { units = c.args.opened.now.units; stores = c.plan_in.new.stores; table = c.read.new.table }) c.read.result c.in_ok-asked.asked c.in_ok-needed.needed.planned
    c.in_ok-asked.ensures.region c.in_ok-asked.ensures.number requests c.in_ok-needed.ensures.planned.planned (c.in_ok-needed.ensures.text c.requires.short) c.in_ok-needed.ensures.planned.there
    c.in_ok-needed.ensures.position (is_none_is c.in_ok-needed.needed.planned.edit c.is_none.result c.is_none.ensures c.if-is_none.true) refl refl (ap (λ (all : AllStores). all.stores) c.plan_in.ensures.stays) (ap (λ (all : AllStores). all.changed) c.plan_in.ensures.stays) c.read.ensures.reads c.read.ensures.table c.read.ensures.held

pub returns-then-is_some-clause-done : goal.returns-then-is_some-clause-done
returns-then-is_some-clause-done c =
    let last : c.args.region ≤ length (unit_records_of c.args.opened.now.units.items) = omega (arith, c.requires.last, length-map c.args.opened.now.units.items (λ (u : Changes). u.records)) in
    let requests : c.in_ok-asked.asked.requests.items ≡ map (request_of c.args.region c.args.number) (footprint c.args.dbd.now c.args.call.now c.args.at.now (rows_of_slots c.in_ok-needed.ensures.planned.store.slots)) =
    c.in_ok-asked.ensures.requests ∙ ap (map (request_of c.args.region c.args.number)) (c.as_slice.ensures ∙ c.in_ok-needed.ensures.planned.needs) in
    waited c.args.opened.now c.requires.open c.args.region c.args.number c.requires.first last c.requires.number c.args.dbd.now c.args.call.now c.args.at.now c.requires.position c.requires.call
    c.in_ok-needed.ensures.planned.store c.in_ok-needed.ensures.planned.is_stored (dbd_there c.args.opened.now.stores.stores (c.args.number - 1) c.in_ok-needed.ensures.planned.store c.args.dbd.now c.in_ok-needed.ensures.planned.is_stored c.requires.database)
    (record { units = c.args.opened.now.units; stores = c.plan_in.new.stores; table = c.wait.new.table }) c.wait.result c.in_ok-asked.asked.requests.items requests refl refl (ap (λ (all : AllStores). all.stores) c.plan_in.ensures.stays) (ap (λ (all : AllStores). all.changed) c.plan_in.ensures.stays)
    c.wait.ensures.waits (subst (λ n. Rattle.std.specs.Prelude.OnOk c.wait.result (c.wait.new.table ≡ Rattle.model_data.specs.EnqueueRequests.after_asks n c.in_ok-asked.asked.requests.items c.args.opened.now.table)) c.in_ok-asked.ensures.region c.wait.ensures.table)
    c.wait.ensures.held

pub returns-clause-done : goal.returns-clause-done
returns-clause-done c =
    let last : c.args.region ≤ length (unit_records_of c.args.opened.now.units.items) = omega (arith, c.requires.last, length-map c.args.opened.now.units.items (λ (u : Changes). u.records)) in
    let requests : c.in_ok-asked.asked.requests.items ≡ map (request_of c.args.region c.args.number) (footprint c.args.dbd.now c.args.call.now c.args.at.now (rows_of_slots c.in_ok-needed.ensures.planned.store.slots)) =
    c.in_ok-asked.ensures.requests ∙ ap (map (request_of c.args.region c.args.number)) (c.as_slice.ensures ∙ c.in_ok-needed.ensures.planned.needs) in
    let free : first_blocked c.in_ok-asked.asked.requests.items c.args.opened.now.table ≡ None =
    ap (λ qs. first_blocked qs c.args.opened.now.table) (sym c.deref.ensures.value) ∙ none_told c.first_blocked.result c.is_some.result (first_blocked c.deref.result.now c.args.opened.now.table) c.first_blocked.ensures c.is_some.ensures c.if-is_some.false in
    made c.args.opened.now c.requires.open c.args.region c.args.number c.requires.first last c.requires.number c.args.dbd.now c.args.call.now c.args.at.now c.requires.position c.requires.call
    c.in_ok-needed.ensures.planned.store c.in_ok-needed.ensures.planned.is_stored (dbd_there c.args.opened.now.stores.stores (c.args.number - 1) c.in_ok-needed.ensures.planned.store c.args.dbd.now c.in_ok-needed.ensures.planned.is_stored c.requires.database)
    c.make.new.opened c.make.result c.in_ok-asked.asked c.in_ok-needed.needed.planned c.in_ok-asked.ensures.region c.in_ok-asked.ensures.number requests free
    c.in_ok-needed.ensures.planned.planned (c.in_ok-needed.ensures.text c.requires.short) c.in_ok-needed.ensures.planned.there c.in_ok-needed.ensures.position (subst (λ (all : AllStores). IfOk c.make.result (Makes c.in_ok-asked.asked c.args.dbd.now c.in_ok-needed.needed.planned (record { units = c.args.opened.now.units; stores = all; table = c.args.opened.now.table }) c.make.new.opened)) c.plan_in.ensures.stays c.make.ensures.made)

pub returns-then-is_none-clause-tells : goal.returns-then-is_none-clause-tells
returns-then-is_none-clause-tells c =
    let last : c.args.region ≤ length (unit_records_of c.args.opened.now.units.items) = omega (arith, c.requires.last, length-map c.args.opened.now.units.items (λ (u : Changes). u.records)) in
    let requests : c.in_ok-asked.asked.requests.items ≡ map (request_of c.args.region c.args.number) (footprint c.args.dbd.now c.args.call.now c.args.at.now (rows_of_slots c.in_ok-needed.ensures.planned.store.slots)) =
    c.in_ok-asked.ensures.requests ∙ ap (map (request_of c.args.region c.args.number)) (c.as_slice.ensures ∙ c.in_ok-needed.ensures.planned.needs) in
    tells_none c.args.telling.now.unit c.args.region c.args.number c.args.dbd.now c.args.call.now c.args.at.now c.args.opened.now (record { units = c.args.opened.now.units; stores = c.plan_in.new.stores; table = c.read.new.table }) c.read.result c.args.telling.now.room c.args.telling.now.told.items
    (read_told c.args.opened.now c.requires.open c.args.region c.args.number c.requires.first last c.requires.number c.args.dbd.now c.args.call.now c.args.at.now c.requires.position c.requires.call
    c.in_ok-needed.ensures.planned.store c.in_ok-needed.ensures.planned.is_stored (dbd_there c.args.opened.now.stores.stores (c.args.number - 1) c.in_ok-needed.ensures.planned.store c.args.dbd.now c.in_ok-needed.ensures.planned.is_stored c.requires.database)
    (record { units = c.args.opened.now.units; stores = c.plan_in.new.stores; table = c.read.new.table }) c.args.telling.now.unit c.requires.touched c.read.result c.in_ok-asked.asked c.in_ok-needed.needed.planned
    c.in_ok-asked.ensures.region c.in_ok-asked.ensures.number requests c.in_ok-needed.ensures.planned.planned c.in_ok-needed.ensures.planned.there
    (is_none_is c.in_ok-needed.needed.planned.edit c.is_none.result c.is_none.ensures c.if-is_none.true) refl refl (ap (λ (all : AllStores). all.stores) c.plan_in.ensures.stays) (ap (λ (all : AllStores). all.changed) c.plan_in.ensures.stays) c.read.ensures.reads c.read.ensures.table c.read.ensures.held)

pub returns-then-is_none-clause-slots : goal.returns-then-is_none-clause-slots
returns-then-is_none-clause-slots c =
    let last : c.args.region ≤ length (unit_records_of c.args.opened.now.units.items) = omega (arith, c.requires.last, length-map c.args.opened.now.units.items (λ (u : Changes). u.records)) in
    let requests : c.in_ok-asked.asked.requests.items ≡ map (request_of c.args.region c.args.number) (footprint c.args.dbd.now c.args.call.now c.args.at.now (rows_of_slots c.in_ok-needed.ensures.planned.store.slots)) =
    c.in_ok-asked.ensures.requests ∙ ap (map (request_of c.args.region c.args.number)) (c.as_slice.ensures ∙ c.in_ok-needed.ensures.planned.needs) in
    slots_so c.args.telling.now.unit c.args.region c.args.number c.args.dbd.now c.args.call.now c.args.at.now c.args.opened.now (record { units = c.args.opened.now.units; stores = c.plan_in.new.stores; table = c.read.new.table }) c.read.result (λ (a : DataAnswer). let none : List Record = [] in none)
    (read_told c.args.opened.now c.requires.open c.args.region c.args.number c.requires.first last c.requires.number c.args.dbd.now c.args.call.now c.args.at.now c.requires.position c.requires.call
    c.in_ok-needed.ensures.planned.store c.in_ok-needed.ensures.planned.is_stored (dbd_there c.args.opened.now.stores.stores (c.args.number - 1) c.in_ok-needed.ensures.planned.store c.args.dbd.now c.in_ok-needed.ensures.planned.is_stored c.requires.database)
    (record { units = c.args.opened.now.units; stores = c.plan_in.new.stores; table = c.read.new.table }) c.args.telling.now.unit c.requires.touched c.read.result c.in_ok-asked.asked c.in_ok-needed.needed.planned
    c.in_ok-asked.ensures.region c.in_ok-asked.ensures.number requests c.in_ok-needed.ensures.planned.planned c.in_ok-needed.ensures.planned.there
    (is_none_is c.in_ok-needed.needed.planned.edit c.is_none.result c.is_none.ensures c.if-is_none.true) refl refl (ap (λ (all : AllStores). all.stores) c.plan_in.ensures.stays) (ap (λ (all : AllStores). all.changed) c.plan_in.ensures.stays) c.read.ensures.reads c.read.ensures.table c.read.ensures.held)

pub returns-then-is_none-clause-touched : goal.returns-then-is_none-clause-touched
returns-then-is_none-clause-touched c =
    let last : c.args.region ≤ length (unit_records_of c.args.opened.now.units.items) = omega (arith, c.requires.last, length-map c.args.opened.now.units.items (λ (u : Changes). u.records)) in
    let requests : c.in_ok-asked.asked.requests.items ≡ map (request_of c.args.region c.args.number) (footprint c.args.dbd.now c.args.call.now c.args.at.now (rows_of_slots c.in_ok-needed.ensures.planned.store.slots)) =
    c.in_ok-asked.ensures.requests ∙ ap (map (request_of c.args.region c.args.number)) (c.as_slice.ensures ∙ c.in_ok-needed.ensures.planned.needs) in
    touched_so c.args.telling.now.unit c.args.region c.args.number c.args.dbd.now c.args.call.now c.args.at.now c.args.opened.now (record { units = c.args.opened.now.units; stores = c.plan_in.new.stores; table = c.read.new.table }) c.read.result (λ (a : DataAnswer). let none : List Record = [] in none)
    (read_told c.args.opened.now c.requires.open c.args.region c.args.number c.requires.first last c.requires.number c.args.dbd.now c.args.call.now c.args.at.now c.requires.position c.requires.call
    c.in_ok-needed.ensures.planned.store c.in_ok-needed.ensures.planned.is_stored (dbd_there c.args.opened.now.stores.stores (c.args.number - 1) c.in_ok-needed.ensures.planned.store c.args.dbd.now c.in_ok-needed.ensures.planned.is_stored c.requires.database)
    (record { units = c.args.opened.now.units; stores = c.plan_in.new.stores; table = c.read.new.table }) c.args.telling.now.unit c.requires.touched c.read.result c.in_ok-asked.asked c.in_ok-needed.needed.planned
    c.in_ok-asked.ensures.region c.in_ok-asked.ensures.number requests c.in_ok-needed.ensures.planned.planned c.in_ok-needed.ensures.planned.there
    (is_none_is c.in_ok-needed.needed.planned.edit c.is_none.result c.is_none.ensures c.if-is_none.true) refl refl (ap (λ (all : AllStores). all.stores) c.plan_in.ensures.stays) (ap (λ (all : AllStores). all.changed) c.plan_in.ensures.stays) c.read.ensures.reads c.read.ensures.table c.read.ensures.held)

pub returns-then-is_none-clause-touch : goal.returns-then-is_none-clause-touch
returns-then-is_none-clause-touch c =
    let last : c.args.region ≤ length (unit_records_of c.args.opened.now.units.items) = omega (arith, c.requires.last, length-map c.args.opened.now.units.items (λ (u : Changes). u.records)) in
    let requests : c.in_ok-asked.asked.requests.items ≡ map (request_of c.args.region c.args.number) (footprint c.args.dbd.now c.args.call.now c.args.at.now (rows_of_slots c.in_ok-needed.ensures.planned.store.slots)) =
    c.in_ok-asked.ensures.requests ∙ ap (map (request_of c.args.region c.args.number)) (c.as_slice.ensures ∙ c.in_ok-needed.ensures.planned.needs) in
    touch_so c.args.telling.now.unit c.args.region c.args.number c.args.dbd.now c.args.call.now c.args.at.now c.args.opened.now (record { units = c.args.opened.now.units; stores = c.plan_in.new.stores; table = c.read.new.table }) c.read.result (λ (a : DataAnswer). let none : List Record = [] in none)
    (read_told c.args.opened.now c.requires.open c.args.region c.args.number c.requires.first last c.requires.number c.args.dbd.now c.args.call.now c.args.at.now c.requires.position c.requires.call
    c.in_ok-needed.ensures.planned.store c.in_ok-needed.ensures.planned.is_stored (dbd_there c.args.opened.now.stores.stores (c.args.number - 1) c.in_ok-needed.ensures.planned.store c.args.dbd.now c.in_ok-needed.ensures.planned.is_stored c.requires.database)
    (record { units = c.args.opened.now.units; stores = c.plan_in.new.stores; table = c.read.new.table }) c.args.telling.now.unit c.requires.touched c.read.result c.in_ok-asked.asked c.in_ok-needed.needed.planned
    c.in_ok-asked.ensures.region c.in_ok-asked.ensures.number requests c.in_ok-needed.ensures.planned.planned c.in_ok-needed.ensures.planned.there
    (is_none_is c.in_ok-needed.needed.planned.edit c.is_none.result c.is_none.ensures c.if-is_none.true) refl refl (ap (λ (all : AllStores). all.stores) c.plan_in.ensures.stays) (ap (λ (all : AllStores). all.changed) c.plan_in.ensures.stays) c.read.ensures.reads c.read.ensures.table c.read.ensures.held)

pub returns-then-is_none-clause-full : goal.returns-then-is_none-clause-full
returns-then-is_none-clause-full c =
    memory_untold c.read.result (call_told c.args.telling.now.unit c.args.region c.args.number c.args.dbd.now c.args.call.now c.args.at.now (databases_opened c.args.opened.now)) c.args.telling.now.room c.read.ensures.memory

pub returns-then-is_some-clause-tells : goal.returns-then-is_some-clause-tells
returns-then-is_some-clause-tells c =
    let last : c.args.region ≤ length (unit_records_of c.args.opened.now.units.items) = omega (arith, c.requires.last, length-map c.args.opened.now.units.items (λ (u : Changes). u.records)) in
    let requests : c.in_ok-asked.asked.requests.items ≡ map (request_of c.args.region c.args.number) (footprint c.args.dbd.now c.args.call.now c.args.at.now (rows_of_slots c.in_ok-needed.ensures.planned.store.slots)) =
    c.in_ok-asked.ensures.requests ∙ ap (map (request_of c.args.region c.args.number)) (c.as_slice.ensures ∙ c.in_ok-needed.ensures.planned.needs) in
    tells_none c.args.telling.now.unit c.args.region c.args.number c.args.dbd.now c.args.call.now c.args.at.now c.args.opened.now (record { units = c.args.opened.now.units; stores = c.plan_in.new.stores; table = c.wait.new.table }) c.wait.result c.args.telling.now.room c.args.telling.now.told.items
    (waits_told c.args.opened.now c.requires.open c.args.region c.args.number c.requires.first last c.requires.number c.args.dbd.now c.args.call.now c.args.at.now c.requires.position c.requires.call
    c.in_ok-needed.ensures.planned.store c.in_ok-needed.ensures.planned.is_stored (dbd_there c.args.opened.now.stores.stores (c.args.number - 1) c.in_ok-needed.ensures.planned.store c.args.dbd.now c.in_ok-needed.ensures.planned.is_stored c.requires.database)
    (record { units = c.args.opened.now.units; stores = c.plan_in.new.stores; table = c.wait.new.table }) c.args.telling.now.unit c.requires.touched c.wait.result c.in_ok-asked.asked.requests.items requests refl refl (ap (λ (all : AllStores). all.stores) c.plan_in.ensures.stays) (ap (λ (all : AllStores). all.changed) c.plan_in.ensures.stays)
    c.wait.ensures.waits (subst (λ n. Rattle.std.specs.Prelude.OnOk c.wait.result (c.wait.new.table ≡ Rattle.model_data.specs.EnqueueRequests.after_asks n c.in_ok-asked.asked.requests.items c.args.opened.now.table)) c.in_ok-asked.ensures.region c.wait.ensures.table)
    c.wait.ensures.held)

pub returns-then-is_some-clause-slots : goal.returns-then-is_some-clause-slots
returns-then-is_some-clause-slots c =
    let last : c.args.region ≤ length (unit_records_of c.args.opened.now.units.items) = omega (arith, c.requires.last, length-map c.args.opened.now.units.items (λ (u : Changes). u.records)) in
    let requests : c.in_ok-asked.asked.requests.items ≡ map (request_of c.args.region c.args.number) (footprint c.args.dbd.now c.args.call.now c.args.at.now (rows_of_slots c.in_ok-needed.ensures.planned.store.slots)) =
    c.in_ok-asked.ensures.requests ∙ ap (map (request_of c.args.region c.args.number)) (c.as_slice.ensures ∙ c.in_ok-needed.ensures.planned.needs) in
    slots_so c.args.telling.now.unit c.args.region c.args.number c.args.dbd.now c.args.call.now c.args.at.now c.args.opened.now (record { units = c.args.opened.now.units; stores = c.plan_in.new.stores; table = c.wait.new.table }) c.wait.result (λ (a : DataAnswer). let none : List Record = [] in none)
    (waits_told c.args.opened.now c.requires.open c.args.region c.args.number c.requires.first last c.requires.number c.args.dbd.now c.args.call.now c.args.at.now c.requires.position c.requires.call
    c.in_ok-needed.ensures.planned.store c.in_ok-needed.ensures.planned.is_stored (dbd_there c.args.opened.now.stores.stores (c.args.number - 1) c.in_ok-needed.ensures.planned.store c.args.dbd.now c.in_ok-needed.ensures.planned.is_stored c.requires.database)
    (record { units = c.args.opened.now.units; stores = c.plan_in.new.stores; table = c.wait.new.table }) c.args.telling.now.unit c.requires.touched c.wait.result c.in_ok-asked.asked.requests.items requests refl refl (ap (λ (all : AllStores). all.stores) c.plan_in.ensures.stays) (ap (λ (all : AllStores). all.changed) c.plan_in.ensures.stays)
    c.wait.ensures.waits (subst (λ n. Rattle.std.specs.Prelude.OnOk c.wait.result (c.wait.new.table ≡ Rattle.model_data.specs.EnqueueRequests.after_asks n c.in_ok-asked.asked.requests.items c.args.opened.now.table)) c.in_ok-asked.ensures.region c.wait.ensures.table)
    c.wait.ensures.held)

pub returns-then-is_some-clause-touched : goal.returns-then-is_some-clause-touched
returns-then-is_some-clause-touched c =
    let last : c.args.region ≤ length (unit_records_of c.args.opened.now.units.items) = omega (arith, c.requires.last, length-map c.args.opened.now.units.items (λ (u : Changes). u.records)) in
    let requests : c.in_ok-asked.asked.requests.items ≡ map (request_of c.args.region c.args.number) (footprint c.args.dbd.now c.args.call.now c.args.at.now (rows_of_slots c.in_ok-needed.ensures.planned.store.slots)) =
    c.in_ok-asked.ensures.requests ∙ ap (map (request_of c.args.region c.args.number)) (c.as_slice.ensures ∙ c.in_ok-needed.ensures.planned.needs) in
    touched_so c.args.telling.now.unit c.args.region c.args.number c.args.dbd.now c.args.call.now c.args.at.now c.args.opened.now (record { units = c.args.opened.now.units; stores = c.plan_in.new.stores; table = c.wait.new.table }) c.wait.result (λ (a : DataAnswer). let none : List Record = [] in none)
    (waits_told c.args.opened.now c.requires.open c.args.region c.args.number c.requires.first last c.requires.number c.args.dbd.now c.args.call.now c.args.at.now c.requires.position c.requires.call
    c.in_ok-needed.ensures.planned.store c.in_ok-needed.ensures.planned.is_stored (dbd_there c.args.opened.now.stores.stores (c.args.number - 1) c.in_ok-needed.ensures.planned.store c.args.dbd.now c.in_ok-needed.ensures.planned.is_stored c.requires.database)
    (record { units = c.args.opened.now.units; stores = c.plan_in.new.stores; table = c.wait.new.table }) c.args.telling.now.unit c.requires.touched c.wait.result c.in_ok-asked.asked.requests.items requests refl refl (ap (λ (all : AllStores). all.stores) c.plan_in.ensures.stays) (ap (λ (all : AllStores). all.changed) c.plan_in.ensures.stays)
    c.wait.ensures.waits (subst (λ n. Rattle.std.specs.Prelude.OnOk c.wait.result (c.wait.new.table ≡ Rattle.model_data.specs.EnqueueRequests.after_asks n c.in_ok-asked.asked.requests.items c.args.opened.now.table)) c.in_ok-asked.ensures.region c.wait.ensures.table)
    c.wait.ensures.held)

pub returns-then-is_some-clause-touch : goal.returns-then-is_some-clause-touch
returns-then-is_some-clause-touch c =
    let last : c.args.region ≤ length (unit_records_of c.args.opened.now.units.items) = omega (arith, c.requires.last, length-map c.args.opened.now.units.items (λ (u : Changes). u.records)) in
    let requests : c.in_ok-asked.asked.requests.items ≡ map (request_of c.args.region c.args.number) (footprint c.args.dbd.now c.args.call.now c.args.at.now (rows_of_slots c.in_ok-needed.ensures.planned.store.slots)) =
    c.in_ok-asked.ensures.requests ∙ ap (map (request_of c.args.region c.args.number)) (c.as_slice.ensures ∙ c.in_ok-needed.ensures.planned.needs) in
    touch_so c.args.telling.now.unit c.args.region c.args.number c.args.dbd.now c.args.call.now c.args.at.now c.args.opened.now (record { units = c.args.opened.now.units; stores = c.plan_in.new.stores; table = c.wait.new.table }) c.wait.result (λ (a : DataAnswer). let none : List Record = [] in none)
    (waits_told c.args.opened.now c.requires.open c.args.region c.args.number c.requires.first last c.requires.number c.args.dbd.now c.args.call.now c.args.at.now c.requires.position c.requires.call
    c.in_ok-needed.ensures.planned.store c.in_ok-needed.ensures.planned.is_stored (dbd_there c.args.opened.now.stores.stores (c.args.number - 1) c.in_ok-needed.ensures.planned.store c.args.dbd.now c.in_ok-needed.ensures.planned.is_stored c.requires.database)
    (record { units = c.args.opened.now.units; stores = c.plan_in.new.stores; table = c.wait.new.table }) c.args.telling.now.unit c.requires.touched c.wait.result c.in_ok-asked.asked.requests.items requests refl refl (ap (λ (all : AllStores). all.stores) c.plan_in.ensures.stays) (ap (λ (all : AllStores). all.changed) c.plan_in.ensures.stays)
    c.wait.ensures.waits (subst (λ n. Rattle.std.specs.Prelude.OnOk c.wait.result (c.wait.new.table ≡ Rattle.model_data.specs.EnqueueRequests.after_asks n c.in_ok-asked.asked.requests.items c.args.opened.now.table)) c.in_ok-asked.ensures.region c.wait.ensures.table)
    c.wait.ensures.held)

pub returns-then-is_some-clause-full : goal.returns-then-is_some-clause-full
returns-then-is_some-clause-full c =
    memory_untold c.wait.result (call_told c.args.telling.now.unit c.args.region c.args.number c.args.dbd.now c.args.call.now c.args.at.now (databases_opened c.args.opened.now)) c.args.telling.now.room c.wait.ensures.memory

pub returns-clause-tells : goal.returns-clause-tells
returns-clause-tells c =
    let last : c.args.region ≤ length (unit_records_of c.args.opened.now.units.items) = omega (arith, c.requires.last, length-map c.args.opened.now.units.items (λ (u : Changes). u.records)) in
    let requests : c.in_ok-asked.asked.requests.items ≡ map (request_of c.args.region c.args.number) (footprint c.args.dbd.now c.args.call.now c.args.at.now (rows_of_slots c.in_ok-needed.ensures.planned.store.slots)) =
    c.in_ok-asked.ensures.requests ∙ ap (map (request_of c.args.region c.args.number)) (c.as_slice.ensures ∙ c.in_ok-needed.ensures.planned.needs) in
    let free : first_blocked c.in_ok-asked.asked.requests.items c.args.opened.now.table ≡ None =
    ap (λ qs. first_blocked qs c.args.opened.now.table) (sym c.deref.ensures.value) ∙ none_told c.first_blocked.result c.is_some.result (first_blocked c.deref.result.now c.args.opened.now.table) c.first_blocked.ensures c.is_some.ensures c.if-is_some.false in
    tells_made c.args.telling.now.unit c.args.region c.args.number c.args.dbd.now c.args.call.now c.args.at.now c.args.opened.now c.make.new.opened c.make.result c.in_ok-asked.asked.number c.args.telling.now.room c.in_ok-needed.needed.planned.edit c.args.telling.now.told.items c.make.new.telling.told.items c.in_ok-asked.ensures.number
    (made_told_so c.args.opened.now c.requires.open c.args.region c.args.number c.requires.first last c.requires.number c.args.dbd.now c.args.call.now c.args.at.now c.requires.position c.requires.call
    c.in_ok-needed.ensures.planned.store c.in_ok-needed.ensures.planned.is_stored (dbd_there c.args.opened.now.stores.stores (c.args.number - 1) c.in_ok-needed.ensures.planned.store c.args.dbd.now c.in_ok-needed.ensures.planned.is_stored c.requires.database)
    c.make.new.opened c.args.telling.now.unit c.requires.touched c.make.result c.in_ok-asked.asked c.in_ok-needed.needed.planned c.in_ok-asked.ensures.region c.in_ok-asked.ensures.number requests free
    c.in_ok-needed.ensures.planned.planned c.in_ok-needed.ensures.planned.there (subst (λ (all : AllStores). IfOk c.make.result (Makes c.in_ok-asked.asked c.args.dbd.now c.in_ok-needed.needed.planned (record { units = c.args.opened.now.units; stores = all; table = c.args.opened.now.table }) c.make.new.opened)) c.plan_in.ensures.stays c.make.ensures.made)) (subst (λ (all : AllStores). IfOk c.make.result (λ a. TellsInRoom (made_told c.args.telling.now.unit c.in_ok-asked.asked.number c.in_ok-needed.needed.planned.edit all.stores a) c.args.telling.now.room c.args.telling.now.told.items c.make.new.telling.told.items)) c.plan_in.ensures.stays c.make.ensures.tells)

pub returns-clause-slots : goal.returns-clause-slots
returns-clause-slots c =
    let last : c.args.region ≤ length (unit_records_of c.args.opened.now.units.items) = omega (arith, c.requires.last, length-map c.args.opened.now.units.items (λ (u : Changes). u.records)) in
    let requests : c.in_ok-asked.asked.requests.items ≡ map (request_of c.args.region c.args.number) (footprint c.args.dbd.now c.args.call.now c.args.at.now (rows_of_slots c.in_ok-needed.ensures.planned.store.slots)) =
    c.in_ok-asked.ensures.requests ∙ ap (map (request_of c.args.region c.args.number)) (c.as_slice.ensures ∙ c.in_ok-needed.ensures.planned.needs) in
    let free : first_blocked c.in_ok-asked.asked.requests.items c.args.opened.now.table ≡ None =
    ap (λ qs. first_blocked qs c.args.opened.now.table) (sym c.deref.ensures.value) ∙ none_told c.first_blocked.result c.is_some.result (first_blocked c.deref.result.now c.args.opened.now.table) c.first_blocked.ensures c.is_some.ensures c.if-is_some.false in
    slots_so c.args.telling.now.unit c.args.region c.args.number c.args.dbd.now c.args.call.now c.args.at.now c.args.opened.now c.make.new.opened c.make.result (λ a. made_told c.args.telling.now.unit c.args.number c.in_ok-needed.needed.planned.edit c.args.opened.now.stores.stores a)
    (made_told_so c.args.opened.now c.requires.open c.args.region c.args.number c.requires.first last c.requires.number c.args.dbd.now c.args.call.now c.args.at.now c.requires.position c.requires.call
    c.in_ok-needed.ensures.planned.store c.in_ok-needed.ensures.planned.is_stored (dbd_there c.args.opened.now.stores.stores (c.args.number - 1) c.in_ok-needed.ensures.planned.store c.args.dbd.now c.in_ok-needed.ensures.planned.is_stored c.requires.database)
    c.make.new.opened c.args.telling.now.unit c.requires.touched c.make.result c.in_ok-asked.asked c.in_ok-needed.needed.planned c.in_ok-asked.ensures.region c.in_ok-asked.ensures.number requests free
    c.in_ok-needed.ensures.planned.planned c.in_ok-needed.ensures.planned.there (subst (λ (all : AllStores). IfOk c.make.result (Makes c.in_ok-asked.asked c.args.dbd.now c.in_ok-needed.needed.planned (record { units = c.args.opened.now.units; stores = all; table = c.args.opened.now.table }) c.make.new.opened)) c.plan_in.ensures.stays c.make.ensures.made))

pub returns-clause-touched : goal.returns-clause-touched
returns-clause-touched c =
    let last : c.args.region ≤ length (unit_records_of c.args.opened.now.units.items) = omega (arith, c.requires.last, length-map c.args.opened.now.units.items (λ (u : Changes). u.records)) in
    let requests : c.in_ok-asked.asked.requests.items ≡ map (request_of c.args.region c.args.number) (footprint c.args.dbd.now c.args.call.now c.args.at.now (rows_of_slots c.in_ok-needed.ensures.planned.store.slots)) =
    c.in_ok-asked.ensures.requests ∙ ap (map (request_of c.args.region c.args.number)) (c.as_slice.ensures ∙ c.in_ok-needed.ensures.planned.needs) in
    let free : first_blocked c.in_ok-asked.asked.requests.items c.args.opened.now.table ≡ None =
    ap (λ qs. first_blocked qs c.args.opened.now.table) (sym c.deref.ensures.value) ∙ none_told c.first_blocked.result c.is_some.result (first_blocked c.deref.result.now c.args.opened.now.table) c.first_blocked.ensures c.is_some.ensures c.if-is_some.false in
    touched_so c.args.telling.now.unit c.args.region c.args.number c.args.dbd.now c.args.call.now c.args.at.now c.args.opened.now c.make.new.opened c.make.result (λ a. made_told c.args.telling.now.unit c.args.number c.in_ok-needed.needed.planned.edit c.args.opened.now.stores.stores a)
    (made_told_so c.args.opened.now c.requires.open c.args.region c.args.number c.requires.first last c.requires.number c.args.dbd.now c.args.call.now c.args.at.now c.requires.position c.requires.call
    c.in_ok-needed.ensures.planned.store c.in_ok-needed.ensures.planned.is_stored (dbd_there c.args.opened.now.stores.stores (c.args.number - 1) c.in_ok-needed.ensures.planned.store c.args.dbd.now c.in_ok-needed.ensures.planned.is_stored c.requires.database)
    c.make.new.opened c.args.telling.now.unit c.requires.touched c.make.result c.in_ok-asked.asked c.in_ok-needed.needed.planned c.in_ok-asked.ensures.region c.in_ok-asked.ensures.number requests free
    c.in_ok-needed.ensures.planned.planned c.in_ok-needed.ensures.planned.there (subst (λ (all : AllStores). IfOk c.make.result (Makes c.in_ok-asked.asked c.args.dbd.now c.in_ok-needed.needed.planned (record { units = c.args.opened.now.units; stores = all; table = c.args.opened.now.table }) c.make.new.opened)) c.plan_in.ensures.stays c.make.ensures.made))

pub returns-clause-touch : goal.returns-clause-touch
returns-clause-touch c =
    let last : c.args.region ≤ length (unit_records_of c.args.opened.now.units.items) = omega (arith, c.requires.last, length-map c.args.opened.now.units.items (λ (u : Changes). u.records)) in
    let requests : c.in_ok-asked.asked.requests.items ≡ map (request_of c.args.region c.args.number) (footprint c.args.dbd.now c.args.call.now c.args.at.now (rows_of_slots c.in_ok-needed.ensures.planned.store.slots)) =
    c.in_ok-asked.ensures.requests ∙ ap (map (request_of c.args.region c.args.number)) (c.as_slice.ensures ∙ c.in_ok-needed.ensures.planned.needs) in
    let free : first_blocked c.in_ok-asked.asked.requests.items c.args.opened.now.table ≡ None =
    ap (λ qs. first_blocked qs c.args.opened.now.table) (sym c.deref.ensures.value) ∙ none_told c.first_blocked.result c.is_some.result (first_blocked c.deref.result.now c.args.opened.now.table) c.first_blocked.ensures c.is_some.ensures c.if-is_some.false in
    touch_so c.args.telling.now.unit c.args.region c.args.number c.args.dbd.now c.args.call.now c.args.at.now c.args.opened.now c.make.new.opened c.make.result (λ a. made_told c.args.telling.now.unit c.args.number c.in_ok-needed.needed.planned.edit c.args.opened.now.stores.stores a)
    (made_told_so c.args.opened.now c.requires.open c.args.region c.args.number c.requires.first last c.requires.number c.args.dbd.now c.args.call.now c.args.at.now c.requires.position c.requires.call
    c.in_ok-needed.ensures.planned.store c.in_ok-needed.ensures.planned.is_stored (dbd_there c.args.opened.now.stores.stores (c.args.number - 1) c.in_ok-needed.ensures.planned.store c.args.dbd.now c.in_ok-needed.ensures.planned.is_stored c.requires.database)
    c.make.new.opened c.args.telling.now.unit c.requires.touched c.make.result c.in_ok-asked.asked c.in_ok-needed.needed.planned c.in_ok-asked.ensures.region c.in_ok-asked.ensures.number requests free
    c.in_ok-needed.ensures.planned.planned c.in_ok-needed.ensures.planned.there (subst (λ (all : AllStores). IfOk c.make.result (Makes c.in_ok-asked.asked c.args.dbd.now c.in_ok-needed.needed.planned (record { units = c.args.opened.now.units; stores = all; table = c.args.opened.now.table }) c.make.new.opened)) c.plan_in.ensures.stays c.make.ensures.made))

pub returns-clause-full : goal.returns-clause-full
returns-clause-full c =
    let last : c.args.region ≤ length (unit_records_of c.args.opened.now.units.items) = omega (arith, c.requires.last, length-map c.args.opened.now.units.items (λ (u : Changes). u.records)) in
    let requests : c.in_ok-asked.asked.requests.items ≡ map (request_of c.args.region c.args.number) (footprint c.args.dbd.now c.args.call.now c.args.at.now (rows_of_slots c.in_ok-needed.ensures.planned.store.slots)) =
    c.in_ok-asked.ensures.requests ∙ ap (map (request_of c.args.region c.args.number)) (c.as_slice.ensures ∙ c.in_ok-needed.ensures.planned.needs) in
    let free : first_blocked c.in_ok-asked.asked.requests.items c.args.opened.now.table ≡ None =
    ap (λ qs. first_blocked qs c.args.opened.now.table) (sym c.deref.ensures.value) ∙ none_told c.first_blocked.result c.is_some.result (first_blocked c.deref.result.now c.args.opened.now.table) c.first_blocked.ensures c.is_some.ensures c.if-is_some.false in
    untold_so c.args.opened.now c.requires.open c.args.region c.args.number c.requires.first last c.requires.number c.args.dbd.now c.args.call.now c.args.at.now c.requires.position c.requires.call
    c.in_ok-needed.ensures.planned.store c.in_ok-needed.ensures.planned.is_stored (dbd_there c.args.opened.now.stores.stores (c.args.number - 1) c.in_ok-needed.ensures.planned.store c.args.dbd.now c.in_ok-needed.ensures.planned.is_stored c.requires.database)
    c.make.new.opened c.args.telling.now.unit c.requires.touched c.in_ok-asked.asked c.in_ok-needed.needed.planned c.in_ok-asked.ensures.region c.in_ok-asked.ensures.number requests free
    c.in_ok-needed.ensures.planned.planned c.args.telling.now.room c.make.result (subst (λ (all : AllStores). IfErr c.make.result (IsUntoldEdit c.in_ok-asked.asked c.args.dbd.now c.in_ok-needed.needed.planned.edit (record { units = c.args.opened.now.units; stores = all; table = c.args.opened.now.table }) c.args.telling.now.unit c.args.telling.now.room)) c.plan_in.ensures.stays c.make.ensures.full)
