use Rattle.std.proofs.Common.{◌≡◌, ◌∙◌, [], ap, sym, subst, length, replicate}
use Rattle.model_machine.specs.Machine.{Moment, empty_state, start_of}
use Rattle.seg_store.specs.Stores.{no_changed}
use Rattle.openings.specs.OpeningParts.{OpeningParts}
use Rattle.program_rows.specs.DatabasesState.{clean_region, rows_of_stores}
use Rattle.program_rows.specs.SlotsState.{SlotsState}
use Rattle.lasting_state.specs.Tables.{TablesState}
use Rattle.tm_machine.specs.MachineOpening.{IsOpenedWith}
use Rattle.tm_machine.specs.Parts.{PartsState, AreParts}
use Rattle.tm_machine.proofs.Opened.{all_empty, new_id, parts_opened, moment_opened}
use Rattle.tm_machine.proofs.parts.Parts.open.Goals as goal

pub open-requires-clause-written : goal.open-requires-clause-written
open-requires-clause-written c =
    let with = subst (λ (q : OpeningParts). IsOpenedWith c.args.self.now.system c.requires.some.0 q) (sym c.parts.view_is) c.requires.some.1 in
    with.opening.written ∙ ap no_changed (sym with.opening.databases)

pub open-requires-clause-ids : goal.open-requires-clause-ids
open-requires-clause-ids c =
    let with = subst (λ (q : OpeningParts). IsOpenedWith c.args.self.now.system c.requires.some.0 q) (sym c.parts.view_is) c.requires.some.1 in
    new_id c.args.self.now.system c.requires.some.0
    (record { queues = c.parts.inside.queues; outputs = c.parts.inside.outputs; codes = c.parts.inside.codes; terminals = c.parts.inside.terminals.items; conversations = c.parts.inside.conversations; stores = c.parts.inside.stores; now = c.parts.inside.now; next_id = c.parts.inside.next_id; next_unit = c.parts.inside.next_unit; steps = c.parts.inside.steps })
    with.opening with.rules

pub invariant_of-self : goal.invariant_of-self
invariant_of-self c =
    let inside = c.self.inside in
    let state = c.requires.some.0 in
    let opening : OpeningParts = record { queues = c.parts.inside.queues; outputs = c.parts.inside.outputs; codes = c.parts.inside.codes; terminals = c.parts.inside.terminals.items; conversations = c.parts.inside.conversations; stores = c.parts.inside.stores; now = c.parts.inside.now; next_id = c.parts.inside.next_id; next_unit = c.parts.inside.next_unit; steps = c.parts.inside.steps } in
    let fresh = subst (λ (p : PartsState). p.moment ≡ start_of p.system (empty_state p.system)) (sym c.self.view_is) c.requires.fresh in
    let with = subst (λ (p : PartsState). IsOpenedWith p.system state opening) (sym c.self.view_is) (subst (λ (q : OpeningParts). IsOpenedWith c.args.self.now.system state q) (sym c.parts.view_is) c.requires.some.1) in
    let names = c.codes-codes.ensures.named in
    subst (λ (t : TablesState). AreParts inside.system t opening.codes inside.regions.items) (sym c.open.ensures.tables)
    (parts_opened inside.system state opening c.open.new.self.databases inside.regions.items with.opening with.rules with.of_system c.self.invariant.valid names
    (all_empty (length inside.system.regions) inside.regions.items (ap (λ (m : Moment). m.slots) fresh))
    (ap (λ (s : SlotsState). s.stores) c.open.ensures.slots) (ap (λ (s : SlotsState). s.committed) c.open.ensures.slots)
    (c.open.ensures.regions ∙ ap (λ n. replicate n (clean_region (rows_of_stores opening.stores.stores))) c.self.invariant.databases.regions)
    (c.open.ensures.table ∙ ap (λ (m : Moment). m.enqueues) fresh) c.open.ensures.rows)

pub returns-clause-moment : goal.returns-clause-moment
returns-clause-moment c = λ state opened.
    let inside = c.self.inside in
    let opening : OpeningParts = record { queues = c.parts.inside.queues; outputs = c.parts.inside.outputs; codes = c.parts.inside.codes; terminals = c.parts.inside.terminals.items; conversations = c.parts.inside.conversations; stores = c.parts.inside.stores; now = c.parts.inside.now; next_id = c.parts.inside.next_id; next_unit = c.parts.inside.next_unit; steps = c.parts.inside.steps } in
    let fresh = subst (λ (p : PartsState). p.moment ≡ start_of p.system (empty_state p.system)) (sym c.self.view_is) c.requires.fresh in
    let with = subst (λ (p : PartsState). IsOpenedWith p.system state opening) (sym c.self.view_is) (subst (λ (q : OpeningParts). IsOpenedWith c.args.self.now.system state q) (sym c.parts.view_is) opened) in
    let names = c.codes-codes.ensures.named in
    rw c.open.ensures.tables
    (moment_opened inside.system state opening c.open.new.self.databases inside.regions.items with.opening with.rules with.of_system c.self.invariant.valid names
    (all_empty (length inside.system.regions) inside.regions.items (ap (λ (m : Moment). m.slots) fresh))
    (ap (λ (s : SlotsState). s.stores) c.open.ensures.slots) (ap (λ (s : SlotsState). s.committed) c.open.ensures.slots)
    (c.open.ensures.regions ∙ ap (λ n. replicate n (clean_region (rows_of_stores opening.stores.stores))) c.self.invariant.databases.regions)
    (c.open.ensures.table ∙ ap (λ (m : Moment). m.enqueues) fresh) c.open.ensures.rows
    ∙ ap (λ (p : PartsState). start_of p.system state) c.self.view_is)

pub returns-clause-slots : goal.returns-clause-slots
returns-clause-slots c =
    c.open.ensures.slots
    ∙ ap {B = SlotsState} (λ n. record { stores = c.parts.inside.stores.stores; changed = c.parts.inside.stores.changed; committed = c.parts.inside.stores.stores; touched = replicate n [] })
    (c.self.invariant.databases.regions ∙ ap (λ (p : PartsState). length p.system.regions) c.self.view_is)
    ∙ ap {B = SlotsState} (λ (q : OpeningParts). record { stores = q.stores.stores; changed = q.stores.changed; committed = q.stores.stores; touched = replicate (length c.args.self.now.system.regions) [] }) c.parts.view_is
