use Rattle.std.proofs.Common.{◌≡◌, ◌-◌, ◌<◌, length, sym, ap, ◌∙◌, arith}
use Rattle.std.specs.Prelude.{Some, slice_get, slice_set}
use Rattle.std.proofs.lemmas.Option.{slice_get-get_or}
use Rattle.lasting_state.specs.Tables.{lasting_of}
use Rattle.tm_machine.specs.Parts.{work_slots, settings_of, flags_of}
use Rattle.model_messages.specs.Queue.{messages_of}
use Rattle.tm_machine.proofs.Conversing.{have_pads}
use Rattle.tm_machine.proofs.Stepped.{queued_work, parts_step}
use Rattle.message_run.specs.MessageChanges.{TellsNext}
use Rattle.log_records.specs.ToldRecords.{spelled_records}
use Rattle.tm_machine.proofs.Going.{goes_is, same_moment, ok_both, keeps_by, err_map_2}
use Rattle.region_work.proofs.Results.{on_map, if_err_map}
use Rattle.tm_machine.proofs.Slotting.{next_of}
use Rattle.lasting_state.proofs.Told.{where_full}
use Rattle.tm_machine.proofs.parts.Parts.advance.Goals as goal

pub advance-requires-clause-region : goal.advance-requires-clause-region
advance-requires-clause-region c =
    let region = (rw (← c.self.view_is) at c.requires) in
    record { least = region.0; most = omega (arith, region.1, c.self.invariant.databases.regions) }

pub advance-requires-clause-work : goal.advance-requires-clause-work
advance-requires-clause-work c =
    let region = (rw (← c.self.view_is) at c.requires) in
    let within : c.args.region - 1 < length c.self.inside.regions.items = omega (arith, region.0, region.1, c.self.invariant.regions_are) in
    queued_work c.self.inside.system c.self.inside.tables c.self.inside.codes c.self.inside.regions.items c.args.region c.self.invariant region.0
    c.index_mut.result.now (slice_get-get_or c.self.inside.regions.items (c.args.region - 1) _ within ∙ ap Some (sym c.index_mut.ensures.value))

pub advance-requires-clause-pads : goal.advance-requires-clause-pads
advance-requires-clause-pads c =
    have_pads c.self.inside.system c.self.inside.tables.conversations (messages_of c.self.inside.tables.queues.queued) c.self.invariant.valid c.self.invariant.conversations

pub invariant_of-self : goal.invariant_of-self
invariant_of-self c =
    let region = (rw (← c.self.view_is) at c.requires) in
    let within : c.args.region - 1 < length c.self.inside.regions.items = omega (arith, region.0, region.1, c.self.invariant.regions_are) in
    let get : slice_get c.self.inside.regions.items (c.args.region - 1) ≡ Some c.index_mut.result.now =
    slice_get-get_or c.self.inside.regions.items (c.args.region - 1) _ within ∙ ap Some (sym c.index_mut.ensures.value) in
    parts_step c.self.inside.system c.self.inside.tables c.self.inside.codes c.self.inside.regions.items c.args.region c.self.invariant region.0
    c.index_mut.result.now c.advance.new.work c.advance.new.tables get c.advance.ensures.tables c.advance.ensures.others.committed c.advance.ensures.others.dbds
    (keeps_by c.self.inside.system c.args.region c.self.inside.tables c.advance.new.tables c.index_mut.result.now c.advance.new.work c.advance.result
    region.0 c.advance.ensures.others c.advance.ensures.stays c.advance.ensures.steps c.advance.ensures.err c.advance.ensures.kept)

pub returns-clause-ok : goal.returns-clause-ok
returns-clause-ok c =
    let region = (rw (← c.self.view_is) at c.requires) in
    let within : c.args.region - 1 < length c.self.inside.regions.items = omega (arith, region.0, region.1, c.self.invariant.regions_are) in
    let get : slice_get c.self.inside.regions.items (c.args.region - 1) ≡ Some c.index_mut.result.now =
    slice_get-get_or c.self.inside.regions.items (c.args.region - 1) _ within ∙ ap Some (sym c.index_mut.ensures.value) in
    rw (sym c.self.view_is)
    (ok_both _ _ _ c.advance.result
    (λ advanced h k. goes_is c.self.inside.system c.self.inside.tables c.self.inside.codes c.self.inside.regions.items c.args.region c.self.invariant region
    c.advance.new.tables c.index_mut.result.now c.advance.new.work advanced get c.advance.ensures.tables c.advance.ensures.others.committed k h)
    c.advance.ensures.steps c.advance.ensures.stays)

pub returns-clause-err : goal.returns-clause-err
returns-clause-err c =
    let region = (rw (← c.self.view_is) at c.requires) in
    let within : c.args.region - 1 < length c.self.inside.regions.items = omega (arith, region.0, region.1, c.self.invariant.regions_are) in
    let get : slice_get c.self.inside.regions.items (c.args.region - 1) ≡ Some c.index_mut.result.now =
    slice_get-get_or c.self.inside.regions.items (c.args.region - 1) _ within ∙ ap Some (sym c.index_mut.ensures.value) in
    rw (sym c.self.view_is)
    (err_map_2 c.advance.result
    (λ h k. ap (λ t. record { system = c.self.inside.system; moment = record { lasting = lasting_of (settings_of c.self.inside.codes) t; slots = work_slots (slice_set c.self.inside.regions.items (c.args.region - 1) c.advance.new.work); enqueues = t.databases.table; raised = flags_of c.self.inside.codes }; databases = t.databases }) k
    ∙ ap (λ ss. record { system = c.self.inside.system; moment = record { lasting = lasting_of (settings_of c.self.inside.codes) c.self.inside.tables; slots = ss; enqueues = c.self.inside.tables.databases.table; raised = flags_of c.self.inside.codes }; databases = c.self.inside.tables.databases })
    (same_moment c.self.inside.system c.self.inside.tables c.self.inside.codes c.self.inside.regions.items c.args.region c.self.invariant region
    c.index_mut.result.now c.advance.new.work get h))
    c.advance.ensures.err c.advance.ensures.kept)

pub returns-clause-tells : goal.returns-clause-tells
returns-clause-tells c =
    let region = (rw (← c.self.view_is) at c.requires) in
    let within : c.args.region - 1 < length c.self.inside.regions.items = omega (arith, region.0, region.1, c.self.invariant.regions_are) in
    let get : slice_get c.self.inside.regions.items (c.args.region - 1) ≡ Some c.index_mut.result.now =
    slice_get-get_or c.self.inside.regions.items (c.args.region - 1) _ within ∙ ap Some (sym c.index_mut.ensures.value) in
    rw (sym c.self.view_is)
    (on_map c.advance.result
    (next_of c.self.inside.system c.self.inside.tables c.self.inside.codes c.self.inside.regions.items c.args.region c.self.invariant
    (TellsNext c.args.telling.now.unit c.args.telling.now.room c.args.region c.self.inside.tables.databases c.advance.new.tables.databases c.args.telling.now.told.items c.advance.new.telling.told.items)
    c.args.telling.now.unit c.index_mut.result.now get) c.advance.ensures.tells)

pub returns-clause-full : goal.returns-clause-full
returns-clause-full c =
    let region = (rw (← c.self.view_is) at c.requires) in
    let within : c.args.region - 1 < length c.self.inside.regions.items = omega (arith, region.0, region.1, c.self.invariant.regions_are) in
    let get : slice_get c.self.inside.regions.items (c.args.region - 1) ≡ Some c.index_mut.result.now =
    slice_get-get_or c.self.inside.regions.items (c.args.region - 1) _ within ∙ ap Some (sym c.index_mut.ensures.value) in
    rw (sym c.self.view_is)
    (if_err_map c.advance.result
    (λ error. where_full error (next_of c.self.inside.system c.self.inside.tables c.self.inside.codes c.self.inside.regions.items c.args.region c.self.invariant
    (λ records. c.args.telling.now.room < length (spelled_records records)) c.args.telling.now.unit c.index_mut.result.now get)) c.advance.ensures.full)
