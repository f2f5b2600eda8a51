use Rattle.std.proofs.Common.{rules, ◌≡◌, ◌-◌, refl, sym, ap, ◌∙◌}
use Rattle.std.specs.Prelude.{Some, slice_get}
use Rattle.tm_machine.proofs.Raising.{follow_is}
use Rattle.model_machine.specs.Trial.WorkEnd.{Ends}
use Rattle.tm_machine.proofs.Full.{err_where}
use Rattle.tm_machine.proofs.Finished.{ends_step, completed_tells, completed_longer, may_complete, follows_completed, parts_completed, done_turned}
use Rattle.region_work.specs.RegionWork.{outputs_by}
use Rattle.lasting_state.specs.ToldSteps.{AreRecordsLonger}
use Rattle.tm_machine.specs.WorkEnds.{OfWork, completion_of}
use Rattle.tm_machine.proofs.parts.Parts.complete.Goals as goal

pub end_work-requires-clause-may : goal.end_work-requires-clause-may
end_work-requires-clause-may c =
    let e : slice_get c.self.inside.regions.items (c.args.region - 1) ≡ Some (Some c.busy_at-busy.result.now) =
    ap (λ rs. slice_get rs (c.args.region - 1)) (sym c.deref.ensures.value) ∙ c.busy_at-busy.ensures in
    let region = (rw (← c.self.view_is) at c.requires.region) in
    may_complete c.self.inside.system c.self.inside.tables c.self.inside.codes c.self.inside.regions.items c.args.region c.self.invariant c.busy_at-busy.result.now e region

pub invariant_of-self-2 : goal.invariant_of-self-2
invariant_of-self-2 c =
    let e : slice_get c.self.inside.regions.items (c.args.region - 1) ≡ Some (Some c.busy_at-busy.result.now) =
    ap (λ rs. slice_get rs (c.args.region - 1)) (sym c.deref.ensures.value) ∙ c.busy_at-busy.ensures in
    let region = (rw (← c.self.view_is) at c.requires.region) in
    let follow = follow_is c.self.inside.system.codes c.busy_at-busy.result.now.code c.self.inside.codes c.follow_all.new.codes c.queues.result.now c.end_work.new.tables.queues c.deref-2.result.now
    c.in_ok-names.names.items (outputs_by c.busy_at-busy.result.now.unit) (outputs_by c.busy_at-busy.result.now.unit)
    c.follow_all.ensures c.queues.ensures c.deref-2.ensures.value (c.in_ok-names.ensures.names c.busy_at-busy.result.now e) refl in
    rw c.in_ok-names.ensures.regions
    (parts_completed c.self.inside.system c.self.inside.tables c.self.inside.codes c.self.inside.regions.items c.args.region c.self.invariant c.busy_at-busy.result.now e region c.end_work.new.tables (c.in_ok-names.ensures.completed c.busy_at-busy.result.now e) c.follow_all.new.codes (follows_completed c.self.inside.system c.self.inside.tables c.self.inside.codes c.self.inside.regions.items c.args.region c.self.invariant c.busy_at-busy.result.now e region c.end_work.new.tables (c.in_ok-names.ensures.completed c.busy_at-busy.result.now e) c.follow_all.new.codes follow))

pub returns-clause-turned : goal.returns-clause-turned
returns-clause-turned c =
    let e : slice_get c.self.inside.regions.items (c.args.region - 1) ≡ Some (Some c.busy_at-busy.result.now) =
    ap (λ rs. slice_get rs (c.args.region - 1)) (sym c.deref.ensures.value) ∙ c.busy_at-busy.ensures in
    let region = (rw (← c.self.view_is) at c.requires.region) in
    let follow = follow_is c.self.inside.system.codes c.busy_at-busy.result.now.code c.self.inside.codes c.follow_all.new.codes c.queues.result.now c.end_work.new.tables.queues c.deref-2.result.now
    c.in_ok-names.names.items (outputs_by c.busy_at-busy.result.now.unit) (outputs_by c.busy_at-busy.result.now.unit)
    c.follow_all.ensures c.queues.ensures c.deref-2.ensures.value (c.in_ok-names.ensures.names c.busy_at-busy.result.now e) refl in
    let turned = done_turned c.self.inside.system c.self.inside.tables c.self.inside.codes c.self.inside.regions.items c.args.region c.self.invariant c.busy_at-busy.result.now e region c.end_work.new.tables (c.in_ok-names.ensures.completed c.busy_at-busy.result.now e) c.follow_all.new.codes (follows_completed c.self.inside.system c.self.inside.tables c.self.inside.codes c.self.inside.regions.items c.args.region c.self.invariant c.busy_at-busy.result.now e region c.end_work.new.tables (c.in_ok-names.ensures.completed c.busy_at-busy.result.now e) c.follow_all.new.codes follow) (rw (← c.self.view_is) at c.requires.ends) in
    rw (sym c.self.view_is) (rw c.in_ok-names.ensures.regions turned)

pub returns-clause-told : goal.returns-clause-told
returns-clause-told c =
    let e : slice_get c.self.inside.regions.items (c.args.region - 1) ≡ Some (Some c.busy_at-busy.result.now) =
    ap (λ rs. slice_get rs (c.args.region - 1)) (sym c.deref.ensures.value) ∙ c.busy_at-busy.ensures in
    let region = (rw (← c.self.view_is) at c.requires.region) in
    let ends = (rw (← c.self.view_is) at c.requires.ends) in
    rw (sym c.self.view_is) (completed_tells c.self.inside.system c.self.inside.tables c.self.inside.codes c.self.inside.regions.items c.args.region c.self.invariant c.busy_at-busy.result.now e region c.args.telling.now.unit c.args.telling.now.room (ends_step c.self.inside.system c.self.inside.tables c.self.inside.codes c.self.inside.regions.items c.args.region c.self.invariant c.busy_at-busy.result.now e region Ends ends) c.args.telling.now.told.items c.end_work.new.telling.told.items (c.in_ok-names.ensures.told c.busy_at-busy.result.now e))

pub returns-in_err-names-clause-full : goal.returns-in_err-names-clause-full
returns-in_err-names-clause-full c =
    let e : slice_get c.self.inside.regions.items (c.args.region - 1) ≡ Some (Some c.busy_at-busy.result.now) =
    ap (λ rs. slice_get rs (c.args.region - 1)) (sym c.deref.ensures.value) ∙ c.busy_at-busy.ensures in
    let region = (rw (← c.self.view_is) at c.requires.region) in
    let ends = (rw (← c.self.view_is) at c.requires.ends) in
    rw (sym c.self.view_is) (err_where c.from_residual.result (λ (longer : OfWork c.self.inside.regions.items c.args.region (λ busy. AreRecordsLonger c.args.telling.now.unit c.args.telling.now.room (completion_of c.args.region c.self.inside.tables busy) c.self.inside.tables)). completed_longer c.self.inside.system c.self.inside.tables c.self.inside.codes c.self.inside.regions.items c.args.region c.self.invariant c.busy_at-busy.result.now e region c.args.telling.now.unit c.args.telling.now.room (ends_step c.self.inside.system c.self.inside.tables c.self.inside.codes c.self.inside.regions.items c.args.region c.self.invariant c.busy_at-busy.result.now e region Ends ends) (longer c.busy_at-busy.result.now e)) (search rules))

pub returns-clause-slots : goal.returns-clause-slots
returns-clause-slots c =
    let e : slice_get c.self.inside.regions.items (c.args.region - 1) ≡ Some (Some c.busy_at-busy.result.now) =
    ap (λ rs. slice_get rs (c.args.region - 1)) (sym c.deref.ensures.value) ∙ c.busy_at-busy.ensures in
    rw (sym c.self.view_is) (c.in_ok-names.ensures.completed c.busy_at-busy.result.now e).committed.slots
