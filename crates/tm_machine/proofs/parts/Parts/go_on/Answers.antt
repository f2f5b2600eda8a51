use Rattle.std.proofs.Common.{rules, ◌≡◌, ◌+◌, ◌-◌, ◌∷◌, refl, sym, ap, subst, ◌∙◌}
use Rattle.std.specs.Prelude.{Some, None, slice_get, slice_set}
use Rattle.std.specs.List.{count_by}
use Rattle.std.specs.Option.{is_some}
use Rattle.model_messages.specs.Queue.{free_count}
use Rattle.model_machine.specs.Flags.{all_followed}
use Rattle.program_rows.specs.SlotsState.{slots_state_of, CommitsSo}
use Rattle.region_work.specs.WorkEnds.{destinations}
use Rattle.tm_machine.proofs.Raising.{follow_is, followed_settled}
use Rattle.model_machine.specs.Trial.WorkEnd.{Syncs}
use Rattle.tm_machine.proofs.Full.{err_where}
use Rattle.tm_machine.proofs.Finished.{ends_step, completed_tells, completed_longer, may_complete, follows_completed, parts_completed, sync_is, none_turned, follows_next, parts_next, next_turned}
use Rattle.region_work.specs.RegionWork.{outputs_by}
use Rattle.lasting_state.specs.ToldSteps.{AreRecordsLonger}
use Rattle.tm_machine.specs.WorkEnds.{OfWork, completion_of}
use Rattle.tm_machine.proofs.parts.Parts.go_on.Goals as goal

pub end_work-requires-clause-may : goal.end_work-requires-clause-may
end_work-requires-clause-may c =
    let e : slice_get c.self.inside.regions.items (c.args.region - 1) ≡ Some (Some c.busy_at-busy.result.now) =
    ap (λ rs. slice_get rs (c.args.region - 1)) (sym c.deref.ensures.value) ∙ c.busy_at-busy.ensures in
    let region = (rw (← c.self.view_is) at c.requires.region) in
    may_complete c.self.inside.system c.self.inside.tables c.self.inside.codes c.self.inside.regions.items c.args.region c.self.invariant c.busy_at-busy.result.now e region

pub invariant_of-self-in_default : goal.invariant_of-self-in_default
invariant_of-self-in_default c =
    let e : slice_get c.self.inside.regions.items (c.args.region - 1) ≡ Some (Some c.busy_at-busy.result.now) =
    ap (λ rs. slice_get rs (c.args.region - 1)) (sym c.deref.ensures.value) ∙ c.busy_at-busy.ensures in
    let region = (rw (← c.self.view_is) at c.requires.region) in
    let follow = follow_is c.self.inside.system.codes c.busy_at-busy.result.now.code c.self.inside.codes c.follow_all.new.codes c.queues.result.now c.end_work.new.tables.queues c.deref-in_default.result.now
    c.in_ok-names.names.items (outputs_by c.busy_at-busy.result.now.unit) (outputs_by c.busy_at-busy.result.now.unit)
    c.follow_all.ensures c.queues.ensures c.deref-in_default.ensures.value (c.in_ok-names.ensures.names c.busy_at-busy.result.now e) refl in
    rw c.in_ok-names.ensures.regions
    (parts_completed c.self.inside.system c.self.inside.tables c.self.inside.codes c.self.inside.regions.items c.args.region c.self.invariant c.busy_at-busy.result.now e region c.end_work.new.tables (c.in_ok-names.ensures.completed c.busy_at-busy.result.now e) c.follow_all.new.codes (follows_completed c.self.inside.system c.self.inside.tables c.self.inside.codes c.self.inside.regions.items c.args.region c.self.invariant c.busy_at-busy.result.now e region c.end_work.new.tables (c.in_ok-names.ensures.completed c.busy_at-busy.result.now e) c.follow_all.new.codes follow))

pub returns-in_default-clause-turned : goal.returns-in_default-clause-turned
returns-in_default-clause-turned c =
    let e : slice_get c.self.inside.regions.items (c.args.region - 1) ≡ Some (Some c.busy_at-busy.result.now) =
    ap (λ rs. slice_get rs (c.args.region - 1)) (sym c.deref.ensures.value) ∙ c.busy_at-busy.ensures in
    let region = (rw (← c.self.view_is) at c.requires.region) in
    let follow = follow_is c.self.inside.system.codes c.busy_at-busy.result.now.code c.self.inside.codes c.follow_all.new.codes c.queues.result.now c.end_work.new.tables.queues c.deref-in_default.result.now
    c.in_ok-names.names.items (outputs_by c.busy_at-busy.result.now.unit) (outputs_by c.busy_at-busy.result.now.unit)
    c.follow_all.ensures c.queues.ensures c.deref-in_default.ensures.value (c.in_ok-names.ensures.names c.busy_at-busy.result.now e) refl in
    let turned = none_turned c.self.inside.system c.self.inside.tables c.self.inside.codes c.self.inside.regions.items c.args.region c.self.invariant c.busy_at-busy.result.now e region c.end_work.new.tables (c.in_ok-names.ensures.completed c.busy_at-busy.result.now e) c.follow_all.new.codes (follows_completed c.self.inside.system c.self.inside.tables c.self.inside.codes c.self.inside.regions.items c.args.region c.self.invariant c.busy_at-busy.result.now e region c.end_work.new.tables (c.in_ok-names.ensures.completed c.busy_at-busy.result.now e) c.follow_all.new.codes follow) (sync_is c.self.inside.system c.self.inside.tables c.self.inside.codes c.self.inside.regions.items c.args.region c.self.invariant c.busy_at-busy.result.now e region c.end_work.new.tables (c.in_ok-names.ensures.completed c.busy_at-busy.result.now e) c.count_busy-count.result None (c.count_busy-count.ensures ∙ ap (count_by is_some) c.deref-2.ensures.value) (sym c.in_default.is ∙ c.next_message.ensures.value) (rw (← c.self.view_is) at c.requires.ends)) (rw (← c.self.view_is) at c.requires.ends) in
    rw (sym c.self.view_is) (rw c.in_ok-names.ensures.regions turned)

pub invariant_of-self-2 : goal.invariant_of-self-2
invariant_of-self-2 c =
    let e : slice_get c.self.inside.regions.items (c.args.region - 1) ≡ Some (Some c.busy_at-busy.result.now) =
    ap (λ rs. slice_get rs (c.args.region - 1)) (sym c.deref.ensures.value) ∙ c.busy_at-busy.ensures in
    let region = (rw (← c.self.view_is) at c.requires.region) in
    let follow = follow_is c.self.inside.system.codes c.busy_at-busy.result.now.code c.self.inside.codes c.follow_all-2.new.codes c.queues-2.result.now c.take.new.tables.queues c.deref-3.result.now
    c.in_ok-names.names.items (outputs_by c.busy_at-busy.result.now.unit) (outputs_by c.busy_at-busy.result.now.unit)
    c.follow_all-2.ensures c.queues-2.ensures c.deref-3.ensures.value (c.in_ok-names.ensures.names c.busy_at-busy.result.now e) refl in
    let follows = follows_next c.self.inside.system c.self.inside.tables c.self.inside.codes c.self.inside.regions.items c.args.region c.self.invariant c.busy_at-busy.result.now e region c.end_work.new.tables (c.in_ok-names.ensures.completed c.busy_at-busy.result.now e) c.take.new.tables (record { code = c.busy_at-busy.result.now.code; taken = c.busy_at-busy.result.now.taken + 1; id = c.in-Some.next; unit = None }) c.take.ensures.tables refl refl c.in-Some.ensures.free c.follow_all-2.new.codes follow in
    rw (c.take.ensures.regions ∙ ap (λ rs. slice_set rs (c.args.region - 1) (Some (record { code = c.busy_at-busy.result.now.code; taken = c.busy_at-busy.result.now.taken + 1; id = c.in-Some.next; unit = None }))) c.in_ok-names.ensures.regions)
    (parts_next c.self.inside.system c.self.inside.tables c.self.inside.codes c.self.inside.regions.items c.args.region c.self.invariant c.busy_at-busy.result.now e region c.end_work.new.tables (c.in_ok-names.ensures.completed c.busy_at-busy.result.now e) c.take.new.tables (record { code = c.busy_at-busy.result.now.code; taken = c.busy_at-busy.result.now.taken + 1; id = c.in-Some.next; unit = None }) c.take.ensures.tables refl refl c.in-Some.ensures.free (all_followed c.self.inside.system.codes (λ name. free_count name c.end_work.new.tables.queues.queued) (c.busy_at-busy.result.now.code ∷ destinations (outputs_by c.busy_at-busy.result.now.unit)) c.self.inside.codes) (follows_completed c.self.inside.system c.self.inside.tables c.self.inside.codes c.self.inside.regions.items c.args.region c.self.invariant c.busy_at-busy.result.now e region c.end_work.new.tables (c.in_ok-names.ensures.completed c.busy_at-busy.result.now e) (all_followed c.self.inside.system.codes (λ name. free_count name c.end_work.new.tables.queues.queued) (c.busy_at-busy.result.now.code ∷ destinations (outputs_by c.busy_at-busy.result.now.unit)) c.self.inside.codes) refl) c.follow_all-2.new.codes follows.size
    (followed_settled c.self.inside.system (λ name. free_count name c.take.new.tables.queues.queued) c.self.inside.codes c.follow_all-2.new.codes follows))

pub returns-clause-turned : goal.returns-clause-turned
returns-clause-turned c =
    let e : slice_get c.self.inside.regions.items (c.args.region - 1) ≡ Some (Some c.busy_at-busy.result.now) =
    ap (λ rs. slice_get rs (c.args.region - 1)) (sym c.deref.ensures.value) ∙ c.busy_at-busy.ensures in
    let region = (rw (← c.self.view_is) at c.requires.region) in
    let follow = follow_is c.self.inside.system.codes c.busy_at-busy.result.now.code c.self.inside.codes c.follow_all-2.new.codes c.queues-2.result.now c.take.new.tables.queues c.deref-3.result.now
    c.in_ok-names.names.items (outputs_by c.busy_at-busy.result.now.unit) (outputs_by c.busy_at-busy.result.now.unit)
    c.follow_all-2.ensures c.queues-2.ensures c.deref-3.ensures.value (c.in_ok-names.ensures.names c.busy_at-busy.result.now e) refl in
    let follows = follows_next c.self.inside.system c.self.inside.tables c.self.inside.codes c.self.inside.regions.items c.args.region c.self.invariant c.busy_at-busy.result.now e region c.end_work.new.tables (c.in_ok-names.ensures.completed c.busy_at-busy.result.now e) c.take.new.tables (record { code = c.busy_at-busy.result.now.code; taken = c.busy_at-busy.result.now.taken + 1; id = c.in-Some.next; unit = None }) c.take.ensures.tables refl refl c.in-Some.ensures.free c.follow_all-2.new.codes follow in
    let turned = next_turned c.self.inside.system c.self.inside.tables c.self.inside.codes c.self.inside.regions.items c.args.region c.self.invariant c.busy_at-busy.result.now e region c.end_work.new.tables (c.in_ok-names.ensures.completed c.busy_at-busy.result.now e) c.take.new.tables (record { code = c.busy_at-busy.result.now.code; taken = c.busy_at-busy.result.now.taken + 1; id = c.in-Some.next; unit = None }) c.take.ensures.tables refl refl c.in-Some.ensures.free (all_followed c.self.inside.system.codes (λ name. free_count name c.end_work.new.tables.queues.queued) (c.busy_at-busy.result.now.code ∷ destinations (outputs_by c.busy_at-busy.result.now.unit)) c.self.inside.codes) c.follow_all-2.new.codes (follows_completed c.self.inside.system c.self.inside.tables c.self.inside.codes c.self.inside.regions.items c.args.region c.self.invariant c.busy_at-busy.result.now e region c.end_work.new.tables (c.in_ok-names.ensures.completed c.busy_at-busy.result.now e) (all_followed c.self.inside.system.codes (λ name. free_count name c.end_work.new.tables.queues.queued) (c.busy_at-busy.result.now.code ∷ destinations (outputs_by c.busy_at-busy.result.now.unit)) c.self.inside.codes) refl) follows refl (sync_is c.self.inside.system c.self.inside.tables c.self.inside.codes c.self.inside.regions.items c.args.region c.self.invariant c.busy_at-busy.result.now e region c.end_work.new.tables (c.in_ok-names.ensures.completed c.busy_at-busy.result.now e) c.count_busy-count.result (Some c.in-Some.next) (c.count_busy-count.ensures ∙ ap (count_by is_some) c.deref-2.ensures.value) (sym c.in-Some.is ∙ c.next_message.ensures.value) (rw (← c.self.view_is) at c.requires.ends)) (rw (← c.self.view_is) at c.requires.ends) in
    rw (sym c.self.view_is) (rw (c.take.ensures.regions ∙ ap (λ rs. slice_set rs (c.args.region - 1) (Some (record { code = c.busy_at-busy.result.now.code; taken = c.busy_at-busy.result.now.taken + 1; id = c.in-Some.next; unit = None }))) c.in_ok-names.ensures.regions) turned)

pub returns-in_default-clause-told : goal.returns-in_default-clause-told
returns-in_default-clause-told c =
    let e : slice_get c.self.inside.regions.items (c.args.region - 1) ≡ Some (Some c.busy_at-busy.result.now) =
    ap (λ rs. slice_get rs (c.args.region - 1)) (sym c.deref.ensures.value) ∙ c.busy_at-busy.ensures in
    let region = (rw (← c.self.view_is) at c.requires.region) in
    let ends = (rw (← c.self.view_is) at c.requires.ends) in
    rw (sym c.self.view_is) (completed_tells c.self.inside.system c.self.inside.tables c.self.inside.codes c.self.inside.regions.items c.args.region c.self.invariant c.busy_at-busy.result.now e region c.args.telling.now.unit c.args.telling.now.room (ends_step c.self.inside.system c.self.inside.tables c.self.inside.codes c.self.inside.regions.items c.args.region c.self.invariant c.busy_at-busy.result.now e region Syncs ends) c.args.telling.now.told.items c.end_work.new.telling.told.items (c.in_ok-names.ensures.told c.busy_at-busy.result.now e))

pub returns-clause-told : goal.returns-clause-told
returns-clause-told c =
    let e : slice_get c.self.inside.regions.items (c.args.region - 1) ≡ Some (Some c.busy_at-busy.result.now) =
    ap (λ rs. slice_get rs (c.args.region - 1)) (sym c.deref.ensures.value) ∙ c.busy_at-busy.ensures in
    let region = (rw (← c.self.view_is) at c.requires.region) in
    let ends = (rw (← c.self.view_is) at c.requires.ends) in
    rw (sym c.self.view_is) (completed_tells c.self.inside.system c.self.inside.tables c.self.inside.codes c.self.inside.regions.items c.args.region c.self.invariant c.busy_at-busy.result.now e region c.args.telling.now.unit c.args.telling.now.room (ends_step c.self.inside.system c.self.inside.tables c.self.inside.codes c.self.inside.regions.items c.args.region c.self.invariant c.busy_at-busy.result.now e region Syncs ends) c.args.telling.now.told.items c.end_work.new.telling.told.items (c.in_ok-names.ensures.told c.busy_at-busy.result.now e))

pub returns-in_err-names-clause-full : goal.returns-in_err-names-clause-full
returns-in_err-names-clause-full c =
    let e : slice_get c.self.inside.regions.items (c.args.region - 1) ≡ Some (Some c.busy_at-busy.result.now) =
    ap (λ rs. slice_get rs (c.args.region - 1)) (sym c.deref.ensures.value) ∙ c.busy_at-busy.ensures in
    let region = (rw (← c.self.view_is) at c.requires.region) in
    let ends = (rw (← c.self.view_is) at c.requires.ends) in
    rw (sym c.self.view_is) (err_where c.from_residual.result (λ (longer : OfWork c.self.inside.regions.items c.args.region (λ busy. AreRecordsLonger c.args.telling.now.unit c.args.telling.now.room (completion_of c.args.region c.self.inside.tables busy) c.self.inside.tables)). completed_longer c.self.inside.system c.self.inside.tables c.self.inside.codes c.self.inside.regions.items c.args.region c.self.invariant c.busy_at-busy.result.now e region c.args.telling.now.unit c.args.telling.now.room (ends_step c.self.inside.system c.self.inside.tables c.self.inside.codes c.self.inside.regions.items c.args.region c.self.invariant c.busy_at-busy.result.now e region Syncs ends) (longer c.busy_at-busy.result.now e)) (search rules))

pub returns-in_default-clause-slots : goal.returns-in_default-clause-slots
returns-in_default-clause-slots c =
    let e : slice_get c.self.inside.regions.items (c.args.region - 1) ≡ Some (Some c.busy_at-busy.result.now) =
    ap (λ rs. slice_get rs (c.args.region - 1)) (sym c.deref.ensures.value) ∙ c.busy_at-busy.ensures in
    rw (sym c.self.view_is) (c.in_ok-names.ensures.completed c.busy_at-busy.result.now e).committed.slots

pub returns-clause-slots : goal.returns-clause-slots
returns-clause-slots c =
    let e : slice_get c.self.inside.regions.items (c.args.region - 1) ≡ Some (Some c.busy_at-busy.result.now) =
    ap (λ rs. slice_get rs (c.args.region - 1)) (sym c.deref.ensures.value) ∙ c.busy_at-busy.ensures in
    rw (sym c.self.view_is)
    (subst (λ s. CommitsSo c.args.region (slots_state_of c.self.inside.tables.databases) s) (ap (λ t. slots_state_of t.databases) (sym c.take.ensures.tables)) (c.in_ok-names.ensures.completed c.busy_at-busy.result.now e).committed.slots)
