use Rattle.std.proofs.Common.{rules, ◌≡◌, ◌-◌, sym, ap, ◌∙◌}
use Rattle.std.specs.Prelude.{Some, slice_get}
use Rattle.tm_machine.proofs.Raising.{follow_one}
use Rattle.tm_machine.proofs.Full.{err_where}
use Rattle.tm_machine.proofs.Finished.{abended_tells, abended_longer, found_here, id_there, works_there, follows_abended, parts_abended, abended_turned}
use Rattle.region_work.specs.RegionWork.{calls_made}
use Rattle.tm_machine.proofs.Abends.{ends_right}
use Rattle.tm_machine.proofs.Scheduled.{moment_now}
use Rattle.tm_machine.proofs.Stepped.{slot_is}
use Rattle.tm_machine.proofs.parts.Parts.abend.Goals as goal

pub origin_of-origin-requires : goal.origin_of-origin-requires
origin_of-origin-requires c =
    let e : slice_get c.self.inside.regions.items (c.args.region - 1) ≡ Some (Some c.busy_at-busy.result.now) =
    ap (λ rs. slice_get rs (c.args.region - 1)) (sym c.deref.ensures.value) ∙ c.busy_at-busy.ensures in
    let region = (rw (← c.self.view_is) at c.requires.region) in
    rw (found_here c.self.inside.system c.self.inside.tables c.self.inside.codes c.self.inside.regions.items c.args.region c.self.invariant c.busy_at-busy.result.now e region) cc

pub discard-requires-clause-found : goal.discard-requires-clause-found
discard-requires-clause-found c =
    let e : slice_get c.self.inside.regions.items (c.args.region - 1) ≡ Some (Some c.busy_at-busy.result.now) =
    ap (λ rs. slice_get rs (c.args.region - 1)) (sym c.deref.ensures.value) ∙ c.busy_at-busy.ensures in
    let region = (rw (← c.self.view_is) at c.requires.region) in
    id_there c.self.inside.system c.self.inside.tables c.self.inside.codes c.self.inside.regions.items c.args.region c.self.invariant c.busy_at-busy.result.now e region

pub discard-requires-clause-works : goal.discard-requires-clause-works
discard-requires-clause-works c =
    let e : slice_get c.self.inside.regions.items (c.args.region - 1) ≡ Some (Some c.busy_at-busy.result.now) =
    ap (λ rs. slice_get rs (c.args.region - 1)) (sym c.deref.ensures.value) ∙ c.busy_at-busy.ensures in
    let region = (rw (← c.self.view_is) at c.requires.region) in
    works_there c.self.inside.system c.self.inside.tables c.self.inside.codes c.self.inside.regions.items c.args.region c.self.invariant c.busy_at-busy.result.now e region

pub invariant_of-self-2 : goal.invariant_of-self-2
invariant_of-self-2 c =
    let e : slice_get c.self.inside.regions.items (c.args.region - 1) ≡ Some (Some c.busy_at-busy.result.now) =
    ap (λ rs. slice_get rs (c.args.region - 1)) (sym c.deref.ensures.value) ∙ c.busy_at-busy.ensures in
    let region = (rw (← c.self.view_is) at c.requires.region) in
    let follow = follow_one c.self.inside.system.codes c.origin_of-origin.result c.waiting-waiting.result c.self.inside.codes c.follow.new.codes c.queues.result.now c.discard.new.tables.queues
    c.follow.ensures c.waiting-waiting.ensures c.queues.ensures in
    let follows = follows_abended c.self.inside.system c.self.inside.tables c.self.inside.codes c.self.inside.regions.items c.args.region c.self.invariant c.busy_at-busy.result.now e region c.discard.new.tables c.in_ok-discard.ensures.above c.args.abend c.in_ok-discard.ensures.closed c.in_ok-discard.ensures.step c.in_ok-discard.ensures.databases c.in_ok-discard.ensures.dbds c.follow.new.codes c.origin_of-origin.result c.origin_of-origin.ensures follow in
    rw c.in_ok-discard.ensures.regions (parts_abended c.self.inside.system c.self.inside.tables c.self.inside.codes c.self.inside.regions.items c.args.region c.self.invariant c.busy_at-busy.result.now e region c.discard.new.tables c.in_ok-discard.ensures.above c.args.abend c.in_ok-discard.ensures.closed c.in_ok-discard.ensures.step c.in_ok-discard.ensures.databases c.in_ok-discard.ensures.dbds c.follow.new.codes follows)

pub returns-clause-turned : goal.returns-clause-turned
returns-clause-turned c =
    let e : slice_get c.self.inside.regions.items (c.args.region - 1) ≡ Some (Some c.busy_at-busy.result.now) =
    ap (λ rs. slice_get rs (c.args.region - 1)) (sym c.deref.ensures.value) ∙ c.busy_at-busy.ensures in
    let region = (rw (← c.self.view_is) at c.requires.region) in
    let follow = follow_one c.self.inside.system.codes c.origin_of-origin.result c.waiting-waiting.result c.self.inside.codes c.follow.new.codes c.queues.result.now c.discard.new.tables.queues
    c.follow.ensures c.waiting-waiting.ensures c.queues.ensures in
    let follows = follows_abended c.self.inside.system c.self.inside.tables c.self.inside.codes c.self.inside.regions.items c.args.region c.self.invariant c.busy_at-busy.result.now e region c.discard.new.tables c.in_ok-discard.ensures.above c.args.abend c.in_ok-discard.ensures.closed c.in_ok-discard.ensures.step c.in_ok-discard.ensures.databases c.in_ok-discard.ensures.dbds c.follow.new.codes c.origin_of-origin.result c.origin_of-origin.ensures follow in
    let turned = abended_turned c.self.inside.system c.self.inside.tables c.self.inside.codes c.self.inside.regions.items c.args.region c.self.invariant c.busy_at-busy.result.now e region c.discard.new.tables c.in_ok-discard.ensures.above c.args.abend c.in_ok-discard.ensures.closed c.in_ok-discard.ensures.step c.in_ok-discard.ensures.databases c.in_ok-discard.ensures.dbds c.follow.new.codes follows (rw (← c.self.view_is) at c.requires.ends) in
    rw (sym c.self.view_is) (rw c.in_ok-discard.ensures.regions turned)

pub returns-clause-told : goal.returns-clause-told
returns-clause-told c =
    let e : slice_get c.self.inside.regions.items (c.args.region - 1) ≡ Some (Some c.busy_at-busy.result.now) =
    ap (λ rs. slice_get rs (c.args.region - 1)) (sym c.deref.ensures.value) ∙ c.busy_at-busy.ensures in
    let region = (rw (← c.self.view_is) at c.requires.region) in
    let ends = (rw (← c.self.view_is) at c.requires.ends) in
    rw (sym c.self.view_is) (abended_tells c.self.inside.system c.self.inside.tables c.self.inside.codes c.self.inside.regions.items c.args.region c.self.invariant c.busy_at-busy.result.now e region c.args.telling.now.unit c.args.telling.now.room c.args.abend ends c.args.telling.now.told.items c.discard.new.telling.told.items c.in_ok-discard.ensures.told)

pub returns-in_err-discard-clause-full : goal.returns-in_err-discard-clause-full
returns-in_err-discard-clause-full c =
    let e : slice_get c.self.inside.regions.items (c.args.region - 1) ≡ Some (Some c.busy_at-busy.result.now) =
    ap (λ rs. slice_get rs (c.args.region - 1)) (sym c.deref.ensures.value) ∙ c.busy_at-busy.ensures in
    let region = (rw (← c.self.view_is) at c.requires.region) in
    let ends = (rw (← c.self.view_is) at c.requires.ends) in
    rw (sym c.self.view_is) (err_where c.from_residual.result (abended_longer c.self.inside.system c.self.inside.tables c.self.inside.codes c.self.inside.regions.items c.args.region c.self.invariant c.busy_at-busy.result.now e region c.args.telling.now.unit c.args.telling.now.room c.args.abend ends) (search rules))

pub returns-clause-slots : goal.returns-clause-slots
returns-clause-slots c = rw (sym c.self.view_is) c.in_ok-discard.ensures.databases.slots

pub discard-requires-clause-abend : goal.discard-requires-clause-abend
discard-requires-clause-abend c =
    let e : slice_get c.self.inside.regions.items (c.args.region - 1) ≡ Some (Some c.busy_at-busy.result.now) =
    ap (λ rs. slice_get rs (c.args.region - 1)) (sym c.deref.ensures.value) ∙ c.busy_at-busy.ensures in
    let ends = (rw (← c.self.view_is) at c.requires.ends) in
    ends_right (record { system = c.self.inside.system; moment = moment_now c.self.inside.system c.self.inside.tables c.self.inside.codes c.self.inside.regions.items c.args.region c.self.invariant; databases = c.self.inside.tables.databases })
    c.args.region (record { code = c.busy_at-busy.result.now.code; taken = c.busy_at-busy.result.now.taken; id = c.busy_at-busy.result.now.id; calls = calls_made c.busy_at-busy.result.now.unit }) c.args.abend
    (slot_is c.self.inside.system c.self.inside.tables c.self.inside.codes c.self.inside.regions.items c.args.region c.self.invariant (Some c.busy_at-busy.result.now) e) c.see_program.ensures ends
