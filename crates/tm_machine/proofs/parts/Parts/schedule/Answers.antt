use Rattle.std.proofs.Common.{◌≡◌, ◌-◌, ◌<◌, length, sym, ap, refl, ◌∙◌, subst, arith}
use Rattle.std.specs.Prelude.{Some, None, slice_get}
use Rattle.std.proofs.lemmas.Option.{slice_get-get_or}
use Rattle.model_messages.specs.Queue.{free_count}
use Rattle.model_machine.specs.declared.entry.Turned.TheVariants.{Scheduled}
use Rattle.lasting_state.specs.Tables.{lasting_of}
use Rattle.program_rows.specs.SlotsState.{slots_state_of}
use Rattle.tm_machine.specs.Turns.{IsRegionTurned}
use Rattle.tm_machine.specs.Parts.{work_slots, settings_of, flags_of, AreParts}
use Rattle.tm_machine.proofs.Raising.{follow_one, followed_settled}
use Rattle.tm_machine.proofs.Scheduled.{moment_now, none_picked, some_picked, scheduled_answer, idle_turned, held_turned, scheduled_turned, parts_taken, follows_taken, empty_at}
use Rattle.tm_machine.proofs.parts.Parts.schedule.Goals as goal

pub returns-in_default-clause-turned : goal.returns-in_default-clause-turned
returns-in_default-clause-turned c =
    let region = (rw (← c.self.view_is) at c.requires.region) in
    let within : c.args.region - 1 < length c.self.inside.regions.items = omega (arith, region.0, region.1, c.self.invariant.regions_are) in
    let empty : slice_get c.self.inside.regions.items (c.args.region - 1) ≡ Some None =
    slice_get-get_or c.self.inside.regions.items (c.args.region - 1) None within
    ∙ ap Some (empty_at c.self.inside.regions.items (c.args.region - 1) _ (slice_get-get_or c.self.inside.regions.items (c.args.region - 1) None within) (rw (← c.self.view_is) at c.requires.empty)) in
    rw (sym c.self.view_is) (idle_turned c.self.inside.system c.self.inside.tables c.self.inside.codes c.self.inside.regions.items c.args.region c.self.invariant empty (none_picked c.self.inside.system c.self.inside.tables c.self.inside.codes c.self.inside.regions.items c.args.region c.self.invariant c.pick.result c.in_default.is (rw (ap (λ q. q.queued) c.queues.ensures) at c.pick.ensures.value)))

pub returns-then-need-limit-clause-turned : goal.returns-then-need-limit-clause-turned
returns-then-need-limit-clause-turned c =
    let region = (rw (← c.self.view_is) at c.requires.region) in
    let within : c.args.region - 1 < length c.self.inside.regions.items = omega (arith, region.0, region.1, c.self.invariant.regions_are) in
    let empty : slice_get c.self.inside.regions.items (c.args.region - 1) ≡ Some None =
    slice_get-get_or c.self.inside.regions.items (c.args.region - 1) None within
    ∙ ap Some (empty_at c.self.inside.regions.items (c.args.region - 1) _ (slice_get-get_or c.self.inside.regions.items (c.args.region - 1) None within) (rw (← c.self.view_is) at c.requires.empty)) in
    rw (sym c.self.view_is) (held_turned c.self.inside.system c.self.inside.tables c.self.inside.codes c.self.inside.regions.items c.args.region c.self.invariant empty c.in-Some.picked c.slot_need-need.result c.from-limit.result (some_picked c.self.inside.system c.self.inside.tables c.self.inside.codes c.self.inside.regions.items c.args.region c.self.invariant c.pick.result c.in-Some.picked c.in-Some.is (rw (ap (λ q. q.queued) c.queues.ensures) at c.pick.ensures.value)) (rw (← c.self.view_is) at c.slot_need-need.ensures) (c.from-limit.ensures ∙ c.limit.ensures ∙ ap (λ q. q.limit) c.queues-2.ensures ∙ c.self.invariant.limit) c.if-need-limit.true)

pub invariant_of-self : goal.invariant_of-self
invariant_of-self c =
    let region = (rw (← c.self.view_is) at c.requires.region) in
    let within : c.args.region - 1 < length c.self.inside.regions.items = omega (arith, region.0, region.1, c.self.invariant.regions_are) in
    let empty : slice_get c.self.inside.regions.items (c.args.region - 1) ≡ Some None =
    slice_get-get_or c.self.inside.regions.items (c.args.region - 1) None within
    ∙ ap Some (empty_at c.self.inside.regions.items (c.args.region - 1) _ (slice_get-get_or c.self.inside.regions.items (c.args.region - 1) None within) (rw (← c.self.view_is) at c.requires.empty)) in
    let follow = follow_one c.self.inside.system.codes c.in-Some.picked.code c.waiting-waiting.result c.self.inside.codes c.follow.new.codes c.queues-3.result.now c.take.new.tables.queues
    c.follow.ensures c.waiting-waiting.ensures c.queues-3.ensures in
    let free = (rw (ap (λ q. q.queued) c.queues.ensures) at c.in-Some.ensures.free) in
    let follows = follows_taken c.self.inside.system c.self.inside.tables c.self.inside.codes c.self.inside.regions.items c.args.region c.self.invariant (record { code = c.in-Some.picked.code; taken = 1; id = c.in-Some.picked.id; unit = None }) empty region.0 c.take.new.tables c.follow.new.codes c.take.ensures.tables free follow in
    subst (λ regions. AreParts c.self.inside.system c.take.new.tables c.follow.new.codes regions) (sym c.take.ensures.regions)
    (parts_taken c.self.inside.system c.self.inside.tables c.self.inside.codes c.self.inside.regions.items c.args.region c.self.invariant (record { code = c.in-Some.picked.code; taken = 1; id = c.in-Some.picked.id; unit = None }) empty region.0 c.take.new.tables c.follow.new.codes c.take.ensures.tables
    free.free c.in-Some.ensures.code refl follows.size (followed_settled c.self.inside.system (λ name. free_count name c.take.new.tables.queues.queued) c.self.inside.codes c.follow.new.codes follows))

pub returns-clause-turned : goal.returns-clause-turned
returns-clause-turned c =
    let region = (rw (← c.self.view_is) at c.requires.region) in
    let within : c.args.region - 1 < length c.self.inside.regions.items = omega (arith, region.0, region.1, c.self.invariant.regions_are) in
    let empty : slice_get c.self.inside.regions.items (c.args.region - 1) ≡ Some None =
    slice_get-get_or c.self.inside.regions.items (c.args.region - 1) None within
    ∙ ap Some (empty_at c.self.inside.regions.items (c.args.region - 1) _ (slice_get-get_or c.self.inside.regions.items (c.args.region - 1) None within) (rw (← c.self.view_is) at c.requires.empty)) in
    let follow = follow_one c.self.inside.system.codes c.in-Some.picked.code c.waiting-waiting.result c.self.inside.codes c.follow.new.codes c.queues-3.result.now c.take.new.tables.queues
    c.follow.ensures c.waiting-waiting.ensures c.queues-3.ensures in
    let free = (rw (ap (λ q. q.queued) c.queues.ensures) at c.in-Some.ensures.free) in
    let follows = follows_taken c.self.inside.system c.self.inside.tables c.self.inside.codes c.self.inside.regions.items c.args.region c.self.invariant (record { code = c.in-Some.picked.code; taken = 1; id = c.in-Some.picked.id; unit = None }) empty region.0 c.take.new.tables c.follow.new.codes c.take.ensures.tables free follow in
    let turned = scheduled_turned c.self.inside.system c.self.inside.tables c.self.inside.codes c.self.inside.regions.items c.args.region c.self.invariant (record { code = c.in-Some.picked.code; taken = 1; id = c.in-Some.picked.id; unit = None }) empty region.0 c.take.new.tables c.follow.new.codes c.take.ensures.tables refl refl follows
    (scheduled_answer c.self.inside.system c.self.inside.tables c.self.inside.codes c.self.inside.regions.items c.args.region c.self.invariant empty c.in-Some.picked c.slot_need-need.result c.from-limit.result (some_picked c.self.inside.system c.self.inside.tables c.self.inside.codes c.self.inside.regions.items c.args.region c.self.invariant c.pick.result c.in-Some.picked c.in-Some.is (rw (ap (λ q. q.queued) c.queues.ensures) at c.pick.ensures.value)) (rw (← c.self.view_is) at c.slot_need-need.ensures) (c.from-limit.ensures ∙ c.limit.ensures ∙ ap (λ q. q.limit) c.queues-2.ensures ∙ c.self.invariant.limit) c.if-need-limit.false) in
    rw (sym c.self.view_is)
    (subst (λ rs. IsRegionTurned (record { system = c.self.inside.system; moment = moment_now c.self.inside.system c.self.inside.tables c.self.inside.codes c.self.inside.regions.items c.args.region c.self.invariant; databases = c.self.inside.tables.databases }) (record { system = c.self.inside.system; moment = record { lasting = lasting_of (settings_of c.follow.new.codes) c.take.new.tables; slots = work_slots rs; enqueues = c.take.new.tables.databases.table; raised = flags_of c.follow.new.codes }; databases = c.take.new.tables.databases }) c.args.region (Scheduled c.in-Some.picked.code c.in-Some.picked.id))
    (sym c.take.ensures.regions) turned)

pub returns-in_default-clause-slots : goal.returns-in_default-clause-slots
returns-in_default-clause-slots c = λ unit. refl

pub returns-then-need-limit-clause-slots : goal.returns-then-need-limit-clause-slots
returns-then-need-limit-clause-slots c = λ unit. refl

pub returns-clause-slots : goal.returns-clause-slots
returns-clause-slots c = rw (sym c.self.view_is) (λ unit. ap (λ t. slots_state_of t.databases) c.take.ensures.tables)
