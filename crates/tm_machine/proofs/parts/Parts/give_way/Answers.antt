use Rattle.std.proofs.Common.{◌≡◌, ◌-◌, sym, ap, ◌∙◌}
use Rattle.std.specs.Prelude.{Some, slice_get}
use Rattle.tm_machine.proofs.Raising.{follow_one}
use Rattle.tm_machine.proofs.Finished.{found_here, works_there}
use Rattle.tm_machine.proofs.Giving.{held_there, follows_given, parts_given, moment_given}
use Rattle.tm_machine.proofs.Slotting.{have_by}
use Rattle.tm_machine.proofs.parts.Parts.give_way.Goals as goal

pub code_of-code-requires : goal.code_of-code-requires
code_of-code-requires c =
    let e : slice_get c.self.inside.regions.items (c.args.region - 1) ≡ Some (Some c.busy_at.result.now) =
    ap (λ rs. slice_get rs (c.args.region - 1)) (sym c.deref.ensures.value) ∙ c.busy_at.ensures in
    let region = (rw (← c.self.view_is) at c.requires.region) in
    rw (found_here c.self.inside.system c.self.inside.tables c.self.inside.codes c.self.inside.regions.items c.args.region c.self.invariant c.busy_at.result.now e region) cc

pub give_up-requires-clause-works : goal.give_up-requires-clause-works
give_up-requires-clause-works c =
    let e : slice_get c.self.inside.regions.items (c.args.region - 1) ≡ Some (Some c.busy_at.result.now) =
    ap (λ rs. slice_get rs (c.args.region - 1)) (sym c.deref.ensures.value) ∙ c.busy_at.ensures in
    let region = (rw (← c.self.view_is) at c.requires.region) in
    works_there c.self.inside.system c.self.inside.tables c.self.inside.codes c.self.inside.regions.items c.args.region c.self.invariant c.busy_at.result.now e region

pub give_up-requires-clause-held : goal.give_up-requires-clause-held
give_up-requires-clause-held c =
    let e : slice_get c.self.inside.regions.items (c.args.region - 1) ≡ Some (Some c.busy_at.result.now) =
    ap (λ rs. slice_get rs (c.args.region - 1)) (sym c.deref.ensures.value) ∙ c.busy_at.ensures in
    let region = (rw (← c.self.view_is) at c.requires.region) in
    held_there c.self.inside.system c.self.inside.tables c.self.inside.codes c.self.inside.regions.items c.args.region c.self.invariant c.busy_at.result.now e region

pub invariant_of-self : goal.invariant_of-self
invariant_of-self c =
    let e : slice_get c.self.inside.regions.items (c.args.region - 1) ≡ Some (Some c.busy_at.result.now) =
    ap (λ rs. slice_get rs (c.args.region - 1)) (sym c.deref.ensures.value) ∙ c.busy_at.ensures in
    let region = (rw (← c.self.view_is) at c.requires.region) in
    let follow = follow_one c.self.inside.system.codes c.code_of-code.result c.waiting-waiting.result c.self.inside.codes c.follow.new.codes c.queues.result.now c.give_up.new.tables.queues
    c.follow.ensures c.waiting-waiting.ensures c.queues.ensures in
    let follows = follows_given c.self.inside.system c.self.inside.tables c.self.inside.codes c.self.inside.regions.items c.args.region c.self.invariant c.busy_at.result.now e region c.give_up.new.tables c.give_up.ensures.tables c.give_up.ensures.databases c.give_up.ensures.dbds c.follow.new.codes c.code_of-code.result c.give_up.ensures.ordered c.code_of-code.ensures follow in
    rw c.give_up.ensures.regions (parts_given c.self.inside.system c.self.inside.tables c.self.inside.codes c.self.inside.regions.items c.args.region c.self.invariant c.busy_at.result.now e region c.give_up.new.tables c.give_up.ensures.tables c.give_up.ensures.databases c.give_up.ensures.dbds c.follow.new.codes follows)

pub returns-clause-moment : goal.returns-clause-moment
returns-clause-moment c =
    let e : slice_get c.self.inside.regions.items (c.args.region - 1) ≡ Some (Some c.busy_at.result.now) =
    ap (λ rs. slice_get rs (c.args.region - 1)) (sym c.deref.ensures.value) ∙ c.busy_at.ensures in
    let region = (rw (← c.self.view_is) at c.requires.region) in
    let follow = follow_one c.self.inside.system.codes c.code_of-code.result c.waiting-waiting.result c.self.inside.codes c.follow.new.codes c.queues.result.now c.give_up.new.tables.queues
    c.follow.ensures c.waiting-waiting.ensures c.queues.ensures in
    let follows = follows_given c.self.inside.system c.self.inside.tables c.self.inside.codes c.self.inside.regions.items c.args.region c.self.invariant c.busy_at.result.now e region c.give_up.new.tables c.give_up.ensures.tables c.give_up.ensures.databases c.give_up.ensures.dbds c.follow.new.codes c.code_of-code.result c.give_up.ensures.ordered c.code_of-code.ensures follow in
    let given = moment_given c.self.inside.system c.self.inside.tables c.self.inside.codes c.self.inside.regions.items c.args.region c.self.invariant c.busy_at.result.now e region c.give_up.new.tables c.give_up.ensures.tables c.give_up.ensures.databases c.give_up.ensures.dbds c.follow.new.codes follows in
    rw (sym c.self.view_is) (rw c.give_up.ensures.regions given)

pub returns-clause-slots : goal.returns-clause-slots
returns-clause-slots c = rw (sym c.self.view_is) c.give_up.ensures.databases.slots

pub returns-clause-have : goal.returns-clause-have
returns-clause-have c = have_by c.self.inside.system c.give_up.new.tables.databases (invariant_of-self c).databases c.give_up.ensures.databases.on_slots
