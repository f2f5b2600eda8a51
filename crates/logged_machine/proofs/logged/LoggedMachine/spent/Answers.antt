use Rattle.std.proofs.Common.{◌-◌, ◌∙◌, ap, sym, arith}
use Rattle.logged_machine.specs.LoggedState.{LoggedState}
use Rattle.logged_machine.proofs.Serving.{sequences}
use Rattle.logged_machine.proofs.Unspent.{spent_is}
use Rattle.logged_machine.proofs.logged.LoggedMachine.spent.Goals as goal

pub next_sequence-requires : goal.next_sequence-requires
next_sequence-requires g c =
    sequences c.self.inside.parts c.self.inside.units.items c.self.inside.next_unit c.self.inside.journal c.self.inside.text (c.self.invariant (ap (λ (v : LoggedState _). v.served) c.self.view_is ∙ c.requires.served)).states (g.D.Disk.state c.self.inside.disk)
    (c.self.invariant (ap (λ (v : LoggedState _). v.served) c.self.view_is ∙ c.requires.served)).logged

pub overflow_sub-counts : goal.overflow_sub-counts
overflow_sub-counts g c = omega (arith, (c.self.invariant (ap (λ (v : LoggedState _). v.served) c.self.view_is ∙ c.requires.served)).logged.carried.is.numbers.some)

pub returns-clause-value : goal.returns-clause-value
returns-clause-value g c =
    let some = (c.self.invariant (ap (λ (v : LoggedState _). v.served) c.self.view_is ∙ c.requires.served)).logged.carried.is.numbers.some in
    rw (sym c.self.view_is)
    (spent_is c.self.inside.journal c.self.inside.next_unit c.self.inside.parts.moment.lasting c.restart-restart.result.now c.next_sequence.result (c.self.inside.next_unit - 1) c.spent_counter.result c.restart-restart.ensures c.next_sequence.ensures
    (omega (arith, some)) (c.spent_counter.ensures c.self.inside.parts.moment.lasting (sym c.next_id.ensures) (sym c.steps.ensures) (sym c.outputs.ensures)))
