use Rattle.std.proofs.Common.{sym, subst}
use Rattle.model_machine.specs.Machine.{output_at}
use Rattle.lasting_state.specs.declared.shown.Shown.TheVariants.{Stopped}
use Rattle.lasting_state.specs.ShownTerminal.{IsShownWhere}
use Rattle.tm_machine.proofs.ShownTo.{none_shown, place_shown}
use Rattle.tm_machine.proofs.parts.Parts.showing.Goals as goal

pub returns-in_default : goal.returns-in_default
returns-in_default c =
    rw (sym c.self.view_is)
    (none_shown c.self.inside.tables.terminals c.self.inside.system.terminals c.self.invariant.names c.args.terminal.now (output_at c.self.inside.tables.outputs c.args.terminal.now) c.in_default.ensures.value)

pub returns-then-is_stopped : goal.returns-then-is_stopped
returns-then-is_stopped c =
    rw (sym c.self.view_is)
    (place_shown c.self.inside.tables.terminals c.self.inside.system.terminals c.self.invariant.names c.args.terminal.now (output_at c.self.inside.tables.outputs c.args.terminal.now) c.in-Some.place c.in-Some.ensures.value
    c.is_stopped.result c.is_stopped.ensures Stopped
    (subst (λ b. IsShownWhere b (output_at c.self.inside.tables.outputs c.args.terminal.now) Stopped) (sym c.if-is_stopped.true) tt))

pub returns : goal.returns
returns c =
    rw (sym c.self.view_is)
    (place_shown c.self.inside.tables.terminals c.self.inside.system.terminals c.self.invariant.names c.args.terminal.now (output_at c.self.inside.tables.outputs c.args.terminal.now) c.in-Some.place c.in-Some.ensures.value
    c.is_stopped.result c.is_stopped.ensures c.showing.result
    (subst (λ b. IsShownWhere b (output_at c.self.inside.tables.outputs c.args.terminal.now) c.showing.result) (sym c.if-is_stopped.false) c.showing.ensures))
