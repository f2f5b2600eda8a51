use Rattle.std.proofs.Common.{Some, None, sym, ◌∙◌}
use Rattle.tm_machine.proofs.Asked.{place_is, at_place}
use Rattle.tm_machine.proofs.parts.Parts.terminal_state.Goals as goal

pub returns-in_default : goal.returns-in_default
returns-in_default c =
    rw (sym c.self.view_is)
    (sym (at_place c.self.inside.tables.terminals c.args.terminal.now None
    (sym (place_is c.self.inside.tables.terminals c.self.inside.system.terminals c.args.terminal.now c.self.invariant.names) ∙ sym c.in_default.ensures.value)))

pub returns : goal.returns
returns c =
    rw (sym c.self.view_is)
    (sym (at_place c.self.inside.tables.terminals c.args.terminal.now (Some c.in-Some.place)
    (sym (place_is c.self.inside.tables.terminals c.self.inside.system.terminals c.args.terminal.now c.self.invariant.names) ∙ sym c.in-Some.ensures.value)
    ∙ c.terminal.ensures))
