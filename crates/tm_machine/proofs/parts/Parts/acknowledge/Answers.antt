use Rattle.std.proofs.Common.{sym}
use Rattle.tm_machine.proofs.Asked.{acknowledged_is, acknowledged_tells, acknowledged_longer, parts_acked, databases_acked}
use Rattle.tm_machine.proofs.Going.{ok_both, on_both}
use Rattle.region_work.proofs.Results.{if_err_map}
use Rattle.lasting_state.proofs.Told.{where_full}
use Rattle.tm_machine.proofs.parts.Parts.acknowledge.Goals as goal

pub invariant_of-self : goal.invariant_of-self
invariant_of-self c =
    parts_acked c.self.inside.system c.self.inside.tables c.self.inside.codes c.self.inside.regions.items c.self.invariant c.acknowledge.new.self c.args.terminal.now c.args.number c.acknowledge.result
    c.acknowledge.ensures.state c.acknowledge.ensures.err

pub returns-clause-answer : goal.returns-clause-answer
returns-clause-answer c =
    rw (sym c.self.view_is)
    (ok_both _ _ _ c.acknowledge.result
    (λ answer t h. acknowledged_is c.self.inside.system c.self.inside.tables c.self.inside.codes c.self.inside.regions.items c.self.invariant c.acknowledge.new.self c.args.terminal.now c.args.number
    c.args.telling.now.room c.args.telling.now.told.items c.acknowledge.new.telling.told.items answer t h) c.acknowledge.ensures.told c.acknowledge.ensures.state)

pub returns-clause-told : goal.returns-clause-told
returns-clause-told c =
    rw (sym c.self.view_is)
    (on_both c.acknowledge.result
    (λ answer h t. acknowledged_tells c.self.inside.system c.self.inside.tables c.self.inside.codes c.self.inside.regions.items c.self.invariant c.acknowledge.new.self c.args.terminal.now c.args.number
    c.args.telling.now.room c.args.telling.now.told.items c.acknowledge.new.telling.told.items answer h t) c.acknowledge.ensures.state c.acknowledge.ensures.told)

pub returns-clause-databases : goal.returns-clause-databases
returns-clause-databases c =
    rw (sym c.self.view_is)
    (databases_acked c.self.inside.system c.self.inside.tables c.self.inside.codes c.self.inside.regions.items c.self.invariant c.acknowledge.new.self c.args.terminal.now c.args.number c.acknowledge.result
    c.acknowledge.ensures.state c.acknowledge.ensures.err)

pub returns-clause-full : goal.returns-clause-full
returns-clause-full c =
    rw (sym c.self.view_is)
    (if_err_map c.acknowledge.result
    (λ error. where_full error (acknowledged_longer c.self.inside.system c.self.inside.tables c.self.inside.codes c.self.inside.regions.items c.self.invariant c.args.terminal.now c.args.number c.args.telling.now.room))
    c.acknowledge.ensures.full)
