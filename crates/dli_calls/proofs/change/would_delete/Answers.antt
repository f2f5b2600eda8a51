use Rattle.std.proofs.Common.{sym, ◌∙◌}
use Rattle.model_data.specs.Path.{root_of}
use Rattle.dli_calls.proofs.OwnChanges.{root_is, held_some, delete_not, delete_does}
use Rattle.dli_calls.proofs.change.would_delete.Goals as goal

pub returns-in-Some : goal.returns-in-Some
returns-in-Some c = λ rows h.
    delete_not c.args.dbd.now c.args.at.now rows c.args.seen.now c.in_ok-held.held.now (sym c.in_ok-held.ensures.value) h c.in-Some.field-0 (sym c.in-Some.ensures)

pub returns-in-None : goal.returns-in-None
returns-in-None c = λ rows h.
    root_is c.root.result (root_of c.in_ok-held.held.now) (c.root.ensures.some.1 (held_some c.args.dbd.now c.args.at.now c.in_ok-held.held.now c.requires (sym c.in_ok-held.ensures.value))) c.root.ensures.value
    ∙ delete_does c.args.dbd.now c.args.at.now rows c.args.seen.now c.in_ok-held.held.now (sym c.in_ok-held.ensures.value) h (sym c.in-None.ensures)
