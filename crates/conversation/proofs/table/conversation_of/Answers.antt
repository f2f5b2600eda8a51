use Rattle.std.proofs.Common.{sym, ap, ◌∙◌}
use Rattle.std.specs.Option.{option_and_then}
use Rattle.conversation.proofs.Terminals.{place_held, none_at}
use Rattle.conversation.proofs.table.conversation_of.Goals as goal

pub returns-in-Some : goal.returns-in-Some
returns-in-Some c =
    c.shown.ensures
    ∙ sym (ap (option_and_then (λ t. t.conversation))
    (place_held c.args.name.now c.args.terminals.now c.in-Some.place c.index-terminals-place.result (sym c.in-Some.ensures) c.index-terminals-place.is))

pub returns-in-None : goal.returns-in-None
returns-in-None c =
    sym (ap (option_and_then (λ t. t.conversation)) (none_at c.args.name.now c.args.terminals.now (sym c.in-None.ensures)))
