use Rattle.std.proofs.Common.{◌∙◌, ap, map}
use Rattle.model_messages.specs.Terminals.{without_conversation}
use Rattle.model_messages.specs.Outputs.{fresh_terminal}
use Rattle.model_machine.specs.Machine.{fresh_terminal_state}
use Rattle.seg_store.specs.Stores.{empty_stores}
use Rattle.lasting_state.proofs.Fresh.{fresh_is, fresh_dbds}
use Rattle.lasting_state.proofs.tables.Tables.new.Goals as goal

pub returns-clause-lasting : goal.returns-clause-lasting
returns-clause-lasting c =
    fresh_is c.args.system.now c.in_ok-empty.field-0 c.new.result c.in_ok-fresh_states.field-0.items c.in_ok-new.field-0 c.in_ok-none.field-0
    (c.in_ok-empty.ensures.committed ∙ ap empty_stores c.databases.ensures.value) c.new.ensures.empty
    (c.in_ok-fresh_states.ensures ∙ ap (map fresh_terminal_state) c.terminals.ensures.value) (c.in_ok-new.ensures ∙ ap (map fresh_terminal) c.terminals-2.ensures.value)
    (c.in_ok-none.ensures ∙ ap (map without_conversation) c.terminals-3.ensures.value)

pub returns-clause-databases : goal.returns-clause-databases
returns-clause-databases c =
    fresh_dbds c.args.system.now.databases c.in_ok-empty.field-0 (c.in_ok-empty.ensures.stores ∙ ap empty_stores c.databases.ensures.value)
