use Rattle.std.proofs.Common.{ℕ, List, map, refl, ◌∙◌, ap}
use Rattle.tm_types.specs.declared.dbd.Dbd.{Dbd}
use Rattle.model_messages.specs.Terminals.{without_conversation}
use Rattle.model_messages.specs.Outputs.{fresh_terminal}
use Rattle.model_machine.specs.Machine.{fresh_terminal_state}
use Rattle.seg_store.specs.Stores.{empty_stores, no_changed}
use Rattle.openings.proofs.FirstParts.{parts_are}
use Rattle.openings.proofs.first_parts.parts.Goals as goal

pub returns-clause-are : goal.returns-clause-are
returns-clause-are c =
    parts_are c.args.system.now _ (c.new.ensures.limit ∙ c.qbytes.ensures.value) c.new.ensures.empty
    (c.in_ok-new.ensures ∙ ap (λ (names : List (List ℕ)). map fresh_terminal names) c.terminals.ensures.value)
    (c.codes.view_is ∙ c.requires.codes)
    (c.in_ok-fresh_states.ensures ∙ ap (λ (names : List (List ℕ)). map fresh_terminal_state names) c.terminals-2.ensures.value)
    (c.in_ok-none.ensures ∙ ap (λ (names : List (List ℕ)). map without_conversation names) c.terminals-3.ensures.value)
    (c.in_ok-empty.ensures.stores ∙ ap (λ (dbds : List Dbd). empty_stores dbds) c.databases.ensures.value)
    (c.in_ok-empty.ensures.changed ∙ ap (λ (dbds : List Dbd). no_changed dbds) c.databases.ensures.value)
    refl refl
