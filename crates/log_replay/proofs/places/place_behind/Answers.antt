use Rattle.std.proofs.Common.{◌+◌, sym, ap, ◌∙◌, false}
use Rattle.std.specs.Prelude.{◌==◌}
use Rattle.std.specs.Option.{option_copied, option_map_or, is_some}
use Rattle.log_replay.proofs.Stepped.{place_there, small_last, some_place}
use Rattle.log_replay.proofs.places.place_behind.Goals as goal

pub returns-in_default-clause-next : goal.returns-in_default-clause-next
returns-in_default-clause-next c = ap (λ o. option_map_or (λ t. t.last + 1 == c.args.number) o false) (sym c.terminal_at.ensures ∙ ap option_copied c.in_default.is)

pub is_next_input-next-requires : goal.is_next_input-next-requires
is_next_input-next-requires c = small_last c.args.terminals.now c.args.name.now c.in-Some.terminal.now c.requires (sym c.terminal_at.ensures ∙ ap option_copied c.in-Some.is)

pub returns-then-not-next-clause-next : goal.returns-then-not-next-clause-next
returns-then-not-next-clause-next c =
    ap (λ o. option_map_or (λ t. t.last + 1 == c.args.number) o false) (sym c.terminal_at.ensures ∙ ap option_copied c.in-Some.is)
    ∙ sym c.is_next_input-next.ensures ∙ c.if-not-next.true

pub returns-clause-next : goal.returns-clause-next
returns-clause-next c =
    ap (λ o. option_map_or (λ t. t.last + 1 == c.args.number) o false) (sym c.terminal_at.ensures ∙ ap option_copied c.in-Some.is)
    ∙ sym c.is_next_input-next.ensures ∙ c.if-not-next.false
    ∙ sym (ap is_some c.terminal_place.ensures.value ∙ place_there c.args.terminals.now c.args.name.now c.args.number c.in-Some.terminal.now (sym c.terminal_at.ensures ∙ ap option_copied c.in-Some.is))

pub returns-clause-place : goal.returns-clause-place
returns-clause-place c = some_place _ _ c.terminal_place.ensures.value
