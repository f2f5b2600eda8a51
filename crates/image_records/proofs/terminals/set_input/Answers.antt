use Rattle.std.proofs.Common.{◌≡◌, sym, ap, ◌∙◌, Some, None}
use Rattle.std.specs.Prelude.{Option, ℕ, position}
use Rattle.std.specs.Str.{bytes_eq}
use Rattle.model_system.specs.Lists.{change_at}
use Rattle.image_records.specs.ChangeRecords.{of_state, with_input}
use Rattle.image_records.proofs.Named.{placed, put_at, state_within}
use Rattle.image_records.proofs.terminals.set_input.Goals as goal

pub returns-in-Some : goal.returns-in-Some
returns-in-Some c =
    let change = with_input c.args.last c.args.stopped in
    let items = c.args.terminals.now.items in
    let found : position (λ y. bytes_eq y.name c.args.name.now) items ≡ Some c.in-Some.place = placed of_state c.args.system.now.terminals c.args.name.now items (Some c.in-Some.place) c.requires c.in-Some.ensures.value in
    put_at items c.in-Some.place _ c.put_input.new.terminal change (position (λ y. bytes_eq y.name c.args.name.now) items)
    (state_within c.args.system.now.terminals items c.in-Some.place c.requires c.in-Some.ensures.within)
    (c.put_input.ensures ∙ ap change c.index_mut.ensures.value) found

pub returns-in-None : goal.returns-in-None
returns-in-None c =
    let items = c.args.terminals.now.items in
    let none : position (λ y. bytes_eq y.name c.args.name.now) items ≡ None = placed of_state c.args.system.now.terminals c.args.name.now items None c.requires c.in-None.ensures.value in
    sym (ap (λ (p : Option ℕ). change_at items p (with_input c.args.last c.args.stopped)) none)
