use Rattle.std.proofs.Common.{◌≡◌, sym, ap, ◌∙◌, Some, None}
use Rattle.std.specs.Prelude.{Option, ℕ, position}
use Rattle.std.specs.Str.{bytes_eq}
use Rattle.model_system.specs.Lists.{change_at}
use Rattle.image_records.specs.ChangeRecords.{with_setting}
use Rattle.image_records.proofs.Named.{placed_code, put_at, setting_within}
use Rattle.image_records.proofs.terminals.set_code.Goals as goal

pub returns-in-Some : goal.returns-in-Some
returns-in-Some c =
    let change = with_setting c.args.stopped c.args.class c.args.priority in
    let items = c.args.codes.now.items in
    let found : position (λ y. bytes_eq y.code c.args.name.now) items ≡ Some c.in-Some.place = placed_code c.args.system.now c.args.name.now items (Some c.in-Some.place) c.requires c.in-Some.ensures.value in
    put_at items c.in-Some.place _ c.put_setting.new.code change (position (λ y. bytes_eq y.code c.args.name.now) items)
    (setting_within c.args.system.now items c.in-Some.place c.requires c.in-Some.ensures.within)
    (c.put_setting.ensures ∙ ap change c.index_mut.ensures.value) found

pub returns-in-None : goal.returns-in-None
returns-in-None c =
    let items = c.args.codes.now.items in
    let none : position (λ y. bytes_eq y.code c.args.name.now) items ≡ None = placed_code c.args.system.now c.args.name.now items None c.requires c.in-None.ensures.value in
    sym (ap (λ (p : Option ℕ). change_at items p (with_setting c.args.stopped c.args.class c.args.priority)) none)
