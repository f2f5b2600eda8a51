use Rattle.std.proofs.Common.{◌≡◌, ◌∙◌, ap, rules}
use Rattle.std.specs.Prelude.{OnOk}
use Rattle.model_system.specs.declared.fields.FieldValue.{FieldValue}
use Rattle.model_session.specs.Blocks.{Block, and_field, first_values, put_value}
use Rattle.session_lines.proofs.FieldLines.{field_put, on_ok}
use Rattle.session_lines.proofs.block.Block.push_field.Goals as goal

pub returns-in-Ok-clause-ok : goal.returns-in-Ok-clause-ok
returns-in-Ok-clause-ok c =
    let before : Block = record { line = c.self.inside.line; further = c.self.inside.further.items; values = c.self.inside.values; others = c.self.inside.others } in
    let value : FieldValue = record { name = c.in-Ok.name; text = c.in-Ok.text.now } in
    let ok : OnOk c.put.result (c.put.new.self ≡ first_values (put_value value c.self.inside.values)) = search rules in
    on_ok (c.put.new.self ≡ first_values (put_value value c.self.inside.values)) (record before { values = c.put.new.self } ≡ and_field c.args.self.now c.args.line.now) c.put.result
    (λ made. field_put before c.args.line.now value c.put.new.self c.in-Ok.ensures.value made ∙ ap (λ (b : Block). and_field b c.args.line.now) c.self.view_is) ok
