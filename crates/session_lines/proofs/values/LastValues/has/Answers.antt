use Rattle.std.proofs.Common.{List, ◌∙◌, ap}
use Rattle.std.specs.List.{list_any}
use Rattle.std.specs.Str.{bytes_eq}
use Rattle.model_system.specs.declared.fields.FieldValue.{FieldValue}
use Rattle.session_lines.proofs.Latest.{has_entry}
use Rattle.session_lines.proofs.values.LastValues.has.Goals as goal

pub returns : goal.returns
returns c =
    c.contains_key.ensures ∙ has_entry c.args.name.now c.self.inside.values.entries
    ∙ ap (λ (values : List FieldValue). list_any {X = FieldValue} (λ value. bytes_eq value.name c.args.name.now) values) c.self.view_is
