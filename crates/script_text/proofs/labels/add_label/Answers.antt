use Rattle.std.proofs.Common.{sym, ◌∙◌}
use Rattle.script_text.specs.GoodStatement.{places_in}
use Rattle.script_text.proofs.LabelSteps.{added}
use Rattle.script_text.proofs.labels.add_label.Goals as goal

pub returns-in_ok-insert : goal.returns-in_ok-insert
returns-in_ok-insert c = λ name. added (places_in c.args.labels.now) (places_in c.insert.new.self) c.args.label name c.args.place (sym c.contains_key.ensures ∙ c.if-not-contains_key.true) (c.in_ok-insert.ensures.updates.0 name)
