use Rattle.session_lines.proofs.FieldTexts.{printable_text}
use Rattle.session_lines.proofs.fields.field_of.Goals as goal

pub returns-clause-printable : goal.returns-clause-printable
returns-clause-printable c = printable_text c.args.line.now c.judged_field.result c.judged_field.ensures
