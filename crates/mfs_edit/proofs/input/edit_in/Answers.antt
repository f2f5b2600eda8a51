use Rattle.mfs_edit.proofs.Entered.{entered_some, entered_texts}
use Rattle.mfs_edit.proofs.input.edit_in.Goals as goal

pub returns-clause-some : goal.returns-clause-some
returns-clause-some c = entered_some c.args.format.now c.args.fields.now c.entered.result c.requires.rule c.entered.ensures.answers

pub returns-clause-texts : goal.returns-clause-texts
returns-clause-texts c = entered_texts c.args.format.now c.args.fields.now c.entered.result c.requires.rule c.entered.ensures.valid c.requires.printable c.entered.ensures.answers
