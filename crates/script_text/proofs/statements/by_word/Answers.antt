use Rattle.script_text.proofs.statements.by_word.Goals as goal

pub returns-in-If-clause-good : goal.returns-in-If-clause-good
returns-in-If-clause-good c = rw c.in-If.is (c.if_of.ensures.good c.args.here)

pub returns-in-Goto-clause-good : goal.returns-in-Goto-clause-good
returns-in-Goto-clause-good c = rw c.in-Goto.is (c.goto_of.ensures.good c.args.here)
