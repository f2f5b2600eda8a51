use Rattle.script_run.proofs.SegmentTexts.{take_text, drop_text}
use Rattle.script_run.proofs.texts.cut.Goals as goal

pub returns-else-rest-count-clause-text : goal.returns-else-rest-count-clause-text
returns-else-rest-count-clause-text c = λ text. take_text _ _ (take_text _ _ (drop_text _ _ text))
