use Rattle.log_records.proofs.Laws.{one_spelling}
use Rattle.log_records.proofs.decoding.one_spelling.Goals as goal

pub returns : goal.returns
returns c = λ a b x y r s h k e. one_spelling a b r s x y h k e
