use Rattle.std.proofs.Common.{sym}
use Rattle.lasting_state.proofs.telling.tell_kept.Goals as goal

pub returns-clause-told : goal.returns-clause-told
returns-clause-told c = rw (sym c.kept.view_is) c.tell_input.ensures.told

pub returns-clause-full : goal.returns-clause-full
returns-clause-full c = rw (sym c.kept.view_is) c.tell_input.ensures.full
