-- A text that is too long stops an input, whatever texts stand behind it.
use Rattle.std.proofs.Common.{ℕ, Bool, true, false, cond, List, [], ◌∷◌, length, nat_lt}
use Rattle.std.specs.Prelude.{Option, Some, None}
use Rattle.model_session.specs.Lines.{first_long}
use Rattle.session_lines.specs.BlockReading.{IsStop}
use Rattle.session_lines.specs.declared.asking.Stop.{Stop}
use Rattle.session_lines.specs.declared.asking.Stop.TheVariants.{TooLong, Memory}

stop_by : (b : Bool) (l : ℕ) (rest : Option ℕ) (stop : Stop) → IsStop (cond b (Some l) None) stop → IsStop (cond b (Some l) rest) stop
stop_by true l rest stop h = h
stop_by false l rest (TooLong long) h = cc
stop_by false l rest Memory h = tt

pub first_stops : (text : List ℕ) (texts : List (List ℕ)) (stop : Stop) → IsStop (first_long (text ∷ [])) stop → IsStop (first_long (text ∷ texts)) stop
first_stops text texts stop h = stop_by (nat_lt 1996 (length text)) (length text) (first_long texts) stop h
