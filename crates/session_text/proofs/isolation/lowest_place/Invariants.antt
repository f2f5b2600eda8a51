use Rattle.std.proofs.Common.{◌≡◌, ℕ, ◌<◌, false, get_or}
use Rattle.model_session.specs.Text.{is_lowest}
use Rattle.session_text.proofs.isolation.lowest_place.Given as goal

abbrev pub invariant-loop-place : goal.invariant-loop-place
invariant-loop-place l = (k : ℕ) → k < l.place → is_lowest l.regions (get_or l.regions k 0) ≡ false
