-- What the end of a session has for its cause.
use Rattle.std.proofs.Common.{◌≡◌, ℕ, Bool, true, false, sym, subst, refl}
use Rattle.std.specs.Prelude.{Some}
use Rattle.tm_session.specs.declared.outcome.Ended.{Ended}
use Rattle.tm_session.specs.declared.outcome.Ended.TheVariants.{Done, Words, BadLine, BadCross, Down, Read, Write, Image, Memory, Limit, Spent}
use Rattle.tm_session.specs.Outcome.{HasCause}
use Rattle.session_lives.specs.declared.called.Opening.{Opening}
use Rattle.session_lives.specs.declared.called.Opening.TheVariants.{Opened, Broke, Refused, Memory as NoMemory, Spent as SpentCounter}
use Rattle.tm_session.specs.BegunSession.{refusal, by_standing}

-- how the system stands adds no cause
pub cause_stays : (stopped : Bool) (ended : Ended) (r r' w w' : ℕ) → HasCause ended r r' w w' → HasCause (by_standing stopped ended) r r' w w'
cause_stays false ended r r' w w' h = h
cause_stays true Done r r' w w' h = h
cause_stays true (Words word rule) r r' w w' h = h
cause_stays true (BadLine line rule) r r' w w' h = h
cause_stays true (BadCross line rule) r r' w w' h = h
cause_stays true Down r r' w w' h = h
cause_stays true Read r r' w w' h = h
cause_stays true Write r r' w w' h = h
cause_stays true (Image refused) r r' w w' h = h
cause_stays true Memory r r' w w' h = h
cause_stays true (Limit n) r r' w w' h = h
cause_stays true Spent r r' w w' h = h

-- a disk that isn't opened is no fault of the source or the sink
refused_cause : (opening : Opening) (ended : Ended) (r r' w : ℕ) → refusal opening ≡ Some ended → r' ≡ r → HasCause ended r r' w w
refused_cause Opened ended r r' w is calm = cc
refused_cause Broke ended r r' w is calm = cc
refused_cause (Refused refused) ended r r' w is calm = let same : Image refused ≡ ended = cc in subst (λ e. HasCause e r r' w w) same (calm, refl)
refused_cause NoMemory ended r r' w is calm = let same : Memory ≡ ended = cc in subst (λ e. HasCause e r r' w w) same (calm, refl)
refused_cause SpentCounter ended r r' w is calm = let same : Spent ≡ ended = cc in subst (λ e. HasCause e r r' w w) same (calm, refl)

pub never_cause : (stopped : Bool) (opening : Opening) (ended status : Ended) (r r' w : ℕ) → refusal opening ≡ Some ended → status ≡ by_standing stopped ended → r' ≡ r → HasCause status r r' w w
never_cause stopped opening ended status r r' w is at calm =
    subst (λ s. HasCause s r r' w w) (sym at) (cause_stays stopped ended r r' w w (refused_cause opening ended r r' w is calm))

pub driven_cause : (stopped : Bool) (ended status : Ended) (r m r' w w' : ℕ) → HasCause ended m r' w w' → status ≡ by_standing stopped ended → m ≡ r → HasCause status r r' w w'
driven_cause stopped ended status r m r' w w' cause at calm =
    subst (λ s. HasCause s r r' w w') (sym at) (cause_stays stopped ended r r' w w' (subst (λ n. HasCause ended n r' w w') calm cause))
