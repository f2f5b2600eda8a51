-- A session that is up when its source has ended leaves its last life as a whole.
use Rattle.std.proofs.Common.{◌≡◌, inl, inr, ℕ, ◌+◌, List, [], refl, sym, ap, ◌∙◌, subst, append-nil}
use Rattle.model_machine.specs.Machine.{LastingState}
use Rattle.model_machine.specs.declared.entry.Entry.{Entry}
use Rattle.model_system.specs.System.{System}
use Rattle.model_session.specs.Lives.{LastLife, LifeLeaves, IsAllForced, forced_to, life_moment, longer, now_in}
use Rattle.model_session.specs.SessionState.{Setting, SessionState, Outage, Standing, MayHold}
use Rattle.model_session.specs.SessionState.Standing.{Up, Down}
use Rattle.model_session.specs.Session.{EndsAt, IsSourceEnded}
use Rattle.session_law.proofs.Sessions.{leaves_all}

-- of a life of which all steps are forced nothing is lost
pub all_left : (system : System) (life : LastLife) → IsAllForced system life life.forced → (kept : ℕ) (state : LastingState) → LifeLeaves system life kept state → state ≡ (now_in system life).lasting
all_left system life all kept state leaves = leaves_all (λ (s : LastingState). s ≡ (now_in system life).lasting) system life all refl kept state leaves

up_is : (one other : LastLife) → Up one ≡ Up other → one ≡ other
up_is one other e = cc

down_up : (outage : Outage) (life : LastLife) → Down outage ≡ Up life → ⊥
down_up outage life e = cc

module _ (setting : Setting) where
  ended_by : (old : SessionState) (standing : Standing) (new : SessionState) (text : List ℕ) → old.standing ≡ standing → EndsAt standing setting.system old new text → (life : LastLife) → new.standing ≡ Up life
      → IsAllForced setting.system life life.forced
  ended_by old (Up first) new text at (inl h) life stands =
      subst (λ (l : LastLife). IsAllForced setting.system l l.forced) (up_is (forced_to h.forced (longer first [])) life (sym (ap (λ (s : SessionState). s.standing) h.goes) ∙ stands))
      (subst (λ (es : List Entry). first.opening.steps + h.forced ≡ (life_moment setting.system first es).lasting.steps) (sym (append-nil first.history)) h.all)
  ended_by old (Up first) new text at (inr h) life stands = absurd (down_up _ life (sym (ap (λ (s : SessionState). s.standing) h.ends) ∙ stands))
  ended_by old (Down outage) new text at h life stands = absurd (down_up outage life (sym at ∙ sym (ap (λ (s : SessionState). s.standing) h.0) ∙ stands))

  pub all_forced_at_end : (old new : SessionState) (text : List ℕ) → IsSourceEnded setting.system old new text → (life : LastLife) → new.standing ≡ Up life → IsAllForced setting.system life life.forced
  all_forced_at_end old new text ends life stands = ended_by old old.standing new text refl ends life stands

  -- So all that its disk may hold then is what its last life has come to.
  pub ended_whole : (old new : SessionState) (text : List ℕ) → IsSourceEnded setting.system old new text → (life : LastLife) → new.standing ≡ Up life → (state : LastingState) → MayHold setting (Up life) state
      → state ≡ (now_in setting.system life).lasting
  ended_whole old new text ends life stands state (kept, leaves) = all_left setting.system life (all_forced_at_end old new text ends life stands) kept state leaves
