-- What is left of a session that is closed.
use Rattle.std.proofs.Common.{◌≡◌, ℕ, true, List, [], ◌∷◌, ◌++◌, map, sym, ◌∙◌, ap, subst, refl}
use Rattle.std.proofs.lemmas.List.{append-nil, map-append}
use Rattle.std.specs.Prelude.{Option, Some, None}
use Rattle.std.specs.Option.{option_map, is_some}
use Rattle.tm_disk.specs.Disk.{DiskState, IsSameDisk}
use Rattle.model_system.specs.System.{System}
use Rattle.model_session.specs.Lives.{LifeState, LastLife, AreLegal, HasAnswered, kept_life, with_life}
use Rattle.model_session.specs.SessionState.{DiskEvent, Stop, AreStops}
use Rattle.tm_control.specs.ControlOnDisk.{ControlOnDisk}
use Rattle.openings.specs.declared.life.Life.{Life}
use Rattle.session_lives.specs.declared.place.Idle.{Idle}
use Rattle.session_lives.specs.declared.place.Place.TheVariants.{Up, Down, Moved}
use Rattle.session_lives.specs.declared.place.Place.{Place}
use Rattle.session_lives.specs.declared.place.Kept.{Kept}
use Rattle.session_lives.specs.declared.place.Session.{Session}
use Rattle.session_lives.specs.DiskEvents.{AreEvents}
use Rattle.session_lives.specs.ToldNumbers.{numbers_told, numbers_of, told_numbers}
use Rattle.session_lives.proofs.Telling.{with_numbers}
use Rattle.session_lives.specs.RunningSession.{life_of, last_life_of, last_up, kept_steps, session_at, IsUpReady, IsSessionReady, IsReadyAt, IsUpSound, IsDownSound, IsSoundAt}
use Rattle.session_lives.specs.ClosedSession.{listed, IsClosedUp, IsClosedDown, IsClosedAt, IsSessionClosed, Remains, SessionLeaves}
use Rattle.session_lives.proofs.Ends.{same_life, answered_by, answered_of, numbered_by, up_holds}
use Rattle.session_lives.proofs.Restarted.{legal_with}

lives_listed : (lives : List Life) (last : Option Life) → map life_of (lives ++ listed last) ≡ with_life (map life_of lives) (option_map last_life_of last) (kept_steps last)
lives_listed lives None = ap (map life_of) (append-nil lives)
lives_listed lives (Some life) = map-append life_of lives (life ∷ [])

some_life : (last : Option Life) → is_some (option_map last_life_of last) ≡ true → is_some last ≡ true
some_life None some = some
some_life (Some life) some = refl

module _ {D : Type 0} (state : D → DiskState) (system : System) (source : List ℕ) (handed : D) (events : List DiskEvent) where
  told_all : (lives before : List LifeState) (last : Option LastLife) (kept : ℕ) → lives ≡ with_life before last kept → told_numbers events ≡ numbers_told before ++ numbers_of last
      → told_numbers events ≡ numbers_told lives
  told_all lives before last kept all told = told ∙ sym (ap numbers_told all ∙ with_numbers before last kept)

  down_remains : (idle : Idle D) (kept : Kept) (disk : D) (lives : List Life) (stops : List Stop) → IsDownSound state system source handed events idle kept
      → IsClosedDown idle kept disk lives stops → Remains state system source handed disk (session_at events (Down idle) kept) lives stops
  down_remains idle kept disk lives stops sound over =
      let all : map life_of lives ≡ with_life (map life_of kept.lives.items) (option_map last_life_of idle.last) (kept_steps idle.last) = ap (map life_of) over.lives_are ∙ lives_listed kept.lives.items idle.last in
      record {
        lives_are = record { count = kept_steps idle.last; answered = sound.answered; are = all };
        legal = subst (λ l. AreLegal system l) (sym all) (legal_with system (map life_of kept.lives.items) (option_map last_life_of idle.last) (kept_steps idle.last) (kept_steps idle.last) sound.legal sound.answered);
        stops_are = over.stops_are;
        same = subst (λ d. IsSameDisk (state handed) (state d)) (sym over.disk_is) sound.same;
        counted = subst (λ d. AreStops (state handed).faults stops (state d).faults) (sym over.disk_is)
            (subst (λ s. AreStops (state handed).faults s (state idle.disk).faults) (sym over.stops_are) sound.stops);
        images = λ image left. sound.images image (subst (λ d. (state d).may_leave image) over.disk_is left);
        numbered = λ image left. sound.numbered image (subst (λ d. (state d).may_leave image) over.disk_is left);
        enough = λ some. sound.size (some_life idle.last some);
        happened = subst (λ (d : D). AreEvents state system events handed d) (sym over.disk_is) sound.happened;
        told = told_all (map life_of lives) (map life_of kept.lives.items) (option_map last_life_of idle.last) (kept_steps idle.last) all sound.told;
      }

  up_remains : (control : ControlOnDisk D) (kept : Kept) (disk : D) (lives : List Life) (stops : List Stop) → IsUpReady control kept → IsUpSound state system source handed events control kept
      → IsClosedUp state control kept disk lives stops → Remains state system source handed disk (session_at events (Up control) kept) lives stops
  up_remains control kept disk lives stops ready sound over =
      let life : LifeState = kept_life (last_up control) over.life.kept in
      let same : life_of over.life ≡ life = ap (λ l. kept_life l over.life.kept) (same_life control.control.opening over.life.opening control.checkpoint over.life.checkpoint control.control.history over.life.history control.forced over.life.forced over.closes.opening over.closes.checkpoint over.closes.history over.closes.forced) in
      let all : map life_of lives ≡ with_life (map life_of kept.lives.items) (Some (last_up control)) over.life.kept =
      ap (map life_of) over.lives_are ∙ map-append life_of kept.lives.items (over.life ∷ []) ∙ ap (λ l. map life_of kept.lives.items ++ l ∷ []) same in
      let answered : HasAnswered system (last_up control) over.life.kept =
      answered_of control.control.system system control.control.opening control.control.opening control.checkpoint control.checkpoint control.control.history control.control.history control.forced control.forced over.life.kept
      sound.system_is refl refl refl refl (answered_by control.up control.control control.forced control.checkpoint control.text (state control.disk) over.life.kept over.lasts over.closes.legal over.closes.numbers over.closes.kept) in
      record {
        lives_are = record { count = over.life.kept; answered = answered; are = all };
        legal = subst (λ l. AreLegal system l) (sym all) (legal_with system (map life_of kept.lives.items) (Some (last_up control)) over.life.kept over.life.kept sound.legal answered);
        stops_are = over.stops_are;
        same = subst (λ d. IsSameDisk (state handed) (state d)) (sym over.closes.disk_is) sound.same;
        counted = subst (λ d. AreStops (state handed).faults stops (state d).faults) (sym over.closes.disk_is)
            (subst (λ s. AreStops (state handed).faults s (state control.disk).faults) (sym over.stops_are)
            (subst (λ n. AreStops (state handed).faults kept.stops.items n) sound.began sound.stops));
        enough = λ some. sound.size;
        happened = subst (λ (d : D). AreEvents state system events handed d) (sym over.closes.disk_is) sound.happened;
        told = told_all (map life_of lives) (map life_of kept.lives.items) (Some (last_up control)) over.life.kept all sound.told;
        numbered = λ image left.
            numbered_by state system source handed control sound.system_is control.up image over.lasts (subst (λ d. (state d).may_leave image) over.closes.disk_is left);
        images = λ image left.
            up_holds state system source handed control sound.system_is control.up ready.up over.lasts image (subst (λ d. (state d).may_leave image) over.closes.disk_is left);
      }

  remains_at : (place : Place D) (kept : Kept) (disk : D) (lives : List Life) (stops : List Stop) → IsReadyAt state place kept → IsSoundAt state system source handed events place kept
      → IsClosedAt state place kept disk lives stops → Remains state system source handed disk (session_at events place kept) lives stops
  remains_at (Up control) kept disk lives stops ready sound over = up_remains control kept disk lives stops ready sound over
  remains_at (Down idle) kept disk lives stops ready sound over = down_remains idle kept disk lives stops sound over
  remains_at Moved kept disk lives stops ready sound over = absurd ready

pub closed_leaves : {D : Type 0} (state : D → DiskState) (session : Session D) (disk : D) (lives : List Life) (stops : List Stop) → IsSessionReady state session → IsSessionClosed state session disk lives stops
    → SessionLeaves state session disk lives stops
closed_leaves state session disk lives stops ready over = λ system source handed events sound.
    remains_at state system source handed events session.place session.kept disk lives stops ready sound over
