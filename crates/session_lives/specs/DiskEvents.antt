-- What a session does with its disk, one event after another, and what the disk does between.
use Rattle.std.specs.Prelude.{◌≡◌, ℕ, ◌≤◌, List, [], ◌∷◌}
use Rattle.tm_disk.specs.Disk.{DiskState, Stays, IsToldToStop, IsCut, armed}
use Rattle.model_system.specs.System.{System}
use Rattle.model_session.specs.SessionState.{DiskEvent}
use Rattle.model_session.specs.SessionState.DiskEvent.{StopsAt, CutWith, Tells}
use Rattle.session_lives.specs.ToldNumbers.{ShowsNumber}

-- It is the same disk, later or just then. It was neither cut nor told to stop, and a stop to come is nearer by just the writes that were
-- made.
pub record GoesOn (old new : DiskState) : Type 0 where
  pub stays : Stays old new
  pub later : old.clock ≤ new.clock

-- The disk was told to stop at the n-th write to come; one that has stopped stays so.
pub record IsStopAsked (writes : ℕ) (old new : DiskState) : Type 0 where
  pub told : IsToldToStop old new
  pub until_stop : new.until_stop ≡ armed writes old.until_stop

-- The number was told while the disk showed it, and the disk is as it was.
pub record IsNumberTold {D : Type 0} (state : D → DiskState) (system : System) (number : ℕ) (old new : D) : Type 0 where
  pub shows : ShowsNumber system number (state old)
  pub same : new ≡ old

-- what an event is to the disk
abbrev pub Happens : {D : Type 0} → (D → DiskState) → System → DiskEvent → D → D → Type 0
Happens state system (StopsAt writes) old new = IsStopAsked writes (state old) (state new)
Happens state system (CutWith pick) old new = IsCut pick (state old) (state new)
Happens state system (Tells number) old new = IsNumberTold state system number old new

-- The disk went on up to where this event happened, and from then on it went as is said.
pub record HappensNext {D : Type 0} (state : D → DiskState) (system : System) (Rest : D → Type 0) (event : DiskEvent) (old : D) : Type 0 where
  pub before : D
  pub after : D
  pub goes_on : GoesOn (state old) (state before)
  pub happens : Happens state system event before after
  pub rest : Rest after

-- From the one moment to the other these events happened at the disk, one after another, and no others.
abbrev pub AreEvents : {D : Type 0} → (D → DiskState) → System → List DiskEvent → D → D → Type 0
AreEvents state system [] old new = GoesOn (state old) (state new)
AreEvents state system (event ∷ events) old new = HappensNext state system (λ after. AreEvents state system events after new) event old
