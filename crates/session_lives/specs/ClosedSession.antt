-- What a session has come to.
use Rattle.std.specs.Prelude.{◌≡◌, ℕ, ◌<◌, ◌≤◌, ◌++◌, true, List, [], ◌∷◌, map, Option, Some, None}
use Rattle.std.specs.Option.{is_some}
use Rattle.tm_disk.specs.Disk.{Image, DiskState, IsSameDisk}
use Rattle.model_system.specs.System.{System}
use Rattle.model_session.specs.Lives.{AreLegal}
use Rattle.model_session.specs.SessionState.{DiskEvent, SessionState, Stop, AreAllLives, AreStops, last_life}
use Rattle.model_system.specs.Areas.{sectors_needed}
use Rattle.tm_control.specs.ControlOnDisk.{ControlOnDisk, Lasts}
use Rattle.tm_control.specs.ClosedControl.{Closes}
use Rattle.openings.specs.declared.life.Life.{Life}
use Rattle.session_lives.specs.declared.place.Idle.{Idle}
use Rattle.session_lives.specs.declared.place.Place.{Place}
use Rattle.session_lives.specs.declared.place.Place.TheVariants.{Up, Down, Moved}
use Rattle.session_lives.specs.declared.place.Kept.{Kept}
use Rattle.session_lives.specs.declared.place.Session.{Session}
use Rattle.session_lives.specs.DiskEvents.{AreEvents}
use Rattle.session_lives.specs.ToldNumbers.{numbers_told, told_numbers}
use Rattle.session_lives.specs.RunningSession.{life_of, session_of, session_setting, HoldsSession, IsNumberedAt, IsSessionSound}

-- the disk has sectors enough for the system
abbrev pub HasSectors : System → DiskState → Type 0
HasSectors system disk = sectors_needed system ≤ disk.size

abbrev pub listed : Option Life → List Life
listed None = []
listed (Some life) = life ∷ []

-- so many are there, of as many as there is room for
abbrev pub HasRoomIf : Option Life → ℕ → ℕ → Type 0
HasRoomIf None count room = Unit {0}
HasRoomIf (Some life) count room = count < room

-- A session that was up is closed, or one that was down.
pub record IsClosedUp {D : Type 0} (state : D → DiskState) (control : ControlOnDisk D) (kept : Kept) (disk : D) (lives : List Life) (stops : List Stop) : Type 0 where
  pub life : Life
  pub closes : Closes control disk life control.control.system control.text control.began
  pub lasts : Lasts state control
  pub lives_are : lives ≡ kept.lives.items ++ life ∷ []
  pub stops_are : stops ≡ kept.stops.items

pub record IsClosedDown {D : Type 0} (idle : Idle D) (kept : Kept) (disk : D) (lives : List Life) (stops : List Stop) : Type 0 where
  pub disk_is : disk ≡ idle.disk
  pub lives_are : lives ≡ kept.lives.items ++ listed idle.last
  pub stops_are : stops ≡ kept.stops.items

abbrev pub IsClosedAt : {D : Type 0} → (D → DiskState) → Place D → Kept → D → List Life → List Stop → Type 0
IsClosedAt state (Up control) kept disk lives stops = IsClosedUp state control kept disk lives stops
IsClosedAt state (Down idle) kept disk lives stops = IsClosedDown idle kept disk lives stops
IsClosedAt state Moved kept disk lives stops = ⊥

abbrev pub IsSessionClosed : {D : Type 0} → (D → DiskState) → Session D → D → List Life → List Stop → Type 0
IsSessionClosed state session disk lives stops = IsClosedAt state session.place session.kept disk lives stops

-- What is left of a session that stood so at its end, and what was kept of it. The disk is the one that was handed in, and just the
-- session's events happened at it, which tell of the checkpoints that the lives tell of. Where a life has begun, it has sectors enough.
pub record Remains {D : Type 0} (state : D → DiskState) (system : System) (source : List ℕ) (handed disk : D) (last : SessionState) (lives : List Life) (stops : List Stop) : Type 0 where
  pub lives_are : AreAllLives system last (map life_of lives)
  pub legal : AreLegal system (map life_of lives)
  pub stops_are : stops ≡ last.stops
  pub same : IsSameDisk (state handed) (state disk)
  pub counted : AreStops (state handed).faults stops (state disk).faults
  pub images : (image : Image) → (state disk).may_leave image → HoldsSession state system source handed last.standing image
  pub numbered : (image : Image) → (state disk).may_leave image → IsNumberedAt (session_setting state system source handed) last.standing image
  pub enough : is_some (last_life last.standing) ≡ true → HasSectors system (state handed)
  pub happened : AreEvents state system last.disk.events handed disk
  pub told : told_numbers last.disk.events ≡ numbers_told (map life_of lives)

-- So it is, whatever disk was handed in, and whatever was done with it.
abbrev pub SessionLeaves : {D : Type 0} → (D → DiskState) → Session D → D → List Life → List Stop → Type 0
SessionLeaves {D} state session disk lives stops =
    (system : System) → (source : List ℕ) → (handed : D) → (events : List DiskEvent) → IsSessionSound state system source handed events session
    → Remains state system source handed disk (session_of events session) lives stops
