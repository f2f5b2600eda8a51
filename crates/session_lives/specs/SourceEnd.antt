-- The end of a session's source.
use Rattle.std.specs.Prelude.{◌≡◌, ℕ, true, List, [], Some}
use Rattle.tm_disk.specs.Disk.{DiskState, IsCut}
use Rattle.model_session.specs.Text.{broken_text}
use Rattle.tm_control.specs.ControlOnDisk.{ControlOnDisk}
use Rattle.tm_control.specs.ControlCalls.{StaysSo}
use Rattle.session_lives.specs.declared.called.Ending.{Ending}
use Rattle.session_lives.specs.declared.called.Ending.TheVariants.{Forced, Broke}
use Rattle.session_lives.specs.declared.place.Idle.{Idle}
use Rattle.session_lives.specs.declared.place.Place.{Place}
use Rattle.session_lives.specs.declared.place.Place.TheVariants.{Up, Down, Moved}
use Rattle.session_lives.specs.declared.place.Session.{Session}
use Rattle.session_lives.specs.AskedControl.{IsForcedBehind, FailsToForce}
use Rattle.session_lives.specs.Openings.{EndsLife}

-- what is printed for it
abbrev pub end_text : Ending → List ℕ
end_text Forced = []
end_text Broke = broken_text

-- The life goes on, and all is as it was; or it has ended, and the disk is cut with the pick that was kept for a stop.
abbrev pub IsEndSettled : {D : Type 0} → (D → DiskState) → Session D → Ending → Session D → Type 0
IsEndSettled state old Forced new = new ≡ old
IsEndSettled state old Broke new = EndsLife state (Some old.kept.pick) true old new

-- The disk failed in the force, and is cut as that has left it.
pub record IsCutBehindForce {D : Type 0} (state : D → DiskState) (pick : ℕ) (control : ControlOnDisk D) (idle : Idle D) : Type 0 where
  pub behind : ControlOnDisk D
  pub fails : FailsToForce state control behind
  pub stays : StaysSo state control behind
  pub cut : IsCut pick (state behind.disk) (state idle.disk)

-- a system that was up is up still, and all is forced; or it is down
abbrev pub EndsUp : {D : Type 0} → (D → DiskState) → ℕ → ControlOnDisk D → Ending → Place D → Type 0
EndsUp state picked control Forced (Up after) = IsForcedBehind state control after
EndsUp state picked control Forced (Down idle) = ⊥
EndsUp state picked control Forced Moved = ⊥
EndsUp state picked control Broke (Up after) = ⊥
EndsUp state picked control Broke (Down idle) = IsCutBehindForce state picked control idle
EndsUp state picked control Broke Moved = ⊥

-- While it is down nothing is done.
abbrev pub EndsPlace : {D : Type 0} → (D → DiskState) → Place D → ℕ → Ending → Place D → Type 0
EndsPlace state (Up control) picked ending new = EndsUp state picked control ending new
EndsPlace state (Down idle) picked ending new = (ending ≡ Forced) × (new ≡ Down idle)
EndsPlace state Moved picked ending new = ⊥

-- a cut takes the pick that was kept for a stop
abbrev pub pick_ended : Ending → ℕ → ℕ
pick_ended Forced picked = picked
pick_ended Broke picked = 0
