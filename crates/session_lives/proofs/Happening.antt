-- One event more happened at a disk, or none.
use Rattle.std.proofs.Common.{◌≡◌, ℕ, Bool, true, false, List, [], ◌∷◌, ◌++◌, refl, arith}
use Rattle.std.specs.Prelude.{if◌then◌else◌, Ok, Err}
use Rattle.tm_disk.specs.Disk.{DiskState, IsToldToStop, armed}
use Rattle.tm_disk.proofs.Words.{made_none, stays_same, stays_on}
use Rattle.model_system.specs.System.{System}
use Rattle.model_machine.specs.declared.entry.Entry.{Entry}
use Rattle.model_machine.specs.declared.entry.Entry.TheVariants.{Accept, Show, Acked, Turn, Commanded, Checked, Quiet}
use Rattle.model_session.specs.SessionState.{DiskEvent, DiskPast, stop_armed, told_one}
use Rattle.model_session.specs.SessionState.DiskEvent.{StopsAt, Tells}
use Rattle.session_lives.specs.ToldNumbers.{ShowsTold}
use Rattle.session_lives.specs.DiskEvents.{GoesOn, Happens, AreEvents}

pub goes_itself : (disk : DiskState) → GoesOn disk disk
goes_itself disk = record { stays = stays_same disk; later = omega arith }

pub goes_on_on : (old mid new : DiskState) → GoesOn old mid → GoesOn mid new → GoesOn old new
goes_on_on old mid new a b = record { stays = stays_on old mid new a.stays b.stays; later = omega (arith, a.later, b.later) }

-- one that couldn't be told to stop
goes_untold : (old new : DiskState) → IsToldToStop old new → new.until_stop ≡ old.until_stop → GoesOn old new
goes_untold old new told same = record {
  stays = record {
    size = told.same.size;
    tells = told.same.tells;
    can_arm = told.same.can_arm;
    faults = told.same.faults;
    writes = told.same.writes;
    stop = made_none old new told.writes same;
    cuts = told.cuts;
  };
  later = told.elapses.later;
}

module _ {D : Type 0} (state : D → DiskState) (system : System) where
  pub events_go : (events : List DiskEvent) (old mid new : D) → AreEvents state system events old mid → GoesOn (state mid) (state new) → AreEvents state system events old new
  events_go [] old mid new are goes = goes_on_on (state old) (state mid) (state new) are goes
  events_go (event ∷ events) old mid new are goes =
      record { before = are.before; after = are.after; goes_on = are.goes_on; happens = are.happens; rest = events_go events are.after mid new are.rest goes }

  pub events_one : (events : List DiskEvent) (event : DiskEvent) (old mid new : D) → AreEvents state system events old mid → Happens state system event mid new
      → AreEvents state system (events ++ event ∷ []) old new
  events_one [] event old mid new are happens = record { before = mid; after = new; goes_on = are; happens = happens; rest = goes_itself (state new) }
  events_one (first ∷ events) event old mid new are happens =
      record { before = are.before; after = are.after; goes_on = are.goes_on; happens = are.happens; rest = events_one events event are.after mid new are.rest happens }

  -- an entry was told, and the disk shows its number
  pub events_told : (entry : Entry) (past : DiskPast) (old new : D) → AreEvents state system past.events old new → ShowsTold system entry (state new)
      → AreEvents state system (told_one entry past).events old new
  events_told (Checked freeze (Ok number)) past old new are shows = events_one past.events (Tells number) old new new are (record { shows = shows; same = refl })
  events_told (Checked freeze (Err refused)) past old new are shows = are
  events_told (Accept terminal number segments answer) past old new are shows = are
  events_told (Show terminal answer) past old new are shows = are
  events_told (Acked terminal number answer) past old new are shows = are
  events_told (Turn region answer) past old new are shows = are
  events_told (Commanded command answer) past old new are shows = are
  events_told (Quiet quiet) past old new are shows = are

  -- it was told to stop, where it can be told so
  pub events_armed : (can : Bool) (writes pick : ℕ) (past : DiskPast) (old mid new : D) → AreEvents state system past.events old mid → IsToldToStop (state mid) (state new)
      → (state new).until_stop ≡ (if can then armed writes (state mid).until_stop else (state mid).until_stop) → AreEvents state system (stop_armed can writes pick past).events old new
  events_armed true writes pick past old mid new are told until = events_one past.events (StopsAt writes) old mid new are (record { told = told; until_stop = until })
  events_armed false writes pick past old mid new are told until = events_go past.events old mid new are (goes_untold (state mid) (state new) told until)
