-- Where a session stands, and what its disk may hold then.
use Rattle.std.specs.Prelude.{◌≡◌, ◌⊎◌, ℕ, ◌+◌, ◌≤◌, Bool, true, false, List, [], ◌∷◌, ◌++◌, Option, Some, None, Ok}
use Rattle.model_machine.specs.declared.entry.Entry.{Entry}
use Rattle.model_machine.specs.declared.entry.Entry.TheVariants.{Checked}
use Rattle.model_system.specs.System.{System}
use Rattle.model_machine.specs.Machine.{LastingState, empty_state}
use Rattle.model_session.specs.declared.asked.ImageRefused.{ImageRefused}
use Rattle.model_session.specs.Lives.{LifeState, LastLife, last_number, longer, forced_to, with_life, HasAnswered, LifeLeaves}

-- A session's system; whether its disk can be told to stop at a write to come, and whether it tells its contents; the
-- states that the disk recovers to as it is handed in, of which there is one at most; whether it is of the definition's text then, and
-- why it is refused; the bounds that none of the disk's own counters is above then; and the numbers that its checkpoint isn't below.
pub record Setting : Type 1 where
  pub system : System
  pub can_arm : Bool
  pub tells : Bool
  pub begins : LastingState → Type 0
  pub right_text : Type 0
  pub refuses : ImageRefused → Type 0
  pub counts : ℕ → Type 0
  pub numbered : ℕ → Type 0

-- The system is down: the last life, if one has begun; whether a cold start broke off since; and whether the disk has
-- failed since that life was opened.
pub record Outage : Type 0 where
  pub last : Option LastLife
  pub emptied : Bool
  pub stopped : Bool

-- the system is up, in this life; or it is down
pub data Standing : Type 0 where
  Up : LastLife → Standing
  Down : Outage → Standing

-- A disk fault ended a life or an opening: how often the disk had failed when that began, and when it ended.
abbrev pub Stop : Type 0
Stop = ℕ × ℕ

-- What a session does that is seen at its disk: it tells the disk to stop at the n-th write to come; it cuts it with a pick; and it tells
-- of a checkpoint, whose number the disk shows then.
pub data DiskEvent : Type 0 where
  StopsAt : ℕ → DiskEvent
  CutWith : ℕ → DiskEvent
  Tells : ℕ → DiskEvent

-- What a session has done with its disk so far: the pick that is kept for a stop, which is 0 where none is; and all events in their order.
pub record DiskPast : Type 0 where
  pub kept : ℕ
  pub events : List DiskEvent

-- A session so far: the lives before the last, the stops, what was done with the disk, and where it stands.
pub record SessionState : Type 0 where
  pub lives : List LifeState
  pub stops : List Stop
  pub disk : DiskPast
  pub standing : Standing

-- no life has begun
abbrev pub no_life : Outage
no_life = record { last = None; emptied = false; stopped = false }

abbrev pub unbegun : SessionState
unbegun = record { lives = []; stops = []; disk = record { kept = 0; events = [] }; standing = Down no_life }

-- A cut takes the pick that was kept for a stop.
abbrev pub cut_with : ℕ → DiskPast → DiskPast
cut_with pick past = record { kept = 0; events = past.events ++ CutWith pick ∷ [] }

-- a stop is a cut with the pick that was kept for it
abbrev pub cut_at_stop : DiskPast → DiskPast
cut_at_stop past = cut_with past.kept past

-- where the disk can be told to stop at the n-th write to come, it was told so, and a pick is kept for that
abbrev pub stop_armed : Bool → ℕ → ℕ → DiskPast → DiskPast
stop_armed true writes pick past = record { kept = pick; events = past.events ++ StopsAt writes ∷ [] }
stop_armed false writes pick past = past

-- an entry that tells of a checkpoint tells of its number, and no other entry tells of one
abbrev pub told_one : Entry → DiskPast → DiskPast
told_one (Checked freeze (Ok number)) past = record { kept = past.kept; events = past.events ++ Tells number ∷ [] }
told_one entry past = past

abbrev pub told_by : List Entry → DiskPast → DiskPast
told_by [] past = past
told_by (entry ∷ entries) past = told_by entries (told_one entry past)

-- the disk was told to stop at a write to come, where it can be told so, and all else is as it was
abbrev pub armed_with : Bool → ℕ → ℕ → SessionState → SessionState
armed_with can_arm writes pick state =
    record { lives = state.lives; stops = state.stops; disk = stop_armed can_arm writes pick state.disk; standing = state.standing }

-- the life goes on with these entries, so many lasting steps being forced
abbrev pub life_gone_on : SessionState → LastLife → List Entry → ℕ → SessionState
life_gone_on state life entries forced = record {
  lives = state.lives;
  stops = state.stops;
  disk = told_by entries state.disk;
  standing = Up (forced_to forced (longer life entries));
}

-- the life ended with these entries, without a fault
abbrev pub life_ended : SessionState → LastLife → List Entry → ℕ → SessionState
life_ended state life entries forced = record {
  lives = state.lives;
  stops = state.stops;
  disk = told_by entries state.disk;
  standing = Down (record { last = Some (forced_to forced (longer life entries)); emptied = false; stopped = false });
}

-- power failed: the life ended without another entry, and the disk was cut with a pick
abbrev pub powered_off : SessionState → LastLife → ℕ → SessionState
powered_off state life pick = record {
  lives = state.lives;
  stops = state.stops;
  disk = cut_with pick state.disk;
  standing = Down (record { last = Some (longer life []); emptied = false; stopped = false });
}

-- the life goes on with these entries, or ends with them
abbrev pub called_on : Bool → SessionState → LastLife → List Entry → ℕ → SessionState
called_on false state life entries forced = life_gone_on state life entries forced
called_on true state life entries forced = life_ended state life entries forced

-- the disk failed, which ended the life with these entries, so many lasting steps being forced; and was cut with the pick that was kept
abbrev pub broken : SessionState → LastLife → List Entry → ℕ → Stop → SessionState
broken state life entries forced stop = record {
  lives = state.lives;
  stops = state.stops ++ stop ∷ [];
  disk = cut_at_stop state.disk;
  standing = Down (record { last = Some (forced_to forced (longer life entries)); emptied = false; stopped = true });
}

-- a life opened with this state and this checkpoint, so many lasting steps of the one before being kept
abbrev pub life_opened : SessionState → Outage → ℕ → ℕ → LastingState → SessionState
life_opened state outage kept checkpoint opening = record {
  lives = with_life state.lives outage.last kept;
  stops = state.stops;
  disk = state.disk;
  standing = Up (record { opening = opening; checkpoint = checkpoint; history = []; forced = 0 });
}

abbrev pub or_cold : Bool → Bool → Bool
or_cold true emptied = true
or_cold false emptied = emptied

-- the disk failed in an opening, and was cut with the pick that was kept; a cold start may have emptied it
abbrev pub failed : SessionState → Outage → Bool → Stop → SessionState
failed state outage cold stop = record {
  lives = state.lives;
  stops = state.stops ++ stop ∷ [];
  disk = cut_at_stop state.disk;
  standing = Down (record { last = outage.last; emptied = or_cold cold outage.emptied; stopped = true });
}

-- ---- what the disk holds

-- What the last life left, so many of its lasting steps being kept; before the first life what the disk held when it was
-- handed in.
abbrev pub IsStateLeft : Setting → Option LastLife → ℕ → LastingState → Type 0
IsStateLeft setting None kept state = setting.begins state
IsStateLeft setting (Some life) kept state = LifeLeaves setting.system life kept state

-- so many lasting steps of the last life were answered
abbrev pub LastAnswered : System → Option LastLife → ℕ → Type 0
LastAnswered system None count = count ≡ 0
LastAnswered system (Some life) count = HasAnswered system life count

-- so many lasting steps of the last life were forced
abbrev pub last_forced : Option LastLife → ℕ
last_forced None = 0
last_forced (Some life) = life.forced

-- A cold start broke off, and the state is empty. All lasting steps of the last life that were forced count as kept.
pub record IsStateEmptied (system : System) (last : Option LastLife) (emptied : Bool) (kept : ℕ) (state : LastingState) : Type 0 where
  pub broke_off : emptied ≡ true
  pub empty : state ≡ empty_state system
  pub counted : kept ≡ last_forced last

-- What the disk recovers to while the system is down: what was left, or the empty state where a cold start broke off.
abbrev pub MayBeFound : Setting → Outage → ℕ → LastingState → Type 0
MayBeFound setting outage kept state = IsStateLeft setting outage.last kept state ⊎ IsStateEmptied setting.system outage.last outage.emptied kept state

-- What it recovers to: while the system is up, what the life would leave.
abbrev pub MayHold : Setting → Standing → LastingState → Type 0
MayHold setting (Up life) state = (kept : ℕ) × LifeLeaves setting.system life kept state
MayHold setting (Down outage) state = (kept : ℕ) × MayBeFound setting outage kept state

-- The number that the disk's checkpoint isn't below while the system is down: the last one that is known of the last life; before the first
-- life that of the disk handed in.
abbrev pub IsKnown : Setting → Option LastLife → ℕ → Type 0
IsKnown setting None number = setting.numbered number
IsKnown setting (Some life) number = number ≡ last_number life

-- ---- at a session's end

-- the last life, if one has begun
abbrev pub last_life : Standing → Option LastLife
last_life (Up life) = Some life
last_life (Down outage) = outage.last

-- All lives; of the last one all lasting steps that were answered count as kept.
pub record AreAllLives (system : System) (state : SessionState) (lives : List LifeState) : Type 0 where
  pub count : ℕ
  pub answered : LastAnswered system (last_life state.standing) count
  pub are : lives ≡ with_life state.lives (last_life state.standing) count

-- no life has begun yet
abbrev pub HasNoLife : Standing → Type 0
HasNoLife standing = last_life standing ≡ None

-- the disk has failed since a life was opened last
abbrev pub is_session_stopped : Standing → Bool
is_session_stopped (Up life) = false
is_session_stopped (Down outage) = outage.stopped

-- The count rose from the one to the other in these stops alone: the first began with it, and each other where the one before had ended,
-- as nothing fails between. From the beginning of what a stop ended to its end it rose, or stands at the last value that it can have.
abbrev pub AreStops : ℕ → List Stop → ℕ → Type 0
AreStops low [] high = low ≡ high
AreStops low ((began, ended) ∷ stops) high =
    (began ≡ low) × (began ≤ ended) × ((began + 1 ≤ ended) ⊎ (18446744073709551615 ≤ ended)) × AreStops ended stops high
