-- Openings, the ends of lives, and what serving a block comes to.
use Rattle.std.specs.Prelude.{◌≡◌, ℕ, ◌+◌, ◌-◌, ◌<◌, ◌≤◌, max, ◌++◌, Bool, true, false, if◌then◌else◌, List, [], ◌∷◌, length, Option, Some, None, IsTrue, vec_len, vec_capacity}
use Rattle.std.specs.Option.{is_some}
use Rattle.tm_disk.specs.Disk.{DiskState, IsSameDisk, Stays, FailedSince, Within, NoMore, Only, IsCut}
use Rattle.model_system.specs.System.{System}
use Rattle.model_session.specs.declared.asked.Asked.{Asked}
use Rattle.model_session.specs.declared.asked.Asked.TheVariants.{Power as AskedPower, PowerIn, Restart, ColdStart}
use Rattle.model_session.specs.Blocks.{Block}
use Rattle.model_session.specs.Lines.{asked_of}
use Rattle.model_session.specs.declared.asked.ImageRefused.{ImageRefused}
use Rattle.model_session.specs.declared.asked.ImageRefused.TheVariants.{Rule, Text, Size}
use Rattle.model_session.specs.Text.{broken_text, opened_text, image_text}
use Rattle.model_machine.specs.declared.counts.Counter.{Counter}
use Rattle.model_session.specs.SessionState.{Setting, Standing, SessionState, or_cold}
use Rattle.model_session.specs.SessionState.Standing.{Up as StandsUp, Down as StandsDown}
use Rattle.model_session.specs.Session.{IsBlockServed, IsBegunBy}
use Rattle.checkpointing.specs.Counts.{CountsUpTo, RaisesCounts}
use Rattle.disk_law.specs.UnitCounts.{StandsUpTo}
use Rattle.disk_law.specs.JournalState.{JournalState}
use Rattle.openings.specs.declared.how.How.{How}
use Rattle.openings.specs.declared.how.How.TheVariants.{Found, Cold}
use Rattle.openings.specs.declared.refusals.OpenError.{OpenError}
use Rattle.openings.specs.declared.refusals.OpenError.TheVariants.{BadImage, WrongDefinition, TooSmall, Spent as SpentCounter, Disk, Memory as NoMemory}
use Rattle.tm_control.specs.ControlOnDisk.{ControlOnDisk, Lasts}
use Rattle.openings.specs.OpenedImage.{WroteNothing}
use Rattle.tm_control.specs.ClosedControl.{OpensControl, Closes}
use Rattle.tm_control.specs.ControlCalls.{StaysSo}
use Rattle.openings.specs.LifeBeginning.{Refuses}
use Rattle.openings.specs.LifeBeginning.{HandsBack}
use Rattle.openings.specs.declared.life.Life.{Life}
use Rattle.session_lives.specs.declared.called.Called.{Called}
use Rattle.session_lives.specs.declared.called.Called.TheVariants.{Answered, Frozen, Power, Broke as CallBroke, Memory as CallMemory, Spent as CallSpent}
use Rattle.session_lives.specs.declared.called.Served.{Served}
use Rattle.session_lives.specs.declared.called.Served.TheVariants.{Printed, Broke, Undone as NotServed}
use Rattle.session_lives.specs.declared.called.Undone.{Undone}
use Rattle.session_lives.specs.declared.called.Undone.TheVariants.{Memory, Spent, Image}
use Rattle.session_lives.specs.declared.called.Opening.{Opening}
use Rattle.session_lives.specs.declared.called.Opening.TheVariants.{Opened, Broke as OpeningBroke, Refused, Memory as OpeningMemory, Spent as OpeningSpent}
use Rattle.session_lives.specs.declared.place.Idle.{Idle}
use Rattle.session_lives.specs.declared.place.Place.{Place}
use Rattle.session_lives.specs.declared.place.Place.TheVariants.{Up, Down, Moved}
use Rattle.session_lives.specs.declared.place.Kept.{Kept}
use Rattle.session_lives.specs.declared.place.Session.{Session}
use Rattle.session_law.specs.SpentCounters.{IsSpentAt}
use Rattle.session_lives.specs.RunningSession.{IsDownReady, error_of}
use Rattle.session_lives.specs.AskedControl.{AskedFails, Freezes, LooksAtCounters}

-- ---- the end of a life

-- What a disk that is laid down keeps: a crash leaves nothing more.
pub record IsLaidDown (old new : DiskState) : Type 0 where
  pub same : IsSameDisk old new
  pub no_more : NoMore old new
  pub faults : new.faults ≡ old.faults

-- A life ended, and the disk was cut, but behind a freeze. Where the disk had failed that is a stop.
pub record GoesDown {D : Type 0} (state : D → DiskState) (control : ControlOnDisk D) (old new : Kept) (stopped : Bool) (idle : Idle D) : Type 0 where
  pub disk : D
  pub life : Life
  pub closes : Closes control disk life idle.system idle.text control.began
  pub lasts : Lasts state control
  pub last : idle.last ≡ Some life
  pub emptied : idle.emptied ≡ false
  pub stopped_is : idle.stopped ≡ stopped
  pub laid : IsLaidDown (state disk) (state idle.disk)
  pub lives : new.lives ≡ old.lives
  pub stops : new.stops.items ≡ old.stops.items ++ (if stopped then (control.began, (state disk).faults) ∷ [] else [])

-- ---- an opening

abbrev pub how_of : Bool → How
how_of true = Cold
how_of false = Found

-- The last life as it is kept once another opens, with so many steps: behind a cold start all that were answered count; else
-- all that are found, and no less than were forced, also where a cold start that broke off has left nothing.
abbrev pub life_kept_by : Bool → Life → ℕ → Life
life_kept_by true life steps = life
life_kept_by false life steps = record life { kept = max life.forced (steps - life.opening.steps) }

abbrev pub with_last_life : List Life → Option Life → Bool → ℕ → List Life
with_last_life lives None cold steps = lives
with_last_life lives (Some life) cold steps = lives ++ life_kept_by cold life steps ∷ []

-- What a life counts on begins one above what the image counts up to that is found, and one above nothing in a cold start.
abbrev pub StandsAbove : How → System → DiskState → JournalState → ℕ → Type 0
StandsAbove how system disk journal next = (high : ℕ) → (how ≡ Found → IsTrue disk.tells) → (how ≡ Found → CountsUpTo system high disk.shown) → StandsUpTo (high + 1) journal next

-- A life opened, and the last one is kept. No counter of what a crash leaves has come more than one further.
pub record HasOpened {D : Type 0} (state : D → DiskState) (idle : Idle D) (old : Kept) (cold : Bool) (session : Session D) : Type 0 where
  pub control : ControlOnDisk D
  pub place : session.place ≡ Up control
  pub opens : OpensControl state (how_of cold) idle.system idle.text idle.disk control
  pub lasts : Lasts state control
  pub counts : Within (RaisesCounts 1 idle.system) (state idle.disk) (state control.disk)
  pub stands : StandsAbove (how_of cold) idle.system (state idle.disk) control.journal control.next_unit
  pub lives : session.kept.lives.items ≡ with_last_life old.lives.items idle.last cold control.control.opening.steps
  pub stops : session.kept.stops.items ≡ old.stops.items
  pub pick : session.kept.pick ≡ old.pick

-- The system is down as it was, and nothing was written.
pub record StaysIdle {D : Type 0} (state : D → DiskState) (idle : Idle D) (old : Kept) (session : Session D) : Type 0 where
  pub after : Idle D
  pub place : session.place ≡ Down after
  pub system_is : after.system ≡ idle.system
  pub text_is : after.text ≡ idle.text
  pub last : after.last ≡ idle.last
  pub emptied : after.emptied ≡ idle.emptied
  pub stopped : after.stopped ≡ idle.stopped
  pub wrote : WroteNothing (state idle.disk) (state after.disk)
  pub lives : session.kept.lives.items ≡ old.lives.items
  pub stops : session.kept.stops.items ≡ old.stops.items
  pub pick : session.kept.pick ≡ old.pick

-- The disk failed in the opening, which is a stop; it was cut with the pick that was kept for it. No counter of what a crash leaves has come more than one further.
pub record HasFailed {D : Type 0} (state : D → DiskState) (idle : Idle D) (old : Kept) (cold : Bool) (session : Session D) : Type 0 where
  pub after : Idle D
  pub place : session.place ≡ Down after
  pub disk : D
  pub back : HandsBack state (how_of cold) idle.system idle.text idle.disk Disk disk after.system after.text
  pub counts : Within (RaisesCounts 1 idle.system) (state idle.disk) (state disk)
  pub cut : IsCut old.pick (state disk) (state after.disk)
  pub last : after.last ≡ idle.last
  pub emptied : after.emptied ≡ or_cold cold idle.emptied
  pub stopped : after.stopped ≡ true
  pub lives : session.kept.lives.items ≡ old.lives.items
  pub stops : session.kept.stops.items ≡ old.stops.items ++ ((state idle.disk).faults, (state disk).faults) ∷ []
  pub pick : session.kept.pick ≡ 0

-- how an opening went by its refusal
abbrev pub opening_by : OpenError → Opening
opening_by Disk = OpeningBroke
opening_by (BadImage rule sector) = Refused (Rule rule sector)
opening_by (WrongDefinition place) = Refused (Text place)
opening_by (TooSmall needed has) = Refused (Size needed has)
opening_by (SpentCounter counter) = OpeningSpent
opening_by NoMemory = OpeningMemory

abbrev pub is_disk : OpenError → Bool
is_disk Disk = true
is_disk (BadImage rule sector) = false
is_disk (WrongDefinition place) = false
is_disk (TooSmall needed has) = false
is_disk (SpentCounter counter) = false
is_disk NoMemory = false

-- The disk failed in an opening that began with so many faults, and it was cut with the pick that was kept for it.
pub record IsCutDown {D : Type 0} (state : D → DiskState) (disk : D) (system : System) (text : List ℕ) (last : Option Life) (emptied cold : Bool) (began : ℕ) (old : Kept) (session : Session D) : Type 0 where
  pub after : Idle D
  pub place : session.place ≡ Down after
  pub system_is : after.system ≡ system
  pub text_is : after.text ≡ text
  pub last_is : after.last ≡ last
  pub emptied_is : after.emptied ≡ or_cold cold emptied
  pub stopped_is : after.stopped ≡ true
  pub cut : IsCut old.pick (state disk) (state after.disk)
  pub lives : session.kept.lives.items ≡ old.lives.items
  pub stops : session.kept.stops.items ≡ old.stops.items ++ (began, (state disk).faults) ∷ []
  pub pick : session.kept.pick ≡ 0

-- The system is down with all that was handed back.
pub record IsHandedBack {D : Type 0} (disk : D) (system : System) (text : List ℕ) (last : Option Life) (emptied stopped : Bool) (old : Kept) (session : Session D) : Type 0 where
  pub after : Idle D
  pub place : session.place ≡ Down after
  pub disk_is : after.disk ≡ disk
  pub system_is : after.system ≡ system
  pub text_is : after.text ≡ text
  pub last_is : after.last ≡ last
  pub emptied_is : after.emptied ≡ emptied
  pub stopped_is : after.stopped ≡ stopped
  pub kept_is : session.kept ≡ old

abbrev pub IsRefusedSo : {D : Type 0} → (D → DiskState) → D → System → List ℕ → Option Life → Bool → Bool → Bool → ℕ → Kept → Opening → Session D → Type 0
IsRefusedSo state disk system text last emptied stopped cold began old OpeningBroke session = IsCutDown state disk system text last emptied cold began old session
IsRefusedSo state disk system text last emptied stopped cold began old (Refused refusal) session = IsHandedBack disk system text last emptied stopped old session
IsRefusedSo state disk system text last emptied stopped cold began old OpeningMemory session = IsHandedBack disk system text last emptied stopped old session
IsRefusedSo state disk system text last emptied stopped cold began old OpeningSpent session = IsHandedBack disk system text last emptied stopped old session
IsRefusedSo state disk system text last emptied stopped cold began old Opened session = ⊥

-- a counter is spent
pub record RefusesSpent {D : Type 0} (state : D → DiskState) (idle : Idle D) (cold : Bool) : Type 0 where
  pub counter : Counter
  pub refuses : Refuses (how_of cold) idle.system idle.text (state idle.disk) (SpentCounter counter)

-- how an opening went
abbrev pub HasGone : {D : Type 0} → (D → DiskState) → Idle D → Kept → Bool → Session D → Opening → Type 0
HasGone state idle old cold session Opened = HasOpened state idle old cold session
HasGone state idle old cold session OpeningBroke = HasFailed state idle old cold session
HasGone state idle old cold session (Refused refusal) =
    StaysIdle state idle old session × Refuses (how_of cold) idle.system idle.text (state idle.disk) (error_of refusal)
HasGone state idle old cold session OpeningMemory = StaysIdle state idle old session
HasGone state idle old cold session OpeningSpent = StaysIdle state idle old session × RefusesSpent state idle cold

-- ---- how a call was settled

-- A life that is up may end: there is room for it, and for its stop.
pub record IsEndable {D : Type 0} (control : ControlOnDisk D) (kept : Kept) : Type 0 where
  pub text : length control.text ≤ 262144
  pub life_room : vec_len kept.lives < vec_capacity kept.lives
  pub stop_room : vec_len kept.stops < vec_capacity kept.stops

abbrev pub MayEndAt : {D : Type 0} → Place D → Kept → Type 0
MayEndAt (Up control) kept = IsEndable control kept
MayEndAt (Down idle) kept = ⊥
MayEndAt Moved kept = ⊥

abbrev pub MayEnd : {D : Type 0} → Session D → Type 0
MayEnd session = MayEndAt session.place session.kept

-- What becomes of the disk where a life ends: it is cut with a pick; or, behind a freeze, it stays as it is.
abbrev pub IsLeftBy : {D : Type 0} → (D → DiskState) → Option ℕ → D → D → Type 0
IsLeftBy state None old new = new ≡ old
IsLeftBy state (Some pick) old new = IsCut pick (state old) (state new)

-- a cut takes with it the pick that was kept for a stop
abbrev pub pick_left : Option ℕ → ℕ → ℕ
pick_left None picked = picked
pick_left (Some pick) picked = 0

-- The life has ended, and the system is down.
pub record HasEndedLife {D : Type 0} (state : D → DiskState) (control : ControlOnDisk D) (old : Kept) (cut : Option ℕ) (stopped : Bool) (session : Session D) : Type 0 where
  pub idle : Idle D
  pub place : session.place ≡ Down idle
  pub disk : IsLeftBy state cut control.disk idle.disk
  pub pick : session.kept.pick ≡ pick_left cut old.pick
  pub down : GoesDown state control old session.kept stopped idle
  pub ready : IsDownReady state idle session.kept

-- so has the one that was up
abbrev pub EndsAt : {D : Type 0} → (D → DiskState) → Option ℕ → Bool → Place D → Kept → Session D → Type 0
EndsAt state cut stopped (Up control) old session = HasEndedLife state control old cut stopped session
EndsAt state cut stopped (Down idle) old session = ⊥
EndsAt state cut stopped Moved old session = ⊥

abbrev pub EndsLife : {D : Type 0} → (D → DiskState) → Option ℕ → Bool → Session D → Session D → Type 0
EndsLife state cut stopped old new = EndsAt state cut stopped old.place old.kept new

-- behind a freeze a crash leaves the shown disk alone
abbrev pub IsAloneBy : {D : Type 0} → (D → DiskState) → ControlOnDisk D → Called → Type 0
IsAloneBy state control Frozen = Only (state control.disk).shown (state control.disk)
IsAloneBy state control _ = Unit {0}

abbrev pub IsAloneAt : {D : Type 0} → (D → DiskState) → Place D → Called → Type 0
IsAloneAt state (Up control) called = IsAloneBy state control called
IsAloneAt state (Down idle) called = ⊥
IsAloneAt state Moved called = ⊥

-- the life goes on, and all is as it was; or it has ended
abbrev pub IsCallSettled : {D : Type 0} → (D → DiskState) → Session D → Called → Session D → Served → Type 0
IsCallSettled state old Answered new served = (new ≡ old) × (served ≡ Printed)
IsCallSettled state old Frozen new served = EndsLife state None false old new × (served ≡ Printed)
IsCallSettled state old (Power pick) new served = EndsLife state (Some pick) false old new × (served ≡ Printed)
IsCallSettled state old CallBroke new served = EndsLife state (Some old.kept.pick) true old new × (served ≡ Broke)
IsCallSettled state old CallMemory new served = (new ≡ old) × (served ≡ NotServed Memory)
IsCallSettled state old CallSpent new served = (new ≡ old) × (served ≡ NotServed Spent)

-- ---- a block

abbrev pub MayRefuseAt : Setting → Standing → ImageRefused → Type 0
MayRefuseAt setting (StandsUp life) refusal = ⊥
MayRefuseAt setting (StandsDown outage) refusal = (outage.last ≡ None) × setting.refuses refusal

-- A restart looks at the image, and a cold start at the size alone. No other block opens the disk.
abbrev pub IsLookedAt : Asked → ImageRefused → Type 0
IsLookedAt Restart refusal = Unit {0}
IsLookedAt ColdStart (Size needed has) = Unit {0}
IsLookedAt ColdStart (Rule rule sector) = ⊥
IsLookedAt ColdStart (Text place) = ⊥
IsLookedAt _ refusal = ⊥

-- Counters are looked at by what a block asks of a control region that is up; and while the system is down by a restart alone.
abbrev pub CountsOn : Standing → Asked → Type 0
CountsOn (StandsUp life) asked = LooksAtCounters asked
CountsOn (StandsDown outage) Restart = Unit {0}
CountsOn (StandsDown outage) _ = ⊥

-- Why a block was not served: for want of memory; since a counter is spent; or since the disk can't be opened, which ends a session
-- in which no life has begun. A block that looks at neither counters nor the disk is served, but for want of memory.
abbrev pub UndoneBy : Undone → Asked → Setting → SessionState → Type 0
UndoneBy (Image refusal) asked setting new = MayRefuseAt setting new.standing refusal × IsLookedAt asked refusal
UndoneBy Memory asked setting new = Unit {0}
UndoneBy Spent asked setting new = IsSpentAt setting.counts setting new × CountsOn new.standing asked

-- What a block comes to: it was served, with the text that was printed, or that of a stop; or it was not, and only turns of a
-- QUIET may stand of it.
abbrev pub IsServedSo : Asked → List ℕ → Served → Setting → SessionState → SessionState → Type 0
IsServedSo asked text Printed setting old new = IsBlockServed asked setting old new text
IsServedSo asked text Broke setting old new = IsBlockServed asked setting old new broken_text
IsServedSo asked text (NotServed undone) setting old new = IsBegunBy asked setting.system old old.standing new × UndoneBy undone asked setting new

-- ---- what the disk is cut with

-- The disk failed in a call, and is cut as the call has left it.
pub record IsCutBehind {D : Type 0} (state : D → DiskState) (asked : Asked) (pick : ℕ) (control : ControlOnDisk D) (idle : Idle D) : Type 0 where
  pub behind : ControlOnDisk D
  pub fails : AskedFails state asked control behind
  pub stays : StaysSo state control behind
  pub cut : IsCut pick (state behind.disk) (state idle.disk)

-- A freeze was answered, and the disk is laid down as the call has left it.
pub record IsLaidBehind {D : Type 0} (state : D → DiskState) (asked : Asked) (control : ControlOnDisk D) (idle : Idle D) : Type 0 where
  pub behind : ControlOnDisk D
  pub text : List ℕ
  pub freezes : Freezes state asked control behind text
  pub stays : StaysSo state control behind
  pub same : idle.disk ≡ behind.disk

-- a life ends without a fault by POWER, which leaves of the disk what its pick chooses of it as it stood; or by a freeze
abbrev pub LeavesOff : {D : Type 0} → (D → DiskState) → Asked → ControlOnDisk D → Idle D → Type 0
LeavesOff state (AskedPower pick) control idle = IsCut pick (state control.disk) (state idle.disk)
LeavesOff state asked control idle = IsLaidBehind state asked control idle

-- with POWER it doesn't go on
abbrev pub MayGoOn : Asked → Type 0
MayGoOn (AskedPower pick) = ⊥
MayGoOn _ = Unit {0}

-- What a block cuts the disk with while the system is up; this pick was kept for a stop.
abbrev pub CutsUp : {D : Type 0} → (D → DiskState) → Asked → ℕ → ControlOnDisk D → Served → Place D → Type 0
CutsUp state asked picked control Printed (Up after) = MayGoOn asked
CutsUp state asked picked control Printed (Down idle) = LeavesOff state asked control idle
CutsUp state asked picked control Printed Moved = ⊥
CutsUp state asked picked control Broke (Up after) = ⊥
CutsUp state asked picked control Broke (Down idle) = IsCutBehind state asked picked control idle
CutsUp state asked picked control Broke Moved = ⊥
CutsUp state asked picked control (NotServed undone) new = Unit {0}

-- The disk failed in an opening, and is cut as that has left it.
pub record IsCutOpening {D : Type 0} (state : D → DiskState) (pick : ℕ) (idle after : Idle D) : Type 0 where
  pub disk : D
  pub stays : Stays (state idle.disk) (state disk)
  pub failed : FailedSince (state idle.disk) (state disk)
  pub cut : IsCut pick (state disk) (state after.disk)

-- so it is while the system is down
abbrev pub CutsDown : {D : Type 0} → (D → DiskState) → ℕ → Idle D → Served → Place D → Type 0
CutsDown state picked idle Printed new = Unit {0}
CutsDown state picked idle Broke (Up after) = ⊥
CutsDown state picked idle Broke (Down after) = IsCutOpening state picked idle after
CutsDown state picked idle Broke Moved = ⊥
CutsDown state picked idle (NotServed undone) new = Unit {0}

abbrev pub CutsAt : {D : Type 0} → (D → DiskState) → Block → Place D → ℕ → Served → Place D → Type 0
CutsAt state block (Up control) picked served new = CutsUp state (asked_of control.control.system block) picked control served new
CutsAt state block (Down idle) picked served new = CutsDown state picked idle served new
CutsAt state block Moved picked served new = ⊥

-- The pick that a stop is cut with, behind a block: that of the last POWER IN which armed the disk. A cut takes it.
abbrev pub pick_up : Served → Asked → Bool → ℕ → ℕ
pick_up Broke asked can_arm picked = 0
pick_up Printed (AskedPower pick) can_arm picked = 0
pick_up Printed (PowerIn writes pick) can_arm picked = if can_arm then pick else picked
pick_up _ asked can_arm picked = picked

-- a block that is served while the system is down arms nothing
abbrev pub pick_down : Served → ℕ → ℕ
pick_down Broke picked = 0
pick_down _ picked = picked

abbrev pub PicksAt : {D : Type 0} → (D → DiskState) → Block → Place D → Served → ℕ → ℕ → Type 0
PicksAt state block (Up control) served old new = new ≡ pick_up served (asked_of control.control.system block) (state control.disk).can_arm old
PicksAt state block (Down idle) served old new = new ≡ pick_down served old
PicksAt state block Moved served old new = ⊥

-- a block that asks for a restart, and for a cold start or not
abbrev pub asked_restart : Asked → Option Bool
asked_restart Restart = Some false
asked_restart ColdStart = Some true
asked_restart _ = None

-- what is printed for an opening, and how its block is served; of a session in which a life has begun, or none
abbrev pub IsRefusalTold : Bool → ImageRefused → List ℕ → Served → Type 0
IsRefusalTold true refusal text served = (served ≡ Printed) × (text ≡ image_text refusal)
IsRefusalTold false refusal text served = served ≡ NotServed (Image refusal)

abbrev pub IsOpeningTold : Bool → Bool → Opening → List ℕ → Served → Type 0
IsOpeningTold cold begun Opened text served = (served ≡ Printed) × (text ≡ opened_text cold)
IsOpeningTold cold begun OpeningBroke text served = served ≡ Broke
IsOpeningTold cold begun (Refused refusal) text served = IsRefusalTold begun refusal text served
IsOpeningTold cold begun OpeningMemory text served = served ≡ NotServed Memory
IsOpeningTold cold begun OpeningSpent text served = served ≡ NotServed Spent

-- a restart was served so
pub record IsRestartedSo {D : Type 0} (state : D → DiskState) (idle : Idle D) (old : Kept) (cold : Bool) (session : Session D) (text : List ℕ) (served : Served) : Type 0 where
  pub opening : Opening
  pub gone : HasGone state idle old cold session opening
  pub told : IsOpeningTold cold (is_some idle.last) opening text served
