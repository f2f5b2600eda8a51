-- A session as it runs: where it stands, what it keeps beside, and what holds of these.
use Rattle.std.specs.Prelude.{◌≡◌, ◌⊎◌, ℕ, ◌+◌, ◌-◌, ◌*◌, ◌<◌, ◌≤◌, Bool, true, false, List, length, map, Option, Some, None, Ok, Err, IsTrue, vec_len, vec_capacity}
use Rattle.std.specs.Option.{option_map, is_some}
use Rattle.tm_disk.specs.Disk.{Image, DiskState, IsSameDisk, Only}
use Rattle.model_system.specs.System.{System}
use Rattle.model_machine.specs.Machine.{LastingState, empty_state}
use Rattle.model_image.specs.RecoveredState.{Recovers}
use Rattle.model_image.specs.AlikeImages.{RecoversAlike}
use Rattle.model_session.specs.Lives.{LifeState, LastLife, last_number, AreLegal}
use Rattle.model_session.specs.SessionState.{Setting, Outage, Standing, DiskEvent, SessionState, LastAnswered, MayHold, IsKnown, HasNoLife, AreStops, no_life}
use Rattle.model_session.specs.SessionState.Standing.{Up as StandsUp, Down as StandsDown}
use Rattle.model_session.specs.Session.{OpensFirst}
use Rattle.model_session.specs.declared.asked.ImageRefused.{ImageRefused}
use Rattle.model_session.specs.declared.asked.ImageRefused.TheVariants.{Rule, Text as OtherText, Size}
use Rattle.model_system.specs.Areas.{sectors_needed}
use Rattle.checkpointing.specs.DefinitionText.{HasText, IsNumberedFrom}
use Rattle.checkpointing.specs.Counts.{CountsUpTo}
use Rattle.system_types.specs.ValidSystem.{IsSystem}
use Rattle.openings.specs.declared.refusals.OpenError.{OpenError}
use Rattle.openings.specs.declared.refusals.OpenError.TheVariants.{BadImage, WrongDefinition, TooSmall}
use Rattle.openings.specs.OpenedImage.{SizeFirst, IsOther}
use Rattle.tm_control.specs.ControlOnDisk.{ControlOnDisk}
use Rattle.openings.specs.declared.life.Life.{Life}
use Rattle.session_law.specs.Counts.{LastsUpTo}
use Rattle.session_law.specs.Measures.{call_raises, measure}
use Rattle.session_lives.specs.declared.place.Idle.{Idle}
use Rattle.session_lives.specs.declared.place.Place.{Place}
use Rattle.session_lives.specs.declared.place.Place.TheVariants.{Up, Down, Moved}
use Rattle.session_lives.specs.declared.place.Kept.{Kept}
use Rattle.session_lives.specs.declared.place.Session.{Session}
use Rattle.session_lives.specs.ControlCounts.{CountsUp, force_raises}
use Rattle.session_lives.specs.DiskEvents.{AreEvents}
use Rattle.session_lives.specs.ToldNumbers.{numbers_so_far, told_numbers}

-- ---- as a state

-- a life as it is kept, and as the last one
abbrev pub life_of : Life → LifeState
life_of life = record { opening = life.opening; checkpoint = life.checkpoint; history = life.history; forced = life.forced; kept = life.kept }

abbrev pub last_life_of : Life → LastLife
last_life_of life = record { opening = life.opening; checkpoint = life.checkpoint; history = life.history; forced = life.forced }

abbrev pub last_up : {D : Type 0} → ControlOnDisk D → LastLife
last_up c = record { opening = c.control.opening; checkpoint = c.checkpoint; history = c.control.history; forced = c.forced }

abbrev pub outage_of : {D : Type 0} → Idle D → Outage
outage_of idle = record { last = option_map last_life_of idle.last; emptied = idle.emptied; stopped = idle.stopped }

-- nothing is said of one that is moved out, as it isn't between two blocks
abbrev pub standing_of : {D : Type 0} → Place D → Standing
standing_of (Up control) = StandsUp (last_up control)
standing_of (Down idle) = StandsDown (outage_of idle)
standing_of Moved = StandsDown no_life

-- with whose disk all this was done so far
abbrev pub session_at : {D : Type 0} → List DiskEvent → Place D → Kept → SessionState
session_at events place kept = record { lives = map life_of kept.lives.items; stops = kept.stops.items; disk = record { kept = kept.pick; events = events }; standing = standing_of place }

abbrev pub session_of : {D : Type 0} → List DiskEvent → Session D → SessionState
session_of events session = session_at events session.place session.kept

abbrev pub session_up : {D : Type 0} → ControlOnDisk D → Kept → Session D
session_up control kept = record { place = Up control; kept = kept }

abbrev pub session_down : {D : Type 0} → Idle D → Kept → Session D
session_down idle kept = record { place = Down idle; kept = kept }

abbrev pub IsPlaceUp : {D : Type 0} → Place D → Type 0
IsPlaceUp (Up control) = Unit {0}
IsPlaceUp (Down idle) = ⊥
IsPlaceUp Moved = ⊥

abbrev pub IsPlaceDown : {D : Type 0} → Place D → Type 0
IsPlaceDown (Up control) = ⊥
IsPlaceDown (Down idle) = Unit {0}
IsPlaceDown Moved = ⊥

-- the steps of the last life that were answered, as they are kept
abbrev pub kept_steps : Option Life → ℕ
kept_steps None = 0
kept_steps (Some life) = life.kept

-- ---- what the disk holds

-- An image that recovers as this one does recovers to the state.
pub record IsFoundAs (system : System) (image : Image) (state : LastingState) : Type 0 where
  pub found : Image
  pub alike : RecoversAlike system image found
  pub recovers : Recovers system found (Ok state)

-- why the disk can't be opened, as an opening tells it
abbrev pub error_of : ImageRefused → OpenError
error_of (Rule rule sector) = BadImage rule sector
error_of (OtherText place) = WrongDefinition place
error_of (Size needed has) = TooSmall needed has

-- An image that recovers as this one does breaks the rule.
pub record IsBrokenAs (system : System) (image : Image) (rule sector : ℕ) : Type 0 where
  pub found : Image
  pub alike : RecoversAlike system image found
  pub broken : Recovers system found (Err (rule, sector))

-- The image can't be opened: it breaks a rule, or its text isn't the definition's.
abbrev pub IsRefusedAs : System → List ℕ → Image → ImageRefused → Type 0
IsRefusedAs system source image (Rule rule sector) = IsBrokenAs system image rule sector
IsRefusedAs system source image (OtherText place) = IsOther system source image place
IsRefusedAs system source image (Size needed has) = Unit {0}

-- The disk that was handed in can't be opened: it has too few sectors; or it has enough, and so it is with each image that a crash
-- might have left of it.
pub record IsRefusedFirst {D : Type 0} (state : D → DiskState) (system : System) (source : List ℕ) (handed : D) (refusal : ImageRefused) : Type 0 where
  pub size : SizeFirst system (state handed).size (Err (error_of refusal))
  pub images : (image : Image) → (state handed).may_leave image → IsRefusedAs system source image refusal

-- each image that a crash may leave of the disk is of the definition's text
abbrev pub IsOfDefinition : System → List ℕ → DiskState → Type 0
IsOfDefinition system source disk = (image : Image) → disk.may_leave image → HasText system source image

-- each image that a crash may leave of the disk counts up to a bound
abbrev pub CountsDown : System → ℕ → DiskState → Type 0
CountsDown system high disk = (image : Image) → disk.may_leave image → CountsUpTo system high image

-- The disk tells its contents, and none of its own counters is above a bound.
pub record CountsFirst (system : System) (high : ℕ) (disk : DiskState) : Type 0 where
  pub tells : IsTrue disk.tells
  pub images : CountsDown system high disk

-- each image that a crash may leave of the disk has a checkpoint with this number or a higher one
abbrev pub IsNumberedFirst : System → ℕ → DiskState → Type 0
IsNumberedFirst system number disk = (image : Image) → disk.may_leave image → IsNumberedFrom system number image

-- the setting of a session over the disk that was handed in, whose definition has this text
abbrev pub session_setting : {D : Type 0} → (D → DiskState) → System → List ℕ → D → Setting
session_setting state system source handed = record {
  system = system;
  can_arm = (state handed).can_arm;
  tells = (state handed).tells;
  begins = λ opening. (image : Image) → (state handed).may_leave image → IsFoundAs system image opening;
  right_text = IsOfDefinition system source (state handed);
  refuses = λ refusal. IsRefusedFirst state system source handed refusal;
  counts = λ high. CountsFirst system high (state handed);
  numbered = λ number. IsNumberedFirst system number (state handed);
}

-- The image recovers to a state that the session's standing allows.
pub record Recalls (setting : Setting) (standing : Standing) (image : Image) : Type 0 where
  pub state : LastingState
  pub recovers : Recovers setting.system image (Ok state)
  pub may : MayHold setting standing state

-- No life has begun, and the image recovers as one that was handed in.
pub record IsUnopened {D : Type 0} (state : D → DiskState) (system : System) (handed : D) (standing : Standing) (image : Image) : Type 0 where
  pub no_life : HasNoLife standing
  pub before : Image
  pub left : (state handed).may_leave before
  pub alike : RecoversAlike system before image

abbrev pub HoldsSession : {D : Type 0} → (D → DiskState) → System → List ℕ → D → Standing → Image → Type 0
HoldsSession state system source handed standing image = Recalls (session_setting state system source handed) standing image ⊎ IsUnopened state system handed standing image

-- The image's checkpoint has the last number that is known, or a higher one; but behind a cold start that broke off.
abbrev pub IsNumberedAt : Setting → Standing → Image → Type 0
IsNumberedAt setting (StandsUp life) image = IsNumberedFrom setting.system (last_number life) image
IsNumberedAt setting (StandsDown outage) image =
    (outage.emptied ≡ true) ⊎ ((number : ℕ) → IsKnown setting outage.last number → IsNumberedFrom setting.system number image)

-- an image recovers to a state
pub record RecoversToState (system : System) (image : Image) : Type 0 where
  pub state : LastingState
  pub recovers : Recovers system image (Ok state)

-- The disk can be opened as it is handed in: it tells its contents, and has sectors enough; each image that a crash might have left
-- of it recovers to a state; and where its sector 0 isn't all zeros, its text is the definition's.
pub record IsValidDisk (system : System) (source : List ℕ) (disk : DiskState) : Type 0 where
  pub tells : IsTrue disk.tells
  pub size : sectors_needed system ≤ disk.size
  pub recovers : (image : Image) → disk.may_leave image → RecoversToState system image
  pub texts : (image : Image) → disk.may_leave image → HasText system source image

-- A disk that a life was opened on as it was handed in: it has sectors enough, and where it tells its contents, it could be opened.
pub record IsOpenedDisk (system : System) (source : List ℕ) (disk : DiskState) : Type 0 where
  pub size : sectors_needed system ≤ disk.size
  pub valid : IsTrue disk.tells → IsValidDisk system source disk

-- The disk tells its contents, and as it is handed in no counter of it is above a bound: none of its own, and none of the state that
-- it recovers to.
pub record CountsDisk (system : System) (high : ℕ) (disk : DiskState) : Type 0 where
  pub own : CountsFirst system high disk
  pub states : (state : LastingState) → IsFoundAs system disk.shown state → LastsUpTo high state

-- ---- what is so between two blocks

-- The system is up: there is room for its life, and for its stop.
pub record IsUpReady {D : Type 0} (control : ControlOnDisk D) (kept : Kept) : Type 0 where
  pub up : control.up ≡ true
  pub text : length control.text ≤ 262144
  pub life_room : vec_len kept.lives < vec_capacity kept.lives
  pub stop_room : vec_len kept.stops < vec_capacity kept.stops

abbrev pub HasRoomForLife : Option Life → Kept → Type 0
HasRoomForLife None kept = Unit {0}
HasRoomForLife (Some life) kept = vec_len kept.lives < vec_capacity kept.lives

-- The system is down: the disk is cut, and there is room for the last life.
pub record IsDownReady {D : Type 0} (state : D → DiskState) (idle : Idle D) (kept : Kept) : Type 0 where
  pub text : length idle.text ≤ 262144
  pub only : Only (state idle.disk).shown (state idle.disk)
  pub life_room : HasRoomForLife idle.last kept

abbrev pub IsReadyAt : {D : Type 0} → (D → DiskState) → Place D → Kept → Type 0
IsReadyAt state (Up control) kept = IsUpReady control kept
IsReadyAt state (Down idle) kept = IsDownReady state idle kept
IsReadyAt state Moved kept = ⊥

abbrev pub IsSessionReady : {D : Type 0} → (D → DiskState) → Session D → Type 0
IsSessionReady state session = IsReadyAt state session.place session.kept

-- The system is up. The stops lie behind one another, and before its life, in which the disk hasn't failed. No image counts further than
-- up to where the disk counts that was handed in, and 4,096 more for each opening, entry and stop; and it itself stays below that by as
-- much as a force may add. Just these events happened at the disk since it was handed in, and they tell of the checkpoints that the lives
-- tell of.
pub record IsUpSound {D : Type 0} (state : D → DiskState) (system : System) (source : List ℕ) (handed : D) (events : List DiskEvent) (control : ControlOnDisk D) (kept : Kept) : Type 0 where
  pub handed_alone : Only (state handed).shown (state handed)
  pub system_is : control.control.system ≡ system
  pub text_is : control.text ≡ source
  pub size : sectors_needed system ≤ (state handed).size
  pub same : IsSameDisk (state handed) (state control.disk)
  pub stops : AreStops (state handed).faults kept.stops.items control.began
  pub began : control.began ≡ (state control.disk).faults
  pub legal : AreLegal system (map life_of kept.lives.items)
  pub valid : IsSystem system
  pub counts : (high : ℕ) → CountsFirst system high (state handed) → CountsUp state (high + call_raises * measure (session_at events (Up control) kept) - force_raises) control
  pub happened : AreEvents state system events handed control.disk
  pub told : told_numbers events ≡ numbers_so_far (session_at events (Up control) kept)

-- No life has begun, and the image is one that was handed in.
pub record IsHanded {D : Type 0} (state : D → DiskState) (handed : D) (standing : Standing) (image : Image) : Type 0 where
  pub no_life : HasNoLife standing
  pub left : (state handed).may_leave image

-- an opening of the disk that was handed in may come yet
abbrev pub IsStillFirst : Standing → Type 0
IsStillFirst (StandsUp life) = ⊥
IsStillFirst (StandsDown outage) = OpensFirst false outage

-- a cold start broke off since the last life
abbrev pub is_emptied : Standing → Bool
is_emptied (StandsUp life) = false
is_emptied (StandsDown outage) = outage.emptied

-- A cold start broke off, and the image recovers to the empty state.
pub record IsEmptyImage (system : System) (standing : Standing) (image : Image) : Type 0 where
  pub broke_off : is_emptied standing ≡ true
  pub empty : Recovers system image (Ok (empty_state system))

-- The image is of the definition's text; and while no life has begun, so was the disk that was handed in, or a cold start has
-- emptied it since.
pub record IsRight {D : Type 0} (state : D → DiskState) (system : System) (source : List ℕ) (handed : D) (standing : Standing) (image : Image) : Type 0 where
  pub has_text : HasText system source image
  pub first : IsStillFirst standing → IsOfDefinition system source (state handed) ⊎ IsEmptyImage system standing image

-- The image is of the definition's text; or no life has begun, and it is one that was handed in.
abbrev pub IsOfText : {D : Type 0} → (D → DiskState) → System → List ℕ → D → Standing → Image → Type 0
IsOfText state system source handed standing image = IsRight state system source handed standing image ⊎ IsHanded state handed standing image

-- The system is down, and the disk holds what the outage allows, with a checkpoint of no lower number than is known. Once a life has begun
-- it has sectors enough. It counts no further than up to where it counted when it was handed in, and 4,096 more for each opening, entry and
-- stop. Just these events happened at it since, and they tell of the checkpoints that the lives tell of.
pub record IsDownSound {D : Type 0} (state : D → DiskState) (system : System) (source : List ℕ) (handed : D) (events : List DiskEvent) (idle : Idle D) (kept : Kept) : Type 0 where
  pub handed_alone : Only (state handed).shown (state handed)
  pub system_is : idle.system ≡ system
  pub text_is : idle.text ≡ source
  pub size : is_some idle.last ≡ true → sectors_needed system ≤ (state handed).size
  pub texts : (image : Image) → (state idle.disk).may_leave image → IsOfText state system source handed (StandsDown (outage_of idle)) image
  pub same : IsSameDisk (state handed) (state idle.disk)
  pub stops : AreStops (state handed).faults kept.stops.items (state idle.disk).faults
  pub legal : AreLegal system (map life_of kept.lives.items)
  pub answered : LastAnswered system (option_map last_life_of idle.last) (kept_steps idle.last)
  pub images : (image : Image) → (state idle.disk).may_leave image → HoldsSession state system source handed (StandsDown (outage_of idle)) image
  pub numbered : (image : Image) → (state idle.disk).may_leave image → IsNumberedAt (session_setting state system source handed) (StandsDown (outage_of idle)) image
  pub valid : IsSystem system
  pub counts : (high : ℕ) → CountsFirst system high (state handed) → CountsDown system (high + call_raises * measure (session_at events (Down idle) kept)) (state idle.disk)
  pub happened : AreEvents state system events handed idle.disk
  pub told : told_numbers events ≡ numbers_so_far (session_at events (Down idle) kept)

abbrev pub IsSoundAt : {D : Type 0} → (D → DiskState) → System → List ℕ → D → List DiskEvent → Place D → Kept → Type 0
IsSoundAt state system source handed events (Up control) kept = IsUpSound state system source handed events control kept
IsSoundAt state system source handed events (Down idle) kept = IsDownSound state system source handed events idle kept
IsSoundAt state system source handed events Moved kept = ⊥

abbrev pub IsSessionSound : {D : Type 0} → (D → DiskState) → System → List ℕ → D → List DiskEvent → Session D → Type 0
IsSessionSound state system source handed events session = IsSoundAt state system source handed events session.place session.kept

-- a relation of two states of a session, over its setting
abbrev pub Course : Type 1
Course = Setting → SessionState → SessionState → Type 0

-- Whatever disk was handed in, and whatever was done with it before: it leads on by this relation, and what is so between two
-- blocks is so again.
pub record LeadsBy {D : Type 0} (state : D → DiskState) (by : Course) (system : System) (source : List ℕ) (handed : D) (events : List DiskEvent) (old new : Session D) : Type 0 where
  pub events_now : List DiskEvent
  pub goes : by (session_setting state system source handed) (session_of events old) (session_of events_now new)
  pub sound : IsSessionSound state system source handed events_now new

abbrev pub Leads : {D : Type 0} → (D → DiskState) → Course → Session D → Session D → Type 0
Leads {D} state by old new =
    (system : System) → (source : List ℕ) → (handed : D) → (events : List DiskEvent) → IsSessionSound state system source handed events old → LeadsBy state by system source handed events old new
