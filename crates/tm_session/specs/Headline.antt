-- What a whole session comes to.
use Rattle.std.specs.Prelude.{◌≡◌, ◌≢◌, ◌⊎◌, ℕ, ◌≤◌, true, Option, IfSome, Ok, Err, List, [], ◌++◌, length, map, IsTrue}
use Rattle.std.specs.Option.{is_some}
use Rattle.std.specs.List.{AllByRecursion}
use Rattle.tm_disk.specs.Disk.{Image, DiskState, IsSameDisk}
use Rattle.model_system.specs.System.{System}
use Rattle.system_types.specs.ValidSystem.{IsSystem}
use Rattle.model_machine.specs.Machine.{LastingState}
use Rattle.model_image.specs.RecoveredState.{Recovers}
use Rattle.model_session.specs.declared.asked.Asked.TheVariants.{ColdStart}
use Rattle.model_session.specs.Blocks.{Block}
use Rattle.model_session.specs.Lines.{asked_of}
use Rattle.model_session.specs.Lives.{LifeState, AreLegal, now_in}
use Rattle.model_session.specs.SessionState.{SessionState, Standing, Stop, AreAllLives, AreStops, last_life}
use Rattle.model_session.specs.SessionState.Standing.{Up, Down}
use Rattle.model_session.specs.Session.{BeginsSession, AreServed}
use Rattle.session_law.specs.SentAgain.{AreBound}
use Rattle.tm_edge.specs.Lines.{lines_of}
use Rattle.openings.specs.declared.how.How.TheVariants.{Found}
use Rattle.model_machine.specs.declared.counts.Counter.{Counter}
use Rattle.openings.specs.declared.refusals.OpenError.TheVariants.{Spent as SpentCounter}
use Rattle.openings.specs.OpenedImage.{WroteNothing}
use Rattle.openings.specs.LifeBeginning.{Refuses}
use Rattle.openings.specs.declared.life.Life.{Life}
use Rattle.tm_session.specs.declared.outcome.Ended.{Ended}
use Rattle.tm_session.specs.declared.outcome.Ended.TheVariants.{Done, BadLine, BadCross, Read, Memory, Limit, Image as BadImage, Spent}
use Rattle.sysdef_text.specs.DefinitionEnd.{definition_lines}
use Rattle.tm_session.specs.DefinedSystem.{judged_definition, text_of_definition}
use Rattle.tm_session.specs.ReadDefinition.{IsCutShort}
use Rattle.tm_session.specs.Outcome.{ending_of, HasWrittenText, IsLeftBehind, UndoneAs, IsBy}
use Rattle.tm_session.specs.ReadSources.{HasReadTold}
use Rattle.tm_session.specs.Outcome.Ending.{NotBegun}
use Rattle.session_lives.specs.RunningSession.{life_of, session_setting, HoldsSession, IsNumberedAt, error_of, IsFoundAs, IsOfDefinition, IsValidDisk as IsValid, IsOpenedDisk as IsOpened}
use Rattle.session_lives.specs.ClosedSession.{HasSectors}
use Rattle.session_lives.specs.DiskEvents.{AreEvents}
use Rattle.session_lives.specs.ToldNumbers.{numbers_told, told_numbers}
pub use Rattle.session_lives.specs.RunningSession.{CountsDisk}

-- the disk has sectors enough, and could be opened where it tells its contents
abbrev pub IsDiskOpened : System → List ℕ → DiskState → Type 0
IsDiskOpened system text disk = IsOpened system text disk

-- where a life began with what was handed in
abbrev pub IsOpenedBy : Standing → System → List ℕ → DiskState → Type 0
IsOpenedBy (Up life) system text disk = IsDiskOpened system text disk
IsOpenedBy (Down outage) system text disk = Unit {0}

-- An image that recovers as this one does recovers to a state.
pub record HasState (system : System) (image : Image) : Type 0 where
  pub state : LastingState
  pub found : IsFoundAs system image state

-- A disk that the first life began with, in whichever opening: it has sectors enough; and where it tells its contents, each image that
-- a crash might have left of it is of the definition's text, and has a state.
pub record IsFoundDisk (system : System) (text : List ℕ) (disk : DiskState) : Type 0 where
  pub size : HasSectors system disk
  pub right_text : IsTrue disk.tells → IsOfDefinition system text disk
  pub states : IsTrue disk.tells → (image : Image) → disk.may_leave image → HasState system image

-- none of these blocks asks for a cold start
abbrev pub AskNoColdStart : System → List Block → Type 0
AskNoColdStart system blocks = AllByRecursion (λ (block : Block). asked_of system block ≢ ColdStart) blocks

-- While the system is up behind the source's end, the image recovers to all that the last life has come to.
abbrev pub IsWhole : Ended → System → Standing → Image → Type 0
IsWhole Done system (Up life) image = Recovers system image (Ok (now_in system life).lasting)
IsWhole ended system standing image = Unit {0}

-- A session of the system over the disk that was handed in. It begins with an opening of the disk, which could be opened where
-- a life began so. Once a life has begun the disk has sectors enough, and where no cold start was asked for, the first life began with
-- what the disk held, whatever openings had failed before. The disk that is handed back is the one that was handed in: its size, whether
-- it tells its contents and whether it can be armed are the same, and its counts haven't fallen. It was told just what the session asks for,
-- in its order: to stop at a write to come, or to be cut with a pick; and between, a stop to come got nearer by just the writes that were
-- made. In the same order stands each checkpoint that is told: where the disk tells its contents, it showed its number before the next
-- stop was asked for and before the next cut. These numbers are those that the lives tell of. Blocks of lines were
-- served, each the source's next one. What is printed for them was written, and where the source was read to its end what is printed for
-- that: all that lasts is forced then, or the disk fails. Nothing else was written. They led through the lives and the stops that are
-- told. In each life all lasting steps up to an entry whose text binds were forced; but where the disk failed in the force behind it,
-- which ended the life. Each image that a crash of the disk may leave as it is handed back recovers to what the session's standing
-- allows: the state after a front of the last life's lasting steps that has all that were forced; and behind the source's end, while the
-- system is up, after all of them. Its checkpoint has the last number that is known, or a higher one. Where a block could not be served
-- since a counter is spent, or since the disk can't be opened, that has its cause. No more than a million blocks were served.
pub record HasLived {D : Type 0} (state : D → DiskState) (system : System) (source : List ℕ) (told told' old new : Option (List ℕ)) (handed disk : D) (ended : Ended) (lives : List LifeState) (stops : List Stop) : Type 0 where
  pub blocks : List Block
  pub others : List Block
  pub valid : IsSystem system
  pub few : length blocks ≤ 1000000
  pub first : SessionState
  pub mid : SessionState
  pub last : SessionState
  pub text : List ℕ
  pub end_text : List ℕ
  pub begun : ending_of ended ≢ NotBegun
  pub begins : BeginsSession (session_setting state system source handed) first
  pub opened : IsOpenedBy first.standing system source (state handed)
  pub enough : is_some (last_life last.standing) ≡ true → HasSectors system (state handed)
  pub found : is_some (last_life last.standing) ≡ true → AskNoColdStart system blocks → IsFoundDisk system source (state handed)
  pub session : AreServed (session_setting state system source handed) blocks first mid text
  pub behind : IsLeftBehind ended system others mid last end_text
  pub undone : UndoneAs ended others (session_setting state system source handed) last
  pub read : HasReadTold told told' blocks others ended
  pub written : HasWrittenText old new (text ++ end_text) ended
  pub lives_are : AreAllLives system last lives
  pub legal : AreLegal system lives
  pub bound : AreBound system lives
  pub stops_are : stops ≡ last.stops
  pub same : IsSameDisk (state handed) (state disk)
  pub happened : AreEvents state system last.disk.events handed disk
  pub told_as : told_numbers last.disk.events ≡ numbers_told lives
  pub counted : AreStops (state handed).faults stops (state disk).faults
  pub images : (image : Image) → (state disk).may_leave image → HoldsSession state system source handed last.standing image
  pub whole : (image : Image) → (state disk).may_leave image → IsWhole ended system last.standing image
  pub numbered : (image : Image) → (state disk).may_leave image → IsNumberedAt (session_setting state system source handed) last.standing image
  pub by : IsBy ended last.standing

-- the disk that is handed in can be opened for the system, whose definition has this text
abbrev pub IsDiskValid : System → List ℕ → DiskState → Type 0
IsDiskValid system text disk = IsValid system text disk

-- the source's definition defines this system; it breaks a rule
abbrev pub Defines : List ℕ → System → Type 0
Defines bytes system = judged_definition (definition_lines (lines_of bytes)) ≡ Ok system

abbrev pub BreaksRule : List ℕ → Ended → Type 0
BreaksRule bytes ended = judged_definition (definition_lines (lines_of bytes)) ≡ Err ended

-- it does so, and was read to its end: none of its lines is too long
pub record IsDefinitionBroken (bytes : List ℕ) (ended : Ended) : Type 0 where
  pub broken : BreaksRule bytes ended
  pub within : ¬ IsCutShort bytes

-- how a run ends before its disk is looked at: the definition breaks a rule, or wasn't read to its end, or memory
-- was wanting
abbrev pub IsUnbegun : Option (List ℕ) → Ended → Type 0
IsUnbegun told (BadLine line rule) = IfSome told (λ bytes. IsDefinitionBroken bytes (BadLine line rule))
IsUnbegun told (BadCross line rule) = IfSome told (λ bytes. IsDefinitionBroken bytes (BadCross line rule))
IsUnbegun told (Limit n) = (n ≡ 4097) × IfSome told IsCutShort
IsUnbegun told Read = Unit {0}
IsUnbegun told Memory = Unit {0}
IsUnbegun told _ = ⊥

pub record HasNotBegun {D : Type 0} (told : Option (List ℕ)) (handed disk : D) (ended : Ended) : Type 0 where
  pub unbegun : IsUnbegun told ended
  pub same : disk ≡ handed

-- a counter of the disk that was handed in is spent
pub record IsSpentDisk (system : System) (text : List ℕ) (disk : DiskState) : Type 0 where
  pub counter : Counter
  pub refuses : Refuses Found system text disk (SpentCounter counter)

-- why the disk that was handed in is not opened: it can't be, a counter is spent, or memory was wanting
abbrev pub IsDiskRefusal : System → List ℕ → DiskState → Ended → Type 0
IsDiskRefusal system text disk (BadImage refusal) = Refuses Found system text disk (error_of refusal)
IsDiskRefusal system text disk Spent = IsSpentDisk system text disk
IsDiskRefusal system text disk Memory = Unit {0}
IsDiskRefusal system text disk _ = ⊥

-- The disk was not opened, and nothing was written to it.
pub record IsNeverOpened {D : Type 0} (state : D → DiskState) (told : Option (List ℕ)) (handed disk : D) (ended : Ended) : Type 0 where
  pub system : System
  pub defines : IfSome told (λ bytes. Defines bytes system)
  pub text : List ℕ
  pub text_is : IfSome told (λ bytes. text ≡ text_of_definition (definition_lines (lines_of bytes)))
  pub refusal : IsDiskRefusal system text (state handed) ended
  pub wrote : WroteNothing (state handed) (state disk)

-- no life, no stop, and nothing was printed
pub record ToldNothing (old new : Option (List ℕ)) (lives : List Life) (stops : List Stop) : Type 0 where
  pub no_life : lives ≡ []
  pub no_stop : stops ≡ []
  pub nothing : new ≡ old

-- A session has lived, with the system that the source defines; or it has not begun, or its disk was never opened.
pub record HasSession {D : Type 0} (state : D → DiskState) (told told' old new : Option (List ℕ)) (handed disk : D) (ended : Ended) (lives : List Life) (stops : List Stop) : Type 0 where
  pub system : System
  pub defines : IfSome told (λ bytes. Defines bytes system)
  pub text : List ℕ
  pub text_is : IfSome told (λ bytes. text ≡ text_of_definition (definition_lines (lines_of bytes)))
  pub lived : HasLived state system text told told' old new handed disk ended (map life_of lives) stops

abbrev pub IsSession : {D : Type 0} → (D → DiskState) → Option (List ℕ) → Option (List ℕ) → Option (List ℕ) → Option (List ℕ) → D → D → Ended → List Life → List Stop → Type 0
IsSession state told told' old new handed disk ended lives stops =
    HasSession state told told' old new handed disk ended lives stops
    ⊎ ((HasNotBegun told handed disk ended ⊎ IsNeverOpened state told handed disk ended) × ToldNothing old new lives stops)
