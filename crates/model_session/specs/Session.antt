-- A session: for each block of its lines where it leads, and what is printed for it.
use Rattle.std.specs.Prelude.{◌≡◌, ◌⊎◌, ℕ, ◌<◌, Bool, true, false, None, List, [], ◌∷◌, ◌++◌, length}
use Rattle.std.specs.Option.{is_some}
use Rattle.model_machine.specs.declared.entry.Entry.{Entry}
use Rattle.model_machine.specs.declared.entry.ControlCall.{ControlCall}
use Rattle.model_machine.specs.declared.entry.ControlCall.TheVariants.{Turn}
use Rattle.model_system.specs.System.{System}
use Rattle.model_machine.specs.Machine.{LastingState, empty_state}
use Rattle.model_machine.specs.History.{May, AreSteps, IsCall, call_of}
use Rattle.model_session.specs.declared.asked.Asked.{Asked}
use Rattle.model_session.specs.declared.asked.Asked.TheVariants.{Bad, BadCommand, Stopped, Call, Quiet, Power, PowerIn, Restart, ColdStart}
use Rattle.model_session.specs.declared.asked.ImageRefused.{ImageRefused}
use Rattle.model_session.specs.declared.asked.ImageRefused.TheVariants.{Rule, Text as OtherText, Size}
use Rattle.model_session.specs.Blocks.{Block}
use Rattle.model_session.specs.Lines.{asked_of}
use Rattle.model_session.specs.Text.{entry_text, bad_line_text, bad_command_text, stopped_text, broken_text, power_text, armed_text, up_text, down_text, opened_text, image_text}
use Rattle.model_session.specs.QuietTurns.{IsQuieted, IsBrokenOff, quieted_text, region_behind_turns}
use Rattle.model_session.specs.Lives.{LastLife, now_in, longer, ends_life, is_disk_fault, binds, IsForcedTo, IsAllForced, failed_force}
use Rattle.model_session.specs.SessionState.{Setting, SessionState, DiskPast, told_one, Outage, Standing, Stop, no_life, unbegun, life_gone_on, called_on, powered_off, armed_with, broken, life_opened, failed, IsStateEmptied, IsKnown, MayBeFound, LastAnswered}
use Rattle.model_session.specs.SessionState.Standing.{Up, Down}

-- ---- while the system is up

-- The disk failed in a call, whose entry is the life's last.
pub record BreaksAtEntry (system : System) (call : ControlCall) (entry : Entry) : Type 0 where
  pub asked : call_of entry ≡ call
  pub can : IsCall system call
  pub fault : is_disk_fault entry ≡ true

-- A call stands for the next entry of the life, which is the machine's answer at its place. It is printed, where its text binds only
-- once all lasting steps are forced. A freeze ends the life.
pub record IsCalled (system : System) (call : ControlCall) (old : SessionState) (life : LastLife) (new : SessionState) (text : List ℕ) : Type 0 where
  pub entry : Entry
  pub forced : ℕ
  pub asked : call_of entry ≡ call
  pub may : May system (now_in system life) entry
  pub is_forced : IsForcedTo system (longer life (entry ∷ [])) (binds entry) forced
  pub goes : new ≡ called_on (ends_life entry) old life (entry ∷ []) forced
  pub printed : text ≡ entry_text system (now_in system life) entry

-- The disk failed in the call.
pub record IsCallCutOff (system : System) (call : ControlCall) (old : SessionState) (life : LastLife) (new : SessionState) (text : List ℕ) : Type 0 where
  pub entry : Entry
  pub forced : ℕ
  pub stop : Stop
  pub breaks : BreaksAtEntry system call entry
  pub is_forced : IsForcedTo system life false forced
  pub ends : new ≡ broken old life (entry ∷ []) forced stop
  pub printed : text ≡ broken_text

-- The call, other than a checkpoint, was answered by an entry whose text binds, and the disk failed in the force before that was printed.
pub record IsForceCutOff (system : System) (call : ControlCall) (old : SessionState) (life : LastLife) (new : SessionState) (text : List ℕ) : Type 0 where
  pub entry : Entry
  pub forced : ℕ
  pub stop : Stop
  pub asked : call_of entry ≡ call
  pub may : May system (now_in system life) entry
  pub bound : binds entry ≡ true
  pub silent : (past : DiskPast) → told_one entry past ≡ past
  pub is_forced : IsForcedTo system (longer life (entry ∷ [])) false forced
  pub ends : new ≡ broken old life (entry ∷ failed_force ∷ []) forced stop
  pub printed : text ≡ broken_text

-- QUIET stands for turns, and has one text for all of them.
pub record IsQuietTurned (system : System) (most : ℕ) (old : SessionState) (life : LastLife) (new : SessionState) (text : List ℕ) : Type 0 where
  pub turns : List Entry
  pub forced : ℕ
  pub steps : AreSteps system (now_in system life) turns
  pub quieted : IsQuieted most system (now_in system life) turns
  pub is_forced : IsForcedTo system (longer life turns) false forced
  pub goes : new ≡ life_gone_on old life turns forced
  pub printed : text ≡ quieted_text system (now_in system life) turns

-- The disk failed in one of its turns.
pub record IsTurnedOff (system : System) (most : ℕ) (old : SessionState) (life : LastLife) (new : SessionState) (text : List ℕ) : Type 0 where
  pub turns : List Entry
  pub entry : Entry
  pub forced : ℕ
  pub stop : Stop
  pub steps : AreSteps system (now_in system life) turns
  pub begun : IsBrokenOff most system (now_in system life) turns
  pub breaks : BreaksAtEntry system (Turn (region_behind_turns system (length turns))) entry
  pub is_forced : IsForcedTo system (longer life turns) false forced
  pub ends : new ≡ broken old life (turns ++ entry ∷ []) forced stop
  pub printed : text ≡ broken_text

-- A bad line, and an input that is refused before it is asked for, have a text of their own and no entry. Where power
-- fails the life ends, and the disk is cut with the line's pick; where it is to fail, the disk is told to stop at the line's
-- write, and its pick is kept. A restart is refused.
abbrev pub IsServedUp : Asked → Setting → SessionState → LastLife → SessionState → List ℕ → Type 0
IsServedUp (Bad rule) setting old life new text = (new ≡ old) × (text ≡ bad_line_text rule)
IsServedUp (BadCommand rule) setting old life new text = (new ≡ old) × (text ≡ bad_command_text rule)
IsServedUp (Stopped terminal number reason) setting old life new text = (new ≡ old) × (text ≡ stopped_text terminal number reason)
IsServedUp (Call call) setting old life new text =
    IsCalled setting.system call old life new text
    ⊎ (IsCallCutOff setting.system call old life new text ⊎ IsForceCutOff setting.system call old life new text)
IsServedUp (Quiet most) setting old life new text = IsQuietTurned setting.system most old life new text ⊎ IsTurnedOff setting.system most old life new text
IsServedUp (Power pick) setting old life new text = (new ≡ powered_off old life pick) × (text ≡ power_text)
IsServedUp (PowerIn writes pick) setting old life new text = (new ≡ armed_with setting.can_arm writes pick old) × (text ≡ armed_text setting.can_arm writes)
IsServedUp Restart setting old life new text = (new ≡ old) × (text ≡ up_text)
IsServedUp ColdStart setting old life new text = (new ≡ old) × (text ≡ up_text)

-- ---- while it is down

-- what a life opens with: what is found; or in a cold start the empty state, all that was answered counting as kept
abbrev pub MayOpenWith : Bool → Setting → Outage → ℕ → LastingState → Type 0
MayOpenWith false setting outage kept state = MayBeFound setting outage kept state
MayOpenWith true setting outage kept state = (state ≡ empty_state setting.system) × LastAnswered setting.system outage.last kept

-- Before the first life what was handed in is to be opened.
pub record OpensFirst (cold : Bool) (outage : Outage) : Type 0 where
  pub found : cold ≡ false
  pub first : outage.last ≡ None

-- The checkpoint with which a life opens has a higher number than any before it. Behind a cold start, also one that broke off, numbers
-- begin anew.
abbrev pub OpensAbove : Bool → Setting → Outage → ℕ → Type 0
OpensAbove false setting outage checkpoint = (outage.emptied ≡ true) ⊎ ((number : ℕ) → IsKnown setting outage.last number → number < checkpoint)
OpensAbove true setting outage checkpoint = checkpoint ≡ 1

-- A life opened. Of a disk that doesn't tell its contents nothing is known. Before the first life what was handed in is opened only
-- where it is of the definition's text; or a cold start broke off since, and the life opens empty.
pub record OpensSession (cold : Bool) (setting : Setting) (old : SessionState) (outage : Outage) (new : SessionState) : Type 0 where
  pub kept : ℕ
  pub checkpoint : ℕ
  pub state : LastingState
  pub may : setting.tells ≡ true → MayOpenWith cold setting outage kept state
  pub above : setting.tells ≡ true → OpensAbove cold setting outage checkpoint
  pub right : setting.tells ≡ true → OpensFirst cold outage → setting.right_text ⊎ IsStateEmptied setting.system outage.last outage.emptied kept state
  pub goes : new ≡ life_opened old outage kept checkpoint state

-- The disk failed in the opening.
pub record FailsToOpen (cold : Bool) (old : SessionState) (outage : Outage) (new : SessionState) : Type 0 where
  pub stop : Stop
  pub ends : new ≡ failed old outage cold stop

-- Once a life has begun the disk has sectors enough; and where it tells its contents, no rule is broken and the text is the
-- definition's.
abbrev pub MayRefuse : Bool → ImageRefused → Type 0
MayRefuse tells (Rule rule sector) = tells ≡ false
MayRefuse tells (OtherText place) = tells ≡ false
MayRefuse tells (Size needed has) = ⊥

-- The disk can't be opened, and a life had begun before. So it isn't with a cold start, which looks at the size alone.
pub record IsNotOpened (cold : Bool) (setting : Setting) (outage : Outage) (old new : SessionState) (text : List ℕ) : Type 0 where
  pub found : cold ≡ false
  pub refusal : ImageRefused
  pub begun : is_some outage.last ≡ true
  pub may : MayRefuse setting.tells refusal
  pub stays : new ≡ old
  pub printed : text ≡ image_text refusal

abbrev pub IsRestarted : Bool → Setting → SessionState → Outage → SessionState → List ℕ → Type 0
IsRestarted cold setting old outage new text =
    (OpensSession cold setting old outage new × (text ≡ opened_text cold))
    ⊎ (FailsToOpen cold old outage new × (text ≡ broken_text))
    ⊎ IsNotOpened cold setting outage old new text

-- Only a restart is served.
abbrev pub IsServedDown : Asked → Setting → SessionState → Outage → SessionState → List ℕ → Type 0
IsServedDown Restart setting old outage new text = IsRestarted false setting old outage new text
IsServedDown ColdStart setting old outage new text = IsRestarted true setting old outage new text
IsServedDown _ setting old outage new text = (new ≡ old) × (text ≡ down_text)

-- ---- sessions

-- a block leads from one state of a session to another, and this is printed for it
abbrev pub ServedBy : Standing → Asked → Setting → SessionState → SessionState → List ℕ → Type 0
ServedBy (Up life) asked setting old new text = IsServedUp asked setting old life new text
ServedBy (Down outage) asked setting old new text = IsServedDown asked setting old outage new text

abbrev pub IsBlockServed : Asked → Setting → SessionState → SessionState → List ℕ → Type 0
IsBlockServed asked setting old new text = ServedBy old.standing asked setting old new text

-- Blocks lead from one to another, and this is printed for them.
pub record ThenServed (Rest : SessionState → List ℕ → Type 0) (asked : Asked) (setting : Setting) (old : SessionState) (text : List ℕ) : Type 0 where
  pub mid : SessionState
  pub first : List ℕ
  pub later : List ℕ
  pub here : IsBlockServed asked setting old mid first
  pub printed : text ≡ first ++ later
  pub on : Rest mid later

abbrev pub AreServed : Setting → List Block → SessionState → SessionState → List ℕ → Type 0
AreServed setting [] old new text = (new ≡ old) × (text ≡ [])
AreServed setting (block ∷ blocks) old new text =
    ThenServed (λ mid later. AreServed setting blocks mid new later) (asked_of setting.system block) setting old text

-- A session begins with an opening of the disk, which prints nothing.
abbrev pub BeginsSession : Setting → SessionState → Type 0
BeginsSession setting first = OpensSession false setting unbegun no_life first ⊎ FailsToOpen false unbegun no_life first

-- What stands of the first of these blocks, none of which was served: nothing, but of a QUIET the
-- turns up to where they broke off.
pub record TurnsBegun (most : ℕ) (system : System) (old : SessionState) (life : LastLife) (new : SessionState) : Type 0 where
  pub turns : List Entry
  pub forced : ℕ
  pub steps : AreSteps system (now_in system life) turns
  pub begun : IsBrokenOff most system (now_in system life) turns
  pub is_forced : IsForcedTo system (longer life turns) false forced
  pub goes : new ≡ life_gone_on old life turns forced

abbrev pub IsBegunBy : Asked → System → SessionState → Standing → SessionState → Type 0
IsBegunBy (Quiet most) system old (Up life) new = (new ≡ old) ⊎ TurnsBegun most system old life new
IsBegunBy _ system old standing new = new ≡ old

abbrev pub IsSessionBegun : System → List Block → SessionState → SessionState → Type 0
IsSessionBegun system [] old new = new ≡ old
IsSessionBegun system (block ∷ blocks) old new = IsBegunBy (asked_of system block) system old old.standing new

-- ---- the end of a source

-- All lasting steps of a life are forced; or the disk fails in that, of which is told as of any stop.
pub record IsForcedAtEnd (system : System) (old : SessionState) (life : LastLife) (new : SessionState) (text : List ℕ) : Type 0 where
  pub forced : ℕ
  pub all : IsAllForced system life forced
  pub goes : new ≡ life_gone_on old life [] forced
  pub silent : text ≡ []

pub record IsEndCutOff (old : SessionState) (life : LastLife) (new : SessionState) (text : List ℕ) : Type 0 where
  pub stop : Stop
  pub ends : new ≡ broken old life (failed_force ∷ []) life.forced stop
  pub printed : text ≡ broken_text

-- A session whose source has ended is forced where it is up.
abbrev pub EndsAt : Standing → System → SessionState → SessionState → List ℕ → Type 0
EndsAt (Up life) system old new text = IsForcedAtEnd system old life new text ⊎ IsEndCutOff old life new text
EndsAt (Down outage) system old new text = (new ≡ old) × (text ≡ [])

abbrev pub IsSourceEnded : System → SessionState → SessionState → List ℕ → Type 0
IsSourceEnded system old new text = EndsAt old.standing system old new text
