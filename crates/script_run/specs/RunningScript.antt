-- A script that runs.
use Rattle.std.specs.Prelude.{◌≡◌, OnSome, IfSome, IsSome, ℕ, ◌+◌, ◌<◌, ◌^◌, ⊤, Option, Some, None, List, [], ◌∷◌, slice_index_or}
use Rattle.tm_types.specs.Segment.{IsSegmentText}
use Rattle.tm_types.specs.declared.ssa.Ssa.{Ssa}
use Rattle.tm_types.specs.declared.ssa.KeyTest.{KeyTest}
use Rattle.tm_types.specs.declared.ssa.KeyTest.TheVariants.{Any, Equal, AtLeast}
use Rattle.model_system.specs.declared.need.Need.{Need}
use Rattle.model_system.specs.declared.need.Need.TheVariants.{Call, Ended, Abend}
use Rattle.model_system.specs.declared.program.ScriptLine.{ScriptLine}
use Rattle.model_system.specs.Script.{Answer, ScriptState, Executed, GoesOn, Needs, arrived, moved_on, script_settled, script_step, waiting_at}

-- a script that waits for the answer to a call: where it stands, and the variable that the call may set
pub record Waiting : Type 0 where
  pub at : ScriptState
  pub sets : Option ℕ

-- Where the script stood when its last call was answered, how many statements it may execute, and, where
-- its next call was told, how it waits for the answer.
pub record Running : Type 0 where
  pub script : ScriptState
  pub limit : ℕ
  pub waiting : Option Waiting

abbrev pub waiting_in : Option (Option ℕ) → ScriptState → Option Waiting
waiting_in (Some sets) at = Some (record { at = at; sets = sets })
waiting_in None at = None

-- how a script waits once it was asked for what it needs; None where that is no call
abbrev pub waiting_told : List ScriptLine → ℕ → ScriptState → Option Waiting
waiting_told lines limit state = waiting_in (waiting_at lines limit state) (script_settled lines limit state)

-- the script behind the call for which it waits
abbrev pub script_behind : Option Waiting → ScriptState → Answer → ScriptState
script_behind (Some waiting) state answer = moved_on waiting.at (Some waiting.sets) answer
script_behind None state answer = state

-- a machine whose call was answered
abbrev pub answered_machine : Running → Answer → Running
answered_machine machine answer = record machine { script = script_behind machine.waiting machine.script answer; waiting = None }

-- A script that goes on: where it stood when its last call was answered, and where it is.
pub record Going : Type 0 where
  pub stood : ScriptState
  pub here : ScriptState

-- a script that stands
abbrev pub at_rest : ScriptState → Going
at_rest state = record { stood = state; here = state }

-- The variables as they were at the last call: of those that were set since, what they were is kept.
abbrev pub texts_before : List (Option (List ℕ)) → List (List ℕ) → List (List ℕ)
texts_before [] variables = variables
texts_before (kept ∷ others) [] = []
texts_before (Some text ∷ others) (variable ∷ variables) = text ∷ texts_before others variables
texts_before (None ∷ others) (variable ∷ variables) = variable ∷ texts_before others variables

-- each variable is the text of a segment: at most 1,996 printable bytes
pub record AreTexts (variables : List (List ℕ)) : Type 0 where
  pub each : (x : ℕ) → IsSegmentText (slice_index_or variables x [])

abbrev pub IsKeyText : KeyTest → Type 0
IsKeyText Any = ⊤
IsKeyText (Equal key) = IsSegmentText key
IsKeyText (AtLeast key) = IsSegmentText key

abbrev pub AreKeyTexts : List Ssa → Type 0
AreKeyTexts [] = ⊤
AreKeyTexts (ssa ∷ ssas) = IsKeyText ssa.test × AreKeyTexts ssas

-- the area and the keys of a call are texts of segments
abbrev pub HasTexts : Need → Type 0
HasTexts (Call call) = IsSegmentText call.area × AreKeyTexts call.ssas
HasTexts Ended = ⊤
HasTexts (Abend code) = ⊤

-- what came of a step that told a need, or none
abbrev pub outcome : Option Need → ScriptState → Executed
outcome (Some need) state = Needs need
outcome None state = GoesOn state

-- What a statement came to: it told a need and nothing changed, or the script went on.
pub record DoesStatement (executed : Executed) (old new : Going) (need : Option Need) : Type 0 where
  pub does : executed ≡ outcome need new.here
  pub stays : OnSome need (new ≡ old)
  pub stood : new.stood ≡ old.stood
  pub texts : IfSome need HasTexts

-- a place and a count that can go on by one
pub record HasRoomForStatement (state : ScriptState) : Type 0 where
  pub place : state.place + 1 < 2 ^ 64
  pub executed : state.executed + 1 < 2 ^ 32

-- a script that waits has room to go on, and one that doesn't has gone nowhere
abbrev pub IsStanding : Option (Option ℕ) → Going → Type 0
IsStanding (Some (Some x)) script = HasRoomForStatement script.here × (x < 26)
IsStanding (Some None) script = HasRoomForStatement script.here
IsStanding None script = script.here ≡ script.stood

-- a script that makes a call has room to go on
abbrev pub GivesRoom : Need → ScriptState → Type 0
GivesRoom (Call call) state = HasRoomForStatement state
GivesRoom Ended state = ⊤
GivesRoom (Abend code) state = ⊤

-- What a step came to, labels being passed first: it told a need where the script arrived, or the
-- script went on.
pub record ScriptSteps (lines : List ScriptLine) (limit : ℕ) (old new : Going) (need : Option Need) : Type 0 where
  pub does : DoesStatement (script_step lines limit (arrived lines old.here)) (record old { here = arrived lines old.here }) new need
  pub room : IfSome need (λ n. GivesRoom n new.here)

-- A script waits for an answer exactly where it needs a call.
abbrev pub ScriptWaits : Need → Option Waiting → Type 0
ScriptWaits (Call call) waiting = IsSome waiting
ScriptWaits Ended waiting = waiting ≡ None
ScriptWaits (Abend code) waiting = waiting ≡ None
