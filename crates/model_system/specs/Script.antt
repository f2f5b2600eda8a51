-- What a script does: a function of its lines and of the answers that it was given so far.
use Rattle.std.specs.Prelude.{ℕ, zero, suc, ◌+◌, ◌-◌, nat_lt, Bool, true, false, if◌then◌else◌, Option, Some, None, List, [], ◌∷◌, take, drop, map, replicate, slice_get, slice_set, slice_index_or}
use Rattle.std.specs.List.{flat_map}
use Rattle.std.specs.Option.{option_map_or}
use Rattle.tm_types.specs.declared.function.Function.{Function}
use Rattle.tm_types.specs.declared.function.Function.TheVariants.{GU, GN, GNP, GHU, GHN, GHNP, ROLB}
use Rattle.tm_types.specs.declared.ssa.KeyTest.TheVariants.{Any as AnyKey, Equal as EqualKey, AtLeast as KeyAtLeast}
use Rattle.tm_types.specs.declared.ssa.Ssa.{Ssa}
use Rattle.tm_types.specs.declared.status.Status.{Status}
use Rattle.tm_types.specs.declared.status.Status.TheVariants.{Blank, GA, GK}
use Rattle.tm_types.specs.Status.{status_text}
use Rattle.model_system.specs.declared.need.CallText.{CallText}
use Rattle.model_system.specs.declared.need.Need.{Need}
use Rattle.model_system.specs.declared.need.Need.TheVariants.{Call as NeedsCall, Ended, Abend as NeedsAbend}
use Rattle.model_system.specs.declared.program.ScriptLine.{ScriptLine}
use Rattle.model_system.specs.declared.script_ssa.ScriptSsa.TheVariants.{Any, Equal, AtLeast}
use Rattle.model_system.specs.declared.script_ssa.ScriptSsa.{ScriptSsa}
use Rattle.model_system.specs.declared.statement.Statement.{Statement}
use Rattle.model_system.specs.declared.statement.Statement.TheVariants.{Label, Set, Word, Cut, Pad, Add, Less, If, Goto, Call, Abend, End}
use Rattle.model_system.specs.declared.text.Text.{Text}
use Rattle.model_system.specs.declared.text.Text.TheVariants.{Variable, Status as LastStatus, Literal}
use Rattle.model_system.specs.Arithmetic.{sum_text, difference_text}
use Rattle.model_system.specs.Programs.{is_label}
use Rattle.model_system.specs.Texts.{word, cut, zero_padded, comparison_holds}

-- the answer to a call: its status, and the text that it brought
pub record Answer : Type 0 where
  pub status : Status
  pub area : Option (List ℕ)

-- Where a script stands: the place of its line, counted from 0, the texts of A to Z, the last status
-- and how many statements it has executed.
pub record ScriptState : Type 0 where
  pub place : ℕ
  pub variables : List (List ℕ)
  pub status : Status
  pub executed : ℕ

-- a script begins at its first line, with empty variables; before any call the status is blank
abbrev pub script_start : ScriptState
script_start = record { place = 0; variables = replicate 26 []; status = Blank; executed = 0 }

abbrev pub variable_text : ScriptState → ℕ → List ℕ
variable_text state x = slice_index_or state.variables x []

abbrev pub script_text_of : ScriptState → Text → List ℕ
script_text_of state (Variable x) = variable_text state x
script_text_of state LastStatus = status_text state.status
script_text_of state (Literal bytes) = bytes

-- the texts joined, cut at 1,996 bytes
abbrev pub joined_texts : ScriptState → List Text → List ℕ
joined_texts state texts = take 1996 (flat_map (script_text_of state) texts)

-- One statement more is executed, and the script goes on at a place, with these variables.
abbrev pub script_goes_on : ScriptState → ℕ → List (List ℕ) → ScriptState
script_goes_on state place variables = record state { place = place; variables = variables; executed = suc state.executed }

-- the next line, the variable being this text
abbrev pub assigns : ScriptState → ℕ → List ℕ → ScriptState
assigns state x text = script_goes_on state (suc state.place) (slice_set state.variables x text)

-- a call's segment search arguments, with the texts of their variables
abbrev pub call_ssa : ScriptState → ScriptSsa → Ssa
call_ssa state (Any name) = record { segment = name; test = AnyKey }
call_ssa state (Equal name x) = record { segment = name; test = EqualKey (variable_text state x) }
call_ssa state (AtLeast name x) = record { segment = name; test = KeyAtLeast (variable_text state x) }

-- the call of a line, with the texts of its variables; a missing area is empty
abbrev pub call_text : ScriptState → Function → ℕ → Option ℕ → List ScriptSsa → CallText
call_text state function pcb area ssas =
    record { function = function; pcb = pcb; area = option_map_or (variable_text state) area []; ssas = map (call_ssa state) ssas }

-- What comes of a statement: the script goes on, or it needs something.
pub data Executed : Type 0 where
  GoesOn : ScriptState → Executed
  Needs : Need → Executed

-- bad arithmetic ends the script abnormally, with U0901
abbrev pub computed : ScriptState → ℕ → Option (List ℕ) → Executed
computed state x (Some text) = GoesOn (assigns state x text)
computed state x None = Needs (NeedsAbend (record { number = 901 }))

-- what each statement does
abbrev pub executed_by : Statement → ScriptState → Executed
executed_by (Set x texts) state = GoesOn (assigns state x (joined_texts state texts))
executed_by (Word x y number) state = GoesOn (assigns state x (word (variable_text state y) number))
executed_by (Cut x y start count) state = GoesOn (assigns state x (cut (variable_text state y) start count))
executed_by (Pad x width) state = GoesOn (assigns state x (zero_padded (variable_text state x) width))
executed_by (Add x y) state = computed state x (sum_text (variable_text state x) (variable_text state y))
executed_by (Less x y) state = computed state x (difference_text (variable_text state x) (variable_text state y))
executed_by (If left comparison right target) state =
    GoesOn (script_goes_on state (if comparison_holds comparison (script_text_of state left) (script_text_of state right) then target.place else suc state.place) state.variables)
executed_by (Goto target) state = GoesOn (script_goes_on state target.place state.variables)
executed_by (Call function pcb area ssas) state = Needs (NeedsCall (call_text state function pcb area ssas))
executed_by (Abend code) state = Needs (NeedsAbend code)
executed_by End state = Needs Ended
executed_by (Label name) state = Needs Ended

-- one statement more than the limit ends the script abnormally, with U0240
abbrev pub within_limit : ℕ → ScriptState → Executed → Executed
within_limit limit state executed =
    if nat_lt state.executed limit then executed else Needs (NeedsAbend (record { number = 240 }))

-- A script ends behind its last line too.
abbrev pub step_by : ℕ → Option ScriptLine → ScriptState → Executed
step_by limit (Some line) state = within_limit limit state (executed_by line.statement state)
step_by limit None state = Needs Ended

-- what comes of the line where the script stands
abbrev pub script_step : List ScriptLine → ℕ → ScriptState → Executed
script_step lines limit state = step_by limit (slice_get lines state.place) state

-- how many labels these lines begin with
abbrev pub labels_first : List ScriptLine → ℕ
labels_first [] = 0
labels_first (line ∷ lines) = if is_label line.statement then suc (labels_first lines) else 0

-- A label is no statement: the script stands at the first line from its place on that is none.
abbrev pub arrived : List ScriptLine → ScriptState → ScriptState
arrived lines state = record state { place = state.place + labels_first (drop state.place lines) }

-- goes on from a step, or stays where the script needs something
abbrev pub unless_needs : (ScriptState → ScriptState) → ScriptState → Executed → ScriptState
unless_needs rest here (GoesOn next) = rest next
unless_needs rest here (Needs need) = here

-- the script after at most so many statements
abbrev pub run : List ScriptLine → ℕ → ℕ → ScriptState → ScriptState
run lines limit zero state = arrived lines state
run lines limit (suc left) state =
    unless_needs (run lines limit left) (arrived lines state) (script_step lines limit (arrived lines state))

-- The script at its next call or end: the lines up to it are executed, by as many statements as the
-- limit leaves.
unfoldable pub script_settled : List ScriptLine → ℕ → ScriptState → ScriptState
script_settled lines limit state = run lines limit (limit - state.executed) state

abbrev pub need_of : Executed → Need
need_of (Needs need) = need
need_of (GoesOn next) = Ended

-- what a script needs from where it stands
abbrev pub need_at : List ScriptLine → ℕ → ScriptState → Need
need_at lines limit state = need_of (script_step lines limit (script_settled lines limit state))

-- a call sets its variable where it is answered with blank, GA or GK
abbrev pub sets_variable : Status → Bool
sets_variable Blank = true
sets_variable GA = true
sets_variable GK = true
sets_variable _ = false

-- the gets and ROLB bring a text
abbrev pub brings_text : Function → Bool
brings_text GU = true
brings_text GN = true
brings_text GNP = true
brings_text GHU = true
brings_text GHN = true
brings_text GHNP = true
brings_text ROLB = true
brings_text _ = false

-- the variable that a call may set
abbrev pub set_by : Statement → Option ℕ
set_by (Call function pcb area ssas) = if brings_text function then area else None
set_by _ = None

abbrev pub waiting_by : Option ScriptLine → Need → Option (Option ℕ)
waiting_by (Some line) (NeedsCall call) = Some (set_by line.statement)
waiting_by _ _ = None

-- Where a script that needs its next call waits for the answer: the variable that the call may set,
-- if any. None where it needs no call.
abbrev pub waiting_at : List ScriptLine → ℕ → ScriptState → Option (Option ℕ)
waiting_at lines limit state = waiting_by (slice_get lines (script_settled lines limit state).place) (need_at lines limit state)

-- the variables once a call was answered that may set this one
abbrev pub variables_after : List (List ℕ) → Option ℕ → Answer → List (List ℕ)
variables_after variables (Some x) answer =
    if sets_variable answer.status then option_map_or (λ text. slice_set variables x text) answer.area variables else variables
variables_after variables None answer = variables

-- the script behind a call that waited so
abbrev pub moved_on : ScriptState → Option (Option ℕ) → Answer → ScriptState
moved_on state (Some x) answer = record {
  place = suc state.place;
  variables = variables_after state.variables x answer;
  status = answer.status;
  executed = suc state.executed;
}
moved_on state None answer = state

-- where the script stands once the call that it needs was answered: on the line behind it
abbrev pub script_answered : List ScriptLine → ℕ → ScriptState → Answer → ScriptState
script_answered lines limit state answer = moved_on (script_settled lines limit state) (waiting_at lines limit state) answer

-- where the script stands after these answers
abbrev pub script_after : List ScriptLine → ℕ → ScriptState → List Answer → ScriptState
script_after lines limit state [] = state
script_after lines limit state (answer ∷ answers) = script_after lines limit (script_answered lines limit state answer) answers

-- what a script needs after these answers
abbrev pub next_need : List ScriptLine → ℕ → List Answer → Need
next_need lines limit answers = need_at lines limit (script_after lines limit script_start answers)
