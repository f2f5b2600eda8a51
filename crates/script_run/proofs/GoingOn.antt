-- Steps, one after another.
use Rattle.std.proofs.Common.{◌≡◌, ℕ, zero, suc, ◌-◌, ◌<◌, ◌≤◌, List, refl, ap, sym, ◌∙◌, arith, subst}
use Rattle.std.specs.Prelude.{Option, Some, None, IfSome, IsSome, slice_get}
use Rattle.model_system.specs.declared.program.ScriptLine.{ScriptLine}
use Rattle.model_system.specs.declared.need.Need.{Need}
use Rattle.model_system.specs.Script.{Answer, ScriptState, Executed, GoesOn, Needs, script_answered, moved_on, run, script_settled, script_step, unless_needs, need_of, need_at, step_by, waiting_at, waiting_by, arrived}
use Rattle.model_system.proofs.Settled.{goes_on_settled, needs_settled, need_found, step_one, step_within}
use Rattle.model_system.specs.declared.need.Need.TheVariants.{Call, Ended, Abend}
use Rattle.script_run.specs.RunningScript.{Going, Waiting, ScriptWaits, ScriptSteps, HasRoomForStatement, IsStanding, script_behind, waiting_in, waiting_told}

module _ (lines : List ScriptLine) (limit : ℕ) (old new : Going) where
  -- a step that goes on
  pub went_on : ScriptSteps lines limit old new None → script_settled lines limit new.here ≡ script_settled lines limit old.here
  went_on steps = goes_on_settled lines limit old.here new.here steps.does.does

  pub went_further : ScriptSteps lines limit old new None → limit - new.here.executed < limit - old.here.executed
  went_further steps =
      let one : new.here.executed ≡ suc old.here.executed = step_one lines limit (arrived lines old.here) new.here steps.does.does in
      let inside : old.here.executed < limit = step_within lines limit (arrived lines old.here) new.here steps.does.does in
      omega (arith, one, inside)

  -- a step that needs something
  pub told_need : (need : Need) → ScriptSteps lines limit old new (Some need) → need ≡ need_at lines limit old.here
  told_need need steps = need_found lines limit old.here need steps.does.does

  pub stayed : (need : Need) → ScriptSteps lines limit old new (Some need) → new.here ≡ script_settled lines limit old.here
  stayed need steps = ap (λ (g : Going). g.here) steps.does.stays ∙ sym (needs_settled lines limit old.here need steps.does.does)

pub ruleset going_on_steps = (went_on, went_further, told_need, stayed)

-- a script that doesn't wait has gone nowhere
pub rests : (set : Option (Option ℕ)) (script : Going) → waiting_in set script.here ≡ None → IsStanding set script → script.here ≡ script.stood
rests (Some set) script e stands = cc
rests None script e stands = stands

-- a call on a line waits with room
pub stands_waiting : (set : Option ℕ) (script : Going) → IfSome set (λ x. x < 26) → HasRoomForStatement script.here → IsStanding (Some set) script
stands_waiting (Some x) script below room = (room, below)
stands_waiting None script below room = room

-- a call stands on a line
waits_by : (line : Option ScriptLine) (limit : ℕ) (state : ScriptState) (need : Need) → need ≡ need_of (step_by limit line state) → ScriptWaits need (waiting_in (waiting_by line need) state)
waits_by (Some line) limit state (Call call) e = refl
waits_by (Some line) limit state Ended e = refl
waits_by (Some line) limit state (Abend code) e = refl
waits_by None limit state (Call call) e = cc
waits_by None limit state Ended e = refl
waits_by None limit state (Abend code) e = refl

pub waits_for : (lines : List ScriptLine) (limit : ℕ) (state : ScriptState) (need : Need) → need ≡ need_at lines limit state → ScriptWaits need (waiting_told lines limit state)
waits_for lines limit state need e =
    subst (λ n. ScriptWaits need (waiting_in (waiting_by (slice_get lines (script_settled lines limit state).place) n) (script_settled lines limit state))) e
    (waits_by (slice_get lines (script_settled lines limit state).place) limit (script_settled lines limit state) need e)

pub ruleset going_on_waits = (rests, waits_for)

-- the script behind a call that it was told
behind_in : (set : Option (Option ℕ)) (at state : ScriptState) (answer : Answer) → IsSome (waiting_in set at) → script_behind (waiting_in set at) state answer ≡ moved_on at set answer
behind_in (Some set) at state answer some = refl
behind_in None at state answer some = cc

module _ (lines : List ScriptLine) (limit : ℕ) where
  pub behind_is : (start state : ScriptState) (waiting : Option Waiting) (answer : Answer) → waiting ≡ waiting_told lines limit start → IsSome waiting
      → script_behind waiting state answer ≡ script_answered lines limit start answer
  behind_is start state waiting answer told some =
      ap (λ w. script_behind w state answer) told
      ∙ behind_in (waiting_at lines limit start) (script_settled lines limit start) state answer (subst (λ (w : Option Waiting). IsSome w) told some)

  -- a script executes on
  run_by : (left : ℕ) (state : ScriptState) → ((next : ScriptState) → next.executed ≤ (run lines limit left next).executed)
      → (executed : Executed) → script_step lines limit (arrived lines state) ≡ executed
      → state.executed ≤ (unless_needs (run lines limit left) (arrived lines state) executed).executed
  run_by left state more (GoesOn next) s =
      let one : next.executed ≡ suc state.executed = step_one lines limit (arrived lines state) next s in
      omega (arith, one, more next)
  run_by left state more (Needs need) s = omega arith

  run_on : (left : ℕ) (state : ScriptState) → state.executed ≤ (run lines limit left state).executed
  run_on zero state = omega arith
  run_on (suc left) state = run_by left state (λ next. run_on left next) (script_step lines limit (arrived lines state)) refl

  settled_on : (state : ScriptState) → state.executed ≤ (script_settled lines limit state).executed
  unfolding script_settled
  settled_on state = run_on (limit - state.executed) state

  -- each call that is answered is a statement more
  answered_by : (set : Option (Option ℕ)) (state at : ScriptState) (answer : Answer) → IsSome (waiting_in set at) → state.executed ≤ at.executed → state.executed < (moved_on at set answer).executed
  answered_by (Some set) state at answer some on = omega (arith, on)
  answered_by None state at answer some on = cc

  pub answered_more : (state : ScriptState) (waiting : Option Waiting) (answer : Answer) → waiting ≡ waiting_told lines limit state → IsSome waiting
      → state.executed < (script_answered lines limit state answer).executed
  answered_more state waiting answer told some =
      answered_by (waiting_at lines limit state) state (script_settled lines limit state) answer (subst (λ (w : Option Waiting). IsSome w) told some) (settled_on state)
