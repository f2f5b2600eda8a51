-- Laws of scripts.
use Rattle.std.proofs.Common.{◌≡◌, ℕ, zero, suc, ◌+◌, ◌-◌, ◌<◌, List, [], ◌∷◌, ◌++◌, drop, cond, refl, ap, sym, ◌∙◌, arith}
use Rattle.std.specs.Prelude.{Option, Some, None, nat_lt, Bool, true, false, slice_get}
use Rattle.std.proofs.lemmas.Bool.Decides.{nat_tests}
use Rattle.std.proofs.lemmas.List.{drop-drop}
use Rattle.model_system.specs.declared.program.ScriptLine.{ScriptLine}
use Rattle.model_system.specs.declared.need.Need.{Need}
use Rattle.model_system.specs.declared.statement.Statement.{Statement}
use Rattle.model_system.specs.declared.statement.Statement.TheVariants.{Label, Set, Word, Cut, Pad, Add, Less, If, Goto, Call, Abend, End}
use Rattle.model_system.specs.Arithmetic.{sum_text, difference_text}
use Rattle.model_system.specs.Programs.{is_label}
use Rattle.model_system.specs.Script.{Answer, ScriptState, Executed, GoesOn, Needs, labels_first, arrived, computed, executed_by, step_by, script_step, unless_needs, run, script_settled, need_of, need_at, waiting_by, waiting_at, moved_on, script_answered, script_after, variable_text}

-- behind the labels that lines begin with stands none
none_behind : (b : Bool) (line : ScriptLine) (lines : List ScriptLine) → is_label line.statement ≡ b → labels_first (drop (labels_first lines) lines) ≡ 0
    → labels_first (drop (cond b (suc (labels_first lines)) 0) (line ∷ lines)) ≡ 0
none_behind true line lines e rest = rest
none_behind false line lines e rest = ap (λ b. cond b (suc (labels_first lines)) 0) e

no_label_behind : (lines : List ScriptLine) → labels_first (drop (labels_first lines) lines) ≡ 0
no_label_behind [] = refl
no_label_behind (line ∷ lines) = none_behind (is_label line.statement) line lines refl (no_label_behind lines)

-- a script that has arrived stays where it is
pub arrived_twice : (lines : List ScriptLine) (state : ScriptState) → arrived lines (arrived lines state) ≡ arrived lines state
arrived_twice lines state =
    let at : drop (state.place + labels_first (drop state.place lines)) lines ≡ drop (labels_first (drop state.place lines)) (drop state.place lines) =
    sym (drop-drop (labels_first (drop state.place lines)) state.place lines) in
    let none : labels_first (drop (state.place + labels_first (drop state.place lines)) lines) ≡ 0 = ap labels_first at ∙ no_label_behind (drop state.place lines) in
    ap (λ n. record state { place = state.place + labels_first (drop state.place lines) + n }) none
    ∙ ap (λ p. record state { place = p }) (omega arith)

-- a statement that lets the script go on is counted
counted_one : (state next : ScriptState) (x : ℕ) (found : Option (List ℕ)) → computed state x found ≡ GoesOn next → next.executed ≡ suc state.executed
counted_one state next x (Some text) e = cc
counted_one state next x None e = cc

executed_one : (statement : Statement) (state next : ScriptState) → executed_by statement state ≡ GoesOn next → next.executed ≡ suc state.executed
executed_one (Set x texts) state next e = cc
executed_one (Word x y number) state next e = cc
executed_one (Cut x y start count) state next e = cc
executed_one (Pad x width) state next e = cc
executed_one (Add x y) state next e = counted_one state next x (sum_text (variable_text state x) (variable_text state y)) e
executed_one (Less x y) state next e = counted_one state next x (difference_text (variable_text state x) (variable_text state y)) e
executed_one (If left comparison right target) state next e = cc
executed_one (Goto target) state next e = cc
executed_one (Call function pcb area ssas) state next e = cc
executed_one (Abend code) state next e = cc
executed_one End state next e = cc
executed_one (Label name) state next e = cc

within_one : (b : Bool) (need : Need) (executed : Executed) (state next : ScriptState) → (executed ≡ GoesOn next → next.executed ≡ suc state.executed)
    → cond b executed (Needs need) ≡ GoesOn next → next.executed ≡ suc state.executed
within_one true need executed state next one e = one e
within_one false need executed state next one e = cc

line_one : (limit : ℕ) (line : Option ScriptLine) (state next : ScriptState) → step_by limit line state ≡ GoesOn next → next.executed ≡ suc state.executed
line_one limit (Some line) state next e = within_one _ _ (executed_by line.statement state) state next (executed_one line.statement state next) e
line_one limit None state next e = cc

within_limit : (b : Bool) (limit : ℕ) (need : Need) (executed : Executed) (state next : ScriptState) → nat_lt state.executed limit ≡ b
    → cond b executed (Needs need) ≡ GoesOn next → state.executed < limit
within_limit true limit need executed state next b e = grind (arith, nat_tests)
within_limit false limit need executed state next b e = cc

line_within : (limit : ℕ) (line : Option ScriptLine) (state next : ScriptState) → step_by limit line state ≡ GoesOn next → state.executed < limit
line_within limit (Some line) state next e = within_limit (nat_lt state.executed limit) limit _ (executed_by line.statement state) state next refl e
line_within limit None state next e = cc

-- A script goes on within its limit alone.
pub step_within : (lines : List ScriptLine) (limit : ℕ) (state next : ScriptState) → script_step lines limit state ≡ GoesOn next → state.executed < limit
step_within lines limit state next e = line_within limit (slice_get lines state.place) state next e

pub step_one : (lines : List ScriptLine) (limit : ℕ) (state next : ScriptState) → script_step lines limit state ≡ GoesOn next → next.executed ≡ suc state.executed
step_one lines limit state next e = line_one limit (slice_get lines state.place) state next e

module _ (lines : List ScriptLine) (limit : ℕ) where
  -- where the script stays, it stays again
  stays_by : (left : ℕ) (here : ScriptState) (executed : Executed) → ((next : ScriptState) → executed ≡ GoesOn next → ⊥) → unless_needs (run lines limit left) here executed ≡ here
  stays_by left here (GoesOn next) none = absurd (none next refl)
  stays_by left here (Needs need) none = refl

  stays : (left : ℕ) (here : ScriptState) → arrived lines here ≡ here → ((next : ScriptState) → script_step lines limit here ≡ GoesOn next → ⊥) → run lines limit left here ≡ here
  stays zero here at none = at
  stays (suc left) here at none = ap (λ h. unless_needs (run lines limit left) h (script_step lines limit h)) at ∙ stays_by left here (script_step lines limit here) none

  abbrev IsSettled : ScriptState → Type 0
  IsSettled state = run lines limit (limit - state.executed) state ≡ state

  run_by : (left : ℕ) (state : ScriptState) → suc left ≡ limit - state.executed
      → ((next : ScriptState) → left ≡ limit - next.executed → IsSettled (run lines limit left next))
      → (executed : Executed) → script_step lines limit (arrived lines state) ≡ executed
      → IsSettled (unless_needs (run lines limit left) (arrived lines state) executed)
  run_by left state e more (GoesOn next) s =
      let one : next.executed ≡ suc state.executed = step_one lines limit (arrived lines state) next s in
      more next (omega (arith, e, one))
  run_by left state e more (Needs need) s = stays (limit - state.executed) (arrived lines state) (arrived_twice lines state) (λ next g. cc)

  run_twice : (left : ℕ) (state : ScriptState) → left ≡ limit - state.executed → IsSettled (run lines limit left state)
  run_twice zero state e = ap (λ n. run lines limit n (arrived lines state)) (sym e) ∙ arrived_twice lines state
  run_twice (suc left) state e = run_by left state e (λ next h. run_twice left next h) (script_step lines limit (arrived lines state)) refl

  pub settled_twice : (state : ScriptState) → script_settled lines limit (script_settled lines limit state) ≡ script_settled lines limit state
  unfolding script_settled
  settled_twice state = run_twice (limit - state.executed) state refl

  run_goes_on : (n : ℕ) (state next : ScriptState) → n ≡ limit - state.executed → state.executed < limit → script_step lines limit (arrived lines state) ≡ GoesOn next
      → run lines limit (limit - next.executed) next ≡ run lines limit n state
  run_goes_on zero state next e within s = absurd (omega (arith, e, within))
  run_goes_on (suc left) state next e within s =
      let one : next.executed ≡ suc state.executed = step_one lines limit (arrived lines state) next s in
      let same : limit - next.executed ≡ left = omega (arith, e, one) in
      ap (λ n. run lines limit n next) same ∙ sym (ap (unless_needs (run lines limit left) (arrived lines state)) s)

  -- Where a step goes on, the script settles as it would have.
  pub goes_on_settled : (state next : ScriptState) → script_step lines limit (arrived lines state) ≡ GoesOn next → script_settled lines limit next ≡ script_settled lines limit state
  unfolding script_settled
  goes_on_settled state next s = run_goes_on (limit - state.executed) state next refl (step_within lines limit (arrived lines state) next s) s

  run_needs : (n : ℕ) (state : ScriptState) (need : Need) → script_step lines limit (arrived lines state) ≡ Needs need → run lines limit n state ≡ arrived lines state
  run_needs zero state need s = refl
  run_needs (suc left) state need s = ap (unless_needs (run lines limit left) (arrived lines state)) s

  -- Where a step needs something, the script has settled.
  pub needs_settled : (state : ScriptState) (need : Need) → script_step lines limit (arrived lines state) ≡ Needs need → script_settled lines limit state ≡ arrived lines state
  unfolding script_settled
  needs_settled state need s = run_needs (limit - state.executed) state need s

  pub need_found : (state : ScriptState) (need : Need) → script_step lines limit (arrived lines state) ≡ Needs need → need ≡ need_at lines limit state
  need_found state need s = sym (ap (λ a. need_of (script_step lines limit a)) (needs_settled state need s) ∙ ap need_of s)

  run_arrived : (n : ℕ) (state : ScriptState) → run lines limit n (arrived lines state) ≡ run lines limit n state
  run_arrived zero state = arrived_twice lines state
  run_arrived (suc left) state = ap (λ a. unless_needs (run lines limit left) a (script_step lines limit a)) (arrived_twice lines state)

  -- To pass labels changes nothing.
  pub arrived_settled : (state : ScriptState) → script_settled lines limit (arrived lines state) ≡ script_settled lines limit state
  unfolding script_settled
  arrived_settled state = run_arrived (limit - state.executed) state

  -- what a settled script needs is what it needed before
  pub need_settled : (state : ScriptState) → need_at lines limit (script_settled lines limit state) ≡ need_at lines limit state
  need_settled state = ap (λ s. need_of (script_step lines limit s)) (settled_twice state)

  pub waiting_settled : (state : ScriptState) → waiting_at lines limit (script_settled lines limit state) ≡ waiting_at lines limit state
  waiting_settled state = ap (λ s. waiting_by (slice_get lines s.place) (need_of (script_step lines limit s))) (settled_twice state)

  -- and it goes on as it would have
  pub answered_settled : (state : ScriptState) (answer : Answer) → script_answered lines limit (script_settled lines limit state) answer ≡ script_answered lines limit state answer
  answered_settled state answer = ap (λ s. moved_on s (waiting_by (slice_get lines s.place) (need_of (script_step lines limit s))) answer) (settled_twice state)

  -- So two states that settle alike need the same and go on alike.
  pub need_alike : (a b : ScriptState) → script_settled lines limit a ≡ script_settled lines limit b → need_at lines limit a ≡ need_at lines limit b
  need_alike a b e = ap (λ s. need_of (script_step lines limit s)) e

  pub answered_alike : (a b : ScriptState) (answer : Answer) → script_settled lines limit a ≡ script_settled lines limit b → script_answered lines limit a answer ≡ script_answered lines limit b answer
  answered_alike a b answer e = ap (λ s. moved_on s (waiting_by (slice_get lines s.place) (need_of (script_step lines limit s))) answer) e

  -- one more answer: the script goes on from where it stood
  pub script_after_append : (state : ScriptState) (answers : List Answer) (answer : Answer)
      → script_after lines limit state (answers ++ answer ∷ []) ≡ script_answered lines limit (script_after lines limit state answers) answer
  script_after_append state [] answer = refl
  script_after_append state (first ∷ answers) answer = script_after_append (script_answered lines limit state first) answers answer
