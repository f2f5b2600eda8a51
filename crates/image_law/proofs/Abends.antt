-- The number of each abend is one from 1 to 4095.
use Rattle.std.proofs.Common.{◌≡◌, ℕ, zero, suc, ◌≤◌, Bool, true, false, List, [], ◌∷◌, length, refl, subst, arith}
use Rattle.std.specs.Prelude.{Option, Some, None, IfSome, IsSomeAnd, ⊤, slice_get, if◌then◌else◌, nat_le, nat_lt, ◌&&◌, not, cond}
use Rattle.std.specs.List.{list_all}
use Rattle.std.specs.Option.{option_and_then, option_map}
use Rattle.std.proofs.lemmas.Bool.{and_parts, leb-true}
use Rattle.tm_types.specs.declared.abend.AbendCode.{AbendCode}
use Rattle.tm_types.specs.declared.function.Function.{Function}
use Rattle.tm_types.specs.declared.function.Function.TheVariants.{ROLL, ISRT}
use Rattle.model_data.specs.declared.row.Row.{Row}
use Rattle.model_data.specs.declared.call.RowsLimit.{RowsLimit}
use Rattle.model_data.specs.declared.call.RowsLimit.TheVariants.{Roots, RecordLength}
use Rattle.model_data.specs.Data.{Data, limit_abend_by, is_root_changed, limit_abend, most_changed}
use Rattle.model_messages.specs.MessageCalls.{message_abend_by as message_abend_by, gives_back, is_wrong_pad}
use Rattle.model_messages.specs.MessageWork.{MessageWork}
use Rattle.model_system.specs.declared.need.CallText.{CallText}
use Rattle.model_system.specs.declared.need.Need.{Need}
use Rattle.model_system.specs.declared.need.Need.TheVariants.{Call as NeedsCall, Abend as NeedsAbend, Ended}
use Rattle.model_system.specs.declared.program.ScriptLine.{ScriptLine}
use Rattle.model_system.specs.declared.statement.Statement.{Statement}
use Rattle.model_system.specs.declared.statement.Statement.TheVariants.{Label, Set, Word, Cut, Pad, Add, Less, If, Goto, Call, Abend, End}
use Rattle.model_system.specs.Arithmetic.{sum_text, difference_text}
use Rattle.model_system.specs.Programs.{is_statement}
use Rattle.model_system.specs.Script.{ScriptState, Needs, computed, executed_by, need_at, need_of, script_after, script_start, script_settled, step_by, variable_text}
use Rattle.model_system.specs.Jobs.{Job, job_of}
use Rattle.model_system.specs.System.{System}
use Rattle.model_machine.specs.Machine.{LastingState, Slot}
use Rattle.model_machine.specs.MachineCalls.{AtWork, slot_work, work_by}
use Rattle.model_machine.specs.Trial.{Outcome, Reached, Trial, advance, advance_by, call_outcome, called_in_trial, trial_goes_on, is_sync, outcome_at, pcb_reached, trial_need, unless_abend}
use Rattle.model_machine.specs.Trial.Advance.{Stops}
use Rattle.model_machine.specs.Trial.Reached.{Messages, Rows, Nothing}
use Rattle.model_machine.specs.Trial.WorkEnd.{Abends, Syncs}
use Rattle.model_machine.specs.WorkSoFar.{slot_trial}

-- a number from 1 to 4095
abbrev pub IsAbend : ℕ → Type 0
IsAbend number = (1 ≤ number) × (number ≤ 4095)

-- ---- what scripts need

-- the lines of a program are allowed
abbrev pub AreAllowed : List ScriptLine → Type 0
AreAllowed lines = list_all (λ line. is_statement line.statement) lines ≡ true

abbrev NeedsRight : Need → Type 0
NeedsRight (NeedsAbend code) = IsAbend code.number
NeedsRight (NeedsCall call) = ⊤
NeedsRight Ended = ⊤

by_count : (state : ScriptState) (x : ℕ) (found : Option (List ℕ)) → NeedsRight (need_of (computed state x found))
by_count state x (Some text) = tt
by_count state x None = (omega arith, omega arith)

by_statement : (statement : Statement) (state : ScriptState) → is_statement statement ≡ true → NeedsRight (need_of (executed_by statement state))
by_statement (Set x texts) state e = tt
by_statement (Word x y number) state e = tt
by_statement (Cut x y start count) state e = tt
by_statement (Pad x width) state e = tt
by_statement (Add x y) state e = by_count state x (sum_text (variable_text state x) (variable_text state y))
by_statement (Less x y) state e = by_count state x (difference_text (variable_text state x) (variable_text state y))
by_statement (If left comparison right target) state e = tt
by_statement (Goto target) state e = tt
by_statement (Call function pcb area ssas) state e = tt
by_statement (Abend code) state e = let p = and_parts (nat_le 1 code.number) (nat_le code.number 4095) e in (leb-true 1 code.number p.0, leb-true code.number 4095 p.1)
by_statement End state e = tt
by_statement (Label name) state e = tt

by_limit : (b : Bool) (statement : Statement) (state : ScriptState) → is_statement statement ≡ true → NeedsRight (need_of (cond b (executed_by statement state) (Needs (NeedsAbend (record { number = 240 })))))
by_limit true statement state e = by_statement statement state e
by_limit false statement state e = (omega arith, omega arith)

line_allowed : (lines : List ScriptLine) (place : ℕ) (line : ScriptLine) → AreAllowed lines → slice_get lines place ≡ Some line → is_statement line.statement ≡ true
line_allowed [] place line h e = cc
line_allowed (l ∷ lines) zero line h e =
    let same : l ≡ line = cc in subst (λ (x : ScriptLine). is_statement x.statement ≡ true) same (and_parts (is_statement l.statement) (list_all (λ line. is_statement line.statement) lines) h).0
line_allowed (l ∷ lines) (suc place) line h e =
    line_allowed lines place line (and_parts (is_statement l.statement) (list_all (λ line. is_statement line.statement) lines) h).1 e

need_right : (lines : List ScriptLine) (limit : ℕ) (state : ScriptState) → AreAllowed lines → NeedsRight (need_at lines limit state)
need_right lines limit state h = by (slice_get lines (script_settled lines limit state).place) refl
  where
    by : (found : Option ScriptLine) → slice_get lines (script_settled lines limit state).place ≡ found → NeedsRight (need_of (step_by limit found (script_settled lines limit state)))
    by (Some line) at = by_limit (nat_lt (script_settled lines limit state).executed limit) line.statement (script_settled lines limit state) (line_allowed lines (script_settled lines limit state).place line h at)
    by None at = tt

-- ---- what calls lead to

abbrev LeadsRight : Option AbendCode → Type 0
LeadsRight (Some code) = IsAbend code.number
LeadsRight None = ⊤

message_right : (function : Function) (work : MessageWork) (pcb : ℕ) (text : List ℕ) → LeadsRight (message_abend_by function work pcb text)
message_right ROLL work pcb text = (omega arith, omega arith)
message_right ISRT work pcb text = by (gives_back work pcb && is_wrong_pad work.conversation text)
  where
    by : (b : Bool) → LeadsRight (if b then Some (record { number = 904 }) else None)
    by true = (omega arith, omega arith)
    by false = tt
message_right _ work pcb text = tt

limit_right : (refusal : Option RowsLimit) → LeadsRight (option_map limit_abend refusal)
limit_right None = tt
limit_right (Some Roots) = (omega arith, omega arith)
limit_right (Some RecordLength) = (omega arith, omega arith)

data_right : (number : ℕ) (changed : List (ℕ × List ℕ)) (root : Option (List ℕ)) (refusal : Option RowsLimit) → LeadsRight (limit_abend_by number changed root refusal)
data_right number changed None refusal = tt
data_right number changed (Some root) refusal = by (not (is_root_changed number root changed) && nat_le most_changed (length changed))
  where
    by : (b : Bool) → LeadsRight (if b then Some (record { number = 900 }) else option_map limit_abend refusal)
    by true = (omega arith, omega arith)
    by false = limit_right refusal

outcome_right : (system : System) (rows : List (List Row)) (target : Reached) (work : MessageWork) (d : Data) (call : CallText) → LeadsRight (outcome_at system rows target work d call).abend
outcome_right system rows Messages work d call = message_right call.function work call.pcb call.area
outcome_right system rows (Rows target) work d call =
    let result = Rattle.model_machine.specs.Trial.db_result target d call in data_right target.number d.changed result.changed result.refusal
outcome_right system rows Nothing work d call = tt

-- ---- how the work ends

unless_right : (found : Option AbendCode) (trial : Trial) (call : CallText) (outcome : Outcome) (abend : AbendCode) → LeadsRight found → unless_abend found (trial_goes_on trial call outcome) ≡ Stops (Abends abend) → IsAbend abend.number
unless_right None trial call outcome abend h e = absurd (cc)
unless_right (Some code) trial call outcome abend h e = let same : code ≡ abend = cc in subst (λ (a : AbendCode). IsAbend a.number) same h

by_need : (job : Job) (rows : List (List Row)) (trial : Trial) (need : Need) (abend : AbendCode) → NeedsRight need → advance_by job rows trial need ≡ Stops (Abends abend) → IsAbend abend.number
by_need job rows trial (NeedsCall call) abend h e = by (is_sync trial.work call) e
  where
    by : (b : Bool) → (if b then Stops Syncs else called_in_trial trial call (call_outcome job rows trial call)) ≡ Stops (Abends abend) → IsAbend abend.number
    by true f = absurd (cc)
    by false f =
        unless_right (call_outcome job rows trial call).abend trial call (call_outcome job rows trial call) abend
        (outcome_right job.system rows (pcb_reached job.system.databases job.pcbs call.pcb) trial.work trial.databases call) f
by_need job rows trial Ended abend h e = absurd (cc)
by_need job rows trial (NeedsAbend code) abend h e = let same : code ≡ abend = cc in subst (λ (a : AbendCode). IsAbend a.number) same h

advance_right : (job : Job) (rows : List (List Row)) (trial : Trial) (abend : AbendCode) → AreAllowed job.lines → advance job rows trial ≡ Stops (Abends abend) → IsAbend abend.number
advance_right job rows trial abend h e =
    by_need job rows trial (trial_need job trial) abend
    (need_right job.lines job.transaction.statement_limit (script_after job.lines job.transaction.statement_limit script_start trial.answers) h) e

-- the work on a slot's message, by the job of its code
pub slot_right : (system : System) (lasting : LastingState) (slot : Slot) (abend : AbendCode) → IfSome (job_of system slot.code) (λ job. AreAllowed job.lines)
    → IsSomeAnd (slot_work system lasting slot) (λ work. work.advance ≡ Stops (Abends abend)) → IsAbend abend.number
slot_right system lasting slot abend allowed ends = by_job (job_of system slot.code) allowed ends
  where
    by_trial : (job : Job) (found : Option Trial) → AreAllowed job.lines → IsSomeAnd (option_and_then (λ trial. Some (work_by job lasting trial)) found) (λ (work : AtWork). work.advance ≡ Stops (Abends abend))
        → IsAbend abend.number
    by_trial job None h f = absurd f
    by_trial job (Some trial) h f = advance_right job lasting.rows trial abend h f

    by_job : (found : Option Job) → IfSome found (λ job. AreAllowed job.lines)
        → IsSomeAnd (option_and_then (λ job. option_and_then (λ trial. Some (work_by job lasting trial)) (slot_trial system lasting slot)) found) (λ (work : AtWork). work.advance ≡ Stops (Abends abend))
        → IsAbend abend.number
    by_job None h f = absurd f
    by_job (Some job) h f = by_trial job (slot_trial system lasting slot) h f
