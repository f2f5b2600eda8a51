-- A script's call is one of its lines, and so one that its PCB has.
use Rattle.std.proofs.Common.{◌≡◌, ℕ, ◌-◌, Bool, true, false, cond, List, map, sym, ◌∙◌, ap, refl, subst}
use Rattle.std.specs.Prelude.{Option, Some, None, ◌==◌, nat_lt, All, IsSomeAnd, slice_get}
use Rattle.std.proofs.lemmas.Option.{get_or_from_slice_get, slice_get_within}
use Rattle.std.proofs.lemmas.List.Elements.{All-get_or}
use Rattle.tm_types.specs.declared.dbd.Dbd.{Dbd}
use Rattle.tm_types.specs.declared.function.Function.{Function}
use Rattle.model_system.specs.declared.need.CallText.{CallText}
use Rattle.model_system.specs.declared.need.Need.TheVariants.{Call as NeedsCall, Abend as NeedsAbend}
use Rattle.model_system.specs.declared.program.ScriptLine.{ScriptLine}
use Rattle.model_system.specs.declared.script_ssa.ScriptSsa.{ScriptSsa}
use Rattle.model_system.specs.declared.statement.Statement.{Statement}
use Rattle.model_system.specs.declared.statement.Statement.TheVariants.{Label, Set, Word, Cut, Pad, Add, Less, If, Goto, Call, Abend, End}
use Rattle.model_system.specs.Arithmetic.{sum_text, difference_text}
use Rattle.model_system.specs.Script.{ScriptState, Needs, call_ssa, call_text, computed, executed_by, step_by, need_of, need_at, script_settled, variable_text}
use Rattle.model_system.specs.declared.pcb.Pcb.{Pcb}
use Rattle.model_system.specs.declared.pcb.Pcb.TheVariants.{Database, Destination, Modifiable}
use Rattle.model_system.specs.Pcbs.{pcb_at}
use Rattle.model_data.specs.Conditions.{AreSsasOf}
use Rattle.system_types.specs.ValidSystem.{IsServable, IsPcbOf, IsCallOn, IsDatabaseCall}
use Rattle.message_run.specs.RunState.{IsCallBy, IsCallOf}

-- the call of a statement, with the texts of its variables
record CallsSo (statement : Statement) (state : ScriptState) (call : CallText) : Type 0 where
  function : Function
  pcb : ℕ
  area : Option ℕ
  ssas : List ScriptSsa
  is : statement ≡ Call function pcb area ssas
  text : call ≡ call_text state function pcb area ssas

by_count : (state : ScriptState) (x : ℕ) (found : Option (List ℕ)) (statement : Statement) (call : CallText) → need_of (computed state x found) ≡ NeedsCall call → CallsSo statement state call
by_count state x (Some text) statement call e = absurd (cc)
by_count state x None statement call e = absurd (cc)

by_statement : (statement : Statement) (state : ScriptState) (call : CallText) → need_of (executed_by statement state) ≡ NeedsCall call → CallsSo statement state call
by_statement (Set x texts) state call e = absurd (cc)
by_statement (Word x y number) state call e = absurd (cc)
by_statement (Cut x y start count) state call e = absurd (cc)
by_statement (Pad x width) state call e = absurd (cc)
by_statement (Add x y) state call e = by_count state x (sum_text (variable_text state x) (variable_text state y)) (Add x y) call e
by_statement (Less x y) state call e = by_count state x (difference_text (variable_text state x) (variable_text state y)) (Less x y) call e
by_statement (If left comparison right target) state call e = absurd (cc)
by_statement (Goto target) state call e = absurd (cc)
by_statement (Call function pcb area ssas) state call e = record { function = function; pcb = pcb; area = area; ssas = ssas; is = refl; text = cc }
by_statement (Abend code) state call e = absurd (cc)
by_statement End state call e = absurd (cc)
by_statement (Label name) state call e = absurd (cc)

by_limit : (b : Bool) (statement : Statement) (state : ScriptState) (call : CallText)
    → need_of (cond b (executed_by statement state) (Needs (NeedsAbend (record { number = 240 })))) ≡ NeedsCall call → CallsSo statement state call
by_limit true statement state call e = by_statement statement state call e
by_limit false statement state call e = absurd (cc)

-- the line of a call that a script needs, and where the script stands then
record CallsAt (lines : List ScriptLine) (call : CallText) : Type 0 where
  state : ScriptState
  line : ScriptLine
  at : slice_get lines state.place ≡ Some line
  so : CallsSo line.statement state call

called_at : (lines : List ScriptLine) (limit : ℕ) (state : ScriptState) (call : CallText) → need_at lines limit state ≡ NeedsCall call → CallsAt lines call
called_at lines limit state call e = by (slice_get lines (script_settled lines limit state).place) refl e
  where
    by : (found : Option ScriptLine) → slice_get lines (script_settled lines limit state).place ≡ found → need_of (step_by limit found (script_settled lines limit state)) ≡ NeedsCall call
        → CallsAt lines call
    by (Some line) at f = record {
      state = script_settled lines limit state;
      line = line;
      at = at;
      so = by_limit (nat_lt (script_settled lines limit state).executed limit) line.statement (script_settled lines limit state) call f;
    }
    by None at f = absurd (cc)

pub all_at : {A : Type 0} (P : A → Type 0) (xs : List A) (place : ℕ) (x : A) → All P xs → slice_get xs place ≡ Some x → P x
all_at P xs place x all e = subst P (get_or_from_slice_get xs place x x e) (All-get_or P xs place x (slice_get_within xs place x e) all)

-- a PCB by its number is one of the PCBs
pcb_of : (P : Pcb → Type 0) (pcbs : List Pcb) (number : ℕ) (pcb : Pcb) → All P pcbs → pcb_at pcbs number ≡ Some pcb → P pcb
pcb_of P pcbs number pcb all e = by (number == 0) e
  where
    by : (b : Bool) → cond b None (slice_get pcbs (number - 1)) ≡ Some pcb → P pcb
    by true f = absurd (cc)
    by false f = all_at P pcbs (number - 1) pcb all f

in_order : (found : Option Dbd) (function : Function) (ssas : List ScriptSsa) (state : ScriptState) → IsSomeAnd found (IsDatabaseCall function ssas)
    → IsSomeAnd found (λ dbd. AreSsasOf function dbd.types (map (call_ssa state) ssas))
in_order (Some dbd) function ssas state h = h.in_order state
in_order None function ssas state h = h

-- a call that a servable script needs is one that its PCB has
pub is_call : (databases : List Dbd) (pcbs : List Pcb) (lines : List ScriptLine) (limit : ℕ) (state : ScriptState) (call : CallText) → IsServable databases pcbs lines
    → need_at lines limit state ≡ NeedsCall call → IsCallOf databases pcbs call
is_call databases pcbs lines limit state call servable e =
    let at = called_at lines limit state call e in
    let so = at.so in
    subst (IsCallOf databases pcbs) (sym so.text)
    (λ some. by at.state so (pcb_at pcbs so.pcb) refl (servable.calls at.state.place at.line.number so.pcb so.function so.area so.ssas (at.at ∙ ap (λ s. Some (record { number = at.line.number; statement = s })) so.is) some))
  where
    by : (stands : ScriptState) {statement : Statement} (so : CallsSo statement stands call) (pcb : Option Pcb) → pcb_at pcbs so.pcb ≡ pcb → IsCallOn databases so.function so.ssas pcb
        → IsCallBy databases (call_text stands so.function so.pcb so.area so.ssas) pcb
    by stands so (Some (Database number options)) at h = (
      (pcb_of (IsPcbOf databases) pcbs so.pcb (Database number options) servable.databases_there at).0,
      in_order (slice_get databases (number - 1)) so.function so.ssas stands h,
    )
    by stands so (Some (Destination name)) at h = tt
    by stands so (Some Modifiable) at h = tt
    by stands so None at h = h
