-- The units of the records that a call tells.
use Rattle.std.proofs.Common.{◌≡◌, ℕ, zero, suc, ◌+◌, ◌-◌, ◌<◌, ◌≤◌, Bool, true, false, List, [], ◌∷◌, ◌++◌, max, slice_get, slice_index_or, refl, sym, subst, arith, Some, None}
use Rattle.std.specs.Prelude.{Option, if◌then◌else◌}
use Rattle.std.specs.List.{AllByRecursion}
use Rattle.std.specs.Option.{is_some, option_map_or}
use Rattle.tm_types.specs.declared.abend.AbendCode.{AbendCode}
use Rattle.tm_types.specs.declared.message.Message.{Message}
use Rattle.model_messages.specs.declared.conversation.PadChange.{PadChange}
use Rattle.model_messages.specs.declared.ended_message.EndedMessage.{EndedMessage}
use Rattle.model_system.specs.System.{System}
use Rattle.model_messages.specs.Outputs.{next_of}
use Rattle.model_machine.specs.declared.entry.ControlCall.{ControlCall}
use Rattle.model_machine.specs.declared.entry.ControlCall.TheVariants.{Turn}
use Rattle.model_machine.specs.declared.entry.Turned.{Turned}
use Rattle.model_machine.specs.declared.entry.Turned.TheVariants.{Scheduled, Called, Next, QC, Done, Abended, Idle, Held, Waits, Backed}
use Rattle.model_machine.specs.Machine.{LastingState, Moment, Slot, message_at, output_at}
use Rattle.model_machine.specs.LastingSteps.{LastingStep, output_sent}
use Rattle.model_machine.specs.LastingSteps.LastingStep.{Accepts, Acknowledges, Completes, Discards, Commands}
use Rattle.model_machine.specs.MachineCalls.{lasting_step}
use Rattle.log_records.specs.declared.record.Record.{Record}
use Rattle.log_records.specs.declared.record.Record.TheVariants.{Input, Command, Reply, Discarded, Completed, Acknowledged, SyncPoint, Checkpoint, Terminal, Code, Change}
use Rattle.model_image.specs.Counters.{unit_of_record, greatest_unit}
use Rattle.seg_store.specs.Slots.{Stored}
use Rattle.unit_work.specs.ToldChanges.{IsChangeTold}
use Rattle.model_image.specs.StepRecords.{output_records, completion_records, completed_by_step, discarded_by, step_records}
use Rattle.tm_machine.specs.Parts.{PartsState}
use Rattle.tm_machine.specs.ToldByCall.{told_records_of}
use Rattle.tm_machine.specs.SlotChanges.{TellByCall, TurnsSo, changes_told, turn_records}
use Rattle.journal.specs.UnitNumbers.{AreUnitsNumbered}
use Rattle.journal.specs.UnitNumbers as turning

-- ---- lists

most_both : (n : ℕ) (xs ys : List Record) → greatest_unit xs ≤ n → greatest_unit ys ≤ n → greatest_unit (xs ++ ys) ≤ n
most_both n [] ys one other = other
most_both n (r ∷ xs) ys one other = both (unit_of_record r) (greatest_unit xs) (greatest_unit (xs ++ ys)) n one (λ less. most_both n xs ys less other)
  where
    both : (u a b m : ℕ) → max u a ≤ m → (a ≤ m → b ≤ m) → max u b ≤ m
    both u a b m one more = let rest = more (omega (arith, one)) in omega (arith, one, rest)

most_more : (n u a : ℕ) → u ≤ n → a ≤ n → max u a ≤ n
most_more n u a one other = omega (arith, one, other)

-- ---- a step's records

output_most : (unit : ℕ) (b : Bool) (one other : Record) → unit_of_record one ≤ unit → unit_of_record other ≤ unit → unit_of_record (if b then one else other) ≤ unit
output_most unit true one other first second = first
output_most unit false one other first second = second

outputs_most : (unit : ℕ) (origin : List ℕ) (outputs : List EndedMessage) (lasting : LastingState) → greatest_unit (output_records unit origin outputs lasting) ≤ unit
outputs_most unit origin [] lasting = omega arith
outputs_most unit origin (output ∷ outputs) lasting =
    most_more unit _ _
    (output_most unit (is_some (output_at lasting.outputs output.to)) (Reply unit output.to (next_of output.to lasting.outputs) output.segments) (Input unit lasting.next_id origin output.to 0 false output.segments) (omega arith) (omega arith))
    (outputs_most unit origin outputs (output_sent origin output lasting))

completed_most : (unit : ℕ) (message : Option Message) (outputs : List EndedMessage) (pad : PadChange) (lasting : LastingState) → greatest_unit (completed_by_step unit message outputs pad lasting) ≤ unit
completed_most unit None outputs pad lasting = omega arith
completed_most unit (Some message) outputs pad lasting =
    most_both unit (completion_records unit message.origin message.id outputs lasting) (SyncPoint unit pad ∷ [])
    (most_both unit (output_records unit message.origin outputs lasting) (Completed unit message.id ∷ []) (outputs_most unit message.origin outputs lasting) (most_more unit unit 0 (omega arith) (omega arith)))
    (most_more unit unit 0 (omega arith) (omega arith))

discarded_most : (unit : ℕ) (message : Option Message) (abend : AbendCode) (lasting : LastingState) → greatest_unit (discarded_by unit message abend lasting) ≤ unit
discarded_most unit None abend lasting = omega arith
discarded_most unit (Some message) abend lasting = most_more unit unit 0 (omega arith) (omega arith)

step_most : (unit : ℕ) (step : LastingStep) (lasting : LastingState) → greatest_unit (step_records unit step lasting) ≤ unit
step_most unit (Accepts terminal number kept) lasting = most_more unit 0 0 (omega arith) (omega arith)
step_most unit (Acknowledges terminal) lasting = most_more unit 0 0 (omega arith) (omega arith)
step_most unit (Completes id rows outputs pad) lasting = completed_most unit (message_at lasting.messages id) outputs pad lasting
step_most unit (Discards id abend) lasting = discarded_most unit (message_at lasting.messages id) abend lasting
step_most unit (Commands command) lasting = most_more unit 0 0 (omega arith) (omega arith)

-- The records of a call's step are of its unit, or of none.
pub records_most : (system : System) (moment : Moment) (unit : ℕ) (call : ControlCall) → greatest_unit (told_records_of system moment unit call) ≤ unit
records_most system moment unit call = by (lasting_step system moment call)
  where
    by : (step : Option LastingStep) → greatest_unit (option_map_or (λ s. step_records unit s moment.lasting) step []) ≤ unit
    by None = omega arith
    by (Some step) = step_most unit step moment.lasting

-- ---- a turn's records

told_most : (unit : ℕ) (old new : List Stored) (records : List Record) → AllByRecursion (IsChangeTold unit old new) records → greatest_unit records ≤ unit
told_most unit old new [] all = omega arith
told_most unit old new (Change u database slot before after ∷ records) all = most_more unit u (greatest_unit records) (omega (arith, all.0.by)) (told_most unit old new records all.1)
told_most unit old new (Input u id origin code number conversation segments ∷ records) all = absurd all.0
told_most unit old new (Command text ∷ records) all = absurd all.0
told_most unit old new (Reply u terminal number segments ∷ records) all = absurd all.0
told_most unit old new (Discarded u id abend number ∷ records) all = absurd all.0
told_most unit old new (Completed u id ∷ records) all = absurd all.0
told_most unit old new (Acknowledged terminal number ∷ records) all = absurd all.0
told_most unit old new (SyncPoint u pad ∷ records) all = absurd all.0
told_most unit old new (Checkpoint checkpoint next_id next_unit steps ∷ records) all = absurd all.0
told_most unit old new (Terminal name last next stopped conversation ∷ records) all = absurd all.0
told_most unit old new (Code name stopped class priority ∷ records) all = absurd all.0

none_most : (unit : ℕ) (records : List Record) → records ≡ [] → greatest_unit records ≤ unit
none_most unit records none = subst (λ (rs : List Record). greatest_unit rs ≤ unit) (sym none) (omega arith)

module _ (parts parts' : PartsState) (unit region : ℕ) where
  changes_most : (turned : Turned) → TurnsSo parts parts' unit region turned → TellByCall (changes_told parts unit region) turned → greatest_unit (changes_told parts unit region) ≤ unit
  changes_most (Called function pcb status) turns quiet = told_most unit _ _ (changes_told parts unit region) turns.told.each
  changes_most (Scheduled code id) turns quiet = none_most unit (changes_told parts unit region) quiet
  changes_most (Next code id further) turns quiet = none_most unit (changes_told parts unit region) quiet
  changes_most (QC code id) turns quiet = none_most unit (changes_told parts unit region) quiet
  changes_most (Done code id) turns quiet = none_most unit (changes_told parts unit region) quiet
  changes_most (Abended code id abend) turns quiet = none_most unit (changes_told parts unit region) quiet
  changes_most Idle turns quiet = none_most unit (changes_told parts unit region) quiet
  changes_most (Held need limit) turns quiet = none_most unit (changes_told parts unit region) quiet
  changes_most (Waits resource by) turns quiet = none_most unit (changes_told parts unit region) quiet
  changes_most (Backed victims) turns quiet = none_most unit (changes_told parts unit region) quiet

  -- So are those of a turn.
  pub turn_most : (turned : Turned) → TurnsSo parts parts' unit region turned → TellByCall (changes_told parts unit region) turned → greatest_unit (turn_records parts unit region) ≤ unit
  turn_most turned turns quiet =
      most_both unit (changes_told parts unit region) (told_records_of parts.system parts.moment unit (Turn region)) (changes_most turned turns quiet) (records_most parts.system parts.moment unit (Turn region))

-- A region's unit is below the next one.
pub unit_below : (slots : List (Option Slot)) (units : List ℕ) (next region : ℕ) → AreUnitsNumbered slots units next → turning.unit_of_region units region < next
unit_below slots units next region numbers = at units (region - 1) (λ place unit found. numbers.below place unit found)
  where
    at : (us : List ℕ) (place : ℕ) → ((p unit : ℕ) → slice_get us p ≡ Some unit → unit < next) → slice_index_or us place 0 < next
    at [] place below = numbers.some
    at (u ∷ us) zero below = below 0 u refl
    at (u ∷ us) (suc place) below = at us place (λ p unit found. below (suc p) unit found)
