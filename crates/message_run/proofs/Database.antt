-- What a call on a database comes to.
use Rattle.std.proofs.Common.{◌≡◌, ℕ, ◌-◌, ◌≤◌, List, [], length, get_or, sym, ◌∙◌, ap, refl, subst, arith}
use Rattle.std.specs.Prelude.{Option, Some, None, All, IsSome, IsSomeAnd, slice_get, slice_set}
use Rattle.std.specs.Option.{option_map_or}
use Rattle.std.proofs.lemmas.Option.{get_or_from_slice_get, slice_get_within}
use Rattle.std.proofs.lemmas.List.Elements.{All-weaker}
use Rattle.tm_types.specs.declared.abend.AbendCode.{AbendCode}
use Rattle.tm_types.specs.declared.dbd.Dbd.{Dbd}
use Rattle.tm_types.specs.declared.dbd.SegType.{SegType}
use Rattle.tm_types.specs.declared.resource.Resource.{Resource}
use Rattle.tm_types.specs.Segment.{IsSegmentText}
use Rattle.model_system.specs.declared.need.CallText.{CallText}
use Rattle.model_system.specs.Script.{Answer}
use Rattle.model_system.specs.declared.pcb.Pcb.{Pcb}
use Rattle.model_system.specs.declared.pcb.Pcb.TheVariants.{Database}
use Rattle.model_system.specs.System.{System}
use Rattle.model_data.specs.declared.call.DbCall.{DbCall}
use Rattle.model_data.specs.declared.call.Position.{Position}
use Rattle.model_data.specs.Conditions.{AreSsasOf, IsDbCall, IsPosition}
use Rattle.model_data.specs.Data.{data_abend, nowhere, position_at}
use Rattle.model_data.specs.DatabaseCalls.{DliResult, dli}
use Rattle.model_data.specs.declared.request.Request.{Request}
use Rattle.model_data.specs.EnqueueRequests.{after_asks, first_blocked}
use Rattle.model_machine.specs.Trial.{DbPcb, Outcome, Reached, Rows, Nothing, db_outcome, reached_by}
use Rattle.program_rows.specs.DatabasesState.{DatabasesState, IsRegionOf, data_of, region_at, rows_numbered}
use Rattle.program_rows.specs.Isolation.{requests_of_call}
use Rattle.program_rows.specs.CallAnswers.{IsAnswer, rows_after_call, told_blocked}
use Rattle.program_rows.specs.declared.answer.Answered.{Answered as DataAnswered}
use Rattle.system_types.specs.ValidSystem.{IsDatabase}
use Rattle.log_records.specs.declared.record.Record.{Record}
use Rattle.log_records.specs.declared.untold.Untold.{Untold}
use Rattle.program_rows.specs.SlotsState.{slots_state_of, CallsSo}
use Rattle.log_records.specs.ToldRecords.{TellsInRoom, AreRecordsUntold}
use Rattle.program_rows.specs.ToldChanges.{call_told}
use Rattle.message_run.specs.MessageChanges.{reach_told, TellsNext}
use Rattle.message_run.proofs.Calls.{all_at}
use Rattle.message_run.proofs.Regions.{set_region}
use Rattle.message_run.proofs.Standing.{one_stands}
use Rattle.message_run.specs.RunState.{RunState, AreStanding, IsCallBy}
use Rattle.script_run.specs.RunningScript.{answered_machine}
use Rattle.message_run.specs.CallOutcomes.{AnswersCall, AreGranted, AreBlocked, outcome_of, requests_by_run, told_run}

-- the arguments of a call on a database that is there are in order
pub is_db_call : (databases : List Dbd) (call : CallText) (number options : ℕ) (dbd : Dbd) → IsCallBy databases call (Some (Database number options))
    → slice_get databases (number - 1) ≡ Some dbd → IsSegmentText call.area
    → IsDbCall dbd.types (record { function = call.function; options = options; area = call.area; ssas = call.ssas })
is_db_call databases call number options dbd has e text = record {
  ssas = subst (λ o. IsSomeAnd o (λ (d : Dbd). AreSsasOf call.function d.types call.ssas)) e has.1;
  area = text.1;
}

some_of : (found : Option Dbd) (P : Dbd → Type 0) → IsSomeAnd found P → IsSome found
some_of (Some dbd) P h = refl
some_of None P h = absurd h

pub is_numbered : (databases : List Dbd) (call : CallText) (number options : ℕ) → IsCallBy databases call (Some (Database number options)) → IsSome (slice_get databases (number - 1))
is_numbered databases call number options has = some_of (slice_get databases (number - 1)) (λ dbd. AreSsasOf call.function dbd.types call.ssas) has.1

pub numbered_valid : (databases lent : List Dbd) (place : ℕ) (dbd : Dbd) → lent ≡ databases → All IsDatabase databases → IsSome (slice_get databases place)
    → dbd ≡ get_or lent place dbd → IsDatabase dbd
numbered_valid databases lent place dbd same valid some at = by (slice_get databases place) refl some
  where
    by : (found : Option Dbd) → slice_get databases place ≡ found → IsSome found → IsDatabase dbd
    by None e h = absurd (cc)
    by (Some there) e h =
        subst IsDatabase (sym (at ∙ (ap (λ ds. get_or ds place dbd) same ∙ get_or_from_slice_get databases place there dbd e))) (all_at IsDatabase databases place there valid e)

pub few_types : (dbd : Dbd) → IsDatabase dbd → length dbd.types ≤ 255
few_types dbd valid = omega (arith, valid.few_types)

pub few_sectors : (dbd : Dbd) → IsDatabase dbd → dbd.sectors ≤ 8
few_sectors dbd valid = valid.few_sectors

short_type : (type : SegType) → type.bytes ≤ 1900 → type.bytes ≤ 1996
short_type type few = omega arith

pub short_types : (dbd : Dbd) → IsDatabase dbd → All (λ type. type.bytes ≤ 1996) dbd.types
short_types dbd valid = All-weaker (λ type. type.bytes ≤ 1900) (λ type. type.bytes ≤ 1996) short_type dbd.types valid.short

-- a PCB that is there has a position
pub has_position : (databases : List Dbd) (pcbs : List Pcb) (positions : List Position) (pcb : ℕ) (kind : Pcb) → AreStanding databases pcbs positions → 1 ≤ pcb
    → slice_get pcbs (pcb - 1) ≡ Some kind → pcb ≤ length positions
has_position databases pcbs positions pcb kind standing some e = omega (arith, slice_get_within pcbs (pcb - 1) kind e, standing.count)

told_none : (found : Option (Request × ℕ)) → told_blocked found ≡ None → found ≡ None
told_none None e = refl
told_none (Some found) e = absurd (cc)

module _ (system : System) (region : ℕ) (before : DatabasesState) (run : RunState) (call : CallText) (number options : ℕ) (dbd : Dbd) (at : Position)
    (database : slice_get system.databases (number - 1) ≡ Some dbd) (stands : slice_get run.positions (call.pcb - 1) ≡ Some at) where
  abbrev made : DbCall
  made = record { function = call.function; options = options; area = call.area; ssas = call.ssas }

  abbrev result : DliResult
  result = dli dbd made at (rows_numbered region number before)

  abbrev reaches : Reached
  reaches = reached_by system.databases (Some (Database number options))

  abbrev comes : Outcome
  comes = outcome_of system reaches region before run call

  abbrev asks : List Request
  asks = requests_by_run reaches region before run call

  abbrev target : DbPcb
  target = record { number = number; dbd = dbd; options = options }

  at_is : position_at (data_of region before run.positions) call.pcb ≡ at
  at_is = get_or_from_slice_get run.positions (call.pcb - 1) at nowhere stands

  reaches_is : reaches ≡ Rows target
  reaches_is = ap (λ (found : Option Dbd). option_map_or (λ d. Rows (record { number = number; dbd = d; options = options })) found Nothing) database

  outcome_is : comes ≡ db_outcome target run.work (data_of region before run.positions) call result
  outcome_is =
      ap (λ (r : Reached). outcome_of system r region before run call) reaches_is
      ∙ ap (λ (p : Position). db_outcome target run.work (data_of region before run.positions) call (dli dbd made p (rows_numbered region number before))) at_is

  pub asks_are : asks ≡ requests_of_call region number dbd made at before
  asks_are =
      ap (λ (r : Reached). requests_by_run r region before run call) reaches_is
      ∙ ap (λ (p : Position). requests_of_call region number dbd made p before) at_is

  abbrev abend_is : Option AbendCode
  abend_is = data_abend number (data_of region before []) result

  pub leads : (abend : AbendCode) → abend_is ≡ Some abend → comes.abend ≡ Some abend
  leads abend e = ap (λ (o : Outcome). o.abend) outcome_is ∙ e

  pub are_free : None ≡ told_blocked (first_blocked (requests_of_call region number dbd made at before) before.table) → first_blocked asks before.table ≡ None
  are_free free = ap (λ rs. first_blocked rs before.table) asks_are ∙ told_none (first_blocked (requests_of_call region number dbd made at before) before.table) (sym free)

  -- what was asked for is granted where none of it is blocked
  pub are_granted : (after : DatabasesState) → None ≡ told_blocked (first_blocked (requests_of_call region number dbd made at before) before.table)
      → after.table ≡ after_asks region (requests_of_call region number dbd made at before) before.table
      → AreGranted region asks before after
  are_granted after free asked = record {
    free = are_free free;
    asked = asked ∙ ap (λ rs. after_asks region rs before.table) (sym asks_are);
  }

  pub are_blocked : (after : DatabasesState) (resource : Resource) (by : ℕ)
      → Some (resource, by) ≡ told_blocked (first_blocked (requests_of_call region number dbd made at before) before.table)
      → after.table ≡ after_asks region (requests_of_call region number dbd made at before) before.table
      → AreBlocked region asks before after resource by
  are_blocked after resource by blocked asked = record {
    blocked = ap (λ rs. told_blocked (first_blocked rs before.table)) asks_are ∙ sym blocked;
    asked = asked ∙ ap (λ rs. after_asks region rs before.table) (sym asks_are);
  }

  pub answers : (after : DatabasesState) (given : DataAnswered) → IsRegionOf before region → abend_is ≡ None
      → IsAnswer result given → after.regions ≡ slice_set before.regions (region - 1) (rows_after_call number result (region_at region before))
      → AnswersCall region comes after run (told_run call.pcb given run) given.status
  answers after given there goes answer left =
      let seen = set_region before region there (rows_after_call number result (region_at region before)) after left in
      record {
        calls = refl;
        machine =
            ap (λ (a : Answer). answered_machine run.machine a) ((λ i. record { status = answer.status i; area = answer.area i }) ∙ sym (ap (λ (o : Outcome). o.answer) outcome_is));
        work = sym (ap (λ (o : Outcome). o.work) outcome_is);
        seen =
            (λ i. record { rows = (seen i).rows; positions = slice_set run.positions (call.pcb - 1) (answer.position i); changed = (seen i).changed })
            ∙ sym (ap (λ (o : Outcome). o.databases) outcome_is);
        told = answer.status ∙ sym (ap (λ (o : Outcome). o.answer.status) outcome_is);
        goes_on = ap (λ (o : Outcome). o.abend) outcome_is ∙ goes;
      }

  -- what it tells
  tells_are : (unit : ℕ) → call_told unit region number dbd made at before ≡ reach_told unit region before reaches (data_of region before run.positions) call
  tells_are unit =
      sym (ap (λ (r : Reached). reach_told unit region before r (data_of region before run.positions) call) reaches_is
      ∙ ap (λ (p : Position). call_told unit region number dbd made p before) at_is)

  pub tells_so : (unit room : ℕ) (after : DatabasesState) (old now : List ℕ) → TellsInRoom (call_told unit region number dbd made at before) room old now
      → CallsSo unit region (slots_state_of before) (slots_state_of after) (call_told unit region number dbd made at before)
      → TellsNext unit room region before after old now (reach_told unit region before reaches (data_of region before run.positions) call)
  tells_so unit room after old now tells slots =
      subst (λ (rs : List Record). TellsNext unit room region before after old now rs) (tells_are unit) (record { tells = tells; slots = slots })

  pub untold_so : (unit room : ℕ) (error : Untold) → AreRecordsUntold (call_told unit region number dbd made at before) room error
      → AreRecordsUntold (reach_told unit region before reaches (data_of region before run.positions) call) room error
  untold_so unit room error u = subst (λ (rs : List Record). AreRecordsUntold rs room error) (tells_are unit) u

-- the PCB of an answered call stands at a position of its database, and the others as before
pub told_stand : (databases : List Dbd) (pcbs : List Pcb) (old : RunState) (pcb number options : ℕ) (dbd : Dbd) (given : DataAnswered)
    → AreStanding databases pcbs old.positions → slice_get pcbs (pcb - 1) ≡ Some (Database number options) → slice_get databases (number - 1) ≡ Some dbd
    → IsPosition dbd.types given.position
    → AreStanding databases pcbs (told_run pcb given old).positions
told_stand databases pcbs old pcb number options dbd given standing kind database valid =
    one_stands databases pcbs old.positions (slice_set old.positions (pcb - 1) given.position) (pcb - 1) number options dbd given.position standing kind database valid refl
