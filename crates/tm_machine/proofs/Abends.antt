-- The number of an abend, and the segments of outputs, are as records have room for.
use Rattle.std.proofs.Common.{◌≡◌, ℕ, ◌+◌, ◌-◌, List, subst}
use Rattle.std.specs.Prelude.{Option, Some, None, IfSome, IsSomeAnd, slice_get}
use Rattle.tm_types.specs.declared.abend.AbendCode.{AbendCode}
use Rattle.model_messages.specs.MessageCalls.{finish_work}
use Rattle.model_messages.specs.MessageWork.{MessageWork}
use Rattle.model_system.specs.declared.code_state.CodeState.{CodeState}
use Rattle.model_system.specs.Jobs.{Job, job_of}
use Rattle.model_system.specs.System.{System}
use Rattle.model_machine.specs.Machine.{Slot, slot_at}
use Rattle.model_machine.specs.Trial.{Given}
use Rattle.model_machine.specs.Trial.WorkEnd.{Abends}
use Rattle.message_run.specs.RunState.{RunState}
use Rattle.program_rows.specs.DatabasesState.{DatabasesState, committed_rows}
use Rattle.lasting_state.specs.Tables.{TablesState}
use Rattle.log_records.specs.RecordSpelling.{IsAbend}
use Rattle.image_law.proofs.Abends.{AreAllowed, slot_right}
use Rattle.image_law.proofs.Counts.{outputs_have}
use Rattle.image_law.proofs.Jobs.{job_found}
use Rattle.image_law.proofs.Trials.{IsJob}
use Rattle.lasting_state.specs.RecordRanges.{HaveCounts}
use Rattle.region_work.specs.declared.region.Busy.{Busy}
use Rattle.tm_machine.specs.WorkEnds.{EndsSo, SlotEnds}
use Rattle.tm_machine.specs.Parts.{PartsState, AreParts}
use Rattle.region_work.specs.RegionWork.{IsRegionUnit, given_in, outputs_by}

pub ends_right : (state : PartsState) (region : ℕ) (slot : Slot) (abend : AbendCode) → slot_at state.moment region ≡ Some slot → IfSome (job_of state.system slot.code) (λ job. AreAllowed job.lines)
    → EndsSo state region (Abends abend) → IsAbend abend.number
ends_right state region slot abend here allowed ends =
    let slot_ends : SlotEnds state region (Abends abend) slot = subst (λ (found : Option Slot). IsSomeAnd found (SlotEnds state region (Abends abend))) here ends in
    slot_right state.system state.moment.lasting slot abend allowed slot_ends.stops

-- what a region's work sends
unit_counts : (job : Job) → IsJob job → (given : Given) (region : ℕ) (databases : DatabasesState) (unit : Option RunState) → IsRegionUnit job given region databases unit → HaveCounts (outputs_by unit)
unit_counts job is given region databases None clean = tt
unit_counts job is given region databases (Some run) ahead =
    subst (λ (work : MessageWork). HaveCounts (finish_work work).ended) ahead.work (outputs_have job is (committed_rows databases) given run.calls ahead.trial ahead.made)

pub outputs_right : (system : System) (tables : TablesState) (states : List CodeState) (regions : List (Option Busy)) → AreParts system tables states regions
    → (region : ℕ) (busy : Busy) → slice_get regions (region - 1) ≡ Some (Some busy) → HaveCounts (outputs_by busy.unit)
outputs_right system tables states regions parts region busy here =
    let at = parts.at_work (region - 1) busy here in
    unit_counts at.work.job (job_found system busy.code at.work.job parts.valid at.work.serves).is_job (given_in tables.conversations at.message) (region - 1 + 1) tables.databases busy.unit at.work.unit
