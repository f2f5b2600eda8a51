use Rattle.std.proofs.Common.{rules, ◌-◌, ◌∷◌, ◌≡◌, ◌∙◌, ap, sym, subst}
use Rattle.std.specs.Prelude.{IsSome}
use Rattle.model_messages.specs.Queue.{queued_at}
use Rattle.model_machine.specs.LastingSteps.{LastingStep}
use Rattle.model_machine.specs.LastingSteps.LastingStep.{Completes}
use Rattle.program_rows.specs.DatabasesState.{region_at}
use Rattle.lasting_state.specs.RecordRanges.{HaveCounts}
use Rattle.lasting_state.specs.ToldSteps.{AreRecordsLonger, TellsStep}
use Rattle.tm_machine.proofs.Full.{err_where}
use Rattle.region_work.specs.declared.region.Busy.{Busy}
use Rattle.region_work.specs.WorkEnds.{destinations}
use Rattle.region_work.specs.RegionWork.{outputs_by}
use Rattle.tm_machine.specs.WorkEnds.{IsCompleted, completion_of}
use Rattle.tm_machine.proofs.Ended.{completed, completes, same_busy}
use Rattle.tm_machine.proofs.Telling.{short_pad}
use Rattle.tm_machine.proofs.finish.end_work.Goals as goal

pub complete-requires-clause-found : goal.complete-requires-clause-found
complete-requires-clause-found c = subst (λ (b : Busy). IsSome (queued_at b.id c.args.tables.now.queues.queued)) (sym (same_busy c.args.regions.now.items c.as_slice.result.now (c.args.region - 1) c.busy_at-busy.result.now c.requires.may.busy c.as_slice.ensures.value c.busy_at-busy.ensures c.requires.may.works_on)) c.requires.may.found

pub complete-requires-clause-counts : goal.complete-requires-clause-counts
complete-requires-clause-counts c = subst HaveCounts (sym c.in_ok-outputs.ensures) (subst (λ (b : Busy). HaveCounts (outputs_by b.unit)) (sym (same_busy c.args.regions.now.items c.as_slice.result.now (c.args.region - 1) c.busy_at-busy.result.now c.requires.may.busy c.as_slice.ensures.value c.busy_at-busy.ensures c.requires.may.works_on)) c.requires.may.counts)

pub complete-requires-clause-pad : goal.complete-requires-clause-pad
complete-requires-clause-pad c = short_pad c.busy_at-busy.result.now.unit c.in_ok-pad.pad c.in_ok-pad.ensures.value c.in_ok-pad.ensures.suits

pub returns-clause-names : goal.returns-clause-names
returns-clause-names c = λ busy is.
    subst (λ (b : Busy). c.in_ok-names.names.items ≡ b.code ∷ destinations (outputs_by b.unit)) (same_busy c.args.regions.now.items c.as_slice.result.now (c.args.region - 1) c.busy_at-busy.result.now busy c.as_slice.ensures.value c.busy_at-busy.ensures is)
    (c.in_ok-names.ensures ∙ ap (λ os. c.busy_at-busy.result.now.code ∷ destinations os) c.in_ok-outputs.ensures)

pub returns-clause-completed : goal.returns-clause-completed
returns-clause-completed c = λ busy is.
    subst (λ (b : Busy). IsCompleted c.args.region b c.args.tables.now c.complete.new.tables) (same_busy c.args.regions.now.items c.as_slice.result.now (c.args.region - 1) c.busy_at-busy.result.now busy c.as_slice.ensures.value c.busy_at-busy.ensures is)
    (completed c.args.region c.args.tables.now c.busy_at-busy.result.now c.in_ok-outputs.outputs.items c.in_ok-outputs.ensures c.in_ok-pad.pad c.in_ok-pad.ensures.value c.complete.new.tables c.in_ok-pad.ensures.suits c.in_ok-complete.ensures.above
    c.in_ok-complete.ensures.closed c.in_ok-complete.ensures.step c.in_ok-complete.ensures.databases c.in_ok-complete.ensures.dbds c.in_ok-complete.ensures.rows)

pub returns-clause-told : goal.returns-clause-told
returns-clause-told c = λ busy is.
    subst (λ (b : Busy). TellsStep c.args.telling.now.unit c.args.telling.now.room (completion_of c.args.region c.args.tables.now b) c.args.tables.now c.args.telling.now.told.items c.complete.new.telling.told.items) (same_busy c.args.regions.now.items c.as_slice.result.now (c.args.region - 1) c.busy_at-busy.result.now busy c.as_slice.ensures.value c.busy_at-busy.ensures is)
    (subst (λ (s : LastingStep). TellsStep c.args.telling.now.unit c.args.telling.now.room s c.args.tables.now c.args.telling.now.told.items c.complete.new.telling.told.items) (completes c.args.region c.args.tables.now c.busy_at-busy.result.now c.in_ok-outputs.outputs.items c.in_ok-outputs.ensures c.in_ok-pad.pad c.in_ok-pad.ensures.value) c.in_ok-complete.ensures.told)

pub returns-in_err-complete-clause-full : goal.returns-in_err-complete-clause-full
returns-in_err-complete-clause-full c =
    err_where c.from_residual-in_err-complete.result
    (λ (longer : AreRecordsLonger c.args.telling.now.unit c.args.telling.now.room (Completes c.busy_at-busy.result.now.id (region_at c.args.region c.args.tables.now.databases).rows c.in_ok-outputs.outputs.items c.in_ok-pad.pad) c.args.tables.now) busy is.
    subst (λ (b : Busy). AreRecordsLonger c.args.telling.now.unit c.args.telling.now.room (completion_of c.args.region c.args.tables.now b) c.args.tables.now) (same_busy c.args.regions.now.items c.as_slice.result.now (c.args.region - 1) c.busy_at-busy.result.now busy c.as_slice.ensures.value c.busy_at-busy.ensures is)
    (subst (λ (s : LastingStep). AreRecordsLonger c.args.telling.now.unit c.args.telling.now.room s c.args.tables.now) (completes c.args.region c.args.tables.now c.busy_at-busy.result.now c.in_ok-outputs.outputs.items c.in_ok-outputs.ensures c.in_ok-pad.pad c.in_ok-pad.ensures.value) longer))
    (search rules)
