-- What a step of the work tells, by what its script needs next.
use Rattle.std.proofs.Common.{◌≡◌, ℕ, ◌≤◌, ◌++◌, ◌∷◌, [], List, map, suc, refl, sym, ◌∙◌, ap, subst, Bool, true, false, arith}
use Rattle.std.specs.Prelude.{Option, Some, None, Result, Ok, Err, IfOk, OnErr, ◌==◌, ◌&&◌, if◌then◌else◌, slice_get, replicate}
use Rattle.std.specs.List.{AllByRecursion}
use Rattle.tm_types.specs.declared.dbd.Dbd.{Dbd}
use Rattle.tm_types.specs.declared.function.Function.{Function}
use Rattle.tm_types.specs.declared.function.Function.TheVariants.{GU, GN, GNP, GHU, GHN, GHNP, ISRT, REPL, DLET, PURG, CHNG, ROLB, ROLL}
use Rattle.model_system.specs.declared.need.CallText.{CallText}
use Rattle.model_system.specs.declared.need.Need.{Need}
use Rattle.model_system.specs.declared.need.Need.TheVariants.{Call}
use Rattle.model_system.specs.Script.{need_at}
use Rattle.model_system.specs.declared.pcb.Pcb.{Pcb}
use Rattle.model_system.specs.Jobs.{Job}
use Rattle.model_system.specs.Pcbs.{pcb_at}
use Rattle.model_messages.specs.MessageWork.{MessageWork}
use Rattle.model_data.specs.Data.{Data}
use Rattle.model_machine.specs.Trial.{Given, Trial, pcb_reached, reached_by, is_sync, is_get_unique}
use Rattle.model_machine.specs.Trial.Reached.{Messages}
use Rattle.seg_store.specs.Slots.{Stored}
use Rattle.system_types.specs.ValidSystem.{IsDatabase, IsSystem}
use Rattle.model_system.specs.System.{System}
use Rattle.log_records.specs.declared.record.Record.{Record}
use Rattle.log_records.specs.declared.untold.Untold.{Untold}
use Rattle.program_rows.specs.DatabasesState.{DatabasesState, data_of}
use Rattle.program_rows.specs.CallAnswers.{told_blocked}
use Rattle.log_records.specs.ToldRecords.{spelled_records, TellsInRoom, AreRecordsUntold}
use Rattle.program_rows.specs.ToldChanges.{unless_stopped}
use Rattle.tm_types.specs.declared.abend.AbendCode.{AbendCode}
use Rattle.tm_types.specs.declared.resource.Resource.{Resource}
use Rattle.model_data.specs.declared.request.Request.{Request}
use Rattle.program_rows.specs.SlotsState.{slots_state_of}
use Rattle.program_rows.proofs.Slotted.{calls_none}
use Rattle.message_run.specs.RunState.{RunState}
use Rattle.message_run.specs.WorkAhead.{IsAhead}
use Rattle.message_run.specs.MessageChanges.{message_told, reach_told, need_told, next_told, TellsNext, TellsOn, IsUntoldOn}
use Rattle.message_run.proofs.Steps.{trial_needs}
use Rattle.message_run.proofs.Calls.{all_at}
use Rattle.message_run.proofs.Standing.{all_nowhere}
use Rattle.model_data.specs.Data.{nowhere}
use Rattle.message_run.specs.RunState.{AreStanding}
use Rattle.message_run.specs.CallOutcomes.{IfAnswered, IsRolled, RollsBack}
use Rattle.message_run.specs.declared.answer.CallEnd.{CallEnd}
use Rattle.message_run.specs.declared.answer.CallEnd.TheVariants.{Answered, Abended, Waits}
use Rattle.program_rows.proofs.Retold.{append_nil}

-- nothing is told, and no slot has changed
pub tells_nothing : (unit room region : ℕ) (before after : DatabasesState) (xs : List ℕ) → slots_state_of after ≡ slots_state_of before → TellsNext unit room region before after xs xs []
tells_nothing unit room region before after xs e =
    record {
      tells = record { told = sym (append_nil xs); valid = tt; fits = omega arith };
      slots = calls_none unit region (slots_state_of before) (slots_state_of after) [] refl e;
    }

-- a call that leads to an abend tells nothing
none_stopped : (blocked : Option (Request × ℕ)) (code : AbendCode) (records : List Record) → unless_stopped blocked (Some code) records ≡ []
none_stopped None code records = refl
none_stopped (Some blocked) code records = refl

tells_none : (records : List Record) (room : ℕ) (told now : List ℕ) → records ≡ [] → TellsInRoom records room told now → now ≡ told
tells_none records room told now none t = t.told ∙ (ap (λ rs. told ++ spelled_records rs) none ∙ append_nil told)

pub quiet_abend : (blocked : Option (Request × ℕ)) (abend : Option AbendCode) (code : AbendCode) (records : List Record) (room : ℕ) (told now : List ℕ) → abend ≡ Some code
    → TellsInRoom (unless_stopped blocked abend records) room told now → now ≡ told
quiet_abend blocked abend code records room told now e t =
    tells_none (unless_stopped blocked abend records) room told now (ap (λ a. unless_stopped blocked a records) e ∙ none_stopped blocked code records) t

-- and so does one that is blocked
pub quiet_blocked : (blocked : Option (Request × ℕ)) (at : Resource × ℕ) (abend : Option AbendCode) (records : List Record) (room : ℕ) (told now : List ℕ) → Some at ≡ told_blocked blocked
    → TellsInRoom (unless_stopped blocked abend records) room told now → now ≡ told
quiet_blocked None at abend records room told now e t = let clash : Some at ≡ None = e in absurd (cc)
quiet_blocked (Some blocked) at None records room told now e t = tells_none [] room told now refl t
quiet_blocked (Some blocked) at (Some code) records room told now e t = tells_none [] room told now refl t

-- a further GU tells nothing
by_pcb : (unit region : ℕ) (databases : DatabasesState) (dbds : List Dbd) (pcbs : List Pcb) (d : Data) (call : CallText) (first : Bool) → first ≡ true → is_get_unique call.function ≡ true
    → reach_told unit region databases (if first then Messages else reached_by dbds (pcb_at pcbs call.pcb)) d call ≡ []
by_pcb unit region databases dbds pcbs d call false e g = absurd (cc)
by_pcb unit region databases dbds pcbs d call true e g = by call.function g
  where
    by : (f : Function) → is_get_unique f ≡ true → message_told unit region databases f ≡ []
    by GU q = refl
    by GN q = refl
    by GNP q = refl
    by GHU q = refl
    by GHN q = refl
    by GHNP q = refl
    by ISRT q = refl
    by REPL q = refl
    by DLET q = refl
    by PURG q = refl
    by CHNG q = refl
    by ROLB q = absurd (cc)
    by ROLL q = refl

sync_tells : (unit region : ℕ) (databases : DatabasesState) (dbds : List Dbd) (pcbs : List Pcb) (work : MessageWork) (d : Data) (call : CallText) → is_sync work call ≡ true
    → reach_told unit region databases (pcb_reached dbds pcbs call.pcb) d call ≡ []
sync_tells unit region databases dbds pcbs work d call e =
    let both = parts work.begun (call.pcb == 0) (is_get_unique call.function) e in by_pcb unit region databases dbds pcbs d call (call.pcb == 0) both.0 both.1
  where
    parts : (a b c : Bool) → a && b && c ≡ true → (b ≡ true) × (c ≡ true)
    parts true true true h = (refl, refl)
    parts true true false h = absurd (cc)
    parts true false c h = absurd (cc)
    parts false b c h = absurd (cc)

-- a record of the databases has at most eight sectors
sectors_by : (dbds : List Dbd) (stores : List Stored) → ((i : ℕ) (d : Dbd) → slice_get dbds i ≡ Some d → IsDatabase d) → map (λ (s : Stored). s.dbd) stores ≡ dbds
    → AllByRecursion (λ s. s.dbd.sectors ≤ 8) stores
sectors_by dbds [] h e = tt
sectors_by [] (s ∷ stores) h e = let clash : s.dbd ∷ map (λ (x : Stored). x.dbd) stores ≡ [] = e in absurd (cc)
sectors_by (d ∷ dbds) (s ∷ stores) h e =
    let both : s.dbd ∷ map (λ (x : Stored). x.dbd) stores ≡ d ∷ dbds = e in
    let head : s.dbd ≡ d = cc in
    let tail : map (λ (x : Stored). x.dbd) stores ≡ dbds = cc in
    (subst (λ (x : Dbd). x.sectors ≤ 8) (sym head) (h 0 d refl).few_sectors, sectors_by dbds stores (λ i x q. h (suc i) x q) tail)

pub few_sectors : (system : System) (stores : List Stored) → IsSystem system → map (λ (s : Stored). s.dbd) stores ≡ system.databases → AllByRecursion (λ s. s.dbd.sectors ≤ 8) stores
few_sectors system stores valid e = sectors_by system.databases stores (λ i d q. all_at IsDatabase system.databases i d valid.databases q) e

module _ (unit room : ℕ) (job : Job) (region : ℕ) (databases : DatabasesState) (run : RunState) (need : Need)
    (needs : need ≡ need_at job.lines run.machine.limit run.machine.script) where
  need_is : (given : Given) (ahead : IsAhead job given region databases run) → next_told unit region databases job ahead.trial ≡ need_told unit region databases job ahead.trial need
  need_is given ahead = ap (need_told unit region databases job ahead.trial) (trial_needs job given region databases run ahead need needs)

  -- a script that needs no call tells nothing
  pub silent_on : (xs : List ℕ) → ((trial : Trial) → need_told unit region databases job trial need ≡ []) → TellsOn unit room job region databases databases run xs xs
  silent_on xs none given ahead =
      subst (λ rs. TellsNext unit room region databases databases xs xs rs) (sym (need_is given ahead ∙ none ahead.trial)) (tells_nothing unit room region databases databases xs refl)

  module _ (call : CallText) (e : need ≡ Call call) where
    call_is : (given : Given) (ahead : IsAhead job given region databases run)
        → next_told unit region databases job ahead.trial ≡ reach_told unit region databases (pcb_reached job.system.databases job.pcbs call.pcb) (data_of region databases run.positions) call
    call_is given ahead =
        need_is given ahead
        ∙ (ap (need_told unit region databases job ahead.trial) e
        ∙ ap (λ d. reach_told unit region databases (pcb_reached job.system.databases job.pcbs call.pcb) d call) ahead.seen)

    pub sync_on : (xs : List ℕ) → is_sync run.work call ≡ true → TellsOn unit room job region databases databases run xs xs
    sync_on xs further given ahead =
        subst (λ rs. TellsNext unit room region databases databases xs xs rs)
        (sym (call_is given ahead ∙ sync_tells unit region databases job.system.databases job.pcbs run.work (data_of region databases run.positions) call further))
        (tells_nothing unit room region databases databases xs refl)

    pub told_on : (after : DatabasesState) (old now : List ℕ)
        → TellsNext unit room region databases after old now (reach_told unit region databases (pcb_reached job.system.databases job.pcbs call.pcb) (data_of region databases run.positions) call)
        → TellsOn unit room job region databases after run old now
    told_on after old now t given ahead = subst (λ rs. TellsNext unit room region databases after old now rs) (sym (call_is given ahead)) t

    pub untold_on : (error : Untold) → AreRecordsUntold (reach_told unit region databases (pcb_reached job.system.databases job.pcbs call.pcb) (data_of region databases run.positions) call) room error
        → IsUntoldOn unit room job region databases run error
    untold_on error u given ahead = subst (λ rs. AreRecordsUntold rs room error) (sym (call_is given ahead)) u

-- behind a ROLB the PCBs stand
pub rolled_stands : (region : ℕ) (before after : DatabasesState) (dbds : List Dbd) (pcbs : List Pcb) (old new : RunState) {E : Type 0} (r : Result CallEnd E) → IfOk r (IsRolled region before after old new)
    → OnErr r (new ≡ old) → AreStanding dbds pcbs old.positions → AreStanding dbds pcbs new.positions
rolled_stands region before after dbds pcbs old new (Err e) rolled err standing = subst (λ (x : RunState). AreStanding dbds pcbs x.positions) (sym err) standing
rolled_stands region before after dbds pcbs old new (Ok end) rolled err standing = by end rolled.rolls
  where
    by : (end : CallEnd) → IfAnswered (RollsBack old new) end → AreStanding dbds pcbs new.positions
    by (Answered status) rolls =
        all_nowhere dbds pcbs new.positions (ap (λ (x : RunState). x.positions) rolls.state ∙ ap (λ (n : ℕ). replicate n nowhere) standing.count)
    by (Abended abend) rolls = absurd rolls
    by (Waits resource other) rolls = absurd rolls
