-- A region's work is started, and goes on.
use Rattle.std.proofs.Common.{◌≡◌, sym, ap, ◌∙◌, subst, List, ℕ}
use Rattle.std.specs.Prelude.{Option, Some, None, IsSomeAnd, Result, Ok, Err, IfOk}
use Rattle.tm_types.specs.declared.message.Message.{Message}
use Rattle.model_messages.specs.declared.conversation.TerminalConversation.{TerminalConversation}
use Rattle.model_messages.specs.declared.queued.Queued.{Queued}
use Rattle.model_messages.specs.Queue.{queued_message, messages_of}
use Rattle.model_messages.proofs.Laws.{message_found}
use Rattle.model_system.specs.Jobs.{Job, job_of}
use Rattle.model_system.specs.System.{System}
use Rattle.system_types.specs.declared.job.Job.{Job as Lent}
use Rattle.system_types.specs.Jobs.{lent_job}
use Rattle.model_machine.specs.Trial.{Given, trial_of}
use Rattle.log_records.specs.declared.record.Record.{Record}
use Rattle.log_records.specs.declared.untold.Untold.{Untold}
use Rattle.log_records.specs.declared.untold.Untold.TheVariants.{Memory, Full}
use Rattle.lasting_state.specs.UntoldSteps.{WhereFull}
use Rattle.program_rows.specs.DatabasesState.{DatabasesState, committed_rows}
use Rattle.message_run.specs.declared.run.Advanced.{Advanced}
use Rattle.message_run.specs.WorkAhead.{IsStart, IsAhead, WorkGoesOn}
use Rattle.message_run.specs.MessageChanges.{next_told, TellsOn, IsUntoldOn}
use Rattle.message_run.specs.RunState.{RunState}
use Rattle.lasting_state.specs.Tables.{TablesState}
use Rattle.region_work.specs.declared.region.Busy.{Busy}
use Rattle.region_work.proofs.Kept.{all_found}
use Rattle.region_work.specs.RegionWork.{given_in, HasPad, HavePads, GoesSo, TellsSo, IsLongerSo, HasNext, IsStartedIn, IsStartedOn, NextTells, WorkStepsOn, RegionSteps}

-- a work that is started serves the code's job
pub starts : {E : Type 0} (system : System) (code : List ℕ) (given : Given) (lent : Lent) (made : Result RunState E) → job_of system code ≡ Some (lent_job system lent)
    → IfOk made (λ run. (other : System) → IsStart (lent_job other lent) given run) → IfOk made (λ run. IsSomeAnd (job_of system code) (λ job. IsStart job given run))
starts system code given lent (Ok run) e h = rw e (h system)
starts system code given lent (Err error) e h = tt

some_same : (a b : Job) → Some a ≡ Some b → a ≡ b
some_same a b e = cc

-- what goes on by the job that is lent goes on by the code's
pub goes_so : {E : Type 0} (system : System) (region : ℕ) (code : List ℕ) (lent : Lent) (before after : DatabasesState) (old new : RunState) (made : Result Advanced E)
    → job_of system code ≡ Some (lent_job system lent) → IfOk made (WorkGoesOn (lent_job system lent) region before after old new) → IfOk made (GoesSo system region code before after old new)
goes_so system region code lent before after old new (Ok advanced) e h = λ given job serves ahead. record {
  job = job;
  serves = serves;
  ahead = ahead;
  advances = subst (λ j. WorkGoesOn j region before after old new advanced) (some_same (lent_job system lent) job (sym e ∙ serves)) h given ahead;
}
goes_so system region code lent before after old new (Err error) e h = tt

-- what is told by the job that is lent is told by the code's
pub tells_so : (system : System) (region : ℕ) (code : List ℕ) (lent : Lent) (before after : DatabasesState) (old : RunState) (unit room : ℕ) (told now : List ℕ)
    → job_of system code ≡ Some (lent_job system lent) → TellsOn unit room (lent_job system lent) region before after old told now → TellsSo system region code before after old unit room told now
tells_so system region code lent before after old unit room told now e h = λ given job serves ahead.
    subst (λ j. TellsOn unit room j region before after old told now) (some_same (lent_job system lent) job (sym e ∙ serves)) h given ahead

pub longer_so : (system : System) (region : ℕ) (code : List ℕ) (lent : Lent) (before : DatabasesState) (old : RunState) (unit room : ℕ) (error : Untold)
    → job_of system code ≡ Some (lent_job system lent) → IsUntoldOn unit room (lent_job system lent) region before old error → WhereFull (IsLongerSo system region code before old unit room) error
longer_so system region code lent before old unit room Memory e h = tt
longer_so system region code lent before old unit room Full e h = λ given job serves ahead.
    subst (λ j. IsUntoldOn unit room j region before old Full) (some_same (lent_job system lent) job (sym e ∙ serves)) h given ahead

-- the work that was started is the one that is there
pub started_one : (here : Option RunState) (unit : RunState) (holds : RunState → Type 0) → here ≡ Some unit → IsSomeAnd here holds → holds unit
started_one (Some other) unit holds is h = let same : other ≡ unit = cc in subst holds same h
started_one None unit holds is h = absurd h

-- of a work that was started what its next call tells is so
pub next_from : (system : System) (region unit : ℕ) (tables : TablesState) (old middle : Busy) (before : RunState) (holds : List Record → Type 0) → IsStartedIn system tables region old before
    → middle.code ≡ old.code
    → ((given : Given) (job : Job) → job_of system middle.code ≡ Some job → (ahead : IsAhead job given region tables.databases before) → holds (next_told unit region tables.databases job ahead.trial))
    → NextTells system region unit tables holds (Some old)
next_from system region unit tables old middle before holds taken out all = by (queued_message old.id tables.queues.queued) taken
  where
    one : (given : Given) → IsStartedOn system tables.databases region given old before → HasNext system region unit tables.databases given old holds
    one given t = record {
      job = t.job;
      serves = t.serves;
      trial = t.ahead.trial;
      made = subst (λ n. trial_of t.job (committed_rows tables.databases) given n ≡ Some t.ahead.trial) t.calls t.ahead.made;
      is = all given t.job (ap (job_of system) out ∙ t.serves) t.ahead;
    }

    by : (found : Option Message) → IsSomeAnd found (λ message. IsStartedOn system tables.databases region (given_in tables.conversations message) old before)
        → IsSomeAnd found (λ message. HasNext system region unit tables.databases (given_in tables.conversations message) old holds)
    by (Some message) t = one (given_in tables.conversations message) t
    by None t = absurd t

-- a work that was started made a step
pub steps_from : (system : System) (region : ℕ) (tables : TablesState) (left databases : DatabasesState) (old middle new : Busy) (before after : RunState) (advanced : Advanced) → IsStartedIn system tables region old before
    → middle ≡ record old { unit = middle.unit } → databases ≡ tables.databases → GoesSo system region middle.code databases left before after advanced → new ≡ record middle { unit = Some after }
    → RegionSteps system region tables left (Some old) (Some new) (Some advanced)
steps_from system region tables left databases old middle new before after advanced taken out same goes is =
    by (queued_message old.id tables.queues.queued) taken
  where
    new_is : new ≡ record old { unit = Some after }
    new_is = is ∙ ap (λ (b : Busy). record b { unit = Some after }) out

    one : (given : Given) → IsStartedOn system tables.databases region given old before → WorkStepsOn system region tables.databases left given old new advanced
    one given t = record {
      same = record { code = ap (λ b. b.code) new_is; taken = ap (λ b. b.taken) new_is; id = ap (λ b. b.id) new_is };
      before = before;
      calls = t.calls;
      after = after;
      is = ap (λ b. b.unit) new_is;
      steps = subst (λ d. GoesSo system region old.code d left before after advanced) same (subst (λ c. GoesSo system region c databases left before after advanced) (ap (λ b. b.code) out) goes)
          given t.job t.serves t.ahead;
    }

    by : (found : Option Message) → IsSomeAnd found (λ message. IsStartedOn system tables.databases region (given_in tables.conversations message) old before)
        → IsSomeAnd found (λ message. WorkStepsOn system region tables.databases left (given_in tables.conversations message) old new advanced)
    by (Some message) t = one (given_in tables.conversations message) t
    by None t = absurd t

-- the message of a work is given as it may be
pub pad_found : (conversations : List TerminalConversation) (queued : List Queued) (id : ℕ) (message : Message) → HavePads conversations (messages_of queued) → Some message ≡ queued_message id queued
    → HasPad conversations message
pad_found conversations queued id message have e =
    all_found (HasPad conversations) (messages_of queued) id message have (message_found id queued ∙ sym e)
