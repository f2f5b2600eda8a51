-- What a call tells is what its answer says.
use Rattle.std.proofs.Common.{◌≡◌, ℕ, ◌-◌, ◌<◌, ◌≤◌, true, false, List, [], ◌++◌, length, refl, sym, ap, ◌∙◌, subst, arith}
use Rattle.std.specs.Prelude.{Option, Some, None, Result, Ok, Err}
use Rattle.std.specs.List.{flat_map, AllByRecursion}
use Rattle.std.specs.Option.{option_map_or, option_and_then}
use Rattle.std.proofs.lemmas.List.{append-nil}
use Rattle.model_data.specs.declared.request.Request.{Request}
use Rattle.model_data.specs.declared.victim.Victim.{Victim}
use Rattle.model_system.specs.System.{System}
use Rattle.model_machine.specs.declared.entry.ControlCall.{ControlCall}
use Rattle.model_machine.specs.declared.entry.ControlCall.TheVariants.{Input, Turn}
use Rattle.model_machine.specs.declared.entry.Taken.{Taken}
use Rattle.model_machine.specs.declared.entry.Taken.TheVariants.{New as NewInput, Already}
use Rattle.model_machine.specs.declared.entry.InputRefused.{InputRefused}
use Rattle.model_machine.specs.declared.entry.InputRefused.TheVariants.{Terminal, StoppedTerminal, StoppedCode, Expected, Conversation, Code, SegmentsOver, QueueFull, Fault}
use Rattle.model_machine.specs.declared.entry.Turned.{Turned}
use Rattle.model_machine.specs.declared.entry.Turned.TheVariants.{Idle}
use Rattle.model_machine.specs.Trial.{Advance, Trial}
use Rattle.model_machine.specs.Trial.WorkEnd.{Ends, Syncs, Abends}
use Rattle.model_machine.specs.Trial.Advance.{Goes, Stops}
use Rattle.model_machine.specs.Machine.{Moment, Slot, slot_at}
use Rattle.model_machine.specs.declared.lasting.CodeSetting.{CodeSetting}
use Rattle.model_machine.specs.LastingSteps.{LastingStep, applied}
use Rattle.model_machine.specs.LastingSteps.LastingStep.{Accepts}
use Rattle.model_machine.specs.Requests.{blocked_now}
use Rattle.model_machine.specs.MachineCalls.{AtWork, accepted_step, blocked_answer, ended_step, ending_step, input_answer, lasting_step, next_message, slot_answer, slot_work, step_in_turn, sync_answer, turn_by, turn_step, unless_blocked, work_answer}
use Rattle.model_machine.specs.LastingSteps.{KeptInput, kept_input}
use Rattle.model_messages.specs.declared.conversation.Conversation.{Conversation as PadConversation}
use Rattle.model_messages.specs.declared.conversation.PadChange.{PadChange}
use Rattle.model_messages.specs.declared.conversation.PadChange.TheVariants.{Stays, New, Ends as PadEnds}
use Rattle.io_pcb.specs.Pads.{Suits}
use Rattle.message_run.specs.RunState.{RunState}
use Rattle.lasting_state.specs.RecordRanges.{HasShortPad}
use Rattle.region_work.specs.RegionWork.{SuitsUnit, pad_by}
use Rattle.log_records.specs.declared.record.Record.{Record}
use Rattle.log_records.specs.RecordSpelling.{record_spelling, IsLogRecord}
use Rattle.model_image.specs.StepRecords.{step_records, step_bytes}
use Rattle.lasting_state.specs.Tables.{TablesState, lasting_of}
use Rattle.lasting_state.specs.ToldSteps.{TellsStep as TablesTell, AreRecordsLonger as IsLongerStep}
use Rattle.tm_machine.specs.Inputs.{IsInputRefusal}
use Rattle.tm_machine.specs.Parts.{PartsState}
use Rattle.tm_machine.specs.ToldByCall.{told_bytes_of, ends_work, told_records_of, IsCallLonger, TellsLastingStep}
use Rattle.tm_machine.specs.Turns.{IsRegionTurned}

-- ---- by the step that lasts
step_none : (system : System) (moment : Moment) (unit : ℕ) (call : ControlCall) → lasting_step system moment call ≡ None → told_records_of system moment unit call ≡ []
step_none system moment unit call none = ap (λ s. option_map_or (λ step. step_records unit step moment.lasting) s []) none

pub step_some : (system : System) (moment : Moment) (unit : ℕ) (call : ControlCall) (step : LastingStep) → lasting_step system moment call ≡ Some step
    → told_bytes_of system moment unit call ≡ step_bytes unit step moment.lasting
step_some system moment unit call step some = ap (λ s. flat_map record_spelling (option_map_or (λ step. step_records unit step moment.lasting) s [])) some

tells_none : (system : System) (moment : Moment) (unit room : ℕ) (call : ControlCall) (told : List ℕ) → told_records_of system moment unit call ≡ [] → TellsLastingStep system moment unit room call told told
tells_none system moment unit room call told none = record {
  told = sym (append-nil told) ∙ ap (λ (rs : List Record). told ++ flat_map record_spelling rs) (sym none);
  valid = subst (λ (rs : List Record). AllByRecursion IsLogRecord rs) (sym none) tt;
  fits = subst (λ (rs : List Record). length (flat_map record_spelling rs) ≤ room) (sym none) (omega arith);
}

pub unlasting_tells : (system : System) (moment : Moment) (unit room : ℕ) (call : ControlCall) (told : List ℕ) → lasting_step system moment call ≡ None → TellsLastingStep system moment unit room call told told
unlasting_tells system moment unit room call told none = tells_none system moment unit room call told (step_none system moment unit call none)

-- ---- turns
module _ (system : System) (moment : Moment) (slot : Slot) (trial : Trial) where
  synced_ends : (next : Option ℕ) → ends_work (sync_answer slot next) ≡ true
  synced_ends None = refl
  synced_ends (Some next) = refl

  work_ends : (advance : Advance) → ends_work (work_answer system moment slot trial advance) ≡ false → ended_step slot trial advance ≡ None
  work_ends (Goes after call) quiet = refl
  work_ends (Stops Ends) quiet = let clash : true ≡ false = quiet in absurd (cc)
  work_ends (Stops Syncs) quiet =
      let clash : true ≡ false = sym (synced_ends (next_message system moment (applied (ending_step slot trial Syncs) moment.lasting) slot)) ∙ quiet in
      absurd (cc)
  work_ends (Stops (Abends abend)) quiet = let clash : true ≡ false = quiet in absurd (cc)

module _ (system : System) (moment : Moment) (region : ℕ) (victims : List Victim) where
  slot_ends : (slot : Slot) (work : Option AtWork)
      → ends_work (option_map_or (λ w. work_answer system moment slot w.trial w.advance) work Idle) ≡ false
      → option_and_then (λ w. ended_step slot w.trial w.advance) work ≡ None
  slot_ends slot None quiet = refl
  slot_ends slot (Some work) quiet = work_ends system moment slot work.trial work.advance quiet

  blocked_ends : (slot : Slot) (blocked : Option (Request × ℕ))
      → ends_work (option_map_or (λ b. blocked_answer b victims) blocked (slot_answer system moment slot)) ≡ false
      → unless_blocked blocked (turn_step system moment.lasting slot) ≡ None
  blocked_ends slot (Some blocked) quiet = refl
  blocked_ends slot None quiet = slot_ends slot (slot_work system moment.lasting slot) quiet

  turn_ends : (slot : Option Slot) → ends_work (turn_by system moment region victims slot) ≡ false → option_and_then (step_in_turn system moment region) slot ≡ None
  turn_ends None quiet = refl
  turn_ends (Some slot) quiet = blocked_ends slot (blocked_now system moment region slot) quiet

-- a turn that ends no work tells nothing
pub quiet_tells : (old new : PartsState) (region unit room : ℕ) (turned : Turned) (told : List ℕ) → IsRegionTurned old new region turned → ends_work turned ≡ false
    → TellsLastingStep old.system old.moment unit room (Turn region) told told
quiet_tells old new region unit room turned told is quiet =
    tells_none old.system old.moment unit room (Turn region) told
    (step_none old.system old.moment unit (Turn region)
    (turn_ends old.system old.moment region _ (slot_at old.moment region) (ap ends_work (sym is.answer) ∙ quiet)))

-- also where it began behind a step that left all as it was
pub later_tells : (old middle new : PartsState) (region unit room : ℕ) (turned : Turned) (told : List ℕ) → middle ≡ old → IsRegionTurned middle new region turned → ends_work turned ≡ false
    → TellsLastingStep old.system old.moment unit room (Turn region) told told
later_tells old middle new region unit room turned told same is quiet =
    subst (λ (s : PartsState). TellsLastingStep s.system s.moment unit room (Turn region) told told) same (quiet_tells middle new region unit room turned told is quiet)

pub ruleset quiet_rules = (quiet_tells, later_tells)

-- ---- inputs
refusal_none : (terminal : List ℕ) (number : ℕ) (kept : KeptInput) (answer : Result Taken InputRefused) → ((id : ℕ) → answer ≡ Ok (NewInput id) → ⊥) → accepted_step terminal number kept answer ≡ None
refusal_none terminal number kept (Ok (NewInput id)) other = absurd (other id refl)
refusal_none terminal number kept (Ok Already) other = refl
refusal_none terminal number kept (Err refused) other = refl

module _ (system : System) (moment : Moment) (room : ℕ) (terminal : List ℕ) (number : ℕ) (segments : List (List ℕ)) (told : List ℕ) where
  refused_so : ((id : ℕ) → input_answer system moment terminal number segments ≡ Ok (NewInput id) → ⊥) → TellsLastingStep system moment 0 room (Input terminal number segments) told told
  refused_so other =
      tells_none system moment 0 room (Input terminal number segments) told
      (step_none system moment 0 (Input terminal number segments)
      (refusal_none terminal number (kept_input system moment.lasting terminal segments) (input_answer system moment terminal number segments) other))

  -- an input that isn't kept tells nothing
  pub refused_tells : (answer : Result Taken InputRefused) → IsInputRefusal (input_answer system moment terminal number segments) answer
      → TellsLastingStep system moment 0 room (Input terminal number segments) told told
  refused_tells (Ok (NewInput id)) h = absurd h
  refused_tells (Ok Already) h = refused_so (λ id e. let clash : Ok Already ≡ Ok (NewInput id) = h ∙ e in cc)
  refused_tells (Err Terminal) h = refused_so (λ id e. let clash : Err Terminal ≡ Ok (NewInput id) = h ∙ e in cc)
  refused_tells (Err StoppedTerminal) h = refused_so (λ id e. let clash : Err StoppedTerminal ≡ Ok (NewInput id) = h ∙ e in cc)
  refused_tells (Err (StoppedCode code)) h = refused_so (λ id e. let clash : Err (StoppedCode code) ≡ Ok (NewInput id) = h ∙ e in cc)
  refused_tells (Err (Expected next)) h = refused_so (λ id e. let clash : Err (Expected next) ≡ Ok (NewInput id) = h ∙ e in cc)
  refused_tells (Err (Conversation other)) h = refused_so (λ id e. let clash : Err (Conversation other) ≡ Ok (NewInput id) = h ∙ e in cc)
  refused_tells (Err Code) h = refused_so (λ id e. let clash : Err Code ≡ Ok (NewInput id) = h ∙ e in cc)
  refused_tells (Err (SegmentsOver count most)) h = refused_so (λ id e. let clash : Err (SegmentsOver count most) ≡ Ok (NewInput id) = h ∙ e in cc)
  refused_tells (Err (QueueFull need limit)) h = refused_so (λ id e. let clash : Err (QueueFull need limit) ≡ Ok (NewInput id) = h ∙ e in cc)
  refused_tells (Err (Fault fault)) h = absurd h

-- ---- by what the tables tell
module _ (system : System) (moment : Moment) (unit room : ℕ) (call : ControlCall) (step : LastingStep) (tables : TablesState) (settings : List CodeSetting)
    (lasts : moment.lasting ≡ lasting_of settings tables) (does : lasting_step system moment call ≡ Some step) where
  bytes_are : told_bytes_of system moment unit call ≡ step_bytes unit step (lasting_of settings tables)
  bytes_are = step_some system moment unit call step does ∙ ap (step_bytes unit step) lasts

  records_are : told_records_of system moment unit call ≡ step_records unit step (lasting_of settings tables)
  records_are = ap (λ s. option_map_or (λ step. step_records unit step moment.lasting) s []) does ∙ ap (step_records unit step) lasts

  pub tells_step : (before after : List ℕ) → TablesTell unit room step tables before after → TellsLastingStep system moment unit room call before after
  tells_step before after h = record {
    told = h.told settings ∙ ap (λ bs. before ++ bs) (sym bytes_are);
    valid = subst (λ (rs : List Record). AllByRecursion IsLogRecord rs) (sym records_are) (h.valid settings);
    fits = subst (λ bs. length bs ≤ room) (sym bytes_are) (h.fits settings);
  }

  pub longer_step : IsLongerStep unit room step tables → IsCallLonger system moment unit room call
  longer_step h = subst (λ bs. room < length bs) (sym bytes_are) (h settings)

-- an input that is new is the step that lasts
pub accepts_step : (system : System) (moment : Moment) (terminal : List ℕ) (number : ℕ) (segments : List (List ℕ)) (kept : KeptInput) (id : ℕ)
    → kept ≡ kept_input system moment.lasting terminal segments → Ok (NewInput id) ≡ input_answer system moment terminal number segments
    → lasting_step system moment (Input terminal number segments) ≡ Some (Accepts terminal number kept)
accepts_step system moment terminal number segments kept id kept_is says =
    ap (accepted_step terminal number (kept_input system moment.lasting terminal segments)) (sym says) ∙ ap (λ k. Some (Accepts terminal number k)) (sym kept_is)

-- ---- pads
-- what becomes of a pad has a record: a new one is a segment's text
suits_short : (conversation : Option PadConversation) (pad : PadChange) → Suits conversation pad → HasShortPad pad
suits_short conversation Stays h = tt
suits_short conversation PadEnds h = tt
suits_short (Some c) (New text) h = let held = h.held.0 in omega (arith, held)
suits_short None (New text) h = absurd h

pub short_pad : (unit : Option RunState) (pad : PadChange) → pad ≡ pad_by unit → SuitsUnit unit (pad_by unit) → HasShortPad pad
short_pad (Some unit) pad is suits = subst HasShortPad (sym is) (suits_short unit.work.conversation (pad_by (Some unit)) suits)
short_pad None pad is suits = subst HasShortPad (sym is) tt
