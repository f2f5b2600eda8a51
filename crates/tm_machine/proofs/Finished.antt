-- A region's work on a message ends.
use Rattle.std.proofs.Common.{◌≡◌, ℕ, zero, suc, ◌+◌, ◌-◌, ◌*◌, ◌≤◌, arith, Bool, true, false, ◌&&◌, ◌||◌, List, [], ◌∷◌, ◌++◌, length, refl, sym, ap, ◌∙◌, subst}
use Rattle.std.specs.Prelude.{Option, Some, None, IsSome, IsSomeAnd, if◌then◌else◌, nat_le, map, slice_get, slice_set}
use Rattle.std.specs.Option.{option_map, option_and_then, is_some}
use Rattle.std.specs.List.{count_by, list_any, AllByRecursion}
use Rattle.std.specs.Str.{bytes_eq}
use Rattle.std.proofs.lemmas.Bool.{eq-eqb}
use Rattle.tm_types.specs.declared.message.Message.{Message}
use Rattle.tm_types.specs.declared.abend.AbendCode.{AbendCode}
use Rattle.model_messages.specs.declared.queued.Queued.{Queued}
use Rattle.model_messages.specs.Queue.{IsNewId, queued_message, messages_of, queued_at, without_id_queued, free_count}
use Rattle.model_messages.specs.Room.{slot_room}
use Rattle.model_messages.specs.Waiting.{first_waiting}
use Rattle.model_messages.proofs.Laws.{found_behind, message_found, messages_held, messages_without, new_id_without}
use Rattle.lasting_state.proofs.Finished.{messages_both}
use Rattle.io_pcb.specs.Pads.{Suits}
use Rattle.model_messages.specs.declared.conversation.PadChange.{PadChange}
use Rattle.model_messages.specs.declared.conversation.TerminalConversation.{TerminalConversation}
use Rattle.model_data.specs.Table.{EnqueueTable}
use Rattle.model_data.specs.EnqueueRequests.{released}
use Rattle.model_system.specs.Codes.{code_at, code_place}
use Rattle.model_system.specs.Jobs.{Job, job_by}
use Rattle.model_system.specs.declared.code.Code.{Code}
use Rattle.model_system.specs.declared.code_state.CodeState.{CodeState}
use Rattle.model_system.specs.System.{System}
use Rattle.model_messages.specs.declared.ended_message.EndedMessage.{EndedMessage}
use Rattle.model_machine.specs.declared.entry.ControlCall.TheVariants.{Turn}
use Rattle.model_machine.specs.declared.entry.Turned.{Turned}
use Rattle.model_machine.specs.declared.entry.Turned.TheVariants.{Done, Abended, Next, QC}
use Rattle.model_machine.specs.Trial.{Given, WorkEnd, outputs_of, pad_of}
use Rattle.model_machine.specs.Trial.WorkEnd.{Ends, Syncs, Abends}
use Rattle.model_machine.specs.Trial.Advance.{Stops}
use Rattle.model_machine.specs.Machine.{message_at as message_in, Moment, Slot, IsRegion, has_message, is_held, content, slot_at, raised_now, moment_with}
use Rattle.model_machine.specs.LastingSteps.{LastingStep, abend_outputs, applied, discarded_pad, with_pad_changed, without_message}
use Rattle.model_machine.specs.LastingSteps.LastingStep.{Completes, Discards}
use Rattle.model_machine.specs.Requests.{blocked_now, slot_requests, table_after, table_by}
use Rattle.model_machine.specs.MachineCalls.{AtWork, After, ending_step, lasting_step, may_go_on, next_among, next_message, slot_after, slot_work, step_in_turn, sync_answer, turn_answer, work_answer, work_by}
use Rattle.model_machine.specs.Flags.{all_followed}
use Rattle.model_machine.proofs.Flags.{states_again}
use Rattle.tran_pick.specs.RegionPick.{IsFirstFree}
use Rattle.tran_pick.proofs.Found.{first_codes}
use Rattle.program_rows.specs.DatabasesState.{DatabasesState, AreRowsOf, IsRegionOf, committed_rows, dbds_of, region_at}
use Rattle.program_rows.specs.CallAnswers.{IsGivenUp}
use Rattle.lasting_state.specs.SentOutputs.{outputs_to_codes, switched_messages, with_messages}
use Rattle.lasting_state.specs.Tables.{TablesState, lasting_of, message_closed, message_held, Applies, IsMessageClosed}
use Rattle.region_work.specs.declared.region.Busy.{Busy}
use Rattle.region_work.specs.WorkEnds.{destinations, goes_on_with}
use Rattle.tm_machine.specs.WorkEnds.{EndsSo, IsCompleted, MayCompleteWork, SlotEnds, completion_of}
use Rattle.tm_machine.proofs.Abends.{outputs_right}
use Rattle.region_work.specs.RegionWork.{given_in, IsRegionUnit, calls_made, outputs_by, pad_by}
use Rattle.tm_machine.specs.Turns.{IsRegionTurned}
use Rattle.tm_machine.specs.Parts.{PartsState, work_slot, work_slots, settings_of, flags_of, AreHoldersTold, AreAtWork, AreConversations, AreParts, IsIdle, IsOfConversation}
use Rattle.tm_machine.proofs.Conversing.{IsPlain, conversations_closed, discarded_fits, given_left}
use Rattle.region_work.proofs.Kept.{all_found}
use Rattle.tm_machine.proofs.Tabled.{AreOwn, released_asks}
use Rattle.tm_machine.proofs.Others.{IsKeptBeside, are_beside, beside_committed, beside_given_up, idle_committed, idle_ended, idle_given_up, own_requests, rows_stay, stay_at_work}
use Rattle.tm_machine.proofs.Free.{count_held, count_sent, count_without, or_none}
use Rattle.tm_machine.proofs.Leaving.{moment_is, nobody_breaks, requests_are, turn_leaves, turn_steps, turn_works}
use Rattle.tm_machine.proofs.Linked.{first_free_is, busy_is, end_told, end_at_work, new_free, told_without, get_set, set_length, set_set, set_slots}
use Rattle.tm_machine.proofs.Raising.{IsFollowed, followed_all, followed_settled}
use Rattle.tm_machine.proofs.Scheduled.{parts_taken, told_taken}
use Rattle.tm_machine.proofs.Stepped.{slot_is, trial_is, work_is}
use Rattle.tm_machine.proofs.Tried.{IsTried, unit_trial}
use Rattle.tm_machine.proofs.Telling.{longer_step, tells_step}
use Rattle.tm_machine.specs.ToldByCall.{IsCallLonger, TellsLastingStep}
use Rattle.lasting_state.specs.ToldSteps.{TellsStep as TablesTell, AreRecordsLonger as IsLongerStep}

told_new : (messages : List Message) (slots : List (Option Slot)) → AllByRecursion (λ m. is_held slots m.id ≡ false) messages → AreHoldersTold slots (with_messages messages [])
told_new [] slots free = tt
told_new (m ∷ messages) slots free = (free.0, told_new messages slots free.1)

told_more : (messages : List Message) (queued : List Queued) (slots : List (Option Slot)) → AllByRecursion (λ m. is_held slots m.id ≡ false) messages
    → AreHoldersTold slots queued → AreHoldersTold slots (with_messages messages queued)
told_more messages [] slots free told = told_new messages slots free
told_more messages (q ∷ queued) slots free told = (told.0, told_more messages queued slots free told.1)

at_work_more : (system : System) (databases : DatabasesState) (conversations : List TerminalConversation) (messages : List Message) (queued : List Queued) (regions : List (Option Busy))
    → AreAtWork system databases conversations queued regions → AreAtWork system databases conversations (with_messages messages queued) regions
at_work_more system databases conversations messages queued regions at_work place busy e =
    let was = at_work place busy e in
    record { message = was.message; found = found_behind busy.id queued (map (λ m. record { message = m; holder = None }) messages) _ was.found; work = was.work }

new_above : (next id : ℕ) (queued : List Queued) → next ≤ id → IsNewId next queued → IsNewId id queued
new_above next id [] h above = tt
new_above next id (q ∷ queued) h above = (let here = above.0 in omega (arith, here, h), new_above next id queued h above.1)

-- no region has a message whose id is new
all_free : (system : System) (databases : DatabasesState) (conversations : List TerminalConversation) (next : ℕ) (queued : List Queued) (regions : List (Option Busy)) (messages : List Message)
    → IsNewId next queued → AreAtWork system databases conversations queued regions → AllByRecursion (λ m. next ≤ m.id) messages → AllByRecursion (λ m. is_held (work_slots regions) m.id ≡ false) messages
all_free system databases conversations next queued regions [] above at_work h = tt
all_free system databases conversations next queued regions (m ∷ messages) above at_work h = (
  new_free system databases conversations m.id queued regions (new_above next m.id queued h.0 above) at_work,
  all_free system databases conversations next queued regions messages above at_work h.1,
)

-- switched messages have ids from the next one on
all_above : (low : ℕ) (origin : List ℕ) (outputs : List EndedMessage) (next : ℕ) → low ≤ next → AllByRecursion (λ m. low ≤ m.id) (switched_messages origin outputs next)
all_above low origin [] next h = tt
all_above low origin (output ∷ outputs) next h = (h, all_above low origin outputs (next + 1) (omega (arith, h)))

all_plain : (origin : List ℕ) (outputs : List EndedMessage) (next : ℕ) → AllByRecursion IsPlain (switched_messages origin outputs next)
all_plain origin [] next = tt
all_plain origin (output ∷ outputs) next = (refl, all_plain origin outputs (next + 1))

or_right : (a b : Bool) → b ≡ true → (a || b) ≡ true
or_right true b h = refl
or_right false b h = h

-- a region's message is held
held_at : (regions : List (Option Busy)) (place : ℕ) (busy : Busy) → slice_get regions place ≡ Some (Some busy) → is_held (work_slots regions) busy.id ≡ true
held_at [] place busy e = cc
held_at (r ∷ regions) zero busy e =
    let here : r ≡ Some busy = cc in
    ap (λ o. has_message busy.id (work_slot o) || is_held (work_slots regions) busy.id) here ∙ ap (λ b. b || is_held (work_slots regions) busy.id) (eq-eqb busy.id busy.id refl)
held_at (r ∷ regions) (suc place) busy e = or_right (has_message busy.id (work_slot r)) (is_held (work_slots regions) busy.id) (held_at regions place busy e)

module _ (system : System) (tables : TablesState) (states : List CodeState) (regions : List (Option Busy)) (region : ℕ)
    (parts : AreParts system tables states regions) (busy : Busy) (e : slice_get regions (region - 1) ≡ Some (Some busy)) (there : IsRegion system region) where
  abbrev moment_of_tables : TablesState → List CodeState → List (Option Busy) → Moment
  moment_of_tables t ss rs = record { lasting = lasting_of (settings_of ss) t; slots = work_slots rs; enqueues = t.databases.table; raised = flags_of ss }

  abbrev moment_now : Moment
  moment_now = moment_of_tables tables states regions

  abbrev state_with : Moment → PartsState
  state_with m = record { system = system; moment = m; databases = tables.databases }

  abbrev state_on : TablesState → List CodeState → List (Option Busy) → PartsState
  state_on t ss rs = record { system = system; moment = moment_of_tables t ss rs; databases = t.databases }

  abbrev slot_now : Slot
  slot_now = record { code = busy.code; taken = busy.taken; id = busy.id; calls = calls_made busy.unit }

  abbrev message_now : Message
  message_now = (parts.at_work (region - 1) busy e).message

  abbrev job_now : Job
  job_now = (parts.at_work (region - 1) busy e).work.job

  abbrev left : List (Option Busy)
  left = slice_set regions (region - 1) None

  pub found_here : queued_message busy.id tables.queues.queued ≡ Some message_now
  found_here = ap (option_map (λ q. q.message)) (parts.at_work (region - 1) busy e).found

  -- the message of a work is there
  pub id_there : IsSome (queued_at busy.id tables.queues.queued)
  id_there = rw (parts.at_work (region - 1) busy e).found cc

  -- the databases have the region
  pub works_there : IsRegionOf tables.databases region
  works_there = record { least = there.0; most = omega (arith, there.1, parts.databases.regions) }

  count : length tables.databases.regions ≡ length regions
  count = parts.databases.regions ∙ sym parts.regions_are

  slot_here : slot_at moment_now region ≡ Some slot_now
  slot_here = slot_is system tables states regions region parts (Some busy) e

  -- the code of a work is one of the system's
  code_there : IsSome (code_at system.codes busy.code)
  code_there = by (code_at system.codes busy.code) (parts.at_work (region - 1) busy e).work.serves
    where
      by : {job : Job} (found : Option Code) → option_and_then (job_by system) found ≡ Some job → IsSome found
      by (Some code) h = cc
      by None h = cc

  -- it may be completed
  pub may_complete : MayCompleteWork tables regions region
  may_complete = record {
    busy = busy;
    works_on = e;
    defined = omega (arith, there.1, parts.regions_are);
    works = works_there;
    found = id_there;
    counts = outputs_right system tables states regions parts region busy e;
  }

  -- what the work has come to
  abbrev given_here : Given
  given_here = given_in tables.conversations message_now

  unit_here : IsRegionUnit job_now given_here region tables.databases busy.unit
  unit_here =
      let back : region - 1 + 1 ≡ region = omega (arith, there.0) in
      subst (λ n. IsRegionUnit job_now given_here n tables.databases busy.unit) back (parts.at_work (region - 1) busy e).work.unit

  pub tried : IsTried job_now given_here region tables.databases busy.unit
  tried = unit_trial job_now given_here region tables.databases busy.unit unit_here

  abbrev work_now : AtWork
  work_now = work_by job_now moment_now.lasting tried.trial

  works : slot_work system moment_now.lasting slot_now ≡ Some work_now
  works = work_is system tables states regions region parts slot_now message_now job_now tried.trial found_here (parts.at_work (region - 1) busy e).work.serves tried.made

  own_here : AreOwn region (slot_requests system moment_now.lasting region slot_now)
  own_here = subst (AreOwn region)
      (sym (requests_are system moment_now.lasting region slot_now job_now tried.trial (parts.at_work (region - 1) busy e).work.serves
      (trial_is system tables states regions region parts slot_now message_now job_now tried.trial found_here (parts.at_work (region - 1) busy e).work.serves tried.made)))
      (own_requests region job_now tried.trial)

  ends_so : (end : WorkEnd) → EndsSo (state_with moment_now) region end → SlotEnds (state_with moment_now) region end slot_now
  ends_so end h = by (slot_at moment_now region) slot_here h
    where
      by : (found : Option Slot) → found ≡ Some slot_now → IsSomeAnd found (SlotEnds (state_with moment_now) region end) → SlotEnds (state_with moment_now) region end slot_now
      by (Some slot) f g = let same : slot ≡ slot_now = cc in subst (SlotEnds (state_with moment_now) region end) same g
      by None f g = absurd g

  free_here : (end : WorkEnd) → EndsSo (state_with moment_now) region end → blocked_now system moment_now region slot_now ≡ None
  free_here end h = (ends_so end h).free

  stops_here : (end : WorkEnd) → EndsSo (state_with moment_now) region end → work_now.advance ≡ Stops end
  stops_here end h = at_work (slot_work system moment_now.lasting slot_now) works (ends_so end h).stops
    where
      at_work : (found : Option AtWork) → found ≡ Some work_now → IsSomeAnd found (λ work. work.advance ≡ Stops end) → work_now.advance ≡ Stops end
      at_work (Some work) f g = let same : work ≡ work_now = cc in subst (λ w. w.advance ≡ Stops end) same g
      at_work None f g = absurd g

  answer_here : (end : WorkEnd) → EndsSo (state_with moment_now) region end → turn_answer system moment_now region [] ≡ work_answer system moment_now slot_now tried.trial (Stops end)
  answer_here end h = turn_works system moment_now region slot_now work_now (Stops end) slot_here (free_here end h) works (stops_here end h)

  step_here : (end : WorkEnd) → EndsSo (state_with moment_now) region end → step_in_turn system moment_now region slot_now ≡ Some (ending_step slot_now tried.trial end)
  step_here end h = turn_steps system moment_now region slot_now work_now (Stops end) (free_here end h) works (stops_here end h)

  -- what the region has asked for is given up with all else
  gone_here : (end : WorkEnd) → EndsSo (state_with moment_now) region end → released region (table_by system moment_now region (Some slot_now)) ≡ released region tables.databases.table
  gone_here end h = released_asks region (slot_requests system moment_now.lasting region slot_now) tables.databases.table own_here (free_here end h)

  abbrev completes : LastingStep
  completes = completion_of region tables busy

  completes_is : Completes busy.id tried.trial.databases.rows (outputs_of tried.trial) (pad_of tried.trial) ≡ completes
  completes_is =
      ap (λ rows. Completes busy.id rows (outputs_of tried.trial) (pad_of tried.trial)) tried.rows
      ∙ ap (λ os. Completes busy.id (region_at region tables.databases).rows os (pad_of tried.trial)) tried.outputs
      ∙ ap (Completes busy.id (region_at region tables.databases).rows (outputs_by busy.unit)) tried.pad

  -- the step that lasts, where the work ends so
  pub ends_step : (end : WorkEnd) → EndsSo (state_with moment_now) region end → lasting_step system moment_now (Turn region) ≡ Some (ending_step slot_now tried.trial end)
  ends_step end h = ap (option_and_then (step_in_turn system moment_now region)) slot_here ∙ step_here end h

  -- a completion is told, and that it doesn't fit
  module _ (unit room : ℕ) (does : lasting_step system moment_now (Turn region) ≡ Some (ending_step slot_now tried.trial Ends)) where
    pub completed_tells : (before after : List ℕ) → TablesTell unit room completes tables before after → TellsLastingStep system moment_now unit room (Turn region) before after
    completed_tells before after h = tells_step system moment_now unit room (Turn region) completes tables (settings_of states) refl (does ∙ ap (λ s. Some s) completes_is) before after h

    pub completed_longer : IsLongerStep unit room completes tables → IsCallLonger system moment_now unit room (Turn region)
    completed_longer h = longer_step system moment_now unit room (Turn region) completes tables (settings_of states) refl (does ∙ ap (λ s. Some s) completes_is) h

  pub abended_tells : (unit room : ℕ) (abend : AbendCode) → EndsSo (state_with moment_now) region (Abends abend) → (before after : List ℕ)
      → TablesTell unit room (Discards busy.id abend) tables before after → TellsLastingStep system moment_now unit room (Turn region) before after
  abended_tells unit room abend ends before after h =
      tells_step system moment_now unit room (Turn region) (Discards busy.id abend) tables (settings_of states) refl (ends_step (Abends abend) ends) before after h

  pub abended_longer : (unit room : ℕ) (abend : AbendCode) → EndsSo (state_with moment_now) region (Abends abend)
      → IsLongerStep unit room (Discards busy.id abend) tables → IsCallLonger system moment_now unit room (Turn region)
  abended_longer unit room abend ends h =
      longer_step system moment_now unit room (Turn region) (Discards busy.id abend) tables (settings_of states) refl (ends_step (Abends abend) ends) h

  -- the message by the list of all messages
  found_in : message_in (messages_of tables.queues.queued) busy.id ≡ Some message_now
  found_in = message_found busy.id tables.queues.queued ∙ found_here

  -- The message is gone, and its outputs were sent; the region is idle then, and the others work on.
  module _ (tables' : TablesState) (outputs : List EndedMessage) (pad : PadChange) (above : IsNewId tables.next_id tables.queues.queued)
      (is : tables' ≡ message_closed tables'.databases pad tables message_now outputs) (named : message_now.id ≡ busy.id) (fits : Suits given_here.conversation pad)
      (beside : IsKeptBeside region tables.databases tables'.databases) (own : IsIdle region tables'.databases) (dbds : dbds_of tables'.databases ≡ dbds_of tables.databases)
      (gone : tables'.databases.table ≡ released region tables.databases.table) (rows : AreRowsOf (dbds_of tables'.databases) (committed_rows tables'.databases)) where
    abbrev sent : List Message
    sent = switched_messages message_now.origin (outputs_to_codes tables.outputs outputs) tables.next_id

    queued_is : tables'.queues.queued ≡ with_messages sent (without_id_queued busy.id tables.queues.queued)
    queued_is = ap (λ t. t.queues.queued) is ∙ ap (λ n. with_messages sent (without_id_queued n tables.queues.queued)) named

    above_sent : AllByRecursion (λ m. tables.next_id ≤ m.id) sent
    above_sent = all_above tables.next_id message_now.origin (outputs_to_codes tables.outputs outputs) tables.next_id (omega arith)

    abbrev conversations_left : List TerminalConversation
    conversations_left = with_pad_changed pad message_now.origin tables.conversations

    conversations_are : tables'.conversations ≡ conversations_left
    conversations_are = ap (λ t. t.conversations) is

    messages_are : messages_of tables'.queues.queued ≡ without_message (messages_of tables.queues.queued) busy.id ++ sent
    messages_are =
        ap messages_of queued_is ∙ messages_both (without_id_queued busy.id tables.queues.queued) sent
        ∙ ap (λ ms. ms ++ sent) (messages_without busy.id tables.queues.queued)

    conversations_here : AreConversations system tables'.conversations (messages_of tables'.queues.queued)
    conversations_here =
        subst (λ cs. AreConversations system cs (messages_of tables'.queues.queued)) (sym conversations_are)
        (subst (AreConversations system conversations_left) (sym messages_are)
        (conversations_closed system tables.conversations (messages_of tables.queues.queued) parts.conversations busy.id message_now found_in pad fits sent
        (all_plain message_now.origin (outputs_to_codes tables.outputs outputs) tables.next_id)))

    others : AreAtWork system tables'.databases conversations_left (without_id_queued busy.id tables.queues.queued) left
    others = end_at_work system tables.databases tables'.databases tables.conversations conversations_left tables.queues.queued regions (region - 1) busy e
        (stay_at_work system parts.valid tables.databases tables'.databases regions region beside count there.0)
        (λ other message here apart.
        given_left system tables.conversations (messages_of tables.queues.queued) parts.conversations busy.id message_now found_in pad fits other message
        (message_found other tables.queues.queued ∙ here) apart)
        parts.at_work

    new_left : IsNewId tables.next_id (without_id_queued busy.id tables.queues.queued)
    new_left = new_id_without tables.next_id busy.id tables.queues.queued above

    told_left : AreHoldersTold (work_slots left) tables'.queues.queued
    told_left = rw queued_is
        (told_more sent (without_id_queued busy.id tables.queues.queued) (work_slots left)
        (all_free system tables'.databases conversations_left tables.next_id (without_id_queued busy.id tables.queues.queued) left sent new_left others above_sent)
        (end_told tables.queues.queued regions (region - 1) busy e parts.told))

    -- as many messages wait of each code to which nothing was sent
    waits : (name : List ℕ) → list_any (λ n. bytes_eq name n) (destinations outputs) ≡ false → free_count name tables'.queues.queued ≡ free_count name tables.queues.queued
    waits name none =
        ap (free_count name) queued_is
        ∙ count_sent name message_now.origin tables.outputs outputs tables.next_id (without_id_queued busy.id tables.queues.queued) none
        ∙ count_without name busy.id (work_slots regions) tables.queues.queued (held_at regions (region - 1) busy e) parts.told

    parts_closed : (states' : List CodeState) → length states' ≡ length states
        → raised_now (λ name. free_count name tables'.queues.queued) system.codes (flags_of states') ≡ flags_of states' → AreParts system tables' states' left
    parts_closed states' size settled = record {
      valid = parts.valid;
      limit = ap (λ t. t.queues.limit) is ∙ parts.limit;
      names = ap (λ t. map (λ n. n.name) t.terminals) is ∙ parts.names;
      regions_are = set_length regions (region - 1) None ∙ parts.regions_are;
      states_are = size ∙ parts.states_are;
      settled = settled;
      told = told_left;
      at_work = rw (conversations_are, queued_is) (at_work_more system tables'.databases conversations_left sent (without_id_queued busy.id tables.queues.queued) left others);
      conversations = conversations_here;
      databases = are_beside system region tables.databases tables'.databases parts.databases beside dbds rows;
      idle = idle_ended system parts.valid tables.databases tables'.databases regions region beside count there.0 own parts.idle;
    }

    -- the slots of before tell what no region has, but for the message that is gone
    told_before : AreHoldersTold (work_slots regions) tables'.queues.queued
    told_before = rw queued_is
        (told_more sent (without_id_queued busy.id tables.queues.queued) (work_slots regions)
        (all_free system tables.databases tables.conversations tables.next_id tables.queues.queued regions sent above parts.at_work above_sent)
        (told_without busy.id tables.queues.queued (work_slots regions) parts.told))

    -- the flags of the code and of the destinations followed
    follows_closed : (names : List (List ℕ)) (states' : List CodeState)
        → ((name : List ℕ) → list_any (λ n. bytes_eq name n) names ≡ false → list_any (λ n. bytes_eq name n) (destinations outputs) ≡ false)
        → states' ≡ all_followed system.codes (λ name. free_count name tables'.queues.queued) names states
        → IsFollowed system (λ name. free_count name tables'.queues.queued) states states'
    follows_closed names states' among follow =
        followed_all system (λ name. free_count name tables.queues.queued) (λ name. free_count name tables'.queues.queued) names states states' parts.valid parts.states_are parts.settled
        (λ name none. waits name (among name none)) follow

    turned_closed : (states' : List CodeState) (answer : Turned) (step : LastingStep) (end : WorkEnd) → EndsSo (state_with moment_now) region end
        → IsFollowed system (λ name. free_count name tables'.queues.queued) states states'
        → turn_answer system moment_now region [] ≡ answer → slot_after answer (Some slot_now) ≡ None → step_in_turn system moment_now region slot_now ≡ Some step
        → ((table : EnqueueTable) → table_after answer region table ≡ released region table)
        → Applies step tables tables'
        → moment_of_tables tables' states' left ≡ After system moment_now (Turn region) []
    turned_closed states' answer step end h follows says none does frees applies =
        moment_is system (applied step moment_now.lasting) (slice_set (work_slots regions) (region - 1) None) tables' states states' left (released region tables.databases.table) follows told_left (applies (settings_of states)) (set_slots regions (region - 1) None) gone
        ∙ ap (λ s. moment_with system (applied step moment_now.lasting) (slice_set (work_slots regions) (region - 1) s) (released region tables.databases.table) (flags_of states)) (sym none)
        ∙ ap (λ t. moment_with system (applied step moment_now.lasting) (slice_set (work_slots regions) (region - 1) (slot_after answer (Some slot_now))) t (flags_of states))
        (sym (gone_here end h) ∙ sym (frees (table_by system moment_now region (Some slot_now))))
        ∙ sym (turn_leaves system moment_now region [] (Some slot_now) answer (Some step) (table_by system moment_now region (Some slot_now)) slot_here says does refl)

  -- what is closed, by the message that is there
  closed_here : (databases : DatabasesState) (pads : Message → PadChange) (sends : Message → List EndedMessage) (tables' : TablesState) → IsMessageClosed databases pads sends tables tables' busy.id
      → (message_now.id ≡ busy.id) × (tables' ≡ message_closed databases (pads message_now) tables message_now (sends message_now))
  closed_here databases pads sends tables' done = by (queued_message busy.id tables.queues.queued) found_here done
    where
      by : (found : Option Message) → found ≡ Some message_now → IsSomeAnd found (λ m. (m.id ≡ busy.id) × (tables' ≡ message_closed databases (pads m) tables m (sends m)))
          → (message_now.id ≡ busy.id) × (tables' ≡ message_closed databases (pads message_now) tables message_now (sends message_now))
      by (Some m) f g = let here : m ≡ message_now = cc in subst (λ n. (n.id ≡ busy.id) × (tables' ≡ message_closed databases (pads n) tables n (sends n))) here g
      by None f g = absurd g

  -- The message is completed.
  module _ (tables' : TablesState) (d : IsCompleted region busy tables tables') where
    done_is : (message_now.id ≡ busy.id) × (tables' ≡ message_closed tables'.databases (pad_by busy.unit) tables message_now (outputs_by busy.unit))
    done_is = closed_here tables'.databases (λ _. pad_by busy.unit) (λ _. outputs_by busy.unit) tables' d.closed

    fits_here : Suits given_here.conversation (pad_by busy.unit)
    fits_here = tried.fits d.suits

    beside_here : IsKeptBeside region tables.databases tables'.databases
    beside_here = beside_committed region tables.databases tables'.databases there.0 d.committed d.dbds parts.databases.rows d.rows

    own_idle : IsIdle region tables'.databases
    own_idle = idle_committed region tables.databases tables'.databases d.committed

    pub follows_completed : (states' : List CodeState) → states' ≡ all_followed system.codes (λ name. free_count name tables'.queues.queued) (busy.code ∷ destinations (outputs_by busy.unit)) states
        → IsFollowed system (λ name. free_count name tables'.queues.queued) states states'
    follows_completed states' follow =
        follows_closed tables' (outputs_by busy.unit) (pad_by busy.unit) d.above done_is.1 done_is.0 fits_here beside_here own_idle d.dbds d.committed.table d.rows (busy.code ∷ destinations (outputs_by busy.unit)) states'
        (λ name none. (or_none (bytes_eq name busy.code) (list_any (λ n. bytes_eq name n) (destinations (outputs_by busy.unit))) none).1) follow

    pub parts_completed : (states' : List CodeState) → IsFollowed system (λ name. free_count name tables'.queues.queued) states states' → AreParts system tables' states' left
    parts_completed states' follows =
        parts_closed tables' (outputs_by busy.unit) (pad_by busy.unit) d.above done_is.1 done_is.0 fits_here beside_here own_idle d.dbds d.committed.table d.rows states' follows.size
        (followed_settled system (λ name. free_count name tables'.queues.queued) states states' follows)

    pub done_turned : (states' : List CodeState) → IsFollowed system (λ name. free_count name tables'.queues.queued) states states'
        → EndsSo (state_with moment_now) region Ends
        → IsRegionTurned (state_with moment_now) (state_on tables' states' left) region (Done busy.code busy.id)
    done_turned states' follows h = record {
      victims = nobody_breaks system moment_now region slot_now slot_here (free_here Ends h);
      answer = sym (answer_here Ends h);
      after = turned_closed tables' (outputs_by busy.unit) (pad_by busy.unit) d.above done_is.1 done_is.0 fits_here beside_here own_idle d.dbds d.committed.table d.rows states' (Done busy.code busy.id) completes Ends h follows
          (answer_here Ends h) refl (step_here Ends h ∙ ap (λ s. Some s) completes_is) (λ table. refl) d.applies;
      system = refl;
    }

    -- the message that the region goes on with
    next_is : next_message system moment_now (applied completes moment_now.lasting) slot_now
        ≡ goes_on_with system.qbytes tables' busy.code busy.taken (count_by is_some regions) (code_at system.codes busy.code) (option_and_then (slice_get states) (code_place system.codes busy.code))
    next_is =
        ap (λ l. next_message system moment_now l slot_now) (sym (d.applies (settings_of states)))
        ∙ ap (λ ss. next_among system moment_now (lasting_of (settings_of states) tables') slot_now (code_at system.codes busy.code) (option_and_then (slice_get ss) (code_place system.codes busy.code))) (states_again states)
        ∙ by (code_at system.codes busy.code) (option_and_then (slice_get states) (code_place system.codes busy.code))
      where
        by : (code : Option Code) (state : Option CodeState)
            → next_among system moment_now (lasting_of (settings_of states) tables') slot_now code state ≡ goes_on_with system.qbytes tables' busy.code busy.taken (count_by is_some regions) code state
        by (Some code) (Some state) =
            ap (λ n. if may_go_on code.transaction state busy.taken && nat_le (content (lasting_of (settings_of states) tables') + slot_room * n) system.qbytes
            then first_waiting (is_held (work_slots regions)) busy.code (lasting_of (settings_of states) tables').messages else None) (busy_is regions)
            ∙ ap (λ f. if may_go_on code.transaction state busy.taken && nat_le (content (lasting_of (settings_of states) tables') + slot_room * count_by is_some regions) system.qbytes
            then f else None) (first_free_is busy.code (work_slots regions) tables'.queues.queued
            (told_before tables' (outputs_by busy.unit) (pad_by busy.unit) d.above done_is.1 done_is.0 fits_here beside_here own_idle d.dbds d.committed.table d.rows))
        by (Some code) None = refl
        by None state = refl

    -- how the region goes on, by the message that was found
    pub sync_is : (n : ℕ) (found : Option ℕ) → n ≡ count_by is_some regions
        → found ≡ goes_on_with system.qbytes tables' busy.code busy.taken n (code_at system.codes busy.code) (option_and_then (slice_get states) (code_place system.codes busy.code))
        → EndsSo (state_with moment_now) region Syncs
        → turn_answer system moment_now region [] ≡ sync_answer slot_now found
    sync_is n found counted here h =
        answer_here Syncs h
        ∙ ap (λ s. sync_answer slot_now (next_message system moment_now (applied s moment_now.lasting) slot_now)) completes_is
        ∙ ap (sync_answer slot_now) (next_is
        ∙ ap (λ m. goes_on_with system.qbytes tables' busy.code busy.taken m (code_at system.codes busy.code) (option_and_then (slice_get states) (code_place system.codes busy.code))) (sym counted)
        ∙ sym here)

    pub none_turned : (states' : List CodeState) → IsFollowed system (λ name. free_count name tables'.queues.queued) states states'
        → turn_answer system moment_now region [] ≡ QC busy.code busy.id → EndsSo (state_with moment_now) region Syncs
        → IsRegionTurned (state_with moment_now) (state_on tables' states' left) region (QC busy.code busy.id)
    none_turned states' follows says h = record {
      victims = nobody_breaks system moment_now region slot_now slot_here (free_here Syncs h);
      answer = sym says;
      after = turned_closed tables' (outputs_by busy.unit) (pad_by busy.unit) d.above done_is.1 done_is.0 fits_here beside_here own_idle d.dbds d.committed.table d.rows states' (QC busy.code busy.id) completes Syncs h follows
          says refl (step_here Syncs h ∙ ap (λ s. Some s) completes_is) (λ table. refl) d.applies;
      system = refl;
    }

    -- the region goes on with a further message
    module _ (tables'' : TablesState) (new : Busy) (holds : tables'' ≡ message_held tables' new.id region) (code : new.code ≡ busy.code) (fresh : new.unit ≡ None)
        (free : IsFirstFree tables'.queues.queued busy.code new.id) where
      empty : slice_get left (region - 1) ≡ Some None
      empty = get_set regions (region - 1) (Some busy) None e

      -- the parts between the two, with flags that need not be told
      module _ (middle : List CodeState) (follows : IsFollowed system (λ name. free_count name tables'.queues.queued) states middle) where
        between : AreParts system tables' middle left
        between = parts_completed middle follows

        pub told_next : AreHoldersTold (work_slots (slice_set left (region - 1) (Some new))) tables''.queues.queued
        told_next = rw holds (told_taken system tables' middle left region between new empty there.0)

        pub parts_next : (states' : List CodeState) → length states' ≡ length states
            → raised_now (λ name. free_count name tables''.queues.queued) system.codes (flags_of states') ≡ flags_of states'
            → AreParts system tables'' states' (slice_set left (region - 1) (Some new))
        parts_next states' size settled =
            parts_taken system tables' middle left region between new empty there.0 tables'' states' holds free.free (rw code code_there) fresh (size ∙ sym follows.size) settled

      pub follows_next : (states' : List CodeState) → states' ≡ all_followed system.codes (λ name. free_count name tables''.queues.queued) (busy.code ∷ destinations (outputs_by busy.unit)) states
          → IsFollowed system (λ name. free_count name tables''.queues.queued) states states'
      follows_next states' follow =
          followed_all system (λ name. free_count name tables.queues.queued) (λ name. free_count name tables''.queues.queued) (busy.code ∷ destinations (outputs_by busy.unit)) states states' parts.valid parts.states_are parts.settled
          (λ name none.
          let both = or_none (bytes_eq name busy.code) (list_any (λ n. bytes_eq name n) (destinations (outputs_by busy.unit))) none in
          ap (λ t. free_count name t.queues.queued) holds
          ∙ count_held name busy.code new.id (Some region) tables'.queues.queued both.0 (first_codes busy.code tables'.queues.queued new.id free.ordered free.first)
          ∙ waits tables' (outputs_by busy.unit) (pad_by busy.unit) d.above done_is.1 done_is.0 fits_here beside_here own_idle d.dbds d.committed.table d.rows name both.1) follow

      pub next_turned : (middle states' : List CodeState) → IsFollowed system (λ name. free_count name tables'.queues.queued) states middle
          → IsFollowed system (λ name. free_count name tables''.queues.queued) states states' → new.taken ≡ busy.taken + 1
          → turn_answer system moment_now region [] ≡ Next busy.code busy.id new.id → EndsSo (state_with moment_now) region Syncs
          → IsRegionTurned (state_with moment_now) (state_on tables'' states' (slice_set left (region - 1) (Some new))) region (Next busy.code busy.id new.id)
      next_turned middle states' before follows taken says h = record {
        victims = nobody_breaks system moment_now region slot_now slot_here (free_here Syncs h);
        answer = sym says;
        after =
            moment_is system (applied completes moment_now.lasting) (slice_set (work_slots regions) (region - 1) (Some next)) tables'' states states' (slice_set left (region - 1) (Some new)) (released region tables.databases.table) follows
            (told_next middle before)
            (ap (lasting_of (settings_of states)) holds
            ∙ ap {A = List Message} (λ ms. record (lasting_of (settings_of states) tables') { messages = ms }) (messages_held new.id (Some region) tables'.queues.queued)
            ∙ d.applies (settings_of states))
            (ap work_slots (set_set regions (region - 1) None (Some new)) ∙ set_slots regions (region - 1) (Some new)
            ∙ ap (λ c. slice_set (work_slots regions) (region - 1) (Some (record { code = c; taken = new.taken; id = new.id; calls = calls_made new.unit }))) code
            ∙ ap (λ n. slice_set (work_slots regions) (region - 1) (Some (record { code = busy.code; taken = n; id = new.id; calls = calls_made new.unit }))) taken
            ∙ ap (λ u. slice_set (work_slots regions) (region - 1) (Some (record { code = busy.code; taken = busy.taken + 1; id = new.id; calls = calls_made u }))) fresh)
            (ap (λ t. t.databases.table) holds ∙ d.committed.table)
            ∙ ap (λ t. moment_with system (applied completes moment_now.lasting) (slice_set (work_slots regions) (region - 1) (Some next)) t (flags_of states)) (sym (gone_here Syncs h))
            ∙ sym (turn_leaves system moment_now region [] (Some slot_now) (Next busy.code busy.id new.id) (Some completes) (table_by system moment_now region (Some slot_now)) slot_here says
            (step_here Syncs h ∙ ap (λ s. Some s) completes_is) refl);
        system = refl;
      }
        where
          next : Slot
          next = record { code = busy.code; taken = busy.taken + 1; id = new.id; calls = 0 }

  -- The work has ended abnormally.
  module _ (tables' : TablesState) (above : IsNewId tables.next_id tables.queues.queued) (abend : AbendCode)
      (done : IsMessageClosed tables'.databases discarded_pad (λ message. abend_outputs message abend) tables tables' busy.id)
      (applies : Applies (Discards busy.id abend) tables tables')
      (back : IsGivenUp region tables.databases tables'.databases) (dbds : dbds_of tables'.databases ≡ dbds_of tables.databases) where
    gone_is : (message_now.id ≡ busy.id) × (tables' ≡ message_closed tables'.databases (discarded_pad message_now) tables message_now (abend_outputs message_now abend))
    gone_is = closed_here tables'.databases discarded_pad (λ message. abend_outputs message abend) tables' done

    fits_gone : Suits given_here.conversation (discarded_pad message_now)
    fits_gone = discarded_fits tables.conversations message_now
        (all_found (IsOfConversation tables.conversations) (messages_of tables.queues.queued) busy.id message_now parts.conversations.belong found_in)

    beside_back : IsKeptBeside region tables.databases tables'.databases
    beside_back = beside_given_up region tables.databases tables'.databases there.0 back dbds

    back_rows : AreRowsOf (dbds_of tables'.databases) (committed_rows tables'.databases)
    back_rows = rows_stay tables.databases tables'.databases back.committed dbds parts.databases.rows

    back_idle : IsIdle region tables'.databases
    back_idle = idle_given_up region tables.databases tables'.databases works_there back

    pub follows_abended : (states' : List CodeState) (origin : List ℕ) → IsSomeAnd (queued_message busy.id tables.queues.queued) (λ message. origin ≡ message.origin)
        → states' ≡ all_followed system.codes (λ name. free_count name tables'.queues.queued) (origin ∷ []) states
        → IsFollowed system (λ name. free_count name tables'.queues.queued) states states'
    follows_abended states' origin from follow =
        follows_closed tables' (abend_outputs message_now abend) (discarded_pad message_now) above gone_is.1 gone_is.0 fits_gone beside_back back_idle dbds back.table back_rows (origin ∷ []) states'
        (λ name none. ap (λ o. bytes_eq name o || false) (sym (by (queued_message busy.id tables.queues.queued) found_here from)) ∙ none) follow
      where
        by : (found : Option Message) → found ≡ Some message_now → IsSomeAnd found (λ message. origin ≡ message.origin) → origin ≡ message_now.origin
        by (Some m) f g = let here : m ≡ message_now = cc in g ∙ ap (λ n. n.origin) here
        by None f g = absurd g

    pub parts_abended : (states' : List CodeState) → IsFollowed system (λ name. free_count name tables'.queues.queued) states states' → AreParts system tables' states' left
    parts_abended states' follows =
        parts_closed tables' (abend_outputs message_now abend) (discarded_pad message_now) above gone_is.1 gone_is.0 fits_gone beside_back back_idle dbds back.table back_rows states' follows.size
        (followed_settled system (λ name. free_count name tables'.queues.queued) states states' follows)

    pub abended_turned : (states' : List CodeState) → IsFollowed system (λ name. free_count name tables'.queues.queued) states states'
        → EndsSo (state_with moment_now) region (Abends abend)
        → IsRegionTurned (state_with moment_now) (state_on tables' states' left) region (Abended busy.code busy.id abend)
    abended_turned states' follows h = record {
      victims = nobody_breaks system moment_now region slot_now slot_here (free_here (Abends abend) h);
      answer = sym (answer_here (Abends abend) h);
      after = turned_closed tables' (abend_outputs message_now abend) (discarded_pad message_now) above gone_is.1 gone_is.0 fits_gone beside_back back_idle dbds back.table back_rows states' (Abended busy.code busy.id abend) (Discards busy.id abend) (Abends abend) h follows
          (answer_here (Abends abend) h) refl (step_here (Abends abend) h) (λ table. refl) applies;
      system = refl;
    }
