-- Each call ends a message of a serial code only where it is the lowest.
use Rattle.std.proofs.Common.{◌≡◌, ℕ, zero, suc, ◌+◌, ◌-◌, ◌*◌, ◌<◌, ◌≤◌, Bool, true, false, ◌&&◌, List, [], ◌∷◌, ◌++◌, Option, Some, None, map, filter, refl, sym, ap, ◌∙◌, subst, cond, arith}
use Rattle.std.specs.Prelude.{Result, Ok, Err, if◌then◌else◌, nat_le, nat_lt, find, filter_map, slice_get, slice_set, All, AllPairs}
use Rattle.std.specs.List.{AllByRecursion, cons_option}
use Rattle.std.specs.Option.{is_some, option_map, option_map_or, option_and_then, unwrap_or}
use Rattle.std.specs.Str.{bytes_eq}
use Rattle.std.proofs.lemmas.List.{map-append}
use Rattle.std.proofs.lemmas.List.Elements.{filter-append, filter_map-append}
use Rattle.std.proofs.lemmas.List.Kept.{AllPairs-cons}
use Rattle.std.proofs.lemmas.Slice.Eq.{bytes_eq-Decides}
use Rattle.tm_types.specs.declared.command.LastingCommand.{LastingCommand}
use Rattle.tm_types.specs.declared.command.LastingCommand.TheVariants.{StartTransaction, StopTransaction, StartTerminal, StopTerminal, DequeueFirst, DequeueAll, Exit, AssignClass, AssignPriority}
use Rattle.tm_types.specs.declared.abend.AbendCode.{AbendCode}
use Rattle.tm_types.specs.declared.message.Message.{Message}
use Rattle.model_data.specs.declared.request.Request.{Request}
use Rattle.model_data.specs.declared.row.Row.{Row}
use Rattle.model_data.specs.declared.victim.Victim.{Victim}
use Rattle.model_messages.specs.declared.conversation.PadChange.{PadChange}
use Rattle.model_messages.specs.declared.ended_message.EndedMessage.{EndedMessage}
use Rattle.model_messages.specs.Room.{slot_room}
use Rattle.model_messages.specs.Waiting.{is_waiting, first_waiting, any_worked_on}
use Rattle.model_system.specs.declared.code.Code.{Code}
use Rattle.model_system.specs.declared.code.Transaction.{Transaction}
use Rattle.model_system.specs.declared.code_state.CodeState.{CodeState}
use Rattle.model_system.specs.Codes.{code_at}
use Rattle.model_system.specs.System.{System}
use Rattle.model_machine.specs.declared.entry.Acked.{Acked}
use Rattle.model_machine.specs.declared.entry.Acked.TheVariants.{Removed, Already as AckAlready}
use Rattle.model_machine.specs.declared.entry.AckRefused.{AckRefused}
use Rattle.model_machine.specs.declared.entry.ControlCall.{ControlCall}
use Rattle.model_machine.specs.declared.entry.ControlCall.TheVariants.{Input, Receive, Acknowledge, Turn, Command, Checkpoint, AskQuiet}
use Rattle.model_machine.specs.declared.entry.Entry.{Entry}
use Rattle.model_machine.specs.declared.entry.InputRefused.{InputRefused}
use Rattle.model_machine.specs.declared.entry.Taken.{Taken}
use Rattle.model_machine.specs.declared.entry.Taken.TheVariants.{New, Already}
use Rattle.model_machine.specs.declared.entry.Turned.TheVariants.{Idle, Held, Scheduled}
use Rattle.model_machine.specs.CommandAnswers.{CommandAnswer, command_answer, lasting_command, state_now, steps_by}
use Rattle.model_machine.specs.History.{after_entry, call_of, moment_after, victims_in}
use Rattle.model_machine.specs.LastingSteps.{LastingStep, KeptInput, abend_outputs, all_sent, applied, commanded, discarded_pad, finished_by, input_message, kept_input, output_sent, replied, switched, with_pad_by, without_message}
use Rattle.model_machine.specs.LastingSteps.LastingStep.{Completes, Discards}
use Rattle.model_machine.specs.Machine.{LastingState, Moment, Slot, content, busy_slots, is_held, message_at, output_at, slot_at, states_of}
use Rattle.model_machine.specs.MachineCalls.{AtWork, accepted_step, acknowledged_step, ack_answer, blocked_answer, ended_step, ending_step, input_answer, lasting_step, may_go_on, need_now, next_among, next_message, offered_among, pick_now, schedule_answer, slot_after, slot_answer, slot_work, slots_after, step_in_turn, sync_answer, turn_by, turn_step, unless_blocked, work_answer}
use Rattle.model_machine.specs.Pick.{Candidate, offered_by}
use Rattle.model_machine.specs.Requests.{blocked_now, without_victims}
use Rattle.model_machine.specs.Trial.{Advance, Trial, outputs_of, pad_of}
use Rattle.model_machine.specs.Trial.Advance.{Goes, Stops}
use Rattle.model_machine.specs.Trial.WorkEnd.{Ends, Syncs, Abends}
use Rattle.session_law.specs.SerialOrder.{DoneStep, ended_id, ended_ids, ended_message, step_done, steps_in}
use Rattle.session_law.proofs.SerialPicks.{IfOffered, IsOffered, pick_offered}
use Rattle.session_law.proofs.SerialSlots.{HasSlot, Serves, again, freed, gone_of, gone_other, has_its_id, more, none_worked_on, slot_above, taken, victims_freed}

-- ---- ids that rise

-- each is above those before it, from this one on
abbrev pub Rise : ℕ → List ℕ → Type 0
Rise low [] = Unit {0}
Rise low (id ∷ ids) = (low ≤ id) × Rise (id + 1) ids

-- the least that may come behind them
abbrev pub behind : ℕ → List ℕ → ℕ
behind low [] = low
behind low (id ∷ ids) = behind (id + 1) ids

pub rise_on : (low : ℕ) (ids more : List ℕ) → Rise low ids → Rise (behind low ids) more → Rise low (ids ++ more)
rise_on low [] more first later = later
rise_on low (id ∷ ids) more first later = (first.0, rise_on (id + 1) ids more first.1 later)

pub behind_on : (low : ℕ) (ids more : List ℕ) → behind low (ids ++ more) ≡ behind (behind low ids) more
behind_on low [] more = refl
behind_on low (id ∷ ids) more = behind_on (id + 1) ids more

pub rise_front : (low : ℕ) (ids more : List ℕ) → Rise low (ids ++ more) → Rise low ids
rise_front low [] more h = tt
rise_front low (id ∷ ids) more h = (h.0, rise_front (id + 1) ids more h.1)

all_above : (low high : ℕ) (ids : List ℕ) → low < high → Rise high ids → All (λ id. low < id) ids
all_above low high [] less h = λ k d within. absurd (omega (arith, within))
all_above low high (id ∷ ids) less h = by (all_above low (id + 1) ids (omega (arith, less, h.0)) h.1) where
  by : All (λ n. low < n) ids → All (λ n. low < n) (id ∷ ids)
  by rest zero d within = omega (arith, less, h.0)
  by rest (suc k) d within = rest k d (omega (arith, within))

pub pairs_rise : (low : ℕ) (ids : List ℕ) → Rise low ids → AllPairs (λ earlier later. earlier < later) ids
pairs_rise low [] h = λ i j d less within. absurd (omega (arith, less, within))
pairs_rise low (id ∷ ids) h = AllPairs-cons (λ earlier later. earlier < later) id ids (all_above id (id + 1) ids (omega arith) h.1) (pairs_rise (id + 1) ids h.1)

-- ---- what a step ends

module _ (code : List ℕ) where
  pub ids_append : (steps others : List DoneStep) → ended_ids code (steps ++ others) ≡ ended_ids code steps ++ ended_ids code others
  ids_append steps others =
      ap (λ (ms : List Message). map (λ (m : Message). m.id) (filter (λ (m : Message). bytes_eq m.code code) ms)) (filter_map-append ended_message steps others)
      ∙ ap (λ (ms : List Message). map (λ (m : Message). m.id) ms) (filter-append (λ (m : Message). bytes_eq m.code code) (filter_map ended_message steps) (filter_map ended_message others))
      ∙ map-append (λ (m : Message). m.id) (filter (λ (m : Message). bytes_eq m.code code) (filter_map ended_message steps)) (filter (λ (m : Message). bytes_eq m.code code) (filter_map ended_message others))

  one_id : (lasting : LastingState) (step : LastingStep) (m : Message) (of : Bool) → bytes_eq m.code code ≡ of → ended_message (record { step = step; on = lasting }) ≡ Some m
      → ended_ids code (step_done lasting step) ≡ cond of (m.id ∷ []) []
  one_id lasting step m of e is =
      ap (λ (o : Option Message). map (λ (x : Message). x.id) (filter (λ (x : Message). bytes_eq x.code code) (cons_option o []))) is
      ∙ ap (λ (b : Bool). map (λ (x : Message). x.id) (cond b (m ∷ []) [])) e ∙ by of
    where
      by : (b : Bool) → map (λ (x : Message). x.id) (cond b (m ∷ []) []) ≡ cond b (m.id ∷ []) []
      by true = refl
      by false = refl

-- ---- what is sent where a message is gone

module _ (R : List Message → ℕ → Type 0) (on : (messages : List Message) (next : ℕ) (m : Message) → m.id ≡ next → R messages next → R (messages ++ m ∷ []) (next + 1)) where
  abbrev Holds : LastingState → Type 0
  Holds lasting = R lasting.messages lasting.next_id

  sent : (origin : List ℕ) (output : EndedMessage) (lasting : LastingState) → Holds lasting → Holds (output_sent origin output lasting)
  sent origin output lasting h = by (is_some (output_at lasting.outputs output.to)) where
    by : (b : Bool) → Holds (if b then replied output lasting else switched origin output lasting)
    by true = h
    by false = on lasting.messages lasting.next_id (record { id = lasting.next_id; origin = origin; code = output.to; conversation = false; segments = output.segments }) refl h

  all_holds : (origin : List ℕ) (outputs : List EndedMessage) (lasting : LastingState) → Holds lasting → Holds (all_sent origin outputs lasting)
  all_holds origin [] lasting h = h
  all_holds origin (output ∷ outputs) lasting h = all_holds origin outputs (output_sent origin output lasting) (sent origin output lasting h)

  finished_holds : (found : Option Message) (m : Message) → found ≡ Some m → (outputs : Message → List EndedMessage) (change : Message → PadChange) (lasting : LastingState)
      → R (without_message lasting.messages m.id) lasting.next_id → Holds (finished_by found outputs (with_pad_by found change lasting))
  finished_holds None m e outputs change lasting h = cc
  finished_holds (Some x) m e outputs change lasting h =
      let same : x ≡ m = cc in
      let changed : LastingState = with_pad_by (Some x) change lasting in
      all_holds x.origin (outputs x) (record changed { messages = without_message lasting.messages x.id })
      (subst (λ (y : Message). R (without_message lasting.messages y.id) lasting.next_id) (sym same) h)

-- ---- calls

commanded_messages : (command : LastingCommand) (lasting : LastingState) → (commanded command lasting).messages ≡ lasting.messages
commanded_messages (StartTransaction name) lasting = refl
commanded_messages (StopTransaction name) lasting = refl
commanded_messages (StartTerminal terminal) lasting = refl
commanded_messages (StopTerminal terminal) lasting = refl
commanded_messages (DequeueFirst terminal) lasting = refl
commanded_messages (DequeueAll terminal) lasting = refl
commanded_messages (Exit terminal) lasting = refl
commanded_messages (AssignClass name class) lasting = refl
commanded_messages (AssignPriority name priority) lasting = refl

commanded_next : (command : LastingCommand) (lasting : LastingState) → (commanded command lasting).next_id ≡ lasting.next_id
commanded_next (StartTransaction name) lasting = refl
commanded_next (StopTransaction name) lasting = refl
commanded_next (StartTerminal terminal) lasting = refl
commanded_next (StopTerminal terminal) lasting = refl
commanded_next (DequeueFirst terminal) lasting = refl
commanded_next (DequeueAll terminal) lasting = refl
commanded_next (Exit terminal) lasting = refl
commanded_next (AssignClass name class) lasting = refl
commanded_next (AssignPriority name priority) lasting = refl

busy_at : (slots : List (Option Slot)) (place : ℕ) (slot : Slot) → unwrap_or (slice_get slots place) None ≡ Some slot → HasSlot slots place slot
busy_at slots place slot e = by (slice_get slots place) e where
  by : (found : Option (Option Slot)) → unwrap_or found None ≡ Some slot → found ≡ Some (Some slot)
  by None h = cc
  by (Some s) h = ap (λ (o : Option Slot). Some o) h

-- a region takes the first message of a code that waits
takes : (code : List ℕ) (low : ℕ) (messages : List Message) (next : ℕ) (slots : List (Option Slot)) (at : ℕ) → Serves code low messages next (slice_set slots at None) → (new : Slot)
    → first_waiting (is_held slots) new.code messages ≡ Some new.id → (new.code ≡ code → any_worked_on (is_held slots) code messages ≡ false) → Serves code low messages next (slice_set slots at (Some new))
takes code low messages next slots at rest new first quiet = by (find (is_waiting (is_held slots) new.code) messages) refl first where
  by : (found : Option Message) → find (is_waiting (is_held slots) new.code) messages ≡ found → option_map (λ (m : Message). m.id) found ≡ Some new.id → Serves code low messages next (slice_set slots at (Some new))
  by None e is = cc
  by (Some m) e is = let id : m.id ≡ new.id = cc in taken code low messages next slots at rest new m e id quiet

-- The message of a slot has ended with the step, and its slot is given up.
record HasEnded (code : List ℕ) (low : ℕ) (lasting : LastingState) (slots : List (Option Slot)) (slot : Slot) (step : LastingStep) : Type 0 where
  ids : Rise low (ended_ids code (step_done lasting step))
  past : slot.code ≡ code → slot.id + 1 ≤ behind low (ended_ids code (step_done lasting step))
  serves : Serves code (behind low (ended_ids code (step_done lasting step))) (applied step lasting).messages (applied step lasting).next_id slots

-- what holds of each code of the system
abbrev pub SerialIf : List ℕ → Code → Type 0
SerialIf name code = code.transaction.code ≡ name → code.transaction.serial ≡ true

module _ (system : System) (code : List ℕ) (serial : AllByRecursion (SerialIf code) system.codes) where
  abbrev pub ServesAt : ℕ → Moment → Type 0
  ServesAt low moment = Serves code low moment.lasting.messages moment.lasting.next_id moment.slots

  module _ (low : ℕ) (moment : Moment) (h : ServesAt low moment) where
    abbrev done_by : Option LastingStep → List ℕ
    done_by step = ended_ids code (option_map_or (step_done moment.lasting) step [])

    abbrev lasts_by : Option LastingStep → LastingState
    lasts_by step = option_map_or (λ s. applied s moment.lasting) step moment.lasting

    -- The messages of the code that end with the step rise, and then it serves on.
    abbrev GoesOn : Option LastingStep → List (Option Slot) → Type 0
    GoesOn step slots = Rise low (done_by step) × Serves code (behind low (done_by step)) (lasts_by step).messages (lasts_by step).next_id slots

    abbrev set : ℕ → Option Slot → List (Option Slot)
    set region slot = slice_set moment.slots (region - 1) slot

    -- ---- an empty region
    offer_waits : (transaction : Transaction) (worked_on : Bool) (first : Option ℕ) (id : ℕ) → offered_by transaction worked_on first ≡ Some id → (first ≡ Some id) × (transaction.serial ≡ true → worked_on ≡ false)
    offer_waits transaction worked_on first id e = by transaction.serial worked_on e where
      by : (s w : Bool) → (if s && w then None else first) ≡ Some id → (first ≡ Some id) × (s ≡ true → w ≡ false)
      by true true h = cc
      by true false h = (h, λ is. refl)
      by false w h = (h, λ is. cc)

    scheduled_goes : (region : ℕ) (pick : Candidate) → IsOffered (SerialIf code) (offered_among moment.slots moment.lasting.messages) pick
        → Serves code low moment.lasting.messages moment.lasting.next_id (set region (Some (record { code = pick.code; taken = 1; id = pick.id; calls = 0 })))
    scheduled_goes region pick offer =
        let t = offer.code.transaction in
        let waits = offer_waits t (any_worked_on (is_held moment.slots) t.code moment.lasting.messages) (first_waiting (is_held moment.slots) t.code moment.lasting.messages) pick.id offer.offered in
        takes code low moment.lasting.messages moment.lasting.next_id moment.slots (region - 1) (freed code low moment.lasting.messages moment.lasting.next_id moment.slots h (region - 1))
        (record { code = pick.code; taken = 1; id = pick.id; calls = 0 })
        (ap (λ (name : List ℕ). first_waiting (is_held moment.slots) name moment.lasting.messages) offer.named ∙ waits.0)
        (λ of.
        let named : offer.code.transaction.code ≡ code = sym offer.named ∙ of in
        subst (λ (name : List ℕ). any_worked_on (is_held moment.slots) name moment.lasting.messages ≡ false) named (waits.1 (offer.has named)))

    schedule_goes : (region : ℕ) (pick : Option Candidate) → IfOffered (SerialIf code) (offered_among moment.slots moment.lasting.messages) pick → (need : ℕ) (b : Bool)
        → Serves code low moment.lasting.messages moment.lasting.next_id (set region (slot_after (option_map_or (λ (p : Candidate). if b then Held need system.qbytes else Scheduled p.code p.id) pick Idle) None))
    schedule_goes region None offer need b = freed code low moment.lasting.messages moment.lasting.next_id moment.slots h (region - 1)
    schedule_goes region (Some pick) offer need true = freed code low moment.lasting.messages moment.lasting.next_id moment.slots h (region - 1)
    schedule_goes region (Some pick) offer need false = scheduled_goes region pick offer

    empty_goes : (region : ℕ) (pick : Option Candidate) → IfOffered (SerialIf code) (offered_among moment.slots moment.lasting.messages) pick
        → Serves code low moment.lasting.messages moment.lasting.next_id (set region (slot_after (schedule_answer pick (need_now moment) system.qbytes) None))
    empty_goes region None offer = schedule_goes region None offer (need_now moment) (nat_lt system.qbytes (need_now moment))
    empty_goes region (Some pick) offer = schedule_goes region (Some pick) offer (need_now moment) (nat_lt system.qbytes (need_now moment))

    -- ---- a busy region
    module _ (region : ℕ) (slot : Slot) (busy : HasSlot moment.slots (region - 1) slot) where
      stays : (new : Slot) → new.id ≡ slot.id → new.code ≡ slot.code → Serves code low moment.lasting.messages moment.lasting.next_id (set region (Some new))
      stays new id is = again code low moment.lasting.messages moment.lasting.next_id moment.slots h (region - 1) slot new busy id is

      -- its message ends with a step that leaves the others, and sends some
      ends_by : (step : LastingStep) (m : Message) → message_at moment.lasting.messages slot.id ≡ Some m → m.code ≡ slot.code → ended_id step ≡ Some slot.id
          → ((least : ℕ) → Serves code least (without_message moment.lasting.messages m.id) moment.lasting.next_id (set region None) → Serves code least (applied step moment.lasting).messages (applied step moment.lasting).next_id (set region None))
          → HasEnded code low moment.lasting (set region None) slot step
      ends_by step m found of id on = by (bytes_eq m.code code) refl where
        its : m.id ≡ slot.id
        its = has_its_id moment.lasting.messages slot.id m found

        ended : ended_message (record { step = step; on = moment.lasting }) ≡ Some m
        ended = ap (λ (o : Option ℕ). option_and_then (message_at moment.lasting.messages) o) id ∙ found

        never : bytes_eq m.code code ≡ false → m.code ≡ code → ⊥
        never e same = differ (sym ((bytes_eq-Decides m.code code).1 same) ∙ e) where
          differ : true ≡ false → ⊥
          differ f = cc

        with_ids : (ids : List ℕ) → ended_ids code (step_done moment.lasting step) ≡ ids → Rise low ids → (slot.code ≡ code → slot.id + 1 ≤ behind low ids)
            → Serves code (behind low ids) (applied step moment.lasting).messages (applied step moment.lasting).next_id (set region None) → HasEnded code low moment.lasting (set region None) slot step
        with_ids ids e rise past serves = record {
          ids = subst (λ (is : List ℕ). Rise low is) (sym e) rise;
          past = λ same. subst (λ (is : List ℕ). slot.id + 1 ≤ behind low is) (sym e) (past same);
          serves = subst (λ (is : List ℕ). Serves code (behind low is) (applied step moment.lasting).messages (applied step moment.lasting).next_id (set region None)) (sym e) serves;
        }

        by : (b : Bool) → bytes_eq m.code code ≡ b → HasEnded code low moment.lasting (set region None) slot step
        by true e =
            let same : slot.code ≡ code = sym of ∙ (bytes_eq-Decides m.code code).0 e in
            let least : low ≤ slot.id = slot_above code low moment.lasting.messages moment.lasting.next_id moment.slots h (region - 1) slot busy same in
            with_ids (m.id ∷ []) (one_id code moment.lasting step m true e ended) (omega (arith, least, its), tt) (λ is. omega (arith, its))
            (on (m.id + 1)
            (subst (λ (n : ℕ). Serves code (n + 1) (without_message moment.lasting.messages n) moment.lasting.next_id (set region None)) (sym its)
            (gone_of code low moment.lasting.messages moment.lasting.next_id moment.slots h (region - 1) slot busy same)))
        by false e =
            with_ids [] (one_id code moment.lasting step m false e ended) tt (λ is. absurd (never e (of ∙ is)))
            (on low
            (subst (λ (n : ℕ). Serves code low (without_message moment.lasting.messages n) moment.lasting.next_id (set region None)) (sym its)
            (gone_other code low moment.lasting.messages moment.lasting.next_id moment.slots h (region - 1) slot busy)))

      goes_on : (least : ℕ) (messages : List Message) (next : ℕ) (m : Message) → m.id ≡ next → Serves code least messages next (set region None) → Serves code least (messages ++ m ∷ []) (next + 1) (set region None)
      goes_on least messages next m is s = more code least messages next (set region None) s m is

      completes : (rows : List (List Row)) (outputs : List EndedMessage) (pad : PadChange) → HasEnded code low moment.lasting (set region None) slot (Completes slot.id rows outputs pad)
      completes rows outputs pad =
          let t = h.there (region - 1) slot busy in
          ends_by (Completes slot.id rows outputs pad) t.message t.found t.of refl
          (λ least s.
          finished_holds (λ messages next. Serves code least messages next (set region None)) (goes_on least) (message_at moment.lasting.messages slot.id) t.message t.found (λ _. outputs) (λ _. pad) (record moment.lasting { rows = rows }) s)

      discards : (abend : AbendCode) → HasEnded code low moment.lasting (set region None) slot (Discards slot.id abend)
      discards abend =
          let t = h.there (region - 1) slot busy in
          ends_by (Discards slot.id abend) t.message t.found t.of refl
          (λ least s.
          finished_holds (λ messages next. Serves code least messages next (set region None)) (goes_on least) (message_at moment.lasting.messages slot.id) t.message t.found (λ message. abend_outputs message abend) discarded_pad moment.lasting s)

      -- behind it the region may take the next message of the code
      next_waits : (after : LastingState) (found : Option Code) (state : Option CodeState) (next : ℕ) → next_among system moment after slot found state ≡ Some next → first_waiting (is_held moment.slots) slot.code after.messages ≡ Some next
      next_waits after (Some c) (Some state) next e =
          by (may_go_on c.transaction state slot.taken && nat_le (content after + slot_room * busy_slots moment.slots) system.qbytes) e where
            by : (b : Bool) → (if b then first_waiting (is_held moment.slots) slot.code after.messages else None) ≡ Some next → first_waiting (is_held moment.slots) slot.code after.messages ≡ Some next
            by true f = f
            by false f = cc
      next_waits after None state next e = cc
      next_waits after (Some c) None next e = cc

      synced_goes : (step : LastingStep) → HasEnded code low moment.lasting (set region None) slot step → (next : Option ℕ) → next_message system moment (applied step moment.lasting) slot ≡ next
          → GoesOn (Some step) (set region (slot_after (sync_answer slot next) (Some slot)))
      synced_goes step ended None e = (ended.ids, ended.serves)
      synced_goes step ended (Some next) e =
          let after : LastingState = applied step moment.lasting in
          let least : ℕ = behind low (ended_ids code (step_done moment.lasting step)) in (
            ended.ids,
            takes code least after.messages after.next_id moment.slots (region - 1) ended.serves (record slot { taken = slot.taken + 1; id = next; calls = 0 })
                (next_waits after (code_at system.codes slot.code) (state_now system moment slot.code) next e)
                (λ of.
                none_worked_on code least after.messages after.next_id moment.slots (region - 1) ended.serves slot busy of (ended.past of)
                (λ place second has its. h.alone place (region - 1) second slot has busy its of)),
          )

      ended_goes : (trial : Trial) (advance : Advance) → GoesOn (ended_step slot trial advance) (set region (slot_after (work_answer system moment slot trial advance) (Some slot)))
      ended_goes trial (Goes after call) = (tt, stays (record slot { calls = slot.calls + 1 }) refl refl)
      ended_goes trial (Stops Ends) = let e = completes trial.databases.rows (outputs_of trial) (pad_of trial) in (e.ids, e.serves)
      ended_goes trial (Stops Syncs) =
          synced_goes (ending_step slot trial Syncs) (completes trial.databases.rows (outputs_of trial) (pad_of trial)) (next_message system moment (applied (ending_step slot trial Syncs) moment.lasting) slot) refl
      ended_goes trial (Stops (Abends abend)) = let e = discards abend in (e.ids, e.serves)

      work_goes : (found : Option AtWork) → GoesOn (option_and_then (λ work. ended_step slot work.trial work.advance) found)
          (set region (slot_after (option_map_or (λ work. work_answer system moment slot work.trial work.advance) found Idle) (Some slot)))
      work_goes None = (tt, stays slot refl refl)
      work_goes (Some work) = ended_goes work.trial work.advance

      blocked_stays : (blocked : Request × ℕ) (victims : List Victim) → slot_after (blocked_answer blocked victims) (Some slot) ≡ Some slot
      blocked_stays blocked [] = refl
      blocked_stays blocked (v ∷ victims) = refl

      without : (step : Option LastingStep) (victims : List Victim) (slots : List (Option Slot)) → GoesOn step slots → GoesOn step (without_victims victims slots)
      without step victims slots goes = (goes.0, victims_freed code (behind low (done_by step)) (lasts_by step).messages (lasts_by step).next_id victims slots goes.1)

      busy_goes : (victims : List Victim) (blocked : Option (Request × ℕ)) → GoesOn (unless_blocked blocked (turn_step system moment.lasting slot))
          (without_victims victims (set region (slot_after (option_map_or (λ b. blocked_answer b victims) blocked (slot_answer system moment slot)) (Some slot))))
      busy_goes victims (Some blocked) =
          without None victims (set region (slot_after (blocked_answer blocked victims) (Some slot)))
          (tt, subst (λ (s : Option Slot). Serves code low moment.lasting.messages moment.lasting.next_id (set region s)) (sym (blocked_stays blocked victims)) (stays slot refl refl))
      busy_goes victims None =
          without (turn_step system moment.lasting slot) victims (set region (slot_after (slot_answer system moment slot) (Some slot))) (work_goes (slot_work system moment.lasting slot))

    turn_goes : (region : ℕ) (victims : List Victim) (found : Option Slot) → slot_at moment region ≡ found
        → GoesOn (option_and_then (step_in_turn system moment region) found) (without_victims victims (set region (slot_after (turn_by system moment region victims found) found)))
    turn_goes region victims None e = (
      tt,
      victims_freed code low moment.lasting.messages moment.lasting.next_id victims (set region (slot_after (schedule_answer (pick_now system moment region) (need_now moment) system.qbytes) None))
          (empty_goes region (pick_now system moment region) (pick_offered (SerialIf code) (offered_among moment.slots moment.lasting.messages) system region (states_of moment) serial)),
    )
    turn_goes region victims (Some slot) e = busy_goes region slot (busy_at moment.slots (region - 1) slot e) victims (blocked_now system moment region slot)

    -- ---- the other calls
    input_goes : (terminal : List ℕ) (number : ℕ) (kept : KeptInput) (answer : Result Taken InputRefused) → GoesOn (accepted_step terminal number kept answer) moment.slots
    input_goes terminal number kept (Ok (New id)) =
        (tt, more code low moment.lasting.messages moment.lasting.next_id moment.slots h (input_message moment.lasting.next_id terminal kept) refl)
    input_goes terminal number kept (Ok Already) = (tt, h)
    input_goes terminal number kept (Err refused) = (tt, h)

    ack_goes : (terminal : List ℕ) (answer : Result Acked AckRefused) → GoesOn (acknowledged_step terminal answer) moment.slots
    ack_goes terminal (Ok Removed) = (tt, h)
    ack_goes terminal (Ok AckAlready) = (tt, h)
    ack_goes terminal (Err refused) = (tt, h)

    command_goes : (step : Option LastingCommand) (answer : CommandAnswer) → GoesOn (steps_by step answer) moment.slots
    command_goes None (Ok answer) = (tt, h)
    command_goes (Some command) (Ok answer) = (
      tt,
      subst (λ (messages : List Message). Serves code low messages (commanded command moment.lasting).next_id moment.slots) (sym (commanded_messages command moment.lasting))
          (subst (λ (next : ℕ). Serves code low moment.lasting.messages next moment.slots) (sym (commanded_next command moment.lasting)) h),
    )
    command_goes step (Err refused) = (tt, h)

    -- Each call does so.
    pub call_goes : (call : ControlCall) (victims : List Victim) → GoesOn (lasting_step system moment call) (slots_after system moment call victims)
    call_goes (Input terminal number segments) victims = input_goes terminal number (kept_input system moment.lasting terminal segments) (input_answer system moment terminal number segments)
    call_goes (Receive terminal) victims = (tt, h)
    call_goes (Acknowledge terminal number) victims = ack_goes terminal (ack_answer moment terminal number)
    call_goes (Turn region) victims = turn_goes region victims (slot_at moment region) refl
    call_goes (Command command) victims = command_goes (lasting_command command) (command_answer system moment command)
    call_goes (Checkpoint freeze) victims = (tt, h)
    call_goes AskQuiet victims = (tt, h)

  -- So the messages of the code end in the order of their ids with these entries, and the machine serves on.
  pub entries_go : (low : ℕ) (moment : Moment) (entries : List Entry) → ServesAt low moment
      → Rise low (ended_ids code (steps_in system moment entries)) × ServesAt (behind low (ended_ids code (steps_in system moment entries))) (moment_after system moment entries)
  entries_go low moment [] h = (tt, h)
  entries_go low moment (entry ∷ entries) h =
      let after : Moment = after_entry system moment entry in
      let done : List DoneStep = option_map_or (step_done moment.lasting) (lasting_step system moment (call_of entry)) [] in
      let one = call_goes low moment h (call_of entry) (victims_in entry) in
      let least : ℕ = behind low (ended_ids code done) in
      let later = entries_go least after entries one.1 in
      let ids : List ℕ = ended_ids code (steps_in system after entries) in
      let whole : ended_ids code (steps_in system moment (entry ∷ entries)) ≡ ended_ids code done ++ ids = ids_append code done (steps_in system after entries) in (
        subst (λ (all : List ℕ). Rise low all) (sym whole) (rise_on low (ended_ids code done) ids one.0 later.0),
        subst (λ (n : ℕ). ServesAt n (moment_after system after entries)) (sym (ap (behind low) whole ∙ behind_on low (ended_ids code done) ids)) later.1,
      )
