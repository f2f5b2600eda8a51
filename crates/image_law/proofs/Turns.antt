-- Each call of the machine keeps its room.
use Rattle.std.proofs.Common.{◌≡◌, ℕ, ◌+◌, ◌-◌, ◌*◌, ◌≤◌, nat_le, nat_lt, Bool, true, false, ◌&&◌, List, [], ◌∷◌, Option, Some, None, Result, Ok, Err, refl, sym, ◌∙◌, ap, subst, arith}
use Rattle.std.specs.Prelude.{if◌then◌else◌, slice_set}
use Rattle.std.specs.Option.{option_and_then, option_map_or}
use Rattle.std.proofs.lemmas.Bool.{ltb-false}
use Rattle.std.proofs.lemmas.Bool.Decides.{nat_tests}
use Rattle.tm_types.specs.declared.abend.AbendCode.{AbendCode}
use Rattle.model_data.specs.declared.request.Request.{Request}
use Rattle.model_data.specs.declared.victim.Victim.{Victim}
use Rattle.model_system.specs.declared.code.Code.{Code}
use Rattle.model_system.specs.declared.code_state.CodeState.{CodeState}
use Rattle.model_system.specs.Codes.{code_at}
use Rattle.model_system.specs.System.{System}
use Rattle.model_messages.specs.Room.{slot_room}
use Rattle.model_messages.specs.Waiting.{first_waiting}
use Rattle.model_machine.specs.declared.entry.Acked.{Acked}
use Rattle.model_machine.specs.declared.entry.Acked.TheVariants.{Removed, Already as AckAlready}
use Rattle.model_machine.specs.declared.entry.AckRefused.{AckRefused}
use Rattle.model_machine.specs.declared.entry.ControlCall.{ControlCall}
use Rattle.model_machine.specs.declared.entry.ControlCall.TheVariants.{Input, Receive, Acknowledge, Turn, Command, Checkpoint, AskQuiet}
use Rattle.model_machine.specs.declared.entry.InputRefused.{InputRefused}
use Rattle.model_machine.specs.declared.entry.Taken.{Taken}
use Rattle.model_machine.specs.declared.entry.Taken.TheVariants.{New, Already}
use Rattle.model_machine.specs.declared.entry.Turned.TheVariants.{Idle, Held, Scheduled}
use Rattle.tm_types.specs.declared.command.LastingCommand.{LastingCommand}
use Rattle.model_machine.specs.CommandAnswers.{CommandAnswer, command_answer, lasting_command, state_now, steps_by}
use Rattle.model_machine.specs.History.{AreVictims}
use Rattle.model_machine.specs.LastingSteps.{LastingStep, KeptInput, applied, kept_input}
use Rattle.model_machine.specs.LastingSteps.LastingStep.{Accepts}
use Rattle.model_machine.specs.Machine.{LastingState, Moment, Slot, busy_slots, content, is_held, slot_at}
use Rattle.model_machine.specs.Pick.{Candidate}
use Rattle.model_machine.specs.Requests.{blocked_now, BreaksRingsAt, BreaksWhere, asked_table, changes_now, without_victims}
use Rattle.model_machine.specs.MachineCalls.{AtWork, After, accepted_step, acknowledged_step, ack_answer, blocked_answer, ended_step, ending_step, input_answer, may_go_on, need_now, next_among, next_message, pick_now, schedule_answer, slot_after, slot_answer, slot_work, step_in_turn, sync_answer, turn_by, turn_step, unless_blocked, work_answer}
use Rattle.model_machine.specs.Trial.{Advance, Trial}
use Rattle.model_machine.specs.Trial.Advance.{Goes, Stops}
use Rattle.model_machine.specs.Trial.WorkEnd.{Ends, Syncs, Abends}
use Rattle.system_types.specs.ValidSystem.{IsSystem}
use Rattle.image_law.specs.SoundMachine.{IsMachineSound, StaysSound}
use Rattle.image_law.proofs.Refused.{is_new}
use Rattle.image_law.proofs.Rooms.{accepted_room, acknowledged_content, commanded_content, completed_content, discarded_content}
use Rattle.image_law.proofs.Slots.{fewer_slots, freed_slots, kept_slots, more_slots, victims_slots}
use Rattle.image_law.proofs.Works.{SendsWell, abend_fits, work_sends}

module _ (system : System) (valid : IsSystem system) (moment : Moment) (sound : StaysSound system moment) where
  -- what lasts and the slots have room
  abbrev Fits : LastingState → List (Option Slot) → Type 0
  Fits lasting slots = content lasting + slot_room * busy_slots slots ≤ system.qbytes

  abbrev set : ℕ → Option Slot → List (Option Slot)
  set region slot = slice_set moment.slots (region - 1) slot

  -- no more busy regions, and the same content
  no_more : (slots : List (Option Slot)) → busy_slots slots ≤ busy_slots moment.slots → Fits moment.lasting slots
  no_more slots few = omega (arith, sound.room, few)

  -- one less, and a slot's room more
  one_less : (lasting : LastingState) (slots : List (Option Slot)) → busy_slots slots + 1 ≡ busy_slots moment.slots → content lasting ≤ content moment.lasting + 65536 → Fits lasting slots
  one_less lasting slots less most = omega (arith, sound.room, less, most)

  -- ---- an empty region

  schedule_fits : (region : ℕ) (pick : Option Candidate) (need : ℕ) → need ≡ need_now moment → (b : Bool) → nat_lt system.qbytes need ≡ b
      → Fits moment.lasting (set region (slot_after (option_map_or (λ (p : Candidate). if b then Held need system.qbytes else Scheduled p.code p.id) pick Idle) None))
  schedule_fits region None need is b e = no_more (set region None) (fewer_slots moment.slots (region - 1))
  schedule_fits region (Some pick) need is true e = no_more (set region None) (fewer_slots moment.slots (region - 1))
  schedule_fits region (Some pick) need is false e =
      let slot : Slot = record { code = pick.code; taken = 1; id = pick.id; calls = 0 } in
      omega (arith, more_slots moment.slots (region - 1) slot, ltb-false system.qbytes need e, is)

  empty_fits : (region : ℕ) (pick : Option Candidate) → Fits moment.lasting (set region (slot_after (schedule_answer pick (need_now moment) system.qbytes) None))
  empty_fits region None = schedule_fits region None (need_now moment) refl (nat_lt system.qbytes (need_now moment)) refl
  empty_fits region (Some pick) = schedule_fits region (Some pick) (need_now moment) refl (nat_lt system.qbytes (need_now moment)) refl

  -- ---- a busy region
  module _ (region : ℕ) (slot : Slot) (busy : slot_at moment region ≡ Some slot) where
    stays_busy : (lasting : LastingState) (after : Slot) → content lasting + slot_room * busy_slots moment.slots ≤ system.qbytes → Fits lasting (set region (Some after))
    stays_busy lasting after h = omega (arith, h, kept_slots moment.slots (region - 1) slot after busy)

    gets_free : (lasting : LastingState) → content lasting ≤ content moment.lasting + 65536 → Fits lasting (set region None)
    gets_free lasting most = one_less lasting (set region None) (freed_slots moment.slots (region - 1) slot busy) most

    -- the next message is taken where there is room behind the completion
    next_room : (behind : LastingState) (code : Option Code) (state : Option CodeState) (next : ℕ) → next_among system moment behind slot code state ≡ Some next
        → content behind + slot_room * busy_slots moment.slots ≤ system.qbytes
    next_room behind (Some code) (Some state) next e =
        by (may_go_on code.transaction state slot.taken) (nat_le (content behind + slot_room * busy_slots moment.slots) system.qbytes) refl e where
          by : (may fits : Bool) → nat_le (content behind + slot_room * busy_slots moment.slots) system.qbytes ≡ fits
              → (if may && fits then first_waiting (is_held moment.slots) slot.code behind.messages else None) ≡ Some next → content behind + slot_room * busy_slots moment.slots ≤ system.qbytes
          by true true f g = grind (arith, nat_tests, f)
          by true false f g = cc
          by false fits f g = cc
    next_room behind None state next e = cc
    next_room behind (Some code) None next e = cc

    synced_fits : (behind : LastingState) → content behind ≤ content moment.lasting + 65536 → (next : Option ℕ) → next_message system moment behind slot ≡ next
        → Fits behind (set region (slot_after (sync_answer slot next) (Some slot)))
    synced_fits behind most None e = gets_free behind most
    synced_fits behind most (Some next) e =
        stays_busy behind (record slot { taken = slot.taken + 1; id = next; calls = 0 })
        (next_room behind (code_at system.codes slot.code) (state_now system moment slot.code) next e)

    completed : (trial : Trial) → SendsWell system moment.lasting slot.id trial → content (applied (ending_step slot trial Ends) moment.lasting) ≤ content moment.lasting + 65536
    completed trial sends = completed_content slot.id trial.databases.rows _ _ moment.lasting sends.bytes

    discarded : (trial : Trial) (abend : AbendCode) → content (applied (ending_step slot trial (Abends abend)) moment.lasting) ≤ content moment.lasting + 65536
    discarded trial abend = discarded_content slot.id abend moment.lasting (λ message found. abend_fits system valid moment.lasting sound.stands slot.id message abend found)

    -- the state behind a turn that isn't blocked
    abbrev behind_step : Option LastingStep → LastingState
    behind_step step = option_map_or (λ s. applied s moment.lasting) step moment.lasting

    ended_fits : (trial : Trial) → SendsWell system moment.lasting slot.id trial → (advance : Advance)
        → Fits (behind_step (ended_step slot trial advance)) (set region (slot_after (work_answer system moment slot trial advance) (Some slot)))
    ended_fits trial sends (Goes after call) = stays_busy moment.lasting (record slot { calls = slot.calls + 1 }) sound.room
    ended_fits trial sends (Stops Ends) = gets_free (applied (ending_step slot trial Ends) moment.lasting) (completed trial sends)
    ended_fits trial sends (Stops Syncs) =
        let behind = applied (ending_step slot trial Syncs) moment.lasting in
        synced_fits behind (completed trial sends) (next_message system moment behind slot) refl
    ended_fits trial sends (Stops (Abends abend)) = gets_free (applied (ending_step slot trial (Abends abend)) moment.lasting) (discarded trial abend)

    work_fits : (found : Option AtWork) → slot_work system moment.lasting slot ≡ found
        → Fits (behind_step (option_and_then (λ work. ended_step slot work.trial work.advance) found))
        (set region (slot_after (option_map_or (λ work. work_answer system moment slot work.trial work.advance) found Idle) (Some slot)))
    work_fits None e = stays_busy moment.lasting slot sound.room
    work_fits (Some work) e = ended_fits work.trial (work_sends system valid moment.lasting sound.stands slot work e) work.advance

    blocked_stays : (blocked : Request × ℕ) (victims : List Victim) → slot_after (blocked_answer blocked victims) (Some slot) ≡ Some slot
    blocked_stays blocked [] = refl
    blocked_stays blocked (v ∷ victims) = refl

    busy_fits : (victims : List Victim) (blocked : Option (Request × ℕ)) → BreaksWhere (changes_now system moment) region (asked_table system moment region) victims blocked
        → Fits (behind_step (unless_blocked blocked (turn_step system moment.lasting slot)))
        (without_victims victims (set region (slot_after (option_map_or (λ b. blocked_answer b victims) blocked (slot_answer system moment slot)) (Some slot))))
    busy_fits victims (Some blocked) right =
        let slots = set region (slot_after (blocked_answer blocked victims) (Some slot)) in
        let same : busy_slots slots ≡ busy_slots moment.slots = ap (λ (s : Option Slot). busy_slots (set region s)) (blocked_stays blocked victims) ∙ kept_slots moment.slots (region - 1) slot slot busy in
        omega (arith, sound.room, victims_slots victims slots, same)
    busy_fits victims None right =
        subst (λ (vs : List Victim). Fits (behind_step (turn_step system moment.lasting slot)) (without_victims vs (set region (slot_after (slot_answer system moment slot) (Some slot))))) (sym right)
        (work_fits (slot_work system moment.lasting slot) refl)

  turn_fits : (region : ℕ) (victims : List Victim) (found : Option Slot) → slot_at moment region ≡ found → BreaksRingsAt system moment region victims found
      → Fits (option_map_or (λ s. applied s moment.lasting) (option_and_then (step_in_turn system moment region) found) moment.lasting)
      (without_victims victims (set region (slot_after (turn_by system moment region victims found) found)))
  turn_fits region victims None e right =
      subst (λ (vs : List Victim). Fits moment.lasting (without_victims vs (set region (slot_after (schedule_answer (pick_now system moment region) (need_now moment) system.qbytes) None)))) (sym right)
      (empty_fits region (pick_now system moment region))
  turn_fits region victims (Some slot) e right = busy_fits region slot e victims (blocked_now system moment region slot) right

  -- ---- the other calls

  input_fits : (terminal : List ℕ) (number : ℕ) (segments : List (List ℕ)) (step : Option LastingStep)
      → accepted_step terminal number (kept_input system moment.lasting terminal segments) (input_answer system moment terminal number segments) ≡ step
      → Fits (option_map_or (λ s. applied s moment.lasting) step moment.lasting) moment.slots
  input_fits terminal number segments None e = sound.room
  input_fits terminal number segments (Some step) e =
      let kept = kept_input system moment.lasting terminal segments in
      let is : Accepts terminal number kept ≡ step = accepts_one (input_answer system moment terminal number segments) kept e in
      subst (λ (s : LastingStep). Fits (applied s moment.lasting) moment.slots) is (accepted_room system moment terminal number segments (is_new system moment terminal number segments step e)) where
        accepts_one : (answer : Result Taken InputRefused) (kept : KeptInput) → accepted_step terminal number kept answer ≡ Some step → Accepts terminal number kept ≡ step
        accepts_one (Ok (New id)) kept f = cc
        accepts_one (Ok Already) kept f = cc
        accepts_one (Err refused) kept f = cc

  ack_fits : (terminal : List ℕ) (answer : Result Acked AckRefused) → Fits (option_map_or (λ s. applied s moment.lasting) (acknowledged_step terminal answer) moment.lasting) moment.slots
  ack_fits terminal (Ok Removed) = omega (arith, sound.room, acknowledged_content terminal moment.lasting)
  ack_fits terminal (Ok AckAlready) = sound.room
  ack_fits terminal (Err refused) = sound.room

  command_fits : (step : Option LastingCommand) (answer : CommandAnswer) → Fits (option_map_or (λ s. applied s moment.lasting) (steps_by step answer) moment.lasting) moment.slots
  command_fits None (Ok answer) = sound.room
  command_fits (Some command) (Ok answer) = omega (arith, sound.room, commanded_content command moment.lasting)
  command_fits step (Err refused) = sound.room

  -- every call leaves the room that it found
  pub call_fits : (call : ControlCall) (victims : List Victim) → AreVictims system moment victims call → IsMachineSound system (After system moment call victims)
  call_fits (Input terminal number segments) victims right = input_fits terminal number segments _ refl
  call_fits (Receive terminal) victims right = sound.room
  call_fits (Acknowledge terminal number) victims right = ack_fits terminal (ack_answer moment terminal number)
  call_fits (Turn region) victims right = turn_fits region victims (slot_at moment region) refl right
  call_fits (Command command) victims right = command_fits (lasting_command command) (command_answer system moment command)
  call_fits (Checkpoint freeze) victims right = sound.room
  call_fits AskQuiet victims right = sound.room
