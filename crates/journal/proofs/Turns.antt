-- A turn of a region: the life goes on with what it tells.
use Rattle.std.proofs.Common.{◌≡◌, ◌⊎◌, inl, inr, ℕ, zero, suc, ◌+◌, ◌-◌, ◌≤◌, ◌<◌, Bool, true, false, List, [], ◌∷◌, ◌++◌, length, map, Option, Some, None, refl, sym, ◌∙◌, ap, subst, arith, append-nil}
use Rattle.std.specs.Prelude.{slice_get, slice_index_or, slice_set, nat_lt, ◌==◌, if◌then◌else◌}
use Rattle.std.specs.List.{list_all, flat_map}
use Rattle.std.specs.Option.{is_some, option_and_then, option_map_or, unwrap_or}
use Rattle.std.proofs.lemmas.Bool.{eqb-true, ltb-false, ne_eqb}
use Rattle.std.proofs.lemmas.Option.{slice_get_within}
use Rattle.tm_types.specs.declared.abend.AbendCode.{AbendCode}
use Rattle.tm_types.specs.declared.message.Message.{Message}
use Rattle.tm_types.specs.declared.resource.Resource.{Resource}
use Rattle.tm_types.specs.declared.resource.Mode.TheVariants.{Exclusive}
use Rattle.model_messages.specs.declared.conversation.PadChange.{PadChange}
use Rattle.model_messages.specs.declared.ended_message.EndedMessage.{EndedMessage}
use Rattle.pi_enqueue.specs.KeptTable.{held_mode}
use Rattle.pi_enqueue.proofs.Laws.{released_itself, released_others}
use Rattle.model_data.specs.declared.row.Row.{Row}
use Rattle.model_data.specs.declared.request.Request.{Request}
use Rattle.model_data.specs.declared.victim.Victim.{Victim}
use Rattle.model_data.specs.EnqueueRequests.{released}
use Rattle.model_data.specs.Cycle.{after_victims}
use Rattle.model_data.specs.Table.{EnqueueTable}
use Rattle.model_system.specs.System.{System}
use Rattle.model_system.specs.Jobs.{Job, job_of}
use Rattle.model_machine.specs.declared.entry.ControlCall.TheVariants.{Turn}
use Rattle.model_machine.specs.declared.entry.Turned.{Turned}
use Rattle.model_machine.specs.declared.entry.Turned.TheVariants.{Scheduled, Called, Next, QC, Done, Abended, Idle, Held, Waits, Backed}
use Rattle.model_machine.specs.LastingSteps.{LastingStep, applied}
use Rattle.model_machine.specs.LastingSteps.LastingStep.{Completes, Discards}
use Rattle.model_machine.specs.Machine.{LastingState, Moment, Slot, slot_at, message_at}
use Rattle.model_machine.specs.Pick.{Candidate}
use Rattle.model_machine.specs.Requests.{BreaksRingsAt, BreaksWhere, asked_table, blocked_now, changes_now, slot_requests, table_after, table_by, without_victims}
use Rattle.model_machine.specs.MachineCalls.{After, AtWork, blocked_answer, ended_step, ending_step, lasting_step, need_now, next_message, pick_now, schedule_answer, slot_after, slot_answer, slot_work, step_in_turn, sync_answer, turn_answer, turn_by, turn_step, unless_blocked, work_answer, work_by}
use Rattle.model_machine.specs.Trial.{Advance, Trial, outputs_of, pad_of, trial_of}
use Rattle.model_machine.specs.Trial.Advance.{Goes, Stops}
use Rattle.model_machine.specs.Trial.WorkEnd.{Ends, Syncs, Abends}
use Rattle.model_machine.specs.WorkSoFar.{given_now}
use Rattle.model_image.specs.States.{has_right_pad}
use Rattle.log_records.specs.declared.record.Record.{Record}
use Rattle.log_records.specs.RecordSpelling.{record_spelling}
use Rattle.seg_store.specs.Slots.{rows_of_slots}
use Rattle.model_image.specs.StepRecords.{step_records}
use Rattle.system_types.specs.ValidSystem.{IsSystem}
use Rattle.image_law.proofs.Rows.{rows_aside}
use Rattle.image_law.specs.SoundMachine.{StaysSound}
use Rattle.image_law.proofs.Steps.{stays_sound}
use Rattle.image_law.proofs.Works.{SendsWell, work_sends}
use Rattle.disk_law.specs.Life.{LifeOnDisk}
use Rattle.disk_law.proofs.Recovering.{index_found}
use Rattle.journal.specs.UnspentCounts.{AreUnspent}
use Rattle.program_rows.specs.OpenUnits.{HoldsAlone}
use Rattle.program_rows.specs.SlotsState.{SlotsState, HaveSlots, CommitsSo}
use Rattle.journal.specs.TurnChanges.{DoesSo, QuietUnlessCalled}
use Rattle.journal.specs.UnitNumbers.{AreUnitsNumbered, next_after, unit_of_region, units_after, with_unit, without_units}
use Rattle.journal.specs.CarriedLife.{resource_of, HoldTouched, IsCarriedBy, IsLifeOf}
use Rattle.journal.specs.LifeByCall.{Continues, LifeGoesOn, LifeStepsOn}
use Rattle.journal.proofs.Calls.{call_goes}
use Rattle.journal.proofs.Ended.{get_of_index}
use Rattle.journal.proofs.Ending.{complete_goes, discard_goes}
use Rattle.journal.proofs.Holding.{asks_leave, release_leaves}
use Rattle.journal.proofs.Inputs.{HasRoom, has_terminals}
use Rattle.journal.proofs.Numbers.{numbered_ended, numbered_kept, numbered_taken}
use Rattle.journal.proofs.Staying.{stays_as, takes_on}
use Rattle.journal.proofs.Stores.{few_sectors_of}
use Rattle.journal.proofs.Victims.{continues_then, some_unit, victims_go}

-- the records of a lasting step, where there is one
abbrev pub told_by : ℕ → LastingState → Option LastingStep → List Record
told_by unit lasting step = option_map_or (λ s. step_records unit s lasting) step []

-- a call with a step takes it, and one without goes on
abbrev pub GoesBy : Option LastingStep → List ℕ → System → Moment → SlotsState → List ℕ → ℕ → LifeOnDisk → Type 0
GoesBy None bytes system moment slots units next life = LifeGoesOn bytes system moment slots units next life
GoesBy (Some step) bytes system moment slots units next life = LifeStepsOn bytes system moment slots units next life

pub room_of : (some records : List Record) (life : LifeOnDisk) → some ≡ records → HasRoom some life → HasRoom records life
room_of some records life same room = subst (λ (rs : List Record). HasRoom rs life) same room

-- what regions hold alone behind victims, where they hold no less before
victims_leave : (victims : List Victim) (was now : EnqueueTable) → ((other : ℕ) (resource : Resource) → HoldsAlone was other resource → HoldsAlone now other resource)
    → (other : ℕ) (resource : Resource) → HoldsAlone (after_victims victims was) other resource → HoldsAlone (after_victims victims now) other resource
victims_leave [] was now leave other resource alone = leave other resource alone
victims_leave (v ∷ victims) was now leave other resource alone = victims_leave victims (released v.region was) (released v.region now) released_leave other resource alone where
  released_leave : (one : ℕ) (r : Resource) → HoldsAlone (released v.region was) one r → HoldsAlone (released v.region now) one r
  released_leave one r held_one = by (one == v.region) refl where
    by : (b : Bool) → one == v.region ≡ b → HoldsAlone (released v.region now) one r
    by true e =
        let same : one ≡ v.region = eqb-true one v.region e in
        let none : held_mode one r (released v.region was).holds ≡ None = ap (λ k. held_mode k r (released v.region was).holds) same ∙ released_itself v.region r was in
        let clash : None ≡ Some Exclusive = sym none ∙ held_one in absurd cc
    by false e = release_leaves v.region one now r e (leave one r (sym (released_others v.region one r was e) ∙ held_one))

set_itself : {A : Type 0} (xs : List A) (i : ℕ) (x : A) → slice_get xs i ≡ Some x → slice_set xs i x ≡ xs
set_itself [] i x is = refl
set_itself (y ∷ xs) zero x is = let same : y ≡ x = cc in ap (λ z. z ∷ xs) (sym same)
set_itself (y ∷ xs) (suc i) x is = ap (λ zs. y ∷ zs) (set_itself xs i x is)

-- the message of an id
record IsMessage (lasting : LastingState) (id : ℕ) : Type 0 where
  message : Message
  at : message_at lasting.messages id ≡ Some message
  its : message.id ≡ id

found_id : (id : ℕ) (messages : List Message) (message : Message) → message_at messages id ≡ Some message → message.id == id ≡ true
found_id id [] message at = absurd cc
found_id id (m ∷ messages) message at = by (m.id == id) refl at (found_id id messages message) where
  by : (b : Bool) → m.id == id ≡ b → (if b then Some m else message_at messages id) ≡ Some message → (message_at messages id ≡ Some message → message.id == id ≡ true) → message.id == id ≡ true
  by true e is later = let same : m ≡ message = cc in ap (λ (x : Message). x.id == id) (sym same) ∙ e
  by false e is later = later is

message_is : (lasting : LastingState) (id : ℕ) (message : Message) → message_at lasting.messages id ≡ Some message → IsMessage lasting id
message_is lasting id message at = record { message = message; at = at; its = eqb-true message.id id (found_id id lasting.messages message at) }

message_of_work : (system : System) (lasting : LastingState) (slot : Slot) (work : AtWork) → slot_work system lasting slot ≡ Some work → IsMessage lasting slot.id
message_of_work system lasting slot work works = by_job (job_of system slot.code) refl works where
  by_message : (job : Job) (found : Option Message) → message_at lasting.messages slot.id ≡ found
      → option_and_then (λ trial. Some (work_by job lasting trial)) (option_and_then (λ message. trial_of job lasting.rows (given_now lasting message) slot.calls) found) ≡ Some work → IsMessage lasting slot.id
  by_message job None e w = absurd cc
  by_message job (Some message) e w = message_is lasting slot.id message e

  by_job : (found : Option Job) → job_of system slot.code ≡ found
      → option_and_then (λ job. option_and_then (λ trial. Some (work_by job lasting trial)) (option_and_then (λ job. option_and_then (λ message. trial_of job lasting.rows (given_now lasting message) slot.calls) (message_at lasting.messages slot.id)) found)) found ≡ Some work
      → IsMessage lasting slot.id
  by_job None e w = absurd cc
  by_job (Some job) e w = by_message job (message_at lasting.messages slot.id) refl w

completed_rows : (id : ℕ) (lines : List (List Row)) (outputs : List EndedMessage) (pad : PadChange) (lasting : LastingState) → (applied (Completes id lines outputs pad) lasting).rows ≡ lines
completed_rows id lines outputs pad lasting = sym (ap (λ (x : LastingState). x.rows) (rows_aside lines (Completes id lines outputs pad) lasting))

module _ (system : System) (valid : IsSystem system) (n : ℕ) (moment : Moment) (old new : SlotsState) (units : List ℕ) (next : ℕ) (life : LifeOnDisk)
    (c : IsCarriedBy system moment old units next life) (unspent : AreUnspent moment.lasting)
    (have : HaveSlots system.databases n old) (had : HaveSlots system.databases n new) (holds : HoldTouched moment.enqueues old)
    (region : ℕ) (least : 1 ≤ region) (most : region ≤ n) (victims : List Victim) (right_victims : BreaksRingsAt system moment region victims (slot_at moment region))
    (right : list_all (has_right_pad system) (After system moment (Turn region) victims).lasting.conversations ≡ true)
    (holds_then : HoldTouched (After system moment (Turn region) victims).enqueues new) (rows_are : map (λ s. rows_of_slots s.slots) new.committed ≡ (After system moment (Turn region) victims).lasting.rows)
    (records : List Record) where
  abbrev after : Moment
  after = After system moment (Turn region) victims

  abbrev unit : ℕ
  unit = unit_of_region units region

  sound : StaysSound system after
  sound = stays_sound system valid moment (has_terminals system moment.lasting c.is.names) c.sound (Turn region) victims tt right_victims right

  -- a life that goes with what the machine comes to is carried by it
  carried : (bytes : List ℕ) (lasting : LastingState) (regions : List (Option Slot)) (table : EnqueueTable) (units_then : List ℕ) (next_then : ℕ) → after.lasting ≡ lasting → after.slots ≡ regions → after.enqueues ≡ table
      → Continues bytes (IsLifeOf system lasting regions table new units_then next_then) life → LifeGoesOn bytes system after new units_then next_then life
  carried bytes lasting regions table units_then next_then a b d goes = record {
    behind = goes.behind;
    text = goes.text;
    now = goes.now;
    log = goes.log;
    goes = goes.goes;
    is = record {
      is =
          subst (λ (l : LastingState). IsLifeOf system l after.slots after.enqueues new units_then next_then goes.behind) (sym a)
          (subst (λ (r : List (Option Slot)). IsLifeOf system lasting r after.enqueues new units_then next_then goes.behind) (sym b)
          (subst (λ (t : EnqueueTable). IsLifeOf system lasting regions t new units_then next_then goes.behind) (sym d) goes.is));
      sound = sound;
    };
  }

  -- what is told without a step
  no_step : (bytes : List ℕ) (units_then : List ℕ) (next_then : ℕ) → bytes ≡ flat_map record_spelling (records ++ []) → LifeGoesOn bytes system after new units_then next_then life → LifeGoesOn (flat_map record_spelling (records ++ [])) system after new units_then next_then life
  no_step bytes units_then next_then same goes = subst (λ (b : List ℕ). LifeGoesOn b system after new units_then next_then life) same goes

  nothing_told : records ≡ [] → [] ≡ flat_map record_spelling (records ++ [])
  nothing_told none = sym (ap (λ (rs : List Record). flat_map record_spelling (rs ++ [])) none)

  -- what a turn comes to, by its step, the region's slot before it, and its answer
  abbrev ComesTo : Option LastingStep → Option Slot → Turned → Type 0
  ComesTo step found turned =
      after.lasting ≡ option_map_or (λ s. applied s moment.lasting) step moment.lasting
      → after.slots ≡ without_victims victims (slice_set moment.slots (region - 1) (slot_after turned found))
      → after.enqueues ≡ table_after turned region (table_by system moment region found)
      → QuietUnlessCalled records turned → DoesSo system.databases n moment.slots old new unit region records turned
      → HasRoom (records ++ told_by unit moment.lasting step) life
      → GoesBy step (flat_map record_spelling (records ++ told_by unit moment.lasting step)) system after new (units_after turned region next units) (next_after turned next) life

  -- the number of a region goes with its slot
  number_fits : (found : Option Slot) → slot_at moment region ≡ found → (u : ℕ) → slice_get units (region - 1) ≡ Some u → nat_lt 0 u ≡ is_some found
  number_fits found here u is = by (slice_get moment.slots (region - 1)) refl here where
    get_past : (xs : List (Option Slot)) (k : ℕ) → k < length xs → slice_get xs k ≡ None → ⊥
    get_past [] k low e = omega (arith, low)
    get_past (x ∷ xs) zero low e = cc
    get_past (x ∷ xs) (suc k) low e = get_past xs k (omega (arith, low)) e

    by : (o : Option (Option Slot)) → slice_get moment.slots (region - 1) ≡ o → unwrap_or o None ≡ found → nat_lt 0 u ≡ is_some found
    by None e f = absurd (get_past moment.slots (region - 1) (omega (arith, slice_get_within units (region - 1) u is, c.is.numbers.count)) e)
    by (Some slot) e f = c.is.numbers.busy (region - 1) u slot is e ∙ ap is_some f

  kept_numbers : (found : Option Slot) → slot_at moment region ≡ found → AreUnitsNumbered (slice_set moment.slots (region - 1) found) units next
  kept_numbers found here = numbered_kept moment.slots units next c.is.numbers (region - 1) found (number_fits found here)

  without_none : (regions : List (Option Slot)) → victims ≡ [] → without_victims victims regions ≡ regions
  without_none regions none = ap (λ (vs : List Victim). without_victims vs regions) none

  asked_leave : (found : Option Slot) (other d : ℕ) (image : List Row) → HoldsAlone moment.enqueues other (resource_of d image) → HoldsAlone (table_by system moment region found) other (resource_of d image)
  asked_leave None other d image alone = alone
  asked_leave (Some slot) other d image alone = asks_leave region other (slot_requests system moment.lasting region slot) moment.enqueues (resource_of d image) alone

  -- ---- nothing happens, but that a region may have asked

  still : (found : Option Slot) → slot_at moment region ≡ found → victims ≡ [] → after.lasting ≡ moment.lasting → after.slots ≡ without_victims victims (slice_set moment.slots (region - 1) found) → after.enqueues ≡ table_by system moment region found
      → records ≡ [] → new ≡ old → LifeGoesOn (flat_map record_spelling (records ++ [])) system after new units next life
  still found here none a b d quiet same =
      no_step [] units next (nothing_told quiet)
      (carried [] moment.lasting (slice_set moment.slots (region - 1) found) (table_by system moment region found) units next a (b ∙ without_none (slice_set moment.slots (region - 1) found) none) d
      (subst (λ (slots : SlotsState). Continues [] (IsLifeOf system moment.lasting (slice_set moment.slots (region - 1) found) (table_by system moment region found) slots units next) life) (sym same)
      (stays_as system moment.lasting moment.slots (slice_set moment.slots (region - 1) found) moment.enqueues (table_by system moment region found) old units next life c.is (asked_leave found) (kept_numbers found here))))

  -- ---- an empty region

  no_unit : slot_at moment region ≡ None → unit ≡ 0
  no_unit here = by (slice_get units (region - 1)) refl where
    index_none : (xs : List ℕ) (k : ℕ) → slice_get xs k ≡ None → slice_index_or xs k 0 ≡ 0
    index_none [] k e = refl
    index_none (x ∷ xs) zero e = absurd cc
    index_none (x ∷ xs) (suc k) e = index_none xs k e

    by : (o : Option ℕ) → slice_get units (region - 1) ≡ o → unit ≡ 0
    by None e = index_none units (region - 1) e
    by (Some u) e = omega (arith, index_found units (region - 1) u 0 e, ltb-false 0 u (number_fits None here u e))

  taken : (code : List ℕ) (id : ℕ) → slot_at moment region ≡ None → victims ≡ [] → ComesTo None None (Scheduled code id)
  taken code id here none a b d quiet same room =
      let slot : Slot = record { code = code; taken = 1; id = id; calls = 0 } in
      no_step [] (with_unit region next units) (next + 1) (nothing_told quiet)
      (carried [] moment.lasting (slice_set moment.slots (region - 1) (Some slot)) moment.enqueues (with_unit region next units) (next + 1) a (b ∙ without_none (slice_set moment.slots (region - 1) (Some slot)) none) d
      (subst (λ (slots : SlotsState). Continues [] (IsLifeOf system moment.lasting (slice_set moment.slots (region - 1) (Some slot)) moment.enqueues slots (with_unit region next units) (next + 1)) life) (sym same)
      (takes_on system moment.lasting moment.slots (slice_set moment.slots (region - 1) (Some slot)) moment.enqueues moment.enqueues old units next life c.is (λ other d image alone. alone) region least (no_unit here)
      (numbered_taken moment.slots units next (region - 1) slot c.is.numbers))))

  scheduled : slot_at moment region ≡ None → victims ≡ [] → (pick : Option Candidate) (need : ℕ) (b : Bool) → nat_lt system.qbytes need ≡ b → ComesTo None None (schedule_answer pick need system.qbytes)
  scheduled here none None need b e = λ x y z quiet same room. still None here none x y z quiet same
  scheduled here none (Some pick) need true e =
      subst (ComesTo None None) (sym (ap (λ (t : Bool). if t then Held need system.qbytes else Scheduled pick.code pick.id) e)) (λ x y z quiet same room. still None here none x y z quiet same)
  scheduled here none (Some pick) need false e =
      subst (ComesTo None None) (sym (ap (λ (t : Bool). if t then Held need system.qbytes else Scheduled pick.code pick.id) e)) (taken pick.code pick.id here none)

  -- ---- a busy region
  module _ (slot : Slot) (here : slot_at moment region ≡ Some slot) where
    some : 0 < unit
    some = some_unit moment.slots units next region c.is.numbers (ap is_some here)

    found_unit : slice_get units (region - 1) ≡ Some unit
    found_unit = get_of_index units (region - 1) unit refl some

    abbrev asked : EnqueueTable
    asked = table_by system moment region (Some slot)

    slot_there : slice_get moment.slots (region - 1) ≡ Some (Some slot)
    slot_there = by (slice_get moment.slots (region - 1)) here where
      by : (o : Option (Option Slot)) → unwrap_or o None ≡ Some slot → o ≡ Some (Some slot)
      by None e = absurd cc
      by (Some s) e = ap (λ (x : Option Slot). Some x) e

    -- victims give up
    backed : (v : Victim) (others : List Victim) → victims ≡ v ∷ others → ComesTo None (Some slot) (Backed (v ∷ others))
    backed v others are a b d quiet does room =
        let regions : List (Option Slot) = slice_set moment.slots (region - 1) (Some slot) in
        let same : regions ≡ moment.slots = set_itself moment.slots (region - 1) (Some slot) slot_there in
        let up = victims_go system n moment.lasting next (few_sectors_of system valid) (v ∷ others) moment.slots moment.enqueues old new units life c.is have holds does in
        let slots_are : after.slots ≡ without_victims (v ∷ others) moment.slots =
        b ∙ ap (λ (vs : List Victim). without_victims vs regions) are ∙ ap (λ (rs : List (Option Slot)). without_victims (v ∷ others) rs) same in
        let asking =
        stays_as system moment.lasting (without_victims (v ∷ others) moment.slots) (without_victims (v ∷ others) moment.slots) (after_victims (v ∷ others) moment.enqueues) (after_victims (v ∷ others) asked) new
        (without_units (v ∷ others) units) next up.behind up.is
        (λ other dbd image alone. victims_leave (v ∷ others) moment.enqueues asked (λ one resource held. asks_leave region one (slot_requests system moment.lasting region slot) moment.enqueues resource held) other (resource_of dbd image) alone)
        up.is.numbers in
        no_step [] (without_units (v ∷ others) units) next (nothing_told quiet)
        (carried [] moment.lasting (without_victims (v ∷ others) moment.slots) (after_victims (v ∷ others) asked) (without_units (v ∷ others) units) next a slots_are d
        (continues_then [] []
        (IsLifeOf system moment.lasting (without_victims (v ∷ others) moment.slots) (after_victims (v ∷ others) moment.enqueues) new (without_units (v ∷ others) units) next)
        (IsLifeOf system moment.lasting (without_victims (v ∷ others) moment.slots) (after_victims (v ∷ others) asked) new (without_units (v ∷ others) units) next) life up asking))

    waits : (blocked : Request × ℕ) → victims ≡ [] → ComesTo None (Some slot) (Waits blocked.0.resource blocked.1)
    waits blocked none = λ x y z quiet same room. still (Some slot) here none x y z quiet same

    blocked_goes : (blocked : Request × ℕ) (vs : List Victim) → victims ≡ vs → ComesTo None (Some slot) (blocked_answer blocked vs)
    blocked_goes blocked [] are = waits blocked are
    blocked_goes blocked (v ∷ others) are = backed v others are

    -- a call
    called : (function : Rattle.tm_types.specs.declared.function.Function.Function) (pcb : ℕ) (status : Rattle.tm_types.specs.declared.status.Status.Status) → victims ≡ [] → ComesTo None (Some slot) (Called function pcb status)
    called function pcb status none a b d quiet does room =
        let slot_then : Slot = record slot { calls = slot.calls + 1 } in
        let regions : List (Option Slot) = slice_set moment.slots (region - 1) (Some slot_then) in
        let same_bytes : flat_map record_spelling records ≡ flat_map record_spelling (records ++ []) = ap (λ (rs : List Record). flat_map record_spelling rs) (sym (append-nil records)) in
        no_step (flat_map record_spelling records) units next same_bytes
        (carried (flat_map record_spelling records) moment.lasting regions asked units next a (b ∙ without_none regions none) d
        (call_goes system n moment.lasting moment.slots regions moment.enqueues asked old new units next life c.is have had (few_sectors_of system valid) holds
        (subst (λ (t : EnqueueTable). HoldTouched t new) d holds_then) (asked_leave (Some slot))
        (numbered_kept moment.slots units next c.is.numbers (region - 1) (Some slot_then) (λ u is. number_fits (Some slot) here u is))
        unit region least most found_unit some records does (room_of (records ++ []) records life (append-nil records) room)))

    -- ---- the work ends

    leaves : (turned : Turned) → table_after turned region asked ≡ released region asked → after.enqueues ≡ table_after turned region asked → (other d : ℕ) (image : List Row) → (other ≡ region → ⊥)
        → HoldsAlone moment.enqueues other (resource_of d image) → HoldsAlone after.enqueues other (resource_of d image)
    leaves turned is d other dbd image apart alone =
        subst (λ (t : EnqueueTable). HoldsAlone t other (resource_of dbd image)) (sym (d ∙ is))
        (release_leaves region other asked (resource_of dbd image) (ne_eqb other region apart) (asked_leave (Some slot) other dbd image alone))

    module _ (work : AtWork) (works : slot_work system moment.lasting slot ≡ Some work) where
      abbrev trial : Trial
      trial = work.trial

      sends : SendsWell system moment.lasting slot.id trial
      sends = work_sends system valid moment.lasting c.sound.stands slot work works

      its_message : IsMessage moment.lasting slot.id
      its_message = message_of_work system moment.lasting slot work works

      abbrev completion : LastingStep
      completion = Completes slot.id trial.databases.rows (outputs_of trial) (pad_of trial)

      -- it is completed, and the region's slot is this one then, its number that one
      completed : (turned : Turned) (slot_then : Option Slot) (number later : ℕ) → (number ≡ 0) ⊎ (next ≤ number) → number < later → next ≤ later
          → AreUnitsNumbered (slice_set moment.slots (region - 1) slot_then) (with_unit region number units) later → victims ≡ [] → table_after turned region asked ≡ released region asked
          → after.lasting ≡ applied completion moment.lasting → after.slots ≡ without_victims victims (slice_set moment.slots (region - 1) slot_then) → after.enqueues ≡ table_after turned region asked
          → records ≡ [] → CommitsSo region old new → HasRoom (records ++ step_records unit completion moment.lasting) life
          → LifeStepsOn (flat_map record_spelling (records ++ step_records unit completion moment.lasting)) system after new (with_unit region number units) later life
      completed turned slot_then number later fresh low more numbers none table a b d quiet commits room =
          let same : records ++ step_records unit completion moment.lasting ≡ step_records unit completion moment.lasting = ap (λ (rs : List Record). rs ++ step_records unit completion moment.lasting) quiet in
          subst (λ (rs : List Record). LifeStepsOn (flat_map record_spelling rs) system after new (with_unit region number units) later life) (sym same)
          (complete_goes system valid n moment after old new units next life c sound unspent have had holds unit region least found_unit some (leaves turned table d) number later fresh low more
          (subst (λ (rs : List (Option Slot)). AreUnitsNumbered rs (with_unit region number units) later) (sym (b ∙ without_none (slice_set moment.slots (region - 1) slot_then) none)) numbers)
          slot.id its_message.message its_message.at its_message.its trial.databases.rows (outputs_of trial) (pad_of trial) a sends.bytes sends.receivers (sends.flagged its_message.message its_message.at) commits
          (rows_are ∙ ap (λ (l : LastingState). l.rows) a ∙ completed_rows slot.id trial.databases.rows (outputs_of trial) (pad_of trial) moment.lasting)
          (room_of (records ++ step_records unit completion moment.lasting) (step_records unit completion moment.lasting) life same room))

      done : victims ≡ [] → ComesTo (Some completion) (Some slot) (Done slot.code slot.id)
      done none a b d quiet does room =
          completed (Done slot.code slot.id) None 0 next (inl refl) c.is.numbers.some (omega arith) (numbered_ended moment.slots units next (region - 1) c.is.numbers) none refl a b d quiet does room

      synced_goes : victims ≡ [] → (further : Option ℕ) → ComesTo (Some completion) (Some slot) (sync_answer slot further)
      synced_goes none None = λ a b d quiet does room.
          completed (QC slot.code slot.id) None 0 next (inl refl) c.is.numbers.some (omega arith) (numbered_ended moment.slots units next (region - 1) c.is.numbers) none refl a b d quiet does room
      synced_goes none (Some id) = λ a b d quiet does room.
          let slot_then : Slot = record slot { taken = slot.taken + 1; id = id; calls = 0 } in
          completed (Next slot.code slot.id id) (Some slot_then) next (next + 1) (inr (omega arith)) (omega arith) (omega arith)
          (numbered_taken moment.slots units next (region - 1) slot_then c.is.numbers) none refl a b d quiet does room

      abended : (abend : AbendCode) → victims ≡ [] → ComesTo (Some (Discards slot.id abend)) (Some slot) (Abended slot.code slot.id abend)
      abended abend none a b d quiet does room =
          let step : LastingStep = Discards slot.id abend in
          let same : records ++ step_records unit step moment.lasting ≡ step_records unit step moment.lasting = ap (λ (rs : List Record). rs ++ step_records unit step moment.lasting) quiet in
          subst (λ (rs : List Record). LifeStepsOn (flat_map record_spelling rs) system after new (with_unit region 0 units) next life) (sym same)
          (discard_goes system valid n moment after old new units next life c sound unspent have had holds unit region least found_unit some (leaves (Abended slot.code slot.id abend) refl d)
          0 next (inl refl) c.is.numbers.some (omega arith)
          (subst (λ (rs : List (Option Slot)). AreUnitsNumbered rs (with_unit region 0 units) next) (sym (b ∙ without_none (slice_set moment.slots (region - 1) None) none)) (numbered_ended moment.slots units next (region - 1) c.is.numbers))
          slot.id its_message.message its_message.at its_message.its abend a does
          (room_of (records ++ step_records unit step moment.lasting) (step_records unit step moment.lasting) life same room))

      advances : victims ≡ [] → (advance : Advance) → ComesTo (ended_step slot trial advance) (Some slot) (work_answer system moment slot trial advance)
      advances none (Goes further call) = called call.function call.pcb call.status none
      advances none (Stops Ends) = done none
      advances none (Stops Syncs) = synced_goes none (next_message system moment (applied (ending_step slot trial Syncs) moment.lasting) slot)
      advances none (Stops (Abends abend)) = abended abend none

    works_goes : victims ≡ [] → (found : Option AtWork) → slot_work system moment.lasting slot ≡ found
        → ComesTo (option_and_then (λ work. ended_step slot work.trial work.advance) found) (Some slot) (option_map_or (λ work. work_answer system moment slot work.trial work.advance) found Idle)
    works_goes none None e = λ a b d quiet same room. still (Some slot) here none a b d quiet same
    works_goes none (Some work) e = advances work e none work.advance

    busy_goes : (blocked : Option (Request × ℕ)) → BreaksWhere (changes_now system moment) region (asked_table system moment region) victims blocked
        → ComesTo (unless_blocked blocked (turn_step system moment.lasting slot)) (Some slot) (option_map_or (λ b. blocked_answer b victims) blocked (slot_answer system moment slot))
    busy_goes (Some blocked) are = blocked_goes blocked victims refl
    busy_goes None are = works_goes are (slot_work system moment.lasting slot) refl

  turn_by_slot : (found : Option Slot) → slot_at moment region ≡ found → BreaksRingsAt system moment region victims found → ComesTo (option_and_then (step_in_turn system moment region) found) found (turn_by system moment region victims found)
  turn_by_slot None here are = scheduled here are (pick_now system moment region) (need_now moment) (nat_lt system.qbytes (need_now moment)) refl
  turn_by_slot (Some slot) here are = busy_goes slot here (blocked_now system moment region slot) are

  -- The region has its turn.
  pub turn_goes : (turned : Turned) → turned ≡ turn_answer system moment region victims → QuietUnlessCalled records turned → DoesSo system.databases n moment.slots old new unit region records turned
      → HasRoom (records ++ told_by unit moment.lasting (lasting_step system moment (Turn region))) life
      → GoesBy (lasting_step system moment (Turn region)) (flat_map record_spelling (records ++ told_by unit moment.lasting (lasting_step system moment (Turn region)))) system after new
      (units_after turned region next units) (next_after turned next) life
  turn_goes turned is quiet does room =
      subst (λ (t : Turned). GoesBy (lasting_step system moment (Turn region)) (flat_map record_spelling (records ++ told_by unit moment.lasting (lasting_step system moment (Turn region)))) system after new (units_after t region next units) (next_after t next) life) (sym is)
      (turn_by_slot (slot_at moment region) refl right_victims refl refl refl (subst (QuietUnlessCalled records) is quiet) (subst (DoesSo system.databases n moment.slots old new unit region records) is does) room)
