-- What a turn tells, and what it does to slots.
use Rattle.std.proofs.Common.{◌≡◌, ℕ, ◌+◌, ◌-◌, ◌<◌, ◌≤◌, ◌++◌, ◌∷◌, [], List, length, length-append, refl, sym, ap, ◌∙◌, subst, arith}
use Rattle.std.specs.Prelude.{Option, Some, None, IsSome, IsSomeAnd, IfOk, Result, Ok, Err, slice_get, slice_set}
use Rattle.std.specs.List.{AllByRecursion, flat_map}
use Rattle.std.specs.Option.{option_map_or}
use Rattle.std.proofs.lemmas.List.{append-nil, append_assoc}
use Rattle.tm_types.specs.declared.message.Message.{Message}
use Rattle.tm_types.specs.declared.dbd.Dbd.{Dbd}
use Rattle.tm_types.specs.declared.resource.Resource.{Resource}
use Rattle.model_messages.specs.Queue.{queued_message}
use Rattle.model_system.specs.declared.code_state.CodeState.{CodeState}
use Rattle.model_system.specs.Jobs.{job_of}
use Rattle.model_system.specs.System.{System}
use Rattle.model_data.specs.declared.victim.Victim.{Victim}
use Rattle.model_machine.specs.declared.entry.ControlCall.TheVariants.{Turn}
use Rattle.model_machine.specs.declared.entry.Turned.{Turned}
use Rattle.model_machine.specs.declared.entry.Turned.TheVariants.{Scheduled, Called, Next, QC, Done, Abended, Idle, Held, Waits, Backed}
use Rattle.model_machine.specs.Requests.{without_victims}
use Rattle.model_machine.specs.Machine.{Moment, Slot, slot_at, slot_in}
use Rattle.log_records.specs.declared.record.Record.{Record}
use Rattle.log_records.specs.RecordSpelling.{number2, record_content, record_length, record_spelling, IsLogRecord}
use Rattle.log_records.proofs.FieldLaws.{number2_length}
use Rattle.program_rows.specs.DatabasesState.{DatabasesState}
use Rattle.log_records.specs.ToldRecords.{spelled_records, TellsInRoom as RowsTell}
use Rattle.program_rows.specs.SlotsState.{SlotsState, slots_state_of, GivesUpSo, HaveSlots, AreOnSlots}
use Rattle.message_run.specs.MessageChanges.{next_told}
use Rattle.lasting_state.specs.Tables.{TablesState, lasting_of}
use Rattle.region_work.specs.declared.region.Busy.{Busy}
use Rattle.region_work.specs.RegionWork.{given_in, HasNext, NextTells, calls_made}
use Rattle.tm_machine.specs.Parts.{PartsState, work_slots, settings_of, flags_of, AreDatabases, AreParts}
use Rattle.tm_machine.specs.SlotChanges.{slots_now, GiveUpSo, VictimsGiveUp, next_call_told, changes_told, turn_records, TellByCall, TurnTells, IsTurnLonger, TurnsSo, HasSlots}
use Rattle.tm_machine.specs.ToldByCall.{told_bytes_of, told_records_of, IsCallLonger, TellsLastingStep}
use Rattle.tm_machine.specs.Turns.{waited}
use Rattle.tm_machine.specs.Victims.{all_gave_way, gave_way}
use Rattle.tm_machine.proofs.Stepped.{moment_at, slot_is, trial_is}

-- ---- the next call of a region
module _ (system : System) (tables : TablesState) (states : List CodeState) (regions : List (Option Busy)) (region : ℕ) (parts : AreParts system tables states regions) where
  abbrev state_now : PartsState
  state_now = record { system = system; moment = moment_at system tables states regions region parts regions; databases = tables.databases }

  abbrev told_by : ℕ → Option Slot → List Record
  told_by unit found = option_map_or (λ slot. option_map_or (next_call_told state_now unit region slot) (job_of system slot.code) []) found []

  abbrev slot_for : Busy → Slot
  slot_for busy = record { code = busy.code; taken = busy.taken; id = busy.id; calls = calls_made busy.unit }

  -- what holds of what its work tells next holds of what its turn tells
  pub next_of : (holds : List Record → Type 0) (unit : ℕ) (old : Option Busy) → slice_get regions (region - 1) ≡ Some old → NextTells system region unit tables holds old → holds (changes_told state_now unit region)
  next_of holds unit None e h = subst holds (sym (ap (told_by unit) (slot_is system tables states regions region parts None e))) h
  next_of holds unit (Some busy) e h = by (queued_message busy.id tables.queues.queued) refl h
    where
      one : (message : Message) → queued_message busy.id tables.queues.queued ≡ Some message → HasNext system region unit tables.databases (given_in tables.conversations message) busy holds
          → holds (changes_told state_now unit region)
      one message found n =
          let trial = trial_is system tables states regions region parts (slot_for busy) message n.job n.trial found n.serves n.made in
          let is : changes_told state_now unit region ≡ next_told unit region tables.databases n.job n.trial =
          ap (told_by unit) (slot_is system tables states regions region parts (Some busy) e)
          ∙ (ap (λ o. option_map_or (next_call_told state_now unit region (slot_for busy)) o []) n.serves
          ∙ ap (λ o. option_map_or (next_told unit region tables.databases n.job) o []) trial) in
          subst holds (sym is) n.is

      by : (found : Option Message) → queued_message busy.id tables.queues.queued ≡ found → IsSomeAnd found (λ message. HasNext system region unit tables.databases (given_in tables.conversations message) busy holds)
          → holds (changes_told state_now unit region)
      by (Some message) f g = one message f g
      by None f g = absurd g

-- ---- records and bytes

-- records that are spelled in no bytes are none
spelled_none : (records : List Record) → length (spelled_records records) ≡ 0 → records ≡ []
spelled_none [] e = refl
spelled_none (r ∷ records) e =
    let whole : length (record_spelling r ++ spelled_records records) ≡ length (record_spelling r) + length (spelled_records records) = length-append (record_spelling r) (spelled_records records) in
    let one : length (record_spelling r) ≡ length (number2 (record_length r)) + length (record_content r) = length-append (number2 (record_length r)) (record_content r) in
    let two : length (number2 (record_length r)) ≡ 2 = number2_length (record_length r) in
    absurd (omega (arith, e, whole, one, two))

-- where nothing was added, nothing was told
pub none_added : (records : List Record) (room : ℕ) (told now : List ℕ) → now ≡ told → RowsTell records room told now → records ≡ []
none_added records room told now same t =
    spelled_none records (omega (arith, ap length (sym same ∙ t.told), length-append told (spelled_records records)))

pub none_told : (records : List Record) (room : ℕ) (told now : List ℕ) → records ≡ [] → RowsTell records room told now → now ≡ told
none_told records room told now none t = t.told ∙ (ap (λ rs. told ++ spelled_records rs) none ∙ append-nil told)

flat_two : (a b : List Record) → flat_map record_spelling (a ++ b) ≡ flat_map record_spelling a ++ flat_map record_spelling b
flat_two [] b = refl
flat_two (r ∷ a) b = ap (λ bs. record_spelling r ++ bs) (flat_two a b) ∙ sym (append_assoc (record_spelling r) (flat_map record_spelling a) (flat_map record_spelling b))

-- ---- what a turn tells
module _ (state : PartsState) (unit room region : ℕ) where
  -- its call tells what it changes, and it ends no work
  pub tells_call : (told now : List ℕ) → RowsTell (changes_told state unit region) room told now → TellsLastingStep state.system state.moment unit room (Turn region) now now → TurnTells state unit room region told now
  tells_call told now t quiet =
      let none : length (told_bytes_of state.system state.moment unit (Turn region)) ≡ 0 =
      omega (arith, ap length quiet.told, length-append now (told_bytes_of state.system state.moment unit (Turn region))) in
      let records : told_records_of state.system state.moment unit (Turn region) ≡ [] = spelled_none (told_records_of state.system state.moment unit (Turn region)) none in
      let all : turn_records state unit region ≡ changes_told state unit region = ap (λ rs. changes_told state unit region ++ rs) records ∙ append-nil (changes_told state unit region) in
      record {
        told = t.told ∙ ap (λ rs. told ++ flat_map record_spelling rs) (sym all);
        changes = t.valid;
        steps = quiet.valid;
        fits = subst (λ rs. length (flat_map record_spelling rs) ≤ room) (sym all) t.fits;
      }

  -- it makes no call
  pub tells_end : (told now later : List ℕ) → changes_told state unit region ≡ [] → now ≡ told → TellsLastingStep state.system state.moment unit room (Turn region) now later → TurnTells state unit room region told later
  tells_end told now later none same t =
      let all : turn_records state unit region ≡ told_records_of state.system state.moment unit (Turn region) = ap (λ rs. rs ++ told_records_of state.system state.moment unit (Turn region)) none in
      record {
        told = t.told ∙ (ap (λ bs. bs ++ told_bytes_of state.system state.moment unit (Turn region)) same ∙ ap (λ rs. told ++ flat_map record_spelling rs) (sym all));
        changes = subst (λ rs. AllByRecursion IsLogRecord rs) (sym none) tt;
        steps = t.valid;
        fits = subst (λ rs. length (flat_map record_spelling rs) ≤ room) (sym all) t.fits;
      }

  pub longer_call : room < length (spelled_records (changes_told state unit region)) → IsTurnLonger state unit room region
  longer_call h =
      omega (
        arith,
        h,
        ap length (flat_two (changes_told state unit region) (told_records_of state.system state.moment unit (Turn region))),
        length-append (flat_map record_spelling (changes_told state unit region)) (flat_map record_spelling (told_records_of state.system state.moment unit (Turn region))),
      )

  pub longer_end : IsCallLonger state.system state.moment unit room (Turn region) → IsTurnLonger state unit room region
  longer_end h =
      omega (
        arith,
        h,
        ap length (flat_two (changes_told state unit region) (told_records_of state.system state.moment unit (Turn region))),
        length-append (flat_map record_spelling (changes_told state unit region)) (flat_map record_spelling (told_records_of state.system state.moment unit (Turn region))),
      )

-- the same of a turn that began behind a step which left all as it was
pub tells_later : (old middle : PartsState) (unit room region : ℕ) (told now later : List ℕ) → middle ≡ old → changes_told old unit region ≡ [] → now ≡ told
    → TellsLastingStep middle.system middle.moment unit room (Turn region) now later → TurnTells old unit room region told later
tells_later old middle unit room region told now later same none quiet t =
    tells_end old unit room region told now later none quiet (subst (λ (s : PartsState). TellsLastingStep s.system s.moment unit room (Turn region) now later) same t)

pub longer_later : (old middle : PartsState) (unit room region : ℕ) → middle ≡ old → IsCallLonger middle.system middle.moment unit room (Turn region) → IsTurnLonger old unit room region
longer_later old middle unit room region same h =
    longer_end old unit room region (subst (λ (s : PartsState). IsCallLonger s.system s.moment unit room (Turn region)) same h)

pub turns_later : (old middle new : PartsState) (unit region : ℕ) (turned : Turned) → middle ≡ old → TurnsSo middle new unit region turned → TurnsSo old new unit region turned
turns_later old middle new unit region turned same h = subst (λ (s : PartsState). TurnsSo s new unit region turned) same h

-- an empty region tells nothing
pub empty_tells : (state : PartsState) (unit region : ℕ) → slot_at state.moment region ≡ None → changes_told state unit region ≡ []
empty_tells state unit region e = ap (λ (found : Option Slot). option_map_or (λ slot. option_map_or (next_call_told state unit region slot) (job_of state.system slot.code) []) found []) e

-- where nothing is told of slots
pub by_call : (changes : List Record) (turned : Turned) → changes ≡ [] → TellByCall changes turned
by_call changes (Called function pcb status) e = tt
by_call changes (Next code id next) e = e
by_call changes (QC code id) e = e
by_call changes (Done code id) e = e
by_call changes (Abended code id abend) e = e
by_call changes (Backed victims) e = e
by_call changes (Scheduled code id) e = e
by_call changes Idle e = e
by_call changes (Held need limit) e = e
by_call changes (Waits resource by) e = e

pub all_by_call : {E : Type 0} (changes : List Record) (made : Result Turned E) → changes ≡ [] → IfOk made (TellByCall changes)
all_by_call changes (Ok turned) e = by_call changes turned e
all_by_call changes (Err error) e = tt

-- ---- victims

pub give_more : (dbds : List Dbd) (regions : ℕ) (taken : List (Option Slot)) (victims : List Victim) (v : Victim) (a b c : SlotsState) → GiveUpSo dbds regions taken victims a b
    → 1 ≤ v.region → IsSome (slot_in (without_victims victims taken) v.region) → GivesUpSo v.region b c → HaveSlots dbds regions c → GiveUpSo dbds regions taken (victims ++ v ∷ []) a c
give_more dbds regions taken [] v a b c h least busy g have =
    record { least = least; busy = busy; middle = c; gives_up = subst (λ s. GivesUpSo v.region s c) h g; have = have; rest = refl }
give_more dbds regions taken (w ∷ victims) v a b c h least busy g have = record {
  least = h.least;
  busy = h.busy;
  middle = h.middle;
  gives_up = h.gives_up;
  have = h.have;
  rest = give_more dbds regions (slice_set taken (w.region - 1) None) victims v h.middle b c h.rest least busy g have;
}

-- regions that gave way are empty
pub gave_slots : (system : System) (moment : Moment) (victims : List Victim) → (all_gave_way system moment victims).slots ≡ without_victims victims moment.slots
gave_slots system moment [] = refl
gave_slots system moment (v ∷ victims) = gave_slots system (gave_way system moment v.region) victims

-- one more gives way in a loop
pub gives_more : (old now new : PartsState) (victims : List Victim) (v : Victim) → now.system ≡ old.system → new.system ≡ now.system → now.moment ≡ all_gave_way old.system old.moment victims
    → VictimsGiveUp old victims (slots_now old) (slots_now now) → 1 ≤ v.region → IsSome (slot_at now.moment v.region) → GivesUpSo v.region (slots_now now) (slots_now new)
    → HaveSlots new.system.databases (length new.system.regions) (slots_now new) → VictimsGiveUp old (victims ++ v ∷ []) (slots_now old) (slots_now new)
gives_more old now new victims v same same' moment h least busy g have =
    give_more old.system.databases (length old.system.regions) old.moment.slots victims v (slots_now old) (slots_now now) (slots_now new) h least
    (subst (λ taken. IsSome (slot_in taken v.region)) (ap (λ m. m.slots) moment ∙ gave_slots old.system old.moment victims) busy) g
    (subst (λ s. HaveSlots s.databases (length s.regions) (slots_now new)) (same' ∙ same) have)

-- a region that waits, or for which others gave way
pub waits_so : (old middle new : PartsState) (unit region : ℕ) (resource : Resource) (by : ℕ) (victims : List Victim) → middle.system ≡ old.system → middle.moment.slots ≡ old.moment.slots
    → slots_now middle ≡ slots_now old → VictimsGiveUp middle victims (slots_now middle) (slots_now new) → TurnsSo old new unit region (waited resource by victims)
waits_so old middle new unit region resource by [] system slots same h = h ∙ same
waits_so old middle new unit region resource by (v ∷ victims) system slots same h =
    subst (λ s. GiveUpSo s.databases (length s.regions) old.moment.slots (v ∷ victims) (slots_now old) (slots_now new)) system
    (subst (λ taken. GiveUpSo middle.system.databases (length middle.system.regions) taken (v ∷ victims) (slots_now old) (slots_now new)) slots
    (subst (λ s. GiveUpSo middle.system.databases (length middle.system.regions) middle.moment.slots (v ∷ victims) s (slots_now new)) same h))

-- a call that waits leaves the slots
pub table_alone : (old new : PartsState) → new.databases ≡ record old.databases { table = new.databases.table } → slots_now new ≡ slots_now old
table_alone old new e = ap slots_state_of e

-- ---- what always holds

pub have_by : (system : System) (databases : DatabasesState) → AreDatabases system databases → AreOnSlots databases → HaveSlots system.databases (length system.regions) (slots_state_of databases)
have_by system databases are on =
    subst (λ n. HaveSlots system.databases n (slots_state_of databases)) are.regions (subst (λ dbds. HaveSlots dbds (length databases.regions) (slots_state_of databases)) are.stores on.have)

pub has_slots : (system : System) (tables : TablesState) (states : List CodeState) (regions : List (Option Busy)) → AreParts system tables states regions → AreOnSlots tables.databases
    → HasSlots (record { system = system; moment = record { lasting = lasting_of (settings_of states) tables; slots = work_slots regions; enqueues = tables.databases.table; raised = flags_of states }; databases = tables.databases })
has_slots system tables states regions parts on = record {
  have = have_by system tables.databases parts.databases on;
  held = on.holds;
  compatible = on.compatible;
  table_is = refl;
  rows_are = refl;
  defined = parts.valid;
  pads = parts.conversations.pads;
}
