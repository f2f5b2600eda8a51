-- The bytes of a snapshot, with the changes of open units, are a snapshot of the life.
use Rattle.std.proofs.Common.{◌≡◌, ℕ, ◌+◌, ◌-◌, Bool, false, List, [], ◌∷◌, ◌++◌, map, refl, sym, ◌∙◌, ap, arith}
use Rattle.std.specs.Prelude.{Option, if◌then◌else◌, slice_index_or}
use Rattle.std.specs.List.{flat_map, AllByRecursion}
use Rattle.std.specs.Option.{option_map_or}
use Rattle.tm_types.specs.declared.message.Message.{Message}
use Rattle.tm_types.specs.declared.message.Reply.{Reply}
use Rattle.model_messages.specs.declared.conversation.TerminalConversation.{TerminalConversation}
use Rattle.model_messages.specs.declared.replies.TerminalReplies.{TerminalReplies}
use Rattle.model_data.specs.Record as rows
use Rattle.model_machine.specs.declared.lasting.TerminalState.{TerminalState}
use Rattle.model_machine.specs.declared.lasting.CodeSetting.{CodeSetting}
use Rattle.model_machine.specs.Machine.{LastingState}
use Rattle.log_records.specs.declared.record.Record.{Record}
use Rattle.log_records.specs.RecordSpelling.{record_spelling}
use Rattle.seg_store.specs.Slots.{Stored}
use Rattle.seg_store.specs.ChangedSlots.{AllStores}
use Rattle.model_image.specs.Slots.{is_change_of}
use Rattle.unit_work.specs.declared.change.Change.{Change}
use Rattle.disk_law.specs.CommittedBytes.{Bytes, changes_of_slot}
use Rattle.checkpointing.specs.declared.touches.OpenUnit.{OpenUnit}
use Rattle.checkpointing.specs.SnapshotRecords.{terminal_records, code_record, message_record, reply_record, reply_records, snapshot_records}
use Rattle.checkpointing.specs.Touches as touches
use Rattle.checkpointing.proofs.Read.{IsRead}
use Rattle.checkpointing.proofs.Slots.{dbd_found}
use Rattle.disk_law.specs.Life.{LifeOnDisk, IsLifeOnDisk}
use Rattle.disk_law.specs.LifeCheckpoint.{HasStores, IsSnapshotOf}
use Rattle.disk_law.specs.KeptUnits.{KeptUnit, kept_touches, slot_record, slot_records, KeepTouches, unit_kept, bytes_now}
use Rattle.disk_law.proofs.Told.{tells_touches}

-- ---- only the changes of a snapshot are of slots

module _ (d s : ℕ) where
  passed : (r : Record) (records : List Record) → is_change_of d s r ≡ false → changes_of_slot (r ∷ records) d s ≡ changes_of_slot records d s
  passed r records none = ap (λ (b : Bool). if b then r ∷ changes_of_slot records d s else changes_of_slot records d s) none

  past_terminals : (ts : List TerminalState) (os : List TerminalReplies) (cs : List TerminalConversation) (more : List Record) → changes_of_slot (terminal_records ts os cs ++ more) d s ≡ changes_of_slot more d s
  past_terminals [] os cs more = refl
  past_terminals (t ∷ ts) [] cs more = refl
  past_terminals (t ∷ ts) (o ∷ os) [] more = refl
  past_terminals (t ∷ ts) (o ∷ os) (c ∷ cs) more = past_terminals ts os cs more

  past_codes : (cs : List CodeSetting) (more : List Record) → changes_of_slot (map code_record cs ++ more) d s ≡ changes_of_slot more d s
  past_codes [] more = refl
  past_codes (c ∷ cs) more = past_codes cs more

  past_messages : (ms : List Message) (more : List Record) → changes_of_slot (map message_record ms ++ more) d s ≡ changes_of_slot more d s
  past_messages [] more = refl
  past_messages (m ∷ ms) more = past_messages ms more

  past_some : (name : List ℕ) (rs : List Reply) (some more : List Record) → changes_of_slot (some ++ more) d s ≡ changes_of_slot more d s → changes_of_slot ((map (reply_record name) rs ++ some) ++ more) d s ≡ changes_of_slot more d s
  past_some name [] some more rest = rest
  past_some name (r ∷ rs) some more rest = past_some name rs some more rest

  past_replies : (os : List TerminalReplies) (more : List Record) → changes_of_slot (reply_records os ++ more) d s ≡ changes_of_slot more d s
  past_replies [] more = refl
  past_replies (o ∷ os) more = past_some o.terminal o.replies (reply_records os) more (past_replies os more)

  pub only_changes : (checkpoint unit : ℕ) (state : LastingState) (changes : List Record) → changes_of_slot (snapshot_records checkpoint unit state changes) d s ≡ changes_of_slot changes d s
  only_changes checkpoint unit state changes =
      past_terminals state.terminals state.outputs state.conversations (map code_record state.codes ++ (map message_record state.messages ++ (reply_records state.outputs ++ changes)))
      ∙ past_codes state.codes (map message_record state.messages ++ (reply_records state.outputs ++ changes))
      ∙ past_messages state.messages (reply_records state.outputs ++ changes)
      ∙ past_replies state.outputs changes

-- ---- the changes are those of the slots that the units keep

pub same_changes : (stores : List Stored) (units : List OpenUnit) → touches.changes_of_units stores units ≡ slot_records (bytes_now stores) (map unit_kept units)
same_changes stores [] = refl
same_changes stores (u ∷ units) = ap (λ (rs : List Record). touches.touch_records u.number stores u.work.now.slots ++ rs) (same_changes stores units)

-- the same bytes give the same records
slots_same : (unit : ℕ) (one other : Bytes) (slots : List Change) → AllByRecursion (λ c. one c.db c.slot ≡ other c.db c.slot) slots → map (slot_record unit one) slots ≡ map (slot_record unit other) slots
slots_same unit one other [] same = refl
slots_same unit one other (c ∷ slots) same =
    ap (λ (present : List ℕ). Rattle.log_records.specs.declared.record.Record.TheVariants.Change unit c.db c.slot (rows.rows_spelling c.before) present ∷ map (slot_record unit one) slots) same.0
    ∙ ap (λ (rs : List Record). slot_record unit other c ∷ rs) (slots_same unit one other slots same.1)

records_same : (one other : Bytes) (units : List KeptUnit) → AllByRecursion (λ u. AllByRecursion (λ c. one c.db c.slot ≡ other c.db c.slot) u.slots) units → slot_records one units ≡ slot_records other units
records_same one other [] same = refl
records_same one other (u ∷ units) same =
    ap (λ (rs : List Record). rs ++ slot_records one units) (slots_same u.number one other u.slots same.0)
    ∙ ap (λ (rs : List Record). map (slot_record u.number other) u.slots ++ rs) (records_same one other units same.1)

-- ---- what stands in a slot that is there

module _ (life : LifeOnDisk) (stores : AllStores) (has : HasStores life stores) where
  present_is : (c : Change) → touches.IsSlotTouched stores.stores c → life.present c.db c.slot ≡ bytes_now stores.stores c.db c.slot
  present_is c is =
      let place : ℕ = c.db - 1 in
      let above : c.db ≡ place + 1 = omega (arith, is.least) in
      ap (λ d. life.present d c.slot) above
      ∙ has.present place c.slot is.store.dbd (dbd_found stores.stores life.system.databases place is.store has.are_of.databases is.found) is.within
      ∙ ap (λ (o : Option Stored). rows.rows_spelling (slice_index_or (option_map_or (λ (s : Stored). s.slots) o []) c.slot [])) is.found
      ∙ sym (ap (λ (o : Option Stored). rows.rows_spelling (option_map_or (λ (s : Stored). slice_index_or s.slots c.slot []) o [])) is.found)

  slots_present : (slots : List Change) → AllByRecursion (touches.IsSlotTouched stores.stores) slots → AllByRecursion (λ c. life.present c.db c.slot ≡ bytes_now stores.stores c.db c.slot) slots
  slots_present [] each = tt
  slots_present (c ∷ slots) each = (present_is c each.0, slots_present slots each.1)

  units_present : (units : List OpenUnit) → AllByRecursion (λ u. touches.AreSlotsTouched stores.stores u.work.now.slots) units → AllByRecursion (λ u. AllByRecursion (λ c. life.present c.db c.slot ≡ bytes_now stores.stores c.db c.slot) u.slots) (map unit_kept units)
  units_present [] each = tt
  units_present (u ∷ units) each = (slots_present u.work.now.slots each.0.each, units_present units each.1)

  module _ (l : IsLifeOnDisk life) (units : List OpenUnit) (are : touches.AreOpen stores.stores units) (keep : KeepTouches life (map unit_kept units)) (checkpoint unit : ℕ) where
    abbrev told : List Record
    told = snapshot_records checkpoint unit life.lasting (touches.changes_of_units stores.stores units)

    told_same : (d s : ℕ) → changes_of_slot told d s ≡ changes_of_slot (slot_records life.present (map unit_kept units)) d s
    told_same d s =
        only_changes d s checkpoint unit life.lasting (touches.changes_of_units stores.stores units)
        ∙ ap (λ (rs : List Record). changes_of_slot rs d s)
        (same_changes stores.stores units ∙ sym (records_same life.present (bytes_now stores.stores) (map unit_kept units) (units_present units are.each)))

    -- The records of the snapshot of a checkpoint, spelled one after another, are a snapshot of the life.
    pub is_snapshot : IsRead life.system checkpoint unit life.lasting (touches.changes_of_units stores.stores units) → IsSnapshotOf life.system life.lasting (kept_touches life.present (map unit_kept units)) told (flat_map record_spelling told)
    is_snapshot read = record {
      cut = read.cut;
      unbroken = read.unbroken;
      state_is = read.state_is;
      tells = tells_touches life l (map unit_kept units) keep told told_same;
    }
