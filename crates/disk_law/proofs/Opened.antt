-- A life begins: what an opening leaves is an image of it.
use Rattle.std.proofs.Common.{◌≡◌, inl, ℕ, ◌+◌, ◌*◌, ◌<◌, true, List, [], ◌∷◌, map, refl, sym, ◌∙◌, ap, subst, arith, Some, None, Ok, append-nil}
use Rattle.std.specs.Prelude.{Result}
use Rattle.tm_types.specs.declared.dbd.Dbd.{Dbd}
use Rattle.tm_disk.specs.Disk.{Image}
use Rattle.model_data.specs.declared.row.Row.{Row}
use Rattle.model_system.specs.System.{System}
use Rattle.model_machine.specs.Machine.{LastingState, empty_state}
use Rattle.log_records.specs.declared.record.Record.{Record}
use Rattle.log_records.specs.declared.record.Record.TheVariants.{Input, Command, Reply, Discarded, Completed, Acknowledged, SyncPoint, Checkpoint, Terminal, Code, Change}
use Rattle.log_sectors.specs.Chain.{chain, joined_payloads}
use Rattle.restart_data.specs.declared.restart.RestartSector.{RestartSector}
use Rattle.seg_store.specs.Slots.{Stored, rows_of_slots}
use Rattle.model_image.specs.SectorsAhead.{NoneAhead}
use Rattle.model_system.specs.Areas.{log_first}
use Rattle.model_image.specs.CutRecords.{Cut, cut_of, IsRecordCutOff}
use Rattle.model_image.specs.Faults.{Fault}
use Rattle.model_image.specs.Slots.{named_by}
use Rattle.model_image.specs.Snapshot.{with_record_told, with_records_told, snapshot_state}
use Rattle.model_image.specs.RecoveredState.{log_in, first_later}
use Rattle.model_image.proofs.Ahead.{ahead_empty}
use Rattle.model_image.proofs.Answers.{one_answer_of, nothing_cut_off}
use Rattle.model_image.proofs.Later.{not_later}
use Rattle.disk_law.specs.CommittedBytes.{Touch, changes_of_slot, TellsTouches}
use Rattle.disk_law.specs.Life.{LifeOnDisk, IsLifeOnDisk, EachSlot, SpellRows, store_bytes_at, but_rows}
use Rattle.disk_law.specs.KeptImages.{IsImageKept, StandsAt}
use Rattle.disk_law.proofs.Naming.{NamedAs, unchanged_unnamed}
use Rattle.disk_law.proofs.Recovering.{IsReadAs, read_recovers}
use Rattle.disk_law.specs.OpenedLife.{bytes_in_stores, no_touches, opened_life, MayOpenLife, IsOpened}
use Rattle.disk_law.proofs.Anew.{begins_anew}
use Rattle.disk_law.proofs.Stored.{store_of, bytes_of_store}
use Rattle.checkpointing.proofs.Begun.{nothing_cut}
use Rattle.disk_law.proofs.Checkpointed.{no_bytes}

-- ---- a snapshot says nothing of rows

one_rows : (r : Record) (lasting : LastingState) → (with_record_told r lasting).rows ≡ lasting.rows
one_rows (Change unit database slot before after) lasting = refl
one_rows (Input unit id origin code number conversation segments) lasting = refl
one_rows (Command text) lasting = refl
one_rows (Reply unit terminal number segments) lasting = refl
one_rows (Discarded unit id abend number) lasting = refl
one_rows (Completed unit id) lasting = refl
one_rows (Acknowledged terminal number) lasting = refl
one_rows (SyncPoint unit pad) lasting = refl
one_rows (Checkpoint checkpoint next_id next_unit steps) lasting = refl
one_rows (Terminal name last next stopped conversation) lasting = refl
one_rows (Code name stopped class priority) lasting = refl

told_rows : (records : List Record) (lasting : LastingState) → (with_records_told records lasting).rows ≡ lasting.rows
told_rows [] lasting = refl
told_rows (r ∷ records) lasting = told_rows records (with_record_told r lasting) ∙ one_rows r lasting

rows_back : (l : LastingState) (lines : List (List Row)) → l.rows ≡ lines → l ≡ record l { rows = lines }
rows_back l lines is = ap (λ (rs : List (List Row)). record l { rows = rs }) is

abbrev fine : LastingState → Result LastingState Fault
fine state = Ok state

one_state : (a b : LastingState) → fine a ≡ fine b → a ≡ b
one_state a b e = cc

module _ (system : System) (text : List ℕ) (now : RestartSector) (stores : List Stored) (state : LastingState) (records : List Record) (may : MayOpenLife system now stores state records) where
  abbrev life : LifeOnDisk
  life = opened_life system text now stores state

  abbrev lines : List (List Row)
  lines = map (λ s. rows_of_slots s.slots) stores

  bytes_are : (place number : ℕ) → bytes_in_stores stores (place + 1) number ≡ store_bytes_at stores place number
  bytes_are place number = ap (λ p. store_bytes_at stores p number) (omega arith)

  spells : SpellRows system (bytes_in_stores stores) lines
  spells = record {
    stores = stores;
    databases = may.databases;
    valid = may.valid;
    bytes = λ place number dbd found below. bytes_are place number;
    are = refl;
  }

  tells : TellsTouches records no_touches
  tells = record { each = λ d s. inl (may.plain d s); all = λ unit d s t is. absurd (none_some t is) } where
    none_some : (t : Touch) → None ≡ Some t → ⊥
    none_some t e = cc

  none_named : (d s : ℕ) → named_by records [] d s ≡ None
  none_named d s = unchanged_unnamed records [] d s (ap (λ (rs : List Record). changes_of_slot rs d s) (append-nil records) ∙ may.plain d s)

  module _ (image : Image) (opened : IsOpened system text now stores state records image) where
    no_chain : chain system.logs image (log_first system now.log) now.sequence now.epoch ≡ []
    no_chain = ahead_empty system image now.epoch now.sequence now.log opened.none_ahead may.in_range.log (omega (arith, may.in_range.sequence.1))

    no_log : log_in system image now ≡ record { records = []; rest = [] }
    no_log = ap (λ (payloads : List (List ℕ)). cut_of (joined_payloads payloads)) no_chain ∙ nothing_cut

    none_later : first_later (2 * system.logs) image (log_first system 0) now.epoch ≡ None
    none_later = not_later system image now state opened.restart opened.recovers

    stand : EachSlot system (λ place number. StandsAt system image place number (bytes_in_stores stores (place + 1) number))
    stand place number dbd found below =
        let of_ = store_of stores system.databases place dbd may.databases found in
        subst (λ (v : List ℕ). StandsAt system image place number v) (sym (bytes_are place number ∙ bytes_of_store stores place number of_.store of_.found))
        (opened.holds.each place number of_.store of_.found (subst (λ (d : Dbd). number < d.roots) (sym of_.is) below))

    -- it can only recover to what its snapshot tells, with the rows of the stores
    abbrev found_state : LastingState
    found_state = record (snapshot_state system records) { rows = lines }

    told_is : snapshot_state system records ≡ but_rows system found_state
    told_is = rows_back (snapshot_state system records) (empty_state system).rows (told_rows records (empty_state system))

    is_read : IsReadAs system now records [] found_state (bytes_in_stores stores) image
    is_read = record {
      restart = opened.restart;
      has_snapshot = opened.has_snapshot;
      has_records = ap (λ (cut : Cut). cut.records) no_log;
      cut_off = subst (λ (cut : Cut). IsRecordCutOff cut.rest) (sym no_log) nothing_cut_off;
      waiting = [];
      lasts = ap (λ (lasting : LastingState). Some (record { lasting = lasting; waiting = [] })) told_is;
      named = λ d s. subst (NamedAs (bytes_in_stores stores d s)) (sym (none_named d s)) tt;
      unnamed = λ place number dbd found below none. stand place number dbd found below;
      slots = spells;
      not_later = none_later;
    }

    same_state : found_state ≡ state
    same_state =
        one_state found_state state
        (one_answer_of system image (Ok found_state) (Ok state) (read_recovers system now records [] found_state (bytes_in_stores stores) image is_read) opened.recovers)

    -- It is an image of the life that begins.
    pub opened_kept : IsImageKept life image
    opened_kept = record {
      restart = opened.restart;
      has_text = opened.has_text;
      snapshot = records;
      log = [];
      has_snapshot = opened.has_snapshot;
      has_log = ap joined_payloads no_chain;
      records = tt;
      bytes = no_bytes;
      are = record {
        lasts = ap (λ (lasting : LastingState). Some (record { lasting = lasting; waiting = [] })) (told_is ∙ ap (but_rows system) same_state);
        slots = begins_anew records (λ unit. true) no_touches (bytes_in_stores stores) tells (λ unit d s t is. refl) (λ unit d s t is. absurd (none_some t is));
        unnamed = λ place number dbd found below none. stand place number dbd found below;
        written = λ place number dbd found below is. stand place number dbd found below;
        named = λ place number dbd found below is. absurd cc;
      };
      not_later = none_later;
      none_ahead = subst (λ n. NoneAhead system image now.epoch n) (omega arith) opened.none_ahead;
    } where
      none_some : (t : Touch) → None ≡ Some t → ⊥
      none_some t e = cc

    -- And the life's parts agree.
    pub opened_is_life : IsLifeOnDisk life
    opened_is_life = record {
      in_range = may.in_range;
      few = may.few;
      writer = record { first = refl; count = refl; sequence = refl; epoch = refl };
      appended = record { fits = omega arith; spelled = refl; records = tt; bytes = no_bytes };
      sound = may.sound;
      rows = subst (λ (l : LastingState). SpellRows system (bytes_in_stores stores) l.rows) same_state spells;
      slots = record {
        firsts = λ unit d s t is. absurd (none_some t is);
        apart = λ unit other d s t u first second. absurd (none_some t first);
        touched = λ unit d s t is. absurd (none_some t is);
        untouched = λ place number dbd found below none. refl;
      };
    } where
      none_some : (t : Touch) → None ≡ Some t → ⊥
      none_some t e = cc
