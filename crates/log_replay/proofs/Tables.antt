-- The tables and what lasts of a snapshot.
use Rattle.std.proofs.Common.{◌≡◌, true, List, [], ◌∷◌, ℕ, refl, sym, ◌∙◌, ap, subst, Some, None}
use Rattle.std.specs.Prelude.{Option, map}
use Rattle.std.specs.List.{list_all}
use Rattle.std.specs.Option.{is_none}
use Rattle.tm_types.specs.declared.message.Message.{Message}
use Rattle.model_system.specs.System.{System}
use Rattle.model_messages.specs.declared.queued.Queued.{Queued}
use Rattle.model_messages.specs.Queue.{messages_of}
use Rattle.model_data.specs.declared.row.Row.{Row}
use Rattle.model_machine.specs.Machine.{LastingState, empty_state}
use Rattle.log_records.specs.declared.record.Record.{Record}
use Rattle.log_records.specs.declared.record.Record.TheVariants.{Input, Command, Reply, Discarded, Completed, Acknowledged, SyncPoint, Checkpoint, Terminal, Code, Change}
use Rattle.model_image.specs.Snapshot.{with_record_told, with_records_told, snapshot_state}
use Rattle.model_image.specs.States.{breaks_a_rule}
use Rattle.image_records.specs.KeptState.{KeptState, KeepsState, kept_of, free_message}
use Rattle.image_law.proofs.Bools.{first_of, second_of}
use Rattle.log_replay.specs.ReplayRules.{lasting_in, AreMessagesFree, AreSound, has_no_holder}

-- ---- no record of a snapshot tells of rows

abbrev none_in : System → List (List Row)
none_in system = map (λ _. []) system.databases

rows_stay : (r : Record) (lasting : LastingState) → (with_record_told r lasting).rows ≡ lasting.rows
rows_stay (Checkpoint checkpoint next_id next_unit steps) lasting = refl
rows_stay (Terminal name last next stopped conversation) lasting = refl
rows_stay (Code name stopped class priority) lasting = refl
rows_stay (Input unit id origin code number conversation segments) lasting = refl
rows_stay (Reply unit terminal number segments) lasting = refl
rows_stay (Command text) lasting = refl
rows_stay (Discarded unit id abend number) lasting = refl
rows_stay (Completed unit id) lasting = refl
rows_stay (Acknowledged terminal number) lasting = refl
rows_stay (SyncPoint unit pad) lasting = refl
rows_stay (Change unit database slot before after) lasting = refl

all_rows_stay : (records : List Record) (lasting : LastingState) → (with_records_told records lasting).rows ≡ lasting.rows
all_rows_stay [] lasting = refl
all_rows_stay (r ∷ records) lasting = all_rows_stay records (with_record_told r lasting) ∙ rows_stay r lasting

-- ---- tables and states

messages_free : (messages : List Message) → messages_of (map free_message messages) ≡ messages
messages_free [] = refl
messages_free (m ∷ messages) = ap (λ (ms : List Message). m ∷ ms) (messages_free messages)

none_held : (messages : List Message) → list_all has_no_holder (map free_message messages) ≡ true
none_held [] = refl
none_held (m ∷ messages) = none_held messages

free_again : (queued : List Queued) → list_all has_no_holder queued ≡ true → queued ≡ map free_message (messages_of queued)
free_again [] free = refl
free_again (q ∷ queued) free = by_holder q.holder refl (first_of (has_no_holder q) (list_all has_no_holder queued) free) ∙ ap (λ (qs : List Queued). free_message q.message ∷ qs) (free_again queued (second_of (has_no_holder q) (list_all has_no_holder queued) free)) where
  by_holder : (o : Option ℕ) → q.holder ≡ o → is_none o ≡ true → q ∷ queued ≡ free_message q.message ∷ queued
  by_holder None is none = ap (λ (o : Option ℕ). record { message = q.message; holder = o } ∷ queued) is
  by_holder (Some region) is none = cc

module _ (system : System) (records : List Record) (kept : KeptState) (keeps : KeepsState system (snapshot_state system records) kept) where
  -- what lasts of a snapshot is what the tables have
  pub lasting_is : snapshot_state system records ≡ lasting_in system kept
  lasting_is =
      ap (λ (rows : List (List Row)). record (snapshot_state system records) { rows = rows }) (all_rows_stay records (empty_state system))
      ∙ ap (λ (ms : List Message). record (snapshot_state system records) { rows = none_in system; messages = ms }) (sym (messages_free (snapshot_state system records).messages))
      ∙ ap (lasting_in system) (sym keeps.is)

  pub sound_tables : AreSound system kept
  sound_tables = record {
    sound = ap (breaks_a_rule system) (sym lasting_is) ∙ keeps.sound;
    free = subst (AreMessagesFree system) (sym keeps.is) (record { limit = refl; holders = none_held (snapshot_state system records).messages });
  }

-- tables in which no region has a message keep what they have
pub kept_is : (system : System) (kept : KeptState) → AreMessagesFree system kept → kept ≡ kept_of system (lasting_in system kept)
kept_is system kept free =
    ap (λ (n : ℕ). record kept { queues = record kept.queues { limit = n } }) free.limit
    ∙ ap (λ (qs : List Queued). record kept { queues = record { limit = system.qbytes; queued = qs } }) (free_again kept.queues.queued free.holders)
