-- Records that were told behind what was appended before, exchanged back into the journal.
use Rattle.std.proofs.Common.{◌≡◌, ◌≤◌, ◌+◌, ℕ, List, [], ◌∷◌, ◌++◌, length, sym, ◌∙◌, ap, subst, OnOk, OnErr, Result, Ok, Err}
use Rattle.std.proofs.lemmas.List.{length-append}
use Rattle.std.specs.List.{flat_map, AllByRecursion}
use Rattle.log_records.specs.declared.record.Record.{Record}
use Rattle.log_records.specs.RecordSpelling.{record_spelling, IsLogRecord}
use Rattle.log_records.proofs.Takes.{IsBytes, IsBytes-rest}
use Rattle.log_writer.specs.ForcedLog.{log_sectors_of}
use Rattle.disk_law.specs.JournalState.{JournalState}
use Rattle.journal.specs.JournalDisk.{holding}
use Rattle.logged_machine.specs.RecordsBehindLog.{HasRoomInArea, Appends}

behind : (a b : List ℕ) → IsBytes (a ++ b) → IsBytes b
behind [] b h = h
behind (x ∷ a) b h = behind a b (IsBytes-rest x (a ++ b) h)

pub on_ok : {A E : Type 0} {P Q : Type 0} (r : Result A E) → (P → Q) → OnOk r P → OnOk r Q
on_ok (Ok x) f h = f h
on_ok (Err e) f h = h

pub on_err : {A E : Type 0} {P Q : Type 0} (r : Result A E) → (P → Q) → OnErr r P → OnErr r Q
on_err (Ok x) f h = h
on_err (Err e) f h = f h

-- What was appended was exchanged for nothing, told on, and exchanged back.
pub record IsExchanged (room : ℕ) (old mid : JournalState) (empty before : List ℕ) : Type 0 where
  pub room_is : HasRoomInArea room old.log
  pub nothing : empty ≡ []
  pub log : mid.log ≡ holding empty old.log
  pub before_is : before ≡ old.log.appended
  pub restart : mid.restart ≡ old.restart

module _ (room : ℕ) (old mid : JournalState) (empty before : List ℕ) (x : IsExchanged room old mid empty before) where
  back_log : (after : List ℕ) (new : JournalState) → new.log ≡ holding after mid.log → new.log ≡ holding after old.log
  back_log after new is = is ∙ ap (holding after) x.log

  pub appends : (after : List ℕ) (new : JournalState) (records : List Record) → new.log ≡ holding after mid.log → new.restart ≡ mid.restart → IsBytes after
      → after ≡ before ++ flat_map record_spelling records → AllByRecursion IsLogRecord records → length (flat_map record_spelling records) ≤ room → Appends records old new
  appends after new records log restart bytes told valid fits =
      let all : after ≡ old.log.appended ++ flat_map record_spelling records = told ∙ ap (λ (b : List ℕ). b ++ flat_map record_spelling records) x.before_is in
      record {
        log = back_log after new log ∙ ap (λ (b : List ℕ). holding b old.log) all;
        restart = restart ∙ x.restart;
        valid = valid;
        bytes = behind old.log.appended (flat_map record_spelling records) (subst IsBytes all bytes);
        fits =
            subst (λ (n : ℕ). old.log.place + log_sectors_of n ≤ old.log.count) (sym (length-append old.log.appended (flat_map record_spelling records)))
            (x.room_is (length (flat_map record_spelling records)) fits);
      }

pub all_both : (a b : List Record) → AllByRecursion IsLogRecord a → AllByRecursion IsLogRecord b → AllByRecursion IsLogRecord (a ++ b)
all_both [] b h k = k
all_both (x ∷ a) b h k = (h.0, all_both a b h.1 k)
