-- What a due call has at hand once it was answered, and what follows of it.
use Rattle.std.proofs.Common.{◌≡◌, ℕ, Bool, true, List, [], ◌∷◌, refl}
use Rattle.tm_disk.specs.Disk.{DiskState, WritesAtMost}
use Rattle.model_machine.specs.Machine.{LastingState}
use Rattle.model_machine.specs.History.{call_of}
use Rattle.model_machine.specs.declared.entry.ControlCall.{ControlCall}
use Rattle.model_machine.specs.declared.entry.Entry.{Entry}
use Rattle.log_records.specs.declared.record.Record.{Record}
use Rattle.disk_law.specs.JournalState.{JournalState}
use Rattle.tm_machine.specs.SlotChanges.{HasSlots}
use Rattle.tm_machine.specs.Parts.{PartsState}
use Rattle.journal.specs.UnspentCounts.{AreUnspent}
use Rattle.openings.specs.Faults.{fault_in}
use Rattle.logged_machine.specs.LoggedParts.{IsLogged, PendSome}
use Rattle.logged_machine.specs.UntakenCheckpoint.{checkpoint_sectors, settled_parts}
use Rattle.logged_machine.specs.ToldCheckpoint.{HasBehindDue, CountsWithin, KeepsOnDisk}
use Rattle.logged_machine.specs.ToldCalls.{DoesCall, IsCallWithin, NumbersBy, may_last, own_records}
use Rattle.logged_machine.specs.Attempts.{Done, Refreshed}
use Rattle.logged_machine.specs.LoggedState.{LoggedState}
use Rattle.logged_machine.proofs.Attempts.{Attempt, attempt, pend_on, tried}
use Rattle.logged_machine.proofs.Checkpointed.{refreshed}
use Rattle.logged_machine.proofs.DueCalls.{behind_of}
use Rattle.logged_machine.proofs.Frugality.{done_behind}

-- A checkpoint was taken, and the call was told behind it: it was answered by this entry.
pub record IsBehind {D : Type 0} (state : D → DiskState) (parts parts' : PartsState) (text : List ℕ) (journal told : JournalState) (units units' : List ℕ) (next next' : ℕ) (disk disk' : D) (up : Bool) (forced : ℕ) (entry : Entry) : Type 0 where
  pub served : up ≡ true
  pub pends : PendSome parts units next journal text forced (state disk)
  pub keeps : KeepsOnDisk parts.system journal.log (state disk) (state disk')
  pub counts : CountsWithin parts.system journal next (state disk) (state disk')
  pub most : WritesAtMost (checkpoint_sectors parts.system parts.databases.stores parts.databases.changed journal) (state disk) (state disk')
  pub records : List Record
  pub behind : HasBehindDue state parts units next records journal told disk disk'
  pub attempts : (states : List LastingState) → IsLogged (settled_parts parts) units next behind.middle text states (state disk') → Attempt state (settled_parts parts) parts' text behind.middle told units units' next next' disk' entry states

-- ---- a call

module _ {D : Type 0} (state : D → DiskState) {parts parts' : PartsState} {text : List ℕ} {journal told : JournalState} {units given : List ℕ} {next : ℕ} {disk disk' : D} {up : Bool} {forced : ℕ}
    (served : up ≡ true) (p : PendSome parts units next journal text forced (state disk)) (unspent : AreUnspent parts.moment.lasting) (keeps : KeepsOnDisk parts.system journal.log (state disk) (state disk'))
    (counts : CountsWithin parts.system journal next (state disk) (state disk')) (most : WritesAtMost (checkpoint_sectors parts.system parts.databases.stores parts.databases.changed journal) (state disk) (state disk'))
    (same : given ≡ units) (before : HasSlots (settled_parts parts)) (slots : HasSlots parts') where
  pub behind_call : {call : ControlCall} (entry : Entry) (units' : List ℕ) (next' : ℕ) → call_of entry ≡ call → may_last call ≡ true → IsCallWithin call → HasBehindDue state parts given next (own_records (settled_parts parts) given call) journal told disk disk'
      → DoesCall given entry (settled_parts parts) parts' → NumbersBy entry units units' next next' → IsBehind state parts parts' text journal told units units' next next' disk disk' up forced entry
  behind_call {call = call} entry units' next' of_call last within due does numbers =
      let b = behind_of state parts units given next (own_records (settled_parts parts) given call) journal told disk disk' same due in
      record {
        served = served;
        pends = p;
        keeps = keeps;
        counts = counts;
        most = most;
        records = own_records (settled_parts parts) given call;
        behind = b;
        attempts = λ states h. attempt state h unspent before slots entry units' next' same of_call last within does numbers b.appends;
      }

-- ---- what follows

module _ {D : Type 0} (state : D → DiskState) {parts parts' : PartsState} {text : List ℕ} {journal told : JournalState} {units units' : List ℕ} {next next' : ℕ} {disk disk' : D} {up : Bool} {forced : ℕ} {entry : Entry}
    (b : IsBehind state parts parts' text journal told units units' next next' disk disk' up forced entry) where
  -- where the checkpoint stands, all that lasts is forced
  mid_logged : IsLogged (settled_parts parts) units next b.behind.middle text (parts.moment.lasting ∷ []) (state disk')
  mid_logged = b.behind.checkpointed.logged text b.pends.states b.pends.logged

  mid_pending : (steps : ℕ) → steps ≡ parts.moment.lasting.steps → PendSome (settled_parts parts) units next b.behind.middle text steps (state disk')
  mid_pending steps all = record { states = parts.moment.lasting ∷ []; logged = mid_logged; steps = all }

  abbrev was_at : LoggedState D
  was_at = record { machine = parts; text = text; served = up; forced = forced; journal = journal; units = units; next_unit = next; disk = disk }

  abbrev mid_at : ℕ → LoggedState D
  mid_at steps = record { machine = settled_parts parts; text = text; served = up; forced = steps; journal = b.behind.middle; units = units; next_unit = next; disk = disk' }

  abbrev is_at : ℕ → LoggedState D
  is_at steps = record { machine = parts'; text = text; served = up; forced = steps; journal = told; units = units'; next_unit = next'; disk = disk' }

  fresh : (steps : ℕ) → steps ≡ parts.moment.lasting.steps → Refreshed state was_at (mid_at steps)
  fresh steps all =
      refreshed state parts (settled_parts parts) text journal b.behind.middle units next disk disk' up forced refl refl b.keeps.stays b.keeps.any_moment b.keeps.texts b.counts b.most steps b.served refl b.behind.checkpointed.takes
      b.behind.checkpointed.synced b.behind.checkpointed.no_fault all mid_logged

  pub pending_behind : {steps : ℕ} → steps ≡ parts.moment.lasting.steps → PendSome parts' units' next' told text steps (state disk')
  pending_behind {steps = steps} all = pend_on state b.attempts (mid_pending steps all)

  pub done_by : {steps : ℕ} → steps ≡ parts.moment.lasting.steps → Done state (fault_in entry) was_at (is_at steps) entry
  done_by {steps = steps} all = done_behind state was_at (mid_at steps) (is_at steps) entry (fresh steps all) (tried state b.attempts (mid_pending steps all) b.served)
