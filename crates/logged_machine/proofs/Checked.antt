-- A checkpoint as a call: what it is answered, and the number that each image has behind it.
use Rattle.std.proofs.Common.{◌≡◌, ℕ, ◌+◌, ◌≤◌, Bool, List, [], Some, None, Result, Ok, Err, refl, sym, ◌∙◌, ap, subst, arith, inr}
use Rattle.tm_disk.specs.Disk.{DiskState, Image, sector_at}
use Rattle.model_system.specs.System.{System}
use Rattle.model_machine.specs.Machine.{LastingState}
use Rattle.model_machine.specs.CommandAnswers.{checkpoint_answer, unless_busy}
use Rattle.model_machine.specs.declared.entry.CheckpointRefused.{CheckpointRefused}
use Rattle.model_machine.specs.declared.entry.CheckpointRefused.TheVariants.{BusyRegion, Fault}
use Rattle.model_machine.specs.declared.entry.ControlFault.{ControlFault}
use Rattle.model_machine.specs.declared.entry.ControlFault.TheVariants.{Memory, Disk, Spent}
use Rattle.model_machine.specs.declared.entry.Entry.TheVariants.{Checked}
use Rattle.log_sectors.specs.SealedSector.{opened_payload}
use Rattle.log_sectors.specs.Chain.{chain}
use Rattle.log_writer.specs.ForcedLog.{IsAtEnd}
use Rattle.log_writer.specs.Writer.{Writer}
use Rattle.log_writer.proofs.Gaining.{chain-ended}
use Rattle.restart_data.specs.declared.restart.RestartSector.{RestartSector}
use Rattle.restart_data.specs.Restart.{restart_in}
use Rattle.model_system.specs.Areas.{is_single, snapshot_area, log_first}
use Rattle.seg_store.specs.Slots.{Stored}
use Rattle.disk_law.specs.JournalState.{JournalState}
use Rattle.disk_law.proofs.OnDisk.{pending_restart}
use Rattle.tm_machine.specs.Answers.{IsAnswered}
use Rattle.tm_machine.specs.Parts.{PartsState}
use Rattle.logged_machine.specs.LoggedParts.{IsLogged}
use Rattle.logged_machine.specs.UntakenCheckpoint.{TakesNext, checkpoint_sectors}
use Rattle.logged_machine.specs.TakenCheckpoint.{HasNumber, IsTaken, LeavesSettled, StaysUntaken, WritesCheckpoint, again}
use Rattle.logged_machine.specs.Attempts.{Did, Refreshed, Unrefreshed}
use Rattle.logged_machine.specs.LoggedState.{LoggedState}

-- ---- images

-- Where the writer stands at the first place of its area, the log there is empty.
none_there : (w : Writer) (image : Image) (count first sequence epoch : ℕ) → w.first ≡ first → w.count ≡ count → w.sequence ≡ sequence → w.epoch ≡ epoch → w.place ≡ 0 → IsAtEnd w image
    → chain count image first sequence epoch ≡ []
none_there w image count first sequence epoch f c s e p end =
    chain-ended count image first sequence epoch
    (λ some.
    subst (λ (n : ℕ). opened_payload n (sequence + 0) (sector_at image (first + 0)) ≡ None) e
    (subst (λ (n : ℕ). opened_payload w.epoch (n + 0) (sector_at image (first + 0)) ≡ None) s
    (subst (λ (n : ℕ). opened_payload w.epoch (w.sequence + 0) (sector_at image (n + 0)) ≡ None) f (end.free 0 (omega (arith, p)) (omega (arith, some, c))))))

-- Each image has the number of the restart sector, and an empty log behind it.
pub has_number : (parts : PartsState) (units : List ℕ) (next : ℕ) (journal : JournalState) (text : List ℕ) (states : List LastingState) (disk : DiskState) → IsLogged parts units next journal text states disk → journal.log.place ≡ 0
    → (image : Image) → disk.may_leave image → HasNumber parts.system journal.restart.checkpoint image
has_number parts units next journal text states disk h empty image left =
    let same : h.life.system ≡ parts.system = h.carried.is.of_system in
    let is = h.carried.is.is_life.writer in
    record {
      restart = h.life.now;
      found = subst (λ (y : System). restart_in (snapshot_area y) (is_single y) image ≡ Ok (Some h.life.now)) same (pending_restart states h.life disk h.pends image left);
      checkpoint = ap (λ (r : RestartSector). r.checkpoint) h.now;
      empty =
          subst (λ (y : System). chain y.logs image (log_first y h.life.now.log) h.life.now.sequence h.life.now.epoch ≡ []) same
          (none_there h.life.log image h.life.system.logs (log_first h.life.system h.life.now.log) h.life.now.sequence h.life.now.epoch is.first is.count is.sequence is.epoch
          (ap (λ (w : Writer). w.place) h.writer ∙ empty) (subst (λ (w : Writer). IsAtEnd w image) (sym h.writer) (h.ready image left)));
    }

-- ---- answers

-- A checkpoint that may be taken is answered by its number, and the machine stands where it stood.
pub taken_answer : (parts parts' : PartsState) (freeze : Bool) (number : ℕ) → again parts ≡ parts.moment → ((n : ℕ) → checkpoint_answer parts.moment freeze n ≡ Ok n) → parts'.system ≡ parts.system → parts'.moment ≡ parts.moment
    → IsAnswered parts parts' (Checked freeze (Ok number))
taken_answer parts parts' freeze number stays free system moment = record {
  may = record { call = tt; victims = refl; answer = ap (λ (a : Result ℕ CheckpointRefused). Checked freeze a) (sym (free number)) };
  after = moment ∙ sym stays;
  system = system;
}

-- One that a region's work forbids is refused.
pub busy_answer : (parts : PartsState) (freeze : Bool) (region id : ℕ) → again parts ≡ parts.moment → ((n : ℕ) → checkpoint_answer parts.moment freeze n ≡ unless_busy n (Some (region, id)))
    → IsAnswered parts parts (Checked freeze (Err (BusyRegion region id)))
busy_answer parts freeze region id stays busy = record {
  may = record { call = tt; victims = refl; answer = ap (λ (a : Result ℕ CheckpointRefused). Checked freeze a) (sym (busy 0)) };
  after = sym stays;
  system = refl;
}

-- ---- as a call

-- A checkpoint that was taken is answered by its number.
pub taken_did : {D : Type 0} (state : D → DiskState) (old new : LoggedState D) (freeze : Bool) (number : ℕ) → again old.machine ≡ old.machine.moment → ((n : ℕ) → checkpoint_answer old.machine.moment freeze n ≡ Ok n)
    → Refreshed state old new → Did state None old new (Checked freeze (Ok number))
taken_did state old new freeze number stays free r = record {
  did = (
    record { answered = taken_answer old.machine new.machine freeze number stays free r.keeps.system r.stood.moment; numbers = (r.units, r.unit); acts = inr (ap (λ (p : PartsState). p.databases) r.machine); served = r.stood.served; no_fault = r.stood.no_fault },
    r.leaves,
  );
  keeps = r.keeps;
}

pub is_taken : {D : Type 0} (state : D → DiskState) (old new : LoggedState D) → ((image : Image) → (state new.disk).may_leave image → HasNumber new.machine.system new.journal.restart.checkpoint image) → Refreshed state old new
    → IsTaken new.machine.system new.journal.restart.checkpoint old.journal new.journal (state new.disk)
is_taken state old new images r = record {
  next = r.number;
  now = refl;
  images = images;
  synced = r.synced;
  takes = subst (λ (s : System). TakesNext s old.journal new.journal) (sym r.keeps.system) r.takes;
}

pub leaves_settled : {D : Type 0} (state : D → DiskState) (old new : LoggedState D) → Refreshed state old new
    → LeavesSettled old.machine.databases new.machine.databases old.units new.units old.next_unit new.next_unit
leaves_settled state old new r = record { databases = ap (λ (p : PartsState). p.databases) r.machine; units = r.units; next_unit = r.unit }

-- nothing was written
pub most_same : (system : System) (stores : List Stored) (changed : List (List ℕ)) (journal : JournalState) (disk : DiskState) → WritesCheckpoint system stores changed journal disk disk
most_same system stores changed journal disk = under disk.writes (checkpoint_sectors system stores changed journal)
  where
    under : (n m : ℕ) → n ≤ n + m
    under n m = omega arith

-- how much one writes that was not taken
pub untaken_most : {D : Type 0} (state : D → DiskState) (old new : LoggedState D) (fault : ControlFault) → Unrefreshed state old new fault
    → WritesCheckpoint old.machine.system old.machine.databases.stores old.machine.databases.changed old.journal (state old.disk) (state new.disk)
untaken_most state old new Memory same =
    subst (λ (l : LoggedState _). WritesCheckpoint old.machine.system old.machine.databases.stores old.machine.databases.changed old.journal (state old.disk) (state l.disk)) (sym same)
    (most_same old.machine.system old.machine.databases.stores old.machine.databases.changed old.journal (state old.disk))
untaken_most state old new Disk u = u.most
untaken_most state old new (Spent counter) u = absurd u

-- one that was not taken
pub stays_untaken : {D : Type 0} (state : D → DiskState) (old new : LoggedState D) (fault : ControlFault) → Unrefreshed state old new fault → StaysUntaken (Fault fault) old new
stays_untaken state old new Memory u = u
stays_untaken state old new Disk u = u.broke.served
stays_untaken state old new (Spent counter) u = u
