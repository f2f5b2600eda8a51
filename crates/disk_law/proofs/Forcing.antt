-- What is read of an image once a front of what was appended was forced, or all of it.
use Rattle.std.proofs.Common.{◌≡◌, ℕ, zero, suc, ◌+◌, ◌-◌, ◌*◌, ◌<◌, ◌≤◌, false, List, ◌++◌, length, take, refl, sym, ◌∙◌, ap, subst, ⊎_elim, arith, Some, None, Ok, IsSome}
use Rattle.std.specs.List.{flat_map, AllByRecursion}
use Rattle.std.proofs.lemmas.Bool.{cases_lt}
use Rattle.std.proofs.lemmas.Grind.{flat_map-append}
use Rattle.std.proofs.lemmas.List.{length-append, take_at}
use Rattle.std.proofs.Math.Seq.{take-append-add}
use Rattle.tm_disk.specs.Disk.{Image, sector_at, ChangesOnly}
use Rattle.model_system.specs.System.{System}
use Rattle.log_records.specs.declared.record.Record.{Record}
use Rattle.log_records.specs.RecordSpelling.{record_spelling, IsLogRecord}
use Rattle.log_records.proofs.Takes.{IsBytes}
use Rattle.log_sectors.specs.SealedSector.{opened_payload}
use Rattle.log_writer.specs.Writer.{Writer}
use Rattle.log_writer.specs.ForcedLog.{log_of_writer, log_sectors_of, StaysOrLogs}
use Rattle.restart_data.specs.declared.restart.RestartSector.{RestartSector}
use Rattle.restart_data.specs.Restart.{IsRestart, restart_of, restart_in}
use Rattle.model_system.specs.Areas.{is_single, snapshot_area, log_first, slot_size, slot_first}
use Rattle.model_image.specs.CutRecords.{Cut, cut_of, IsRecordCutOff}
use Rattle.model_image.specs.Slots.{slot_at}
use Rattle.model_image.specs.RecoveredState.{snapshot_from, log_in, is_later, first_later}
use Rattle.model_image.proofs.Alike.{snapshot_same}
use Rattle.model_image.proofs.Cutting.{CutsFront, cuts_front}
use Rattle.model_image.proofs.Later.{none_later, each_not_later}
use Rattle.model_image.proofs.Places.{snapshot_below, log_above, log_below, slot_above, slot_same}
use Rattle.model_image.proofs.Readings as readings
use Rattle.disk_law.specs.Life.{EachSlot, IsWriterOf}
use Rattle.model_image.specs.Text.{bytes_from, text_in}

-- ---- bytes that are cut

-- the records of a log with a front of what was appended, and a rest that is cut off
pub record CutsBehind (log more : List Record) (cut : Cut) : Type 0 where
  pub count : ℕ
  pub are : cut.records ≡ log ++ take count more
  pub rest : IsRecordCutOff cut.rest

pub cuts_behind : (log more : List Record) (n : ℕ) → AllByRecursion IsLogRecord (log ++ more) → IsBytes (flat_map record_spelling (log ++ more)) → CutsBehind log more (cut_of (flat_map record_spelling log ++ take n (flat_map record_spelling more)))
cuts_behind log more n valid bytes =
    let size : ℕ = length (flat_map record_spelling log) in
    let front : take (size + n) (flat_map record_spelling (log ++ more)) ≡ flat_map record_spelling log ++ take n (flat_map record_spelling more) =
    ap (λ (l : List ℕ). take (size + n) l) (flat_map-append record_spelling log more) ∙ take-append-add (flat_map record_spelling log) (flat_map record_spelling more) n in
    let c : CutsFront (log ++ more) (size + n) (cut_of (take (size + n) (flat_map record_spelling (log ++ more)))) = cuts_front (log ++ more) (size + n) valid bytes in
    let first : take (length log) (log ++ more) ≡ log = take_at log more (length log) refl in
    let whole : length log ≤ c.whole =
    c.most (length log) (omega (arith, length-append log more)) (omega (arith, ap (λ (l : List Record). length (flat_map record_spelling l)) first)) in
    let rest : ℕ = c.whole - length log in
    subst (λ (l : List ℕ). CutsBehind log more (cut_of l)) front (record {
      count = rest;
      are = c.are ∙ ap (λ k. take k (log ++ more)) (omega (arith, whole)) ∙ take-append-add log more rest;
      rest = c.rest;
    })

-- ---- sectors that stay

bytes_same : (n : ℕ) (a b : Image) (at : ℕ) → ((k : ℕ) → at ≤ k → k < at + n → sector_at b k ≡ sector_at a k) → bytes_from n b at ≡ bytes_from n a at
bytes_same zero a b at same = refl
bytes_same (suc n) a b at same =
    ap (λ (s : List ℕ). s ++ bytes_from n b (at + 1)) (same at (omega arith) (omega arith))
    ∙ ap (λ (l : List ℕ). sector_at a at ++ l) (bytes_same n a b (at + 1) (λ k low high. same k (omega (arith, low)) (omega (arith, high))))

pub text_same : (a b : Image) (size : ℕ) → ((k : ℕ) → 1 ≤ k → k < 65 → sector_at b k ≡ sector_at a k) → text_in b size ≡ text_in a size
text_same a b size same = ap (λ (l : List ℕ). take size l) (bytes_same 64 a b 1 (λ k low high. same k low (omega (arith, high))))

-- ---- a force

-- the log of a writer is that of the area
pub log_is : (system : System) (now : RestartSector) (w : Writer) (image : Image) → IsWriterOf system now w → log_in system image now ≡ cut_of (log_of_writer w image)
log_is system now w image over = rw (over.first, over.count, over.sequence, over.epoch) refl

-- An image before, and one in which some of the writer's next sectors are others.
module _ (system : System) (now : RestartSector) (w : Writer) (over : IsWriterOf system now w) (range : IsRestart now) (room : w.place + log_sectors_of (length w.appended) ≤ w.count) (a b : Image)
    (changes : ChangesOnly (w.first + w.place) (log_sectors_of (length w.appended)) a b) (each : (x : ℕ) → StaysOrLogs w a b x) (has_restart : restart_in (snapshot_area system) (is_single system) a ≡ Ok (Some now)) where
  kept : readings.IsKept (snapshot_area system) now
  kept = readings.restart_kept (snapshot_area system) (is_single system) (sector_at a 0) now has_restart

  -- below the log areas nothing changes, and behind them nothing does
  pub below_stays : (k : ℕ) → k < log_first system 0 → sector_at b k ≡ sector_at a k
  below_stays k low = changes.below k (omega (arith, low, over.first, log_above system now.log))

  pub behind_stays : (k : ℕ) → log_first system 2 ≤ k → sector_at b k ≡ sector_at a k
  behind_stays k high = changes.above k (omega (arith, high, over.first, over.count, room, log_below system now.log kept.log))

  pub restart_stays : restart_in (snapshot_area system) (is_single system) b ≡ Ok (Some now)
  restart_stays = ap (restart_of (snapshot_area system) (is_single system)) (below_stays 0 (omega arith)) ∙ has_restart

  pub snapshot_stays : snapshot_from system b now ≡ snapshot_from system a now
  snapshot_stays = snapshot_same system now a b (λ k low high. below_stays k (omega (arith, high, kept.sectors, snapshot_below system now.snapshot kept.snapshot)))

  pub text_stays : text_in b now.text ≡ text_in a now.text
  text_stays = text_same a b now.text (λ k low high. below_stays k (omega (arith, high)))

  pub slots_stay : EachSlot system (λ place number. slot_at system b place number ≡ slot_at system a place number)
  slots_stay place number dbd found below =
      slot_same (slot_size system place) a b (slot_first system place number) (λ k inside. behind_stays (slot_first system place number + k) (slot_above system place number k))

  later_stays : (k : ℕ) → is_later now.epoch (sector_at a k) ≡ false → is_later now.epoch (sector_at b k) ≡ false
  later_stays k before =
      ⊎_elim
      (λ (low : k < w.first). ap (is_later now.epoch) (changes.below k (omega (arith, low))) ∙ before)
      (λ (high : w.first ≤ k).
      let x = k - w.first in
      let is : w.first + x ≡ k = omega (arith, high) in
      ⊎_elim
      (λ same. subst (λ i. is_later now.epoch (sector_at b i) ≡ false) is (ap (is_later now.epoch) same ∙ subst (λ i. is_later now.epoch (sector_at a i) ≡ false) (sym is) before))
      (λ (logs : IsSome (opened_payload w.epoch (w.sequence + x) (sector_at b (w.first + x)))).
      subst (λ i. is_later now.epoch (sector_at b i) ≡ false) is
      (readings.opened_not_later now.epoch (w.sequence + x) (sector_at b (w.first + x)) (omega (arith, range.epoch.1))
      (subst (λ n. IsSome (opened_payload n (w.sequence + x) (sector_at b (w.first + x)))) over.epoch logs)))
      (each x))
      (cases_lt k w.first)

  pub none_later_after : first_later (2 * system.logs) a (log_first system 0) now.epoch ≡ None → first_later (2 * system.logs) b (log_first system 0) now.epoch ≡ None
  none_later_after before =
      none_later (2 * system.logs) b (log_first system 0) now.epoch (λ k low high. later_stays k (each_not_later (2 * system.logs) a (log_first system 0) now.epoch before k low high))
