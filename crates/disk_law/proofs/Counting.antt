-- What images count on while records are forced behind a life's log.
use Rattle.std.proofs.Common.{◌≡◌, ℕ, zero, suc, ◌+◌, ◌<◌, ◌≤◌, List, [], ◌∷◌, ◌++◌, take, max, refl, sym, ◌∙◌, ap, subst, inl, inr, arith, append_assoc, append-nil, Some, Ok}
use Rattle.std.specs.Prelude.{Result}
use Rattle.std.specs.List.{flat_map, AllByRecursion}
use Rattle.std.proofs.lemmas.Grind.{flat_map-append}
use Rattle.tm_disk.specs.Disk.{Image, DiskState}
use Rattle.model_system.specs.System.{System}
use Rattle.model_machine.specs.Machine.{LastingState}
use Rattle.log_records.specs.declared.record.Record.{Record}
use Rattle.log_records.specs.RecordSpelling.{record_spelling, IsLogRecord}
use Rattle.log_writer.specs.Writer.{Writer}
use Rattle.log_writer.specs.ForcedLog.{log_of_writer, AddsFront, AddsAll}
use Rattle.restart_data.specs.declared.restart.RestartSector.{RestartSector}
use Rattle.restart_data.specs.Restart.{IsRestart, restart_in}
use Rattle.model_image.specs.SectorsAhead.{NoneAhead}
use Rattle.model_system.specs.Areas.{is_single, snapshot_area, log_first}
use Rattle.model_image.specs.Counters.{unit_of_record, told_unit, greatest_unit}
use Rattle.model_image.specs.CutRecords.{cut_of, where_none_left}
use Rattle.model_image.specs.RecoveredState.{snapshot_from, log_in}
use Rattle.model_image.proofs.Cutting.{records_whole}
use Rattle.checkpointing.specs.Counts.{AreUpTo, CountsUpTo}
use Rattle.checkpointing.specs.CheckpointParts.{CheckpointParts, next_restart, next_writer, forced_writer}
use Rattle.checkpointing.specs.Checkpoint.{IsCheckpointed}
use Rattle.checkpointing.specs.CheckpointSteps.{Takes}
use Rattle.checkpointing.proofs.Counted.{alike_up_to, begun_up_to, sequence_most, one_restart}
use Rattle.checkpointing.proofs.Keeping.{Stands, all_front, is_checkpointed, next_restart_in, unread_images}
use Rattle.seg_store.specs.ChangedSlots.{AllStores}
use Rattle.disk_law.specs.CommittedBytes.{Touches}
use Rattle.log_sectors.specs.Chain.{joined_payloads}
use Rattle.model_image.proofs.Ahead.{ahead_empty}
use Rattle.disk_law.specs.LifeCheckpoint.{MayCheckpoint, parts_with}
use Rattle.disk_law.specs.LifeSteps.{forced_life}
use Rattle.disk_law.specs.PendingMoves.{PendsBehind}
use Rattle.disk_law.proofs.Checkpointed.{has_snapshot, none_ahead_after, stands}
use Rattle.disk_law.proofs.CheckpointOnDisk.{may_forced, next_forced}
use Rattle.disk_law.specs.Life.{LifeOnDisk, IsLifeOnDisk}
use Rattle.disk_law.specs.KeptImages.{IsImageKept}
use Rattle.disk_law.specs.SlotChanges.{with_bytes_behind}
use Rattle.disk_law.specs.JournalState.{JournalState}
use Rattle.disk_law.proofs.Forcing.{CutsBehind}
use Rattle.disk_law.proofs.Front.{HasForcedOf, has_forced, all_both, cut, front_restart, front_snapshot, all_snapshot, forced_is_life}
use Rattle.disk_law.proofs.OnDisk.{pending_life, pending_has}
use Rattle.disk_law.specs.UnitCounts.{TellsUnits}

-- ---- units of records

below_both : (n : ℕ) (xs ys : List Record) → greatest_unit xs < n → greatest_unit ys < n → greatest_unit (xs ++ ys) < n
below_both n [] ys one other = other
below_both n (r ∷ xs) ys one other =
    both (unit_of_record r) (greatest_unit xs) (greatest_unit (xs ++ ys)) n one (λ less. below_both n xs ys less other)
  where
    both : (u a b m : ℕ) → max u a < m → (a < m → b < m) → max u b < m
    both u a b m one more = let rest = more (omega (arith, one)) in omega (arith, one, rest)

below_left : (n : ℕ) (xs ys : List Record) → greatest_unit (xs ++ ys) < n → greatest_unit xs < n
below_left n [] ys all = omega (arith, all)
below_left n (r ∷ xs) ys all =
    left (unit_of_record r) (greatest_unit xs) (greatest_unit (xs ++ ys)) n all (λ less. below_left n xs ys less)
  where
    left : (u a b m : ℕ) → max u b < m → (b < m → a < m) → max u a < m
    left u a b m one more = let rest = more (omega (arith, one)) in omega (arith, one, rest)

below_right : (n : ℕ) (xs ys : List Record) → greatest_unit (xs ++ ys) < n → greatest_unit ys < n
below_right n [] ys all = all
below_right n (r ∷ xs) ys all = below_right n xs ys (right (unit_of_record r) (greatest_unit (xs ++ ys)) n all)
  where
    right : (u b m : ℕ) → max u b < m → b < m
    right u b m one = omega (arith, one)

below_take : (n k : ℕ) (xs : List Record) → greatest_unit xs < n → greatest_unit (take k xs) < n
below_take n zero xs all = omega (arith, all)
below_take n (suc k) [] all = all
below_take n (suc k) (r ∷ xs) all =
    front (unit_of_record r) (greatest_unit xs) (greatest_unit (take k xs)) n all (λ less. below_take n k xs less)
  where
    front : (u a b m : ℕ) → max u a < m → (a < m → b < m) → max u b < m
    front u a b m one more = let rest = more (omega (arith, one)) in omega (arith, one, rest)

-- ---- bytes that are cut

none_left : (rest : List ℕ) (records all : List Record) → where_none_left rest records ≡ Some all → records ≡ all
none_left [] records all is = cc
none_left (byte ∷ rest) records all is = cc

pub cut_again : (records : List Record) → AllByRecursion IsLogRecord records → (cut_of (flat_map record_spelling records)).records ≡ records
cut_again records valid =
    none_left (cut_of (flat_map record_spelling records)).rest (cut_of (flat_map record_spelling records)).records records (records_whole records valid)

none_cut : greatest_unit (cut_of []).records ≡ 0
unfolding cut_of
none_cut = refl

one_value : {E : Type 0} (x : Result (List Record) E) (r s : List Record) → x ≡ Ok r → x ≡ Ok s → r ≡ s
one_value x r s one other = cc

-- what a life has of its log
abbrev pub log_kept : LifeOnDisk → Writer → JournalState
log_kept life log = record { log = log; restart = life.now }

-- ---- a life of which records may wait

module _ (life : LifeOnDisk) (l : IsLifeOnDisk life) (snapshot log : List Record) (a : Image) (h : HasForcedOf life snapshot log a) (next : ℕ) (tells : TellsUnits life.system (log_kept life life.log) next a) where
  its_valid : AllByRecursion IsLogRecord (log ++ life.appended)
  its_valid = all_both IsLogRecord log life.appended h.records l.appended.records

  its_bytes : log_of_writer life.log a ++ life.log.appended ≡ flat_map record_spelling (log ++ life.appended)
  its_bytes =
      ap (λ (x : List ℕ). x ++ life.log.appended) h.has_log ∙ ap (λ (y : List ℕ). flat_map record_spelling log ++ y) l.appended.spelled ∙ sym (flat_map-append record_spelling log life.appended)

  its_units : greatest_unit (log ++ life.appended) < next
  its_units = subst (λ (rs : List Record). greatest_unit rs < next) (ap (λ (b : List ℕ). (cut_of b).records) its_bytes ∙ cut_again (log ++ life.appended) its_valid) tells.log

  -- ---- records are appended
  module _ (records : List Record) (valid : AllByRecursion IsLogRecord records) (more : ℕ) (later : next ≤ more) (fresh : greatest_unit records < more) where
    abbrev writer : Writer
    writer = with_bytes_behind (flat_map record_spelling records) life.log

    all_below : greatest_unit ((log ++ life.appended) ++ records) < more
    all_below = below_both more (log ++ life.appended) records (omega (arith, its_units, later)) fresh

    all_bytes : log_of_writer writer a ++ writer.appended ≡ flat_map record_spelling ((log ++ life.appended) ++ records)
    all_bytes =
        sym (append_assoc (log_of_writer life.log a) life.log.appended (flat_map record_spelling records))
        ∙ ap (λ (x : List ℕ). x ++ flat_map record_spelling records) its_bytes
        ∙ sym (flat_map-append record_spelling (log ++ life.appended) records)

    -- What was appended tells no unit from the next one on.
    pub tells_appended : TellsUnits life.system (log_kept life writer) more a
    tells_appended = record {
      snapshot = λ found read. omega (arith, tells.snapshot found read, later);
      log =
          subst (λ (rs : List Record). greatest_unit rs < more)
          (sym (ap (λ (b : List ℕ). (cut_of b).records) all_bytes ∙ cut_again ((log ++ life.appended) ++ records) (all_both IsLogRecord (log ++ life.appended) records its_valid valid)))
          all_below;
    }

  -- ---- all is forced
  module _ (b : Image) (all : AddsAll life.log a b) where
    log_now : log_of_writer life.log b ++ [] ≡ log_of_writer life.log a ++ life.log.appended
    log_now = append-nil (log_of_writer life.log b) ∙ all.log

    -- The image tells the same next unit then.
    pub tells_forced : TellsUnits life.system (log_kept life (forced_writer life.log)) next b
    tells_forced = record {
      snapshot = λ found read. omega (arith, tells.snapshot found (sym (all_snapshot life l snapshot log a h b all) ∙ read));
      log = subst (λ (x : List ℕ). greatest_unit (cut_of x).records < next) (sym log_now) tells.log;
    }

  -- ---- a front is forced
  module _ (b : Image) (front : AddsFront life.log a b) (high : ℕ) (epoch : life.now.epoch ≤ high) (sequence : life.now.sequence + life.system.logs ≤ high) (checkpoint : life.now.checkpoint ≤ high) (unit : next ≤ high) where
    abbrev its_cut : CutsBehind log life.appended (log_in life.system b life.now)
    its_cut = cut life l snapshot log a h b front

    read_below : greatest_unit (log_in life.system b life.now).records < next
    read_below =
        subst (λ (rs : List Record). greatest_unit rs < next) (sym its_cut.are)
        (below_both next log (take its_cut.count life.appended) (below_left next log life.appended its_units) (below_take next its_cut.count life.appended (below_right next log life.appended its_units)))

    -- The image counts up to this then.
    pub counts_in_front : CountsUpTo life.system high b
    counts_in_front restart found =
        subst (AreUpTo life.system high b) (one_restart (restart_in (snapshot_area life.system) (is_single life.system) b) life.now restart (front_restart life l snapshot log a h b front) found)
        (record {
          epoch = epoch;
          sequence = omega (arith, sequence, sequence_most life.system b life.now);
          checkpoint = checkpoint;
          unit = λ told read.
              greatest (told_unit told) (greatest_unit (log_in life.system b life.now).records) next high
              (tells.snapshot told (sym (front_snapshot life l snapshot log a h b front) ∙ read)) read_below unit;
        })
      where
        greatest : (t g m h : ℕ) → t ≤ m → g < m → m ≤ h → max t (g + 1) ≤ h
        greatest t g m h one other most = omega (arith, one, other, most)

-- ---- on a disk

module _ (states : List LastingState) (life : LifeOnDisk) (disk : DiskState) (p : PendsBehind states life disk) (a : Image) (left : disk.may_leave a) (next : ℕ) (tells : TellsUnits life.system (log_kept life life.log) next a) where
  l : IsLifeOnDisk life
  l = pending_life states life disk p

  h : HasForcedOf life (p.kept a left).snapshot (p.kept a left).log a
  h = pending_has states life disk p a left

  pub appended_tells : (records : List Record) → AllByRecursion IsLogRecord records → (more : ℕ) → next ≤ more → greatest_unit records < more → TellsUnits life.system (log_kept life (with_bytes_behind (flat_map record_spelling records) life.log)) more a
  appended_tells records valid more later fresh = tells_appended life l (p.kept a left).snapshot (p.kept a left).log a h next tells records valid more later fresh

  pub forced_tells : (b : Image) → AddsAll life.log a b → TellsUnits life.system (log_kept life (forced_writer life.log)) next b
  forced_tells b all = tells_forced life l (p.kept a left).snapshot (p.kept a left).log a h next tells b all

  pub front_up_to : (b : Image) → AddsFront life.log a b → (high : ℕ) → life.now.epoch ≤ high → life.now.sequence + life.system.logs ≤ high → life.now.checkpoint ≤ high → next ≤ high → CountsUpTo life.system high b
  front_up_to b front high epoch sequence checkpoint unit = counts_in_front life l (p.kept a left).snapshot (p.kept a left).log a h next tells b front high epoch sequence checkpoint unit

-- ---- a log that begins

-- An image without a log tells the next unit that its snapshot tells.
pub begun_tells : (system : System) (r : RestartSector) (records : List Record) (unit : ℕ) (image : Image) → snapshot_from system image r ≡ Ok records → told_unit records ≡ unit → NoneAhead system image r.epoch r.sequence → IsRestart r → 0 < unit
    → TellsUnits system (record { log = record { first = log_first system r.log; count = system.logs; sequence = r.sequence; epoch = r.epoch; place = 0; appended = [] }; restart = r }) unit image
begun_tells system r records unit image found is ahead range some = record {
  snapshot = λ snapshot read.
      let same : records ≡ snapshot = one_value (snapshot_from system image r) records snapshot found read in
      omega (arith, is, ap told_unit same);
  log =
      let empty = ahead_empty system image r.epoch r.sequence r.log ahead range.log (omega (arith, range.sequence.1)) in
      subst (λ (n : ℕ). n < unit) (sym (ap (λ (links : List (List ℕ)). greatest_unit (cut_of (joined_payloads links ++ [])).records) empty ∙ none_cut)) some;
}

-- ---- a checkpoint, before which all is forced

module _ (bytes : List ℕ) (stores : AllStores) (touches : Touches) (records : List Record) (life : LifeOnDisk) (l : IsLifeOnDisk life) (may : MayCheckpoint bytes stores touches records life) (a : Image) (k : IsImageKept (forced_life life) a) (next : ℕ) (is : told_unit records ≡ next) where
  abbrev parts : CheckpointParts
  parts = parts_with bytes life

  abbrev forced : LifeOnDisk
  forced = forced_life life

  its_life : IsLifeOnDisk forced
  its_life = forced_is_life life l

  its_may : MayCheckpoint bytes stores touches records forced
  its_may = may_forced bytes stores touches records life may

  its_stands : Stands parts forced.log stores a
  its_stands = stands bytes stores touches records forced its_life its_may refl a k

  -- Behind it the image tells the same next unit.
  module _ (e : Image) (done : IsCheckpointed parts forced.log stores a e) (some : 0 < next) where
    tells_anew : TellsUnits life.system (record { log = next_writer parts forced.log; restart = next_restart parts forced.log }) next e
    tells_anew =
        begun_tells life.system (next_restart parts forced.log) records next e (has_snapshot bytes stores touches records forced its_life its_may refl a k e done) is
        (none_ahead_after bytes stores touches records forced its_life its_may refl a k e done) its_may.next some

    pub checkpoint_tells : TellsUnits life.system (record { log = next_writer parts life.log; restart = next_restart parts life.log }) next e
    checkpoint_tells =
        subst (λ (r : RestartSector). TellsUnits life.system (record { log = next_writer parts life.log; restart = r }) next e) (next_forced parts life.log).0
        (subst (λ (w : Writer). TellsUnits life.system (record { log = w; restart = next_restart parts forced.log }) next e) (next_forced parts life.log).1 tells_anew)

  -- Whenever a crash comes in it, the image counts up to this.
  module _ (tells : TellsUnits life.system (log_kept life (forced_writer life.log)) next a) (high : ℕ) (epoch : life.now.epoch ≤ high) (sequence : life.now.sequence + life.system.logs ≤ high) (checkpoint : life.now.checkpoint + 1 ≤ high) (unit : next ≤ high) (some : 1 ≤ high) where
    forced_up_to : (b : Image) → AddsFront forced.log a b → CountsUpTo life.system high b
    forced_up_to b front = counts_in_front forced its_life k.snapshot k.log a (has_forced forced a k) next tells b front high epoch sequence (omega (arith, checkpoint)) unit

    pub takes_up_to : (e : Image) → Takes parts forced.log stores a e → CountsUpTo life.system high e
    takes_up_to e (inl (inl front)) = forced_up_to e front
    takes_up_to e (inl (inr later)) =
        alike_up_to life.system high later.middle e (unread_images parts forced.log stores a its_stands later.middle later.one e later.two)
        (forced_up_to later.middle (all_front parts forced.log stores a its_stands later.middle later.one))
    takes_up_to e (inr whole) =
        let done : IsCheckpointed parts forced.log stores a e = is_checkpointed parts forced.log stores a its_stands e whole in
        begun_up_to life.system e (next_restart parts forced.log) (none_ahead_after bytes stores touches records forced its_life its_may refl a k e done) its_may.next records next
        (has_snapshot bytes stores touches records forced its_life its_may refl a k e done) is (next_restart_in parts forced.log stores a its_stands e done)
        high epoch (omega (arith, sequence, l.writer.sequence, l.writer.count, l.appended.fits)) checkpoint unit some
