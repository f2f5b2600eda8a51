-- What was forced of a life, and what an image has of the life once a front of what waits is forced, or all of it.
use Rattle.std.proofs.Common.{◌≡◌, ℕ, zero, suc, ◌+◌, ◌-◌, ◌*◌, ◌<◌, ◌≤◌, ◌^◌, List, [], ◌∷◌, ◌++◌, length, take, get_or, refl, sym, ◌∙◌, ap, subst, inl, ⊎_elim, arith, Some, None, Ok, IsSome, append-nil}
use Rattle.std.specs.Prelude.{slice_get}
use Rattle.std.specs.List.{flat_map, AllByRecursion}
use Rattle.std.proofs.lemmas.Bool.{cases_lt}
use Rattle.std.proofs.lemmas.Grind.{flat_map-append}
use Rattle.tm_disk.specs.Disk.{Image, sector_at}
use Rattle.model_system.specs.System.{System}
use Rattle.model_machine.specs.Machine.{LastingState}
use Rattle.log_records.specs.declared.record.Record.{Record}
use Rattle.log_records.specs.RecordSpelling.{record_spelling, IsLogRecord}
use Rattle.log_records.proofs.Takes.{IsBytes}
use Rattle.log_sectors.specs.SealedSector.{opened_payload}
use Rattle.log_writer.specs.ForcedLog.{log_of_writer, log_sectors_of, AddsFront, AddsAll}
use Rattle.restart_data.specs.Restart.{restart_in}
use Rattle.model_system.specs.Areas.{is_single, snapshot_area, log_first}
use Rattle.model_image.specs.SectorsAhead.{NoneAhead}
use Rattle.model_image.specs.CutRecords.{cut_of}
use Rattle.model_image.specs.HeldStores.{HoldsBytes}
use Rattle.model_image.specs.Slots.{named_by}
use Rattle.model_image.specs.Replay.{replay_all}
use Rattle.model_image.specs.RecoveredState.{snapshot_from, log_in, first_later, Recovers}
use Rattle.model_image.specs.Text.{text_in}
use Rattle.model_image.proofs.Ahead.{opened_one}
use Rattle.disk_law.specs.CommittedBytes.{Bytes}
use Rattle.disk_law.specs.Life.{LifeOnDisk, IsLifeOnDisk, EachSlot, SpellRows, but_rows}
use Rattle.disk_law.specs.KeptImages.{AreRecordsOf, IsImageKept, StandsAt, beginning}
use Rattle.disk_law.specs.LifeSteps.{forced_life}
use Rattle.disk_law.proofs.Naming.{NamedAs}
use Rattle.disk_law.proofs.Recovering.{read_recovers}
use Rattle.disk_law.proofs.Forcing.{CutsBehind, cuts_behind, log_is, restart_stays, snapshot_stays, text_stays, slots_stay, none_later_after}

-- ---- lists

pub all_both : {X : Type 0} (P : X → Type 0) (xs ys : List X) → AllByRecursion P xs → AllByRecursion P ys → AllByRecursion P (xs ++ ys)
all_both P [] ys one other = other
all_both P (x ∷ xs) ys one other = (one.0, all_both P xs ys one.1 other)

pub bytes_both : (xs ys : List ℕ) → IsBytes xs → IsBytes ys → IsBytes (xs ++ ys)
bytes_both [] ys one other i = other i
bytes_both (x ∷ xs) ys one other zero = one zero
bytes_both (x ∷ xs) ys one other (suc i) = bytes_both xs ys (λ j. one (suc j)) other i

-- records behind others are spelled in bytes, where both are
pub spelled_both : (log more : List Record) → IsBytes (flat_map record_spelling log) → IsBytes (flat_map record_spelling more) → IsBytes (flat_map record_spelling (log ++ more))
spelled_both log more one other =
    subst IsBytes (sym (flat_map-append record_spelling log more)) (bytes_both (flat_map record_spelling log) (flat_map record_spelling more) one other)

none_taken : {X : Type 0} (n : ℕ) (none : List X) → none ≡ [] → take n none ≡ []
none_taken zero none is = refl
none_taken (suc n) [] is = refl
none_taken (suc n) (x ∷ xs) is = cc

-- ---- what images have

-- The image has what was forced of a life: its restart sector and text, a snapshot of these records, and a log of these, with no rest. No
-- sector of the logs is of a later epoch, or ahead of the writer.
pub record HasForcedOf (life : LifeOnDisk) (snapshot log : List Record) (image : Image) : Type 0 where
  pub restart : restart_in (snapshot_area life.system) (is_single life.system) image ≡ Ok (Some life.now)
  pub has_text : text_in image life.now.text ≡ life.text
  pub has_snapshot : snapshot_from life.system image life.now ≡ Ok snapshot
  pub has_log : log_of_writer life.log image ≡ flat_map record_spelling log
  pub records : AllByRecursion IsLogRecord log
  pub bytes : IsBytes (flat_map record_spelling log)
  pub not_later : first_later (2 * life.system.logs) image (log_first life.system 0) life.now.epoch ≡ None
  pub none_ahead : NoneAhead life.system image life.now.epoch (life.log.sequence + life.log.place)

-- Records behind a snapshot, done again, lead to this state but for its rows, which the slots have: by these records, or in the image's
-- sectors.
pub record ReadsAs (system : System) (snapshot records : List Record) (image : Image) (state : LastingState) : Type 0 where
  pub committed : Bytes
  pub waiting : List Record
  pub lasts : replay_all system records (beginning system snapshot) ≡ Some (record { lasting = but_rows system state; waiting = waiting })
  pub named : (database slot : ℕ) → NamedAs (committed database slot) (named_by snapshot records database slot)
  pub unnamed : EachSlot system (λ place number. named_by snapshot records (place + 1) number ≡ None → StandsAt system image place number (committed (place + 1) number))
  pub rows : SpellRows system committed state.rows

-- They do so to one of these states.
pub record ReadsOne (system : System) (snapshot records : List Record) (image : Image) (states : List LastingState) : Type 0 where
  pub place : ℕ
  pub state : LastingState
  pub found : slice_get states place ≡ Some state
  pub reads : ReadsAs system snapshot records image state

-- all records of a life, and what lasts of it
pub all_read : (life : LifeOnDisk) → IsLifeOnDisk life → (snapshot log : List Record) (image : Image) → AreRecordsOf life snapshot log image → ReadsAs life.system snapshot log image life.lasting
all_read life l snapshot log image k = record {
  committed = life.committed;
  waiting = [];
  lasts = k.lasts;
  named = k.slots.named;
  unnamed = k.unnamed;
  rows = l.rows;
}

-- ---- an image of all of a life

pub has_forced : (life : LifeOnDisk) (a : Image) (k : IsImageKept life a) → HasForcedOf life k.snapshot k.log a
has_forced life a k = record {
  restart = k.restart;
  has_text = k.has_text;
  has_snapshot = k.has_snapshot;
  has_log = k.has_log;
  records = k.records;
  bytes = k.bytes;
  not_later = k.not_later;
  none_ahead = k.none_ahead;
}

module _ (life : LifeOnDisk) (l : IsLifeOnDisk life) (a : Image) (k : IsImageKept life a) where
  nothing_behind : k.log ++ [] ≡ k.log
  nothing_behind = append-nil k.log

  whole : CutsBehind k.log [] (log_in life.system a life.now)
  whole =
      let is : log_in life.system a life.now ≡ cut_of (flat_map record_spelling k.log ++ []) =
      log_is life.system life.now life.log a l.writer ∙ ap cut_of (k.has_log ∙ sym (append-nil (flat_map record_spelling k.log))) in
      subst (CutsBehind k.log []) (sym is)
      (cuts_behind k.log [] 0 (all_both IsLogRecord k.log [] k.records tt) (subst (λ (rs : List Record). IsBytes (flat_map record_spelling rs)) (sym nothing_behind) k.bytes))

  -- It recovers to what lasts.
  pub recovers : Recovers life.system a (Ok life.lasting)
  recovers = read_recovers life.system life.now k.snapshot k.log life.lasting life.committed a (record {
    restart = k.restart;
    has_snapshot = k.has_snapshot;
    has_records = whole.are ∙ ap (λ (rs : List Record). k.log ++ rs) (none_taken whole.count [] refl) ∙ nothing_behind;
    cut_off = whole.rest;
    waiting = [];
    lasts = k.are.lasts;
    named = k.are.slots.named;
    unnamed = k.are.unnamed;
    slots = l.rows;
    not_later = k.not_later;
  })

-- no front is one
pub no_front : (life : LifeOnDisk) (a : Image) → AddsFront life.log a a
no_front life a = record {
  changes = record { size = refl; below = λ k low. refl; above = λ k high. refl };
  each = λ x. inl refl;
  front = 0;
  log = sym (append-nil (log_of_writer life.log a));
}

-- ---- a force

module _ (life : LifeOnDisk) (l : IsLifeOnDisk life) (snapshot log : List Record) (a : Image) (h : HasForcedOf life snapshot log a) where
  all_valid : AllByRecursion IsLogRecord (log ++ life.appended)
  all_valid = all_both IsLogRecord log life.appended h.records l.appended.records

  all_bytes : IsBytes (flat_map record_spelling (log ++ life.appended))
  all_bytes = spelled_both log life.appended h.bytes l.appended.bytes

  -- ---- a front was forced
  module _ (b : Image) (front : AddsFront life.log a b) where
    pub cut : CutsBehind log life.appended (log_in life.system b life.now)
    cut =
        let is : log_in life.system b life.now ≡ cut_of (flat_map record_spelling log ++ take front.front (flat_map record_spelling life.appended)) =
        log_is life.system life.now life.log b l.writer
        ∙ ap cut_of (front.log ∙ ap (λ (old : List ℕ). old ++ take front.front life.log.appended) h.has_log ∙ ap (λ (new : List ℕ). flat_map record_spelling log ++ take front.front new) l.appended.spelled) in
        subst (CutsBehind log life.appended) (sym is) (cuts_behind log life.appended front.front all_valid all_bytes)

    pub front_restart : restart_in (snapshot_area life.system) (is_single life.system) b ≡ Ok (Some life.now)
    front_restart = restart_stays life.system life.now life.log l.writer l.in_range l.appended.fits a b front.changes front.each h.restart

    pub front_text : text_in b life.now.text ≡ life.text
    front_text = text_stays life.system life.now life.log l.writer l.in_range l.appended.fits a b front.changes front.each h.restart ∙ h.has_text

    pub front_snapshot : snapshot_from life.system b life.now ≡ snapshot_from life.system a life.now
    front_snapshot = snapshot_stays life.system life.now life.log l.writer l.in_range l.appended.fits a b front.changes front.each h.restart

    -- the records that are there
    abbrev pub read : List Record
    read = log ++ take cut.count life.appended

    -- It recovers to what these lead to.
    pub front_reads : (state : LastingState) → ReadsAs life.system snapshot read a state → Recovers life.system b (Ok state)
    front_reads state is =
        read_recovers life.system life.now snapshot read state is.committed b (record {
          restart = front_restart;
          has_snapshot = front_snapshot ∙ h.has_snapshot;
          has_records = cut.are;
          cut_off = cut.rest;
          waiting = is.waiting;
          lasts = is.lasts;
          named = is.named;
          unnamed = λ place number dbd found below none.
              subst (λ (s : List (List ℕ)). HoldsBytes (is.committed (place + 1) number) s) (sym (slots_stay life.system life.now life.log l.writer l.in_range l.appended.fits a b front.changes front.each h.restart place number dbd found below))
              (is.unnamed place number dbd found below none);
          slots = is.rows;
          not_later = none_later_after life.system life.now life.log l.writer l.in_range l.appended.fits a b front.changes front.each h.restart h.not_later;
        })

  -- ---- all was forced
  module _ (b : Image) (all : AddsAll life.log a b) where
    pub all_snapshot : snapshot_from life.system b life.now ≡ snapshot_from life.system a life.now
    all_snapshot = snapshot_stays life.system life.now life.log l.writer l.in_range l.appended.fits a b all.changes all.each h.restart

    stands_still : EachSlot life.system (λ place number. (v : List ℕ) → StandsAt life.system a place number v → StandsAt life.system b place number v)
    stands_still place number dbd found below v stands =
        subst (λ (sectors : List (List ℕ)). HoldsBytes v sectors) (sym (slots_stay life.system life.now life.log l.writer l.in_range l.appended.fits a b all.changes all.each h.restart place number dbd found below)) stands

    log_after : log_of_writer life.log b ≡ flat_map record_spelling (log ++ life.appended)
    log_after =
        all.log ∙ ap (λ (old : List ℕ). old ++ life.log.appended) h.has_log ∙ ap (λ (new : List ℕ). flat_map record_spelling log ++ new) l.appended.spelled ∙ sym (flat_map-append record_spelling log life.appended)

    -- a sector that was written is of a sequence before the writer's next one
    ahead_after : NoneAhead life.system b life.now.epoch (life.log.sequence + (life.log.place + log_sectors_of (length life.log.appended)))
    ahead_after = record { none = λ x i below from small. one x i below from small } where
      one : (x i : ℕ) → x < 2 * life.system.logs → life.log.sequence + (life.log.place + log_sectors_of (length life.log.appended)) ≤ i → i < 2 ^ 64 → opened_payload life.now.epoch i (sector_at b (log_first life.system 0 + x)) ≡ None
      one x i below from small =
          let at : ℕ = log_first life.system 0 + x in
          let before : opened_payload life.now.epoch i (sector_at a at) ≡ None = h.none_ahead.none x i below (omega (arith, from)) small in
          ⊎_elim
          (λ (low : at < life.log.first + life.log.place). ap (λ (v : List ℕ). opened_payload life.now.epoch i v) (all.changes.below at low) ∙ before)
          (λ (high : life.log.first + life.log.place ≤ at).
          ⊎_elim
          (λ (inside : at < (life.log.first + life.log.place) + log_sectors_of (length life.log.appended)).
          let y : ℕ = at - life.log.first in
          let is : life.log.first + y ≡ at = omega (arith, high) in
          subst (λ j. opened_payload life.now.epoch i (sector_at b j) ≡ None) is
          (⊎_elim
          (λ stays. ap (λ (v : List ℕ). opened_payload life.now.epoch i v) stays ∙ subst (λ j. opened_payload life.now.epoch i (sector_at a j) ≡ None) (sym is) before)
          (λ (logs : IsSome (opened_payload life.log.epoch (life.log.sequence + y) (sector_at b (life.log.first + y)))).
          opened_one life.now.epoch (life.log.sequence + y) i (sector_at b (life.log.first + y))
          (omega (arith, is, inside, l.appended.fits, l.writer.count, l.writer.sequence, l.few, l.in_range.sequence.1)) small
          (subst (λ e. IsSome (opened_payload e (life.log.sequence + y) (sector_at b (life.log.first + y)))) l.writer.epoch logs)
          (λ same. omega (arith, same, is, inside, from)))
          (all.each y)))
          (λ (past : (life.log.first + life.log.place) + log_sectors_of (length life.log.appended) ≤ at). ap (λ (v : List ℕ). opened_payload life.now.epoch i v) (all.changes.above at past) ∙ before)
          (cases_lt at ((life.log.first + life.log.place) + log_sectors_of (length life.log.appended))))
          (cases_lt at (life.log.first + life.log.place))

    same_records : AreRecordsOf life snapshot (log ++ life.appended) a → AreRecordsOf (forced_life life) snapshot (log ++ life.appended) b
    same_records k = record {
      lasts = k.lasts;
      slots = k.slots;
      unnamed = λ place number dbd found below none. stands_still place number dbd found below (life.committed (place + 1) number) (k.unnamed place number dbd found below none);
      written = λ place number dbd found below is. stands_still place number dbd found below (life.present (place + 1) number) (k.written place number dbd found below is);
      named = k.named;
    }

    -- It has all of the life then.
    pub forced_kept : AreRecordsOf life snapshot (log ++ life.appended) a → IsImageKept (forced_life life) b
    forced_kept k = record {
      restart = restart_stays life.system life.now life.log l.writer l.in_range l.appended.fits a b all.changes all.each h.restart;
      has_text = text_stays life.system life.now life.log l.writer l.in_range l.appended.fits a b all.changes all.each h.restart ∙ h.has_text;
      snapshot = snapshot;
      log = log ++ life.appended;
      has_snapshot = all_snapshot ∙ h.has_snapshot;
      has_log = log_after;
      records = all_valid;
      bytes = all_bytes;
      are = same_records k;
      not_later = none_later_after life.system life.now life.log l.writer l.in_range l.appended.fits a b all.changes all.each h.restart h.not_later;
      none_ahead = ahead_after;
    }

-- The parts of the life agree once all is forced.
pub forced_is_life : (life : LifeOnDisk) → IsLifeOnDisk life → IsLifeOnDisk (forced_life life)
forced_is_life life l = record {
  in_range = l.in_range;
  few = l.few;
  writer = record { first = l.writer.first; count = l.writer.count; sequence = l.writer.sequence; epoch = l.writer.epoch };
  appended = record { fits = omega (arith, l.appended.fits); spelled = refl; records = tt; bytes = none_spelled };
  sound = l.sound;
  rows = l.rows;
  slots = l.slots;
} where
  none_spelled : IsBytes []
  none_spelled i = nothing i where
    nothing : (i : ℕ) → get_or [] i 0 < 256
    nothing i = omega arith
