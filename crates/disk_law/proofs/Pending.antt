-- A life goes on by moves while nothing is forced: its parts agree behind each, and a front of their records leads to what lasted
-- behind one of them.
use Rattle.std.proofs.Common.{◌≡◌, ℕ, zero, suc, ◌-◌, ◌<◌, ◌≤◌, List, [], ◌∷◌, ◌++◌, length, take, refl, sym, ◌∙◌, ap, subst, ⊎_elim, arith, append_assoc, append-nil}
use Rattle.std.proofs.lemmas.Bool.{cases_lt}
use Rattle.std.proofs.lemmas.List.{take-append-le}
use Rattle.std.proofs.Math.Seq.{take-append-add}
use Rattle.tm_disk.specs.Disk.{Image}
use Rattle.model_system.specs.System.{System}
use Rattle.model_machine.specs.Machine.{LastingState}
use Rattle.log_records.specs.declared.record.Record.{Record}
use Rattle.log_writer.specs.ForcedLog.{AddsFront, AddsAll}
use Rattle.disk_law.specs.Life.{LifeOnDisk, IsLifeOnDisk}
use Rattle.disk_law.specs.KeptImages.{AreRecordsOf, IsImageKept, RecoversOne}
use Rattle.disk_law.specs.SlotChanges.{SlotChange, change_record, with_slot_change}
use Rattle.disk_law.specs.LifeSteps.{StepOnDisk, forced_life, after_step}
use Rattle.disk_law.specs.PendingMoves.{Move, after_move, MayMove, after_moves, MayMoveAll, states_behind}
use Rattle.disk_law.specs.PendingMoves.Move.{Changes, GivesUp, Lasts}
use Rattle.disk_law.proofs.Front.{HasForcedOf, ReadsAs, ReadsOne, all_read, has_forced, no_front, cut, front_reads, forced_kept}
use Rattle.disk_law.proofs.Changing.{change_life, change_records, without_life, without_records}
use Rattle.disk_law.proofs.Stepping.{step_life, step_records, step_front}

-- ---- one move

-- the records that it appends
abbrev pub records_of : Move → List Record
records_of (Changes unit change) = change_record unit change ∷ []
records_of (GivesUp unit changed) = []
records_of (Lasts step) = step.records

move_life : (move : Move) (life : LifeOnDisk) → IsLifeOnDisk life → MayMove move life → IsLifeOnDisk (after_move move life)
move_life (Changes unit change) life l may = change_life unit change life l may
move_life (GivesUp unit changed) life l may = without_life unit changed life l may
move_life (Lasts step) life l may = step_life life l step may

move_records : (move : Move) (life : LifeOnDisk) → IsLifeOnDisk life → MayMove move life → (snapshot log : List Record) (a : Image) → AreRecordsOf life snapshot log a → AreRecordsOf (after_move move life) snapshot (log ++ records_of move) a
move_records (Changes unit change) life l may snapshot log a k = change_records unit change life l may snapshot log a k
move_records (GivesUp unit changed) life l may snapshot log a k =
    subst (λ (records : List Record). AreRecordsOf (after_move (GivesUp unit changed) life) snapshot records a) (sym (append-nil log)) (without_records unit changed life l may snapshot log a k)
move_records (Lasts step) life l may snapshot log a k = step_records life l step may snapshot log a k

-- what was forced stays as it is
move_forced : (move : Move) (life : LifeOnDisk) (snapshot log : List Record) (a : Image) → HasForcedOf life snapshot log a → HasForcedOf (after_move move life) snapshot log a
move_forced (Changes unit change) life snapshot log a h = record {
  restart = h.restart;
  has_text = h.has_text;
  has_snapshot = h.has_snapshot;
  has_log = h.has_log;
  records = h.records;
  bytes = h.bytes;
  not_later = h.not_later;
  none_ahead = h.none_ahead;
}
move_forced (GivesUp unit changed) life snapshot log a h = record {
  restart = h.restart;
  has_text = h.has_text;
  has_snapshot = h.has_snapshot;
  has_log = h.has_log;
  records = h.records;
  bytes = h.bytes;
  not_later = h.not_later;
  none_ahead = h.none_ahead;
}
move_forced (Lasts step) life snapshot log a h = record {
  restart = h.restart;
  has_text = h.has_text;
  has_snapshot = h.has_snapshot;
  has_log = h.has_log;
  records = h.records;
  bytes = h.bytes;
  not_later = h.not_later;
  none_ahead = h.none_ahead;
}

move_appended : (move : Move) (life : LifeOnDisk) → (after_move move life).appended ≡ life.appended ++ records_of move
move_appended (Changes unit change) life = refl
move_appended (GivesUp unit changed) life = sym (append-nil life.appended)
move_appended (Lasts step) life = refl

-- what a life has from its opening on
pub record IsOfSame (life behind : LifeOnDisk) : Type 0 where
  pub system : life.system ≡ behind.system
  pub text : life.text ≡ behind.text
  pub now : life.now ≡ behind.now

move_same : (move : Move) (life behind : LifeOnDisk) → IsOfSame (after_move move life) behind → IsOfSame life behind
move_same (Changes unit change) life behind s = record { system = s.system; text = s.text; now = s.now }
move_same (GivesUp unit changed) life behind s = record { system = s.system; text = s.text; now = s.now }
move_same (Lasts step) life behind s = record { system = s.system; text = s.text; now = s.now }

-- ---- all moves

abbrev pub all_records : List Move → List Record
all_records [] = []
all_records (move ∷ moves) = records_of move ++ all_records moves

pub moves_life : (moves : List Move) (life : LifeOnDisk) → IsLifeOnDisk life → MayMoveAll moves life → IsLifeOnDisk (after_moves moves life)
moves_life [] life l may = l
moves_life (move ∷ moves) life l may = moves_life moves (after_move move life) (move_life move life l may.0) may.1

moves_records : (moves : List Move) (life : LifeOnDisk) → IsLifeOnDisk life → MayMoveAll moves life → (snapshot log : List Record) (a : Image) → AreRecordsOf life snapshot log a → AreRecordsOf (after_moves moves life) snapshot (log ++ all_records moves) a
moves_records [] life l may snapshot log a k = subst (λ (records : List Record). AreRecordsOf life snapshot records a) (sym (append-nil log)) k
moves_records (move ∷ moves) life l may snapshot log a k =
    subst (λ (records : List Record). AreRecordsOf (after_moves moves (after_move move life)) snapshot records a) (append_assoc log (records_of move) (all_records moves))
    (moves_records moves (after_move move life) (move_life move life l may.0) may.1 snapshot (log ++ records_of move) a (move_records move life l may.0 snapshot log a k))

pub moves_forced : (moves : List Move) (life : LifeOnDisk) (snapshot log : List Record) (a : Image) → HasForcedOf life snapshot log a → HasForcedOf (after_moves moves life) snapshot log a
moves_forced [] life snapshot log a h = h
moves_forced (move ∷ moves) life snapshot log a h = moves_forced moves (after_move move life) snapshot log a (move_forced move life snapshot log a h)

moves_appended : (moves : List Move) (life : LifeOnDisk) → (after_moves moves life).appended ≡ life.appended ++ all_records moves
moves_appended [] life = sym (append-nil life.appended)
moves_appended (move ∷ moves) life =
    moves_appended moves (after_move move life)
    ∙ ap (λ (records : List Record). records ++ all_records moves) (move_appended move life)
    ∙ append_assoc life.appended (records_of move) (all_records moves)

pub moves_same : (moves : List Move) (life : LifeOnDisk) → IsOfSame life (after_moves moves life)
moves_same [] life = record { system = refl; text = refl; now = refl }
moves_same (move ∷ moves) life = move_same move life (after_moves moves (after_move move life)) (moves_same moves (after_move move life))

-- the states end with what lasts behind all moves
pub last_state : (moves : List Move) (life : LifeOnDisk) → (before : List LastingState) × (life.lasting ∷ states_behind moves ≡ before ++ (after_moves moves life).lasting ∷ [])
last_state [] life = ([], refl)
last_state (Changes unit change ∷ moves) life = last_state moves (with_slot_change unit change life)
last_state (GivesUp unit changed ∷ moves) life = last_state moves (after_move (GivesUp unit changed) life)
last_state (Lasts step ∷ moves) life =
    let later = last_state moves (after_step step life) in
    (life.lasting ∷ later.0, ap (λ (states : List LastingState). life.lasting ∷ states) later.1)

-- ---- a front of their records

reads_first : (system : System) (snapshot records : List Record) (a : Image) (state : LastingState) (more : List LastingState) → ReadsAs system snapshot records a state → ReadsOne system snapshot records a (state ∷ more)
reads_first system snapshot records a state more r = record { place = 0; state = state; found = refl; reads = r }

reads_later : (system : System) (snapshot records : List Record) (a : Image) (first : LastingState) (states : List LastingState) → ReadsOne system snapshot records a states → ReadsOne system snapshot records a (first ∷ states)
reads_later system snapshot records a first states r = record { place = suc r.place; state = r.state; found = r.found; reads = r.reads }

-- none of them
reads_none : (life : LifeOnDisk) (l : IsLifeOnDisk life) (more : List LastingState) (snapshot log : List Record) (a : Image) → AreRecordsOf life snapshot log a → ReadsOne life.system snapshot (log ++ []) a (life.lasting ∷ more)
reads_none life l more snapshot log a k =
    subst (λ (records : List Record). ReadsOne life.system snapshot records a (life.lasting ∷ more)) (sym (append-nil log))
    (reads_first life.system snapshot log a life.lasting more (all_read life l snapshot log a k))

module _ (snapshot : List Record) (a : Image) where
  abbrev Fronts : List Move → LifeOnDisk → Type 0
  Fronts moves life = (log : List Record) → AreRecordsOf life snapshot log a → (n : ℕ) → ReadsOne life.system snapshot (log ++ take n (all_records moves)) a (life.lasting ∷ states_behind moves)

  no_fronts : (life : LifeOnDisk) → IsLifeOnDisk life → Fronts [] life
  no_fronts life l log k zero = reads_none life l [] snapshot log a k
  no_fronts life l log k (suc n) = reads_none life l [] snapshot log a k

  changed_fronts : (unit : ℕ) (change : SlotChange) (moves : List Move) (life : LifeOnDisk) → IsLifeOnDisk life → MayMove (Changes unit change) life → Fronts moves (with_slot_change unit change life) → Fronts (Changes unit change ∷ moves) life
  changed_fronts unit change moves life l may later log k zero = reads_none life l (states_behind moves) snapshot log a k
  changed_fronts unit change moves life l may later log k (suc n) =
      subst (λ (records : List Record). ReadsOne life.system snapshot records a (life.lasting ∷ states_behind moves)) (append_assoc log (change_record unit change ∷ []) (take n (all_records moves)))
      (later (log ++ change_record unit change ∷ []) (change_records unit change life l may snapshot log a k) n)

  lasting_fronts : (step : StepOnDisk) (moves : List Move) (life : LifeOnDisk) → IsLifeOnDisk life → MayMove (Lasts step) life → Fronts moves (after_step step life) → Fronts (Lasts step ∷ moves) life
  lasting_fronts step moves life l may later log k n =
      ⊎_elim
      (λ (short : n < length step.records).
      subst (λ (records : List Record). ReadsOne life.system snapshot (log ++ records) a (life.lasting ∷ step.lasting ∷ states_behind moves)) (sym (take-append-le n step.records (all_records moves) (omega (arith, short))))
      (reads_first life.system snapshot (log ++ take n step.records) a life.lasting (step.lasting ∷ states_behind moves) (step_front life l step may snapshot log a k n short)))
      (λ (past : length step.records ≤ n).
      let m : ℕ = n - length step.records in
      let front : take n (step.records ++ all_records moves) ≡ step.records ++ take m (all_records moves) =
      ap (λ i. take i (step.records ++ all_records moves)) (omega (arith, past)) ∙ take-append-add step.records (all_records moves) m in
      subst (λ (records : List Record). ReadsOne life.system snapshot records a (life.lasting ∷ step.lasting ∷ states_behind moves))
      (append_assoc log step.records (take m (all_records moves)) ∙ ap (λ (records : List Record). log ++ records) (sym front))
      (reads_later life.system snapshot ((log ++ step.records) ++ take m (all_records moves)) a life.lasting (step.lasting ∷ states_behind moves)
      (later (log ++ step.records) (step_records life l step may snapshot log a k) m)))
      (cases_lt n (length step.records))

  -- Each front of them leads to what lasted before, or behind one of the steps.
  fronts : (moves : List Move) (life : LifeOnDisk) → IsLifeOnDisk life → MayMoveAll moves life → Fronts moves life
  fronts [] life l may = no_fronts life l
  fronts (Changes unit change ∷ moves) life l may = changed_fronts unit change moves life l may.0 (fronts moves (with_slot_change unit change life) (change_life unit change life l may.0) may.1)
  fronts (GivesUp unit changed ∷ moves) life l may =
      λ log k n. fronts moves (after_move (GivesUp unit changed) life) (without_life unit changed life l may.0) may.1 log (without_records unit changed life l may.0 snapshot log a k) n
  fronts (Lasts step ∷ moves) life l may = lasting_fronts step moves life l may.0 (fronts moves (after_step step life) (step_life life l step may.0) may.1)

-- ---- from a life of which an image has all

module _ (base : LifeOnDisk) (l : IsLifeOnDisk base) (nothing : base.appended ≡ []) (moves : List Move) (may : MayMoveAll moves base) (a : Image) (k : IsImageKept base a) where
  abbrev last : LifeOnDisk
  last = after_moves moves base

  abbrev states : List LastingState
  states = base.lasting ∷ states_behind moves

  last_life : IsLifeOnDisk last
  last_life = moves_life moves base l may

  appended_are : last.appended ≡ all_records moves
  appended_are = moves_appended moves base ∙ ap (λ (records : List Record). records ++ all_records moves) nothing

  pub has : HasForcedOf last k.snapshot k.log a
  has = moves_forced moves base k.snapshot k.log a (has_forced base a k)

  are : AreRecordsOf last k.snapshot (k.log ++ last.appended) a
  are = subst (λ (records : List Record). AreRecordsOf last k.snapshot (k.log ++ records) a) (sym appended_are) (moves_records moves base l may k.snapshot k.log a k.are)

  reads : (n : ℕ) → ReadsOne last.system k.snapshot (k.log ++ take n last.appended) a states
  reads n =
      subst (λ (y : System). ReadsOne y k.snapshot (k.log ++ take n last.appended) a states) (moves_same moves base).system
      (subst (λ (records : List Record). ReadsOne base.system k.snapshot (k.log ++ take n records) a states) (sym appended_are) (fronts k.snapshot a moves base l may k.log k.are n))

  -- With a front of what they appended the image recovers to one of the states,
  pub front_one : (b : Image) → AddsFront last.log a b → RecoversOne last.system states b
  front_one b front =
      let r = reads (cut last last_life k.snapshot k.log a has b front).count in
      record { place = r.place; state = r.state; found = r.found; recovers = front_reads last last_life k.snapshot k.log a has b front r.state r.reads }

  -- as it does with nothing of it,
  pub itself_one : RecoversOne last.system states a
  itself_one = front_one a (no_front last a)

  -- and with all of it the image has all of the life.
  pub all_kept : (b : Image) → AddsAll last.log a b → IsImageKept (forced_life last) b
  all_kept b all = forced_kept last last_life k.snapshot k.log a has b all are
