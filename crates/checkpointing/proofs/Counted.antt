-- Images of which the same is read count alike.
use Rattle.std.proofs.Common.{◌≡◌, ℕ, zero, suc, ◌+◌, ◌≤◌, List, [], length, max, refl, sym, ◌∙◌, ap, subst, arith}
use Rattle.std.specs.Prelude.{Option, Some, None, Result, Ok}
use Rattle.tm_disk.specs.Disk.{Image, sector_at}
use Rattle.model_system.specs.System.{System}
use Rattle.log_records.specs.declared.record.Record.{Record}
use Rattle.restart_data.specs.declared.restart.RestartSector.{RestartSector}
use Rattle.restart_data.specs.Restart.{IsRestart, restart_of, restart_in}
use Rattle.log_sectors.specs.SealedSector.{opened_payload}
use Rattle.log_sectors.specs.Chain.{before, chain, joined_payloads}
use Rattle.log_writer.proofs.Gaining.{chain-same}
use Rattle.model_system.specs.Areas.{is_single, snapshot_area, log_first}
use Rattle.model_image.specs.CutRecords.{Cut, cut_of}
use Rattle.model_image.specs.SectorsAhead.{NoneAhead}
use Rattle.model_image.specs.Counters.{next_sequence, next_unit, told_unit}
use Rattle.model_image.specs.RecoveredState.{snapshot_from, log_in}
use Rattle.model_image.proofs.Ahead.{ahead_empty}
use Rattle.model_image.proofs.Alike.{ImagesAlike, AreasAlike, snapshot_same, log_alike}
use Rattle.checkpointing.specs.Counts.{AreUpTo, CountsUpTo, RaisesCounts}

pub one_restart : {E : Type 0} (x : Result (Option RestartSector) E) (r s : RestartSector) → x ≡ Ok (Some r) → x ≡ Ok (Some s) → r ≡ s
one_restart x r s one other = cc

one_snapshot : {E : Type 0} (x : Result (List Record) E) (r s : List Record) → x ≡ Ok r → x ≡ Ok s → r ≡ s
one_snapshot x r s one other = cc

greater : (m n high : ℕ) → m ≤ high → n ≤ high → max m n ≤ high
greater m n high one other = omega (arith, one, other)

-- a higher bound is one, too
pub up_to_more : (system : System) (low high : ℕ) (image : Image) → low ≤ high → CountsUpTo system low image → CountsUpTo system high image
up_to_more system low high image le counts restart found =
    let c = counts restart found in
    record {
      epoch = omega (arith, c.epoch, le);
      sequence = omega (arith, c.sequence, le);
      checkpoint = omega (arith, c.checkpoint, le);
      unit = λ snapshot read. omega (arith, c.unit snapshot read, le);
    }

module _ (system : System) (high : ℕ) (old new : Image) (r : RestartSector) (alike : AreasAlike system r old new) (c : AreUpTo system high old r) where
  sequence_alike : next_sequence system new r ≡ next_sequence system old r
  sequence_alike =
      ap (λ (links : List (List ℕ)). r.sequence + length links)
      (chain-same system.logs old new (log_first system r.log) r.sequence r.epoch (λ x lt. alike.log (log_first system r.log + x) (omega arith) (omega (arith, lt))))

  unit_alike : (snapshot : List Record) → next_unit snapshot (log_in system new r).records ≡ next_unit snapshot (log_in system old r).records
  unit_alike snapshot = ap (λ (cut : Cut). next_unit snapshot cut.records) (log_alike system r old new alike)

  areas_up_to : AreUpTo system high new r
  areas_up_to = record {
    epoch = c.epoch;
    sequence = omega (arith, c.sequence, sequence_alike);
    checkpoint = c.checkpoint;
    unit = λ snapshot read. omega (arith, c.unit snapshot (sym (snapshot_same system r old new alike.snapshot) ∙ read), unit_alike snapshot);
  }

-- where the same is read, no counter is above either
pub alike_up_to : (system : System) (high : ℕ) (old new : Image) → ImagesAlike system old new → CountsUpTo system high old → CountsUpTo system high new
alike_up_to system high old new alike counts restart found =
    let there : restart_in (snapshot_area system) (is_single system) old ≡ Ok (Some restart) = sym (ap (restart_of (snapshot_area system) (is_single system)) alike.restart) ∙ found in
    areas_up_to system high old new restart (alike.areas restart there) (counts restart there)

pub alike_raises : (more : ℕ) (system : System) (old new : Image) → ImagesAlike system old new → RaisesCounts more system old new
alike_raises more system old new alike high counts =
    up_to_more system high (high + more) new (omega arith) (alike_up_to system high old new alike counts)

-- the same image counts no further
pub same_raises : (more : ℕ) (system : System) (old new : Image) → new ≡ old → RaisesCounts more system old new
same_raises more system old new same high counts =
    subst (λ (i : Image). CountsUpTo system (high + more) i) (sym same) (up_to_more system high (high + more) old (omega arith) counts)

-- ---- a log

short_chain : (count : ℕ) (image : Image) (at sequence epoch : ℕ) → length (chain count image at sequence epoch) ≤ count
short_chain zero image at sequence epoch = omega arith
short_chain (suc count) image at sequence epoch =
    by_first (opened_payload epoch sequence (sector_at image at)) (chain count image (at + 1) (sequence + 1) epoch) (short_chain count image (at + 1) (sequence + 1) epoch)
  where
    by_first : (first : Option (List ℕ)) (rest : List (List ℕ)) → length rest ≤ count → length (before first rest) ≤ suc count
    by_first None rest less = omega arith
    by_first (Some payload) rest less = omega (arith, less)

-- A log is no longer than its area.
pub sequence_most : (system : System) (image : Image) (r : RestartSector) → next_sequence system image r ≤ r.sequence + system.logs
sequence_most system image r = omega (arith, short_chain system.logs image (log_first system r.log) r.sequence r.epoch)

-- ---- an empty log

no_records : (cut_of []).records ≡ []
unfolding cut_of
no_records = refl

module _ (system : System) (image : Image) (r : RestartSector) (ahead : NoneAhead system image r.epoch r.sequence) (range : IsRestart r) where
  no_chain : chain system.logs image (log_first system r.log) r.sequence r.epoch ≡ []
  no_chain = ahead_empty system image r.epoch r.sequence r.log ahead range.log (omega (arith, range.sequence.1))

  ahead_sequence : next_sequence system image r ≡ r.sequence
  ahead_sequence = ap (λ (links : List (List ℕ)). r.sequence + length links) no_chain ∙ omega arith

  ahead_records : (log_in system image r).records ≡ []
  ahead_records = ap (λ (links : List (List ℕ)). (cut_of (joined_payloads links)).records) no_chain ∙ no_records

  module _ (snapshot : List Record) (unit : ℕ) (found : snapshot_from system image r ≡ Ok snapshot) (told : told_unit snapshot ≡ unit) (there : restart_in (snapshot_area system) (is_single system) image ≡ Ok (Some r)) where
    unit_told : (other : List Record) → snapshot_from system image r ≡ Ok other → next_unit other (log_in system image r).records ≡ max unit 1
    unit_told other read =
        ap (next_unit other) ahead_records
        ∙ ap (λ (s : List Record). next_unit s []) (sym (one_snapshot (snapshot_from system image r) snapshot other found read))
        ∙ ap (λ (n : ℕ). max n 1) told

    -- An image without a log counts as its restart sector and its snapshot say.
    pub begun_up_to : (high : ℕ) → r.epoch ≤ high → r.sequence ≤ high → r.checkpoint ≤ high → unit ≤ high → 1 ≤ high → CountsUpTo system high image
    begun_up_to high epoch sequence checkpoint most some restart is =
        subst (AreUpTo system high image) (one_restart (restart_in (snapshot_area system) (is_single system) image) r restart there is)
        (record {
          epoch = epoch;
          sequence = omega (arith, sequence, ahead_sequence);
          checkpoint = checkpoint;
          unit = λ other read. subst (λ (n : ℕ). n ≤ high) (sym (unit_told other read)) (greater unit 1 high most some);
        })
