-- A cold start's three steps, one after another.
use Rattle.std.proofs.Common.{◌≡◌, ◌⊎◌, ℕ, ◌+◌, ◌<◌, ◌≤◌, ◌^◌, List, [], length, ◌∙◌, ap, inl, inr, ⊎_elim, arith, IsTrue, Ok, Err}
use Rattle.std.specs.Prelude.{Result, OnOk}
use Rattle.std.proofs.lemmas.List.{get_or-set_same, length-set}
use Rattle.tm_disk.specs.Disk.{Image, DiskState, IsDisk, ComesFrom, sector_at, MayWrite, Follows, Within, Only}
use Rattle.tm_disk.proofs.Words.{within_where, follows_where, follows_on, follows_shown}
use Rattle.tm_disk.specs.Sector.{blank}
use Rattle.restart_data.specs.declared.restart.RestartSector.{RestartSector}
use Rattle.restart_data.specs.Restart.{IsRestart, restart_sector}
use Rattle.restart_data.specs.Snapshot.{snapshot_sectors_of}
use Rattle.restart_data.specs.WrittenSectors.{Restarts}
use Rattle.restart_data.proofs.ImageLaws.{restart_either, others_stay, restart_keeps_snapshots}
use Rattle.openings.specs.declared.laying_cold.Places.{Places}
use Rattle.openings.specs.ColdWrites.{Clears, KeepsRestart, IsLaid, IsColdWritten, BeginsCold}

-- one run after another, where more is known of the end of the first
within_then : (first middle second both : Image → Image → Type 0) (old mid new : DiskState) → ((a c : Image) → first a c → both a c) → ((a b c : Image) → middle a b → second b c → both a c)
    → Within first old mid → Follows middle old mid → Within second mid new → Within both old new
within_then first middle second both old mid new one joined before follows after = record {
  later = omega (arith, before.later, after.later);
  from = λ time image early left.
      ⊎_elim
      (λ past. ⊎_elim (λ older. inl older) (λ (w : ComesFrom first old image). inr (record { before = w.before; left = w.left; by = one w.before image w.by })) (before.from time image early past))
      (λ (w : ComesFrom second mid image). let v = follows.from w.before w.left in inr (record { before = v.before; left = v.left; by = joined v.before w.before image v.by w.by }))
      (after.from time image (omega (arith, early, before.later)) left);
  keeps = λ time image early left. after.keeps time image (omega (arith, early, before.later)) (before.keeps time image early left);
}

-- the restart sector is zeros
pub record IsCleared (before after : Image) : Type 0 where
  pub size : length after ≡ length before
  pub zeros : sector_at after 0 ≡ blank

pub record IsPrepared (places : Places) (text bytes : List ℕ) (before after : Image) : Type 0 where
  pub cleared : IsCleared before after
  pub laid : IsLaid places text bytes after

clears : (before after : Image) → 0 < length before → Clears before after → IsCleared before after
clears before after some is = record {
  size = ap (length {A = List ℕ}) is ∙ length-set before 0 blank;
  zeros = ap (λ (i : Image). sector_at i 0) is ∙ get_or-set_same before 0 blank [] some;
}

may_clear : (before after : Image) → 0 < length before → MayWrite 0 blank before after → (after ≡ before) ⊎ IsCleared before after
may_clear before after some may = ⊎_elim (λ same. inl same) (λ new. inr (clears before after some new)) may

kept_clear : (a b c : Image) → IsCleared a b → KeepsRestart b c → IsCleared a c
kept_clear a b c one two = record { size = two.size ∙ one.size; zeros = two.restart ∙ one.zeros }

-- a restart sector is written over what was laid
laid_on : (places : Places) (text bytes : List ℕ) (now : RestartSector) (before after : Image) → 65 ≤ places.snapshot → places.snapshot ≤ places.blanks → IsLaid places text bytes before → Restarts now before after → IsColdWritten places text bytes now after
laid_on places text bytes now before after first apart laid restarts = record {
  laid = record {
    has_text = λ x lt. others_stay now before after restarts (1 + x) (omega arith) ∙ laid.has_text x lt;
    blanks = λ x lt. others_stay now before after restarts (places.blanks + x) (omega (arith, first, apart)) ∙ laid.blanks x lt;
    snapshot = restart_keeps_snapshots now before after restarts (snapshot_sectors_of (length bytes)) places.snapshot 1 (omega (arith, first)) ∙ laid.snapshot;
  };
  restart = restarts.read;
}

module _ (places : Places) (text bytes : List ℕ) (now : RestartSector) (old : DiskState) (is_disk : IsDisk old) (some : 0 < old.size) where
  sized : (image : Image) → old.may_leave image → 0 < length image
  sized image left = omega (arith, some, is_disk.image_size old.clock image (is_disk.now_counts old.clock image (omega arith) left))

  pub begins_first : (mid : DiskState) → Within (MayWrite 0 blank) old mid → Within (BeginsCold places text bytes now) old mid
  begins_first mid within =
      within_where (MayWrite 0 blank) (BeginsCold places text bytes now) old mid
      (λ before image left may. ⊎_elim (λ same. inl same) (λ (cleared : IsCleared before image). inr (inl cleared.zeros)) (may_clear before image (sized before left) may)) within

  cleared_follows : (mid : DiskState) → Follows Clears old mid → Follows IsCleared old mid
  cleared_follows mid follows = follows_where Clears IsCleared old mid (λ before image left is. clears before image (sized before left) is) follows

  pub begins_second : (mid new : DiskState) → Within (MayWrite 0 blank) old mid → Follows Clears old mid → Within KeepsRestart mid new → Within (BeginsCold places text bytes now) old new
  begins_second mid new within follows after =
      within_then (BeginsCold places text bytes now) IsCleared KeepsRestart (BeginsCold places text bytes now) old mid new (λ a c one. one)
      (λ a b c one two. inr (inl (kept_clear a b c one two).zeros)) (begins_first mid within) (cleared_follows mid follows) after

  pub prepared : (mid new : DiskState) → IsDisk mid → IsDisk new → new.tells ≡ mid.tells → Follows Clears old mid → Follows KeepsRestart mid new → (IsTrue mid.tells → IsLaid places text bytes new.shown) → Only new.shown new → Follows (IsPrepared places text bytes) old new
  prepared mid new mid_disk new_disk same follows after shown only =
      let laid : Follows (λ before image. IsLaid places text bytes image) mid new = follows_shown (λ before image. IsLaid places text bytes image) mid new mid_disk new_disk same only shown in
      let cleared = follows_on IsCleared KeepsRestart IsCleared old mid new (λ a b c one two. kept_clear a b c one two) (cleared_follows mid follows) after in
      record {
        from = λ image left.
            let w = cleared.from image left in
            let v = laid.from image left in record { before = w.before; left = w.left; by = record { cleared = w.by; laid = v.by } };
      }

  module _ (is : IsRestart now) (fits : now.sectors < 2 ^ 32) (first : 65 ≤ places.snapshot) (apart : places.snapshot ≤ places.blanks) where
    prepared_size : (a b : Image) → old.may_leave a → IsPrepared places text bytes a b → 0 < length b
    prepared_size a b left prepared = omega (arith, sized a left, prepared.cleared.size)

    pub begins_third : (mid last new : DiskState) → IsDisk last → 0 < last.size → Within (BeginsCold places text bytes now) old last → Follows (IsPrepared places text bytes) old last → Within (MayWrite 0 (restart_sector now)) last new → Within (BeginsCold places text bytes now) old new
    begins_third mid last new last_disk more within follows after =
        within_then (BeginsCold places text bytes now) (IsPrepared places text bytes) (λ b c. (0 < length b) × MayWrite 0 (restart_sector now) b c) (BeginsCold places text bytes now) old last new (λ a c one. one)
        (λ a b c one two.
        ⊎_elim
        (λ (same : c ≡ b). inr (inl (ap (λ (i : Image). sector_at i 0) same ∙ one.cleared.zeros)))
        (λ (restarted : Restarts now b c). inr (inr (laid_on places text bytes now b c first apart one.laid restarted)))
        (restart_either now is fits b c two.0 two.1))
        within follows
        (within_where (MayWrite 0 (restart_sector now)) (λ b c. (0 < length b) × MayWrite 0 (restart_sector now) b c) last new
        (λ b c left may. (omega (arith, more, last_disk.image_size last.clock b (last_disk.now_counts last.clock b (omega arith) left)), may)) after)

    pub written_all : (last new : DiskState) → Follows (IsPrepared places text bytes) old last → Follows (Restarts now) last new → Follows (λ before after. IsColdWritten places text bytes now after) old new
    written_all last new before after =
        follows_on (IsPrepared places text bytes) (Restarts now) (λ before after. IsColdWritten places text bytes now after) old last new
        (λ a b c one two. laid_on places text bytes now b c first apart one.laid two) before after

pub on_ok : {A E P Q : Type 0} (r : Result A E) → (P → Q) → OnOk r P → OnOk r Q
on_ok (Ok x) f h = f h
on_ok (Err e) f h = tt
