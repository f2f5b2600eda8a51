-- What a cold start writes is the first image, and recovers to the empty state.
use Rattle.std.proofs.Common.{◌≡◌, ℕ, ◌-◌, ◌≤◌, List, [], length, refl, sym, ◌∙◌, ap, subst, inl, inr, ⊎_elim, arith, Ok}
use Rattle.tm_disk.specs.Disk.{Image, DiskState, sector_at, Within, Follows}
use Rattle.tm_disk.proofs.Words.{within_where, follows_where}
use Rattle.tm_disk.specs.Sector.{blank}
use Rattle.model_system.specs.System.{System}
use Rattle.model_machine.specs.Machine.{empty_state}
use Rattle.restart_data.specs.declared.restart.RestartSector.{RestartSector}
use Rattle.restart_data.specs.Restart.{restart_of}
use Rattle.restart_data.specs.Snapshot.{snapshot_sectors_of}
use Rattle.system_types.specs.ValidSystem.{IsSystem}
use Rattle.model_system.specs.Areas.{is_single, snapshot_area}
use Rattle.model_image.specs.RecoveredState.{Recovers}
use Rattle.checkpointing.specs.SpelledRecords.{AddsSpelled}
use Rattle.checkpointing.proofs.Begun.{HasSnapshot, recovers_begun}
use Rattle.openings.specs.declared.laying_cold.Places.{Places}
use Rattle.openings.specs.FirstImage.{IsFirstRestart, IsFirstImage, BeginsImage, first_records}
use Rattle.openings.specs.ColdWrites.{ArePlacesOf, IsColdWritten, BeginsCold}
use Rattle.openings.proofs.Emptied.{blank_restart, empty_is, empty_sound}
use Rattle.checkpointing.proofs.Apart.{codes_apart}

module _ (system : System) (text bytes : List ℕ) (now : RestartSector) (valid : IsSystem system) (adds : AddsSpelled (first_records system) [] bytes) (first : IsFirstRestart now) where
  -- the first image has the first snapshot
  pub has_first : (image : Image) → IsFirstImage system text bytes now image → HasSnapshot system now (first_records system) image
  has_first image is = record {
    restart = is.restart;
    log = omega (arith, first.log);
    read = is.snapshot ∙ ap (λ (l : List ℕ). Ok l) adds.bytes;
    valid = adds.valid;
    blanks = record { each = is.blanks };
  }

  pub first_recovers : (image : Image) → IsFirstImage system text bytes now image → Recovers system image (Ok (empty_state system))
  first_recovers image is =
      recovers_begun system (empty_state system) 1 1 valid.terminals_apart (codes_apart system valid) (empty_is system) (record { checkpoint_small = refl; unit_next = refl }) (empty_sound system valid) now image (has_first image is)

  module _ (places : Places) (are : ArePlacesOf system places) (sectors : now.sectors ≡ snapshot_sectors_of (length bytes)) (few : length bytes ≤ 8192) where
    first_image : (image : Image) → IsColdWritten places text bytes now image → IsFirstImage system text bytes now image
    first_image image written = record {
      restart = written.restart (snapshot_area system) (is_single system) (omega (arith, sectors, few));
      has_text = written.laid.has_text;
      snapshot = rw (sectors, first.snapshot, first.checkpoint, sym are.snapshot) written.laid.snapshot;
      blanks = λ k low high.
          let x : ℕ = k - places.blanks in
          subst (λ (j : ℕ). sector_at image j ≡ blank) (omega (arith, low, are.blanks)) (written.laid.blanks x (omega (arith, low, high, are.blanks, are.count)));
    }

    begins_image : (before after : Image) → BeginsCold places text bytes now before after → BeginsImage system text bytes now before after
    begins_image before after begins =
        ⊎_elim (λ same. inl same)
        (λ rest. ⊎_elim
        (λ (zeros : sector_at after 0 ≡ blank). inr (inl (ap (restart_of (snapshot_area system) (is_single system)) zeros ∙ blank_restart (snapshot_area system) (is_single system))))
        (λ (written : IsColdWritten places text bytes now after). inr (inr (first_image after written)))
        rest)
        begins

    module _ (old new : DiskState) where
      pub begins_within : Within (BeginsCold places text bytes now) old new → Within (BeginsImage system text bytes now) old new
      begins_within within =
          within_where (BeginsCold places text bytes now) (BeginsImage system text bytes now) old new (λ before after left begins. begins_image before after begins) within

      pub all_first : Follows (λ before after. IsColdWritten places text bytes now after) old new → Follows (λ before after. IsFirstImage system text bytes now after) old new
      all_first follows =
          follows_where (λ before after. IsColdWritten places text bytes now after) (λ before after. IsFirstImage system text bytes now after) old new
          (λ before after left written. first_image after written) follows
