-- A disk in memory as its trait sees it.
use Rattle.std.specs.Prelude.{◌≡◌, ◌⊎◌, ℕ, ◌<◌, ◌^◌, true, List, length, drop, Option}
use Rattle.std.proofs.Common.{⊎_elim, inl}
use Rattle.std.proofs.lemmas.Bool.{true≢false}
use Rattle.tm_disk.specs.Disk.{Image, DiskState, IsDisk, Cuts}
use Rattle.tm_disk.specs.Moments.{DiskMoment, shown_of, picked, IsImageLeft, WasLeft}
use Rattle.tm_disk.specs.MomentLaws.{length-shown_of, shown_is_left, none_left, WasLeft-drop}

-- It tells its contents, and can be armed. Time counts the moments past.
abbrev pub mem_state : DiskMoment → List DiskMoment → ℕ → ℕ → Option ℕ → Cuts → DiskState
mem_state now past faults writes until_stop cuts = record {
  size = length now.synced;
  tells = true;
  shown = shown_of now.synced now.since;
  may_leave = IsImageLeft now;
  chosen = λ pick. picked pick 0 now.since now.synced;
  clock = length past;
  left_since = λ time image. IsImageLeft now image ⊎ WasLeft (drop time past) image;
  faults = faults;
  writes = writes;
  can_arm = true;
  until_stop = until_stop;
  cuts = cuts;
}

pub mem_is_disk : (now : DiskMoment) (past : List DiskMoment) (faults writes : ℕ) (until_stop : Option ℕ) (cuts : Cuts) → length now.synced < 2 ^ 32 → ((image : Image) → WasLeft past image → length image ≡ length now.synced) → IsDisk (mem_state now past faults writes until_stop cuts)
mem_is_disk now past faults writes until_stop cuts fits size = record {
  size_fits = fits;
  shown_size = length-shown_of now.synced now.since;
  image_size = λ time image left. ⊎_elim (λ (l : IsImageLeft now image). l.size) (λ (w : WasLeft (drop time past) image). size image (WasLeft-drop time past image w)) left;
  shown_left = λ tells. shown_is_left now;
  silent = λ silent time image left. true≢false silent;
  now_counts = λ time image early left. inl left;
  now_alone = λ image left. ⊎_elim (λ l. l) (λ (w : WasLeft (drop (length past) past) image). absurd (none_left past image w)) left;
}
