-- A disk in a file, of which nothing is told but its size and its counts.
use Rattle.std.specs.Prelude.{ℕ, ◌<◌, ◌^◌, false, replicate, [], None}
use Rattle.std.proofs.lemmas.Bool.{false≢true}
use Rattle.std.proofs.lemmas.List.{length-replicate}
use Rattle.tm_disk.specs.Disk.{DiskState, IsDisk, Cuts}
use Rattle.tm_disk.specs.declared.file_disk.FileDisk.{FileDisk}

abbrev pub silent_state : ℕ → ℕ → ℕ → Cuts → DiskState
silent_state size faults writes cuts = record {
  size = size;
  tells = false;
  shown = replicate size [];
  may_leave = λ image. ⊥;
  chosen = λ pick. replicate size [];
  clock = 0;
  left_since = λ time image. ⊥;
  faults = faults;
  writes = writes;
  can_arm = false;
  until_stop = None;
  cuts = cuts;
}

pub silent_law : (size faults writes : ℕ) (cuts : Cuts) → size < 2 ^ 32 → IsDisk (silent_state size faults writes cuts)
silent_law size faults writes cuts fits = record {
  size_fits = fits;
  shown_size = length-replicate size [];
  image_size = λ time image left. absurd left;
  shown_left = λ tells. false≢true tells;
  silent = λ silent time image left. left;
  now_counts = λ time image early left. left;
  now_alone = λ image left. left;
}

abbrev pub file_cuts : FileDisk → Cuts
file_cuts disk = record { count = disk.cuts; pick = disk.last_pick }

abbrev pub file_disk_state : FileDisk → DiskState
file_disk_state disk = silent_state disk.size disk.faults disk.writes (file_cuts disk)

pub disk_law : (disk : FileDisk) → IsDisk (file_disk_state disk)
disk_law disk = silent_law disk.size disk.faults disk.writes (file_cuts disk) disk.size_fits
