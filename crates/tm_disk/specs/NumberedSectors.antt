-- Sectors by the numbers of the writes that made them.
use Rattle.std.specs.Prelude.{◌≡◌, ℕ, ◌≤◌, List, [], ◌∷◌, length, map, drop, All, slice_index_or, slice_set, ◌==◌, if◌then◌else◌}
use Rattle.tm_disk.specs.Disk.{Image}
use Rattle.tm_disk.specs.Sector.{blank}
use Rattle.tm_disk.specs.Written.{Written}
use Rattle.tm_disk.specs.Moments.{writes_to}

abbrev pub written_content : Written → List ℕ
written_content write = write.content

-- what the write of a number made, counted from 1, and zero bytes at 0
abbrev pub made_by : List Written → ℕ → List ℕ
made_by writes number = slice_index_or (blank ∷ map written_content writes) number blank

abbrev pub image_by : List Written → List ℕ → Image
image_by writes numbers = map (made_by writes) numbers

-- Numbers of what is shown and of what was synced: each is that of a write, and a sector that was not written since has the same in both.
pub record AreNumbers (shown synced : List ℕ) (writes : List Written) (settled : ℕ) : Type 0 where
  pub size : length shown ≡ length synced
  pub shown_in : All (λ number. number ≤ length writes) shown
  pub synced_in : All (λ number. number ≤ length writes) synced
  pub same : (k : ℕ) → writes_to k (drop settled writes) ≡ [] → slice_index_or shown k 0 ≡ slice_index_or synced k 0

-- A sector with the number of one write more, if that is the one which is so many on.
abbrev pub chosen_by : ℕ → List ℕ → ℕ → ℕ → List ℕ
chosen_by left numbers at number = if left == 1 then slice_set numbers at number else numbers
