-- The text of a definition on a disk.
use Rattle.std.specs.Prelude.{ℕ, zero, suc, ◌+◌, List, [], ◌∷◌, ◌++◌, take, ◌==◌, if◌then◌else◌, Option, Some, None}
use Rattle.std.specs.Option.{option_map}
use Rattle.tm_disk.specs.Disk.{Image, sector_at}

-- the bytes of so many sectors from a place on
abbrev pub bytes_from : ℕ → Image → ℕ → List ℕ
bytes_from zero image at = []
bytes_from (suc n) image at = sector_at image at ++ bytes_from n image (at + 1)

-- a definition of so many bytes, which stands in the 64 sectors behind the restart sector
abbrev pub text_in : Image → ℕ → List ℕ
text_in image size = take size (bytes_from 64 image 1)

-- the first place where two texts differ; a shorter text differs at its end
abbrev pub first_difference : List ℕ → List ℕ → Option ℕ
first_difference [] [] = None
first_difference [] (b ∷ bs) = Some 0
first_difference (a ∷ more) [] = Some 0
first_difference (a ∷ more) (b ∷ bs) = if a == b then option_map (λ n. suc n) (first_difference more bs) else Some 0
