-- The chain of a log area.
use Rattle.std.specs.Prelude.{ℕ, zero, suc, ◌+◌, List, [], ◌∷◌, ◌++◌, Option, Some, None}
use Rattle.tm_disk.specs.Disk.{Image, sector_at}
use Rattle.log_sectors.specs.SealedSector.{opened_payload}

-- a payload before others, where there is one
abbrev pub before : Option (List ℕ) → List (List ℕ) → List (List ℕ)
before None rest = []
before (Some payload) rest = payload ∷ rest

-- The payloads of the longest list of log sectors of an area, from its first sector on, in which each has the epoch
-- and the sequence that belongs to its place: so many sectors from a place on, the first with this sequence.
abbrev pub chain : ℕ → Image → ℕ → ℕ → ℕ → List (List ℕ)
chain zero image at sequence epoch = []
chain (suc count) image at sequence epoch =
    before (opened_payload epoch sequence (sector_at image at)) (chain count image (at + 1) (sequence + 1) epoch)

-- payloads joined
abbrev pub joined_payloads : List (List ℕ) → List ℕ
joined_payloads [] = []
joined_payloads (payload ∷ payloads) = payload ++ joined_payloads payloads
