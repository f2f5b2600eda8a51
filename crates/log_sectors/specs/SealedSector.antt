-- How a log sector is spelled.
use Rattle.std.specs.Prelude.{◌≡◌, ℕ, ◌+◌, ◌-◌, ◌<◌, ◌≤◌, ◌&&◌, List, [], ◌∷◌, ◌++◌, length, take, drop, nat_lt, nat_le, if◌then◌else◌, Option, Some, None}
use Rattle.std.specs.Int.{w16, w64, to_be_bytes, from_be_bytes}
use Rattle.std.specs.Str.{bytes_eq}
use Rattle.tm_disk.specs.Sector.{zeros}

-- the letters IMSL, 4 zeros, the epoch, the sequence, how many bytes of payload there are, and 6 zeros
unfoldable pub header : ℕ → ℕ → ℕ → List ℕ
header epoch sequence used =
    73 ∷ 77 ∷ 83 ∷ 76 ∷ 0 ∷ 0 ∷ 0 ∷ 0 ∷ [] ++ to_be_bytes w64 epoch ++ to_be_bytes w64 sequence ++ to_be_bytes w16 used ++ 0 ∷ 0 ∷ 0 ∷ 0 ∷ 0 ∷ 0 ∷ []

-- the header, the payload, and zeros to the end
unfoldable pub sealed : ℕ → ℕ → List ℕ → List ℕ
sealed epoch sequence payload = header epoch sequence (length payload) ++ payload ++ zeros (4064 - length payload)

-- behind so many bytes of payload there are zeros
abbrev pub HasZerosBehind : ℕ → List ℕ → Type 0
HasZerosBehind held sector = drop (32 + held) sector ≡ zeros (4064 - held)

-- how many bytes of payload a sector says it holds, and which
abbrev pub used_of : List ℕ → ℕ
used_of sector = from_be_bytes w16 (take 2 (drop 24 sector))

unfoldable pub log_payload_of : List ℕ → List ℕ
log_payload_of sector = take (used_of sector) (drop 32 sector)

-- The sector holds this payload, of 1 to 4,064 bytes, sealed with this epoch and sequence.
pub record HoldsPayload (epoch sequence : ℕ) (payload sector : List ℕ) : Type 0 where
  pub some : 0 < length payload
  pub fits : length payload ≤ 4064
  pub spelled : sector ≡ sealed epoch sequence payload

-- the payload of a log sector of this epoch and sequence, and nothing for any other sector
unfoldable pub opened_payload : ℕ → ℕ → List ℕ → Option (List ℕ)
opened_payload epoch sequence sector =
    let payload = log_payload_of sector in
    if nat_lt 0 (length payload) && nat_le (length payload) 4064 && bytes_eq sector (sealed epoch sequence payload) then Some payload else None
