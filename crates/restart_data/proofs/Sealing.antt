-- What is sealed is read again.
use Rattle.std.proofs.Common.{◌≡◌, ℕ, ◌+◌, ◌-◌, ◌≤◌, List, ◌++◌, length, take, drop, sym, ◌∙◌, ap, arith}
use Rattle.tm_disk.specs.Sector.{zeros, blank}
use Rattle.restart_data.specs.declared.restart.RestartSector.{RestartSector}
use Rattle.restart_data.specs.Restart.{restart_front, restart_back, restart_sector}
use Rattle.restart_data.specs.Snapshot.{snapshot_header, snapshot_sector}
use Rattle.restart_data.proofs.Zeros.{put_twice}
use Rattle.restart_data.proofs.Numbers.{length-restart_front, length-restart_back, length-snapshot_header}

pub seals_restart : (r : RestartSector) (front back sector : List ℕ) → front ≡ restart_front r.epoch r.snapshot r.log → back ≡ restart_back r.sectors r.sequence r.checkpoint r.text → sector ≡ take 0 blank ++ front ++ drop (0 + length front) blank → take 20 sector ++ back ++ drop (20 + length back) sector ≡ restart_sector r
unfolding restart_sector
seals_restart r front back sector is_front is_back is =
    let a : length front ≡ 20 = ap (length {A = ℕ}) is_front ∙ length-restart_front r.epoch r.snapshot r.log in
    let b : length back ≡ 24 = ap (length {A = ℕ}) is_back ∙ length-restart_back r.sectors r.sequence r.checkpoint r.text in
    put_twice front back sector 20 (sym a) is
    ∙ ap (λ k. front ++ back ++ zeros k) (omega (arith, b))
    ∙ ap (λ (l : List ℕ). l ++ back ++ zeros 4052) is_front
    ∙ ap (λ (l : List ℕ). restart_front r.epoch r.snapshot r.log ++ l ++ zeros 4052) is_back

pub seals_snapshot : (checkpoint place : ℕ) (payload header sector : List ℕ) → length payload ≤ 4064 → header ≡ snapshot_header checkpoint place (length payload) → sector ≡ take 0 blank ++ header ++ drop (0 + length header) blank → take 32 sector ++ payload ++ drop (32 + length payload) sector ≡ snapshot_sector checkpoint place payload
unfolding snapshot_sector
seals_snapshot checkpoint place payload header sector fits is_header is =
    let a : length header ≡ 32 = ap (length {A = ℕ}) is_header ∙ length-snapshot_header checkpoint place (length payload) in
    put_twice header payload sector 32 (sym a) is
    ∙ ap (λ k. header ++ payload ++ zeros k) (omega (arith, fits))
    ∙ ap (λ (l : List ℕ). l ++ payload ++ zeros (4064 - length payload)) is_header
