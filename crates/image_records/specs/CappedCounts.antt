-- Counts as far as 64 bits go.
use Rattle.std.specs.Prelude.{ℕ, min, ◌-◌, ◌^◌}

abbrev pub capped_count : ℕ → ℕ
capped_count n = min n (2 ^ 64 - 1)
