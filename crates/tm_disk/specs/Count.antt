-- Counts that stay where a u64 ends.
use Rattle.std.specs.Prelude.{ℕ, ◌+◌, if◌then◌else◌, nat_lt}

-- one more, as far as a u64 goes
abbrev pub raised : ℕ → ℕ
raised n = if nat_lt n 18446744073709551615 then n + 1 else n
