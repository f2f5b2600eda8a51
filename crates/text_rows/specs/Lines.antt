-- Lines of a text.
use Rattle.std.specs.Prelude.{ℕ, suc, Bool, true, List, [], ◌∷◌, ◌==◌, Option, position, take, drop, Result, Ok, Err, if◌then◌else◌}
use Rattle.std.specs.List.{list_all}
use Rattle.std.specs.Option.{option_map}
use Rattle.tm_types.specs.Segment.{is_printable}

-- what stands before the first such byte, and what stands behind it
abbrev pub split_at : ℕ → List ℕ → Option (List ℕ × List ℕ)
split_at byte text = option_map (λ n. (take n text, drop (suc n) text)) (position (λ b. b == byte) text)

-- A line that is empty or begins with * is passed over.
abbrev pub is_passed_over : List ℕ → Bool
is_passed_over [] = true
is_passed_over (byte ∷ bytes) = byte == 42

-- each byte of a line is printable
unfoldable pub printable_line : List ℕ → Result (Unit {0}) ℕ
printable_line line = if list_all is_printable line then Ok tt else Err 11
