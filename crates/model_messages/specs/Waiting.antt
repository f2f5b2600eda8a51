-- The messages of a code that wait or are worked on, by a test of which ids a region has.
use Rattle.std.specs.Prelude.{ℕ, Bool, not, ◌&&◌, List, Option, find, count_by}
use Rattle.std.specs.Option.{option_map}
use Rattle.std.specs.List.{list_any}
use Rattle.std.specs.Str.{bytes_eq}
use Rattle.tm_types.specs.declared.message.Message.{Message}

-- a message of the code that no region has
abbrev pub is_waiting : (ℕ → Bool) → List ℕ → Message → Bool
is_waiting is_held code message = bytes_eq message.code code && not (is_held message.id)

-- the id of the first such message
abbrev pub first_waiting : (ℕ → Bool) → List ℕ → List Message → Option ℕ
first_waiting is_held code messages = option_map (λ message. message.id) (find (is_waiting is_held code) messages)

-- how many they are
abbrev pub count_waiting : (ℕ → Bool) → List ℕ → List Message → ℕ
count_waiting is_held code messages = count_by (is_waiting is_held code) messages

-- a region has a message of the code
abbrev pub any_worked_on : (ℕ → Bool) → List ℕ → List Message → Bool
any_worked_on is_held code messages = list_any (λ message. bytes_eq message.code code && is_held message.id) messages
