-- The ids of messages in order, each with whether it is held.
use Rattle.std.specs.Prelude.{◌≡◌, ℕ, ◌<◌, ◌==◌, Bool, false, not, if◌then◌else◌, List, [], ◌∷◌, ◌++◌, Option, map, filter, find, count_by}
use Rattle.std.specs.List.{AllByRecursion, list_any}
use Rattle.std.specs.List.Sorted.{IsStrictlySortedBy}
use Rattle.std.specs.Map.{keys_of, values_of}
use Rattle.std.specs.Option.{option_map, is_some}
use Rattle.std.specs.Ordering.{nat_cmp}
use Rattle.std.specs.Str.{bytes_eq}
use Rattle.tm_types.specs.declared.message.Message.{Message}
use Rattle.model_messages.specs.ConversationInput.{is_conversing}
use Rattle.model_messages.specs.declared.queued.Queued.{Queued}

-- the ids of the messages that pass the test, each with this flag
abbrev pub flagged_ids : (Message → Bool) → (Queued → Bool) → List Queued → List (ℕ × Bool)
flagged_ids test flag queued = map (λ q. (q.message.id, flag q)) (filter (λ q. test q.message) queued)

-- what is kept of a code's messages: those that a region has are held
abbrev pub places : List ℕ → List Queued → List (ℕ × Bool)
places code queued = flagged_ids (λ message. bytes_eq message.code code) (λ q. is_some q.holder) queued

-- what is kept of the messages of a terminal's conversation: none is held, whether a region has it or not
abbrev pub conversing_ids : List ℕ → List Queued → List (ℕ × Bool)
conversing_ids terminal queued = flagged_ids (is_conversing terminal) (λ _. false) queued

-- an id above all others
abbrev pub IsIdBehind : ℕ → List (ℕ × Bool) → Type 0
IsIdBehind id places = AllByRecursion (λ place. place.0 < id) places

-- an id that isn't held, behind all others
abbrev pub with_id : ℕ → List (ℕ × Bool) → List (ℕ × Bool)
with_id id places = places ++ (id, false) ∷ []

abbrev pub with_flag : ℕ → Bool → List (ℕ × Bool) → List (ℕ × Bool)
with_flag id held places = map (λ place. if place.0 == id then (place.0, held) else place) places

abbrev pub without_id : ℕ → List (ℕ × Bool) → List (ℕ × Bool)
without_id id places = filter (λ place. not (place.0 == id)) places

-- the first id that isn't held
abbrev pub first_open : List (ℕ × Bool) → Option ℕ
first_open places = option_map (λ place. place.0) (find (λ place. not place.1) places)

-- how many ids aren't held
abbrev pub unheld_count : List (ℕ × Bool) → ℕ
unheld_count places = count_by (λ held. not held) (values_of places)

-- an id is held
abbrev pub any_held_id : List (ℕ × Bool) → Bool
any_held_id places = list_any (λ place. place.1) places

-- how many an id with this flag counts
abbrev pub id_weight : Bool → ℕ
id_weight held = if not held then 1 else 0

-- the ids ascend, and those that aren't held are counted
pub record AreIdsCounted (places : List (ℕ × Bool)) (free : ℕ) : Type 0 where
  pub ascending : IsStrictlySortedBy nat_cmp (keys_of places)
  pub counted : free ≡ unheld_count places
