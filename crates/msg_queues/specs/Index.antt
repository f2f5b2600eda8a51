-- Ids of messages by names: by the messages' codes, and those of conversations by their terminals.
use Rattle.std.specs.Prelude.{◌≡◌, ℕ, Bool, if◌then◌else◌, List, []}
use Rattle.std.specs.BTreeMap.{is_at}
use Rattle.std.specs.Cmp.Lexicographic.{slice_cmp}
use Rattle.std.specs.Map.{lookup}
use Rattle.std.specs.Option.{unwrap_or}
use Rattle.std.specs.Ordering.{nat_cmp}
use Rattle.std.specs.Str.{bytes_eq}
use Rattle.model_messages.specs.declared.queued.Queued.{Queued}
use Rattle.msg_queues.specs.Places.{places, conversing_ids}

-- what is kept under a name, nothing where the name isn't there
abbrev pub of_name : List ℕ → List (List ℕ × List (ℕ × Bool)) → List (ℕ × Bool)
of_name name by_name = unwrap_or (lookup (is_at (slice_cmp nat_cmp name)) by_name) []

-- what is kept under the name is changed, and under each other one it stays
abbrev pub ChangesName : List ℕ → (List (ℕ × Bool) → List (ℕ × Bool)) → (old new : List (List ℕ × List (ℕ × Bool))) → Type 0
ChangesName name change old new =
    (other : List ℕ) → of_name other new ≡ (if bytes_eq name other then change (of_name other old) else of_name other old)

abbrev pub KeepsNames : (old new : List (List ℕ × List (ℕ × Bool))) → Type 0
KeepsNames old new = (other : List ℕ) → of_name other new ≡ of_name other old

-- a change that is made where the condition holds
abbrev pub when : Bool → (List (ℕ × Bool) → List (ℕ × Bool)) → List (ℕ × Bool) → List (ℕ × Bool)
when condition change ids = if condition then change ids else ids

-- under each code its messages are kept
abbrev pub AreIndexed : List (List ℕ × List (ℕ × Bool)) → List Queued → Type 0
AreIndexed by_code queued = (code : List ℕ) → of_name code by_code ≡ places code queued

-- under each terminal the messages of its conversation are kept
abbrev pub AreConversing : List (List ℕ × List (ℕ × Bool)) → List Queued → Type 0
AreConversing by_terminal queued = (terminal : List ℕ) → of_name terminal by_terminal ≡ conversing_ids terminal queued
