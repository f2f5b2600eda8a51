-- The queues: all messages in the order of their ids, each with the region that has it.
use Rattle.std.specs.Prelude.{ℕ, ◌<◌, ◌==◌, Bool, not, ◌&&◌, if◌then◌else◌, List, ◌∷◌, [], ◌++◌, Option, None, map, filter, find, count_by}
use Rattle.std.specs.Option.{option_map, is_none, is_some}
use Rattle.std.specs.List.{AllByRecursion, list_any}
use Rattle.std.specs.List.Sorted.{IsStrictlySortedBy}
use Rattle.std.specs.Ordering.{nat_cmp}
use Rattle.std.specs.Str.{bytes_eq}
use Rattle.tm_types.specs.declared.message.Message.{Message}
use Rattle.model_messages.specs.declared.queued.Queued.{Queued}

-- the queues, and how many bytes they may take
pub record QueuesState : Type 0 where
  pub limit : ℕ
  pub queued : List Queued

abbrev pub messages_of : List Queued → List Message
messages_of queued = map (λ q. q.message) queued

abbrev pub ids_of : List Queued → List ℕ
ids_of queued = map (λ q. q.message.id) queued

-- the ids ascend
abbrev pub AreInOrder : List Queued → Type 0
AreInOrder queued = IsStrictlySortedBy nat_cmp (ids_of queued)

-- an id above every one that is there
abbrev pub IsNewId : ℕ → List Queued → Type 0
IsNewId id queued = AllByRecursion (λ q. q.message.id < id) queued

abbrev pub has_id : ℕ → Queued → Bool
has_id id q = q.message.id == id

-- what is there under an id
abbrev pub queued_at : ℕ → List Queued → Option Queued
queued_at id queued = find (has_id id) queued

-- the message of an id
abbrev pub queued_message : ℕ → List Queued → Option Message
queued_message id queued = option_map (λ q. q.message) (queued_at id queued)

-- a message that no region has, behind all others
abbrev pub with_message : Message → List Queued → List Queued
with_message message queued = queued ++ record { message = message; holder = None } ∷ []

-- the message of this id has this holder, or none; all others stay
abbrev pub with_holder : ℕ → Option ℕ → List Queued → List Queued
with_holder id holder queued = map (λ q. if has_id id q then record q { holder = holder } else q) queued

-- all but the message of this id
abbrev pub without_id_queued : ℕ → List Queued → List Queued
without_id_queued id queued = filter (λ q. not (has_id id q)) queued

-- a message of the code that no region has
abbrev pub is_free_of : List ℕ → Queued → Bool
is_free_of code q = bytes_eq q.message.code code && is_none q.holder

-- the id of the code's first message that no region has, which is the lowest one
abbrev pub first_free : List ℕ → List Queued → Option ℕ
first_free code queued = option_map (λ q. q.message.id) (find (is_free_of code) queued)

-- how many messages of the code no region has
abbrev pub free_count : List ℕ → List Queued → ℕ
free_count code queued = count_by (is_free_of code) queued

-- a region has a message of the code
abbrev pub any_held : List ℕ → List Queued → Bool
any_held code queued = list_any (λ q. bytes_eq q.message.code code && is_some q.holder) queued
