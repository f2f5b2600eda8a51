-- How messages are kept by their ids.
use Rattle.std.specs.Prelude.{◌≡◌, ℕ, ◌<◌, ◌^◌, Bool, true, List}
use Rattle.std.specs.List.{AllByRecursion}
use Rattle.std.specs.List.Sorted.{IsStrictlySortedBy}
use Rattle.std.specs.Map.{keys_of, values_of}
use Rattle.std.specs.Ordering.{nat_cmp}
use Rattle.model_messages.specs.declared.queued.Queued.{Queued}
use Rattle.model_messages.specs.Room.{messages_bytes}
use Rattle.model_messages.specs.Queue.{messages_of, has_id}
use Rattle.msg_queues.specs.FreeMessages.{free_total}
use Rattle.msg_queues.specs.Index.{AreIndexed, AreConversing}

-- each message is kept under its id, and the ids ascend
pub record AreKeyed (entries : List (ℕ × Queued)) : Type 0 where
  pub each : AllByRecursion (λ entry. entry.1.message.id ≡ entry.0) entries
  pub ascending : IsStrictlySortedBy nat_cmp (keys_of entries)

-- the message of the id, where it is there, has this code
abbrev pub HasCode : ℕ → List ℕ → List Queued → Type 0
HasCode id code queued = AllByRecursion (λ q. has_id id q ≡ true → q.message.code ≡ code) queued

-- besides, the bytes of the messages are counted, and those that no region has, and they are kept by their codes too, those of conversations by their terminals
pub record AreMessagesKept (entries : List (ℕ × Queued)) (content unheld : ℕ) (by_code by_terminal : List (List ℕ × List (ℕ × Bool))) : Type 0 where
  pub keyed : AreKeyed entries
  pub indexed : AreIndexed by_code (values_of entries)
  pub conversing : AreConversing by_terminal (values_of entries)
  pub counted : content ≡ messages_bytes (messages_of (values_of entries))
  pub small : content < 2 ^ 62
  pub free : unheld ≡ free_total (values_of entries)
