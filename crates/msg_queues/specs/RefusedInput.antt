-- Why an input isn't taken.
use Rattle.std.specs.Prelude.{◌≡◌, ℕ, ◌+◌, ◌<◌, ◌≤◌}
use Rattle.tm_types.specs.declared.message.Message.{Message}
use Rattle.model_messages.specs.Room.{message_bytes, messages_bytes, input_needs}
use Rattle.model_messages.specs.Queue.{QueuesState, messages_of}
use Rattle.msg_queues.specs.declared.queues.QueueRefused.{QueueRefused}
use Rattle.msg_queues.specs.declared.queues.QueueRefused.TheVariants.{Full, Memory}

-- what the input needs, the replies being counted among the content
abbrev pub queued_input_needs : QueuesState → Message → (busy replies : ℕ) → ℕ
queued_input_needs queues message busy replies =
    input_needs (messages_bytes (messages_of queues.queued) + replies) (message_bytes message) busy

-- The message comes back. Full is exact; want of memory comes only for an input that isn't Full.
abbrev pub RefusesInput : QueuesState → Message → (busy replies : ℕ) → QueueRefused → Type 0
RefusesInput queues message busy replies (Full needed limit back) =
    (needed ≡ queued_input_needs queues message busy replies) × (limit ≡ queues.limit) × (limit < needed) × (back ≡ message)
RefusesInput queues message busy replies (Memory back) =
    (queued_input_needs queues message busy replies ≤ queues.limit) × (back ≡ message)
