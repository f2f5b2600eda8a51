-- The room that messages, replies and busy regions take.
use Rattle.std.specs.Prelude.{ℕ, ◌+◌, ◌*◌, max, List, sum_by}
use Rattle.tm_types.specs.Segment.{counted_bytes}
use Rattle.tm_types.specs.declared.message.Message.{Message}
use Rattle.tm_types.specs.declared.message.Reply.{Reply}

-- the bytes that a message counts: 48 plus the LLs of its segments
abbrev pub message_bytes : Message → ℕ
message_bytes message = counted_bytes message.segments

-- the bytes of all these messages
abbrev pub messages_bytes : List Message → ℕ
messages_bytes messages = sum_by message_bytes messages

-- the bytes that a reply counts: 48 plus the LLs of its segments
abbrev pub reply_bytes : Reply → ℕ
reply_bytes reply = counted_bytes reply.segments

-- the bytes of all these replies
abbrev pub replies_bytes : List Reply → ℕ
replies_bytes replies = sum_by reply_bytes replies

-- the room of one busy region, for what it may still send
abbrev pub slot_room : ℕ
slot_room = 65536

-- what an input of these bytes needs, where content is what all messages and replies count: room
-- is left for each busy region, and at least for one
abbrev pub input_needs : (content bytes busy : ℕ) → ℕ
input_needs content bytes busy = content + bytes + slot_room * max 1 busy

-- what one more busy region needs
abbrev pub slot_needs : (content busy : ℕ) → ℕ
slot_needs content busy = content + slot_room * (busy + 1)
