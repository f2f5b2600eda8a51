-- Inputs as they are kept.
use Rattle.std.specs.Prelude.{ℕ, ◌==◌, Bool, List, Option, if◌then◌else◌}
use Rattle.tm_types.specs.Words.{operands}
use Rattle.model_messages.specs.declared.conversation.Conversation.{Conversation}
use Rattle.model_machine.specs.LastingSteps.{KeptInput}

-- an input that is kept with this code and flag, these segments, and the conversation that begins with it
abbrev pub kept_as : List ℕ → Bool → List (List ℕ) → Option Conversation → KeptInput
kept_as code conversation segments begins = record { code = code; conversation = conversation; segments = segments; begins = begins }

-- the segment at a place, without its first word where it is the first one
abbrev pub kept_at : ℕ → List ℕ → List ℕ
kept_at place segment = if place == 0 then operands segment else segment
