-- Acknowledgements.
use Rattle.std.specs.Prelude.{ℕ, ◌==◌, nat_lt, ◌&&◌, if◌then◌else◌, List, Result, Ok, Err, slice_get}
use Rattle.std.specs.Option.{is_some}
use Rattle.model_messages.specs.declared.replies.TerminalReplies.{TerminalReplies}
use Rattle.model_messages.specs.Outputs.{first_number, with_terminal, without_first}
use Rattle.out_queues.specs.declared.outputs.Acked.{Acked}
use Rattle.out_queues.specs.declared.outputs.Acked.TheVariants.{Removed, Already}
use Rattle.out_queues.specs.declared.outputs.AckAhead.{AckAhead}

-- What is below the first number was acknowledged before. The first one is removed where it is
-- kept. All else is refused with the first number.
abbrev pub replies_ack_answer : TerminalReplies → ℕ → Result Acked AckAhead
replies_ack_answer t number =
    if nat_lt number (first_number t) then Ok Already
    else if (number == first_number t) && is_some (slice_get t.replies 0) then Ok Removed
    else Err (record { first = first_number t })

-- what an acknowledgement leaves: the terminal without its first reply, or all as it was
abbrev pub left_by_acknowledgement : Acked → List ℕ → List TerminalReplies → List TerminalReplies
left_by_acknowledgement Removed name outputs = with_terminal name without_first outputs
left_by_acknowledgement Already name outputs = outputs
