-- The records of outputs, with numbers that are counted on over the outputs before.
use Rattle.std.specs.Prelude.{ℕ, ◌+◌, Bool, false, List, [], ◌∷◌, ◌++◌, if◌then◌else◌, count_by}
use Rattle.std.specs.Option.{is_some}
use Rattle.std.specs.Str.{bytes_eq}
use Rattle.model_messages.specs.declared.conversation.PadChange.{PadChange}
use Rattle.model_messages.specs.declared.replies.TerminalReplies.{TerminalReplies}
use Rattle.model_messages.specs.Outputs.{next_of, replies_at}
use Rattle.model_messages.specs.declared.ended_message.EndedMessage.{EndedMessage}
use Rattle.log_records.specs.declared.record.Record.{Record}
use Rattle.log_records.specs.declared.record.Record.TheVariants.{Input, Reply, Completed, SyncPoint}

abbrev pub goes_to : List ℕ → EndedMessage → Bool
goes_to name output = bytes_eq output.to name

-- an output before which so many went to the same name
abbrev pub counted_record : ℕ → List ℕ → ℕ → EndedMessage → List TerminalReplies → ℕ → Record
counted_record unit origin earlier output terminals next =
    if is_some (replies_at output.to terminals)
    then Reply unit output.to (next_of output.to terminals + earlier) output.segments
    else Input unit next origin output.to 0 false output.segments

-- the next id behind it
abbrev pub id_after : EndedMessage → List TerminalReplies → ℕ → ℕ
id_after output terminals next = if is_some (replies_at output.to terminals) then next else next + 1

-- the outputs that come, behind those that are done
abbrev pub counted_records : ℕ → List ℕ → List EndedMessage → List EndedMessage → List TerminalReplies → ℕ → List Record
counted_records unit origin done [] terminals next = []
counted_records unit origin done (output ∷ outputs) terminals next =
    counted_record unit origin (count_by (goes_to output.to) done) output terminals next
    ∷ counted_records unit origin (done ++ output ∷ []) outputs terminals (id_after output terminals next)

-- a completion: the outputs, that the message is completed, and the sync point
abbrev pub counted_completion : ℕ → List ℕ → ℕ → List EndedMessage → PadChange → List TerminalReplies → ℕ → List Record
counted_completion unit origin id outputs pad terminals next =
    counted_records unit origin [] outputs terminals next ++ Completed unit id ∷ SyncPoint unit pad ∷ []
