-- A message that was ended, as it is lent.
use Rattle.model_messages.specs.declared.ended_message.EndedMessage.{EndedMessage}
use Rattle.io_pcb.specs.declared.output.Output.{Output}

-- what it lends
abbrev pub shown_output : Output → EndedMessage
shown_output output = record { to = output.to; segments = output.segments.now }
