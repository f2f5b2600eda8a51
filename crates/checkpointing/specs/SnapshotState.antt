-- The state that a snapshot is made of, but for its rows, which stand in the data sectors.
use Rattle.std.specs.Prelude.{[], map}
use Rattle.model_messages.specs.Queue.{messages_of}
use Rattle.model_machine.specs.Machine.{LastingState, setting_of}
use Rattle.checkpointing.specs.declared.writing.SnapshotView.{SnapshotView}

abbrev pub snapshot_state_of : SnapshotView → LastingState
snapshot_state_of view = record {
  rows = [];
  messages = messages_of view.queues.now.queued;
  next_id = view.next_id;
  terminals = view.terminals.now;
  outputs = view.outputs.now;
  conversations = view.conversations.now;
  codes = map setting_of view.codes.now;
  steps = view.steps;
}
