-- States that break no rule but for what counts and takes room.
use Rattle.std.specs.Prelude.{◌≡◌, ◌==◌, ◌&&◌, Bool, true, not}
use Rattle.std.specs.List.{list_all}
use Rattle.model_system.specs.System.{System}
use Rattle.model_messages.specs.declared.replies.TerminalReplies.{TerminalReplies}
use Rattle.model_machine.specs.Machine.{LastingState}
use Rattle.model_image.specs.States.{is_setting, has_right_pad, ascend_below, is_message_known, are_alone, run_up_to}

-- a terminal's replies follow one another up to its next number, which isn't 0
abbrev pub is_run : TerminalReplies → Bool
is_run t = not (t.next == 0) && run_up_to t.next t.replies

-- all rules but those on what counts and takes room
pub record StandsLasting (system : System) (lasting : LastingState) : Type 0 where
  pub settings : list_all is_setting lasting.codes ≡ true
  pub pads : list_all (has_right_pad system) lasting.conversations ≡ true
  pub ascending : ascend_below lasting.next_id lasting.messages ≡ true
  pub known : list_all (is_message_known system lasting) lasting.messages ≡ true
  pub alone : are_alone lasting.messages ≡ true
  pub runs : list_all is_run lasting.outputs ≡ true
