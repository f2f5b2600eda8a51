-- States that break no rule, field by field.
use Rattle.std.specs.Prelude.{◌≡◌, true, false}
use Rattle.std.specs.List.{list_all}
use Rattle.model_system.specs.System.{System}
use Rattle.model_machine.specs.Machine.{LastingState}
use Rattle.model_image.specs.States.{is_small, is_next, is_setting, has_right_pad, ascend_below, is_message_known, are_alone, run_up_to, over_full}

-- what counts is in its range, and messages and replies have room
pub record FitsRanges (system : System) (lasting : LastingState) : Type 0 where
  pub id : is_next lasting.next_id ≡ true
  pub counted : is_small lasting.steps ≡ true
  pub inputs : list_all (λ terminal. is_small terminal.last) lasting.terminals ≡ true
  pub numbers : list_all (λ terminal. is_next terminal.next) lasting.outputs ≡ true
  pub room : over_full system lasting ≡ false

-- All rules of a state: what counts and takes room, the settings of the codes, the pads, and that the ids ascend, that
-- messages are known, one at most of each conversation, and that the numbers of replies follow one another.
pub record IsSound (system : System) (lasting : LastingState) : Type 0 where
  pub fits : FitsRanges system lasting
  pub settings : list_all is_setting lasting.codes ≡ true
  pub pads : list_all (has_right_pad system) lasting.conversations ≡ true
  pub ascending : ascend_below lasting.next_id lasting.messages ≡ true
  pub known : list_all (is_message_known system lasting) lasting.messages ≡ true
  pub alone : are_alone lasting.messages ≡ true
  pub runs : list_all (λ terminal. run_up_to terminal.next terminal.replies) lasting.outputs ≡ true
