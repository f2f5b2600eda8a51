-- What is printed where a terminal is shown a reply.
use Rattle.std.proofs.Common.{◌≡◌, ℕ, Bool, true, false, List, [], ◌∙◌, ap, Bor}
use Rattle.std.specs.Prelude.{Option, Some, None, slice_get, if◌then◌else◌}
use Rattle.std.specs.Option.{option_map_or, option_and_then}
use Rattle.tm_types.specs.declared.message.Reply.{Reply}
use Rattle.model_system.specs.System.{System}
use Rattle.model_system.specs.SystemFormats.{format_of}
use Rattle.model_messages.specs.declared.replies.TerminalReplies.{TerminalReplies}
use Rattle.model_machine.specs.declared.lasting.TerminalState.{TerminalState}
use Rattle.model_machine.specs.declared.entry.ShowAnswer.TheVariants.{Reply as Showed, Empty, Stopped}
use Rattle.model_machine.specs.Machine.{Moment, terminal_at, output_at}
use Rattle.model_machine.specs.MachineCalls.{show_by, show_to, show_answer}
use Rattle.model_session.specs.Text.{show_text, shown_text}
use Rattle.lasting_state.specs.declared.shown.Shown.TheVariants.{Reply as ShownReply}
use Rattle.lasting_state.specs.ShownTerminal.{IsShownTo, IsShownWhere}

-- the first reply, under its number
abbrev first_of : Option TerminalReplies → Option Reply
first_of output = option_and_then (λ found. slice_get found.replies 0) output

first_where : (stopped : Bool) (output : Option TerminalReplies) (reply : Bor Reply) → IsShownWhere stopped output (ShownReply reply)
    → ((if stopped then Stopped else show_by output) ≡ Showed reply.now.number) × (first_of output ≡ Some reply.now)
first_where true output reply shown = absurd shown
first_where false None reply shown = absurd shown
first_where false (Some output) reply shown = (ap (λ (r : Option Reply). option_map_or (λ reply. Showed reply.number) r Empty) shown, shown)

first_to : (terminal : Option TerminalState) (output : Option TerminalReplies) (reply : Bor Reply) → IsShownTo terminal output (ShownReply reply)
    → (show_to terminal output ≡ Showed reply.now.number) × (first_of output ≡ Some reply.now)
first_to None output reply shown = absurd shown
first_to (Some terminal) output reply shown = first_where terminal.stopped output reply shown

pub reply_shown : (system : System) (moment : Moment) (terminal : List ℕ) (reply : Bor Reply)
    → IsShownTo (terminal_at moment.lasting.terminals terminal) (output_at moment.lasting.outputs terminal) (ShownReply reply)
    → show_text system moment terminal (show_answer moment terminal) ≡ shown_text terminal (format_of system terminal) reply.now
reply_shown system moment terminal reply shown =
    let first = first_to (terminal_at moment.lasting.terminals terminal) (output_at moment.lasting.outputs terminal) reply shown in
    ap (show_text system moment terminal) first.0 ∙ ap (λ (r : Option Reply). option_map_or (shown_text terminal (format_of system terminal)) r []) first.1
