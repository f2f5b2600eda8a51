-- the reply that the machine shows
use Rattle.std.proofs.Common.{◌≡◌, ◌++◌, List, ℕ, sym, ◌∙◌, ap, subst}
use Rattle.std.specs.Prelude.{OnOk}
use Rattle.model_machine.specs.History.{control_moment}
use Rattle.model_system.specs.SystemFormats.{format_of}
use Rattle.model_session.specs.Text.{shown_text}
use Rattle.session_lives.proofs.Replies.{reply_shown}
use Rattle.session_lives.proofs.asking.print_showing.Goals as goal

pub returns-in-Reply : goal.returns-in-Reply
returns-in-Reply g c =
    let same : shown_text c.args.terminal.now (format_of c.system.result.now c.args.terminal.now) c.in-Reply.reply.now ≡ shown_text c.args.terminal.now (format_of c.args.control.now.control.system c.args.terminal.now) c.in-Reply.reply.now =
    ap (λ s. shown_text c.args.terminal.now (format_of s c.args.terminal.now) c.in-Reply.reply.now) c.system.ensures in
    let text = sym (reply_shown c.args.control.now.control.system (control_moment c.args.control.now.control) c.args.terminal.now c.in-Reply.reply c.in-Reply.ensures) in
    subst (λ (t : List ℕ). OnOk c.print_reply.result (c.print_reply.new.printed.text ≡ c.args.printed.now.text ++ t)) (same ∙ text) c.print_reply.ensures
