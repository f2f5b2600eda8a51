-- what was read, asked of the control region
use Rattle.std.proofs.Common.{◌≡◌, sym, ◌∙◌, ap, subst}
use Rattle.model_session.specs.Lines.{asked_of}
use Rattle.session_lives.specs.AskedControl.{IsAsked, StaysBy, pick_by}
use Rattle.session_lives.proofs.Blocks.{stays_unread, undone_unread}
use Rattle.session_lives.proofs.Picks.{pick_undone}
use Rattle.session_lives.proofs.serve.ask_block.Goals as goal

pub returns-in_default-clause-asked : goal.returns-in_default-clause-asked
returns-in_default-clause-asked g c = undone_unread g.D.Disk.state c.args.control.now (asked_of c.args.control.now.control.system c.args.block.now) c.requires.up

pub returns-in_default-clause-stays : goal.returns-in_default-clause-stays
returns-in_default-clause-stays g c = stays_unread g.D.Disk.state c.args.control.now (asked_of c.args.control.now.control.system c.args.block.now)

pub returns-clause-asked : goal.returns-clause-asked
returns-clause-asked g c =
    let is : c.in-Ok.asked ≡ asked_of c.args.control.now.control.system c.args.block.now = c.in-Ok.ensures.asked ∙ ap (λ s. asked_of s c.args.block.now) c.system.ensures in
    subst (λ a. IsAsked g.D.Disk.state a c.args.control.now c.ask.new.control c.ask.new.printed.text c.ask.result) is c.ask.ensures.asked

pub returns-clause-stays : goal.returns-clause-stays
returns-clause-stays g c =
    let is : c.in-Ok.asked ≡ asked_of c.args.control.now.control.system c.args.block.now = c.in-Ok.ensures.asked ∙ ap (λ s. asked_of s c.args.block.now) c.system.ensures in
    subst (λ a. StaysBy g.D.Disk.state a c.ask.result c.args.control.now c.ask.new.control) is c.ask.ensures.stays

pub returns-clause-picks : goal.returns-clause-picks
returns-clause-picks g c =
    let is : c.in-Ok.asked ≡ asked_of c.args.control.now.control.system c.args.block.now = c.in-Ok.ensures.asked ∙ ap (λ s. asked_of s c.args.block.now) c.system.ensures in
    subst (λ a. c.ask.new.picked ≡ pick_by a c.ask.result (g.D.Disk.state c.args.control.now.disk).can_arm c.args.picked.now) is c.ask.ensures.picks

pub returns-in_default-clause-picks : goal.returns-in_default-clause-picks
returns-in_default-clause-picks g c =
    sym (pick_undone (asked_of c.args.control.now.control.system c.args.block.now) (g.D.Disk.state c.args.control.now.disk).can_arm c.args.picked.now)
