-- the machine stands, and the new entry says what it shows
use Rattle.std.proofs.Common.{◌∙◌, ap, arith, refl}
use Rattle.model_machine.specs.declared.entry.Entry.TheVariants.{Show}
use Rattle.tm_control.specs.ControlOnDisk.{ControlOnDisk}
use Rattle.tm_control.proofs.Going.{shown_holds}
use Rattle.tm_control.proofs.control.Control.receive.Goals as goal

pub invariant_of-self : goal.invariant_of-self
invariant_of-self g c = record {
  holds =
      shown_holds g.D.Disk.state c.self.inside.machine c.self.inside.opening c.self.inside.checkpoint c.self.inside.history.items c.push_reserved.new.self.items
      (Show c.args.terminal.now c.show_answer-answer.result) c.self.inside.steps
      (ap (λ (v : ControlOnDisk _). v.up) c.self.view_is ∙ c.requires.up) c.self.invariant.holds c.push_reserved.ensures.items c.show_answer-answer.ensures.answers refl tt;
  room = λ served. omega (arith, c.requires.room, ap (λ (v : ControlOnDisk _). v.control.room) c.self.view_is, c.push_reserved.ensures.len, c.push_reserved.ensures.capacity);
}
