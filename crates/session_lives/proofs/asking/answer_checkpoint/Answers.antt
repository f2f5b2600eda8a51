-- by the checkpoint's answer
use Rattle.std.proofs.Common.{◌≡◌, rules, arith}
use Rattle.model_session.specs.Text.{checkpoint_text}
use Rattle.session_lives.proofs.Asked.{asked_checkpoint}
use Rattle.model_machine.specs.declared.entry.Entry.{Entry}
use Rattle.openings.specs.Faults.{fault_in}
use Rattle.session_lives.proofs.Counting.{pace_call}
use Rattle.model_machine.specs.declared.entry.Entry.TheVariants.{Checked}
use Rattle.session_lives.proofs.asking.answer_checkpoint.Goals as goal

pub returns-clause-asked : goal.returns-clause-asked
returns-clause-asked g c =
    let printed : c.checkpoint_line.new.out.text ≡ checkpoint_text c.args.freeze c.checkpoint-answer.result = search rules in
    asked_checkpoint g.D.Disk.state c.args.freeze c.checkpoint-answer.result c.args.control.now c.checkpoint-answer.new.self c.checkpoint_line.new.out.text c.checkpoint_called.result
    c.checkpoint_called.ensures c.requires.up c.is_up.ensures.lasts c.checkpoint-answer.ensures.spent c.checkpoint-answer.ensures.nothing c.checkpoint-answer.ensures.adds
    c.checkpoint-answer.ensures.forced c.checkpoint-answer.ensures.as_forced c.checkpoint-answer.ensures.taken (λ number taken. taken.synced)
    (λ number taken tells.
    let shown = taken.images (g.D.Disk.state c.checkpoint-answer.new.self.disk).shown ((g.met.D.Disk.is_disk c.checkpoint-answer.new.self.disk).shown_left tells) in
    record { restart = shown.restart; found = shown.found; number_is = shown.checkpoint }) printed

pub returns-clause-pace : goal.returns-clause-pace
returns-clause-pace g c =
    let entry : Entry = Checked c.args.freeze c.checkpoint-answer.result in
    pace_call g.D.Disk.state c.args.control.now.control.system.logs (fault_in entry) entry c.args.control.now c.checkpoint-answer.new.self (omega arith) c.requires.up (g.met.D.Disk.is_disk c.checkpoint-answer.new.self.disk) c.checkpoint-answer.ensures.stays
    c.checkpoint-answer.ensures.raises c.checkpoint-answer.ensures.counts c.checkpoint-answer.ensures.adds c.checkpoint-answer.ensures.nothing c.checkpoint-answer.ensures.undone
