use Rattle.logged_machine.proofs.Begun.{begins_on}
use Rattle.logged_machine.proofs.looking.look.Goals as goal

pub returns-in-Found-clause-begins : goal.returns-in-Found-clause-begins
returns-in-Found-clause-begins g c =
    begins_on c.args.system.now c.args.text.now (g.D.Disk.state c.args.disk.now) (g.D.Disk.state c.recover.new.disk) c.recover.result c.recover.ensures.size c.recover.ensures.stays.size c.recover.ensures.parts c.recover.ensures.begins
    c.recover.ensures.done c.recover.ensures.stored

pub returns-in-Cold-clause-begins : goal.returns-in-Cold-clause-begins
returns-in-Cold-clause-begins g c =
    begins_on c.args.system.now c.args.text.now (g.D.Disk.state c.args.disk.now) (g.D.Disk.state c.cold.new.disk) c.cold.result c.cold.ensures.size c.cold.ensures.stays.size c.cold.ensures.parts c.cold.ensures.begins
    c.cold.ensures.done c.cold.ensures.stored
