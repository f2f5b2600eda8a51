use Rattle.logged_machine.proofs.Taken.{most}
use Rattle.logged_machine.proofs.told_checkpoints.write_told.Goals as goal

pub returns-clause-writes : goal.returns-clause-writes
returns-clause-writes g c =
    most c.args.system.now c.args.journal.now c.args.stores.now c.args.bytes.now (g.D.Disk.state c.args.disk.now) (g.D.Disk.state c.checkpoint.new.disk) c.requires.can c.checkpoint.ensures.writes
