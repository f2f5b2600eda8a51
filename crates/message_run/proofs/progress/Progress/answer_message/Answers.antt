use Rattle.message_run.proofs.NextTold.{few_sectors, rolled_stands}
use Rattle.message_run.proofs.progress.Progress.answer_message.Goals as goal

pub answer_rolb-requires-clause-sectors : goal.answer_rolb-requires-clause-sectors
answer_rolb-requires-clause-sectors c = few_sectors c.args.system.now c.args.databases.now.stores c.databases-databases.ensures.valid c.requires.databases

pub returns-in-ROLB-clause-standing : goal.returns-in-ROLB-clause-standing
returns-in-ROLB-clause-standing c =
    rolled_stands c.args.region c.args.databases.now c.answer_rolb.new.databases c.args.system.now.databases c.args._pcbs.now c.args.self.now c.answer_rolb.new.self c.answer_rolb.result c.answer_rolb.ensures.ok
    c.answer_rolb.ensures.err c.requires.standing
