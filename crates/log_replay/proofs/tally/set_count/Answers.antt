use Rattle.log_replay.proofs.Talks.{is_set}
use Rattle.log_replay.proofs.tally.set_count.Goals as goal

pub returns-in-Ok : goal.returns-in-Ok
returns-in-Ok c = is_set c.args.name.now c.args.count c.args.counts.now.entries c.insert.new.self.entries c.in-Ok.ensures.updates.0
