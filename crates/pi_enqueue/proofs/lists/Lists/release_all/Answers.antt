use Rattle.pi_enqueue.proofs.Holding.{released_listed}
use Rattle.pi_enqueue.proofs.lists.Lists.release_all.Goals as goal

pub returns-clause-listed : goal.returns-clause-listed
returns-clause-listed c =
    released_listed c.args.self.now.regions c.args.region c.args.self.now.held.items c.stop_waiting.new.self.held.items c.release.new.list c.args.self.now.holds.entries
    c.stop_waiting.new.self.holds.entries c.release.new.holds.entries c.requires.first c.requires.small c.requires.listed c.stop_waiting.ensures.held c.stop_waiting.ensures.holds
    c.release.ensures.holds
