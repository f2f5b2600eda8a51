use Rattle.std.proofs.Common.{◌∙◌}
use Rattle.pi_enqueue.proofs.Asking.{one_asked}
use Rattle.pi_enqueue.proofs.table.Table.ask.Goals as goal

pub returns-in-Some-clause-ok : goal.returns-in-Some-clause-ok
returns-in-Some-clause-ok c =
    c.in_ok-blocked.ensures.ok ∙ one_asked (record { region = c.args.region; resource = c.args.resource; mode = c.args.mode }) c.args.self.now c.regions-regions.ensures.kept c.requires.waits

pub returns-in-None-clause-ok : goal.returns-in-None-clause-ok
returns-in-None-clause-ok c =
    c.in_ok-blocked.ensures.ok ∙ one_asked (record { region = c.args.region; resource = c.args.resource; mode = c.args.mode }) c.args.self.now c.regions-regions.ensures.kept c.requires.waits
