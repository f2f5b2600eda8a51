use Rattle.std.proofs.Common.{ap}
use Rattle.image_records.specs.KeptState.{KeptState}
use Rattle.openings.proofs.Opened.{parts_are}
use Rattle.openings.proofs.making.parts_of.Goals as goal

pub returns-clause-are : goal.returns-clause-are
returns-clause-are c lasting is =
    parts_are c.args.system.now c.args.kept c.args.stores.items _ lasting is c.requires.databases c.requires.unchanged (ap (λ (k : KeptState). k.queues) c.kept.view_is) (ap (λ (k : KeptState). k.outputs) c.kept.view_is) (c.in_ok-codes.ensures lasting is)
    (ap (λ (k : KeptState). k.terminals) c.kept.view_is) (ap (λ (k : KeptState). k.conversations) c.kept.view_is) c.of.ensures (ap (λ (k : KeptState). k.next_id) c.kept.view_is) (ap (λ (k : KeptState). k.steps) c.kept.view_is)
