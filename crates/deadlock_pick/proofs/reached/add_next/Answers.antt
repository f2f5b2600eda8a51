use Rattle.std.proofs.Common.{sym, ◌∙◌}
use Rattle.deadlock_pick.proofs.Reaching.{has_room}
use Rattle.deadlock_pick.proofs.reached.add_next.Goals as goal

pub add-requires-clause-room : goal.add-requires-clause-room
add-requires-clause-room c =
    has_room c.args.table.now c.args.from c.args.next c.args.reaching.now c.requires.few c.requires.next c.requires.regions (sym c.comes.ensures ∙ c.if-comes.true)
