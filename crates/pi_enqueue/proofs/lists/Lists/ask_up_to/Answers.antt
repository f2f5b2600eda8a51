use Rattle.pi_enqueue.specs.Lists.{table_of_lists}
use Rattle.pi_enqueue.proofs.Asking.{told_is, left_is}
use Rattle.pi_enqueue.proofs.lists.Lists.ask_up_to.Goals as goal

pub returns-clause-answer : goal.returns-clause-answer
returns-clause-answer c =
    told_is c.args.region c.args.requests.now (table_of_lists c.args.self.now) (table_of_lists c.make_room.new.self) (table_of_lists c.grant_all.new.self) (table_of_lists c.wait_only_for.new.self) c.requires.kept.kept
    c.requires.region c.requires.own c.args.stop.place c.index-requests-stop.result c.args.stop.by c.index-requests-stop.is c.requires.before c.requires.here c.told.result c.told.ensures

pub returns-clause-ok : goal.returns-clause-ok
returns-clause-ok c =
    left_is c.args.region c.args.requests.now (table_of_lists c.args.self.now) (table_of_lists c.make_room.new.self) (table_of_lists c.grant_all.new.self) (table_of_lists c.wait_only_for.new.self) c.requires.kept.kept
    c.requires.region c.requires.own c.args.stop.place c.index-requests-stop.result c.args.stop.by c.index-requests-stop.is c.requires.before c.requires.here c.make_room.ensures.seen
    c.in_ok-grant_all.ensures.ok c.wait_only_for.ensures.seen
