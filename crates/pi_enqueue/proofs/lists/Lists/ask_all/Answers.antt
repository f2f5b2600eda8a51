use Rattle.std.proofs.Common.{sym, subst, ◌∙◌}
use Rattle.std.specs.Option.{IfNone}
use Rattle.pi_enqueue.specs.Grants.{AreRequestsFree}
use Rattle.pi_enqueue.specs.Lists.{table_of_lists}
use Rattle.pi_enqueue.proofs.Asking.{told_none, left_free}
use Rattle.pi_enqueue.proofs.Served.{all_free, held_already}
use Rattle.pi_enqueue.proofs.lists.Lists.ask_all.Goals as goal

pub returns-then-course-clause-answer : goal.returns-then-course-clause-answer
returns-then-course-clause-answer c =
    let table = table_of_lists c.args.self.now in
    told_none c.args.region c.args.requests.now table table table c.requires.kept.kept c.requires.region c.requires.own
    (all_free c.args.requests.now table (c.course_of-course.ensures.held c.if-course.true))

pub returns-then-course-clause-ok : goal.returns-then-course-clause-ok
returns-then-course-clause-ok c =
    c.stop_waiting.ensures.seen
    ∙ sym (held_already c.args.region c.args.requests.now (table_of_lists c.args.self.now) c.requires.kept.kept.ascending c.requires.own (c.course_of-course.ensures.held c.if-course.true))

pub returns-in_ok-grant_all-in-None-clause-answer : goal.returns-in_ok-grant_all-in-None-clause-answer
returns-in_ok-grant_all-in-None-clause-answer c =
    told_none c.args.region c.args.requests.now (table_of_lists c.args.self.now) (table_of_lists c.grant_all.new.self) (table_of_lists c.stop_waiting-in-None.new.self) c.requires.kept.kept c.requires.region c.requires.own
    (subst (λ stop. IfNone stop (AreRequestsFree c.args.requests.now (table_of_lists c.args.self.now))) c.in-None.is c.course_of-course.ensures.none)

pub returns-in_ok-grant_all-in-None-clause-ok : goal.returns-in_ok-grant_all-in-None-clause-ok
returns-in_ok-grant_all-in-None-clause-ok c =
    left_free c.args.region c.args.requests.now (table_of_lists c.args.self.now) (table_of_lists c.grant_all.new.self) (table_of_lists c.stop_waiting-in-None.new.self) c.requires.kept.kept c.requires.region c.requires.own
    (subst (λ stop. IfNone stop (AreRequestsFree c.args.requests.now (table_of_lists c.args.self.now))) c.in-None.is c.course_of-course.ensures.none) c.in_ok-grant_all-in-None.ensures.ok c.stop_waiting-in-None.ensures.seen
