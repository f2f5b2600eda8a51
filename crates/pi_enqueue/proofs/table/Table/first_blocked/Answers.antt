use Rattle.std.proofs.Common.{sym, ap, subst, ◌∙◌}
use Rattle.std.specs.Option.{option_map}
use Rattle.model_data.specs.EnqueueRequests.{first_blocked}
use Rattle.model_data.specs.Cycle.{IsTableRegion}
use Rattle.pi_enqueue.specs.Lists.{table_of_lists}
use Rattle.pi_enqueue.specs.Grants.{blocked_told}
use Rattle.pi_enqueue.proofs.Asking.{told_is, told_none}
use Rattle.pi_enqueue.proofs.table.Table.first_blocked.Goals as goal

pub returns-in-Some : goal.returns-in-Some
returns-in-Some c =
    let table = table_of_lists c.self.inside.lists in
    told_is c.args.region c.args.requests.now table table table table c.self.invariant.kept (subst (λ t. IsTableRegion t c.args.region) (sym c.self.view_is) c.requires.region) c.requires.own
    c.in-Some.stop.place c.index-requests-stop.result c.in-Some.stop.by c.index-requests-stop.is c.in-Some.ensures.before c.in-Some.ensures.here c.told.result c.told.ensures
    ∙ ap (λ t. option_map blocked_told (first_blocked c.args.requests.now t)) c.self.view_is

pub returns-in-None : goal.returns-in-None
returns-in-None c =
    let table = table_of_lists c.self.inside.lists in
    told_none c.args.region c.args.requests.now table table table c.self.invariant.kept (subst (λ t. IsTableRegion t c.args.region) (sym c.self.view_is) c.requires.region) c.requires.own
    c.in-None.ensures.none
    ∙ ap (λ t. option_map blocked_told (first_blocked c.args.requests.now t)) c.self.view_is
