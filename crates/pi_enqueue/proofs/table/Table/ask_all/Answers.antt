use Rattle.std.proofs.Common.{sym, subst}
use Rattle.model_data.specs.Cycle.{IsTableRegion}
use Rattle.pi_enqueue.proofs.Asking.{kept_asked}
use Rattle.pi_enqueue.proofs.table.Table.ask_all.Goals as goal

pub invariant_of-self : goal.invariant_of-self
invariant_of-self c =
    kept_asked c.args.region c.args.requests.now c.self.inside.lists c.ask_all.new.self c.self.invariant (subst (λ t. IsTableRegion t c.args.region) (sym c.self.view_is) c.requires.region)
    c.requires.own c.ask_all.result c.ask_all.ensures.ok c.ask_all.ensures.err c.ask_all.ensures.listed c.ask_all.ensures.all

pub returns-clause-kept : goal.returns-clause-kept
returns-clause-kept c = (invariant_of-self c).kept
