use Rattle.std.proofs.Common.{◌≡◌, List, sym, subst}
use Rattle.std.specs.List.{AllByRecursion}
use Rattle.model_data.specs.declared.request.Request.{Request}
use Rattle.program_rows.proofs.Blocking.{own_requests}
use Rattle.program_rows.proofs.asked.asked_for.Goals as goal

pub returns-clause-own : goal.returns-clause-own
returns-clause-own c =
    subst (λ (qs : List Request). AllByRecursion (λ (q : Request). q.region ≡ c.args.region) qs) (sym c.in_ok-requests.ensures) (own_requests c.args.region c.args.number c.args.needs.now)
