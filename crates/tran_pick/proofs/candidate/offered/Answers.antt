use Rattle.std.proofs.Common.{sym, subst}
use Rattle.std.specs.Option.{IfSome}
use Rattle.tran_pick.specs.RegionPick.{IsFirstFree}
use Rattle.tran_pick.proofs.Found.{free_first}
use Rattle.tran_pick.proofs.candidate.offered.Goals as goal

pub returns-clause-free : goal.returns-clause-free
returns-clause-free c =
    let code = c.args.code.now.transaction.code in
    subst (λ found. IfSome found (λ id. IsFirstFree c.args.queues.now.queued code id)) (sym c.first_free.ensures.value)
    (free_first code c.args.queues.now.queued c.first_free.ensures.ordered)
