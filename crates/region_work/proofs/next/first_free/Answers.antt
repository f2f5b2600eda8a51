use Rattle.std.proofs.Common.{sym, subst}
use Rattle.std.specs.Prelude.{IfSome}
use Rattle.tran_pick.specs.RegionPick.{IsFirstFree}
use Rattle.tran_pick.proofs.Found.{free_first}
use Rattle.region_work.proofs.next.first_free.Goals as goal

pub returns-clause-free : goal.returns-clause-free
returns-clause-free c =
    subst (λ found. IfSome found (λ id. IsFirstFree c.args.queues.now.queued c.args.code.now id)) (sym c.first_free.ensures.value)
    (free_first c.args.code.now c.args.queues.now.queued c.first_free.ensures.ordered)
