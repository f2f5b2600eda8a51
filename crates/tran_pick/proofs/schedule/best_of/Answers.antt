use Rattle.std.proofs.Common.{subst, sym}
use Rattle.std.specs.Option.{IfSome}
use Rattle.std.specs.Slice.Iter.{iter_rest}
use Rattle.std.specs.Iterator.Adapters.{zip_first, zip_second}
use Rattle.std.proofs.lemmas.Slice.Zip.{Zip-more, either_empty_from_Zip}
use Rattle.tran_pick.proofs.Better.{best_more, best_all}
use Rattle.tran_pick.proofs.Found.{better_keeps}
use Rattle.tran_pick.specs.RegionPick.{IsFirstFree, offered_in}
use Rattle.tran_pick.proofs.schedule.best_of.Goals as goal

pub loop-code-preserved : goal.loop-code-preserved
loop-code-preserved c =
    let m = Zip-more c.loop-code.code-iterator c.next.new.self c.next.result (c.in-Some.code, c.in-Some.state) c.in-Some.is c.next.ensures.steps in (
      best_more (offered_in c.args.queues.now.queued) c.args.class _ c.loop-code.best c.candidate_of.result c.better-best.result _ _ _ _ c.in-Some.code.now c.in-Some.state.now
          c.loop-code.invariant.0 m.0 m.1 c.candidate_of.ensures.value c.better-best.ensures,
      subst (λ found. IfSome found (λ one. IsFirstFree c.args.queues.now.queued one.code one.id)) (sym c.better-best.ensures)
          (better_keeps (λ one. IsFirstFree c.args.queues.now.queued one.code one.id) c.loop-code.best c.candidate_of.result c.loop-code.invariant.1 c.candidate_of.ensures.free),
    )

pub returns-clause-value : goal.returns-clause-value
returns-clause-value c =
    best_all (offered_in c.args.queues.now.queued) c.args.class _ c.loop-code.best (iter_rest (zip_first c.loop-code.code-iterator)) (iter_rest (zip_second c.loop-code.code-iterator))
    c.loop-code.invariant.0 (either_empty_from_Zip c.loop-code.code-iterator c.next.new.self c.next.result c.in-None.is c.next.ensures.steps)
