use Rattle.std.proofs.Common.{arith}
use Rattle.log_records.proofs.Kept.{both, failed, more, same}
use Rattle.lasting_state.proofs.Counted.{put_more, valid_more}
use Rattle.lasting_state.proofs.outputs.put_outputs.Goals as goal

pub loop-place-preserved : goal.loop-place-preserved
loop-place-preserved c =
    let put =
    put_more c.args.unit c.args.origin.now c.args.terminals.now c.args.outputs.now.items c.loop-place.place c.loop-place.id c.in_ok-id.id c.count_to-earlier.result c.index-output.result.now
    c.loop-place.bytes.items c.put_output.new.bytes.items _ (search arith) (search arith) c.loop-place.invariant.0 c.loop-place.invariant.1 c.count_to-earlier.ensures c.in_ok-id.ensures.ok c.in_ok-id.ensures.next in (
      put.0,
      put.1,
      valid_more c.args.unit c.args.origin.now c.args.terminals.now c.args.outputs.now.items c.loop-place.place c.loop-place.id c.in_ok-id.id c.count_to-earlier.result c.index-output.result.now
          _ (search arith) (search arith) c.loop-place.invariant.2 c.count_to-earlier.ensures c.in_ok-id.ensures.valid c.in_ok-id.ensures.next,
      more _ c.args.bytes.now.items c.loop-place.bytes.items c.put_output.new.bytes.items c.loop-place.invariant.3 c.in_ok-id.ensures.ok,
    )

pub returns-in_err-id-clause-kept : goal.returns-in_err-id-clause-kept
returns-in_err-id-clause-kept c =
    failed c.from_residual.result
    (both c.args.bytes.now.items c.loop-place.bytes.items c.put_output.new.bytes.items c.loop-place.invariant.3 (same c.loop-place.bytes.items c.put_output.new.bytes.items c.in_err-id.ensures.unwritten))
