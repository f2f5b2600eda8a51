use Rattle.std.proofs.lemmas.Result.{on_err_weaker}
use Rattle.log_records.proofs.Kept.{failed, behind3, behind4}
use Rattle.log_records.proofs.encoding.put_reply.Goals as goal

pub returns-in_err-put_number8-2-clause-kept : goal.returns-in_err-put_number8-2-clause-kept
returns-in_err-put_number8-2-clause-kept c =
    failed c.from_residual-in_err-put_number8-2.result (behind3 _ _ _ c.args.out.now.items c.push.new.self.items c.put_number8.new.out.items c.put_name.new.out.items c.put_number8-2.new.out.items c.in_ok-push.ensures.items c.in_ok-put_number8.ensures.ok c.in_ok-put_name.ensures.ok c.in_err-put_number8-2.ensures.kept)

pub returns-clause-kept : goal.returns-clause-kept
returns-clause-kept c =
    on_err_weaker c.put_segments.result (behind4 _ _ _ _ c.args.out.now.items c.push.new.self.items c.put_number8.new.out.items c.put_name.new.out.items c.put_number8-2.new.out.items c.put_segments.new.out.items c.in_ok-push.ensures.items c.in_ok-put_number8.ensures.ok c.in_ok-put_name.ensures.ok c.in_ok-put_number8-2.ensures.ok) c.put_segments.ensures.kept
