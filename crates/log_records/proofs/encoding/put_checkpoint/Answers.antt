use Rattle.std.proofs.lemmas.Result.{on_err_weaker}
use Rattle.log_records.proofs.Kept.{failed, behind2, behind3, behind4}
use Rattle.log_records.proofs.encoding.put_checkpoint.Goals as goal

pub returns-in_err-put_number8-2-clause-kept : goal.returns-in_err-put_number8-2-clause-kept
returns-in_err-put_number8-2-clause-kept c =
    failed c.from_residual-in_err-put_number8-2.result (behind2 _ _ c.args.out.now.items c.extend_from_slice.new.self.items c.put_number8.new.out.items c.put_number8-2.new.out.items c.in_ok-extend_from_slice.ensures.items c.in_ok-put_number8.ensures.ok c.in_err-put_number8-2.ensures.kept)

pub returns-in_err-put_number8-3-clause-kept : goal.returns-in_err-put_number8-3-clause-kept
returns-in_err-put_number8-3-clause-kept c =
    failed c.from_residual-in_err-put_number8-3.result (behind3 _ _ _ c.args.out.now.items c.extend_from_slice.new.self.items c.put_number8.new.out.items c.put_number8-2.new.out.items c.put_number8-3.new.out.items c.in_ok-extend_from_slice.ensures.items c.in_ok-put_number8.ensures.ok c.in_ok-put_number8-2.ensures.ok c.in_err-put_number8-3.ensures.kept)

pub returns-clause-kept : goal.returns-clause-kept
returns-clause-kept c =
    on_err_weaker c.put_number8-4.result (behind4 _ _ _ _ c.args.out.now.items c.extend_from_slice.new.self.items c.put_number8.new.out.items c.put_number8-2.new.out.items c.put_number8-3.new.out.items c.put_number8-4.new.out.items c.in_ok-extend_from_slice.ensures.items c.in_ok-put_number8.ensures.ok c.in_ok-put_number8-2.ensures.ok c.in_ok-put_number8-3.ensures.ok) c.put_number8-4.ensures.kept
