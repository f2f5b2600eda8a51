use Rattle.std.proofs.lemmas.Result.{on_err_weaker}
use Rattle.log_records.proofs.Kept.{failed, behind3, behind4, behind5}
use Rattle.log_records.proofs.encoding.put_input.Goals as goal

pub returns-in_err-put_number8-clause-kept : goal.returns-in_err-put_number8-clause-kept
returns-in_err-put_number8-clause-kept c =
    failed c.from_residual-in_err-put_number8.result (behind3 _ _ _ c.args.out.now.items c.push.new.self.items c.put_ids.new.out.items c.put_names.new.out.items c.put_number8.new.out.items c.in_ok-push.ensures.items c.in_ok-put_ids.ensures.ok c.in_ok-put_names.ensures.ok c.in_err-put_number8.ensures.kept)

pub returns-in_err-put_flag-clause-kept : goal.returns-in_err-put_flag-clause-kept
returns-in_err-put_flag-clause-kept c =
    failed c.from_residual-in_err-put_flag.result (behind4 _ _ _ _ c.args.out.now.items c.push.new.self.items c.put_ids.new.out.items c.put_names.new.out.items c.put_number8.new.out.items c.put_flag.new.out.items c.in_ok-push.ensures.items c.in_ok-put_ids.ensures.ok c.in_ok-put_names.ensures.ok c.in_ok-put_number8.ensures.ok c.in_err-put_flag.ensures.kept)

pub returns-clause-kept : goal.returns-clause-kept
returns-clause-kept c =
    on_err_weaker c.put_segments.result (behind5 _ _ _ _ _ c.args.out.now.items c.push.new.self.items c.put_ids.new.out.items c.put_names.new.out.items c.put_number8.new.out.items c.put_flag.new.out.items c.put_segments.new.out.items c.in_ok-push.ensures.items c.in_ok-put_ids.ensures.ok c.in_ok-put_names.ensures.ok c.in_ok-put_number8.ensures.ok c.in_ok-put_flag.ensures.ok) c.put_segments.ensures.kept
