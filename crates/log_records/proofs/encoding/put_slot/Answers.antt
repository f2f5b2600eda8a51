use Rattle.std.proofs.lemmas.Result.{on_err_weaker}
use Rattle.log_records.proofs.Kept.{behind3}
use Rattle.log_records.proofs.encoding.put_slot.Goals as goal

pub returns-clause-kept : goal.returns-clause-kept
returns-clause-kept c =
    on_err_weaker c.put_number2.result (behind3 _ _ _ c.args.out.now.items c.push.new.self.items c.put_number8.new.out.items c.push-2.new.self.items c.put_number2.new.out.items c.in_ok-push.ensures.items c.in_ok-put_number8.ensures.ok c.in_ok-push-2.ensures.items) c.put_number2.ensures.kept
