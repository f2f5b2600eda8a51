use Rattle.std.proofs.Common.{arith, sym, ◌∙◌, ap, subst}
use Rattle.tm_disk.specs.Disk.{MayHaveWritten, HasWritten, one_less}
use Rattle.tm_disk.specs.Contents.{contents_now, past_of, ContentsGoOn, StaysAt}
use Rattle.tm_disk.specs.Moments.{after_write}
use Rattle.tm_disk.specs.Count.{raised}
use Rattle.tm_disk.specs.Plan.{faulted, starved, plan_cuts}
use Rattle.tm_disk.specs.MemState.{mem_state}
use Rattle.tm_disk.specs.Written.{Written}
use Rattle.tm_disk.specs.declared.plan.Plan.{Plan}
use Rattle.tm_disk.proofs.States.{write_tries, write_does, write_missed, write_starved, raised_more, at_ok, at_err}
use Rattle.tm_disk.proofs.mem_disk.MemDiskDisk.write.Goals as goal

pub returns-then-fails-clause-tried : goal.returns-then-fails-clause-tried
returns-then-fails-clause-tried c =
    let old = c.args.self.now in
    let write : Written = record { at = c.args.at; content = c.args.from.now; before = old.contents.pending } in
    let goes = at_ok c.write.result (ContentsGoOn old.contents c.write.new.self (after_write write (contents_now old.contents))) (sym c.is_err.ensures.value ∙ c.if-is_err.false) c.write.ensures.ok in
    let K : Plan → Type 0 = λ p. MayHaveWritten c.args.at c.args.from.now (mem_state (contents_now old.contents) (past_of old.contents) old.plan.faults old.plan.writes old.plan.until_stop (plan_cuts old.plan)) (mem_state (contents_now c.write.new.self) (past_of c.write.new.self) p.faults p.writes p.until_stop (plan_cuts p)) in
    subst K (sym (c.fault-then-fails.ensures ∙ ap faulted c.tell-fails.ensures.counted))
    (write_tries old.contents c.write.new.self write old.plan.faults (raised old.plan.faults) old.plan.writes old.plan.until_stop (plan_cuts old.plan) (raised_more old.plan.faults) goes)

pub returns-clause-tried : goal.returns-clause-tried
returns-clause-tried c =
    let old = c.args.self.now in
    let write : Written = record { at = c.args.at; content = c.args.from.now; before = old.contents.pending } in
    let goes = at_ok c.write.result (ContentsGoOn old.contents c.write.new.self (after_write write (contents_now old.contents))) (sym c.is_err.ensures.value ∙ c.if-is_err.false) c.write.ensures.ok in
    let K : Plan → Type 0 = λ p. MayHaveWritten c.args.at c.args.from.now (mem_state (contents_now old.contents) (past_of old.contents) old.plan.faults old.plan.writes old.plan.until_stop (plan_cuts old.plan)) (mem_state (contents_now c.write.new.self) (past_of c.write.new.self) p.faults p.writes p.until_stop (plan_cuts p)) in
    subst K (sym c.tell-fails.ensures.counted)
    (write_tries old.contents c.write.new.self write old.plan.faults old.plan.faults old.plan.writes old.plan.until_stop (plan_cuts old.plan) (omega arith) goes)

pub returns-clause-done : goal.returns-clause-done
returns-clause-done c =
    let old = c.args.self.now in
    let write : Written = record { at = c.args.at; content = c.args.from.now; before = old.contents.pending } in
    let goes = at_ok c.write.result (ContentsGoOn old.contents c.write.new.self (after_write write (contents_now old.contents))) (sym c.is_err.ensures.value ∙ c.if-is_err.false) c.write.ensures.ok in
    let K : Plan → Type 0 = λ p. HasWritten c.args.at c.args.from.now (mem_state (contents_now old.contents) (past_of old.contents) old.plan.faults old.plan.writes old.plan.until_stop (plan_cuts old.plan)) (mem_state (contents_now c.write.new.self) (past_of c.write.new.self) p.faults p.writes p.until_stop (plan_cuts p)) in
    subst K (sym c.tell-fails.ensures.counted)
    (write_does old.contents c.write.new.self write old.plan.faults old.plan.faults old.plan.writes old.plan.until_stop (one_less old.plan.until_stop) (plan_cuts old.plan) c.requires goes)

pub returns-then-stopped-clause-tried : goal.returns-then-stopped-clause-tried
returns-then-stopped-clause-tried c =
    let old = c.args.self.now in
    let K : Plan → Type 0 = λ p. MayHaveWritten c.args.at c.args.from.now (mem_state (contents_now old.contents) (past_of old.contents) old.plan.faults old.plan.writes old.plan.until_stop (plan_cuts old.plan)) (mem_state (contents_now old.contents) (past_of old.contents) p.faults p.writes p.until_stop (plan_cuts p)) in
    subst K (sym (c.fault.ensures ∙ ap faulted c.tell-fails.ensures.counted))
    (write_missed old.contents c.args.at c.args.from.now old.plan.faults (raised old.plan.faults) old.plan.writes old.plan.until_stop (plan_cuts old.plan) (raised_more old.plan.faults))

pub returns-then-is_err-clause-tried : goal.returns-then-is_err-clause-tried
returns-then-is_err-clause-tried c =
    let old = c.args.self.now in
    let same = at_err c.write.result (StaysAt old.contents c.write.new.self) (sym c.is_err.ensures.value ∙ c.if-is_err.true) c.write.ensures.err in
    let K : Plan → Type 0 = λ p. MayHaveWritten c.args.at c.args.from.now (mem_state (contents_now old.contents) (past_of old.contents) old.plan.faults old.plan.writes old.plan.until_stop (plan_cuts old.plan)) (mem_state (contents_now c.write.new.self) (past_of c.write.new.self) p.faults p.writes p.until_stop (plan_cuts p)) in
    subst K (sym (c.starve.ensures ∙ ap starved c.tell-fails.ensures.counted))
    (write_starved old.contents c.write.new.self c.args.at c.args.from.now old.plan.faults (raised old.plan.faults) old.plan.writes old.plan.until_stop (plan_cuts old.plan) (raised_more old.plan.faults) same)
