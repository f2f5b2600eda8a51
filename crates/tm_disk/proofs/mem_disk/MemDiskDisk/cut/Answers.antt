use Rattle.std.proofs.Common.{sym, subst}
use Rattle.tm_disk.specs.Disk.{IsCut}
use Rattle.tm_disk.specs.Contents.{contents_now, past_of}
use Rattle.tm_disk.specs.Plan.{plan_cuts}
use Rattle.tm_disk.specs.MemState.{mem_state}
use Rattle.tm_disk.specs.declared.plan.Plan.{Plan}
use Rattle.tm_disk.proofs.States.{cut_cuts, cut_moment}
use Rattle.tm_disk.proofs.mem_disk.MemDiskDisk.cut.Goals as goal

pub returns-clause-cut : goal.returns-clause-cut
returns-clause-cut c =
    let old = c.args.self.now in
    let K : Plan → Type 0 = λ p. IsCut c.args.pick (mem_state (contents_now old.contents) (past_of old.contents) old.plan.faults old.plan.writes old.plan.until_stop (plan_cuts old.plan)) (mem_state (contents_now c.cut.new.self) (past_of c.cut.new.self) p.faults p.writes p.until_stop (plan_cuts p)) in
    subst K (sym c.cut_off.ensures) (cut_cuts old.contents c.cut.new.self old.plan.faults old.plan.writes c.args.pick old.plan.until_stop (plan_cuts old.plan) c.cut.ensures.settles)

pub returns-clause-picked : goal.returns-clause-picked
returns-clause-picked c = cut_moment c.args.self.now.contents c.cut.new.self c.args.pick c.cut.ensures.settles
