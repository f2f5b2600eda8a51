use Rattle.std.proofs.Common.{sym, subst}
use Rattle.tm_disk.specs.Disk.{Keeps}
use Rattle.tm_disk.specs.Contents.{contents_now, past_of}
use Rattle.tm_disk.specs.Plan.{plan_cuts}
use Rattle.tm_disk.specs.MemState.{mem_state}
use Rattle.tm_disk.specs.declared.plan.Plan.{Plan}
use Rattle.tm_disk.proofs.States.{sync_keeps, sync_alone, sync_moment}
use Rattle.tm_disk.proofs.mem_disk.MemDiskDisk.sync.Goals as goal

pub returns-clause-synced : goal.returns-clause-synced
returns-clause-synced c = sync_alone c.args.self.now.contents c.sync.new.self c.sync.ensures.settles

pub returns-clause-keeps : goal.returns-clause-keeps
returns-clause-keeps c =
    let old = c.args.self.now in
    let K : Plan → Type 0 = λ p. Keeps (mem_state (contents_now old.contents) (past_of old.contents) old.plan.faults old.plan.writes old.plan.until_stop (plan_cuts old.plan)) (mem_state (contents_now c.sync.new.self) (past_of c.sync.new.self) p.faults p.writes p.until_stop (plan_cuts p)) in
    subst K (sym c.call.ensures.counted) (sync_keeps old.contents c.sync.new.self old.plan.faults old.plan.writes old.plan.until_stop (plan_cuts old.plan) c.sync.ensures.settles)

pub returns-clause-settled : goal.returns-clause-settled
returns-clause-settled c = sync_moment c.args.self.now.contents c.sync.new.self c.sync.ensures.settles
