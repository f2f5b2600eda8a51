use Rattle.std.proofs.Common.{ap}
use Rattle.tm_disk.specs.Contents.{contents_now}
use Rattle.tm_disk.specs.Moments.{DiskMoment}
use Rattle.tm_disk.proofs.States.{alone}
use Rattle.tm_disk.proofs.mem_disk.MemDisk.new.Goals as goal

pub returns-clause-synced : goal.returns-clause-synced
returns-clause-synced c = alone (contents_now c.in_ok-new.field-0) (ap (λ (m : DiskMoment). m.since) c.in_ok-new.ensures.now)
