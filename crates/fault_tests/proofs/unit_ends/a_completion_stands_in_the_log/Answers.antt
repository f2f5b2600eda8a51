use Rattle.std.proofs.Common.{ap, ◌∙◌}
use Rattle.tm_disk.specs.MemDisk.{mem_disk_state}
use Rattle.log_writer.specs.Writer.{Writer}
use Rattle.log_writer.proofs.Starting.{ready-zeros}
use Rattle.fault_tests.proofs.unit_ends.a_completion_stands_in_the_log.Goals as goal

pub force-requires-clause-ready : goal.force-requires-clause-ready
force-requires-clause-ready g c =
    let place = ap (λ (w : Writer). w.place) c.in_ok-commit.ensures.ok ∙ ap (λ (w : Writer). w.place) c.new-log.ensures in
    ready-zeros c.commit.new.log (mem_disk_state c.in_ok-disk.disk) 8 place c.in_ok-disk.ensures.zeros c.in_ok-disk.ensures.synced
