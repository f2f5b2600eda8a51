use Rattle.std.proofs.Common.{sym, subst, length, ◌+◌}
use Rattle.tm_disk.specs.Disk.{WritesAtMost}
use Rattle.log_writer.specs.ForcedLog.{log_sectors_of}
use Rattle.restart_data.specs.Snapshot as snapshot
use Rattle.seg_store.specs.WrittenSlots.{changed_sectors}
use Rattle.model_system.specs.System.{System}
use Rattle.seg_store.specs.ChangedSlots.{AllStores}
use Rattle.program_rows.specs.SlotsState.{slots_stores}
use Rattle.tm_machine.specs.SlotChanges.{slots_now}
use Rattle.journal.specs.CheckpointFor.{CanCheckpoint}
use Rattle.logged_machine.proofs.Taken.{goes_on, most}
use Rattle.logged_machine.proofs.writing.take.Goals as goal

pub checkpoint-requires : goal.checkpoint-requires
checkpoint-requires g c = record {
  can =
      subst (λ (a : AllStores). CanCheckpoint c.system.result.now c.args.journal.now a c.args.bytes.now (g.D.Disk.state c.args.disk.now)) (sym c.stores.ensures.value)
      (subst (λ (y : System). CanCheckpoint y c.args.journal.now (slots_stores (slots_now c.args.parts.now)) c.args.bytes.now (g.D.Disk.state c.args.disk.now)) (sym c.system.ensures) c.requires.can);
}

pub returns-clause-logged : goal.returns-clause-logged
returns-clause-logged g c = λ text units next states h counted s.
    goes_on c.args.parts.now units next c.args.journal.now text states (g.D.Disk.state c.args.disk.now) h c.stores.ensures.has counted c.args.bytes.now s c.system.result.now c.system.ensures c.stores.result.now c.stores.ensures.value
    c.settle.new.self c.settle.ensures c.checkpoint.new.self c.in_ok-checkpoint.ensures.log c.in_ok-checkpoint.ensures.restart (g.D.Disk.state c.checkpoint.new.disk) c.in_ok-checkpoint.ensures.kept
    c.in_ok-checkpoint.ensures.ready c.in_ok-checkpoint.ensures.stays.size c.in_ok-checkpoint.ensures.done

pub returns-clause-writes : goal.returns-clause-writes
returns-clause-writes g c =
    most c.args.parts.now.system c.args.journal.now (slots_stores (slots_now c.args.parts.now)) c.args.bytes.now (g.D.Disk.state c.args.disk.now) (g.D.Disk.state c.checkpoint.new.disk) c.requires.can
    (subst (λ (a : AllStores). WritesAtMost (log_sectors_of (length c.args.journal.now.log.appended) + changed_sectors a.stores a.changed + snapshot.snapshot_sectors_of (length c.args.bytes.now) + 1) (g.D.Disk.state c.args.disk.now) (g.D.Disk.state c.checkpoint.new.disk))
    c.stores.ensures.value c.checkpoint.ensures.writes)
