use Rattle.std.proofs.Common.{ap}
use Rattle.disk_law.specs.JournalState.{JournalState}
use Rattle.journal.proofs.Checkpointing.{asks_with}
use Rattle.journal.proofs.journal.Journal.checkpoint_forced.Goals as goal

pub take_checkpoint-requires-clause-named : goal.take_checkpoint-requires-clause-named
take_checkpoint-requires-clause-named g c =
    (asks_with c.args.system.now c.args.self.now c.self.inside.restart c.args.stores.now c.args.snapshot.now (g.D.Disk.state c.args.disk.now) c.requires.can
    (ap (λ (j : JournalState). j.restart) c.self.view_is)
    c.snapshot_first.result c.snapshot_area.result c.log_first.result c.logs.result
    (record { snapshot_at_is = c.snapshot_first.ensures.value; snapshot_sectors_are = c.snapshot_area.ensures.value; log_at_is = c.log_first.ensures.value; log_sectors_are = c.logs.ensures.value })).named

pub take_checkpoint-requires-clause-ahead : goal.take_checkpoint-requires-clause-ahead
take_checkpoint-requires-clause-ahead g c =
    (asks_with c.args.system.now c.args.self.now c.self.inside.restart c.args.stores.now c.args.snapshot.now (g.D.Disk.state c.args.disk.now) c.requires.can
    (ap (λ (j : JournalState). j.restart) c.self.view_is)
    c.snapshot_first.result c.snapshot_area.result c.log_first.result c.logs.result
    (record { snapshot_at_is = c.snapshot_first.ensures.value; snapshot_sectors_are = c.snapshot_area.ensures.value; log_at_is = c.log_first.ensures.value; log_sectors_are = c.logs.ensures.value })).ahead

pub take_checkpoint-requires-clause-force_keeps : goal.take_checkpoint-requires-clause-force_keeps
take_checkpoint-requires-clause-force_keeps g c =
    (asks_with c.args.system.now c.args.self.now c.self.inside.restart c.args.stores.now c.args.snapshot.now (g.D.Disk.state c.args.disk.now) c.requires.can
    (ap (λ (j : JournalState). j.restart) c.self.view_is)
    c.snapshot_first.result c.snapshot_area.result c.log_first.result c.logs.result
    (record { snapshot_at_is = c.snapshot_first.ensures.value; snapshot_sectors_are = c.snapshot_area.ensures.value; log_at_is = c.log_first.ensures.value; log_sectors_are = c.logs.ensures.value })).force_keeps

pub take_checkpoint-requires-clause-snapshot_keeps : goal.take_checkpoint-requires-clause-snapshot_keeps
take_checkpoint-requires-clause-snapshot_keeps g c =
    (asks_with c.args.system.now c.args.self.now c.self.inside.restart c.args.stores.now c.args.snapshot.now (g.D.Disk.state c.args.disk.now) c.requires.can
    (ap (λ (j : JournalState). j.restart) c.self.view_is)
    c.snapshot_first.result c.snapshot_area.result c.log_first.result c.logs.result
    (record { snapshot_at_is = c.snapshot_first.ensures.value; snapshot_sectors_are = c.snapshot_area.ensures.value; log_at_is = c.log_first.ensures.value; log_sectors_are = c.logs.ensures.value })).snapshot_keeps
