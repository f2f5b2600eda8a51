use Rattle.std.proofs.Common.{List, [], ◌∷◌, ◌≡◌, sym, subst}
use Rattle.tm_disk.specs.Disk.{Follows, Within}
use Rattle.tm_disk.proofs.States.{at_ok}
use Rattle.model_machine.specs.Machine.{LastingState}
use Rattle.log_records.specs.declared.record.Record.{Record}
use Rattle.log_writer.specs.Writer.{Writer}
use Rattle.log_writer.specs.ForcedLog.{IsWriterReady, AddsAll}
use Rattle.restart_data.specs.declared.restart.RestartSector.{RestartSector}
use Rattle.checkpointing.specs.CheckpointParts.{forced_writer}
use Rattle.checkpointing.specs.CheckpointSteps.{Takes}
use Rattle.checkpointing.specs.Checkpoint.{IsCheckpointed}
use Rattle.disk_law.specs.CommittedBytes.{Touches}
use Rattle.disk_law.specs.Life.{LifeOnDisk}
use Rattle.disk_law.specs.LifeCheckpoint.{after_checkpoint}
use Rattle.disk_law.specs.PendingMoves.{PendsBehind}
use Rattle.journal.specs.CheckpointFor.{parts_for, AreCheckpointPartsOf, IsCheckpointedBehindForce}
use Rattle.journal.proofs.BehindForce.{recovers, checkpoint_kept, can_take, front_moment, all_moment, all_texts, all_steps, all_done}
use Rattle.journal.proofs.Forcing.{when_done}
use Rattle.journal.proofs.journal.Journal.checkpoint.Goals as goal

pub returns-then-is_err-clause-crash : goal.returns-then-is_err-clause-crash
returns-then-is_err-clause-crash g c = λ life touches told states is.
    let old = g.D.Disk.state c.args.disk.now in
    let new = g.D.Disk.state c.write.new.disk in
    recovers c.args.system.now c.args.self.now c.args.stores.now c.args.snapshot.now old life touches told states is (g.met.D.Disk.is_disk c.args.disk.now) new
    (front_moment c.args.system.now c.args.self.now c.args.stores.now c.args.snapshot.now old c.requires.can new c.write.ensures.any_moment)

pub checkpoint_forced-requires : goal.checkpoint_forced-requires
checkpoint_forced-requires g c =
    let old = g.D.Disk.state c.args.disk.now in
    let mid = g.D.Disk.state c.write.new.disk in
    let then = c.write.new.self in
    let log = c.args.self.now.log in
    record {
      can = can_take c.args.system.now c.args.self.now c.args.stores.now c.args.snapshot.now old c.requires.can mid then
          (at_ok c.write.result (Follows (AddsAll log) old mid) (sym c.if-is_err.ensures.value) c.write.ensures.done) c.write.ensures.stays.size
          (at_ok c.write.result (then.log ≡ forced_writer log) (sym c.if-is_err.ensures.value) c.write.ensures.log) c.write.ensures.restart
          (at_ok c.write.result (IsWriterReady then.log mid) (sym c.if-is_err.ensures.value) c.write.ensures.ready);
    }

pub returns-clause-any_moment : goal.returns-clause-any_moment
returns-clause-any_moment g c =
    let old = g.D.Disk.state c.args.disk.now in
    let mid = g.D.Disk.state c.write.new.disk in
    let new = g.D.Disk.state c.checkpoint_forced.new.disk in
    all_moment c.args.system.now c.args.self.now c.args.stores.now c.args.snapshot.now old c.requires.can mid new c.write.ensures.any_moment
    (at_ok c.write.result (Follows (AddsAll c.args.self.now.log) old mid) (sym c.if-is_err.ensures.value) c.write.ensures.done) c.checkpoint_forced.ensures.any_moment

pub returns-clause-texts : goal.returns-clause-texts
returns-clause-texts g c =
    let old = g.D.Disk.state c.args.disk.now in
    let mid = g.D.Disk.state c.write.new.disk in
    let new = g.D.Disk.state c.checkpoint_forced.new.disk in
    all_texts c.args.system.now c.args.self.now c.args.stores.now c.args.snapshot.now old c.requires.can mid new c.write.ensures.any_moment
    (at_ok c.write.result (Follows (AddsAll c.args.self.now.log) old mid) (sym c.if-is_err.ensures.value) c.write.ensures.done) c.checkpoint_forced.ensures.texts

pub returns-clause-steps : goal.returns-clause-steps
returns-clause-steps g c =
    let old = g.D.Disk.state c.args.disk.now in
    let mid = g.D.Disk.state c.write.new.disk in
    let new = g.D.Disk.state c.checkpoint_forced.new.disk in
    let then = c.write.new.self in
    let log = c.args.self.now.log in
    all_steps c.args.system.now c.args.self.now c.args.stores.now c.args.snapshot.now old c.requires.can mid new c.write.ensures.any_moment
    (at_ok c.write.result (Follows (AddsAll log) old mid) (sym c.if-is_err.ensures.value) c.write.ensures.done)
    (subst (λ (w : Writer). Within (Takes (parts_for c.args.system.now c.args.self.now.restart c.args.snapshot.now) w c.args.stores.now) mid new)
    (at_ok c.write.result (then.log ≡ forced_writer log) (sym c.if-is_err.ensures.value) c.write.ensures.log)
    (subst (λ (r : RestartSector). Within (Takes (parts_for c.args.system.now r c.args.snapshot.now) then.log c.args.stores.now) mid new) c.write.ensures.restart c.checkpoint_forced.ensures.steps))

pub returns-clause-done : goal.returns-clause-done
returns-clause-done g c =
    let old = g.D.Disk.state c.args.disk.now in
    let mid = g.D.Disk.state c.write.new.disk in
    let new = g.D.Disk.state c.checkpoint_forced.new.disk in
    let then = c.write.new.self in
    let log = c.args.self.now.log in
    let parts = parts_for c.args.system.now c.args.self.now.restart c.args.snapshot.now in
    when_done c.checkpoint_forced.result (Follows (IsCheckpointed (parts_for c.args.system.now then.restart c.args.snapshot.now) then.log c.args.stores.now) mid new)
    (Follows (IsCheckpointedBehindForce parts log c.args.stores.now) old new)
    (λ done.
    all_done c.args.system.now c.args.self.now c.args.stores.now c.args.snapshot.now old c.requires.can mid new c.write.ensures.any_moment
    (at_ok c.write.result (Follows (AddsAll log) old mid) (sym c.if-is_err.ensures.value) c.write.ensures.done)
    (subst (λ (w : Writer). Follows (IsCheckpointed parts w c.args.stores.now) mid new)
    (at_ok c.write.result (then.log ≡ forced_writer log) (sym c.if-is_err.ensures.value) c.write.ensures.log)
    (subst (λ (r : RestartSector). Follows (IsCheckpointed (parts_for c.args.system.now r c.args.snapshot.now) then.log c.args.stores.now) mid new) c.write.ensures.restart done)))
    c.checkpoint_forced.ensures.done

pub returns-clause-crash : goal.returns-clause-crash
returns-clause-crash g c = λ life touches told states is.
    let old = g.D.Disk.state c.args.disk.now in
    let mid = g.D.Disk.state c.write.new.disk in
    let new = g.D.Disk.state c.checkpoint_forced.new.disk in
    recovers c.args.system.now c.args.self.now c.args.stores.now c.args.snapshot.now old life touches told states is (g.met.D.Disk.is_disk c.args.disk.now) new
    (all_moment c.args.system.now c.args.self.now c.args.stores.now c.args.snapshot.now old c.requires.can mid new c.write.ensures.any_moment
    (at_ok c.write.result (Follows (AddsAll c.args.self.now.log) old mid) (sym c.if-is_err.ensures.value) c.write.ensures.done) c.checkpoint_forced.ensures.any_moment)

pub returns-clause-kept : goal.returns-clause-kept
returns-clause-kept g c =
    let old = g.D.Disk.state c.args.disk.now in
    let mid = g.D.Disk.state c.write.new.disk in
    let new = g.D.Disk.state c.checkpoint_forced.new.disk in
    let system = c.args.system.now in
    let stores = c.args.stores.now in
    let bytes = c.args.snapshot.now in
    let then = c.write.new.self in
    let log = c.args.self.now.log in
    when_done c.checkpoint_forced.result (Follows (IsCheckpointed (parts_for system then.restart bytes) then.log stores) mid new)
    ((life : LifeOnDisk) → (touches : Touches) → (told : List Record) → (states : List LastingState) → AreCheckpointPartsOf system c.args.self.now stores bytes touches told states old life
    → PendsBehind (life.lasting ∷ []) (after_checkpoint bytes touches life) new)
    (λ done life touches told states is.
    checkpoint_kept system c.args.self.now stores bytes old life touches told states is mid new
    (at_ok c.write.result (Follows (AddsAll log) old mid) (sym c.if-is_err.ensures.value) c.write.ensures.done)
    (subst (λ (w : Writer). Follows (IsCheckpointed (parts_for system c.args.self.now.restart bytes) w stores) mid new)
    (at_ok c.write.result (then.log ≡ forced_writer log) (sym c.if-is_err.ensures.value) c.write.ensures.log)
    (subst (λ (r : RestartSector). Follows (IsCheckpointed (parts_for system r bytes) then.log stores) mid new) c.write.ensures.restart done)))
    c.checkpoint_forced.ensures.done
