use Rattle.std.proofs.Common.{arith, ◌≡◌, refl, sym, ◌∙◌, ap, subst}
use Rattle.tm_disk.specs.Disk.{Within, Follows, MayWrite}
use Rattle.restart_data.specs.declared.restart.RestartSector.{RestartSector}
use Rattle.restart_data.specs.Restart.{restart_sector}
use Rattle.restart_data.specs.WrittenSectors.{Restarts}
use Rattle.log_writer.specs.Writer.{Writer}
use Rattle.log_writer.specs.ForcedLog.{log_of_writer, IsWriterReady}
use Rattle.checkpointing.specs.CheckpointParts.{CheckpointParts, checkpoint_parts_of, next_restart, next_writer, restart_behind, sequence_behind}
use Rattle.checkpointing.specs.CheckpointSteps.{WritesSnapshot}
use Rattle.checkpointing.specs.Checkpoint.{IsCheckpointed}
use Rattle.checkpointing.proofs.Slots.{slots_end}
use Rattle.checkpointing.proofs.Taking.{Asked, all_asked, next_of_forced, same_writer, begins_empty, prepared_within, taken_within, prepared_text, prepared_steps, taken_text, taken_steps, taken_follows, taken_ahead, taken_ready}
use Rattle.checkpointing.proofs.checkpoint.take.Goals as goal
use Rattle.tm_disk.proofs.States.{at_ok}

pub prepare-requires-clause-area : goal.prepare-requires-clause-area
prepare-requires-clause-area g c =
    let parts : CheckpointParts = checkpoint_parts_of c.args.parts.now in
    omega (arith, c.data_at.ensures, slots_end parts.system c.args.stores.now c.requires.stores, c.requires.areas)

pub returns-in-Err-clause-any_moment : goal.returns-in-Err-clause-any_moment
returns-in-Err-clause-any_moment g c =
    let parts : CheckpointParts = checkpoint_parts_of c.args.parts.now in
    let old = g.D.Disk.state c.args.disk.now in
    let disk = g.met.D.Disk.is_disk c.args.disk.now in
    let asked : Asked parts c.args.log.now c.args.stores.now old =
    all_asked parts c.args.log.now c.args.stores.now old c.requires.areas c.requires.now c.requires.free c.requires.over c.room-room.ensures.fits c.requires.stores c.requires.fits c.requires.next c.requires.named c.requires.ahead c.requires.force_keeps c.requires.snapshot_keeps in
    prepared_within parts c.args.log.now c.args.stores.now old disk asked (g.D.Disk.state c.prepare.new.disk) c.prepare.ensures.any_moment

pub returns-then-is_err-clause-any_moment : goal.returns-then-is_err-clause-any_moment
returns-then-is_err-clause-any_moment g c =
    let parts : CheckpointParts = checkpoint_parts_of c.args.parts.now in
    let old = g.D.Disk.state c.args.disk.now in
    let disk = g.met.D.Disk.is_disk c.args.disk.now in
    let asked : Asked parts c.args.log.now c.args.stores.now old =
    all_asked parts c.args.log.now c.args.stores.now old c.requires.areas c.requires.now c.requires.free c.requires.over c.room-room.ensures.fits c.requires.stores c.requires.fits c.requires.next c.requires.named c.requires.ahead c.requires.force_keeps c.requires.snapshot_keeps in
    let mid = g.D.Disk.state c.prepare.new.disk in
    let new = g.D.Disk.state c.write_restart.new.disk in
    let saved : Follows (WritesSnapshot parts c.args.log.now c.args.stores.now) old mid = c.in-Ok.ensures.done in
    let sequence : c.next_sequence.result ≡ sequence_behind c.args.log.now = c.next_sequence.ensures ∙ next_of_forced c.prepare.new.log c.args.log.now c.in-Ok.ensures.forced in
    let next : c.next_restart-next.result ≡ next_restart parts c.args.log.now = c.next_restart-next.ensures ∙ ap (restart_behind parts) sequence in
    taken_within parts c.args.log.now c.args.stores.now old disk asked mid new c.prepare.ensures.any_moment saved
    (subst (λ (r : RestartSector). Within (MayWrite 0 (restart_sector r)) mid new) next c.write_restart.ensures.any_moment)

pub returns-clause-any_moment : goal.returns-clause-any_moment
returns-clause-any_moment g c =
    let parts : CheckpointParts = checkpoint_parts_of c.args.parts.now in
    let old = g.D.Disk.state c.args.disk.now in
    let disk = g.met.D.Disk.is_disk c.args.disk.now in
    let asked : Asked parts c.args.log.now c.args.stores.now old =
    all_asked parts c.args.log.now c.args.stores.now old c.requires.areas c.requires.now c.requires.free c.requires.over c.room-room.ensures.fits c.requires.stores c.requires.fits c.requires.next c.requires.named c.requires.ahead c.requires.force_keeps c.requires.snapshot_keeps in
    let mid = g.D.Disk.state c.prepare.new.disk in
    let new = g.D.Disk.state c.write_restart.new.disk in
    let saved : Follows (WritesSnapshot parts c.args.log.now c.args.stores.now) old mid = c.in-Ok.ensures.done in
    let sequence : c.next_sequence.result ≡ sequence_behind c.args.log.now = c.next_sequence.ensures ∙ next_of_forced c.prepare.new.log c.args.log.now c.in-Ok.ensures.forced in
    let next : c.next_restart-next.result ≡ next_restart parts c.args.log.now = c.next_restart-next.ensures ∙ ap (restart_behind parts) sequence in
    taken_within parts c.args.log.now c.args.stores.now old disk asked mid new c.prepare.ensures.any_moment saved
    (subst (λ (r : RestartSector). Within (MayWrite 0 (restart_sector r)) mid new) next c.write_restart.ensures.any_moment)

pub returns-clause-done : goal.returns-clause-done
returns-clause-done g c =
    let parts : CheckpointParts = checkpoint_parts_of c.args.parts.now in
    let old = g.D.Disk.state c.args.disk.now in
    let disk = g.met.D.Disk.is_disk c.args.disk.now in
    let asked : Asked parts c.args.log.now c.args.stores.now old =
    all_asked parts c.args.log.now c.args.stores.now old c.requires.areas c.requires.now c.requires.free c.requires.over c.room-room.ensures.fits c.requires.stores c.requires.fits c.requires.next c.requires.named c.requires.ahead c.requires.force_keeps c.requires.snapshot_keeps in
    let mid = g.D.Disk.state c.prepare.new.disk in
    let new = g.D.Disk.state c.write_restart.new.disk in
    let saved : Follows (WritesSnapshot parts c.args.log.now c.args.stores.now) old mid = c.in-Ok.ensures.done in
    let sequence : c.next_sequence.result ≡ sequence_behind c.args.log.now = c.next_sequence.ensures ∙ next_of_forced c.prepare.new.log c.args.log.now c.in-Ok.ensures.forced in
    let next : c.next_restart-next.result ≡ next_restart parts c.args.log.now = c.next_restart-next.ensures ∙ ap (restart_behind parts) sequence in
    let restarts : Follows (Restarts c.next_restart-next.result) mid new = at_ok c.write_restart.result (Follows (Restarts c.next_restart-next.result) mid new) (sym c.if-is_err.ensures.value) c.write_restart.ensures.done in
    taken_follows parts c.args.log.now c.args.stores.now old disk asked mid new saved (subst (λ (r : RestartSector). Follows (Restarts r) mid new) next restarts)

pub returns-clause-ready : goal.returns-clause-ready
returns-clause-ready g c =
    let parts : CheckpointParts = checkpoint_parts_of c.args.parts.now in
    let old = g.D.Disk.state c.args.disk.now in
    let disk = g.met.D.Disk.is_disk c.args.disk.now in
    let asked : Asked parts c.args.log.now c.args.stores.now old =
    all_asked parts c.args.log.now c.args.stores.now old c.requires.areas c.requires.now c.requires.free c.requires.over c.room-room.ensures.fits c.requires.stores c.requires.fits c.requires.next c.requires.named c.requires.ahead c.requires.force_keeps c.requires.snapshot_keeps in
    let mid = g.D.Disk.state c.prepare.new.disk in
    let new = g.D.Disk.state c.write_restart.new.disk in
    let saved : Follows (WritesSnapshot parts c.args.log.now c.args.stores.now) old mid = c.in-Ok.ensures.done in
    let sequence : c.next_sequence.result ≡ sequence_behind c.args.log.now = c.next_sequence.ensures ∙ next_of_forced c.prepare.new.log c.args.log.now c.in-Ok.ensures.forced in
    let next : c.next_restart-next.result ≡ next_restart parts c.args.log.now = c.next_restart-next.ensures ∙ ap (restart_behind parts) sequence in
    let restarts : Follows (Restarts c.next_restart-next.result) mid new = at_ok c.write_restart.result (Follows (Restarts c.next_restart-next.result) mid new) (sym c.if-is_err.ensures.value) c.write_restart.ensures.done in
    let done : Follows (IsCheckpointed parts c.args.log.now c.args.stores.now) old new = taken_follows parts c.args.log.now c.args.stores.now old disk asked mid new saved (subst (λ (r : RestartSector). Follows (Restarts r) mid new) next restarts) in
    let writer : c.new.result ≡ next_writer parts c.args.log.now = c.new.ensures ∙ same_writer c.args.parts.now.log_at c.args.parts.now.log_sectors c.next_restart-next.result (next_restart parts c.args.log.now) next in
    subst (λ (w : Writer). IsWriterReady w new) (sym writer) (taken_ready parts c.args.log.now c.args.stores.now old disk asked new done)

pub returns-clause-ahead : goal.returns-clause-ahead
returns-clause-ahead g c =
    let parts : CheckpointParts = checkpoint_parts_of c.args.parts.now in
    let old = g.D.Disk.state c.args.disk.now in
    let disk = g.met.D.Disk.is_disk c.args.disk.now in
    let asked : Asked parts c.args.log.now c.args.stores.now old =
    all_asked parts c.args.log.now c.args.stores.now old c.requires.areas c.requires.now c.requires.free c.requires.over c.room-room.ensures.fits c.requires.stores c.requires.fits c.requires.next c.requires.named c.requires.ahead c.requires.force_keeps c.requires.snapshot_keeps in
    let mid = g.D.Disk.state c.prepare.new.disk in
    let new = g.D.Disk.state c.write_restart.new.disk in
    let saved : Follows (WritesSnapshot parts c.args.log.now c.args.stores.now) old mid = c.in-Ok.ensures.done in
    let sequence : c.next_sequence.result ≡ sequence_behind c.args.log.now = c.next_sequence.ensures ∙ next_of_forced c.prepare.new.log c.args.log.now c.in-Ok.ensures.forced in
    let next : c.next_restart-next.result ≡ next_restart parts c.args.log.now = c.next_restart-next.ensures ∙ ap (restart_behind parts) sequence in
    let restarts : Follows (Restarts c.next_restart-next.result) mid new = at_ok c.write_restart.result (Follows (Restarts c.next_restart-next.result) mid new) (sym c.if-is_err.ensures.value) c.write_restart.ensures.done in
    let done : Follows (IsCheckpointed parts c.args.log.now c.args.stores.now) old new = taken_follows parts c.args.log.now c.args.stores.now old disk asked mid new saved (subst (λ (r : RestartSector). Follows (Restarts r) mid new) next restarts) in
    taken_ahead parts c.args.log.now c.args.stores.now old disk asked new done

pub returns-clause-empty : goal.returns-clause-empty
returns-clause-empty g c =
    let parts : CheckpointParts = checkpoint_parts_of c.args.parts.now in
    let old = g.D.Disk.state c.args.disk.now in
    let disk = g.met.D.Disk.is_disk c.args.disk.now in
    let asked : Asked parts c.args.log.now c.args.stores.now old =
    all_asked parts c.args.log.now c.args.stores.now old c.requires.areas c.requires.now c.requires.free c.requires.over c.room-room.ensures.fits c.requires.stores c.requires.fits c.requires.next c.requires.named c.requires.ahead c.requires.force_keeps c.requires.snapshot_keeps in
    let mid = g.D.Disk.state c.prepare.new.disk in
    let new = g.D.Disk.state c.write_restart.new.disk in
    let saved : Follows (WritesSnapshot parts c.args.log.now c.args.stores.now) old mid = c.in-Ok.ensures.done in
    let sequence : c.next_sequence.result ≡ sequence_behind c.args.log.now = c.next_sequence.ensures ∙ next_of_forced c.prepare.new.log c.args.log.now c.in-Ok.ensures.forced in
    let next : c.next_restart-next.result ≡ next_restart parts c.args.log.now = c.next_restart-next.ensures ∙ ap (restart_behind parts) sequence in
    let restarts : Follows (Restarts c.next_restart-next.result) mid new = at_ok c.write_restart.result (Follows (Restarts c.next_restart-next.result) mid new) (sym c.if-is_err.ensures.value) c.write_restart.ensures.done in
    let done : Follows (IsCheckpointed parts c.args.log.now c.args.stores.now) old new = taken_follows parts c.args.log.now c.args.stores.now old disk asked mid new saved (subst (λ (r : RestartSector). Follows (Restarts r) mid new) next restarts) in
    let writer : c.new.result ≡ next_writer parts c.args.log.now = c.new.ensures ∙ same_writer c.args.parts.now.log_at c.args.parts.now.log_sectors c.next_restart-next.result (next_restart parts c.args.log.now) next in
    λ image left. ap (λ (w : Writer). log_of_writer w image) writer ∙ begins_empty (next_writer parts c.args.log.now) image (taken_ready parts c.args.log.now c.args.stores.now old disk asked new done image left) refl

pub returns-in-Err-clause-texts : goal.returns-in-Err-clause-texts
returns-in-Err-clause-texts g c =
    let parts : CheckpointParts = checkpoint_parts_of c.args.parts.now in
    let old = g.D.Disk.state c.args.disk.now in
    let disk = g.met.D.Disk.is_disk c.args.disk.now in
    let asked : Asked parts c.args.log.now c.args.stores.now old =
    all_asked parts c.args.log.now c.args.stores.now old c.requires.areas c.requires.now c.requires.free c.requires.over c.room-room.ensures.fits c.requires.stores c.requires.fits c.requires.next c.requires.named c.requires.ahead c.requires.force_keeps c.requires.snapshot_keeps in
    prepared_text parts c.args.log.now c.args.stores.now old disk asked (g.D.Disk.state c.prepare.new.disk) c.prepare.ensures.any_moment

pub returns-then-is_err-clause-texts : goal.returns-then-is_err-clause-texts
returns-then-is_err-clause-texts g c =
    let parts : CheckpointParts = checkpoint_parts_of c.args.parts.now in
    let old = g.D.Disk.state c.args.disk.now in
    let disk = g.met.D.Disk.is_disk c.args.disk.now in
    let asked : Asked parts c.args.log.now c.args.stores.now old =
    all_asked parts c.args.log.now c.args.stores.now old c.requires.areas c.requires.now c.requires.free c.requires.over c.room-room.ensures.fits c.requires.stores c.requires.fits c.requires.next c.requires.named c.requires.ahead c.requires.force_keeps c.requires.snapshot_keeps in
    let mid = g.D.Disk.state c.prepare.new.disk in
    let new = g.D.Disk.state c.write_restart.new.disk in
    let saved : Follows (WritesSnapshot parts c.args.log.now c.args.stores.now) old mid = c.in-Ok.ensures.done in
    let sequence : c.next_sequence.result ≡ sequence_behind c.args.log.now = c.next_sequence.ensures ∙ next_of_forced c.prepare.new.log c.args.log.now c.in-Ok.ensures.forced in
    let next : c.next_restart-next.result ≡ next_restart parts c.args.log.now = c.next_restart-next.ensures ∙ ap (restart_behind parts) sequence in
    taken_text parts c.args.log.now c.args.stores.now old disk asked mid new c.prepare.ensures.any_moment saved
    (subst (λ (r : RestartSector). Within (MayWrite 0 (restart_sector r)) mid new) next c.write_restart.ensures.any_moment)

pub returns-clause-texts : goal.returns-clause-texts
returns-clause-texts g c =
    let parts : CheckpointParts = checkpoint_parts_of c.args.parts.now in
    let old = g.D.Disk.state c.args.disk.now in
    let disk = g.met.D.Disk.is_disk c.args.disk.now in
    let asked : Asked parts c.args.log.now c.args.stores.now old =
    all_asked parts c.args.log.now c.args.stores.now old c.requires.areas c.requires.now c.requires.free c.requires.over c.room-room.ensures.fits c.requires.stores c.requires.fits c.requires.next c.requires.named c.requires.ahead c.requires.force_keeps c.requires.snapshot_keeps in
    let mid = g.D.Disk.state c.prepare.new.disk in
    let new = g.D.Disk.state c.write_restart.new.disk in
    let saved : Follows (WritesSnapshot parts c.args.log.now c.args.stores.now) old mid = c.in-Ok.ensures.done in
    let sequence : c.next_sequence.result ≡ sequence_behind c.args.log.now = c.next_sequence.ensures ∙ next_of_forced c.prepare.new.log c.args.log.now c.in-Ok.ensures.forced in
    let next : c.next_restart-next.result ≡ next_restart parts c.args.log.now = c.next_restart-next.ensures ∙ ap (restart_behind parts) sequence in
    taken_text parts c.args.log.now c.args.stores.now old disk asked mid new c.prepare.ensures.any_moment saved
    (subst (λ (r : RestartSector). Within (MayWrite 0 (restart_sector r)) mid new) next c.write_restart.ensures.any_moment)

pub returns-in-Err-clause-steps : goal.returns-in-Err-clause-steps
returns-in-Err-clause-steps g c =
    let parts : CheckpointParts = checkpoint_parts_of c.args.parts.now in
    let old = g.D.Disk.state c.args.disk.now in
    let disk = g.met.D.Disk.is_disk c.args.disk.now in
    let asked : Asked parts c.args.log.now c.args.stores.now old =
    all_asked parts c.args.log.now c.args.stores.now old c.requires.areas c.requires.now c.requires.free c.requires.over c.room-room.ensures.fits c.requires.stores c.requires.fits c.requires.next c.requires.named c.requires.ahead c.requires.force_keeps c.requires.snapshot_keeps in
    prepared_steps parts c.args.log.now c.args.stores.now old disk asked (g.D.Disk.state c.prepare.new.disk) c.prepare.ensures.any_moment

pub returns-then-is_err-clause-steps : goal.returns-then-is_err-clause-steps
returns-then-is_err-clause-steps g c =
    let parts : CheckpointParts = checkpoint_parts_of c.args.parts.now in
    let old = g.D.Disk.state c.args.disk.now in
    let disk = g.met.D.Disk.is_disk c.args.disk.now in
    let asked : Asked parts c.args.log.now c.args.stores.now old =
    all_asked parts c.args.log.now c.args.stores.now old c.requires.areas c.requires.now c.requires.free c.requires.over c.room-room.ensures.fits c.requires.stores c.requires.fits c.requires.next c.requires.named c.requires.ahead c.requires.force_keeps c.requires.snapshot_keeps in
    let mid = g.D.Disk.state c.prepare.new.disk in
    let new = g.D.Disk.state c.write_restart.new.disk in
    let saved : Follows (WritesSnapshot parts c.args.log.now c.args.stores.now) old mid = c.in-Ok.ensures.done in
    let sequence : c.next_sequence.result ≡ sequence_behind c.args.log.now = c.next_sequence.ensures ∙ next_of_forced c.prepare.new.log c.args.log.now c.in-Ok.ensures.forced in
    let next : c.next_restart-next.result ≡ next_restart parts c.args.log.now = c.next_restart-next.ensures ∙ ap (restart_behind parts) sequence in
    taken_steps parts c.args.log.now c.args.stores.now old disk asked mid new c.prepare.ensures.any_moment saved
    (subst (λ (r : RestartSector). Within (MayWrite 0 (restart_sector r)) mid new) next c.write_restart.ensures.any_moment)

pub returns-clause-steps : goal.returns-clause-steps
returns-clause-steps g c =
    let parts : CheckpointParts = checkpoint_parts_of c.args.parts.now in
    let old = g.D.Disk.state c.args.disk.now in
    let disk = g.met.D.Disk.is_disk c.args.disk.now in
    let asked : Asked parts c.args.log.now c.args.stores.now old =
    all_asked parts c.args.log.now c.args.stores.now old c.requires.areas c.requires.now c.requires.free c.requires.over c.room-room.ensures.fits c.requires.stores c.requires.fits c.requires.next c.requires.named c.requires.ahead c.requires.force_keeps c.requires.snapshot_keeps in
    let mid = g.D.Disk.state c.prepare.new.disk in
    let new = g.D.Disk.state c.write_restart.new.disk in
    let saved : Follows (WritesSnapshot parts c.args.log.now c.args.stores.now) old mid = c.in-Ok.ensures.done in
    let sequence : c.next_sequence.result ≡ sequence_behind c.args.log.now = c.next_sequence.ensures ∙ next_of_forced c.prepare.new.log c.args.log.now c.in-Ok.ensures.forced in
    let next : c.next_restart-next.result ≡ next_restart parts c.args.log.now = c.next_restart-next.ensures ∙ ap (restart_behind parts) sequence in
    taken_steps parts c.args.log.now c.args.stores.now old disk asked mid new c.prepare.ensures.any_moment saved
    (subst (λ (r : RestartSector). Within (MayWrite 0 (restart_sector r)) mid new) next c.write_restart.ensures.any_moment)
