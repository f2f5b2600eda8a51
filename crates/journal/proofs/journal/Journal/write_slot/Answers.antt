use Rattle.std.proofs.Common.{List, [], ◌∷◌, ◌≡◌, sym, ◌∙◌, ap, subst}
use Rattle.tm_disk.specs.Disk.{Follows, Within}
use Rattle.tm_disk.proofs.States.{at_ok}
use Rattle.model_system.specs.Areas.{data_first}
use Rattle.model_machine.specs.Machine.{LastingState}
use Rattle.log_writer.specs.ForcedLog.{AddsAll, IsWriterReady}
use Rattle.log_writer.specs.Writer.{Writer}
use Rattle.model_system.specs.System.{System}
use Rattle.checkpointing.specs.CheckpointParts.{forced_writer}
use Rattle.seg_store.specs.DataSectors.{MayPut, HasPut}
use Rattle.disk_law.specs.Life.{LifeOnDisk}
use Rattle.disk_law.specs.LifeSteps.{forced_life}
use Rattle.disk_law.specs.PendingMoves.{PendsBehind}
use Rattle.disk_law.specs.SlotWrites.{HasPutBehindForce, slot_written_life}
use Rattle.journal.specs.SlotWriteFor.{IsSlotWriteOf, slot_write_pieces}
use Rattle.journal.proofs.SlotPut.{put_recovers, put_moment, put_texts, put_settled, put_ready, log_area, log_sequences, front_puts, all_puts, all_put}
use Rattle.journal.proofs.Forcing.{when_done}
use Rattle.journal.proofs.journal.Journal.write_slot.Goals as goal

pub returns-then-is_err-clause-texts : goal.returns-then-is_err-clause-texts
returns-then-is_err-clause-texts g c =
    let old = g.D.Disk.state c.args.disk.now in
    let new = g.D.Disk.state c.write.new.disk in
    let puts = front_puts c.args.system.now c.args.self.now c.args.stores.now c.args.place old c.requires.can new c.write.ensures.any_moment in
    put_texts c.args.system.now c.args.self.now c.args.stores.now c.args.place old c.requires.can.there c.requires.can.marked c.requires.can.life c.requires.can.states c.requires.can.is new puts

pub returns-then-is_err-clause-crash : goal.returns-then-is_err-clause-crash
returns-then-is_err-clause-crash g c =
    let old = g.D.Disk.state c.args.disk.now in
    let new = g.D.Disk.state c.write.new.disk in
    let puts = front_puts c.args.system.now c.args.self.now c.args.stores.now c.args.place old c.requires.can new c.write.ensures.any_moment in
    λ life states is. put_recovers c.args.system.now c.args.self.now c.args.stores.now c.args.place old c.requires.can.there c.requires.can.marked life states is (g.met.D.Disk.is_disk c.args.disk.now) new puts

pub returns-clause-any_moment : goal.returns-clause-any_moment
returns-clause-any_moment g c =
    let old = g.D.Disk.state c.args.disk.now in
    let mid = g.D.Disk.state c.write.new.disk in
    let new = g.D.Disk.state c.put_slot.new.disk in
    let first : c.data_first.result ≡ data_first c.args.system.now 0 = c.data_first.ensures.value in
    let forced = at_ok c.write.result (Follows (AddsAll c.args.self.now.log) old mid) (sym c.if-is_err.ensures.value) c.write.ensures.done in
    let puts = all_puts c.args.system.now c.args.self.now c.args.stores.now c.args.place old c.requires.can mid new c.write.ensures.any_moment forced
    (subst (λ n. Within (MayPut n (slot_write_pieces c.args.place c.args.stores.now)) mid new) first c.put_slot.ensures.any_moment) in
    put_moment c.args.system.now c.args.self.now c.args.stores.now c.args.place old c.requires.can.there c.requires.can.marked c.requires.can.life c.requires.can.states c.requires.can.is new puts

pub returns-clause-texts : goal.returns-clause-texts
returns-clause-texts g c =
    let old = g.D.Disk.state c.args.disk.now in
    let mid = g.D.Disk.state c.write.new.disk in
    let new = g.D.Disk.state c.put_slot.new.disk in
    let first : c.data_first.result ≡ data_first c.args.system.now 0 = c.data_first.ensures.value in
    let forced = at_ok c.write.result (Follows (AddsAll c.args.self.now.log) old mid) (sym c.if-is_err.ensures.value) c.write.ensures.done in
    let puts = all_puts c.args.system.now c.args.self.now c.args.stores.now c.args.place old c.requires.can mid new c.write.ensures.any_moment forced
    (subst (λ n. Within (MayPut n (slot_write_pieces c.args.place c.args.stores.now)) mid new) first c.put_slot.ensures.any_moment) in
    put_texts c.args.system.now c.args.self.now c.args.stores.now c.args.place old c.requires.can.there c.requires.can.marked c.requires.can.life c.requires.can.states c.requires.can.is new puts

pub returns-clause-steps : goal.returns-clause-steps
returns-clause-steps g c =
    let old = g.D.Disk.state c.args.disk.now in
    let mid = g.D.Disk.state c.write.new.disk in
    let new = g.D.Disk.state c.put_slot.new.disk in
    let first : c.data_first.result ≡ data_first c.args.system.now 0 = c.data_first.ensures.value in
    let forced = at_ok c.write.result (Follows (AddsAll c.args.self.now.log) old mid) (sym c.if-is_err.ensures.value) c.write.ensures.done in
    let puts = all_puts c.args.system.now c.args.self.now c.args.stores.now c.args.place old c.requires.can mid new c.write.ensures.any_moment forced
    (subst (λ n. Within (MayPut n (slot_write_pieces c.args.place c.args.stores.now)) mid new) first c.put_slot.ensures.any_moment) in
    puts

pub returns-clause-crash : goal.returns-clause-crash
returns-clause-crash g c =
    let old = g.D.Disk.state c.args.disk.now in
    let mid = g.D.Disk.state c.write.new.disk in
    let new = g.D.Disk.state c.put_slot.new.disk in
    let first : c.data_first.result ≡ data_first c.args.system.now 0 = c.data_first.ensures.value in
    let forced = at_ok c.write.result (Follows (AddsAll c.args.self.now.log) old mid) (sym c.if-is_err.ensures.value) c.write.ensures.done in
    let puts = all_puts c.args.system.now c.args.self.now c.args.stores.now c.args.place old c.requires.can mid new c.write.ensures.any_moment forced
    (subst (λ n. Within (MayPut n (slot_write_pieces c.args.place c.args.stores.now)) mid new) first c.put_slot.ensures.any_moment) in
    λ life states is. put_recovers c.args.system.now c.args.self.now c.args.stores.now c.args.place old c.requires.can.there c.requires.can.marked life states is (g.met.D.Disk.is_disk c.args.disk.now) new puts

pub returns-clause-done : goal.returns-clause-done
returns-clause-done g c =
    let old = g.D.Disk.state c.args.disk.now in
    let mid = g.D.Disk.state c.write.new.disk in
    let new = g.D.Disk.state c.put_slot.new.disk in
    let first : c.data_first.result ≡ data_first c.args.system.now 0 = c.data_first.ensures.value in
    let forced = at_ok c.write.result (Follows (AddsAll c.args.self.now.log) old mid) (sym c.if-is_err.ensures.value) c.write.ensures.done in
    let puts = all_puts c.args.system.now c.args.self.now c.args.stores.now c.args.place old c.requires.can mid new c.write.ensures.any_moment forced
    (subst (λ n. Within (MayPut n (slot_write_pieces c.args.place c.args.stores.now)) mid new) first c.put_slot.ensures.any_moment) in
    when_done c.put_slot.result (Follows (HasPut c.data_first.result (slot_write_pieces c.args.place c.args.stores.now)) mid new) (Follows (HasPutBehindForce c.args.self.now.log (data_first c.args.system.now 0) (slot_write_pieces c.args.place c.args.stores.now)) old new)
    (λ done. all_put c.args.system.now c.args.self.now c.args.stores.now c.args.place old c.requires.can mid new c.write.ensures.any_moment forced (subst (λ n. Follows (HasPut n (slot_write_pieces c.args.place c.args.stores.now)) mid new) first done)) c.put_slot.ensures.done

pub returns-clause-kept : goal.returns-clause-kept
returns-clause-kept g c =
    let old = g.D.Disk.state c.args.disk.now in
    let mid = g.D.Disk.state c.write.new.disk in
    let new = g.D.Disk.state c.put_slot.new.disk in
    let first : c.data_first.result ≡ data_first c.args.system.now 0 = c.data_first.ensures.value in
    let forced = at_ok c.write.result (Follows (AddsAll c.args.self.now.log) old mid) (sym c.if-is_err.ensures.value) c.write.ensures.done in
    let puts = all_puts c.args.system.now c.args.self.now c.args.stores.now c.args.place old c.requires.can mid new c.write.ensures.any_moment forced
    (subst (λ n. Within (MayPut n (slot_write_pieces c.args.place c.args.stores.now)) mid new) first c.put_slot.ensures.any_moment) in
    when_done c.put_slot.result (Follows (HasPut c.data_first.result (slot_write_pieces c.args.place c.args.stores.now)) mid new)
    ((life : LifeOnDisk) → (states : List LastingState) → IsSlotWriteOf c.args.system.now c.args.self.now c.args.stores.now states old life → PendsBehind (life.lasting ∷ []) (slot_written_life c.args.place.db c.args.place.slot (forced_life life)) new)
    (λ done life states is. put_settled c.args.system.now c.args.self.now c.args.stores.now c.args.place old c.requires.can.there c.requires.can.marked life states is new (all_put c.args.system.now c.args.self.now c.args.stores.now c.args.place old c.requires.can mid new c.write.ensures.any_moment forced (subst (λ n. Follows (HasPut n (slot_write_pieces c.args.place c.args.stores.now)) mid new) first done))) c.put_slot.ensures.done

pub write-requires-clause-area : goal.write-requires-clause-area
write-requires-clause-area g c = log_area c.args.system.now c.args.self.now c.args.stores.now c.args.place (g.D.Disk.state c.args.disk.now) c.requires.can

pub write-requires-clause-sequences : goal.write-requires-clause-sequences
write-requires-clause-sequences g c = log_sequences c.args.system.now c.args.self.now c.args.stores.now c.args.place (g.D.Disk.state c.args.disk.now) c.requires.can

pub returns-clause-ready : goal.returns-clause-ready
returns-clause-ready g c =
    let old = g.D.Disk.state c.args.disk.now in
    let mid = g.D.Disk.state c.write.new.disk in
    let new = g.D.Disk.state c.put_slot.new.disk in
    let can = c.requires.can in
    let first : c.data_first.result ≡ data_first c.args.system.now 0 = c.data_first.ensures.value in
    let log_is = at_ok c.write.result (c.write.new.self.log ≡ forced_writer c.args.self.now.log) (sym c.if-is_err.ensures.value) c.write.ensures.log in
    let ready = at_ok c.write.result (IsWriterReady c.write.new.self.log mid) (sym c.if-is_err.ensures.value) c.write.ensures.ready in
    let life_log : forced_writer can.life.log ≡ c.write.new.self.log = ap (λ (w : Writer). forced_writer w) can.is.writer ∙ sym log_is in
    when_done c.put_slot.result (Follows (HasPut c.data_first.result (slot_write_pieces c.args.place c.args.stores.now)) mid new) (IsWriterReady c.write.new.self.log new)
    (λ done.
    subst (λ (w : Writer). IsWriterReady w new) life_log
    (put_ready c.args.system.now c.args.self.now c.args.stores.now c.args.place (g.D.Disk.state c.args.disk.now) can.there can.marked can.life can.states can.is mid new (subst (λ (w : Writer). IsWriterReady w mid) (sym life_log) ready)
    (subst (λ (s : System). Follows (HasPut (data_first s 0) (slot_write_pieces c.args.place c.args.stores.now)) mid new) (sym can.is.of_system)
    (subst (λ n. Follows (HasPut n (slot_write_pieces c.args.place c.args.stores.now)) mid new) first done))))
    c.put_slot.ensures.done
