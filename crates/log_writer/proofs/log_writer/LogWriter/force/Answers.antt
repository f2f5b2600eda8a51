use Rattle.std.proofs.Common.{◌≡◌, ℕ, ◌+◌, ◌≤◌, List, length, sym, ◌∙◌, ap, subst, arith, IsTrue}
use Rattle.tm_disk.specs.Disk.{Image, Within, Follows, Only}
use Rattle.log_writer.specs.Writer.{Writer}
use Rattle.log_writer.specs.ForcedLog.{log_sectors_of, log_pieces, Lays, HasLaid, IsWriterReady, IsAtEnd, AddsFront, AddsAll}
use Rattle.log_writer.proofs.Adding.{at_of, sequence_of, count_of, payloads_of, room_for}
use Rattle.log_writer.proofs.Calls.{front_within, front_synced, all_shown, all_follows, all_ready}
use Rattle.log_writer.proofs.log_writer.LogWriter.force.Goals as goal
use Rattle.tm_disk.proofs.States.{at_ok}

pub returns-then-is_err-clause-any_moment : goal.returns-then-is_err-clause-any_moment
returns-then-is_err-clause-any_moment g c =
    let in_ = c.self.inside in
    let w : Writer = record { first = in_.first; count = in_.count; sequence = in_.sequence; epoch = in_.epoch; place = in_.place; appended = in_.appended.items } in
    let old = g.D.Disk.state c.args.disk.now in
    let mid = g.D.Disk.state c.lay.new.disk in
    let old_disk = g.met.D.Disk.is_disk c.args.disk.now in
    let ready : IsWriterReady w old = subst (λ (v : Writer). IsWriterReady v old) (sym c.self.view_is) c.requires.ready in
    let room : w.place + count_of w ≤ w.count = room_for w c.self.invariant.0 c.self.invariant.1 in
    let bytes = c.deref.ensures.value in
    let within : Within (Lays (at_of w) (sequence_of w) w.epoch (payloads_of w) (count_of w)) old mid =
    subst (λ (b : List ℕ). Within (Lays (at_of w) (sequence_of w) w.epoch (log_pieces (log_sectors_of (length b)) b) (log_sectors_of (length b))) old mid) bytes c.lay.ensures.any_moment in
    subst (λ (v : Writer). Within (AddsFront v) old mid) c.self.view_is
    (front_within w old mid mid old_disk (g.met.D.Disk.is_disk c.lay.new.disk) ready room within)

pub returns-then-is_err-2-clause-any_moment : goal.returns-then-is_err-2-clause-any_moment
returns-then-is_err-2-clause-any_moment g c =
    let in_ = c.self.inside in
    let w : Writer = record { first = in_.first; count = in_.count; sequence = in_.sequence; epoch = in_.epoch; place = in_.place; appended = in_.appended.items } in
    let old = g.D.Disk.state c.args.disk.now in
    let mid = g.D.Disk.state c.lay.new.disk in
    let old_disk = g.met.D.Disk.is_disk c.args.disk.now in
    let ready : IsWriterReady w old = subst (λ (v : Writer). IsWriterReady v old) (sym c.self.view_is) c.requires.ready in
    let room : w.place + count_of w ≤ w.count = room_for w c.self.invariant.0 c.self.invariant.1 in
    let bytes = c.deref.ensures.value in
    let within : Within (Lays (at_of w) (sequence_of w) w.epoch (payloads_of w) (count_of w)) old mid =
    subst (λ (b : List ℕ). Within (Lays (at_of w) (sequence_of w) w.epoch (log_pieces (log_sectors_of (length b)) b) (log_sectors_of (length b))) old mid) bytes c.lay.ensures.any_moment in
    let follows : Follows (Lays (at_of w) (sequence_of w) w.epoch (payloads_of w) (count_of w)) old mid =
    subst (λ (b : List ℕ). Follows (Lays (at_of w) (sequence_of w) w.epoch (log_pieces (log_sectors_of (length b)) b) (log_sectors_of (length b))) old mid) bytes c.lay.ensures.follows in
    let new = g.D.Disk.state c.sync.new.self in
    let new_disk = g.met.D.Disk.is_disk c.sync.new.self in
    subst (λ (v : Writer). Within (AddsFront v) old new) c.self.view_is
    (front_synced w old mid new old_disk new_disk ready room within follows c.sync.ensures.keeps)

pub returns-clause-any_moment : goal.returns-clause-any_moment
returns-clause-any_moment g c =
    let in_ = c.self.inside in
    let w : Writer = record { first = in_.first; count = in_.count; sequence = in_.sequence; epoch = in_.epoch; place = in_.place; appended = in_.appended.items } in
    let old = g.D.Disk.state c.args.disk.now in
    let mid = g.D.Disk.state c.lay.new.disk in
    let old_disk = g.met.D.Disk.is_disk c.args.disk.now in
    let ready : IsWriterReady w old = subst (λ (v : Writer). IsWriterReady v old) (sym c.self.view_is) c.requires.ready in
    let room : w.place + count_of w ≤ w.count = room_for w c.self.invariant.0 c.self.invariant.1 in
    let bytes = c.deref.ensures.value in
    let within : Within (Lays (at_of w) (sequence_of w) w.epoch (payloads_of w) (count_of w)) old mid =
    subst (λ (b : List ℕ). Within (Lays (at_of w) (sequence_of w) w.epoch (log_pieces (log_sectors_of (length b)) b) (log_sectors_of (length b))) old mid) bytes c.lay.ensures.any_moment in
    let follows : Follows (Lays (at_of w) (sequence_of w) w.epoch (payloads_of w) (count_of w)) old mid =
    subst (λ (b : List ℕ). Follows (Lays (at_of w) (sequence_of w) w.epoch (log_pieces (log_sectors_of (length b)) b) (log_sectors_of (length b))) old mid) bytes c.lay.ensures.follows in
    let new = g.D.Disk.state c.sync.new.self in
    let new_disk = g.met.D.Disk.is_disk c.sync.new.self in
    subst (λ (v : Writer). Within (AddsFront v) old new) c.self.view_is
    (front_synced w old mid new old_disk new_disk ready room within follows c.sync.ensures.keeps)

pub returns-clause-done : goal.returns-clause-done
returns-clause-done g c =
    let in_ = c.self.inside in
    let w : Writer = record { first = in_.first; count = in_.count; sequence = in_.sequence; epoch = in_.epoch; place = in_.place; appended = in_.appended.items } in
    let old = g.D.Disk.state c.args.disk.now in
    let mid = g.D.Disk.state c.lay.new.disk in
    let old_disk = g.met.D.Disk.is_disk c.args.disk.now in
    let ready : IsWriterReady w old = subst (λ (v : Writer). IsWriterReady v old) (sym c.self.view_is) c.requires.ready in
    let room : w.place + count_of w ≤ w.count = room_for w c.self.invariant.0 c.self.invariant.1 in
    let bytes = c.deref.ensures.value in
    let new = g.D.Disk.state c.sync.new.self in
    let new_disk = g.met.D.Disk.is_disk c.sync.new.self in
    let keeps = c.sync.ensures.keeps in
    let laid_mid : IsTrue old.tells → HasLaid (at_of w) (sequence_of w) w.epoch (payloads_of w) (count_of w) old.shown mid.shown =
    subst (λ (b : List ℕ). IsTrue old.tells → HasLaid (at_of w) (sequence_of w) w.epoch (log_pieces (log_sectors_of (length b)) b) (log_sectors_of (length b)) old.shown mid.shown) bytes
    (at_ok c.lay.result (IsTrue old.tells → HasLaid (at_of w) (sequence_of w) w.epoch (log_pieces (log_sectors_of (length c.deref.result.now)) c.deref.result.now) (log_sectors_of (length c.deref.result.now)) old.shown mid.shown) (sym c.if-is_err.ensures.value) c.lay.ensures.shown) in
    let laid : IsTrue old.tells → HasLaid (at_of w) (sequence_of w) w.epoch (payloads_of w) (count_of w) old.shown new.shown = λ tells.
    subst (λ (i : Image). HasLaid (at_of w) (sequence_of w) w.epoch (payloads_of w) (count_of w) old.shown i) (sym keeps.shown) (laid_mid tells) in
    let same : new.tells ≡ old.tells = keeps.stays.tells ∙ c.lay.ensures.stays.tells in
    let only = at_ok c.sync.result (Only new.shown new) (sym c.if-is_err-2.ensures.value) c.sync.ensures.synced in
    subst (λ (v : Writer). Follows (AddsAll v) old new) c.self.view_is
    (all_follows w old mid new old_disk new_disk ready room same only laid)

pub returns-clause-shown : goal.returns-clause-shown
returns-clause-shown g c =
    let in_ = c.self.inside in
    let w : Writer = record { first = in_.first; count = in_.count; sequence = in_.sequence; epoch = in_.epoch; place = in_.place; appended = in_.appended.items } in
    let old = g.D.Disk.state c.args.disk.now in
    let mid = g.D.Disk.state c.lay.new.disk in
    let old_disk = g.met.D.Disk.is_disk c.args.disk.now in
    let ready : IsWriterReady w old = subst (λ (v : Writer). IsWriterReady v old) (sym c.self.view_is) c.requires.ready in
    let room : w.place + count_of w ≤ w.count = room_for w c.self.invariant.0 c.self.invariant.1 in
    let bytes = c.deref.ensures.value in
    let new = g.D.Disk.state c.sync.new.self in
    let new_disk = g.met.D.Disk.is_disk c.sync.new.self in
    let keeps = c.sync.ensures.keeps in
    let laid_mid : IsTrue old.tells → HasLaid (at_of w) (sequence_of w) w.epoch (payloads_of w) (count_of w) old.shown mid.shown =
    subst (λ (b : List ℕ). IsTrue old.tells → HasLaid (at_of w) (sequence_of w) w.epoch (log_pieces (log_sectors_of (length b)) b) (log_sectors_of (length b)) old.shown mid.shown) bytes
    (at_ok c.lay.result (IsTrue old.tells → HasLaid (at_of w) (sequence_of w) w.epoch (log_pieces (log_sectors_of (length c.deref.result.now)) c.deref.result.now) (log_sectors_of (length c.deref.result.now)) old.shown mid.shown) (sym c.if-is_err.ensures.value) c.lay.ensures.shown) in
    let laid : IsTrue old.tells → HasLaid (at_of w) (sequence_of w) w.epoch (payloads_of w) (count_of w) old.shown new.shown = λ tells.
    subst (λ (i : Image). HasLaid (at_of w) (sequence_of w) w.epoch (payloads_of w) (count_of w) old.shown i) (sym keeps.shown) (laid_mid tells) in
    let same : new.tells ≡ old.tells = keeps.stays.tells ∙ c.lay.ensures.stays.tells in
    let only = at_ok c.sync.result (Only new.shown new) (sym c.if-is_err-2.ensures.value) c.sync.ensures.synced in
    subst (λ (v : Writer). IsTrue old.tells → AddsAll v old.shown new.shown) c.self.view_is
    (all_shown w old mid new old_disk new_disk ready room laid)

pub returns-clause-ready : goal.returns-clause-ready
returns-clause-ready g c =
    let in_ = c.self.inside in
    let w : Writer = record { first = in_.first; count = in_.count; sequence = in_.sequence; epoch = in_.epoch; place = in_.place; appended = in_.appended.items } in
    let old = g.D.Disk.state c.args.disk.now in
    let mid = g.D.Disk.state c.lay.new.disk in
    let old_disk = g.met.D.Disk.is_disk c.args.disk.now in
    let ready : IsWriterReady w old = subst (λ (v : Writer). IsWriterReady v old) (sym c.self.view_is) c.requires.ready in
    let room : w.place + count_of w ≤ w.count = room_for w c.self.invariant.0 c.self.invariant.1 in
    let bytes = c.deref.ensures.value in
    let new = g.D.Disk.state c.sync.new.self in
    let new_disk = g.met.D.Disk.is_disk c.sync.new.self in
    let keeps = c.sync.ensures.keeps in
    let laid_mid : IsTrue old.tells → HasLaid (at_of w) (sequence_of w) w.epoch (payloads_of w) (count_of w) old.shown mid.shown =
    subst (λ (b : List ℕ). IsTrue old.tells → HasLaid (at_of w) (sequence_of w) w.epoch (log_pieces (log_sectors_of (length b)) b) (log_sectors_of (length b)) old.shown mid.shown) bytes
    (at_ok c.lay.result (IsTrue old.tells → HasLaid (at_of w) (sequence_of w) w.epoch (log_pieces (log_sectors_of (length c.deref.result.now)) c.deref.result.now) (log_sectors_of (length c.deref.result.now)) old.shown mid.shown) (sym c.if-is_err.ensures.value) c.lay.ensures.shown) in
    let laid : IsTrue old.tells → HasLaid (at_of w) (sequence_of w) w.epoch (payloads_of w) (count_of w) old.shown new.shown = λ tells.
    subst (λ (i : Image). HasLaid (at_of w) (sequence_of w) w.epoch (payloads_of w) (count_of w) old.shown i) (sym keeps.shown) (laid_mid tells) in
    let same : new.tells ≡ old.tells = keeps.stays.tells ∙ c.lay.ensures.stays.tells in
    let only = at_ok c.sync.result (Only new.shown new) (sym c.if-is_err-2.ensures.value) c.sync.ensures.synced in
    let length_is : c.len.result ≡ length in_.appended.items = omega (arith, in_.appended.ok) in
    let n : c.sectors_of-sectors.result ≡ count_of w = c.sectors_of-sectors.ensures ∙ ap log_sectors_of length_is in
    let behind : ℕ → List ℕ → Writer = λ k l. record { first = in_.first; count = in_.count; sequence = in_.sequence; epoch = in_.epoch; place = in_.place + k; appended = l } in
    λ image left.
    subst (λ k. IsAtEnd (behind k c.clear.new.self.items) image) (sym n)
    (subst (λ (l : List ℕ). IsAtEnd (behind (count_of w) l) image) (sym c.clear.ensures.items)
    (all_ready w old mid new old_disk new_disk ready room same only laid image left))
