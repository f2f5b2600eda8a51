use Rattle.std.proofs.Common.{◌<◌, sym, arith, IsTrue}
use Rattle.tm_disk.specs.Disk.{Follows, Only}
use Rattle.tm_disk.proofs.Words.{stays_on}
use Rattle.openings.specs.ColdWrites.{Clears, IsLaid}
use Rattle.openings.proofs.ThreeSteps.{begins_second, prepared, begins_third, written_all, on_ok}
use Rattle.openings.proofs.beginning.begin.Goals as goal
use Rattle.tm_disk.proofs.States.{at_ok}

pub returns-clause-any_moment : goal.returns-clause-any_moment
returns-clause-any_moment g c =
    let old = g.D.Disk.state c.args.disk.now in
    let mid = g.D.Disk.state c.clear_restart.new.disk in
    let last = g.D.Disk.state c.lay.new.disk in
    let new = g.D.Disk.state c.write_restart.new.disk in
    let places = c.args.places.now in
    let text = c.args.text.now in
    let bytes = c.args.bytes.now in
    let now = c.args.now.now in
    let old_disk = g.met.D.Disk.is_disk c.args.disk.now in
    let mid_disk = g.met.D.Disk.is_disk c.clear_restart.new.disk in
    let last_disk = g.met.D.Disk.is_disk c.lay.new.disk in
    let some : 0 < old.size = omega (arith, c.requires.within, c.requires.first, c.requires.apart) in
    let more : 0 < last.size = omega (arith, some, c.clear_restart.ensures.stays.size, c.lay.ensures.stays.size) in
    let cleared : Follows Clears old mid = at_ok c.clear_restart.result (Follows Clears old mid) (sym c.if-is_err.ensures.value) c.clear_restart.ensures.done in
    let shown : IsTrue mid.tells → IsLaid places text bytes last.shown = at_ok c.lay.result (IsTrue mid.tells → IsLaid places text bytes last.shown) (sym c.if-is_err-2.ensures.value) c.lay.ensures.shown in
    let only : Only last.shown last = at_ok c.lay.result (Only last.shown last) (sym c.if-is_err-2.ensures.value) c.lay.ensures.synced in
    begins_third places text bytes now old old_disk some c.requires.value c.requires.short c.requires.first (omega (arith, c.requires.apart)) mid last new last_disk more
    (begins_second places text bytes now old old_disk some mid last c.clear_restart.ensures.any_moment cleared c.lay.ensures.any_moment)
    (prepared places text bytes now old old_disk some mid last mid_disk last_disk c.lay.ensures.stays.tells cleared c.lay.ensures.follows shown only)
    c.write_restart.ensures.any_moment

pub returns-clause-done : goal.returns-clause-done
returns-clause-done g c =
    let old = g.D.Disk.state c.args.disk.now in
    let mid = g.D.Disk.state c.clear_restart.new.disk in
    let last = g.D.Disk.state c.lay.new.disk in
    let new = g.D.Disk.state c.write_restart.new.disk in
    let places = c.args.places.now in
    let text = c.args.text.now in
    let bytes = c.args.bytes.now in
    let now = c.args.now.now in
    let old_disk = g.met.D.Disk.is_disk c.args.disk.now in
    let mid_disk = g.met.D.Disk.is_disk c.clear_restart.new.disk in
    let last_disk = g.met.D.Disk.is_disk c.lay.new.disk in
    let some : 0 < old.size = omega (arith, c.requires.within, c.requires.first, c.requires.apart) in
    let cleared : Follows Clears old mid = at_ok c.clear_restart.result (Follows Clears old mid) (sym c.if-is_err.ensures.value) c.clear_restart.ensures.done in
    let shown : IsTrue mid.tells → IsLaid places text bytes last.shown = at_ok c.lay.result (IsTrue mid.tells → IsLaid places text bytes last.shown) (sym c.if-is_err-2.ensures.value) c.lay.ensures.shown in
    let only : Only last.shown last = at_ok c.lay.result (Only last.shown last) (sym c.if-is_err-2.ensures.value) c.lay.ensures.synced in
    on_ok c.write_restart.result
    (written_all places text bytes now old old_disk some c.requires.value c.requires.short c.requires.first (omega (arith, c.requires.apart)) last new
    (prepared places text bytes now old old_disk some mid last mid_disk last_disk c.lay.ensures.stays.tells cleared c.lay.ensures.follows shown only))
    c.write_restart.ensures.done

pub returns-clause-stays : goal.returns-clause-stays
returns-clause-stays g c =
    let old = g.D.Disk.state c.args.disk.now in
    let mid = g.D.Disk.state c.clear_restart.new.disk in
    let last = g.D.Disk.state c.lay.new.disk in
    let new = g.D.Disk.state c.write_restart.new.disk in
    stays_on old mid new c.clear_restart.ensures.stays (stays_on mid last new c.lay.ensures.stays c.write_restart.ensures.stays)
