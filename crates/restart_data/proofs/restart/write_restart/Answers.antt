use Rattle.std.proofs.Common.{◌≡◌, ℕ, List, sym, ◌∙◌, ap, arith}
use Rattle.tm_disk.specs.Disk.{HasWritten, with_sector, Only}
use Rattle.tm_disk.proofs.Words.{follows_shown}
use Rattle.restart_data.specs.Restart.{restart_sector}
use Rattle.restart_data.specs.WrittenSectors.{Restarts}
use Rattle.restart_data.proofs.ImageLaws.{restarts}
use Rattle.restart_data.proofs.restart.write_restart.Goals as goal
use Rattle.tm_disk.proofs.States.{at_ok}

pub returns-clause-shown : goal.returns-clause-shown
returns-clause-shown g c tells =
    let old = g.D.Disk.state c.args.disk.now in
    let mid = g.D.Disk.state c.write.new.self in
    let new = g.D.Disk.state c.sync.new.self in
    let done = at_ok c.write.result (HasWritten 0 c.seal.result old mid) (sym c.if-is_err.ensures.value) c.write.ensures.done in
    let set : new.shown ≡ with_sector old.shown 0 (restart_sector c.args.value.now) =
    c.sync.ensures.keeps.shown ∙ done.shown tells ∙ ap (λ (s : List ℕ). with_sector old.shown 0 s) c.seal.ensures.spelled in
    let disk = g.met.D.Disk.is_disk c.args.disk.now in
    restarts c.args.value.now c.requires.value c.seal.ensures.fits old.shown new.shown (omega (arith, disk.shown_size, c.requires.has_a_sector)) set

pub returns-clause-done : goal.returns-clause-done
returns-clause-done g c =
    let old = g.D.Disk.state c.args.disk.now in
    let mid = g.D.Disk.state c.write.new.self in
    let new = g.D.Disk.state c.sync.new.self in
    let same : new.tells ≡ old.tells = c.sync.ensures.keeps.stays.tells ∙ c.write.ensures.tried.stays.tells in
    let only : Only new.shown new = at_ok c.sync.result (Only new.shown new) (sym c.if-is_err-2.ensures.value) c.sync.ensures.synced in
    follows_shown (Restarts c.args.value.now) old new (g.met.D.Disk.is_disk c.args.disk.now) (g.met.D.Disk.is_disk c.sync.new.self) same only (returns-clause-shown g c)
