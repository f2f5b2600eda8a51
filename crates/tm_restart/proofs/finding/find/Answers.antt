use Rattle.std.proofs.Common.{ℕ, Bool, Ok, Err, sym, subst, ap, ◌∙◌}
use Rattle.tm_disk.specs.Disk.{Image}
use Rattle.tm_disk.proofs.Words.{keeps_on}
use Rattle.restart_data.specs.Restart.{restart_in}
use Rattle.model_system.specs.Areas.{is_single}
use Rattle.restart_data.specs.WrittenSectors.{TellsRestart}
use Rattle.tm_restart.specs.FoundImage.{TellsFound}
use Rattle.tm_restart.proofs.Seen.{bad_first}
use Rattle.openings.proofs.Reading.{told_before, read_cause}
use Rattle.tm_restart.proofs.finding.find.Goals as goal

pub returns-in-Err-Bad-clause-value : goal.returns-in-Err-Bad-clause-value
returns-in-Err-Bad-clause-value g c tells =
    let old = g.D.Disk.state c.args.disk.now in
    rw (c.in-Err-Bad.field-0-is)
    (bad_first c.args.system.now c.args.text.now old.shown c.in-Err-Bad.rule
    (ap (λ (n : ℕ). restart_in n (is_single c.args.system.now) old.shown) (sym c.snapshot_area.ensures.value)
    ∙ ap (λ (b : Bool). restart_in c.snapshot_area.result b old.shown) (sym c.is_single.ensures)
    ∙ subst (λ fault. TellsRestart (Err fault) (restart_in c.snapshot_area.result c.is_single.result old.shown)) c.in-Err-Bad.field-0-is (c.in-Err-Bad.ensures.value tells)))

pub returns-in-Ok-clause-value : goal.returns-in-Ok-clause-value
returns-in-Ok-clause-value g c =
    told_before (λ (i : Image). TellsFound c.args.system.now c.args.text.now i (Ok c.in-Ok.found)) (g.D.Disk.state c.args.disk.now) (g.D.Disk.state c.read_restart.new.disk) c.in-Ok-Some.ensures.keeps c.in-Ok.ensures.value

pub returns-in-Ok-clause-keeps : goal.returns-in-Ok-clause-keeps
returns-in-Ok-clause-keeps g c =
    keeps_on (g.D.Disk.state c.args.disk.now) (g.D.Disk.state c.read_restart.new.disk) (g.D.Disk.state c.find_behind.new.disk) (g.met.D.Disk.is_disk c.args.disk.now) c.in-Ok-Some.ensures.keeps c.in-Ok.ensures.keeps

pub returns-in-Err-clause-cause : goal.returns-in-Err-clause-cause
returns-in-Err-clause-cause g c =
    read_cause (g.D.Disk.state c.args.disk.now) (g.D.Disk.state c.read_restart.new.disk) (g.D.Disk.state c.find_behind.new.disk) (Err c.in-Err.error) (g.met.D.Disk.is_disk c.args.disk.now) c.in-Ok-Some.ensures.keeps c.in-Ok-Some.ensures.cause c.in-Err.ensures.cause
