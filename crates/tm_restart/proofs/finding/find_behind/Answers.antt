use Rattle.std.proofs.Common.{◌≡◌, Ok, Some, None, sym, ◌∙◌, arith}
use Rattle.tm_disk.specs.Disk.{Image}
use Rattle.tm_disk.proofs.Words.{keeps_on}
use Rattle.restart_data.specs.Restart.{restart_in}
use Rattle.model_system.specs.Areas.{is_single, snapshot_area}
use Rattle.model_image.specs.Text.{text_in, first_difference}
use Rattle.tm_restart.specs.FoundImage.{TellsFound}
use Rattle.tm_restart.proofs.Seen.{other_seen}
use Rattle.openings.proofs.Reading.{told_before, told_behind}
use Rattle.tm_restart.proofs.FoundBehind.{found_cause, found_size}
use Rattle.tm_restart.proofs.finding.find_behind.Goals as goal

pub find_rest-requires-clause-has : goal.find_rest-requires-clause-has
find_rest-requires-clause-has g c =
    let old = g.D.Disk.state c.args.disk.now in
    let mid = g.D.Disk.state c.text_difference.new.disk in
    told_behind (λ (i : Image). restart_in (snapshot_area c.args.system.now) (is_single c.args.system.now) i ≡ Ok (Some c.args.restart)) old mid c.in-Ok-None.ensures.keeps c.requires.has

pub find_rest-requires-clause-same : goal.find_rest-requires-clause-same
find_rest-requires-clause-same g c =
    let old = g.D.Disk.state c.args.disk.now in
    let mid = g.D.Disk.state c.text_difference.new.disk in
    told_behind (λ (i : Image). first_difference c.args.text.now (text_in i c.args.restart.text) ≡ None) old mid c.in-Ok-None.ensures.keeps
    (λ tells. sym (sym c.in-Ok-None.field-0-is ∙ c.in-Ok-None.ensures.value tells))

pub returns-in-Ok-None-clause-size : goal.returns-in-Ok-None-clause-size
returns-in-Ok-None-clause-size g c =
    found_size c.args.system.now (g.D.Disk.state c.args.disk.now) (g.D.Disk.state c.text_difference.new.disk) c.find_rest.result c.in-Ok-None.ensures.keeps c.find_rest.ensures.size

pub returns-in-Ok-None-clause-value : goal.returns-in-Ok-None-clause-value
returns-in-Ok-None-clause-value g c =
    told_before (λ (i : Image). TellsFound c.args.system.now c.args.text.now i c.find_rest.result) (g.D.Disk.state c.args.disk.now) (g.D.Disk.state c.text_difference.new.disk) c.in-Ok-None.ensures.keeps c.find_rest.ensures.value

pub returns-in-Ok-None-clause-keeps : goal.returns-in-Ok-None-clause-keeps
returns-in-Ok-None-clause-keeps g c =
    keeps_on (g.D.Disk.state c.args.disk.now) (g.D.Disk.state c.text_difference.new.disk) (g.D.Disk.state c.find_rest.new.disk) (g.met.D.Disk.is_disk c.args.disk.now) c.in-Ok-None.ensures.keeps c.find_rest.ensures.keeps

pub returns-in-Ok-None-clause-cause : goal.returns-in-Ok-None-clause-cause
returns-in-Ok-None-clause-cause g c =
    found_cause (g.D.Disk.state c.args.disk.now) (g.D.Disk.state c.text_difference.new.disk) (g.D.Disk.state c.find_rest.new.disk) c.find_rest.result (g.met.D.Disk.is_disk c.args.disk.now) c.in-Ok-None.ensures.keeps c.in-Ok-None.ensures.no_fault c.find_rest.ensures.cause

pub returns-in-Ok-Some-clause-value : goal.returns-in-Ok-Some-clause-value
returns-in-Ok-Some-clause-value g c tells =
    other_seen c.args.system.now c.args.text.now (g.D.Disk.state c.args.disk.now).shown c.args.restart c.in-Ok-Some.place _ (c.requires.has tells) (sym c.in-Ok-Some.field-0-is ∙ c.in-Ok-Some.ensures.value tells)
    (λ fits. c.place_in.ensures (omega (arith, fits)))
