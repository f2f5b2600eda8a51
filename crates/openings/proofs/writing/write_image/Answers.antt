use Rattle.openings.proofs.ThreeSteps.{on_ok}
use Rattle.openings.proofs.FirstWritten.{begins_within, all_first}
use Rattle.openings.proofs.writing.write_image.Goals as goal

pub returns-clause-any_moment : goal.returns-clause-any_moment
returns-clause-any_moment g c =
    begins_within c.args.system.now c.args.text.now c.args.bytes.now c.args.now.now c.terminals-terminals.ensures.valid c.requires.records c.requires.first
    c.places-places.result c.places-places.ensures.value c.requires.sectors c.requires.few (g.D.Disk.state c.args.disk.now) (g.D.Disk.state c.begin.new.disk) c.begin.ensures.any_moment

pub returns-clause-done : goal.returns-clause-done
returns-clause-done g c =
    on_ok c.begin.result
    (all_first c.args.system.now c.args.text.now c.args.bytes.now c.args.now.now c.terminals-terminals.ensures.valid c.requires.records c.requires.first
    c.places-places.result c.places-places.ensures.value c.requires.sectors c.requires.few (g.D.Disk.state c.args.disk.now) (g.D.Disk.state c.begin.new.disk))
    c.begin.ensures.done
