use Rattle.std.proofs.Common.{sym}
use Rattle.tm_disk.specs.Disk.{Follows}
use Rattle.openings.specs.FirstImage.{IsFirstImage}
use Rattle.tm_restart.proofs.Renewed.{begun, may_begin, empties_within, raises_within, all_renewed, all_hold}
use Rattle.tm_restart.proofs.starting.lay.Goals as goal
use Rattle.tm_disk.proofs.States.{at_ok}

pub returns-then-is_err-clause-any_moment : goal.returns-then-is_err-clause-any_moment
returns-then-is_err-clause-any_moment g c =
    empties_within c.args.system.now c.args.text.now c.args.bytes.now c.args.parts c.args.lasting c.args.now.now c.requires.made c.requires.text (g.D.Disk.state c.args.disk.now) (g.D.Disk.state c.write_image.new.disk) c.write_image.ensures.any_moment

pub returns-clause-any_moment : goal.returns-clause-any_moment
returns-clause-any_moment g c =
    empties_within c.args.system.now c.args.text.now c.args.bytes.now c.args.parts c.args.lasting c.args.now.now c.requires.made c.requires.text (g.D.Disk.state c.args.disk.now) (g.D.Disk.state c.write_image.new.disk) c.write_image.ensures.any_moment

pub returns-clause-value : goal.returns-clause-value
returns-clause-value g c = begun c.args.system.now c.args.text.now c.args.bytes.now c.args.parts c.args.lasting c.args.now.now c.requires.made

pub returns-clause-begins : goal.returns-clause-begins
returns-clause-begins g c = may_begin c.args.system.now c.args.text.now c.args.bytes.now c.args.parts c.args.lasting c.args.now.now c.requires.made

pub returns-clause-done : goal.returns-clause-done
returns-clause-done g c =
    let old = g.D.Disk.state c.args.disk.now in
    let new = g.D.Disk.state c.write_image.new.disk in
    let written : Follows (λ before after. IsFirstImage c.args.system.now c.args.text.now c.args.bytes.now c.args.now.now after) old new =
    at_ok c.write_image.result (Follows (λ before after. IsFirstImage c.args.system.now c.args.text.now c.args.bytes.now c.args.now.now after) old new) (sym c.if-is_err.ensures.value) c.write_image.ensures.done in
    all_renewed c.args.system.now c.args.text.now c.args.bytes.now c.args.parts c.args.lasting c.args.now.now c.requires.made c.requires.text old new written

pub returns-clause-stored : goal.returns-clause-stored
returns-clause-stored g c =
    let old = g.D.Disk.state c.args.disk.now in
    let new = g.D.Disk.state c.write_image.new.disk in
    let written : Follows (λ before after. IsFirstImage c.args.system.now c.args.text.now c.args.bytes.now c.args.now.now after) old new =
    at_ok c.write_image.result (Follows (λ before after. IsFirstImage c.args.system.now c.args.text.now c.args.bytes.now c.args.now.now after) old new) (sym c.if-is_err.ensures.value) c.write_image.ensures.done in
    all_hold c.args.system.now c.args.text.now c.args.bytes.now c.args.parts c.args.lasting c.args.now.now c.requires.made c.requires.text old new written

pub returns-then-is_err-clause-counts : goal.returns-then-is_err-clause-counts
returns-then-is_err-clause-counts g c =
    raises_within c.args.system.now c.args.text.now c.args.bytes.now c.args.parts c.args.lasting c.args.now.now c.requires.made c.requires.text (g.D.Disk.state c.args.disk.now) (g.D.Disk.state c.write_image.new.disk) c.write_image.ensures.any_moment

pub returns-clause-counts : goal.returns-clause-counts
returns-clause-counts g c =
    raises_within c.args.system.now c.args.text.now c.args.bytes.now c.args.parts c.args.lasting c.args.now.now c.requires.made c.requires.text (g.D.Disk.state c.args.disk.now) (g.D.Disk.state c.write_image.new.disk) c.write_image.ensures.any_moment
