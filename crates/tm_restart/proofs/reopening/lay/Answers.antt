use Rattle.std.proofs.Common.{inl}
use Rattle.tm_restart.proofs.Laid.{laid_within, laid_counts, all_renewed, all_held}
use Rattle.tm_restart.proofs.reopening.lay.Goals as goal

pub returns-in-Ok-clause-value : goal.returns-in-Ok-clause-value
returns-in-Ok-clause-value g c tells = inl (c.requires.made_of tells).reopened

pub returns-in-Ok-clause-any_moment : goal.returns-in-Ok-clause-any_moment
returns-in-Ok-clause-any_moment g c =
    laid_within c.args.system.now c.args.text.now c.args.given.now c.args.parts c.args.lasting c.args.bytes.now c.args.now.now c.requires.prepared (g.D.Disk.state c.args.disk.now) (g.D.Disk.state c.renew.new.disk) (g.met.D.Disk.is_disk c.args.disk.now) c.requires.only c.requires.made_of c.in-Ok.ensures.any_moment

pub returns-in-Ok-clause-done : goal.returns-in-Ok-clause-done
returns-in-Ok-clause-done g c =
    all_renewed c.args.system.now c.args.text.now c.args.given.now c.args.parts c.args.lasting c.args.bytes.now c.args.now.now c.requires.prepared (g.D.Disk.state c.args.disk.now) (g.D.Disk.state c.renew.new.disk) (g.met.D.Disk.is_disk c.args.disk.now) c.requires.only c.requires.made_of c.in-Ok.ensures.done

pub returns-in-Ok-clause-stored : goal.returns-in-Ok-clause-stored
returns-in-Ok-clause-stored g c =
    all_held c.args.system.now c.args.text.now c.args.given.now c.args.parts c.args.lasting c.args.bytes.now c.args.now.now c.requires.prepared (g.D.Disk.state c.args.disk.now) (g.D.Disk.state c.renew.new.disk) (g.met.D.Disk.is_disk c.args.disk.now) c.requires.only c.requires.made_of c.in-Ok.ensures.done

pub returns-in-Err-clause-any_moment : goal.returns-in-Err-clause-any_moment
returns-in-Err-clause-any_moment g c =
    laid_within c.args.system.now c.args.text.now c.args.given.now c.args.parts c.args.lasting c.args.bytes.now c.args.now.now c.requires.prepared (g.D.Disk.state c.args.disk.now) (g.D.Disk.state c.renew.new.disk) (g.met.D.Disk.is_disk c.args.disk.now) c.requires.only c.requires.made_of c.in-Err.ensures.any_moment

pub returns-in-Ok-clause-counts : goal.returns-in-Ok-clause-counts
returns-in-Ok-clause-counts g c =
    laid_counts c.args.system.now c.args.text.now c.args.given.now c.args.parts c.args.lasting c.args.bytes.now c.args.now.now c.requires.prepared (g.D.Disk.state c.args.disk.now) (g.D.Disk.state c.renew.new.disk) (g.met.D.Disk.is_disk c.args.disk.now) c.requires.only c.requires.made_of c.in-Ok.ensures.any_moment

pub returns-in-Err-clause-counts : goal.returns-in-Err-clause-counts
returns-in-Err-clause-counts g c =
    laid_counts c.args.system.now c.args.text.now c.args.given.now c.args.parts c.args.lasting c.args.bytes.now c.args.now.now c.requires.prepared (g.D.Disk.state c.args.disk.now) (g.D.Disk.state c.renew.new.disk) (g.met.D.Disk.is_disk c.args.disk.now) c.requires.only c.requires.made_of c.in-Err.ensures.any_moment
