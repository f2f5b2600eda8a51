use Rattle.mfs_text.specs.BuiltFormat.{lines_in}
use Rattle.mfs_text.proofs.GoodFormats.{added_on}
use Rattle.mfs_text.proofs.built.add.Goals as goal

pub returns-clause-valid : goal.returns-clause-valid
returns-clause-valid c =
    added_on c.add_line.result c.args.section c.args.line (lines_in c.args.built.now) (lines_in c.add_line.new.built) c.requires.line c.requires.lines c.add_line.ensures
