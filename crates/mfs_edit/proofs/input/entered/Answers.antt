use Rattle.mfs_edit.proofs.Printable.{good_texts}
use Rattle.mfs_edit.proofs.input.entered.Goals as goal

pub segments_of-requires : goal.segments_of-requires
segments_of-requires c =
    good_texts c.args.format.now c.args.fields.now c.as_slice-values.result.now c.input.result.now c.requires.rule c.input.ensures.valid c.requires.printable
    c.input.ensures.segments c.as_slice-values.ensures
