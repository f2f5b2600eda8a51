use Rattle.std.proofs.Common.{◌∙◌}
use Rattle.mfs_edit.proofs.Setting.{blank_is_page, blank_page}
use Rattle.mfs_edit.proofs.output.blank_rows.Goals as goal

pub returns-clause-page : goal.returns-clause-page
returns-clause-page c = blank_is_page _ c.in_ok-from_array.ensures.items

pub returns-clause-blank : goal.returns-clause-blank
returns-clause-blank c = λ fields. c.in_ok-from_array.ensures.items ∙ blank_page fields
