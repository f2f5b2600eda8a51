-- what is copied is the front of what is left
use Rattle.std.proofs.Common.{◌≡◌, ◌+◌, ◌≤◌, ◌∙◌, sym, ap, length, rules}
use Rattle.std.specs.Prelude.{Some, slice_range}
use Rattle.tm_edge.proofs.Taken.{taken_part}
use Rattle.tm_edge.proofs.text_source.TextSourceSource.take.Goals as goal

pub returns-clause-taken : goal.returns-clause-taken
returns-clause-taken c =
    let part : c.copy_from_slice.new.self ≡ slice_range c.self.inside.text c.self.inside.at (c.self.inside.at + c.min-n.result) = search rules in
    let within : c.self.inside.at + c.min-n.result ≤ length c.self.inside.text = search rules in
    ap Some (sym c.self.view_is ∙ taken_part c.self.inside.at c.min-n.result c.self.inside.text c.copy_from_slice.new.self _ within part)
