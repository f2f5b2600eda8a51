use Rattle.std.proofs.Common.{◌≡◌, ◌∙◌, true, ap, rules}
use Rattle.tm_types.specs.Segment.{are_printable}
use Rattle.session_lines.specs.LastValues.{is_kept, values_of}
use Rattle.session_lines.proofs.Latest.{stays_latest}
use Rattle.session_lines.proofs.values.LastValues.put.Goals as goal

pub invariant_of-self-2 : goal.invariant_of-self-2
invariant_of-self-2 c =
    let text : are_printable c.in_ok-text.text ≡ true = ap are_printable c.in_ok-text.ensures ∙ c.requires in
    let kept : is_kept c.args.name (values_of c.self.inside.values.entries) ≡ true = ap (is_kept c.args.name) c.self.view_is ∙ search rules in
    stays_latest c.args.name c.in_ok-text.text c.self.inside.values.entries c.insert.new.self.entries c.in_ok-insert.ensures.entries text kept c.self.invariant
