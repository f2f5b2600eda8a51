use Rattle.std.proofs.Common.{◌≡◌, ◌<◌, ◌∙◌, ap, sym, length, take, arith}
use Rattle.tm_edge.specs.Lines.{line_size}
use Rattle.std.specs.Str.Lines.{strip_carriage_return}
use Rattle.tm_edge.proofs.FirstLine.{text_cut, text_uncut, size_within}
use Rattle.tm_edge.proofs.lines.text_of.Goals as goal

pub returns-then-size-held-clause-text : goal.returns-then-size-held-clause-text
returns-then-size-held-clause-text c =
    let within : line_size c.args.held.now < length c.args.held.now = omega arith in
    c.without_cr.ensures ∙ ap (λ n. strip_carriage_return (take n c.args.held.now)) c.requires ∙ sym (text_cut c.args.held.now within)

pub returns-else-size-held-clause-text : goal.returns-else-size-held-clause-text
returns-else-size-held-clause-text c =
    let whole : line_size c.args.held.now ≡ length c.args.held.now = omega (arith, size_within c.args.held.now) in
    sym (text_uncut c.args.held.now whole)
