use Rattle.std.proofs.Common.{◌≡◌, ℕ, true, List, [], ◌∷◌, map, ap, subst, ◌∙◌, rules}
use Rattle.tm_types.specs.Words.{operands}
use Rattle.tm_types.specs.Segment.{are_printable}
use Rattle.model_session.specs.Lines.{first_long, input_text, kept_texts}
use Rattle.session_lines.specs.BlockReading.{IsStop}
use Rattle.session_lines.proofs.Stops.{first_stops}
use Rattle.session_lines.proofs.Printable.{printable_operands, text_at}
use Rattle.session_lines.proofs.asking.kept_segments.Goals as goal

pub add_segment-requires-in-loop-line : goal.add_segment-requires-in-loop-line
add_segment-requires-in-loop-line c =
    let line : are_printable c.line-item.result ≡ true =
    text_at c.further-line-items.result.now c.loop-line.line-index c.line-item.result c.loop-line.invariant.printable c.loop-line-test.true c.line-item.is in
    ap are_printable (c.operands.ensures ∙ ap operands c.bytes.ensures) ∙ printable_operands c.line-item.result line

pub returns-in_err-add_segment-clause-stopped : goal.returns-in_err-add_segment-clause-stopped
returns-in_err-add_segment-clause-stopped c =
    let text : c.input_text.result.now ≡ input_text c.args.block.now.line = c.input_text.ensures.value ∙ ap input_text c.line.ensures in
    let first = subst (λ (t : List ℕ). IsStop (first_long (t ∷ [])) c.in_err-add_segment.field-0.0) text c.in_err-add_segment.ensures.stopped in
    let stops : IsStop (first_long (kept_texts c.args.block.now)) c.in_err-add_segment.field-0.0 =
    first_stops (input_text c.args.block.now.line) (map operands c.args.block.now.further) c.in_err-add_segment.field-0.0 first in
    search (rules, stops)
