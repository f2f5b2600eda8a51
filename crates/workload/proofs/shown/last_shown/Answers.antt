-- the next line may show a later reply; behind the last line none is left
use Rattle.std.proofs.Common.{◌∙◌, ap, sym, ℕ, List, Bor}
use Rattle.std.specs.Prelude.{Option}
use Rattle.std.specs.Option.{option_map}
use Rattle.text_rows.specs.Lines.{split_at}
use Rattle.workload.specs.ShownReply.{later, last_reply}
use Rattle.workload.proofs.Printed.{line_more, line_end}
use Rattle.workload.proofs.shown.last_shown.Goals as goal

abbrev text_in : Option (Bor (List ℕ)) → Option (List ℕ)
text_in = option_map (λ text. text.now)

abbrev parts_in : Option (Bor (List ℕ) × Bor (List ℕ)) → Option (List ℕ × List ℕ)
parts_in = option_map (λ parts. (parts.0.now, parts.1.now))

pub loop-line-preserved : goal.loop-line-preserved
loop-line-preserved c =
    line_more (text_in c.loop-line.last) (text_in c.later-last.result) (last_reply c.args.printed.now) c.loop-line.rest.now c.in-Some.line.now c.in-Some.behind.now
    (ap parts_in (sym c.in-Some.is) ∙ c.split_at.ensures)
    (c.later-last.ensures ∙ ap (later (text_in c.loop-line.last)) c.shown_on.ensures)
    c.loop-line.invariant

pub returns : goal.returns
returns c =
    line_end (text_in c.loop-line.last) (last_reply c.args.printed.now) c.loop-line.rest.now
    (ap parts_in (sym c.in_default.is) ∙ c.split_at.ensures)
    c.loop-line.invariant
