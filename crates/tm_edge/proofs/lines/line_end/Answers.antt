use Rattle.std.proofs.Common.{◌∙◌, ℕ, List, sym, ap}
use Rattle.std.specs.Prelude.{position, ◌==◌, Some, None}
use Rattle.std.proofs.lemmas.List.{take_rest}
use Rattle.tm_edge.proofs.FirstLine.{found_behind}
use Rattle.tm_edge.proofs.lines.line_end.Goals as goal

pub returns-in-Some : goal.returns-in-Some
returns-in-Some c = found_behind c.args.seen c.args.held.now (Some c.in-Some.n) c.requires.clear c.requires.within
    (sym c.in-Some.is ∙ c.lf_place.ensures ∙ ap (λ (xs : List ℕ). position (λ b. b == 10) xs) (take_rest c.args.held.now c.args.seen))

pub returns-in-None : goal.returns-in-None
returns-in-None c = found_behind c.args.seen c.args.held.now None c.requires.clear c.requires.within
    (sym c.in-None.is ∙ c.lf_place.ensures ∙ ap (λ (xs : List ℕ). position (λ b. b == 10) xs) (take_rest c.args.held.now c.args.seen))
