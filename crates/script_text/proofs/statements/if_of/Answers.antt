use Rattle.std.proofs.Common.{◌≡◌, ◌∷◌, [], false, sym, subst, IfOk}
use Rattle.std.specs.Prelude.{None}
use Rattle.script_text.specs.GoodStatement.{places_in, IsGood}
use Rattle.script_text.proofs.GoodStatements.{five_words}
use Rattle.script_text.proofs.statements.if_of.Goals as goal

pub returns-in-Some-Some-Some-Some-Some-None-clause-good :
    goal.returns-in-Some-Some-Some-Some-Some-None-clause-good
returns-in-Some-Some-Some-Some-Some-None-clause-good c =
    let s = c.in-Some-Some-Some-Some-Some-None in
    let words : c.args.words ≡ s.left.now ∷ s.comparison.now ∷ s.right.now ∷ s.goto.now ∷ s.label.now ∷ [] =
    five_words c.args.words c.next.new.self c.next-2.new.self c.next-3.new.self c.next-4.new.self c.next-5.new.self
    s.left.now s.comparison.now s.right.now s.goto.now s.label.now
    s.ensures.steps s.ensures'.steps s.ensures''.steps s.ensures'''.steps s.ensures''''.steps s.ensures'''''.steps.0 in
    λ here. subst (λ ws. IfOk c.if_with.result (λ read. IfOk read (IsGood (places_in c.args.labels.now) here ws false None))) (sym words) (c.if_with.ensures.good here)
