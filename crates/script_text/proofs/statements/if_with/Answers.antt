use Rattle.std.proofs.Common.{◌≡◌, ◌∷◌, [], true, false, ap, sym, ◌∙◌, subst, IfOk}
use Rattle.std.specs.Prelude.{None}
use Rattle.std.specs.List.{list_all}
use Rattle.tm_types.specs.Segment.{is_printable}
use Rattle.text_rows.specs.LowestRule.{both, also}
use Rattle.script_text.specs.GoodStatement.{are_all_printable, places_in, IsGood}
use Rattle.script_text.specs.Statements.{if_made}
use Rattle.script_text.proofs.GoodStatements.{if_value, if_good}
use Rattle.script_text.proofs.Printable.{plain_given}
use Rattle.script_text.proofs.statements.if_with.Goals as goal
use Rattle.tm_types.proofs.Truths.{parts_true}

pub returns-clause-value : goal.returns-clause-value
returns-clause-value c =
    c.if_made.ensures
    ∙ if_value _ _ _ _ _ c.in_ok-text_of.field-0 c.in_ok-text_of-2.field-0 c.comparison_of.result c.target_of.result c.goto_word.result c.both-front.result c.both-behind.result c.both.result c.also.result
    c.in_ok-text_of.ensures.value c.in_ok-text_of-2.ensures.value c.comparison_of.ensures c.target_of.ensures.value c.goto_word.ensures c.both-front.ensures.value c.both-behind.ensures.value c.both.ensures.value c.also.ensures.value

pub returns-clause-good : goal.returns-clause-good
returns-clause-good c = λ here.
    let l = c.args.left.now in
    let m = c.args.comparison.now in
    let r = c.args.right.now in
    let words = l ∷ m ∷ r ∷ c.args.goto.now ∷ c.args.label.now ∷ [] in
    let first = λ (p : are_all_printable words ≡ true). (parts_true (list_all is_printable l) (are_all_printable (m ∷ r ∷ c.args.goto.now ∷ c.args.label.now ∷ [])) p).0 in
    let second = λ (p : are_all_printable words ≡ true). (parts_true (list_all is_printable l) (are_all_printable (m ∷ r ∷ c.args.goto.now ∷ c.args.label.now ∷ [])) p).1 in
    let third = λ (p : are_all_printable words ≡ true). (parts_true (list_all is_printable m) (are_all_printable (r ∷ c.args.goto.now ∷ c.args.label.now ∷ [])) (second p)).1 in
    let fourth = λ (p : are_all_printable words ≡ true). (parts_true (list_all is_printable r) (are_all_printable (c.args.goto.now ∷ c.args.label.now ∷ [])) (third p)).0 in
    let made : if_made c.also.result ≡ if_made (also (both (both c.in_ok-text_of.field-0 c.comparison_of.result) (both c.in_ok-text_of-2.field-0 c.target_of.result)) c.goto_word.result) =
    ap if_made (c.also.ensures.value ∙ ap (λ b. also b c.goto_word.result) (c.both.ensures.value ∙ ap (λ f. both f c.both-behind.result) c.both-front.ensures.value ∙ ap (both (both c.in_ok-text_of.field-0 c.comparison_of.result)) c.both-behind.ensures.value)) in
    subst (λ read. IfOk read (IsGood (places_in c.args.labels.now) here words false None)) (sym (c.if_made.ensures ∙ made))
    (if_good (places_in c.args.labels.now) here words c.in_ok-text_of.field-0 c.in_ok-text_of-2.field-0 c.comparison_of.result c.target_of.result c.goto_word.result
    (plain_given (are_all_printable words ≡ true) (list_all is_printable l ≡ true) c.in_ok-text_of.field-0 first c.in_ok-text_of.ensures.plain)
    (plain_given (are_all_printable words ≡ true) (list_all is_printable r ≡ true) c.in_ok-text_of-2.field-0 fourth c.in_ok-text_of-2.ensures.plain)
    c.target_of.ensures.placed)
