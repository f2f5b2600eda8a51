use Rattle.std.proofs.Common.{◌≡◌, ◌∷◌, true, ap, sym, ◌∙◌, subst, IfOk}
use Rattle.std.specs.List.{list_all}
use Rattle.tm_types.specs.Segment.{is_printable}
use Rattle.text_rows.specs.LowestRule.{both}
use Rattle.model_system.specs.Programs.{is_plain}
use Rattle.script_text.specs.GoodStatement.{are_all_printable}
use Rattle.script_text.specs.Values.{read_texts, with_read_text}
use Rattle.script_text.specs.WordLists.{and_last, and_more}
use Rattle.script_text.proofs.Lists.{one_text}
use Rattle.script_text.proofs.Printable.{plain_more, plain_given}
use Rattle.script_text.proofs.values.texts_of.Goals as goal
use Rattle.tm_types.proofs.Truths.{parts_true}

pub loop-word-preserved : goal.loop-word-preserved
loop-word-preserved c =
    let word = c.in-Some.word.now in
    let rest = c.next.new.self in
    let texts = c.loop-word.texts in
    let read = c.in_ok-text_of-2.field-0 in
    let words : c.loop-word.word-iterator ≡ word ∷ rest = c.in-Some.ensures.steps in
    let made : c.in_ok-texts-2.texts ≡ and_last texts read = c.in_ok-texts-2.ensures in
    let all : are_all_printable (c.args.first.now ∷ c.args.words) ≡ true → are_all_printable (word ∷ rest) ≡ true = λ p. ap are_all_printable (sym words) ∙ c.loop-word.invariant.3 p in (
      tt,
      tt,
      ap (λ t. and_more t (read_texts rest)) made ∙ one_text texts read (read_texts rest)
          ∙ ap (λ r. and_more texts (with_read_text (both r (read_texts rest)))) c.in_ok-text_of-2.ensures.value
          ∙ ap (λ ws. and_more texts (read_texts ws)) (sym words) ∙ c.loop-word.invariant.2,
      λ p. (parts_true (list_all is_printable word) (are_all_printable rest) (all p)).1,
      subst (λ ts. IfOk ts (λ t. are_all_printable (c.args.first.now ∷ c.args.words) ≡ true → list_all is_plain t ≡ true)) (sym made)
          (plain_more (are_all_printable (c.args.first.now ∷ c.args.words) ≡ true) texts read c.loop-word.invariant.4
          (plain_given (are_all_printable (c.args.first.now ∷ c.args.words) ≡ true) (list_all is_printable word ≡ true) read (λ p. (parts_true (list_all is_printable word) (are_all_printable rest) (all p)).0) c.in_ok-text_of-2.ensures.plain)),
    )
