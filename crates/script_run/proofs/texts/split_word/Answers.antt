use Rattle.std.proofs.Common.{◌≡◌, ℕ, List, ◌-◌, length, take, drop, ap, sym, subst, ◌∙◌, arith, length-drop}
use Rattle.std.proofs.lemmas.List.{take_all}
use Rattle.model_system.specs.Texts.{words}
use Rattle.tm_types.specs.Segment.{IsSegmentText}
use Rattle.script_run.specs.TextRuns.{blanks_before, word_length}
use Rattle.script_run.proofs.Words.{split_first, split_behind, word_taken, word_size}
use Rattle.script_run.proofs.SegmentTexts.{take_text, drop_text}
use Rattle.script_run.proofs.texts.split_word.Goals as goal

all_behind : (n : ℕ) (text : List ℕ) → take (length text - n) (drop n text) ≡ drop n text
all_behind n text = take_all (length text - n) (drop n text) (omega (arith, length-drop n text))

pub returns-clause-first : goal.returns-clause-first
returns-clause-first c =
    let text = c.args.text.now in
    let rest = take (length text - c.blanks_before.result) (drop c.blanks_before.result text) in
    let at : rest ≡ drop (blanks_before text) text = all_behind c.blanks_before.result text ∙ ap (λ n. drop n text) c.blanks_before.ensures.value in
    c.first_word-word.ensures ∙ word_taken rest ∙ split_first text rest at

pub returns-clause-behind : goal.returns-clause-behind
returns-clause-behind c =
    let text = c.args.text.now in
    let rest = take (length text - c.blanks_before.result) (drop c.blanks_before.result text) in
    let at : rest ≡ drop (blanks_before text) text = all_behind c.blanks_before.result text ∙ ap (λ n. drop n text) c.blanks_before.ensures.value in
    let size : length c.first_word-word.result.now ≡ word_length rest = ap length c.first_word-word.ensures ∙ word_size rest in
    ap words (all_behind (length c.first_word-word.result.now) rest) ∙ ap (λ n. words (drop n rest)) size ∙ split_behind text rest at

pub returns-clause-first_text : goal.returns-clause-first_text
returns-clause-first_text c = λ text.
    let rest : List ℕ = take (length c.args.text.now - c.blanks_before.result) (drop c.blanks_before.result c.args.text.now) in
    let is_text : IsSegmentText rest = take_text _ _ (drop_text c.blanks_before.result c.args.text.now text) in
    subst IsSegmentText (sym (c.first_word-word.ensures ∙ word_taken rest)) (take_text (word_length rest) rest is_text)
