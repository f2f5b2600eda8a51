-- the text of each status
use Rattle.std.proofs.Common.{[], ◌∷◌, ◌++◌, codes, sym, ◌∙◌, ap}
use Rattle.std.specs.Prelude.{decimal}
use Rattle.tm_session.specs.declared.outcome.Ended.TheVariants.{Words, BadLine, BadCross}
use Rattle.tm_prog.specs.Status.{session_status_text}
use Rattle.tm_prog.proofs.run.status_line.Goals as goal

pub returns-in-Words : goal.returns-in-Words
returns-in-Words c =
    c.add_two.ensures
    ∙ ap (λ n. c.args.out.now.text ++ (codes "STATUS 1 WORD " ++ decimal n ++ codes " RULE " ++ decimal c.from-rule.result ++ 10 ∷ [])) c.from-word.ensures
    ∙ ap (λ n. c.args.out.now.text ++ session_status_text (Words c.in-Words.word n)) c.from-rule.ensures
    ∙ ap (λ s. c.args.out.now.text ++ session_status_text s) (sym c.in-Words.is)

pub returns-in-BadLine : goal.returns-in-BadLine
returns-in-BadLine c =
    c.add_two-in-BadLine.ensures
    ∙ ap (λ n. c.args.out.now.text ++ (codes "STATUS 2 LINE " ++ decimal n ++ codes " RULE " ++ decimal c.from-rule-in-BadLine.result ++ 10 ∷ [])) c.from-line.ensures
    ∙ ap (λ n. c.args.out.now.text ++ session_status_text (BadLine c.in-BadLine.line n)) c.from-rule-in-BadLine.ensures
    ∙ ap (λ s. c.args.out.now.text ++ session_status_text s) (sym c.in-BadLine.is)

pub returns-in-BadCross : goal.returns-in-BadCross
returns-in-BadCross c =
    c.add_two-in-BadCross.ensures
    ∙ ap (λ n. c.args.out.now.text ++ (codes "STATUS 2 LINE " ++ decimal n ++ codes " CROSS " ++ decimal c.from-rule-in-BadCross.result ++ 10 ∷ [])) c.from-line-in-BadCross.ensures
    ∙ ap (λ n. c.args.out.now.text ++ session_status_text (BadCross c.in-BadCross.line n)) c.from-rule-in-BadCross.ensures
    ∙ ap (λ s. c.args.out.now.text ++ session_status_text s) (sym c.in-BadCross.is)

pub returns-in-Down : goal.returns-in-Down
returns-in-Down c = c.push.ensures.text ∙ ap (λ s. c.args.out.now.text ++ session_status_text s) (sym c.in-Down.is)

pub returns-in-Spent : goal.returns-in-Spent
returns-in-Spent c = c.push-in-Spent.ensures.text ∙ ap (λ s. c.args.out.now.text ++ session_status_text s) (sym c.in-Spent.is)

pub returns-in-Read : goal.returns-in-Read
returns-in-Read c = c.push-in-Read.ensures.text ∙ ap (λ s. c.args.out.now.text ++ session_status_text s) (sym c.in-Read.is)

pub returns-in-Memory : goal.returns-in-Memory
returns-in-Memory c = c.push-in-Memory.ensures.text ∙ ap (λ s. c.args.out.now.text ++ session_status_text s) (sym c.in-Memory.is)
