-- the text of each disk that can't be opened
use Rattle.std.proofs.Common.{◌≡◌, [], ◌∷◌, ◌++◌, codes, sym, ◌∙◌, ap, append_assoc}
use Rattle.std.specs.Prelude.{decimal}
use Rattle.tm_session.specs.declared.outcome.Ended.TheVariants.{Image}
use Rattle.model_session.specs.declared.asked.ImageRefused.TheVariants.{Rule, Text, Size}
use Rattle.tm_prog.specs.Status.{session_status_text}
use Rattle.tm_prog.proofs.run.image_status.Goals as goal

pub returns-in-Rule : goal.returns-in-Rule
returns-in-Rule c =
    c.add_two.ensures
    ∙ ap (λ n. c.args.out.now.text ++ (codes "STATUS 6 RULE " ++ decimal n ++ codes " SECTOR " ++ decimal c.from-sector.result ++ 10 ∷ [])) c.from-rule.ensures
    ∙ ap (λ n. c.args.out.now.text ++ session_status_text (Image (Rule c.in-Rule.rule n))) c.from-sector.ensures
    ∙ ap (λ r. c.args.out.now.text ++ session_status_text (Image r)) (sym c.in-Rule.is)

pub returns-in-Text : goal.returns-in-Text
returns-in-Text c =
    let all : c.push-in-Text.new.self.text ≡ c.args.out.now.text ++ (codes "STATUS 6 TEXT " ++ decimal c.from.result ++ 10 ∷ []) =
    rw (c.push-in-Text.ensures.text, c.push_number.ensures.text, c.push.ensures.text) (simp append_assoc) in
    all
    ∙ ap (λ n. c.args.out.now.text ++ session_status_text (Image (Text n))) c.from.ensures
    ∙ ap (λ r. c.args.out.now.text ++ session_status_text (Image r)) (sym c.in-Text.is)

pub returns-in-Size : goal.returns-in-Size
returns-in-Size c =
    c.add_two-in-Size.ensures
    ∙ ap (λ n. c.args.out.now.text ++ (codes "STATUS 6 SIZE " ++ decimal n ++ 32 ∷ [] ++ decimal c.from-has.result ++ 10 ∷ [])) c.from-needed.ensures
    ∙ ap (λ n. c.args.out.now.text ++ session_status_text (Image (Size c.in-Size.needed n))) c.from-has.ensures
    ∙ ap (λ r. c.args.out.now.text ++ session_status_text (Image r)) (sym c.in-Size.is)
