use Rattle.std.proofs.Common.{◌≡◌, ◌+◌, suc, ◌∷◌, drop, Ok, ap, sym, ◌∙◌, arith}
use Rattle.text_rows.specs.Refusals.{at_line}
use Rattle.text_rows.proofs.Reading.{line_at}
use Rattle.mfs_text.specs.BuiltFormat.{lines_in, added}
use Rattle.mfs_text.specs.Formats.{read_format, lines_from}
use Rattle.mfs_text.specs.Lines.{line_of_format, section_after}
use Rattle.mfs_text.proofs.Joining.{finished, next_read, last_read}
use Rattle.mfs_text.proofs.reader.read_format.Goals as goal

pub returns-then-is_last : goal.returns-then-is_last
returns-then-is_last c =
    let lines = c.args.lines.now in
    let i = c.loop-index.index in
    let number = c.args.first + i in
    let section = c.loop-index.section in
    let line = c.index-lines-index.result in
    let at : drop i lines ≡ line ∷ drop (i + 1) lines = line_at i lines line c.loop-index-test.true c.index-lines-index.is in
    last_read section (lines_in c.loop-index.built) c.in_ok-content.content (at_line number (line_of_format section number line)) (λ next. lines_from next (suc number) (drop (i + 1) lines))
    (read_format c.args.first lines) c.in_ok-content.ensures.value (sym c.is_last.ensures ∙ c.if-is_last.true)
    (ap (λ d. finished section (lines_in c.loop-index.built) (lines_from section number d)) (sym at) ∙ c.loop-index.invariant.read)
    ∙ ap Ok (sym c.format_of.ensures)

pub loop-index-preserved : goal.loop-index-preserved
loop-index-preserved c =
    let lines = c.args.lines.now in
    let i = c.loop-index.index in
    let number = c.args.first + i in
    let section = c.loop-index.section in
    let line = c.index-lines-index.result in
    let content = c.in_ok-content.content in
    let rest = drop (i + 1) lines in
    let after = section_after section content in
    let now = added section content (lines_in c.loop-index.built) in
    let at : drop i lines ≡ line ∷ rest = line_at i lines line c.loop-index-test.true c.index-lines-index.is in
    let more : c.args.first + (i + 1) ≡ suc number = omega arith in
    record {
      read =
          ap (λ b. finished c.section_after-next.result b (lines_from c.section_after-next.result (c.args.first + (i + 1)) rest)) c.in_ok-add.ensures.value
          ∙ ap (λ s. finished s now (lines_from s (c.args.first + (i + 1)) rest)) c.section_after-next.ensures
          ∙ ap (λ n. finished after now (lines_from after n rest)) more
          ∙ next_read section (lines_in c.loop-index.built) content (at_line number (line_of_format section number line)) (λ next. lines_from next (suc number) rest)
          (read_format c.args.first lines) c.in_ok-content.ensures.value c.in_ok-content.ensures.allowed (sym c.is_last.ensures ∙ c.if-is_last.false)
          (ap (λ d. finished section (lines_in c.loop-index.built) (lines_from section number d)) (sym at) ∙ c.loop-index.invariant.read);
      valid = c.in_ok-add.ensures.valid;
    }
