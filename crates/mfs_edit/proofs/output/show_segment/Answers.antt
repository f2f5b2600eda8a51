use Rattle.std.proofs.Common.{◌≡◌, ◌+◌, ◌++◌, ◌∷◌, [], take, ap, sym, ◌∙◌, append_assoc}
use Rattle.std.proofs.lemmas.List.{take_more}
use Rattle.model_system.specs.declared.message_field.MessageFieldLine.{MessageFieldLine}
use Rattle.model_system.specs.ScreenPage.{page_of, pieces_of}
use Rattle.mfs_edit.specs.Pieces.{left_by_field, piece_of}
use Rattle.mfs_edit.proofs.Pieces.{rest_more, pieces_more}
use Rattle.mfs_edit.proofs.output.show_segment.Goals as goal

pub loop-line-preserved : goal.loop-line-preserved
loop-line-preserved c =
    let lines = c.args.lines.now in
    let text = c.args.text.now in
    let i = c.loop-line.line-index in
    let line = c.line-item.result in
    let so_far = pieces_of (take i lines) text in
    let more : take (i + 1) lines ≡ take i lines ++ line ∷ [] =
    take_more lines i line c.loop-line-test.true ∙ ap (λ (l : MessageFieldLine). take i lines ++ l ∷ []) (sym c.line-item.is) in
    record {
      page = c.show_field-rest.ensures.page;
      rest = c.show_field-rest.ensures.rest ∙ ap (left_by_field line.content) c.loop-line.invariant.rest ∙ sym (rest_more lines i line text more);
      shown = λ done before.
          c.show_field-rest.ensures.shown (done ++ so_far) (c.loop-line.invariant.shown done before)
          ∙ ap (page_of c.args.fields.now) (append_assoc done so_far (piece_of line.content c.loop-line.rest.now)
          ∙ ap (λ ps. done ++ ps) (ap (λ r. so_far ++ piece_of line.content r) c.loop-line.invariant.rest ∙ sym (pieces_more lines i line text more)));
    }
