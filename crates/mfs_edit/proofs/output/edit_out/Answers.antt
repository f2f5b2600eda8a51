use Rattle.std.proofs.Common.{◌≡◌, List, [], ◌++◌, length, take, ap, sym, ◌∙◌, refl, add-one}
use Rattle.std.specs.Prelude.{Some, slice_get}
use Rattle.std.proofs.lemmas.Option.{slice_get_read}
use Rattle.model_system.specs.declared.device_field.DeviceField.{DeviceField}
use Rattle.model_system.specs.declared.message_field.MessageFieldLine.{MessageFieldLine}
use Rattle.model_system.specs.declared.segment_line.SegmentLine.{SegmentLine}
use Rattle.model_system.specs.FormatRule.{clashing_field}
use Rattle.model_system.specs.ScreenPage.{page_of, pieces_of, all_pieces, shown_page}
use Rattle.mfs_edit.proofs.Pieces.{segment_more, segment_past}
use Rattle.mfs_edit.proofs.Rules.{no_clash}
use Rattle.mfs_edit.proofs.output.edit_out.Goals as goal

pub returns-in_default : goal.returns-in_default
unfolding shown_page
returns-in_default c =
    c.of.ensures ∙ c.loop-index.invariant.shown
    ∙ ap (page_of c.args.format.now.fields) (segment_past c.loop-index.index c.args.format.now.output c.args.segments.now (sym c.in_default.ensures))

pub show_segment-requires-clause-rule : goal.show_segment-requires-clause-rule
show_segment-requires-clause-rule c =
    ap (λ (fields : List DeviceField). clashing_field [] fields) c.fields-in-loop-index.ensures.fields ∙ no_clash c.args.format.now c.requires

pub loop-index-preserved : goal.loop-index-preserved
loop-index-preserved c =
    let fields = c.args.format.now.fields in
    let output = c.args.format.now.output in
    let segments = c.args.segments.now in
    let i = c.loop-index.index in
    let line = c.line-item.result in
    let segment = c.in-Some.segment.now in
    let done = all_pieces (take i output) segments in
    let same : c.fields-in-loop-index.result.now ≡ fields = c.fields-in-loop-index.ensures.fields in
    let items : c.output-line-items.result.now ≡ output = c.output-line-items.ensures.segments in
    let at : slice_get output i ≡ Some line =
    ap (λ (ls : List SegmentLine). slice_get ls i) (sym items)
    ∙ slice_get_read c.output-line-items.result.now (length c.output-line-items.result.now) i line refl c.loop-index-test.true c.line-item.is in
    let before : c.loop-index.rows.items ≡ page_of c.fields-in-loop-index.result.now done = c.loop-index.invariant.shown ∙ ap (λ (fs : List DeviceField). page_of fs done) (sym same) in
    let pieces : pieces_of c.as_slice.result.now c.text.result.now ≡ pieces_of line.fields segment =
    ap (λ (ls : List MessageFieldLine). pieces_of ls c.text.result.now) c.as_slice.ensures ∙ ap (pieces_of line.fields) c.text.ensures.value in
    record {
      page = c.show_segment.ensures.page;
      shown = c.show_segment.ensures.shown done before ∙ ap (λ (fs : List DeviceField). page_of fs (done ++ pieces_of c.as_slice.result.now c.text.result.now)) same
          ∙ ap (page_of fields) (ap (λ ps. done ++ ps) pieces ∙ sym (segment_more i output line segments segment at (sym c.in-Some.ensures))
          ∙ ap (λ n. all_pieces (take n output) segments) (sym (add-one i)));
    }
