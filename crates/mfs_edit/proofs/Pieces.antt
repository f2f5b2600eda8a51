-- The pieces of segments, one after another.
use Rattle.std.proofs.Common.{ℕ, zero, suc, ◌≡◌, ◌+◌, List, [], ◌∷◌, ◌++◌, take, refl, ap, sym, ◌∙◌, append_assoc, append-nil}
use Rattle.std.specs.Prelude.{Some, None, slice_get}
use Rattle.model_system.specs.declared.message_field.MessageField.{MessageField}
use Rattle.model_system.specs.declared.message_field.MessageField.TheVariants.{Source, Literal}
use Rattle.model_system.specs.declared.message_field.MessageFieldLine.{MessageFieldLine}
use Rattle.model_system.specs.declared.segment_line.SegmentLine.{SegmentLine}
use Rattle.model_system.specs.ScreenPage.{Piece, with_piece, pieces_of, all_pieces}
use Rattle.mfs_edit.specs.Pieces.{left_by_field, rest_of, piece_of}

with_more : (content : MessageField) (text : List ℕ) (more : List ℕ → List Piece) → with_piece content text more ≡ piece_of content text ++ more (left_by_field content text)
with_more (Source source) text more = refl
with_more (Literal literal) text more = refl

rest_last : (lines : List MessageFieldLine) (line : MessageFieldLine) (text : List ℕ) → rest_of (lines ++ line ∷ []) text ≡ left_by_field line.content (rest_of lines text)
rest_last [] line text = refl
rest_last (first ∷ lines) line text = rest_last lines line (left_by_field first.content text)

pieces_last : (lines : List MessageFieldLine) (line : MessageFieldLine) (text : List ℕ) → pieces_of (lines ++ line ∷ []) text ≡ pieces_of lines text ++ piece_of line.content (rest_of lines text)
pieces_last [] line text = with_more line.content text (pieces_of []) ∙ append-nil (piece_of line.content text)
pieces_last (first ∷ lines) line text =
    with_more first.content text (pieces_of (lines ++ line ∷ []))
    ∙ ap (λ ps. piece_of first.content text ++ ps) (pieces_last lines line (left_by_field first.content text))
    ∙ sym (append_assoc (piece_of first.content text) (pieces_of lines (left_by_field first.content text)) (piece_of line.content (rest_of lines (left_by_field first.content text))))
    ∙ ap (λ ps. ps ++ piece_of line.content (rest_of lines (left_by_field first.content text))) (sym (with_more first.content text (pieces_of lines)))

-- one MFLD more, at an index
pub rest_more : (lines : List MessageFieldLine) (index : ℕ) (line : MessageFieldLine) (text : List ℕ) → take (index + 1) lines ≡ take index lines ++ line ∷ []
    → rest_of (take (index + 1) lines) text ≡ left_by_field line.content (rest_of (take index lines) text)
rest_more lines index line text e = ap (λ (ls : List MessageFieldLine). rest_of ls text) e ∙ rest_last (take index lines) line text

pub pieces_more : (lines : List MessageFieldLine) (index : ℕ) (line : MessageFieldLine) (text : List ℕ) → take (index + 1) lines ≡ take index lines ++ line ∷ []
    → pieces_of (take (index + 1) lines) text ≡ pieces_of (take index lines) text ++ piece_of line.content (rest_of (take index lines) text)
pieces_more lines index line text e = ap (λ (ls : List MessageFieldLine). pieces_of ls text) e ∙ pieces_last (take index lines) line text

-- one SEG more that a segment meets, and those that none meets
pub segment_more : (index : ℕ) (lines : List SegmentLine) (line : SegmentLine) (segments : List (List ℕ)) (segment : List ℕ) → slice_get lines index ≡ Some line → slice_get segments index ≡ Some segment
    → all_pieces (take (suc index) lines) segments ≡ all_pieces (take index lines) segments ++ pieces_of line.fields segment
segment_more index [] line segments segment e h = cc
segment_more index (first ∷ lines) line [] segment e h = cc
segment_more zero (first ∷ lines) line (front ∷ segments) segment e h =
    let same : first ≡ line = cc in
    let text : front ≡ segment = cc in
    append-nil (pieces_of first.fields front) ∙ ap (λ (l : SegmentLine). pieces_of l.fields front) same ∙ ap (pieces_of line.fields) text
segment_more (suc index) (first ∷ lines) line (front ∷ segments) segment e h =
    ap (λ ps. pieces_of first.fields front ++ ps) (segment_more index lines line segments segment e h)
    ∙ sym (append_assoc (pieces_of first.fields front) (all_pieces (take index lines) segments) (pieces_of line.fields segment))

pub segment_past : (index : ℕ) (lines : List SegmentLine) (segments : List (List ℕ)) → slice_get segments index ≡ None → all_pieces (take index lines) segments ≡ all_pieces lines segments
segment_past zero [] segments e = refl
segment_past (suc index) [] segments e = refl
segment_past zero (first ∷ lines) [] e = refl
segment_past zero (first ∷ lines) (front ∷ segments) e = cc
segment_past (suc index) (first ∷ lines) [] e = refl
segment_past (suc index) (first ∷ lines) (front ∷ segments) e = ap (λ ps. pieces_of first.fields front ++ ps) (segment_past index lines segments e)
