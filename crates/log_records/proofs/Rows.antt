-- The rows of an image, one after the other.
use Rattle.std.proofs.Common.{◌≡◌, ℕ, ◌+◌, ◌<◌, List, ◌∷◌, ◌++◌, length, drop, get_or, sym, ap, ◌∙◌}
use Rattle.std.proofs.lemmas.List.{append_assoc, drop_more}
use Rattle.std.proofs.lemmas.List.Concat.{flat_map-cons}
use Rattle.model_data.specs.declared.row.Row.{Row}
use Rattle.model_data.specs.Record.{row_spelling, rows_spelling}

pub rows_more : (rows : List Row) (i : ℕ) (row : Row) (now next whole : List ℕ) → i < length rows → row ≡ get_or rows i row
    → now ++ rows_spelling (drop i rows) ≡ whole → next ≡ now ++ row_spelling row → next ++ rows_spelling (drop (i + 1) rows) ≡ whole
rows_more rows i row now next whole below here so is =
    let rest : rows_spelling (drop i rows) ≡ row_spelling row ++ rows_spelling (drop (i + 1) rows) =
    ap (λ (rs : List Row). rows_spelling rs) (drop_more rows i row below ∙ ap (λ (r : Row). r ∷ drop (i + 1) rows) (sym here)) ∙ flat_map-cons row_spelling row (drop (i + 1) rows) in
    ap (λ (bs : List ℕ). bs ++ rows_spelling (drop (i + 1) rows)) is
    ∙ append_assoc now (row_spelling row) (rows_spelling (drop (i + 1) rows))
    ∙ ap (λ (bs : List ℕ). now ++ bs) (sym rest)
    ∙ so
