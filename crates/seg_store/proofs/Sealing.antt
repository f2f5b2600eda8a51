-- Bytes put into a sector, and the bytes of rows, one row behind the other.
use Rattle.std.proofs.Common.{◌≡◌, ℕ, ◌+◌, ◌-◌, ◌≤◌, ◌<◌, ◌++◌, ◌∷◌, [], List, length, take, drop, refl, sym, ◌∙◌, ap, arith, append_assoc, append-nil, get_or}
use Rattle.std.specs.Int.{w16, to_be_bytes}
use Rattle.std.proofs.lemmas.List.{drop_at, take_at, drop-drop, take-append-drop, length-append, take_more, take_all}
use Rattle.std.proofs.lemmas.Grind.{flat_map-append}
use Rattle.tm_disk.specs.Sector.{zeros, blank}
use Rattle.model_data.specs.declared.row.Row.{Row}
use Rattle.model_data.specs.Path.{end_type}
use Rattle.model_data.specs.Record.{rows_spelling, row_spelling}
use Rattle.seg_store.specs.DataSectors.{data_sector}
use Rattle.tm_disk.proofs.Zeros.{length-zeros, drop-zeros}

pub blank_is : blank ≡ zeros 2 ++ zeros 4094
unfolding blank zeros
blank_is = refl

two_bytes : (n : ℕ) → length (to_be_bytes w16 n) ≡ 2
two_bytes n = refl

-- bytes behind their length
pub put_after : (body h sector : List ℕ) → sector ≡ take 0 blank ++ h ++ drop (0 + length h) blank → h ≡ to_be_bytes w16 (length body) → length body ≤ 4000
    → take 2 sector ++ body ++ drop (2 + length body) sector ≡ data_sector body
unfolding data_sector
put_after body h sector is h_is fits =
    let two : length h ≡ 2 = ap (length {A = ℕ}) h_is ∙ two_bytes (length body) in
    let at_two : 0 + length h ≡ 2 = omega (arith, two) in
    let rest : drop (0 + length h) blank ≡ zeros 4094 =
    ap (λ n. drop n blank) at_two ∙ ap (λ (l : List ℕ). drop 2 l) blank_is ∙ drop_at (zeros 2) (zeros 4094) 2 (length-zeros 2) in
    let made : sector ≡ h ++ zeros 4094 = is ∙ ap (λ (l : List ℕ). h ++ l) rest in
    let first : take 2 sector ≡ h = ap (λ (l : List ℕ). take 2 l) made ∙ take_at h (zeros 4094) 2 two in
    let last : drop (2 + length body) sector ≡ zeros (4094 - length body) =
    sym (drop-drop (length body) 2 sector) ∙ ap (λ (l : List ℕ). drop (length body) (drop 2 l)) made
    ∙ ap (λ (l : List ℕ). drop (length body) l) (drop_at h (zeros 4094) 2 two) ∙ drop-zeros (length body) 4094 in
    ap (λ (l : List ℕ). l ++ body ++ drop (2 + length body) sector) first
    ∙ (ap (λ (l : List ℕ). h ++ body ++ l) last
    ∙ ap (λ (l : List ℕ). l ++ body ++ zeros (4094 - length body)) h_is)

-- ---- the bytes of rows, one row after another

pub spelled_more : (rows : List Row) (i : ℕ) (row : Row) → take (i + 1) rows ≡ take i rows ++ row ∷ [] → rows_spelling (take (i + 1) rows) ≡ rows_spelling (take i rows) ++ row_spelling row
spelled_more rows i row e =
    ap rows_spelling e ∙ (flat_map-append row_spelling (take i rows) (row ∷ []) ∙ ap (λ (l : List ℕ). rows_spelling (take i rows) ++ l) nil)
  where
    nil : row_spelling row ++ [] ≡ row_spelling row
    nil = simp append-nil

pub spelled_front : (rows : List Row) (i : ℕ) → length (rows_spelling (take i rows)) ≤ length (rows_spelling rows)
spelled_front rows i =
    let parts : rows_spelling (take i rows) ++ rows_spelling (drop i rows) ≡ rows_spelling rows =
    sym (flat_map-append row_spelling (take i rows) (drop i rows)) ∙ ap rows_spelling (take-append-drop i rows) in
    omega (arith, length-append (rows_spelling (take i rows)) (rows_spelling (drop i rows)), ap (length {A = ℕ}) parts)

next_spelled : (rows : List Row) (i : ℕ) (row : Row) → i < length rows → row ≡ get_or rows i row → rows_spelling (take (i + 1) rows) ≡ rows_spelling (take i rows) ++ row_spelling row
next_spelled rows i row lt is = spelled_more rows i row (take_more rows i row lt ∙ ap (λ r. take i rows ++ r ∷ []) (sym is))

-- a row behind others
module _ (rows : List Row) (i t : ℕ) (row : Row) (lt : i < length rows) (is : row ≡ get_or rows i row) (type_is : t ≡ end_type row.path) (fits : length (rows_spelling rows) ≤ 32000) where
  pub row_fits : length (rows_spelling (take i rows)) + (1 + length row.bytes) ≤ 32000
  row_fits =
      let spelled : length (rows_spelling (take (i + 1) rows)) ≡ length (rows_spelling (take i rows) ++ row_spelling row) = ap (length {A = ℕ}) (next_spelled rows i row lt is) in
      omega (arith, spelled, length-append (rows_spelling (take i rows)) (row_spelling row), spelled_front rows (i + 1), fits)

  pub row_added : (bytes before typed after : List ℕ) → bytes ≡ row.bytes → before ≡ rows_spelling (take i rows) → typed ≡ before ++ t ∷ [] → after ≡ typed ++ bytes → after ≡ rows_spelling (take (i + 1) rows)
  row_added bytes before typed after bytes_is before_is typed_is after_is =
      after_is ∙ ap (λ (l : List ℕ). l ++ bytes) (typed_is ∙ ap (λ (l : List ℕ). l ++ t ∷ []) before_is)
      ∙ append_assoc (rows_spelling (take i rows)) (t ∷ []) bytes
      ∙ (λ j. rows_spelling (take i rows) ++ (type_is j ∷ bytes_is j))
      ∙ sym (next_spelled rows i row lt is)

pub all_spelled : (rows : List Row) (i : ℕ) (bytes : List ℕ) → i ≡ length rows → bytes ≡ rows_spelling (take i rows) → bytes ≡ rows_spelling rows
all_spelled rows i bytes all is = is ∙ ap rows_spelling (ap (λ n. take n rows) all ∙ take_all (length rows) rows (omega arith))
