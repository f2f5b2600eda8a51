-- A page with one piece more.
use Rattle.std.proofs.Common.{ℕ, suc, ◌≡◌, ◌≢◌, ◌+◌, ◌-◌, ◌<◌, ◌≤◌, ◌==◌, Bool, true, false, cond, ◌&&◌, List, [], ◌∷◌, ◌++◌, length, take, drop, map, get_or, reverse, refl, ap, sym, ◌∙◌, subst, arith, nat_lt, nat_le, ◌⊎◌, inl, inr}
use Rattle.std.specs.Prelude.{Option, Some, None, find, not, is_some, ◌||◌, zero, replicate}
use Rattle.std.specs.List.{list_all, list_any, range_with_len}
use Rattle.std.specs.Option.{option_map_or}
use Rattle.std.specs.Str.{bytes_eq}
use Rattle.std.proofs.Math.ListN.{set}
use Rattle.std.proofs.lemmas.Bool.{ltb-true, ltb-false, eqb-true, cases_eq}
use Rattle.std.proofs.lemmas.Bool.Decides.{nat_tests}
use Rattle.std.proofs.lemmas.List.{reverse-append, same_lists, get_or_append_left, get_or-append_right, get_or-take, get_or-drop, get_or_default, get_or-set_same, get_or-set_other, length-take-le, length-append, length-drop, length-take, length-set}
use Rattle.std.proofs.lemmas.List.FromFn.{get_or-map-range_with_len, length-map-range_with_len}
use Rattle.std.proofs.lemmas.Slice.Eq.{bytes_eq-Decides}
use Rattle.model_system.specs.declared.device_field.DeviceField.{DeviceField}
use Rattle.model_system.specs.FormatRule.{clash}
use Rattle.model_system.specs.FittedValues.{fitted_value}
use Rattle.model_system.specs.Pages.{IsPage}
use Rattle.model_system.specs.ScreenPage.{Piece, covers, shown_in, byte_in, screen_byte_at, page_of}
use Rattle.model_system.specs.ValidFormat.{is_on_page}
use Rattle.mfs_edit.specs.Pieces.{OnPage, screen_row_with}
use Rattle.mfs_edit.proofs.Names.{found_backwards}
use Rattle.mfs_edit.proofs.Clashes.{apart, is_false, IsIn, all_in, other_name, one_covers}
use Rattle.tm_types.proofs.Truths.{parts_true}

-- what a piece shows in a field
abbrev pub set_in : Piece → DeviceField → List ℕ
set_in piece field = fitted_value piece.source.justify piece.source.fill field.width piece.text

abbrev value_in : DeviceField → Option Piece → List ℕ
value_in field found = option_map_or (λ piece. set_in piece field) found []

module _ (done : List Piece) (piece : Piece) where
  turned : reverse (done ++ piece ∷ []) ≡ piece ∷ reverse done
  turned = reverse-append done (piece ∷ [])

  shown_new : (field : DeviceField) → bytes_eq piece.source.name field.name ≡ true → shown_in (done ++ piece ∷ []) field ≡ set_in piece field
  shown_new field e =
      ap (λ ps. value_in field (find (λ p. bytes_eq p.source.name field.name) ps)) turned
      ∙ ap (λ b. value_in field (cond b (Some piece) (find (λ p. bytes_eq p.source.name field.name) (reverse done)))) e

  shown_same : (field : DeviceField) → bytes_eq piece.source.name field.name ≡ false → shown_in (done ++ piece ∷ []) field ≡ shown_in done field
  shown_same field e =
      ap (λ ps. value_in field (find (λ p. bytes_eq p.source.name field.name) ps)) turned
      ∙ ap (λ b. value_in field (cond b (Some piece) (find (λ p. bytes_eq p.source.name field.name) (reverse done)))) e

  -- among fields of other names nothing changes
  same_by : (b : Bool) (q : DeviceField → Bool) (column : ℕ) (field : DeviceField) (rest : Option DeviceField) → bytes_eq piece.source.name field.name ≡ false
      → byte_in (done ++ piece ∷ []) column rest ≡ byte_in done column rest → byte_in (done ++ piece ∷ []) column (cond b (Some field) rest) ≡ byte_in done column (cond b (Some field) rest)
  same_by true q column field rest e more = ap (λ text. get_or text (column - field.column) 32) (shown_same field e)
  same_by false q column field rest e more = more

  pub same_among : (q : DeviceField → Bool) (column : ℕ) (fields : List DeviceField) → list_all (λ field. not (bytes_eq piece.source.name field.name)) fields ≡ true
      → byte_in (done ++ piece ∷ []) column (find q fields) ≡ byte_in done column (find q fields)
  same_among q column [] e = refl
  same_among q column (field ∷ fields) e =
      let parts = parts_true (not (bytes_eq piece.source.name field.name)) _ e in
      same_by (q field) q column field (find q fields) (is_false (bytes_eq piece.source.name field.name) parts.0) (same_among q column fields parts.1)

  module _ (field : DeviceField) (named : piece.source.name ≡ field.name) where
    differs : (other : DeviceField) → bytes_eq other.name field.name ≡ false → bytes_eq piece.source.name other.name ≡ false
    differs other e = by (bytes_eq piece.source.name other.name) refl
      where
        by : (b : Bool) → bytes_eq piece.source.name other.name ≡ b → b ≡ false
        by false h = refl
        by true h =
            let same : piece.source.name ≡ other.name = (bytes_eq-Decides piece.source.name other.name).0 h in
            let eq : bytes_eq other.name field.name ≡ true = ap (λ n. bytes_eq n field.name) (sym same) ∙ ap (λ n. bytes_eq n field.name) named ∙ (bytes_eq-Decides field.name field.name).1 refl in
            cc

    other_names : (others : List DeviceField) → list_all (λ other. not (clash other field)) others ≡ true → list_all (λ other. not (bytes_eq piece.source.name other.name)) others ≡ true
    other_names [] e = refl
    other_names (other ∷ others) e =
        let parts = parts_true (not (clash other field)) _ e in
        ap (λ b. not b && list_all (λ o. not (bytes_eq piece.source.name o.name)) others) (differs other (other_name other field parts.0)) ∙ other_names others parts.1

    abbrev byte_now : List DeviceField → ℕ → ℕ → ℕ
    byte_now fields row column = cond (covers row column field) (get_or (set_in piece field) (column - field.column) 32) (screen_byte_at fields done row column)

    own : (b : Bool) (row column : ℕ) (others : List DeviceField) → covers row column field ≡ b → list_all (λ other. not (clash other field)) others ≡ true
        → byte_in (done ++ piece ∷ []) column (cond b (Some field) (find (covers row column) others)) ≡ cond b (get_or (set_in piece field) (column - field.column) 32) (byte_in done column (cond b (Some field) (find (covers row column) others)))
    own true row column others e h =
        ap (λ text. get_or text (column - field.column) 32) (shown_new field (ap (λ n. bytes_eq n field.name) named ∙ (bytes_eq-Decides field.name field.name).1 refl))
    own false row column others e h = same_among (covers row column) column others (other_names others h)

    behind : (b : Bool) (row column : ℕ) (first : DeviceField) (others : List DeviceField) → covers row column first ≡ b → not (clash field first) ≡ true
        → screen_byte_at others (done ++ piece ∷ []) row column ≡ byte_now others row column
        → byte_in (done ++ piece ∷ []) column (cond b (Some first) (find (covers row column) others)) ≡ cond (covers row column field) (get_or (set_in piece field) (column - field.column) 32) (byte_in done column (cond b (Some first) (find (covers row column) others)))
    behind true row column first others e apart more =
        let none : covers row column field ≡ false = one_covers row column field first apart e in
        ap (λ text. get_or text (column - first.column) 32) (shown_same first (differs first (swapped (bytes_eq first.name field.name) refl)))
        ∙ sym (ap (λ b. cond b (get_or (set_in piece field) (column - field.column) 32) (get_or (shown_in done first) (column - first.column) 32)) none)
      where
        swapped : (b : Bool) → bytes_eq first.name field.name ≡ b → b ≡ false
        swapped false h = refl
        swapped true h =
            let same : first.name ≡ field.name = (bytes_eq-Decides first.name field.name).0 h in
            let eq : bytes_eq field.name first.name ≡ true = (bytes_eq-Decides field.name first.name).1 (sym same) in
            let not-eq : bytes_eq field.name first.name ≡ false = other_name field first apart in
            cc
    behind false row column first others e apart more = more

    -- each place that the field covers has the piece's byte, and each other one has its own
    pub byte_set : (fields : List DeviceField) (row column : ℕ) → apart fields ≡ true → IsIn field fields → screen_byte_at fields (done ++ piece ∷ []) row column ≡ byte_now fields row column
    byte_set [] row column e h = absurd h
    byte_set (first ∷ others) row column e (inl same) =
        let parts = parts_true (list_all (λ other. not (clash other first)) others) (apart others) e in
        subst (λ (f : DeviceField). screen_byte_at (f ∷ others) (done ++ piece ∷ []) row column ≡ byte_now (f ∷ others) row column) (sym same)
        (own (covers row column field) row column others refl (subst (λ (f : DeviceField). list_all (λ other. not (clash other f)) others ≡ true) same parts.0))
    byte_set (first ∷ others) row column e (inr h) =
        let parts = parts_true (list_all (λ other. not (clash other first)) others) (apart others) e in
        behind (covers row column first) row column first others refl (all_in (λ other. not (clash other first)) others field parts.0 h) (byte_set others row column parts.1 h)

pub same_map : {A B : Type 0} → (f g : A → B) (xs : List A) → ((x : A) → f x ≡ g x) → map f xs ≡ map g xs
same_map f g [] h = refl
same_map f g (x ∷ xs) h = cc (h x, same_map f g xs h)

-- a row in which some columns have another text
module _ (g h : ℕ → ℕ) (start width : ℕ) (text xs : List ℕ) (first : 1 ≤ start) (last : start + width ≤ 81) (size : length text ≡ width) (old : xs ≡ map g (range_with_len 1 80))
    (new : (column : ℕ) → h column ≡ cond (nat_le start column && nat_lt column (start + width)) (get_or text (column - start) 32) (g column)) where
  old_length : length xs ≡ 80
  old_length = ap length old ∙ length-map-range_with_len g 1 80

  old_at : (k d : ℕ) → k < 80 → get_or xs k d ≡ g (1 + k)
  old_at k d below = ap (λ ys. get_or ys k d) old ∙ get_or-map-range_with_len g 1 80 k (1 + k) d below refl

  front : length (take (start - 1) xs) ≡ start - 1
  front = length-take-le (start - 1) xs (omega (arith, old_length))

  outside : (k : ℕ) → (nat_le start (1 + k) && nat_lt (1 + k) (start + width)) ≡ false → h (1 + k) ≡ g (1 + k)
  outside k e = new (1 + k) ∙ ap (λ b. cond b (get_or text (1 + k - start) 32) (g (1 + k))) e

  inside : (k : ℕ) → (nat_le start (1 + k) && nat_lt (1 + k) (start + width)) ≡ true → h (1 + k) ≡ get_or text (1 + k - start) 32
  inside k e = new (1 + k) ∙ ap (λ b. cond b (get_or text (1 + k - start) 32) (g (1 + k))) e

  behind_text : (k d : ℕ) → k < 80 → start - 1 ≤ k → width ≤ k - (start - 1) → get_or (text ++ drop (start - 1 + width) xs) (k - (start - 1)) d ≡ h (1 + k)
  behind_text k d below from past =
      let same : start - 1 + width + (k - (start - 1) - width) ≡ k = omega arith in
      let off : (nat_le start (1 + k) && nat_lt (1 + k) (start + width)) ≡ false = grind (arith, nat_tests) in
      get_or-append_right text (drop (start - 1 + width) xs) width (k - (start - 1)) d size past
      ∙ get_or-drop (start - 1 + width) xs (k - (start - 1) - width) d ∙ ap (λ n. get_or xs n d) same ∙ old_at k d below ∙ sym (outside k off)

  in_text : (k d : ℕ) → k < 80 → start - 1 ≤ k → k - (start - 1) < width → get_or (text ++ drop (start - 1 + width) xs) (k - (start - 1)) d ≡ h (1 + k)
  in_text k d below from within =
      let same : k - (start - 1) ≡ 1 + k - start = omega arith in
      let on : (nat_le start (1 + k) && nat_lt (1 + k) (start + width)) ≡ true = grind (arith, nat_tests) in
      get_or_append_left text (drop (start - 1 + width) xs) d (k - (start - 1)) (omega (arith, size))
      ∙ get_or_default text (k - (start - 1)) d 32 (omega (arith, size)) ∙ ap (λ n. get_or text n 32) same ∙ sym (inside k on)

  after_front : (b : Bool) (k d : ℕ) → nat_lt (k - (start - 1)) width ≡ b → k < 80 → start - 1 ≤ k → get_or (text ++ drop (start - 1 + width) xs) (k - (start - 1)) d ≡ h (1 + k)
  after_front true k d e below from = in_text k d below from (ltb-true (k - (start - 1)) width e)
  after_front false k d e below from = behind_text k d below from (ltb-false (k - (start - 1)) width e)

  in_front : (k d : ℕ) → k < start - 1 → k < 80 → get_or (take (start - 1) xs ++ (text ++ drop (start - 1 + width) xs)) k d ≡ h (1 + k)
  in_front k d before below =
      let off : (nat_le start (1 + k) && nat_lt (1 + k) (start + width)) ≡ false = grind (arith, nat_tests) in
      get_or_append_left (take (start - 1) xs) (text ++ drop (start - 1 + width) xs) d k (omega (arith, front))
      ∙ get_or-take (start - 1) xs k d before ∙ old_at k d below ∙ sym (outside k off)

  each_place : (b : Bool) (k d : ℕ) → nat_lt k (start - 1) ≡ b → k < 80 → get_or (take (start - 1) xs ++ (text ++ drop (start - 1 + width) xs)) k d ≡ h (1 + k)
  each_place true k d e below = in_front k d (ltb-true k (start - 1) e) below
  each_place false k d e below =
      let from : start - 1 ≤ k = ltb-false k (start - 1) e in
      get_or-append_right (take (start - 1) xs) (text ++ drop (start - 1 + width) xs) (start - 1) k d front from
      ∙ after_front (nat_lt (k - (start - 1)) width) k d refl below from

  set_length : length (take (start - 1) xs ++ (text ++ drop (start - 1 + width) xs)) ≡ 80
  set_length =
      omega (arith, length-append (take (start - 1) xs) (text ++ drop (start - 1 + width) xs), length-append text (drop (start - 1 + width) xs), length-drop (start - 1 + width) xs, front, size, old_length)

  pub row_set : take (start - 1) xs ++ (text ++ drop (start - 1 + width) xs) ≡ map h (range_with_len 1 80)
  row_set =
      same_lists (take (start - 1) xs ++ (text ++ drop (start - 1 + width) xs)) (map h (range_with_len 1 80)) (set_length ∙ sym (length-map-range_with_len h 1 80))
      (λ k d within. let below : k < 80 = omega (arith, set_length) in each_place (nat_lt k (start - 1)) k d refl below ∙ sym (get_or-map-range_with_len h 1 80 k (1 + k) d below refl))

abbrev pub row_of : List DeviceField → List Piece → ℕ → List ℕ
row_of fields pieces row = map (screen_byte_at fields pieces row) (range_with_len 1 80)

pub page_length : (fields : List DeviceField) (pieces : List Piece) → length (page_of fields pieces) ≡ 24
unfolding page_of
page_length fields pieces = length-map-range_with_len (row_of fields pieces) 1 24

page_row : (fields : List DeviceField) (pieces : List Piece) (k : ℕ) (d : List ℕ) → k < 24 → get_or (page_of fields pieces) k d ≡ row_of fields pieces (1 + k)
unfolding page_of
page_row fields pieces k d below = get_or-map-range_with_len (row_of fields pieces) 1 24 k (1 + k) d below refl

pub on_page : (field : DeviceField) → is_on_page field ≡ true → OnPage field
on_page field e = record {
  first_row = grind (arith, nat_tests);
  last_row = grind (arith, nat_tests);
  first_column = grind (arith, nat_tests);
  last_column = grind (arith, nat_tests);
}

module _ (fields : List DeviceField) (done : List Piece) (piece : Piece) (field : DeviceField) (clear : apart fields ≡ true) (there : IsIn field fields) (named : piece.source.name ≡ field.name)
    (on : OnPage field) where
  now_at : (row column : ℕ) → screen_byte_at fields (done ++ piece ∷ []) row column ≡ cond (covers row column field) (get_or (set_in piece field) (column - field.column) 32) (screen_byte_at fields done row column)
  now_at row column = byte_set done piece field named fields row column clear there

  other_row : (row : ℕ) → field.row ≢ row → row_of fields done row ≡ row_of fields (done ++ piece ∷ []) row
  other_row row differs =
      let no : (field.row == row) ≡ false = grind (arith, nat_tests) in
      same_map (screen_byte_at fields done row) (screen_byte_at fields (done ++ piece ∷ []) row) (range_with_len 1 80)
      (λ column. sym (now_at row column ∙ ap (λ b. cond (b && (nat_le field.column column && nat_lt column (field.column + field.width))) (get_or (set_in piece field) (column - field.column) 32) (screen_byte_at fields done row column)) no))

  own_row : (old : List ℕ) → length (set_in piece field) ≡ field.width → old ≡ row_of fields done field.row
      → take (field.column - 1) old ++ (set_in piece field ++ drop (field.column - 1 + field.width) old) ≡ row_of fields (done ++ piece ∷ []) field.row
  own_row old size is =
      let yes : (field.row == field.row) ≡ true = grind (arith, nat_tests) in
      row_set (screen_byte_at fields done field.row) (screen_byte_at fields (done ++ piece ∷ []) field.row) field.column field.width (set_in piece field) old on.first_column on.last_column size is
      (λ column. now_at field.row column ∙ ap (λ b. cond (b && (nat_le field.column column && nat_lt column (field.column + field.width))) (get_or (set_in piece field) (column - field.column) 32) (screen_byte_at fields done field.row column)) yes)

  module _ (rows : List (List ℕ)) (before : rows ≡ page_of fields done) where
    row_before : (k : ℕ) (d : List ℕ) → k < 24 → get_or rows k d ≡ row_of fields done (1 + k)
    row_before k d below = ap (λ (rs : List (List ℕ)). get_or rs k d) before ∙ page_row fields done k d below

    size_before : length rows ≡ 24
    size_before = ap length before ∙ page_length fields done

    pub page_set : length (set_in piece field) ≡ field.width
        → set rows (field.row - 1) (screen_row_with field (set_in piece field) (get_or rows (field.row - 1) [])) ≡ page_of fields (done ++ piece ∷ [])
    page_set size =
        let old = get_or rows (field.row - 1) [] in
        let new = screen_row_with field (set_in piece field) old in
        let within : field.row - 1 < 24 = omega (arith, on.first_row, on.last_row) in
        let row : 1 + (field.row - 1) ≡ field.row = omega (arith, on.first_row) in
        let old-is : old ≡ row_of fields done field.row = row_before (field.row - 1) [] within ∙ ap (row_of fields done) row in
        let new-is : new ≡ row_of fields (done ++ piece ∷ []) field.row = own_row old size old-is in
        same_lists (set rows (field.row - 1) new) (page_of fields (done ++ piece ∷ [])) (length-set rows (field.row - 1) new ∙ size_before ∙ sym (page_length fields (done ++ piece ∷ [])))
        (λ k d below. each k d new (omega (arith, length-set rows (field.row - 1) new, size_before)) within row new-is (cases_eq k (field.row - 1)))
      where
        each : (k : ℕ) (d new : List ℕ) → k < 24 → field.row - 1 < 24 → 1 + (field.row - 1) ≡ field.row → new ≡ row_of fields (done ++ piece ∷ []) field.row
            → (k ≡ field.row - 1) ⊎ (k ≢ field.row - 1) → get_or (set rows (field.row - 1) new) k d ≡ get_or (page_of fields (done ++ piece ∷ [])) k d
        each k d new below within row new-is (inl e) =
            let there : field.row - 1 < length rows = omega (arith, size_before) in
            ap (λ n. get_or (set rows (field.row - 1) new) n d) e ∙ get_or-set_same rows (field.row - 1) new d there ∙ new-is
            ∙ ap (row_of fields (done ++ piece ∷ [])) (sym row) ∙ sym (page_row fields (done ++ piece ∷ []) (field.row - 1) d within) ∙ ap (λ n. get_or (page_of fields (done ++ piece ∷ [])) n d) (sym e)
        each k d new below within row new-is (inr differs) =
            let apart_rows : field.row ≢ 1 + k = λ e. differs (omega (arith, e)) in
            get_or-set_other rows (field.row - 1) k new d differs ∙ row_before k d below ∙ other_row (1 + k) apart_rows ∙ sym (page_row fields (done ++ piece ∷ []) k d below)

-- a row that is set leaves a page
all_set : {A : Type 0} → (p : A → Bool) (xs : List A) (i : ℕ) (x : A) → list_all p xs ≡ true → p x ≡ true → list_all p (set xs i x) ≡ true
all_set p [] i x e h = refl
all_set p (y ∷ xs) zero x e h = let parts = parts_true (p y) (list_all p xs) e in ap (λ b. b && list_all p xs) h ∙ parts.1
all_set p (y ∷ xs) (suc i) x e h = let parts = parts_true (p y) (list_all p xs) e in ap (λ b. b && list_all p (set xs i x)) parts.0 ∙ all_set p xs i x parts.1 h

all_at : {A : Type 0} → (p : A → Bool) (xs : List A) (i : ℕ) (d : A) → i < length xs → list_all p xs ≡ true → p (get_or xs i d) ≡ true
all_at p [] i d below e = absurd (omega (arith, below))
all_at p (x ∷ xs) zero d below e = (parts_true (p x) (list_all p xs) e).0
all_at p (x ∷ xs) (suc i) d below e = all_at p xs i d (omega (arith, below)) (parts_true (p x) (list_all p xs) e).1

row_length : (field : DeviceField) (text row : List ℕ) → OnPage field → length text ≡ field.width → length row ≡ 80 → length (screen_row_with field text row) ≡ 80
row_length field text row on size whole =
    omega (
      arith,
      length-append (take (field.column - 1) row) (text ++ drop (field.column - 1 + field.width) row),
      length-append text (drop (field.column - 1 + field.width) row),
      length-drop (field.column - 1 + field.width) row,
      length-take (field.column - 1) row,
      size,
      whole,
      on.first_column,
      on.last_column,
    )

pub still_page : (rows : List (List ℕ)) (field : DeviceField) (text : List ℕ) → IsPage rows → OnPage field → length text ≡ field.width
    → IsPage (set rows (field.row - 1) (screen_row_with field text (get_or rows (field.row - 1) [])))
still_page rows field text page on size =
    let within : field.row - 1 < length rows = omega (arith, on.first_row, on.last_row, page.count) in
    let whole : length (get_or rows (field.row - 1) []) ≡ 80 = eqb-true (length (get_or rows (field.row - 1) [])) 80 (all_at (λ (row : List ℕ). length row == 80) rows (field.row - 1) [] within page.widths) in
    let size-now : length (screen_row_with field text (get_or rows (field.row - 1) [])) ≡ 80 = row_length field text (get_or rows (field.row - 1) []) on size whole in
    record {
      count = length-set rows (field.row - 1) (screen_row_with field text (get_or rows (field.row - 1) [])) ∙ page.count;
      widths = all_set (λ (row : List ℕ). length row == 80) rows (field.row - 1) (screen_row_with field text (get_or rows (field.row - 1) [])) page.widths
          (ap (λ n. n == 80) size-now);
    }

-- a piece whose field isn't there shows nothing
none_by : (b any all : Bool) → (b || any) ≡ false → (any ≡ false → all ≡ true) → (not b && all) ≡ true
none_by true any all e more = cc
none_by false any all e more = more e

none_forward : (p : DeviceField → Bool) (fields : List DeviceField) → list_any p fields ≡ false → list_all (λ field. not (p field)) fields ≡ true
none_forward p [] e = refl
none_forward p (field ∷ fields) e = none_by (p field) (list_any p fields) (list_all (λ f. not (p f)) fields) e (λ h. none_forward p fields h)

turned_name : (a b : List ℕ) (t : Bool) → bytes_eq a b ≡ t → bytes_eq b a ≡ t
turned_name a b true e = (bytes_eq-Decides b a).1 (sym ((bytes_eq-Decides a b).0 e))
turned_name a b false e = by (bytes_eq b a) refl
  where
    by : (t : Bool) → bytes_eq b a ≡ t → t ≡ false
    by false h = refl
    by true h = let back : bytes_eq a b ≡ true = (bytes_eq-Decides a b).1 (sym ((bytes_eq-Decides b a).0 h)) in cc

turned_names : (name : List ℕ) (fields : List DeviceField) → list_all (λ field. not (bytes_eq field.name name)) fields ≡ true → list_all (λ field. not (bytes_eq name field.name)) fields ≡ true
turned_names name [] e = refl
turned_names name (field ∷ fields) e =
    let parts = parts_true (not (bytes_eq field.name name)) _ e in
    ap (λ b. not b && list_all (λ f. not (bytes_eq name f.name)) fields) (turned_name field.name name false (is_false (bytes_eq field.name name) parts.0)) ∙ turned_names name fields parts.1

pub page_same : (fields : List DeviceField) (done : List Piece) (piece : Piece) → find (λ field. bytes_eq field.name piece.source.name) (reverse fields) ≡ None
    → page_of fields done ≡ page_of fields (done ++ piece ∷ [])
unfolding page_of
page_same fields done piece e =
    let none : list_any (λ (field : DeviceField). bytes_eq field.name piece.source.name) fields ≡ false =
    sym (found_backwards (λ (field : DeviceField). bytes_eq field.name piece.source.name) fields) ∙ ap is_some e in
    let others = turned_names piece.source.name fields (none_forward (λ (field : DeviceField). bytes_eq field.name piece.source.name) fields none) in
    same_map (row_of fields done) (row_of fields (done ++ piece ∷ [])) (range_with_len 1 24)
    (λ row. same_map (screen_byte_at fields done row) (screen_byte_at fields (done ++ piece ∷ []) row) (range_with_len 1 80) (λ column. sym (same_among done piece (covers row column) column fields others)))

-- a page that shows no pieces is blank
blank_byte : (column : ℕ) (found : Option DeviceField) → byte_in [] column found ≡ 32
blank_byte column (Some field) = refl
blank_byte column None = refl

map_same_value : {A B : Type 0} → (x : B) (f : A → B) (xs : List A) → ((a : A) → f a ≡ x) → replicate (length xs) x ≡ map f xs
map_same_value x f [] h = refl
map_same_value x f (a ∷ xs) h = cc (h a, map_same_value x f xs h)

blank_row : (fields : List DeviceField) (row : ℕ) → replicate 80 32 ≡ row_of fields [] row
blank_row fields row = map_same_value 32 (screen_byte_at fields [] row) (range_with_len 1 80) (λ column. blank_byte column (find (covers row column) fields))

pub blank_page : (fields : List DeviceField) → replicate 24 (replicate 80 32) ≡ page_of fields []
unfolding page_of
blank_page fields = map_same_value (replicate 80 32) (row_of fields []) (range_with_len 1 24) (λ row. sym (blank_row fields row))

pub blank_is_page : (rows : List (List ℕ)) → rows ≡ replicate 24 (replicate 80 32) → IsPage rows
blank_is_page rows e = subst IsPage (sym e) (record { count = refl; widths = refl })

-- ---- texts that grow by blanks

-- a text that grows has the blanks behind it
pub resized : (old : List ℕ) (w n fill : ℕ) → n ≡ length old + w → take n old ++ replicate (n - length old) fill ≡ old ++ replicate w fill
resized old w n fill e =
    let count : n - length old ≡ w = omega (arith, e) in
    λ i. take_long old n (omega (arith, e)) i ++ replicate (count i) fill
  where
    take_long : (xs : List ℕ) (m : ℕ) → length xs ≤ m → take m xs ≡ xs
    take_long [] zero h = refl
    take_long [] (suc m) h = refl
    take_long (x ∷ xs) zero h = absurd (omega arith)
    take_long (x ∷ xs) (suc m) h = λ i. x ∷ take_long xs m (omega arith) i
