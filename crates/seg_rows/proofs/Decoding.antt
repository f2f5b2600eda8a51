-- What is decoded so far, and where decoding ends.
use Rattle.std.proofs.Common.{◌≡◌, ◌≢◌, ℕ, ◌+◌, ◌-◌, ◌<◌, ◌≤◌, ◌++◌, ◌∷◌, [], List, Option, None, Some, length, take, drop, zero, suc, refl, sym, ◌∙◌, ap, subst, arith, inl, inr, append_assoc, length-append, length-drop}
use Rattle.std.proofs.lemmas.List.{append-nil}
use Rattle.std.proofs.Math.Seq.{take-length, drop-append_seam}
use Rattle.std.proofs.Common.{Result, Ok, Err, true, false}
use Rattle.std.specs.Result.{OnOk, is_err}
use Rattle.tm_types.specs.declared.dbd.SegType.{SegType}
use Rattle.tm_types.specs.declared.dbd.Dbd.{Dbd}
use Rattle.tm_types.specs.SegTypes.{IsHierarchy}
use Rattle.model_data.specs.declared.row.Row.{Row}
use Rattle.model_data.specs.Path.{root_of}
use Rattle.model_data.specs.Record.{IsUnder, Spells, SpellsRecord, IsLongestRecord, rows_spelling, row_spelling, record_limit}
use Rattle.model_data.specs.RowsOfBytes.{last_path, next_row}
use Rattle.model_data.proofs.Prefixes.{IsStuck, stuck_longest, next_under, none_under, row_spelled, spelling_append, length_row, no_spelling, one_record}
use Rattle.seg_rows.specs.DecodeFault.{RefusesBytes}
use Rattle.seg_rows.specs.declared.decode.DecodeFault.TheVariants.{Bad}

-- the image has the rows that the bytes before this place spell
pub record IsDecoded (dbd : Dbd) (bytes : List ℕ) (image : List Row) (place : ℕ) : Type 0 where
  pub root : List ℕ
  pub under : IsUnder dbd.types root image
  pub spelled : rows_spelling image ++ drop place bytes ≡ bytes
  pub long : length (rows_spelling image) ≡ place
  pub within : place ≤ record_limit dbd

pub decoded_none : (dbd : Dbd) (bytes : List ℕ) → IsDecoded dbd bytes [] 0
decoded_none dbd bytes =
    record {
      root = [];
      under = none_under dbd.types [];
      spelled = refl;
      long = refl;
      within = omega arith;
    }

module _ (dbd : Dbd) (all : IsHierarchy dbd.types) (bytes : List ℕ) (image : List Row) (place : ℕ) (so_far : IsDecoded dbd bytes image place) where
  -- one more row
  pub decoded_more : (row : Row) → next_row dbd.types (last_path image) (drop place bytes) ≡ Some row → 1 + length row.bytes ≤ record_limit dbd - place
      → IsDecoded dbd bytes (image ++ row ∷ []) (place + (1 + length row.bytes))
  decoded_more row next fits =
      let found = row_spelled dbd.types (last_path image) (drop place bytes) row next in
      let one : rows_spelling (row ∷ []) ≡ row_spelling row = append-nil (row_spelling row) in
      let front : rows_spelling (image ++ row ∷ []) ≡ rows_spelling image ++ row_spelling row = spelling_append image (row ∷ []) ∙ ap (λ b. rows_spelling image ++ b) one in
      let whole : rows_spelling (image ++ row ∷ []) ++ found.0 ≡ bytes =
      ap (λ b. b ++ found.0) front ∙ (append_assoc (rows_spelling image) (row_spelling row) found.0 ∙ (ap (λ b. rows_spelling image ++ b) (sym found.1) ∙ so_far.spelled)) in
      let long : length (rows_spelling (image ++ row ∷ [])) ≡ place + (1 + length row.bytes) =
      omega (arith, ap length front, length-append (rows_spelling image) (row_spelling row), length_row row, so_far.long) in
      let rest : drop (place + (1 + length row.bytes)) bytes ≡ found.0 =
      ap (λ n. drop n bytes) (sym long) ∙ (ap (drop (length (rows_spelling (image ++ row ∷ [])))) (sym whole) ∙ drop-append_seam (rows_spelling (image ++ row ∷ [])) found.0) in
      record {
        root = root_of row.path;
        under = next_under dbd.types all image so_far.root so_far.under (drop place bytes) row next;
        spelled = ap (λ b. rows_spelling (image ++ row ∷ []) ++ b) rest ∙ whole;
        long = long;
        within = omega (arith, fits, so_far.within);
      }

  longest_here : IsStuck dbd image (drop place bytes) → IsLongestRecord dbd bytes place
  longest_here stuck =
      let fits : length (rows_spelling image) ≤ record_limit dbd = omega (arith, so_far.long, so_far.within) in
      subst (λ n. IsLongestRecord dbd bytes n) so_far.long
      (subst (λ b. IsLongestRecord dbd b (length (rows_spelling image))) so_far.spelled
      (stuck_longest dbd all image so_far.root (drop place bytes) so_far.under fits stuck))

  refused_here : IsStuck dbd image (drop place bytes) → place < length bytes → RefusesBytes dbd bytes (Bad 21 place)
  refused_here stuck more =
      let longest = longest_here stuck in (
        refl,
        λ sp. longest.longest (length bytes) more (omega arith) (subst (SpellsRecord dbd) (sym (take-length bytes)) sp),
        longest,
      )

  -- no row follows
  pub refused_row : next_row dbd.types (last_path image) (drop place bytes) ≡ None → place < length bytes → RefusesBytes dbd bytes (Bad 21 place)
  refused_row none more = refused_here (inl none) more

  -- the next row leads past the limit
  pub refused_length : (row : Row) → next_row dbd.types (last_path image) (drop place bytes) ≡ Some row → record_limit dbd - place < 1 + length row.bytes → place < length bytes
      → RefusesBytes dbd bytes (Bad 21 place)
  refused_length row next past more =
      refused_here (inr (row, next, omega (arith, past, so_far.long, so_far.within, length_row row))) more

  -- all bytes are decoded
  pub decoded_all : length bytes ≤ place → image ≢ [] → Spells dbd bytes image
  decoded_all ended some =
      record {
        root = so_far.root;
        valid = record {
          whole = record { some = some; under = so_far.under };
          within = omega (arith, so_far.long, so_far.within);
        };
        spelled = sym (append-nil (rows_spelling image)) ∙ (ap (λ b. rows_spelling image ++ b) (sym (nothing_left bytes place ended)) ∙ so_far.spelled);
      }
    where
      nothing_left : (bs : List ℕ) (n : ℕ) → length bs ≤ n → drop n bs ≡ []
      nothing_left [] zero h = refl
      nothing_left [] (suc n) h = refl
      nothing_left (b ∷ bs) zero h = absurd (omega arith)
      nothing_left (b ∷ bs) (suc n) h = nothing_left bs n (omega arith)

-- no bytes are no record
pub refused_none : (dbd : Dbd) (bytes : List ℕ) (place : ℕ) → IsDecoded dbd bytes [] place → length bytes ≤ place → RefusesBytes dbd bytes (Bad 21 0)
refused_none dbd bytes place so_far ended =
    let none : length bytes ≡ 0 = omega (arith, so_far.long) in (
      refl,
      λ sp. sp.spells.valid.whole.some (no_spelling sp.rows (ap length sp.spells.spelled ∙ none)),
      record {
        within = omega arith;
        spells = inl refl;
        longest = λ n up within sp. absurd (omega arith);
      },
    )

-- what the code read is the next row
pub read_is : (found types : List SegType) (last path : List (ℕ × List ℕ)) (bytes : List ℕ) (place : ℕ) (row : Option Row)
    → found ≡ types → last ≡ path → row ≡ next_row found last (take (length bytes - place) (drop place bytes)) → next_row types path (drop place bytes) ≡ row
read_is found types last path bytes place row e f g =
    let whole : take (length bytes - place) (drop place bytes) ≡ drop place bytes =
    ap (λ n. take n (drop place bytes)) (sym (length-drop place bytes)) ∙ take-length (drop place bytes) in
    sym (g ∙ (λ i. next_row (e i) (f i) (whole i)))

-- what holds of an `Ok` holds where there is no `Err`
pub no_error : {A E P : Type 0} (r : Result A E) → is_err r ≡ false → OnOk r P → P
no_error (Ok x) e h = h
no_error (Err x) e h = let clash : true ≡ false = e in absurd (cc)

pub decodes_alone : (dbd : Dbd) → IsHierarchy dbd.types → (bytes : List ℕ) (image : List Row) → Spells dbd bytes image → (rows : List Row) → Spells dbd bytes rows → image ≡ rows
decodes_alone dbd all bytes image h rows g = one_record dbd all bytes image rows h g
