-- The rows that bytes spell one after another are those of the record that they spell, or none.
use Rattle.std.proofs.Common.{◌≡◌, ◌≢◌, ℕ, ◌≤◌, ◌++◌, ◌∷◌, [], List, Option, None, Some, length, drop, zero, suc, refl, sym, ◌∙◌, ap, subst, arith, append_assoc, true, false, Bool, cond, leb}
use Rattle.std.specs.Option.{option_map}
use Rattle.std.proofs.lemmas.List.{append-nil, drop_at}
use Rattle.std.proofs.lemmas.Bool.{le-leb, leb-true}
use Rattle.tm_types.specs.declared.dbd.SegType.{SegType}
use Rattle.tm_types.specs.declared.dbd.Dbd.{Dbd}
use Rattle.tm_types.specs.SegTypes.{IsHierarchy}
use Rattle.model_data.specs.declared.row.Row.{Row}
use Rattle.model_data.specs.Path.{root_of}
use Rattle.model_data.specs.Record.{IsUnder, Spells, SpellsRecord, rows_spelling, row_spelling, record_limit}
use Rattle.model_data.specs.RowsOfBytes.{last_path, next_row}
use Rattle.model_data.proofs.Under.{last_path_push}
use Rattle.model_data.proofs.NextRow.{row_known}
use Rattle.model_data.proofs.Prefixes.{next_under, none_under, row_spelled, length_spelling, length_row}
use Rattle.model_image.specs.Slots.{from_row, rows_by, rows_of_bytes}

module _ (types : List SegType) (all : IsHierarchy types) where
  -- rows of a record are read from their spelling
  read_all : (more front : List Row) (root : List ℕ) → IsUnder types root (front ++ more) → (n : ℕ) → length (rows_spelling more) ≤ n → rows_by n types (last_path front) (rows_spelling more) ≡ Some more
  read_all [] front root under zero fits = refl
  read_all [] front root under (suc n) fits = refl
  read_all (row ∷ more) front root under zero fits = absurd (omega (arith, fits, length_spelling row more, length_row row))
  read_all (row ∷ more) front root under (suc n) fits =
      let next : next_row types (last_path front) (rows_spelling (row ∷ more)) ≡ Some row = row_known types all front more row root under (rows_spelling more) in
      let last : last_path (front ++ row ∷ []) ≡ row.path = last_path_push front row in
      let joined : (front ++ row ∷ []) ++ more ≡ front ++ row ∷ more = append_assoc front (row ∷ []) more in
      let rest : rows_by n types row.path (rows_spelling more) ≡ Some more =
      ap (λ path. rows_by n types path (rows_spelling more)) (sym last)
      ∙ read_all more (front ++ row ∷ []) root (subst (IsUnder types root) (sym joined) under) n (omega (arith, fits, length_spelling row more, length_row row)) in
      ap (from_row (rows_by n types) (row.bytes ++ rows_spelling more)) next
      ∙ ap (option_map (λ rows. row ∷ rows)) (ap (rows_by n types row.path) (drop_at row.bytes (rows_spelling more) (length row.bytes) refl) ∙ rest)

  -- what is read so far
  record IsRead (front rows : List Row) (bytes : List ℕ) : Type 0 where
    pub root : List ℕ
    pub under : IsUnder types root (front ++ rows)
    pub spelled : rows_spelling rows ≡ bytes

  read_none : (front : List Row) (root : List ℕ) → IsUnder types root front → (rows : List Row) → rows ≡ [] → IsRead front rows []
  read_none front root under rows none = record {
    root = root;
    under = subst (λ rs. IsUnder types root rs) (sym (append-nil front) ∙ ap (λ rs. front ++ rs) (sym none)) under;
    spelled = ap rows_spelling none;
  }

  -- and what is read is spelled so
  all_read : (n : ℕ) (front : List Row) (root : List ℕ) → IsUnder types root front → (bytes : List ℕ) (rows : List Row) → rows_by n types (last_path front) bytes ≡ Some rows → IsRead front rows bytes
  all_read zero front root under [] rows e = let same : Some [] ≡ Some rows = e in read_none front root under rows (let none : [] ≡ rows = cc in sym none)
  all_read (suc n) front root under [] rows e = let same : Some [] ≡ Some rows = e in read_none front root under rows (let none : [] ≡ rows = cc in sym none)
  all_read zero front root under (t ∷ bytes) rows e = let clash : None ≡ Some rows = e in absurd (cc)
  all_read (suc n) front root under (t ∷ bytes) rows e = by (next_row types (last_path front) (t ∷ bytes)) refl e (all_read n)
    where
      one_more : (row : Row) (rest : List ℕ) → t ∷ bytes ≡ row_spelling row ++ rest → drop (length row.bytes) bytes ≡ rest
          → (o : Option (List Row)) → rows_by n types row.path (drop (length row.bytes) bytes) ≡ o → option_map (λ others. row ∷ others) o ≡ Some rows
          → ((others : List Row) → rows_by n types row.path (drop (length row.bytes) bytes) ≡ Some others → IsRead (front ++ row ∷ []) others (drop (length row.bytes) bytes)) → IsRead front rows (t ∷ bytes)
      one_more row rest whole left None g f rec = let clash : None ≡ Some rows = f in absurd (cc)
      one_more row rest whole left (Some others) g f rec =
          let same : Some (row ∷ others) ≡ Some rows = f in
          let parts : row ∷ others ≡ rows = cc in
          let r = rec others g in
          subst (λ rs. IsRead front rs (t ∷ bytes)) parts (record {
            root = r.root;
            under = subst (IsUnder types r.root) (append_assoc front (row ∷ []) others) r.under;
            spelled = ap (λ l. row_spelling row ++ l) (r.spelled ∙ left) ∙ sym whole;
          })

      by : (o : Option Row) → next_row types (last_path front) (t ∷ bytes) ≡ o → from_row (rows_by n types) bytes o ≡ Some rows
          → ((front' : List Row) (root' : List ℕ) → IsUnder types root' front' → (bytes' : List ℕ) (rows' : List Row) → rows_by n types (last_path front') bytes' ≡ Some rows' → IsRead front' rows' bytes') → IsRead front rows (t ∷ bytes)
      by None q f rec = let clash : None ≡ Some rows = f in absurd (cc)
      by (Some row) q f rec =
          let behind = row_spelled types (last_path front) (t ∷ bytes) row q in
          let left : drop (length row.bytes) bytes ≡ behind.0 = ap (λ l. drop (length row.bytes) (drop 1 l)) behind.1 ∙ drop_at row.bytes behind.0 (length row.bytes) refl in
          one_more row behind.0 behind.1 left (rows_by n types row.path (drop (length row.bytes) bytes)) refl f
          (λ others g. rec (front ++ row ∷ []) (root_of row.path) (next_under types all front root under (t ∷ bytes) row q) (drop (length row.bytes) bytes) others
          (ap (λ path. rows_by n types path (drop (length row.bytes) bytes)) (last_path_push front row) ∙ g))

-- bytes that spell a record
pub spells_rows : (dbd : Dbd) → IsHierarchy dbd.types → (bytes : List ℕ) (rows : List Row) → Spells dbd bytes rows → rows_of_bytes dbd bytes ≡ Some rows
unfolding rows_of_bytes
spells_rows dbd all bytes rows h =
    let fits : length bytes ≤ record_limit dbd = omega (arith, ap (length {A = ℕ}) h.spelled, h.valid.within) in
    ap (λ b. cond b (rows_by (length bytes) dbd.types [] bytes) None) (le-leb (length bytes) (record_limit dbd) fits)
    ∙ ((λ i. rows_by (length bytes) dbd.types [] (sym h.spelled i))
    ∙ read_all dbd.types all rows [] h.root h.valid.whole.under (length bytes) (omega (arith, ap (length {A = ℕ}) h.spelled)))

-- no bytes spell no rows
pub no_bytes : (dbd : Dbd) → rows_of_bytes dbd [] ≡ Some []
unfolding rows_of_bytes
no_bytes dbd = ap (λ b. cond b (rows_by 0 dbd.types [] []) None) (le-leb 0 (record_limit dbd) (omega arith))

-- rows that bytes spell are a record, or there are none
pub record RowsOf (dbd : Dbd) (bytes : List ℕ) (rows : List Row) : Type 0 where
  pub some : rows ≢ [] → Spells dbd bytes rows
  pub none : rows ≡ [] → bytes ≡ []

pub rows_spell : (dbd : Dbd) → IsHierarchy dbd.types → (bytes : List ℕ) (rows : List Row) → rows_of_bytes dbd bytes ≡ Some rows → RowsOf dbd bytes rows
unfolding rows_of_bytes
rows_spell dbd all bytes rows e = by (leb (length bytes) (record_limit dbd)) refl e
  where
    by : (b : Bool) → leb (length bytes) (record_limit dbd) ≡ b → cond b (rows_by (length bytes) dbd.types [] bytes) None ≡ Some rows → RowsOf dbd bytes rows
    by false q f = let clash : None ≡ Some rows = f in absurd (cc)
    by true q f =
        let r = all_read dbd.types all (length bytes) [] [] (none_under dbd.types []) bytes rows f in
        record {
          some = λ some. record {
            root = r.root;
            valid = record {
              whole = record { some = some; under = r.under };
              within = omega (arith, ap (length {A = ℕ}) r.spelled, leb-true (length bytes) (record_limit dbd) q);
            };
            spelled = r.spelled;
          };
          none = λ none. sym r.spelled ∙ ap rows_spelling none;
        }

-- bytes that spell no record are none
pub no_image : (dbd : Dbd) → IsHierarchy dbd.types → (bytes : List ℕ) → bytes ≢ [] → (SpellsRecord dbd bytes → ⊥) → None ≡ rows_of_bytes dbd bytes
no_image dbd all bytes some no_record = by (rows_of_bytes dbd bytes) refl
  where
    of_rows : (rows : List Row) → RowsOf dbd bytes rows → ⊥
    of_rows [] r = some (r.none refl)
    of_rows (row ∷ rows) r = no_record (record { rows = row ∷ rows; spells = r.some (λ e. let clash : row ∷ rows ≡ [] = e in absurd (cc)) })

    by : (o : Option (List Row)) → rows_of_bytes dbd bytes ≡ o → None ≡ rows_of_bytes dbd bytes
    by None q = sym q
    by (Some rows) q = absurd (of_rows rows (rows_spell dbd all bytes rows q))
