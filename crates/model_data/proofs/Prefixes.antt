-- Records whose spellings begin alike are alike, and the longest prefix that spells a record.
use Rattle.std.proofs.Common.{◌≡◌, ℕ, ◌+◌, ◌<◌, ◌≤◌, ◌++◌, ◌∷◌, [], List, Option, None, Some, length, take, drop, zero, suc, refl, sym, ◌∙◌, ap, subst, arith, ◌⊎◌, inl, inr, ⊎_elim, length-append, append_assoc}
use Rattle.std.proofs.lemmas.List.{append-nil, take-append-drop, length-take-le}
use Rattle.std.proofs.lemmas.Bool.{cases_lt, cases_order}
use Rattle.std.specs.List.Sorted.{IsStrictlySortedBy}
use Rattle.std.proofs.Math.Seq.{take-append_seam}
use Rattle.std.proofs.lemmas.Grind.{flat_map-append}
use Rattle.std.proofs.lemmas.Option.{same_Some, none-some}
use Rattle.tm_types.specs.declared.dbd.SegType.{SegType}
use Rattle.tm_types.specs.declared.dbd.Dbd.{Dbd}
use Rattle.tm_types.specs.SegTypes.{IsHierarchy}
use Rattle.model_data.specs.declared.row.Row.{Row}
use Rattle.std.specs.Option.{option_map}
use Rattle.std.specs.List.{slice_get}
use Rattle.model_data.specs.Path.{root_of, end_type, IsPath}
use Rattle.model_data.specs.Record.{IsUnder, IsLongRecord, Spells, SpellsRecord, IsLongestRecord, row_spelling, rows_spelling, record_limit, record_root}
use Rattle.model_data.specs.RowsOfBytes.{last_path, next_row, down_to}
use Rattle.model_data.proofs.Paths.{end_type_push}
use Rattle.model_data.proofs.Reading.{reads_next}
use Rattle.model_data.proofs.NextRow.{row_read, row_known}

-- equal fronts may be cut off
pub append_cancel : {A : Type 0} (a b c : List A) → a ++ b ≡ a ++ c → b ≡ c
append_cancel [] b c e = e
append_cancel (x ∷ a) b c e = append_cancel a b c (ap (drop 1) e)

pub length_row : (row : Row) → length (row_spelling row) ≡ 1 + length row.bytes
length_row row = omega arith

pub length_spelling : (row : Row) (rows : List Row) → length (rows_spelling (row ∷ rows)) ≡ length (row_spelling row) + length (rows_spelling rows)
length_spelling row rows = length-append (row_spelling row) (rows_spelling rows)

pub spelling_append : (xs ys : List Row) → rows_spelling (xs ++ ys) ≡ rows_spelling xs ++ rows_spelling ys
spelling_append xs ys = flat_map-append row_spelling xs ys

pub length_spelling_append : (xs ys : List Row) → length (rows_spelling (xs ++ ys)) ≡ length (rows_spelling xs) + length (rows_spelling ys)
length_spelling_append xs ys = ap length (spelling_append xs ys) ∙ length-append (rows_spelling xs) (rows_spelling ys)

-- only no rows are spelled by no bytes
pub no_spelling : (rows : List Row) → length (rows_spelling rows) ≡ 0 → rows ≡ []
no_spelling [] e = refl
no_spelling (row ∷ rows) e = absurd (omega (arith, length_spelling row rows, length_row row))

-- the row that is read is spelled at the front of the bytes
pub row_spelled : (types : List SegType) (last : List (ℕ × List ℕ)) (bytes : List ℕ) (row : Row) → next_row types last bytes ≡ Some row
    → (rest : List ℕ) × (bytes ≡ row_spelling row ++ rest)
row_spelled types last [] row e = absurd (none-some row e)
row_spelled types last (t ∷ bytes) row e =
    let found = reads_next types last t bytes row e in
    let s = found.0 in
    let is = found.2.is_row in
    let type_is : t ≡ end_type row.path = sym (end_type_push (down_to s.parent last) (t, take s.key bytes)) ∙ ap (λ r. end_type r.path) is in
    let data_is : take s.bytes bytes ≡ row.bytes = ap (λ r. r.bytes) is in
    (drop s.bytes bytes, λ i. type_is i ∷ (sym (take-append-drop s.bytes bytes) ∙ ap (λ d. d ++ drop s.bytes bytes) data_is) i)

-- no rows are under any root
pub none_under : (types : List SegType) (root : List ℕ) → IsUnder types root []
unfolding IsStrictlySortedBy
none_under types root = record { ascending = tt; each = tt; one_root = tt }

module _ (types : List SegType) (all : IsHierarchy types) where
  -- a row that is read stands after those before it
  pub next_under : (rows : List Row) (root : List ℕ) → IsUnder types root rows → (bytes : List ℕ) (row : Row) → next_row types (last_path rows) bytes ≡ Some row
      → IsUnder types (root_of row.path) (rows ++ row ∷ [])
  next_under rows root under [] row e = absurd (none-some row e)
  next_under rows root under (t ∷ bytes) row e =
      let found = reads_next types (last_path rows) t bytes row e in
      row_read types all rows root under found.0 t bytes row found.1 found.2

  -- of two lists of rows that go on from the same rows, and whose spellings begin alike, the shorter is a front of the longer
  pub front_of : (front xs ys : List Row) (p q : List ℕ) (u v : List ℕ) → IsUnder types p (front ++ xs) → IsUnder types q (front ++ ys)
      → rows_spelling xs ++ u ≡ rows_spelling ys ++ v → length (rows_spelling xs) ≤ length (rows_spelling ys) → (more : List Row) × (ys ≡ xs ++ more)
  front_of front [] ys p q u v hx hy e l = (ys, refl)
  front_of front (x ∷ xs) [] p q u v hx hy e l = absurd (omega (arith, length_spelling x xs, length_row x))
  front_of front (x ∷ xs) (y ∷ ys) p q u v hx hy e l =
      let ex : (row_spelling x ++ rows_spelling xs) ++ u ≡ row_spelling x ++ (rows_spelling xs ++ u) = append_assoc (row_spelling x) (rows_spelling xs) u in
      let ey : (row_spelling y ++ rows_spelling ys) ++ v ≡ row_spelling y ++ (rows_spelling ys ++ v) = append_assoc (row_spelling y) (rows_spelling ys) v in
      let bytes : row_spelling x ++ (rows_spelling xs ++ u) ≡ row_spelling y ++ (rows_spelling ys ++ v) = sym ex ∙ (e ∙ ey) in
      let rx = row_known types all front xs x p hx (rows_spelling xs ++ u) in
      let ry = row_known types all front ys y q hy (rows_spelling ys ++ v) in
      let same : x ≡ y = same_Some x y (sym rx ∙ (ap (next_row types (last_path front)) bytes ∙ ry)) in
      let rest : rows_spelling xs ++ u ≡ rows_spelling ys ++ v =
      append_cancel (row_spelling x) _ _ (bytes ∙ ap (λ r. row_spelling r ++ (rows_spelling ys ++ v)) (sym same)) in
      let shorter : length (rows_spelling xs) ≤ length (rows_spelling ys) =
      omega (arith, length_spelling x xs, length_spelling y ys, ap (λ r. length (row_spelling r)) same) in
      let hx' : IsUnder types p ((front ++ x ∷ []) ++ xs) = subst (IsUnder types p) (sym (append_assoc front (x ∷ []) xs)) hx in
      let hy' : IsUnder types q ((front ++ x ∷ []) ++ ys) =
      subst (IsUnder types q) (sym (append_assoc front (x ∷ []) ys)) (subst (λ r. IsUnder types q (front ++ r ∷ ys)) (sym same) hy) in
      let found = front_of (front ++ x ∷ []) xs ys p q u v hx' hy' rest shorter in
      (found.0, λ i. sym same i ∷ found.1 i)

  -- the rows under a root are determined by their bytes
  pub same_rows : (xs ys : List Row) (p q : List ℕ) → IsUnder types p xs → IsUnder types q ys → rows_spelling xs ≡ rows_spelling ys → xs ≡ ys
  same_rows xs ys p q hx hy e =
      let found = front_of [] xs ys p q [] [] hx hy (ap (λ b. b ++ []) e) (omega (arith, ap length e)) in
      let none : found.0 ≡ [] = no_spelling found.0
      (omega (arith, ap length e, ap (λ rs. length (rows_spelling rs)) found.1, length_spelling_append xs found.0)) in
      sym (found.1 ∙ (ap (λ more. xs ++ more) none ∙ append-nil xs))

-- reading on is stuck: there is no next row, or it leads past the limit
abbrev pub IsStuck : Dbd → List Row → List ℕ → Type 0
IsStuck dbd rows rest =
    (next_row dbd.types (last_path rows) rest ≡ None)
    ⊎ ((row : Row) × (next_row dbd.types (last_path rows) rest ≡ Some row) × (record_limit dbd < length (rows_spelling rows) + length (row_spelling row)))

module _ (dbd : Dbd) (all : IsHierarchy dbd.types) where
  -- where reading on is stuck, no longer prefix spells a record
  pub stuck_longest : (rows : List Row) (root rest : List ℕ) → IsUnder dbd.types root rows → length (rows_spelling rows) ≤ record_limit dbd
      → IsStuck dbd rows rest → IsLongestRecord dbd (rows_spelling rows ++ rest) (length (rows_spelling rows))
  stuck_longest rows root rest under fits stuck =
      record {
        within = omega (arith, length-append (rows_spelling rows) rest);
        spells = spells rows under fits;
        longest = longest;
      }
    where
      spells : (rs : List Row) → IsUnder dbd.types root rs → length (rows_spelling rs) ≤ record_limit dbd
          → (length (rows_spelling rs) ≡ 0) ⊎ SpellsRecord dbd (take (length (rows_spelling rs)) (rows_spelling rs ++ rest))
      spells [] u f = inl refl
      spells (r ∷ rs) u f =
          inr (record {
            rows = r ∷ rs;
            spells = record {
              root = root;
              valid = record { whole = record { some = λ e. let empty : r ∷ rs ≡ [] = e in absurd (cc); under = u }; within = f };
              spelled = sym (take-append_seam (rows_spelling (r ∷ rs)) rest);
            };
          })

      behind : (r : Row) (more : List Row) (others : List Row) (q after : List ℕ) → others ≡ rows ++ r ∷ more → IsUnder dbd.types q others
          → rows_spelling others ++ after ≡ rows_spelling rows ++ rest → next_row dbd.types (last_path rows) rest ≡ Some r
      behind r more others q after e u whole =
          let u' : IsUnder dbd.types q (rows ++ r ∷ more) = subst (IsUnder dbd.types q) e u in
          let split : rows_spelling others ++ after ≡ rows_spelling rows ++ (row_spelling r ++ (rows_spelling more ++ after)) =
          ap (λ b. b ++ after) (ap rows_spelling e ∙ spelling_append rows (r ∷ more))
          ∙ (append_assoc (rows_spelling rows) (row_spelling r ++ rows_spelling more) after
          ∙ ap (λ b. rows_spelling rows ++ b) (append_assoc (row_spelling r) (rows_spelling more) after)) in
          let same : row_spelling r ++ (rows_spelling more ++ after) ≡ rest = append_cancel (rows_spelling rows) _ _ (sym split ∙ whole) in
          ap (next_row dbd.types (last_path rows)) (sym same) ∙ row_known dbd.types all rows more r q u' (rows_spelling more ++ after)

      cut : (n : ℕ) (others : List Row) (q after : List ℕ) (more : List Row) → others ≡ rows ++ more → IsUnder dbd.types q others
          → length (rows_spelling others) ≡ n → length (rows_spelling others) ≤ record_limit dbd → rows_spelling others ++ after ≡ rows_spelling rows ++ rest
          → length (rows_spelling rows) < n → ⊥
      cut n others q after [] e u long fit whole up =
          absurd (omega (arith, ap (λ rs. length (rows_spelling rs)) (e ∙ append-nil rows)))
      cut n others q after (r ∷ more) e u long fit whole up =
          let next : next_row dbd.types (last_path rows) rest ≡ Some r = behind r more others q after e u whole in
          ⊎_elim
          (λ gone. none-some r (sym gone ∙ next))
          (λ past.
          let same : past.0 ≡ r = same_Some past.0 r (sym past.1 ∙ next) in
          absurd (omega (arith, past.2, ap (λ row. length (row_spelling row)) same, ap (λ rs. length (rows_spelling rs)) e, length_spelling_append rows (r ∷ more), length_spelling r more)))
          stuck

      longest : (n : ℕ) → length (rows_spelling rows) < n → n ≤ length (rows_spelling rows ++ rest) → SpellsRecord dbd (take n (rows_spelling rows ++ rest)) → ⊥
      longest n more within sp =
          let bytes = rows_spelling rows ++ rest in
          let whole : rows_spelling sp.rows ++ drop n bytes ≡ bytes = ap (λ b. b ++ drop n bytes) sp.spells.spelled ∙ take-append-drop n bytes in
          let long : length (rows_spelling sp.rows) ≡ n = ap length sp.spells.spelled ∙ length-take-le n bytes within in
          let found = front_of dbd.types all [] rows sp.rows root sp.spells.root rest (drop n bytes) under sp.spells.valid.whole.under (sym whole) (omega arith) in
          cut n sp.rows sp.spells.root (drop n bytes) found.0 found.1 sp.spells.valid.whole.under long sp.spells.valid.within whole more

  -- one step of reading: it is stuck, or one more row is read
  pub read_step : (rows : List Row) (root rest : List ℕ) → IsUnder dbd.types root rows
      → IsStuck dbd rows rest
      ⊎ ((row : Row) × (more : List ℕ) × (rest ≡ row_spelling row ++ more) × IsUnder dbd.types (root_of row.path) (rows ++ row ∷ [])
      × (length (rows_spelling (rows ++ row ∷ [])) ≤ record_limit dbd))
  read_step rows root rest under = by (next_row dbd.types (last_path rows) rest) refl
    where
      by : (o : Option Row) → next_row dbd.types (last_path rows) rest ≡ o
          → IsStuck dbd rows rest
          ⊎ ((row : Row) × (more : List ℕ) × (rest ≡ row_spelling row ++ more) × IsUnder dbd.types (root_of row.path) (rows ++ row ∷ [])
          × (length (rows_spelling (rows ++ row ∷ [])) ≤ record_limit dbd))
      by None e = inl (inl e)
      by (Some row) e =
          ⊎_elim
          (λ past. inl (inr (row, e, past)))
          (λ fits.
          let found = row_spelled dbd.types (last_path rows) rest row e in
          let last : length (rows_spelling (row ∷ [])) ≡ length (row_spelling row) = ap length (append-nil (row_spelling row)) in
          inr (row, found.0, found.1, next_under dbd.types all rows root under rest row e, omega (arith, fits, last, length_spelling_append rows (row ∷ []))))
          (cases_lt (record_limit dbd) (length (rows_spelling rows) + length (row_spelling row)))

  read_on : (n : ℕ) (rows : List Row) (root rest : List ℕ) → length rest ≤ n → IsUnder dbd.types root rows → length (rows_spelling rows) ≤ record_limit dbd
      → (place : ℕ) × IsLongestRecord dbd (rows_spelling rows ++ rest) place
  read_on zero rows root rest short under fits =
      ⊎_elim
      (λ stuck. (length (rows_spelling rows), stuck_longest rows root rest under fits stuck))
      (λ h. absurd (omega (arith, short, ap length h.2, length-append (row_spelling h.0) h.1, length_row h.0)))
      (read_step rows root rest under)
  read_on (suc n) rows root rest short under fits =
      ⊎_elim
      (λ stuck. (length (rows_spelling rows), stuck_longest rows root rest under fits stuck))
      (λ h.
      let found = read_on n (rows ++ h.0 ∷ []) (root_of h.0.path) h.1 (omega (arith, short, ap length h.2, length-append (row_spelling h.0) h.1, length_row h.0)) h.3 h.4 in
      let whole : rows_spelling (rows ++ h.0 ∷ []) ++ h.1 ≡ rows_spelling rows ++ rest =
      ap (λ b. b ++ h.1) (spelling_append rows (h.0 ∷ []) ∙ ap (λ b. rows_spelling rows ++ b) (append-nil (row_spelling h.0)))
      ∙ (append_assoc (rows_spelling rows) (row_spelling h.0) h.1 ∙ ap (λ b. rows_spelling rows ++ b) (sym h.2)) in
      (found.0, subst (λ b. IsLongestRecord dbd b found.0) whole found.1))
      (read_step rows root rest under)

  -- of the prefixes of any bytes that spell a record there is a longest
  pub longest_record : (bytes : List ℕ) → (place : ℕ) × IsLongestRecord dbd bytes place
  longest_record bytes = read_on (length bytes) [] [] bytes (omega arith) (none_under dbd.types []) (omega arith)

-- and only one
pub one_longest : (dbd : Dbd) (bytes : List ℕ) (m n : ℕ) → IsLongestRecord dbd bytes m → IsLongestRecord dbd bytes n → m ≡ n
one_longest dbd bytes m n a b = by (cases_order m n)
  where
    ahead : (i j : ℕ) → IsLongestRecord dbd bytes i → IsLongestRecord dbd bytes j → i < j → ⊥
    ahead i j x y up = ⊎_elim (λ e. absurd (omega arith)) (λ sp. x.longest j up y.within sp) y.spells

    by : (m ≡ n) ⊎ ((m < n) ⊎ (n < m)) → m ≡ n
    by h = ⊎_elim (λ e. e) (λ g. ⊎_elim (λ up. absurd (ahead m n a b up)) (λ down. absurd (ahead n m b a down)) g) h

-- bytes spell one record at most
pub one_record : (dbd : Dbd) → IsHierarchy dbd.types → (bytes : List ℕ) (xs ys : List Row) → Spells dbd bytes xs → Spells dbd bytes ys → xs ≡ ys
one_record dbd all bytes xs ys a b =
    same_rows dbd.types all xs ys a.root b.root a.valid.whole.under b.valid.whole.under (a.spelled ∙ sym b.spelled)

-- the first row of a record speaks of its root
pub record_root_is : (types : List SegType) (root : List ℕ) (rows : List Row) → IsLongRecord types root rows → record_root rows ≡ Some root
record_root_is types root [] h = absurd (h.some refl)
record_root_is types root (row ∷ rows) h = by row.path h.under.each.0.path h.under.one_root.0
  where
    by : (path : List (ℕ × List ℕ)) → IsPath types path → root_of path ≡ root → option_map (λ p. p.1) (slice_get path 0) ≡ Some root
    by [] v e = absurd v
    by (p ∷ path) v e = ap (λ k. Some k) e
