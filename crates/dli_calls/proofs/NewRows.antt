-- The rows that an ISRT adds and a REPL leaves are rows of the database.
use Rattle.std.proofs.Common.{◌≡◌, ℕ, ◌≤◌, ◌++◌, ◌∷◌, [], List, length, take, zero, suc, refl, sym, ◌∙◌, ap, subst, Bool, true, false, cond, not, ◌&&◌, None, Some, arith, eqb, ◌⊎◌, inl, inr, length-append, length-take-le}
use Rattle.std.specs.Prelude.{replicate, is_some}
use Rattle.std.proofs.lemmas.List.{length-replicate}
use Rattle.std.specs.Option.{option_map_or}
use Rattle.std.specs.List.{AllByRecursion, find, list_all}
use Rattle.std.specs.Ordering.{is_eq}
use Rattle.std.proofs.lemmas.Bool.{ne_eqb, false≢true}
use Rattle.tm_types.specs.declared.dbd.SegType.{SegType}
use Rattle.tm_types.specs.declared.ssa.Ssa.{Ssa}
use Rattle.tm_types.specs.declared.status.Status.TheVariants.{GE, II, DJ, DA}
use Rattle.tm_types.specs.Segment.{is_printable}
use Rattle.tm_types.specs.SegTypes.{IsHierarchy, type_at}
use Rattle.model_data.specs.declared.row.Row.{Row}
use Rattle.model_data.specs.Path.{key_cmp, path_cmp, end_type, end_key, parent_path, IsChild, IsPath, IsPathBelow}
use Rattle.model_data.specs.Row.{HasPath, IsRow}
use Rattle.model_data.proofs.Order.{exact_path}
use Rattle.model_data.proofs.Records.{is_eq-true}
use Rattle.model_data.proofs.Under.{has_with}
use Rattle.model_data.proofs.Paths.{some_and, some_and_at, type_known}
use Rattle.std.proofs.lemmas.Map.Lookups.{exact_bytes}
use Rattle.model_data.specs.Search.{fitted_key, number_named, key_length, data_length, asked_number, is_row_there}
use Rattle.model_data.specs.ChangeCalls.{key_bytes, asked_pair, insert_path, insert_row, insert_fault, replace_fault, delete_fault}
use Rattle.model_data.specs.Conditions.{NamesChild, AreInsertSsas}
use Rattle.row_search.proofs.Fitting.{take_blanks}
use Rattle.row_search.proofs.Within.{both_true}

-- the front of fitted bytes is fitted
blanks_alike : (bytes : List ℕ) (k n m : ℕ) → k ≤ n → k ≤ m → take {A = ℕ} k (bytes ++ replicate n 32) ≡ take {A = ℕ} k (bytes ++ replicate m 32)
blanks_alike [] k n m h g = take_blanks k n m h g
blanks_alike (b ∷ bytes) zero n m h g = refl
blanks_alike (b ∷ bytes) (suc k) n m h g = λ i. b ∷ blanks_alike bytes k n m (omega arith) (omega arith) i

take_twice : (k n : ℕ) (xs : List ℕ) → k ≤ n → take k (take n xs) ≡ take k xs
take_twice zero n xs h = refl
take_twice (suc k) zero xs h = absurd (omega arith)
take_twice (suc k) (suc n) [] h = refl
take_twice (suc k) (suc n) (x ∷ xs) h = λ i. x ∷ take_twice k n xs (omega arith) i

pub fitted_front : (bytes : List ℕ) (k n : ℕ) → k ≤ n → take k (fitted_key n bytes) ≡ fitted_key k bytes
fitted_front bytes k n h = take_twice k n (bytes ++ replicate n 32) h ∙ blanks_alike bytes k n k h (omega arith)

pub fitted_length : (n : ℕ) (bytes : List ℕ) → length (fitted_key n bytes) ≡ n
fitted_length n bytes =
    length-take-le n (bytes ++ replicate n 32) (omega (arith, length-append bytes (replicate n 32), length-replicate {A = ℕ} n 32))

blanks_printable : (n : ℕ) → list_all is_printable (replicate n 32) ≡ true
blanks_printable zero = refl
blanks_printable (suc n) = blanks_printable n

front_printable : (n : ℕ) (xs ys : List ℕ) → list_all is_printable xs ≡ true → list_all is_printable ys ≡ true → list_all is_printable (take n (xs ++ ys)) ≡ true
front_printable zero xs ys h g = refl
front_printable (suc n) [] [] h g = refl
front_printable (suc n) [] (y ∷ ys) h g =
    let parts = both_true (is_printable y) (list_all is_printable ys) g in
    ap (λ b. b && list_all is_printable (take n ys)) parts.0 ∙ front_printable n [] ys refl parts.1
front_printable (suc n) (x ∷ xs) ys h g =
    let parts = both_true (is_printable x) (list_all is_printable xs) h in
    ap (λ b. b && list_all is_printable (take n (xs ++ ys))) parts.0 ∙ front_printable n xs ys parts.1 g

pub fitted_printable : (n : ℕ) (bytes : List ℕ) → list_all is_printable bytes ≡ true → list_all is_printable (fitted_key n bytes) ≡ true
fitted_printable n bytes h = front_printable n bytes (replicate n 32) h (blanks_printable n)

-- a path that is there is that of a row
pub there_has : (path : List (ℕ × List ℕ)) (rows : List Row) → is_row_there path rows ≡ true → HasPath rows path
there_has path [] e = absurd (false≢true e)
there_has path (x ∷ rows) e = by (is_eq (path_cmp path x.path)) refl e (there_has path rows)
  where
    by : (b : Bool) → is_eq (path_cmp path x.path) ≡ b → is_some (cond b (Some x) (find (λ row. is_eq (path_cmp path row.path)) rows)) ≡ true
        → (is_row_there path rows ≡ true → HasPath rows path) → (x.path ≡ path) ⊎ HasPath rows path
    by true f g rec = inl (sym (exact_path path x.path (is_eq-true _ f)))
    by false f g rec = inr (rec g)

module _ (types : List SegType) (all : IsHierarchy types) where
  -- a child is a pair whose key is fitted to its type
  asked_child : (above : ℕ) (area : List ℕ) (ssa : Ssa) → NamesChild types above ssa → IsChild types above (asked_pair types area ssa)
  asked_child above area ssa h =
      let found = some_and (λ s. s.parent ≡ above) (type_at types (number_named types ssa.segment)) h in
      some_and_at (λ s. (s.parent ≡ above) × (length (asked_pair types area ssa).1 ≡ s.key)) (type_at types (number_named types ssa.segment)) found.0 found.1
      (found.2, fitted_length (key_length types (number_named types ssa.segment)) (key_bytes ssa.test area) ∙ ap (λ o. option_map_or (λ s. s.key) o 0) found.1)

  insert_below : (above : ℕ) (ssas : List Ssa) (area : List ℕ) → AreInsertSsas types above ssas → IsPathBelow types above (insert_path types ssas area)
  insert_below above [] area h = absurd h
  insert_below above (x ∷ []) area h = (asked_child above area x h.0, tt)
  insert_below above (x ∷ y ∷ ssas) area h = (asked_child above area x h.0, insert_below (number_named types x.segment) (y ∷ ssas) area h.2)

  pub insert_is_path : (ssas : List Ssa) (area : List ℕ) → AreInsertSsas types 0 ssas → IsPath types (insert_path types ssas area)
  insert_is_path [] area h = absurd h
  insert_is_path (x ∷ ssas) area h = insert_below 0 (x ∷ ssas) area h

  -- it ends at the type that the last argument names, with the key of the data
  pub insert_end : (ssas : List Ssa) (area : List ℕ) → end_type (insert_path types ssas area) ≡ asked_number types ssas
  insert_end [] area = refl
  insert_end (x ∷ []) area = refl
  insert_end (x ∷ y ∷ ssas) area = insert_end (y ∷ ssas) area

  insert_key : (above : ℕ) (ssas : List Ssa) (area : List ℕ) → AreInsertSsas types above ssas
      → end_key (insert_path types ssas area) ≡ fitted_key (key_length types (asked_number types ssas)) area
  insert_key above [] area h = absurd h
  insert_key above (x ∷ []) area h = ap (λ t. fitted_key (key_length types (number_named types x.segment)) (key_bytes t area)) h.1
  insert_key above (x ∷ y ∷ ssas) area h = insert_key (number_named types x.segment) (y ∷ ssas) area h.2

  insert_type : (above : ℕ) (ssas : List Ssa) → AreInsertSsas types above ssas → (s : SegType) × (type_at types (asked_number types ssas) ≡ Some s)
  insert_type above [] h = absurd h
  insert_type above (x ∷ []) h = let found = some_and (λ s. s.parent ≡ above) (type_at types (number_named types x.segment)) h.0 in (found.0, found.1)
  insert_type above (x ∷ y ∷ ssas) h = insert_type (number_named types x.segment) (y ∷ ssas) h.2

  -- where an insert has no fault, the segment is a root or its parent is there
  no_fault_parent : (path : List (ℕ × List ℕ)) (rows : List Row) → IsPath types path → insert_fault path rows ≡ None → (parent_path path ≡ []) ⊎ HasPath rows (parent_path path)
  no_fault_parent [] rows h e = absurd h
  no_fault_parent (p ∷ []) rows h e = inl refl
  no_fault_parent (p ∷ q ∷ path) rows h e = by (is_row_there (parent_path (p ∷ q ∷ path)) rows) refl
    where
      by : (b : Bool) → is_row_there (parent_path (p ∷ q ∷ path)) rows ≡ b → (parent_path (p ∷ q ∷ path) ≡ []) ⊎ HasPath rows (parent_path (p ∷ q ∷ path))
      by true f = inr (there_has (parent_path (p ∷ q ∷ path)) rows f)
      by false f =
          let other : eqb (length (p ∷ q ∷ path)) 1 ≡ false = ne_eqb (length (p ∷ q ∷ path)) 1 (λ g. absurd (omega arith)) in
          let clash : Some GE ≡ None = sym ((λ i. cond (not (other i) && not (f i)) (Some GE) (cond (is_row_there (p ∷ q ∷ path) rows) (Some II) None))) ∙ e in absurd (cc)

  -- data that is fitted to a type begins with the fitted key
  front_is_key : (n : ℕ) (s : SegType) (area : List ℕ) → type_at types n ≡ Some s
      → take (length (fitted_key (key_length types n) area)) (fitted_key (data_length types n) area) ≡ fitted_key (key_length types n) area
  front_is_key n s area e =
      let key : key_length types n ≡ s.key = ap (λ o. option_map_or (λ t. t.key) o 0) e in
      let whole : data_length types n ≡ s.bytes = ap (λ o. option_map_or (λ t. t.bytes) o 0) e in
      let within : s.key ≤ s.bytes = (type_known types all n s e).key_within in
      ap (λ k. take k (fitted_key (data_length types n) area)) (fitted_length (key_length types n) area)
      ∙ fitted_front area (key_length types n) (data_length types n) (omega arith)

  pub insert_is_row : (ssas : List Ssa) (area : List ℕ) (rows : List Row) → AreInsertSsas types 0 ssas → list_all is_printable area ≡ true
      → insert_fault (insert_path types ssas area) rows ≡ None → IsRow types rows (insert_row types ssas area)
  insert_is_row ssas area rows h printable e =
      let found = insert_type 0 ssas h in
      let key : end_key (insert_path types ssas area) ≡ fitted_key (key_length types (asked_number types ssas)) area = insert_key 0 ssas area h in
      record {
        path = insert_is_path ssas area h;
        parent = no_fault_parent (insert_path types ssas area) rows (insert_is_path ssas area h) e;
        whole = some_and_at (λ s. length (fitted_key (data_length types (asked_number types ssas)) area) ≡ s.bytes) (type_at types (end_type (insert_path types ssas area))) found.0
            (ap (type_at types) (insert_end ssas area) ∙ found.1)
            (fitted_length (data_length types (asked_number types ssas)) area ∙ ap (λ o. option_map_or (λ s. s.bytes) o 0) found.1);
        printable = fitted_printable (data_length types (asked_number types ssas)) area printable;
        key = ap (λ k. take (length k) (fitted_key (data_length types (asked_number types ssas)) area)) key
            ∙ (front_is_key (asked_number types ssas) found.0 area found.1 ∙ sym key);
      }

  -- where a replacement has no fault, the row of the path with the data is one of the database
  pub replace_is_row : (held : List (ℕ × List ℕ)) (area : List ℕ) (rows : List Row) → AllByRecursion (IsRow types rows) rows → list_all is_printable area ≡ true
      → replace_fault types held area rows ≡ None → IsRow types rows (record { path = held; bytes = fitted_key (data_length types (end_type held)) area })
  replace_is_row held area rows each printable e = by (is_eq (key_cmp (end_key held) (fitted_key (key_length types (end_type held)) area))) refl (is_row_there held rows) refl
    where
      by : (b : Bool) → is_eq (key_cmp (end_key held) (fitted_key (key_length types (end_type held)) area)) ≡ b → (c : Bool) → is_row_there held rows ≡ c
          → IsRow types rows (record { path = held; bytes = fitted_key (data_length types (end_type held)) area })
      by false f c g =
          let clash : Some DA ≡ None = sym (ap (λ b. cond (not b) (Some DA) (delete_fault held rows)) f) ∙ e in absurd (cc)
      by true f false g =
          let clash : Some DJ ≡ None = sym (ap (λ b. cond (not b) (Some DA) (delete_fault held rows)) f ∙ ap (λ b. cond b None (Some DJ)) g) ∙ e in absurd (cc)
      by true f true g =
          let found = has_with (IsRow types rows) rows held each (there_has held rows g) in
          let valid : IsRow types rows found.0 = found.2 in
          let typed = some_and (λ s. length found.0.bytes ≡ s.bytes) (type_at types (end_type found.0.path)) valid.whole in
          let at : type_at types (end_type held) ≡ Some typed.0 = ap (λ p. type_at types (end_type p)) (sym found.1) ∙ typed.1 in
          let key : end_key held ≡ fitted_key (key_length types (end_type held)) area = exact_bytes (end_key held) (fitted_key (key_length types (end_type held)) area) (is_eq-true _ f) in
          record {
            path = subst (IsPath types) found.1 valid.path;
            parent = subst (λ p. (parent_path p ≡ []) ⊎ HasPath rows (parent_path p)) found.1 valid.parent;
            whole = some_and_at (λ s. length (fitted_key (data_length types (end_type held)) area) ≡ s.bytes) (type_at types (end_type held)) typed.0 at
                (fitted_length (data_length types (end_type held)) area ∙ ap (λ o. option_map_or (λ s. s.bytes) o 0) at);
            printable = fitted_printable (data_length types (end_type held)) area printable;
            key = ap (λ k. take (length k) (fitted_key (data_length types (end_type held)) area)) key
                ∙ (front_is_key (end_type held) typed.0 area at ∙ sym key);
          }
