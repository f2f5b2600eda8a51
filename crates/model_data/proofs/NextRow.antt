-- A row that is read is a row after those before it, and each row after others is read.
use Rattle.std.proofs.Common.{◌≡◌, ◌≢◌, ℕ, ◌-◌, ◌<◌, ◌≤◌, ◌++◌, ◌∷◌, [], List, Some, length, take, refl, sym, ◌∙◌, ap, subst, true, arith, ◌⊎◌, inl, inr, ⊎_elim, length-take-le, length-append}
use Rattle.std.specs.Option.{IsSomeAnd}
use Rattle.std.specs.List.{AllByRecursion, list_all}
use Rattle.std.specs.List.Sorted.{IsStrictlySortedBy}
use Rattle.std.specs.declared.cmp.Ordering.TheVariants.{Less, Equal, Greater}
use Rattle.std.proofs.lemmas.Bool.{and_parts, and_from, eq-eqb, ne_eqb, not-true, not_from_false, eqb-false}
use Rattle.std.proofs.lemmas.List.{take-append-le}
use Rattle.std.proofs.Math.Seq.{take-append_seam}
use Rattle.std.proofs.lemmas.Cmp.{tied_itself, on_total}
use Rattle.std.specs.Cmp.{IsTotalOrder}
use Rattle.tm_types.specs.declared.dbd.SegType.{SegType}
use Rattle.tm_types.specs.SegTypes.{IsTypeAt, IsHierarchy, type_at}
use Rattle.tm_types.specs.Segment.{is_printable}
use Rattle.model_data.specs.declared.row.Row.{Row}
use Rattle.model_data.specs.Path.{root_of, end_type, end_key, parent_path, path_cmp, IsChild, IsPathBelow, IsPath}
use Rattle.model_data.specs.Row.{HasPath, IsRow, row_cmp}
use Rattle.model_data.specs.Record.{IsUnder, row_spelling}
use Rattle.model_data.specs.RowsOfBytes.{down_to, last_path, may_follow, row_at, next_row}
use Rattle.std.proofs.lemmas.Map.Keys.{sorted_head}
use Rattle.model_data.proofs.Order.{path_total, between, prefix_less, not_less_itself, not_before_prefix, less_greater, equal_greater}
use Rattle.model_data.proofs.Lists.{all_front, all_back, all_append, all_then, sorted_front, sorted_back, sorted_across, sorted_push, sorted_single}
use Rattle.model_data.proofs.Paths.{some_and, some_and_at, type_known, path_parts, parent_push, end_type_push, end_key_push, path_front, path_push, last_child, path_below, child_greater, root_type, end_least, cut_at_end, down_to_front}
use Rattle.model_data.proofs.Under.{has_front, has_split, has_with, row_among, front_there, last_view, last_path_push, has_last}
use Rattle.model_data.proofs.Reading.{Reads, next_reads, followed_end, take_less}

-- a nonempty path is where its end isn't above the root
pub some_path : (a : List (ℕ × List ℕ)) (n : ℕ) → end_type a ≡ n → (n ≡ 0 → ⊥) → (p : ℕ × List ℕ) × (rest : List (ℕ × List ℕ)) × (a ≡ p ∷ rest)
some_path [] n e above = absurd (above (sym e))
some_path (p ∷ a) n e above = (p, a, refl)

-- the data and the key of a row at the front of bytes
fits_read : (s : SegType) (tail : List ℕ) (row : Row) → length row.bytes ≡ s.bytes → s.bytes ≤ length (row.bytes ++ tail)
fits_read s tail row whole = omega (arith, length-append row.bytes tail)

key_read : (s : SegType) (key tail : List ℕ) (row : Row) → s.key ≤ s.bytes → length key ≡ s.key → length row.bytes ≡ s.bytes
    → take (length key) row.bytes ≡ key → take s.key (row.bytes ++ tail) ≡ key
key_read s key tail row within keyed whole begins =
    let fits : s.key ≤ length row.bytes = omega arith in
    take-append-le s.key row.bytes tail fits ∙ (ap (λ n. take n row.bytes) (sym keyed) ∙ begins)

pub row_total : IsTotalOrder row_cmp
row_total = on_total (λ row. row.path) path_total

module _ (types : List SegType) (all : IsHierarchy types) where
  -- a row read after others is under their root
  pub same_root : (l : Row) (root : List ℕ) (s : SegType) (t : ℕ) (bytes : List ℕ) (row : Row)
      → IsPath types l.path → root_of l.path ≡ root → Reads s l.path t bytes row → root_of row.path ≡ root
  same_root l root s t bytes row valid rooted reads =
      let dependent : s.parent ≡ 0 → ⊥ = not_root l.path valid reads.follows in
      let ends : end_type (down_to s.parent l.path) ≡ s.parent = followed_end s l.path reads.follows in
      let above = some_path (down_to s.parent l.path) s.parent ends dependent in
      let found = down_to_front s.parent l.path in
      let mine : root_of row.path ≡ above.0.1 =
      ap (λ r. root_of r.path) (sym reads.is_row) ∙ ap (λ a. root_of (a ++ (t, take s.key bytes) ∷ [])) above.2 in
      let theirs : root_of l.path ≡ above.0.1 = ap root_of (found.1 ∙ ap (λ b. b ++ found.0) above.2) in
      mine ∙ (sym theirs ∙ rooted)
    where
      not_root : (path : List (ℕ × List ℕ)) → IsPath types path → may_follow s path ≡ true → s.parent ≡ 0 → ⊥
      not_root [] h e = absurd h
      not_root (p ∷ path) h e = eqb-false s.parent 0 (not-true _ (and_parts _ _ e).0)

  -- the row that is read is a row among any that have its parent
  pub row_read_valid : (last : List (ℕ × List ℕ)) (s : SegType) (t : ℕ) (bytes : List ℕ) (rows : List Row)
      → type_at types t ≡ Some s → IsPathBelow types 0 last → s.bytes ≤ length bytes → list_all is_printable (take s.bytes bytes) ≡ true
      → may_follow s last ≡ true → ((p : ℕ × List ℕ) (a : List (ℕ × List ℕ)) → down_to s.parent last ≡ p ∷ a → HasPath rows (p ∷ a))
      → IsRow types rows (row_at s last t bytes)
  row_read_valid last s t bytes rows typed valid fits printable follows there =
      let a = down_to s.parent last in
      let x : ℕ × List ℕ = (t, take s.key bytes) in
      let known : IsTypeAt (t - 1) s = type_known types all t s typed in
      let key_fits : s.key ≤ length bytes = omega (arith, known.key_within) in
      let key_length : length (take s.key bytes) ≡ s.key = length-take-le s.key bytes key_fits in
      let ends : end_type a ≡ s.parent = followed_end s last follows in
      let child : IsChild types (end_type a) x = some_and_at (λ u. (u.parent ≡ end_type a) × (length (take s.key bytes) ≡ u.key)) (type_at types t) s typed (sym ends, key_length) in
      let found = down_to_front s.parent last in
      let whole_above : IsPathBelow types 0 a = path_front types 0 a found.0 (subst (IsPathBelow types 0) found.1 valid) in
      record {
        path = path_push types a x whole_above child;
        parent = by a there;
        whole = subst (λ n. IsSomeAnd (type_at types n) (λ u. length (take s.bytes bytes) ≡ u.bytes)) (sym (end_type_push a x)) (some_and_at (λ u. length (take s.bytes bytes) ≡ u.bytes) (type_at types t) s typed (length-take-le s.bytes bytes fits));
        printable = printable;
        key = subst (λ k. take (length k) (take s.bytes bytes) ≡ k) (sym (end_key_push a x))
            (ap (λ n. take n (take s.bytes bytes)) key_length ∙ take_less s.key s.bytes bytes known.key_within fits);
      }
    where
      by : (a : List (ℕ × List ℕ)) → ((p : ℕ × List ℕ) (b : List (ℕ × List ℕ)) → a ≡ p ∷ b → HasPath rows (p ∷ b))
          → (parent_path (a ++ (t, take s.key bytes) ∷ []) ≡ []) ⊎ HasPath rows (parent_path (a ++ (t, take s.key bytes) ∷ []))
      by [] f = inl refl
      by (p ∷ b) f = inr (subst (HasPath rows) (sym (parent_push (p ∷ b) (t, take s.key bytes))) (f p b refl))

  -- a row that is read stands after the rows before it
  pub row_read : (rows : List Row) (root : List ℕ) → IsUnder types root rows → (s : SegType) (t : ℕ) (bytes : List ℕ) (row : Row)
      → type_at types t ≡ Some s → Reads s (last_path rows) t bytes row → IsUnder types (root_of row.path) (rows ++ row ∷ [])
  row_read rows root under s t bytes row typed reads = ⊎_elim none some (last_view rows)
    where
      none : rows ≡ [] → IsUnder types (root_of row.path) (rows ++ row ∷ [])
      none e =
          let reads' : Reads s [] t bytes row = subst (λ rs. Reads s (last_path rs) t bytes row) e reads in
          let valid : IsRow types (row ∷ []) (row_at s [] t bytes) =
          row_read_valid [] s t bytes (row ∷ []) typed tt reads'.fits reads'.printable reads'.follows (λ p a q. absurd (cc)) in
          let is : IsUnder types (root_of row.path) (row ∷ []) = record {
            ascending = sorted_single row_cmp row;
            each = (subst (IsRow types (row ∷ [])) reads'.is_row valid, tt);
            one_root = (refl, tt);
          } in
          subst (λ rs. IsUnder types (root_of row.path) (rs ++ row ∷ [])) (sym e) is

      some : (front : List Row) × (l : Row) × (rows ≡ front ++ l ∷ []) → IsUnder types (root_of row.path) (rows ++ row ∷ [])
      some (front, l, e) =
          let last : last_path rows ≡ l.path = ap last_path e ∙ last_path_push front l in
          let here : HasPath rows l.path = subst (λ rs. HasPath rs l.path) (sym e) (has_last front l) in
          let each_back : AllByRecursion (IsRow types rows) (front ++ l ∷ []) = subst (AllByRecursion (IsRow types rows)) e under.each in
          let l_row : IsRow types rows l = (all_back (IsRow types rows) front (l ∷ []) each_back).0 in
          let l_root : root_of l.path ≡ root = (all_back (λ r. root_of r.path ≡ root) front (l ∷ []) (subst (AllByRecursion (λ r. root_of r.path ≡ root)) e under.one_root)).0 in
          let reads' : Reads s l.path t bytes row = subst (λ path. Reads s path t bytes row) last reads in
          let found = down_to_front s.parent l.path in
          let there : (p : ℕ × List ℕ) (a : List (ℕ × List ℕ)) → down_to s.parent l.path ≡ p ∷ a → HasPath rows (p ∷ a) =
          λ p a q. front_there types rows under.each p a found.0 (subst (HasPath rows) (found.1 ∙ ap (λ b. b ++ found.0) q) here) in
          let among : (path : List (ℕ × List ℕ)) → HasPath rows path → HasPath (rows ++ row ∷ []) path = λ path h. has_front rows (row ∷ []) path h in
          let valid : IsRow types (rows ++ row ∷ []) row = subst (IsRow types (rows ++ row ∷ [])) reads'.is_row
          (row_read_valid l.path s t bytes (rows ++ row ∷ []) typed (path_below types l.path l_row.path) reads'.fits reads'.printable reads'.follows
          (λ p a q. among (p ∷ a) (there p a q))) in
          let same : root_of row.path ≡ root = same_root l root s t bytes row l_row.path l_root reads' in
          record {
            ascending = subst (λ rs. IsStrictlySortedBy row_cmp (rs ++ row ∷ [])) (sym e)
                (sorted_push row_cmp row_total front l row (subst (IsStrictlySortedBy row_cmp) e under.ascending)
                (subst (λ r. row_cmp l r ≡ Less) reads'.is_row reads'.before));
            each = all_append (IsRow types (rows ++ row ∷ [])) rows (row ∷ [])
                (all_then (IsRow types rows) (IsRow types (rows ++ row ∷ [])) rows (λ r h. row_among types rows (rows ++ row ∷ []) r among h) under.each)
                (valid, tt);
            one_root = all_append (λ r. root_of r.path ≡ root_of row.path) rows (row ∷ [])
                (all_then (λ r. root_of r.path ≡ root) (λ r. root_of r.path ≡ root_of row.path) rows (λ r h. h ∙ sym same) under.one_root)
                (refl, tt);
          }

  -- the parent of a row stands before it
  pub parent_before : (front more : List Row) (row : Row) → IsStrictlySortedBy row_cmp (front ++ row ∷ more)
      → (a : List (ℕ × List ℕ)) (x : ℕ × List ℕ) → row.path ≡ a ++ x ∷ [] → HasPath (front ++ row ∷ more) a → HasPath front a
  parent_before front more row sorted a x e h = ⊎_elim (λ f. f) behind (has_split front (row ∷ more) a h)
    where
      up : path_cmp a row.path ≡ Less
      up = subst (λ path. path_cmp a path ≡ Less) (sym e) (prefix_less a x [])

      behind : HasPath (row ∷ more) a → HasPath front a
      behind g =
          ⊎_elim
          (λ same. not_less_itself path_total a (subst (λ path. path_cmp a path ≡ Less) same up))
          (λ later.
          let found = has_with (λ r. row_cmp row r ≡ Less) more a (sorted_head row_cmp row more (sorted_back row_cmp front (row ∷ more) sorted)) later in
          let down : path_cmp row.path a ≡ Less = subst (λ path. path_cmp row.path path ≡ Less) found.1 found.2 in
          not_less_itself path_total a (path_total.trans a row.path a up down))
          g

  -- what is at or before the last row isn't after it
  at_most_last : (front : List Row) (l : Row) (a : List (ℕ × List ℕ)) → IsStrictlySortedBy row_cmp (front ++ l ∷ []) → HasPath (front ++ l ∷ []) a → path_cmp a l.path ≢ Greater
  at_most_last front l a sorted h = ⊎_elim before at (has_split front (l ∷ []) a h)
    where
      before : HasPath front a → path_cmp a l.path ≢ Greater
      before g =
          let found = has_with (λ r. AllByRecursion (λ q. row_cmp r q ≡ Less) (l ∷ [])) front a (sorted_across row_cmp front (l ∷ []) sorted) g in
          let less : path_cmp a l.path ≡ Less = subst (λ path. path_cmp path l.path ≡ Less) found.1 found.2.0 in
          λ e. less_greater (sym less ∙ e)

      at : HasPath (l ∷ []) a → path_cmp a l.path ≢ Greater
      at g =
          ⊎_elim (λ e f. equal_greater (sym (subst (λ path. path_cmp path l.path ≡ Equal) e (tied_itself path_total l.path)) ∙ f)) (λ n. absurd n) g

  -- a dependent behind a row whose path is below its parent is read there
  read_dependent : (p : ℕ × List ℕ) (a rest : List (ℕ × List ℕ)) (s : SegType) (t : ℕ) (key tail : List ℕ) (row : Row)
      → IsPathBelow types 0 (p ∷ (a ++ rest)) → type_at types t ≡ Some s → s.parent ≡ end_type (p ∷ a) → length key ≡ s.key
      → row.path ≡ p ∷ (a ++ (t, key) ∷ []) → length row.bytes ≡ s.bytes → list_all is_printable row.bytes ≡ true → take (length key) row.bytes ≡ key
      → path_cmp (p ∷ (a ++ rest)) row.path ≡ Less → next_row types (p ∷ (a ++ rest)) (t ∷ (row.bytes ++ tail)) ≡ Some row
  read_dependent p a rest s t key tail row valid typed parent keyed path whole printable begins before =
      let cut : down_to s.parent (p ∷ (a ++ rest)) ≡ p ∷ a = cut_at_end types all 0 p a rest s.parent valid (sym parent) in
      let high : 0 < p.0 = child_greater types all 0 p valid.0 in
      let low : p.0 ≤ end_type (p ∷ a) = end_least types all 0 p a (path_front types 0 (p ∷ a) rest valid) in
      let dependent : s.parent ≡ 0 → ⊥ = λ e. absurd (omega arith) in
      let data' : take s.bytes (row.bytes ++ tail) ≡ row.bytes = ap (λ n. take n (row.bytes ++ tail)) (sym whole) ∙ take-append_seam row.bytes tail in
      let key' : take s.key (row.bytes ++ tail) ≡ key = key_read s key tail row (type_known types all t s typed).key_within keyed whole begins in
      let is : row_at s (p ∷ (a ++ rest)) t (row.bytes ++ tail) ≡ row =
      λ i. record {
        path = ((λ j. cut j ++ (t, key' j) ∷ []) ∙ sym path) i;
        bytes = data' i;
      } in
      next_reads types s (p ∷ (a ++ rest)) t (row.bytes ++ tail) row typed (record {
        fits = fits_read s tail row whole;
        printable = ap (list_all is_printable) data' ∙ printable;
        follows = and_from _ _ (not_from_false _ (ne_eqb s.parent 0 dependent)) (eq-eqb _ _ (ap end_type cut ∙ sym parent));
        before = subst (λ r. path_cmp (p ∷ (a ++ rest)) r.path ≡ Less) (sym is) before;
        is_row = is;
      })

  -- a record's row is read behind the rows before it
  pub row_known : (front more : List Row) (row : Row) (root : List ℕ) → IsUnder types root (front ++ row ∷ more) → (tail : List ℕ)
      → next_row types (last_path front) (row_spelling row ++ tail) ≡ Some row
  row_known front more row root under tail =
      let rows = front ++ row ∷ more in
      let valid : IsRow types rows row = (all_back (IsRow types rows) front (row ∷ more) under.each).0 in
      let a = parent_path row.path in
      let path : row.path ≡ a ++ (end_type row.path, end_key row.path) ∷ [] = nonempty_parts row.path valid.path in
      let child = last_child types a (end_type row.path, end_key row.path) (subst (IsPath types) path valid.path) in
      let found = some_and (λ s. (s.parent ≡ end_type a) × (length (end_key row.path) ≡ s.key)) (type_at types (end_type row.path)) child in
      let whole : length row.bytes ≡ found.0.bytes = subst (λ o. IsSomeAnd o (λ s. length row.bytes ≡ s.bytes)) found.1 valid.whole in
      let there : (a ≡ []) ⊎ HasPath front a = ⊎_elim (λ e. inl e) (λ h. inr (parent_before front more row under.ascending a _ path h)) valid.parent in
      ⊎_elim (none valid found.0 found.1 whole path found.2.0 found.2.1 there) (some valid a found.0 found.1 whole path child found.2.0 found.2.1 there) (last_view front)
    where
      nonempty_parts : (p : List (ℕ × List ℕ)) → IsPath types p → p ≡ parent_path p ++ (end_type p, end_key p) ∷ []
      nonempty_parts [] h = absurd h
      nonempty_parts (x ∷ p) h = path_parts x p

      none : IsRow types (front ++ row ∷ more) row → (s : SegType) → type_at types (end_type row.path) ≡ Some s → length row.bytes ≡ s.bytes
          → row.path ≡ parent_path row.path ++ (end_type row.path, end_key row.path) ∷ [] → s.parent ≡ end_type (parent_path row.path) → length (end_key row.path) ≡ s.key
          → (parent_path row.path ≡ []) ⊎ HasPath front (parent_path row.path) → front ≡ [] → next_row types (last_path front) (row_spelling row ++ tail) ≡ Some row
      none valid s typed whole path parent keyed there e =
          let top : parent_path row.path ≡ [] = ⊎_elim (λ h. h) (λ h. absurd (subst (λ rs. HasPath rs (parent_path row.path)) e h)) there in
          let first : s.parent ≡ 0 = parent ∙ ap end_type top in
          let key' : take s.key (row.bytes ++ tail) ≡ end_key row.path =
          key_read s (end_key row.path) tail row (type_known types all _ s typed).key_within keyed whole valid.key in
          let data' : take s.bytes (row.bytes ++ tail) ≡ row.bytes = ap (λ n. take n (row.bytes ++ tail)) (sym whole) ∙ take-append_seam row.bytes tail in
          let path' : (end_type row.path, end_key row.path) ∷ [] ≡ row.path = sym (path ∙ ap (λ b. b ++ (end_type row.path, end_key row.path) ∷ []) top) in
          let is : row_at s [] (end_type row.path) (row.bytes ++ tail) ≡ row =
          λ i. record {
            path = ((λ j. (end_type row.path, key' j) ∷ []) ∙ path') i;
            bytes = data' i;
          } in
          ap (λ rs. next_row types (last_path rs) (row_spelling row ++ tail)) e
          ∙ next_reads types s [] (end_type row.path) (row.bytes ++ tail) row typed (record {
            fits = fits_read s tail row whole;
            printable = ap (list_all is_printable) data' ∙ valid.printable;
            follows = eq-eqb s.parent 0 first;
            before = refl;
            is_row = is;
          })

      some : IsRow types (front ++ row ∷ more) row → (a : List (ℕ × List ℕ)) (s : SegType) → type_at types (end_type row.path) ≡ Some s → length row.bytes ≡ s.bytes
          → row.path ≡ a ++ (end_type row.path, end_key row.path) ∷ [] → IsChild types (end_type a) (end_type row.path, end_key row.path)
          → s.parent ≡ end_type a → length (end_key row.path) ≡ s.key → (a ≡ []) ⊎ HasPath front a
          → (f : List Row) × (l : Row) × (front ≡ f ++ l ∷ []) → next_row types (last_path front) (row_spelling row ++ tail) ≡ Some row
      some valid a s typed whole path child parent keyed there (f, l, e) =
          let last : last_path front ≡ l.path = ap last_path e ∙ last_path_push f l in
          let l_row : IsPath types l.path = (all_back (IsRow types (front ++ row ∷ more)) f (l ∷ [])
          (subst (AllByRecursion (IsRow types (front ++ row ∷ more))) e (all_front (IsRow types (front ++ row ∷ more)) front (row ∷ more) under.each))).0.path in
          let l_root : root_of l.path ≡ root = (all_back (λ r. root_of r.path ≡ root) f (l ∷ [])
          (subst (AllByRecursion (λ r. root_of r.path ≡ root)) e (all_front (λ r. root_of r.path ≡ root) front (row ∷ more) under.one_root))).0 in
          let r_root : root_of row.path ≡ root = (all_back (λ r. root_of r.path ≡ root) front (row ∷ more) under.one_root).0 in
          let l_less : path_cmp l.path row.path ≡ Less = (all_back (λ x. AllByRecursion (λ y. row_cmp x y ≡ Less) (row ∷ more)) f (l ∷ [])
          (subst (AllByRecursion (λ x. AllByRecursion (λ y. row_cmp x y ≡ Less) (row ∷ more))) e (sorted_across row_cmp front (row ∷ more) under.ascending))).0.0 in
          let sorted : IsStrictlySortedBy row_cmp (f ++ l ∷ []) = subst (IsStrictlySortedBy row_cmp) e (sorted_front row_cmp front (row ∷ more) under.ascending) in
          ap (λ p. next_row types p (row_spelling row ++ tail)) last
          ∙ dependent l.path l_row l_root r_root l_less a path child parent there (λ b h. at_most_last f l b sorted (subst (λ rs. HasPath rs b) e h))
        where
          dependent : (path_l : List (ℕ × List ℕ)) → IsPath types path_l → root_of path_l ≡ root → root_of row.path ≡ root → path_cmp path_l row.path ≡ Less
              → (b : List (ℕ × List ℕ)) → row.path ≡ b ++ (end_type row.path, end_key row.path) ∷ [] → IsChild types (end_type b) (end_type row.path, end_key row.path)
              → s.parent ≡ end_type b → (b ≡ []) ⊎ HasPath front b → ((c : List (ℕ × List ℕ)) → HasPath front c → path_cmp c path_l ≢ Greater)
              → next_row types path_l (row_spelling row ++ tail) ≡ Some row
          dependent [] h l_root r_root less b is c up there low = absurd h
          dependent (q ∷ rest) h l_root r_root less [] is c up there low =
              let type_q : q.0 ≡ 1 = root_type types all q h.0 in
              let type_r : end_type row.path ≡ 1 = root_type types all (end_type row.path, end_key row.path) c in
              let key_r : end_key row.path ≡ root = ap root_of (sym is) ∙ r_root in
              let same : q ≡ (end_type row.path, end_key row.path) = λ i. ((type_q ∙ sym type_r) i, (l_root ∙ sym key_r) i) in
              let path_q : row.path ≡ q ∷ [] = is ∙ (λ i. sym same i ∷ []) in
              not_before_prefix (q ∷ []) rest (subst (λ p. path_cmp (q ∷ rest) p ≡ Less) path_q less)
          dependent (q ∷ rest) h l_root r_root less (p ∷ b) is c up there low =
              let above : HasPath front (p ∷ b) = ⊎_elim (λ z. let empty : p ∷ b ≡ [] = z in absurd (cc)) (λ g. g) there in
              let found = between (p ∷ b) (q ∷ rest) (end_type row.path, end_key row.path) (low (p ∷ b) above)
              (subst (λ x. path_cmp (q ∷ rest) x ≡ Less) is less) in
              subst (λ x. next_row types x (row_spelling row ++ tail) ≡ Some row) (sym found.1)
              (read_dependent p b found.0 s (end_type row.path) (end_key row.path) tail row (path_below types (p ∷ (b ++ found.0)) (subst (IsPath types) found.1 h)) typed up keyed is whole valid.printable valid.key
              (subst (λ x. path_cmp x row.path ≡ Less) found.1 less))
