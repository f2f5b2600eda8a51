-- The row with which bytes go on is the one row that may follow.
use Rattle.std.proofs.Common.{◌≡◌, ℕ, ◌≤◌, ◌∷◌, [], List, Option, None, Some, length, take, zero, suc, refl, sym, ◌∙◌, ap, true, arith}
use Rattle.std.specs.List.{list_all}
use Rattle.std.specs.Ordering.{is_lt}
use Rattle.std.specs.declared.cmp.Ordering.{Ordering}
use Rattle.std.specs.declared.cmp.Ordering.TheVariants.{Less, Equal, Greater}
use Rattle.std.proofs.lemmas.Bool.{and_parts, and_from, leb-true, le-leb, eqb-true, cond-true, false≢true}
use Rattle.std.proofs.lemmas.Option.{cond_some, none-some}
use Rattle.tm_types.specs.declared.dbd.SegType.{SegType}
use Rattle.tm_types.specs.SegTypes.{type_at}
use Rattle.tm_types.specs.Segment.{is_printable}
use Rattle.model_data.specs.declared.row.Row.{Row}
use Rattle.model_data.specs.Path.{end_type, path_cmp}
use Rattle.model_data.specs.RowsOfBytes.{down_to, may_follow, row_at, row_of_type, next_row}

-- what the tests of a row that is read say
pub record Reads (s : SegType) (last : List (ℕ × List ℕ)) (t : ℕ) (bytes : List ℕ) (row : Row) : Type 0 where
  pub fits : s.bytes ≤ length bytes
  pub printable : list_all is_printable (take s.bytes bytes) ≡ true
  pub follows : may_follow s last ≡ true
  pub before : path_cmp last (row_at s last t bytes).path ≡ Less
  pub is_row : row_at s last t bytes ≡ row

pub is_lt-true : (o : Ordering) → is_lt o ≡ true → o ≡ Less
is_lt-true Less e = refl
is_lt-true Equal e = absurd (false≢true e)
is_lt-true Greater e = absurd (false≢true e)

pub reads_of_type : (s : SegType) (last : List (ℕ × List ℕ)) (t : ℕ) (bytes : List ℕ) (row : Row)
    → row_of_type (Some s) last t bytes ≡ Some row → Reads s last t bytes row
reads_of_type s last t bytes row e =
    let found = cond_some _ _ _ e in
    let outer = and_parts _ _ found.0 in
    let middle = and_parts _ _ outer.0 in
    let inner = and_parts _ _ middle.0 in
    record {
      fits = leb-true s.bytes (length bytes) inner.0;
      printable = inner.1;
      follows = middle.1;
      before = is_lt-true _ outer.1;
      is_row = found.1;
    }

pub reads_next : (types : List SegType) (last : List (ℕ × List ℕ)) (t : ℕ) (bytes : List ℕ) (row : Row)
    → next_row types last (t ∷ bytes) ≡ Some row → (s : SegType) × (type_at types t ≡ Some s) × Reads s last t bytes row
reads_next types last t bytes row e = by (type_at types t) refl e
  where
    by : (o : Option SegType) → type_at types t ≡ o → row_of_type o last t bytes ≡ Some row → (s : SegType) × (type_at types t ≡ Some s) × Reads s last t bytes row
    by None q f = absurd (none-some row f)
    by (Some s) q f = (s, q, reads_of_type s last t bytes row f)

pub next_reads : (types : List SegType) (s : SegType) (last : List (ℕ × List ℕ)) (t : ℕ) (bytes : List ℕ) (row : Row)
    → type_at types t ≡ Some s → Reads s last t bytes row → next_row types last (t ∷ bytes) ≡ Some row
next_reads types s last t bytes row e h =
    ap (λ o. row_of_type o last t bytes) e
    ∙ (cond-true _ (Some (row_at s last t bytes)) None
    (and_from _ _ (and_from _ _ (and_from _ _ (le-leb s.bytes (length bytes) h.fits) h.printable) h.follows) (ap is_lt h.before))
    ∙ ap (λ r. Some r) h.is_row)

-- where a segment may follow, its parent's type ends the front of the path
pub followed_end : (s : SegType) (last : List (ℕ × List ℕ)) → may_follow s last ≡ true → end_type (down_to s.parent last) ≡ s.parent
followed_end s [] e = sym (eqb-true s.parent 0 e)
followed_end s (p ∷ path) e = eqb-true _ _ (and_parts _ _ e).1

-- the front of a front
pub take_less : (i j : ℕ) (xs : List ℕ) → i ≤ j → j ≤ length xs → take i (take j xs) ≡ take i xs
take_less zero j xs h g = refl
take_less (suc i) zero xs h g = absurd (omega arith)
take_less (suc i) (suc j) [] h g = refl
take_less (suc i) (suc j) (x ∷ xs) h g = λ k. x ∷ take_less i j xs (omega arith) (omega arith) k
