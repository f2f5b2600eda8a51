-- One store after another is written.
use Rattle.std.proofs.Common.{◌≡◌, ◌⊎◌, ℕ, ◌+◌, ◌*◌, ◌<◌, ◌≤◌, zero, suc, List, [], ◌∷◌, ◌++◌, length, take, drop, refl, sym, ◌∙◌, ap, subst, inl, inr, ⊎_elim, arith, None, Some, eqb, append_assoc}
use Rattle.std.specs.Prelude.{Option, Result, Ok, Err, OnOk, map, sum_by, slice_set, if◌then◌else◌}
use Rattle.std.specs.List.{slice_get, AllByRecursion}
use Rattle.std.specs.Option.{option_or, unwrap_or}
use Rattle.std.proofs.lemmas.List.Sums.{sum_by-cons, sum_by-take-le}
use Rattle.std.proofs.lemmas.List.{append-nil, map-append}
use Rattle.tm_disk.specs.Disk.{Image, DiskState, sector_at, Follows, Within}
use Rattle.tm_disk.proofs.Words.{follows_on, follows_more, within_more, within_within}
use Rattle.seg_store.specs.Slots.{Stored, AreSlots}
use Rattle.seg_store.specs.ChangedSlots.{Kept, stored, all_stores}
use Rattle.seg_store.specs.DataSectors.{data_sector, IsGivenAt, given_at, MayPut, HasPut, PutsFront}
use Rattle.seg_store.specs.WrittenSlots.{sector_count, changed_sectors, behind, all_bytes, all_written, kept_bytes, kept_sectors, kept_changed, pieces_kept, written_kept}

-- ---- lists of slots, one behind another

pub given_append : (first : ℕ) (xs ys : List (ℕ × List ℕ)) (at : ℕ) → given_at first (xs ++ ys) at ≡ option_or (given_at first ys at) (given_at first xs at)
given_append first [] ys at = by (given_at first ys at) where
  by : (o : Option (List ℕ)) → o ≡ option_or o None
  by None = refl
  by (Some x) = refl
given_append first (x ∷ xs) ys at =
    ap (λ o. option_or o (if eqb (first + x.0) at then Some (data_sector x.1) else None)) (given_append first xs ys at)
    ∙ by (given_at first ys at) (given_at first xs at) (if eqb (first + x.0) at then Some (data_sector x.1) else None)
  where
    by : (a b c : Option (List ℕ)) → option_or (option_or a b) c ≡ option_or a (option_or b c)
    by None b c = refl
    by (Some a) b c = refl

pub is_given_front : (first : ℕ) (xs ys : List (ℕ × List ℕ)) (at : ℕ) (sector : List ℕ) → IsGivenAt first xs at sector → IsGivenAt first (xs ++ ys) at sector
is_given_front first [] ys at sector given = absurd given
is_given_front first (x ∷ xs) ys at sector given = ⊎_elim (λ here. inl here) (λ later. inr (is_given_front first xs ys at sector later)) given

pub is_given_back : (first : ℕ) (xs ys : List (ℕ × List ℕ)) (at : ℕ) (sector : List ℕ) → IsGivenAt first ys at sector → IsGivenAt first (xs ++ ys) at sector
is_given_back first [] ys at sector given = given
is_given_back first (x ∷ xs) ys at sector given = inr (is_given_back first xs ys at sector given)

-- pieces behind others, by their own first sector
pub given_behind : (first others : ℕ) (slots : List (ℕ × List ℕ)) (at : ℕ) → given_at (first + others) slots at ≡ given_at first (behind others slots) at
given_behind first others [] at = refl
given_behind first others (x ∷ slots) at =
    let place : (first + others) + x.0 ≡ first + (others + x.0) = omega arith in
    ap (λ o. option_or o (if eqb ((first + others) + x.0) at then Some (data_sector x.1) else None)) (given_behind first others slots at)
    ∙ ap (λ k. option_or (given_at first (behind others slots) at) (if eqb k at then Some (data_sector x.1) else None)) place

pub is_given_behind : (first others : ℕ) (slots : List (ℕ × List ℕ)) (at : ℕ) (sector : List ℕ) → IsGivenAt (first + others) slots at sector → IsGivenAt first (behind others slots) at sector
is_given_behind first others [] at sector given = given
is_given_behind first others (x ∷ slots) at sector given =
    let place : (first + others) + x.0 ≡ first + (others + x.0) = omega arith in
    ⊎_elim (λ here. inl (sym place ∙ here.0, here.1)) (λ later. inr (is_given_behind first others slots at sector later)) given

-- ---- what is put, one after another

pub may_both : (first : ℕ) (slots : List (ℕ × List ℕ)) (a b c : Image) → MayPut first slots a b → MayPut first slots b c → MayPut first slots a c
may_both first slots a b c one two = record {
  size = two.size ∙ one.size;
  each = λ at.
      ⊎_elim
      (λ same. ⊎_elim (λ stays. inl (same ∙ stays)) (λ given. inr (subst (IsGivenAt first slots at) (sym same) given)) (one.each at))
      (λ given. inr given)
      (two.each at);
}

pub may_more : (first other : ℕ) (slots more : List (ℕ × List ℕ)) (a b : Image) → ((at : ℕ) (sector : List ℕ) → IsGivenAt other slots at sector → IsGivenAt first more at sector) → MayPut other slots a b → MayPut first more a b
may_more first other slots more a b given may = record { size = may.size; each = λ at. ⊎_elim (λ same. inl same) (λ is. inr (given at (sector_at b at) is)) (may.each at) }

pub has_both : (first : ℕ) (xs ys : List (ℕ × List ℕ)) (a b c : Image) → HasPut first xs a b → HasPut first ys b c → HasPut first (xs ++ ys) a c
has_both first xs ys a b c one two = record {
  size = two.size ∙ one.size;
  each = λ at.
      two.each at
      ∙ ap (λ (s : List ℕ). unwrap_or (given_at first ys at) s) (one.each at)
      ∙ by (given_at first ys at) (given_at first xs at) (sector_at a at)
      ∙ ap (λ o. unwrap_or o (sector_at a at)) (sym (given_append first xs ys at));
} where
  by : (o p : Option (List ℕ)) (s : List ℕ) → unwrap_or o (unwrap_or p s) ≡ unwrap_or (option_or o p) s
  by None p s = refl
  by (Some x) p s = refl

pub has_behind : (first others : ℕ) (slots : List (ℕ × List ℕ)) (a b : Image) → HasPut (first + others) slots a b → HasPut first (behind others slots) a b
has_behind first others slots a b has = record { size = has.size; each = λ at. has.each at ∙ ap (λ o. unwrap_or o (sector_at a at)) (given_behind first others slots at) }

pub may_behind : (first others : ℕ) (slots : List (ℕ × List ℕ)) (a b : Image) → MayPut (first + others) slots a b → MayPut first (behind others slots) a b
may_behind first others slots a b may = may_more first (first + others) slots (behind others slots) a b (is_given_behind first others slots) may

-- those behind others, up to one of them
pub front_behind : (first others : ℕ) (slots : List (ℕ × List ℕ)) (a b : Image) → PutsFront (first + others) slots a b → PutsFront first (behind others slots) a b
front_behind first others slots a b puts = record {
  front = behind others puts.front;
  rest = behind others puts.rest;
  all = ap (behind others) puts.all ∙ map-append (λ piece. (others + piece.0, piece.1)) puts.front puts.rest;
  put = has_behind first others puts.front a b puts.put;
}

-- all of these, and then some of others in front of further ones
pub front_both : (first : ℕ) (xs ys more : List (ℕ × List ℕ)) (a b c : Image) → HasPut first xs a b → PutsFront first ys b c → PutsFront first ((xs ++ ys) ++ more) a c
front_both first xs ys more a b c has puts = record {
  front = xs ++ puts.front;
  rest = puts.rest ++ more;
  all = ap (λ (l : List (ℕ × List ℕ)). (xs ++ l) ++ more) puts.all
      ∙ (ap (λ (l : List (ℕ × List ℕ)). l ++ more) (sym (append_assoc xs puts.front puts.rest))
      ∙ append_assoc (xs ++ puts.front) puts.rest more);
  put = has_both first xs puts.front a b c has puts.put;
}

-- ---- the stores up to a place

one_more : (others : ℕ) (kept : List Kept) (i : ℕ) (one : Kept) → slice_get kept i ≡ Some one → kept_bytes others (take (i + 1) kept) ≡ kept_bytes others (take i kept) ++ behind (others + kept_sectors (take i kept)) (pieces_kept one)
one_more others [] i one found = absurd (none_of i found) where
  none_of : (n : ℕ) → slice_get {X = Kept} [] n ≡ Some one → ⊥
  none_of n e = cc
one_more others (k ∷ kept) zero one found =
    let same : k ≡ one = cc in
    let none : others + kept_sectors (take zero (k ∷ kept)) ≡ others = omega arith in
    append-nil (behind others (pieces_kept k))
    ∙ ap (λ (x : Kept). behind others (pieces_kept x)) same
    ∙ ap (λ n. behind n (pieces_kept one)) (sym none)
one_more others (k ∷ kept) (suc i) one found =
    let more : suc i + 1 ≡ suc (i + 1) = omega arith in
    let sum : (others + k.dbd.roots * k.dbd.sectors) + kept_sectors (take i kept) ≡ others + kept_sectors (take (suc i) (k ∷ kept)) = omega (arith, sum_by-cons (λ (x : Kept). x.dbd.roots * x.dbd.sectors) k (take i kept)) in
    ap (λ n. kept_bytes others (take n (k ∷ kept))) more
    ∙ ap (λ (l : List (ℕ × List ℕ)). behind others (pieces_kept k) ++ l) (one_more (others + k.dbd.roots * k.dbd.sectors) kept i one found)
    ∙ ap (λ n. behind others (pieces_kept k) ++ (kept_bytes (others + k.dbd.roots * k.dbd.sectors) (take i kept) ++ behind n (pieces_kept one))) sum
    ∙ sym (append_assoc (behind others (pieces_kept k)) (kept_bytes (others + k.dbd.roots * k.dbd.sectors) (take i kept)) (behind (others + kept_sectors (take (suc i) (k ∷ kept))) (pieces_kept one)))

behind_all : (first : ℕ) (xs some all : List (ℕ × List ℕ)) (at : ℕ) (sector : List ℕ) → (IsGivenAt first some at sector → IsGivenAt first all at sector) → IsGivenAt first (xs ++ some) at sector → IsGivenAt first (xs ++ all) at sector
behind_all first [] some all at sector more given = more given
behind_all first (x ∷ xs) some all at sector more given = ⊎_elim (λ here. inl here) (λ later. inr (behind_all first xs some all at sector more later)) given

in_front : (first others : ℕ) (kept : List Kept) (i : ℕ) (at : ℕ) (sector : List ℕ) → IsGivenAt first (kept_bytes others (take i kept)) at sector → IsGivenAt first (kept_bytes others kept) at sector
in_front first others [] i at sector given = absurd (nothing i given) where
  nothing : (n : ℕ) → IsGivenAt first (kept_bytes others (take n [])) at sector → ⊥
  nothing zero e = e
  nothing (suc n) e = e
in_front first others (k ∷ kept) zero at sector given = absurd given
in_front first others (k ∷ kept) (suc i) at sector given =
    behind_all first (behind others (pieces_kept k)) (kept_bytes (others + k.dbd.roots * k.dbd.sectors) (take i kept)) (kept_bytes (others + k.dbd.roots * k.dbd.sectors) kept) at sector (λ e. in_front first (others + k.dbd.roots * k.dbd.sectors) kept i at sector e) given

-- the slots of the stores up to a place, and then the others
up_to : (others : ℕ) (kept : List Kept) (i : ℕ) → kept_bytes others kept ≡ kept_bytes others (take i kept) ++ kept_bytes (others + kept_sectors (take i kept)) (drop i kept)
up_to others [] zero = refl
up_to others [] (suc i) = refl
up_to others (k ∷ kept) zero =
    let none : others ≡ others + kept_sectors (take zero (k ∷ kept)) = omega arith in
    ap (λ n. kept_bytes n (k ∷ kept)) none
up_to others (k ∷ kept) (suc i) =
    let sum : (others + k.dbd.roots * k.dbd.sectors) + kept_sectors (take i kept) ≡ others + kept_sectors (take (suc i) (k ∷ kept)) = omega (arith, sum_by-cons (λ (x : Kept). x.dbd.roots * x.dbd.sectors) k (take i kept)) in
    ap (λ (l : List (ℕ × List ℕ)). behind others (pieces_kept k) ++ l) (up_to (others + k.dbd.roots * k.dbd.sectors) kept i)
    ∙ (ap (λ n. behind others (pieces_kept k) ++ (kept_bytes (others + k.dbd.roots * k.dbd.sectors) (take i kept) ++ kept_bytes n (drop i kept))) sum
    ∙ sym (append_assoc (behind others (pieces_kept k)) (kept_bytes (others + k.dbd.roots * k.dbd.sectors) (take i kept)) (kept_bytes (others + kept_sectors (take (suc i) (k ∷ kept))) (drop i kept))))

-- the slots of one store are among those of all
pub one_is_given : (first : ℕ) (kept : List Kept) (i : ℕ) (one : Kept) → slice_get kept i ≡ Some one → (at : ℕ) (sector : List ℕ) → IsGivenAt (first + kept_sectors (take i kept)) (pieces_kept one) at sector → IsGivenAt first (kept_bytes 0 kept) at sector
one_is_given first kept i one found at sector given =
    in_front first 0 kept (i + 1) at sector
    (subst (λ (l : List (ℕ × List ℕ)). IsGivenAt first l at sector) (sym (one_more 0 kept i one found))
    (is_given_back first (kept_bytes 0 (take i kept)) (behind (0 + kept_sectors (take i kept)) (pieces_kept one)) at sector
    (subst (λ n. IsGivenAt first (behind n (pieces_kept one)) at sector) (omega arith)
    (is_given_behind first (kept_sectors (take i kept)) (pieces_kept one) at sector given))))

module _ (first : ℕ) (kept : List Kept) (i : ℕ) (one : Kept) (found : slice_get kept i ≡ Some one) (at : ℕ) (is : at ≡ first + kept_sectors (take i kept)) where
  may_one : (a b : Image) → MayPut at (pieces_kept one) a b → MayPut first (kept_bytes 0 kept) a b
  may_one a b may = may_more first at (pieces_kept one) (kept_bytes 0 kept) a b (λ k sector given. one_is_given first kept i one found k sector (subst (λ n. IsGivenAt n (pieces_kept one) k sector) is given)) may

  pub next_within : (old mid new : DiskState) → Within (MayPut first (kept_bytes 0 kept)) old mid → Follows (MayPut first (kept_bytes 0 kept)) old mid → Within (MayPut at (pieces_kept one)) mid new → Within (MayPut first (kept_bytes 0 kept)) old new
  next_within old mid new before follows after =
      within_within (MayPut first (kept_bytes 0 kept)) (MayPut first (kept_bytes 0 kept)) (MayPut first (kept_bytes 0 kept)) old mid new (λ a c may. may) (may_both first (kept_bytes 0 kept))
      before follows (within_more (MayPut at (pieces_kept one)) (MayPut first (kept_bytes 0 kept)) mid new may_one after)

  pub next_follows : (old mid new : DiskState) → Follows (MayPut first (kept_bytes 0 kept)) old mid → Follows (MayPut at (pieces_kept one)) mid new → Follows (MayPut first (kept_bytes 0 kept)) old new
  next_follows old mid new before after =
      follows_on (MayPut first (kept_bytes 0 kept)) (MayPut first (kept_bytes 0 kept)) (MayPut first (kept_bytes 0 kept)) old mid new (may_both first (kept_bytes 0 kept)) before
      (follows_more (MayPut at (pieces_kept one)) (MayPut first (kept_bytes 0 kept)) mid new may_one after)

  pub next_front : (a b c : Image) → HasPut first (kept_bytes 0 (take i kept)) a b → PutsFront at (pieces_kept one) b c → PutsFront first (kept_bytes 0 kept) a c
  next_front a b c before puts =
      let here : PutsFront (first + kept_sectors (take i kept)) (pieces_kept one) b c = subst (λ n. PutsFront n (pieces_kept one) b c) is puts in
      let later : PutsFront first (behind (0 + kept_sectors (take i kept)) (pieces_kept one)) b c =
      subst (λ n. PutsFront first (behind n (pieces_kept one)) b c) (omega arith) (front_behind first (kept_sectors (take i kept)) (pieces_kept one) b c here) in
      let more = kept_bytes (0 + kept_sectors (take (i + 1) kept)) (drop (i + 1) kept) in
      subst (λ (l : List (ℕ × List ℕ)). PutsFront first l a c)
      (sym (up_to 0 kept (i + 1) ∙ ap (λ (l : List (ℕ × List ℕ)). l ++ more) (one_more 0 kept i one found)))
      (front_both first (kept_bytes 0 (take i kept)) (behind (0 + kept_sectors (take i kept)) (pieces_kept one)) more a b c before later)

  pub next_has : (a b c : Image) → HasPut first (kept_bytes 0 (take i kept)) a b → HasPut at (pieces_kept one) b c → HasPut first (kept_bytes 0 (take (i + 1) kept)) a c
  next_has a b c before after =
      let here : HasPut (first + kept_sectors (take i kept)) (pieces_kept one) b c = subst (λ n. HasPut n (pieces_kept one) b c) is after in
      let later : HasPut first (behind (0 + kept_sectors (take i kept)) (pieces_kept one)) b c = subst (λ n. HasPut first (behind n (pieces_kept one)) b c) (omega arith) (has_behind first (kept_sectors (take i kept)) (pieces_kept one) b c here) in
      subst (λ (l : List (ℕ × List ℕ)). HasPut first l a c) (sym (one_more 0 kept i one found)) (has_both first (kept_bytes 0 (take i kept)) (behind (0 + kept_sectors (take i kept)) (pieces_kept one)) a b c before later)

-- ---- sums and lists up to a place

pub sum_more : (f : Kept → ℕ) (kept : List Kept) (i : ℕ) (one : Kept) → slice_get kept i ≡ Some one → sum_by f (take (i + 1) kept) ≡ sum_by f (take i kept) + f one
sum_more f [] i one found = absurd (none_of i found) where
  none_of : (n : ℕ) → slice_get {X = Kept} [] n ≡ Some one → ⊥
  none_of n e = cc
sum_more f (k ∷ kept) zero one found = let same : k ≡ one = cc in omega (arith, ap f same)
sum_more f (k ∷ kept) (suc i) one found =
    let more : suc i + 1 ≡ suc (i + 1) = omega arith in
    ap (λ n. sum_by f (take n (k ∷ kept))) more
    ∙ omega (arith, sum_by-cons f k (take (i + 1) kept), sum_by-cons f k (take i kept), sum_more f kept i one found)

-- the stores of which the first ones are written
abbrev pub partly : List Kept → ℕ → List Kept
partly kept i = map written_kept (take i kept) ++ drop i kept

pub partly_get : (kept : List Kept) (i : ℕ) → i < length kept → slice_get (partly kept i) i ≡ slice_get kept i
partly_get [] i lt = absurd (omega (arith, lt))
partly_get (k ∷ kept) zero lt = refl
partly_get (k ∷ kept) (suc i) lt = partly_get kept i (omega (arith, lt))

pub partly_set : (kept : List Kept) (i : ℕ) (one : Kept) → slice_get kept i ≡ Some one → slice_set (partly kept i) i (written_kept one) ≡ partly kept (i + 1)
partly_set [] i one found = absurd (none_of i found) where
  none_of : (n : ℕ) → slice_get {X = Kept} [] n ≡ Some one → ⊥
  none_of n e = cc
partly_set (k ∷ kept) zero one found = let same : k ≡ one = cc in ap (λ (x : Kept). written_kept x ∷ kept) (sym same)
partly_set (k ∷ kept) (suc i) one found =
    let more : suc i + 1 ≡ suc (i + 1) = omega arith in
    ap (λ (l : List Kept). written_kept k ∷ l) (partly_set kept i one found) ∙ sym (ap (λ n. partly (k ∷ kept) n) more)

-- a store that is there
pub record Found (kept : List Kept) (i : ℕ) : Type 0 where
  pub one : Kept
  pub is : slice_get kept i ≡ Some one

pub found_at : (kept : List Kept) (i : ℕ) → i < length kept → Found kept i
found_at [] i lt = absurd (omega (arith, lt))
found_at (k ∷ kept) zero lt = record { one = k; is = refl }
found_at (k ∷ kept) (suc i) lt = let f = found_at kept i (omega (arith, lt)) in record { one = f.one; is = f.is }

pub all_at : (P : Kept → Type 0) (kept : List Kept) (i : ℕ) (one : Kept) → AllByRecursion P kept → slice_get kept i ≡ Some one → P one
all_at P [] i one all found = absurd (none_of i found) where
  none_of : (n : ℕ) → slice_get {X = Kept} [] n ≡ Some one → ⊥
  none_of n e = cc
all_at P (k ∷ kept) zero one all found = let same : k ≡ one = cc in subst P same all.0
all_at P (k ∷ kept) (suc i) one all found = all_at P kept i one all.1 found

-- the slots up to the end of a store are among all
pub slots_within : (kept : List Kept) (i : ℕ) (one : Kept) → slice_get kept i ≡ Some one → kept_sectors (take i kept) + one.dbd.roots * one.dbd.sectors ≤ kept_sectors kept
slots_within kept i one found =
    omega (arith, sum_more (λ (k : Kept). k.dbd.roots * k.dbd.sectors) kept i one found, sum_by-take-le (λ (k : Kept). k.dbd.roots * k.dbd.sectors) kept (i + 1))

pub count_within : (kept : List Kept) (i : ℕ) (one : Kept) → slice_get kept i ≡ Some one → kept_changed (take i kept) + length one.changed * one.dbd.sectors ≤ kept_changed kept
count_within kept i one found =
    omega (arith, sum_more (λ (k : Kept). length k.changed * k.dbd.sectors) kept i one found, sum_by-take-le (λ (k : Kept). length k.changed * k.dbd.sectors) kept (i + 1))

-- ---- as the stores of a system are seen

-- what is stored stays while the first ones are written
pub partly_stored : (kept : List Kept) (i : ℕ) → map stored (partly kept i) ≡ map stored kept
partly_stored [] zero = refl
partly_stored [] (suc i) = refl
partly_stored (k ∷ kept) zero = refl
partly_stored (k ∷ kept) (suc i) = ap (λ (l : List Stored). stored k ∷ l) (partly_stored kept i)

pub bytes_seen : (others : ℕ) (kept : List Kept) → kept_bytes others kept ≡ all_bytes others (map stored kept) (map (λ (k : Kept). k.changed) kept)
bytes_seen others [] = refl
bytes_seen others (k ∷ kept) = ap (λ (l : List (ℕ × List ℕ)). behind others (pieces_kept k) ++ l) (bytes_seen (others + k.dbd.roots * k.dbd.sectors) kept)

pub slots_seen : (kept : List Kept) → kept_sectors kept ≡ sector_count (map stored kept)
slots_seen [] = refl
slots_seen (k ∷ kept) = omega (arith, slots_seen kept, sum_by-cons (λ (x : Kept). x.dbd.roots * x.dbd.sectors) k kept, sum_by-cons (λ (x : Stored). x.dbd.roots * x.dbd.sectors) (stored k) (map stored kept))

pub count_seen : (kept : List Kept) → kept_changed kept ≡ changed_sectors (map stored kept) (map (λ (k : Kept). k.changed) kept)
count_seen [] = refl
count_seen (k ∷ kept) = omega (arith, count_seen kept, sum_by-cons (λ (x : Kept). length x.changed * x.dbd.sectors) k kept)

pub sectors_seen : (kept : List Kept) → AllByRecursion (λ (s : Stored). s.dbd.sectors ≤ 8) (map stored kept) → AllByRecursion (λ (k : Kept). k.dbd.sectors ≤ 8) kept
sectors_seen [] all = tt
sectors_seen (k ∷ kept) all = (all.0, sectors_seen kept all.1)

pub valid_seen : (kept : List Kept) → AllByRecursion (λ (k : Kept). AreSlots k.dbd k.slots) kept → AllByRecursion (λ (s : Stored). AreSlots s.dbd s.slots) (map stored kept)
valid_seen [] all = tt
valid_seen (k ∷ kept) all = (all.0, valid_seen kept all.1)

changed_gone : (kept : List Kept) → map (λ (k : Kept). k.changed) (map written_kept kept) ≡ map (λ numbers. []) (map (λ (k : Kept). k.changed) kept)
changed_gone [] = refl
changed_gone (k ∷ kept) = ap (λ (l : List (List ℕ)). [] ∷ l) (changed_gone kept)

stored_stays : (kept : List Kept) → map stored (map written_kept kept) ≡ map stored kept
stored_stays [] = refl
stored_stays (k ∷ kept) = ap (λ (l : List Stored). stored k ∷ l) (stored_stays kept)

pub written_seen : (kept : List Kept) → all_stores (map written_kept kept) ≡ all_written (all_stores kept)
written_seen kept =
    ap (λ (l : List Stored). record { stores = l; changed = map (λ (k : Kept). k.changed) (map written_kept kept) }) (stored_stays kept)
    ∙ ap (λ (l : List (List ℕ)). record { stores = map stored kept; changed = l }) (changed_gone kept)

pub on_ok : {A B : Type 0} (r : Result A B) (P Q : Type 0) → (P → Q) → OnOk r P → OnOk r Q
on_ok (Ok x) P Q f p = f p
on_ok (Err e) P Q f p = p
