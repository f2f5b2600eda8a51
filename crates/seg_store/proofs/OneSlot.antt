-- One slot among those of all stores.
use Rattle.std.proofs.Common.{◌≡◌, ℕ, ◌+◌, ◌-◌, ◌*◌, ◌<◌, ◌≤◌, zero, suc, List, [], ◌∷◌, ◌++◌, length, take, drop, refl, sym, ◌∙◌, ap, subst, arith, None, Some}
use Rattle.std.specs.Prelude.{Option, Result, Ok, Err, IfSome, OnErr, map, slice_set, slice_index_or}
use Rattle.std.specs.List.{slice_get, AllByRecursion}
use Rattle.std.specs.Option.{option_map, option_map_or}
use Rattle.std.proofs.lemmas.Option.{slice_get-map}
use Rattle.std.proofs.lemmas.List.Sums.{sum_by-cons}
use Rattle.std.proofs.lemmas.List.{append-nil}
use Rattle.std.proofs.lemmas.Nat.{mul-le}
use Rattle.tm_disk.specs.Disk.{Image, DiskState, Follows, Within}
use Rattle.tm_disk.proofs.Words.{follows_more, within_more}
use Rattle.seg_store.specs.declared.slot_place.SlotPlace.{SlotPlace}
use Rattle.seg_store.specs.Slots.{Stored}
use Rattle.seg_store.specs.ChangedSlots.{Kept, stored, all_stores, AreChanged}
use Rattle.seg_store.specs.DataSectors.{pieces_of, bytes_of_slots, MayPut, HasPut, PutsFront}
use Rattle.seg_store.specs.WrittenSlots.{sector_count, behind, all_bytes, changed_bytes, kept_sectors}
use Rattle.seg_store.specs.OneSlot.{lowest_from, lowest_changed, changed_count, without_number, without_slot, only_changed, one_written, slot_sectors_at, slot_sector, IsSlotPlace, IsMarked}
use Rattle.seg_store.proofs.Changes.{lowest_out}
use Rattle.seg_store.proofs.WritingBack.{may_behind, has_behind, front_behind, all_at, slots_within}

abbrev pub marks : List Kept → List (List ℕ)
marks kept = map (λ k. k.changed) kept

-- ---- the lowest changed slot

-- a store without a changed slot is passed over
pub lowest_past : (db : ℕ) (changed : List (List ℕ)) (i : ℕ) → slice_get changed i ≡ Some [] → lowest_from (db + i) (drop i changed) ≡ lowest_from (db + (i + 1)) (drop (i + 1) changed)
lowest_past db [] i e = absurd (none_of i e) where
  none_of : (n : ℕ) → slice_get {X = List ℕ} [] n ≡ Some [] → ⊥
  none_of n f = cc
lowest_past db (numbers ∷ changed) zero e =
    let same : numbers ≡ [] = cc in
    let none : db + zero ≡ db = omega arith in
    ap (λ (l : List ℕ). lowest_from (db + zero) (l ∷ changed)) same ∙ ap (λ n. lowest_from (n + 1) changed) none
lowest_past db (numbers ∷ changed) (suc i) e =
    let more : suc i + 1 ≡ suc (i + 1) = omega arith in
    let one : db + suc i ≡ (db + 1) + i = omega arith in
    let two : (db + 1) + (i + 1) ≡ db + (suc i + 1) = omega arith in
    ap (λ n. lowest_from n (drop i changed)) one
    ∙ (lowest_past (db + 1) changed i e
    ∙ (ap (λ n. lowest_from n (drop (i + 1) changed)) two
    ∙ sym (ap (λ n. lowest_from (db + (suc i + 1)) (drop n (numbers ∷ changed))) more)))

-- and the first of a store that has some is the lowest
pub lowest_here : (db : ℕ) (changed : List (List ℕ)) (i : ℕ) (numbers : List ℕ) (slot : ℕ) → slice_get changed i ≡ Some numbers → slice_get numbers 0 ≡ Some slot
    → lowest_from (db + i) (drop i changed) ≡ Some (record { db = db + i; slot = slot })
lowest_here db [] i numbers slot e s = absurd (none_of i e) where
  none_of : (n : ℕ) → slice_get {X = List ℕ} [] n ≡ Some numbers → ⊥
  none_of n f = cc
lowest_here db (m ∷ changed) zero numbers slot e s = first numbers (let same : m ≡ numbers = cc in same) s where
  first : (ns : List ℕ) → m ≡ ns → slice_get ns 0 ≡ Some slot → lowest_from (db + zero) (m ∷ changed) ≡ Some (record { db = db + zero; slot = slot })
  first [] same f = let clash : None ≡ Some slot = f in absurd (cc)
  first (n ∷ ns) same f =
      let one : n ≡ slot = cc in
      ap (λ (l : List ℕ). lowest_from (db + zero) (l ∷ changed)) same ∙ ap (λ k. Some (record { db = db + zero; slot = k })) one
lowest_here db (m ∷ changed) (suc i) numbers slot e s =
    let one : db + suc i ≡ (db + 1) + i = omega arith in
    ap (λ n. lowest_from n (drop i changed)) one
    ∙ (lowest_here (db + 1) changed i numbers slot e s
    ∙ ap (λ n. Some (record { db = n; slot = slot })) (sym one))

-- what the lowest is: the first of these numbers, in the store of this place
pub record LowestIn (first : ℕ) (changed : List (List ℕ)) (place : SlotPlace) : Type 0 where
  pub at : ℕ
  pub is : place.db ≡ first + at
  pub later : List ℕ
  pub found : slice_get changed at ≡ Some (place.slot ∷ later)

pub lowest_in : (first : ℕ) (changed : List (List ℕ)) (place : SlotPlace) → lowest_from first changed ≡ Some place → LowestIn first changed place
lowest_in first [] place e = let clash : None ≡ Some place = e in absurd (cc)
lowest_in first ([] ∷ changed) place e =
    let l = lowest_in (first + 1) changed place e in
    record { at = suc l.at; is = omega (arith, l.is); later = l.later; found = l.found }
lowest_in first ((slot ∷ numbers) ∷ changed) place e =
    let both : Some (record { db = first; slot = slot }) ≡ Some place = e in
    let same : record { db = first; slot = slot } ≡ place = cc in
    record {
      at = 0;
      is = omega (arith, ap (λ (p : SlotPlace). p.db) same);
      later = numbers;
      found = ap (λ (p : SlotPlace). Some (p.slot ∷ numbers)) same;
    }

-- none is the lowest exactly where none is changed
pub none_lowest : (first : ℕ) (changed : List (List ℕ)) → lowest_from first changed ≡ None → changed_count changed ≡ 0
none_lowest first [] e = refl
none_lowest first ([] ∷ changed) e = omega (arith, none_lowest (first + 1) changed e, sum_by-cons (length {A = ℕ}) [] changed)
none_lowest first ((slot ∷ numbers) ∷ changed) e = let clash : Some (record { db = first; slot = slot }) ≡ None = e in absurd (cc)

pub none_changed : (first : ℕ) (changed : List (List ℕ)) → changed_count changed ≡ 0 → lowest_from first changed ≡ None
none_changed first [] e = refl
none_changed first ([] ∷ changed) e = none_changed (first + 1) changed (omega (arith, e, sum_by-cons (length {A = ℕ}) [] changed))
none_changed first ((slot ∷ numbers) ∷ changed) e = absurd (omega (arith, e, sum_by-cons (length {A = ℕ}) (slot ∷ numbers) changed))

-- a list that is one shorter
pub count_fewer : (changed : List (List ℕ)) (i slot : ℕ) (numbers : List ℕ) → slice_get changed i ≡ Some (slot ∷ numbers) → changed_count (slice_set changed i numbers) + 1 ≡ changed_count changed
count_fewer [] i slot numbers e = absurd (none_of i e) where
  none_of : (n : ℕ) → slice_get {X = List ℕ} [] n ≡ Some (slot ∷ numbers) → ⊥
  none_of n f = cc
count_fewer (m ∷ changed) zero slot numbers e =
    let same : m ≡ slot ∷ numbers = cc in
    omega (arith, ap (length {A = ℕ}) same, sum_by-cons (length {A = ℕ}) m changed, sum_by-cons (length {A = ℕ}) numbers changed)
count_fewer (m ∷ changed) (suc i) slot numbers e =
    omega (arith, count_fewer changed i slot numbers e, sum_by-cons (length {A = ℕ}) m changed, sum_by-cons (length {A = ℕ}) m (slice_set changed i numbers))

index_or : (changed : List (List ℕ)) (i : ℕ) (numbers : List ℕ) → slice_get changed i ≡ Some numbers → slice_index_or changed i [] ≡ numbers
index_or [] i numbers e = absurd (none_of i e) where
  none_of : (n : ℕ) → slice_get {X = List ℕ} [] n ≡ Some numbers → ⊥
  none_of n f = cc
index_or (m ∷ changed) zero numbers e = cc
index_or (m ∷ changed) (suc i) numbers e = index_or changed i numbers e

module _ (kept : List Kept) (valid : AllByRecursion (λ (k : Kept). AreChanged k.dbd.roots k.changed) kept) (place : SlotPlace) (lowest : lowest_changed (marks kept) ≡ Some place) where
  l : LowestIn 1 (marks kept) place
  l = lowest_in 1 (marks kept) place lowest

  place_is : place.db - 1 ≡ l.at
  place_is = omega (arith, l.is)

  found_numbers : slice_get (marks kept) (place.db - 1) ≡ Some (place.slot ∷ l.later)
  found_numbers = ap (slice_get (marks kept)) place_is ∙ l.found

  -- the store that has it
  record HasLowest : Type 0 where
    pub one : Kept
    pub found : slice_get kept (place.db - 1) ≡ Some one
    pub numbers : one.changed ≡ place.slot ∷ l.later

  store_of : HasLowest
  store_of = by (slice_get kept (place.db - 1)) refl where
    by : (o : Option Kept) → slice_get kept (place.db - 1) ≡ o → HasLowest
    by None e =
        let none : slice_get (marks kept) (place.db - 1) ≡ None = slice_get-map (λ (k : Kept). k.changed) kept (place.db - 1) ∙ ap (option_map (λ (k : Kept). k.changed)) e in
        let clash : None ≡ Some (place.slot ∷ l.later) = sym none ∙ found_numbers in
        absurd (cc)
    by (Some one) e =
        let some : slice_get (marks kept) (place.db - 1) ≡ Some one.changed = slice_get-map (λ (k : Kept). k.changed) kept (place.db - 1) ∙ ap (option_map (λ (k : Kept). k.changed)) e in
        let both : Some one.changed ≡ Some (place.slot ∷ l.later) = sym some ∙ found_numbers in
        record { one = one; found = e; numbers = cc }

  changes : AreChanged store_of.one.dbd.roots (place.slot ∷ l.later)
  changes = subst (AreChanged store_of.one.dbd.roots) store_of.numbers (all_at (λ (k : Kept). AreChanged k.dbd.roots k.changed) kept (place.db - 1) store_of.one valid store_of.found)

  pub lowest_there : IsSlotPlace place (map stored kept)
  lowest_there = record {
    least = omega (arith, l.is);
    store = stored store_of.one;
    found = slice_get-map stored kept (place.db - 1) ∙ ap (option_map stored) store_of.found;
    below = changes.within.0;
  }

  pub lowest_marked : IsMarked place (marks kept)
  lowest_marked = record { numbers = place.slot ∷ l.later; found = found_numbers; index = 0; listed = refl }

  pub lowest_fewer : changed_count (without_slot place (marks kept)) + 1 ≡ changed_count (marks kept)
  lowest_fewer =
      ap (λ (ns : List ℕ). changed_count (slice_set (marks kept) (place.db - 1) ns) + 1)
      (ap (without_number place.slot) (index_or (marks kept) (place.db - 1) (place.slot ∷ l.later) found_numbers) ∙ lowest_out store_of.one.dbd.roots place.slot l.later changes)
      ∙ count_fewer (marks kept) (place.db - 1) place.slot l.later found_numbers

-- ---- one slot is written

no_bytes : (others : ℕ) (kept : List Kept) → all_bytes others (map stored kept) (map (λ (numbers : List ℕ). []) (marks kept)) ≡ []
no_bytes others [] = refl
no_bytes others (k ∷ kept) = no_bytes (others + k.dbd.roots * k.dbd.sectors) kept

pub one_bytes : (others : ℕ) (kept : List Kept) (i slot : ℕ) (one : Kept) → slice_get kept i ≡ Some one
    → all_bytes others (map stored kept) (slice_set (map (λ (numbers : List ℕ). []) (marks kept)) i (slot ∷ [])) ≡ behind (others + kept_sectors (take i kept)) (pieces_of one.dbd.sectors (bytes_of_slots one.slots (slot ∷ [])))
one_bytes others [] i slot one found = absurd (none_of i found) where
  none_of : (n : ℕ) → slice_get {X = Kept} [] n ≡ Some one → ⊥
  none_of n e = cc
one_bytes others (k ∷ kept) zero slot one found =
    let same : k ≡ one = cc in
    let none : others ≡ others + kept_sectors (take zero (k ∷ kept)) = omega arith in
    ap (λ (l : List (ℕ × List ℕ)). behind others (pieces_of k.dbd.sectors (bytes_of_slots k.slots (slot ∷ []))) ++ l) (no_bytes (others + k.dbd.roots * k.dbd.sectors) kept)
    ∙ append-nil (behind others (pieces_of k.dbd.sectors (bytes_of_slots k.slots (slot ∷ []))))
    ∙ ap (λ (x : Kept). behind others (pieces_of x.dbd.sectors (bytes_of_slots x.slots (slot ∷ [])))) same
    ∙ ap (λ n. behind n (pieces_of one.dbd.sectors (bytes_of_slots one.slots (slot ∷ [])))) none
one_bytes others (k ∷ kept) (suc i) slot one found =
    let sum : (others + k.dbd.roots * k.dbd.sectors) + kept_sectors (take i kept) ≡ others + kept_sectors (take (suc i) (k ∷ kept)) = omega (arith, sum_by-cons (λ (x : Kept). x.dbd.roots * x.dbd.sectors) k (take i kept)) in
    one_bytes (others + k.dbd.roots * k.dbd.sectors) kept i slot one found
    ∙ ap (λ n. behind n (pieces_of one.dbd.sectors (bytes_of_slots one.slots (slot ∷ [])))) sum

-- what is put by the place of the store's own first sector is put by that of the first store
module _ (first : ℕ) (kept : List Kept) (place : SlotPlace) (one : Kept) (found : slice_get kept (place.db - 1) ≡ Some one) (at : ℕ) (is : at ≡ first + kept_sectors (take (place.db - 1) kept)) where
  abbrev pub others : ℕ
  others = kept_sectors (take (place.db - 1) kept)

  abbrev pub own : List (ℕ × List ℕ)
  own = pieces_of one.dbd.sectors (bytes_of_slots one.slots (place.slot ∷ []))

  bytes_are : behind others own ≡ changed_bytes (only_changed place (all_stores kept))
  bytes_are =
      let none : others ≡ 0 + others = omega arith in
      ap (λ n. behind n own) none ∙ sym (one_bytes 0 kept (place.db - 1) place.slot one found)

  pub may_one : (a b : Image) → MayPut at own a b → MayPut first (changed_bytes (only_changed place (all_stores kept))) a b
  may_one a b may = subst (λ (l : List (ℕ × List ℕ)). MayPut first l a b) bytes_are (may_behind first others own a b (subst (λ n. MayPut n own a b) is may))

  pub has_one : (a b : Image) → HasPut at own a b → HasPut first (changed_bytes (only_changed place (all_stores kept))) a b
  has_one a b has = subst (λ (l : List (ℕ × List ℕ)). HasPut first l a b) bytes_are (has_behind first others own a b (subst (λ n. HasPut n own a b) is has))

  pub front_one : (a b : Image) → PutsFront at own a b → PutsFront first (changed_bytes (only_changed place (all_stores kept))) a b
  front_one a b puts = subst (λ (l : List (ℕ × List ℕ)). PutsFront first l a b) bytes_are (front_behind first others own a b (subst (λ n. PutsFront n own a b) is puts))

  pub within_one : (old new : DiskState) → Within (MayPut at own) old new → Within (MayPut first (changed_bytes (only_changed place (all_stores kept)))) old new
  within_one old new within = within_more (MayPut at own) (MayPut first (changed_bytes (only_changed place (all_stores kept)))) old new may_one within

  pub follows_one : (old new : DiskState) → Follows (MayPut at own) old new → Follows (MayPut first (changed_bytes (only_changed place (all_stores kept)))) old new
  follows_one old new follows = follows_more (MayPut at own) (MayPut first (changed_bytes (only_changed place (all_stores kept)))) old new may_one follows

-- ---- one slot is settled

map_set : {A B : Type 0} (f : A → B) (xs : List A) (i : ℕ) (x : A) → map f (slice_set xs i x) ≡ slice_set (map f xs) i (f x)
map_set f [] i x = refl
map_set f (y ∷ xs) zero x = refl
map_set f (y ∷ xs) (suc i) x = ap (λ ys. f y ∷ ys) (map_set f xs i x)

stored_set : (kept : List Kept) (i : ℕ) (one : Kept) (numbers : List ℕ) → slice_get kept i ≡ Some one → map stored (slice_set kept i (record one { changed = numbers })) ≡ map stored kept
stored_set [] i one numbers found = refl
stored_set (k ∷ kept) zero one numbers found = let same : k ≡ one = cc in ap (λ (x : Kept). stored x ∷ map stored kept) (sym same)
stored_set (k ∷ kept) (suc i) one numbers found = ap (λ (l : List Stored). stored k ∷ l) (stored_set kept i one numbers found)

pub settled_one : (kept kept' : List Kept) (place : SlotPlace) (i : ℕ) (one : Kept) → i ≡ place.db - 1 → slice_get kept i ≡ Some one → kept' ≡ slice_set kept i (record one { changed = without_number place.slot one.changed })
    → all_stores kept' ≡ one_written place (all_stores kept)
settled_one kept kept' place i one is found new =
    ap all_stores new
    ∙ (λ t. record { stores = stored_set kept i one (without_number place.slot one.changed) found t; changed = changed_is t })
  where
    numbers : slice_index_or (marks kept) i [] ≡ one.changed
    numbers = index_or (marks kept) i one.changed (slice_get-map (λ (k : Kept). k.changed) kept i ∙ ap (option_map (λ (k : Kept). k.changed)) found)

    changed_is : marks (slice_set kept i (record one { changed = without_number place.slot one.changed })) ≡ without_slot place (marks kept)
    changed_is =
        map_set (λ (k : Kept). k.changed) kept i (record one { changed = without_number place.slot one.changed })
        ∙ (ap (λ (ns : List ℕ). slice_set (marks kept) i (without_number place.slot ns)) (sym numbers)
        ∙ ap (λ n. slice_set (marks kept) n (without_number place.slot (slice_index_or (marks kept) n []))) is)

set_past : (changed : List (List ℕ)) (i : ℕ) (numbers : List ℕ) → length changed ≤ i → slice_set changed i numbers ≡ changed
set_past [] i numbers past = refl
set_past (m ∷ changed) zero numbers past = absurd (omega (arith, past))
set_past (m ∷ changed) (suc i) numbers past = ap (λ (l : List (List ℕ)). m ∷ l) (set_past changed i numbers (omega (arith, past)))

marks_count : (kept : List Kept) → length (marks kept) ≡ length kept
marks_count [] = refl
marks_count (k ∷ kept) = ap suc (marks_count kept)

-- one that isn't there stays so
pub settled_none : (kept : List Kept) (place : SlotPlace) → length kept ≤ place.db - 1 → all_stores kept ≡ one_written place (all_stores kept)
settled_none kept place past =
    λ t. record {
      stores = map stored kept;
      changed = sym (set_past (marks kept) (place.db - 1) (without_number place.slot (slice_index_or (marks kept) (place.db - 1) [])) (omega (arith, marks_count kept, past))) t;
    }

-- ---- the store of a slot

pub if_some : {A : Type 0} (r : Option A) (P : A → Type 0) → ((x : A) → r ≡ Some x → P x) → IfSome r P
if_some None P f = tt
if_some (Some x) P f = f x refl

pub on_err : {A B : Type 0} (r : Result A B) (P Q : Type 0) → (P → Q) → OnErr r P → OnErr r Q
on_err (Ok x) P Q f p = p
on_err (Err e) P Q f p = f p

pub none_first : (xs : List ℕ) → slice_get xs 0 ≡ None → xs ≡ []
none_first [] e = refl
none_first (x ∷ xs) e = let clash : Some x ≡ None = e in absurd (cc)

pub record PlaceIn (kept : List Kept) (place : SlotPlace) : Type 0 where
  pub one : Kept
  pub found : slice_get kept (place.db - 1) ≡ Some one
  pub below : place.slot < one.dbd.roots

pub place_in : (kept : List Kept) (place : SlotPlace) → IsSlotPlace place (map stored kept) → PlaceIn kept place
place_in kept place there = by (slice_get kept (place.db - 1)) refl where
  by : (o : Option Kept) → slice_get kept (place.db - 1) ≡ o → PlaceIn kept place
  by None e =
      let none : slice_get (map stored kept) (place.db - 1) ≡ None = slice_get-map stored kept (place.db - 1) ∙ ap (option_map stored) e in
      let clash : None ≡ Some there.store = sym none ∙ there.found in
      absurd (cc)
  by (Some one) e =
      let some : slice_get (map stored kept) (place.db - 1) ≡ Some (stored one) = slice_get-map stored kept (place.db - 1) ∙ ap (option_map stored) e in
      let both : Some (stored one) ≡ Some there.store = sym some ∙ there.found in
      let same : stored one ≡ there.store = cc in
      record { one = one; found = e; below = subst (λ (s : Stored). place.slot < s.dbd.roots) (sym same) there.below }

pub there_within : (kept : List Kept) (i : ℕ) (one : Kept) → slice_get kept i ≡ Some one → i < length kept
there_within [] i one e = absurd (none_of i e) where
  none_of : (n : ℕ) → slice_get {X = Kept} [] n ≡ Some one → ⊥
  none_of n f = cc
there_within (k ∷ kept) zero one e = omega arith
there_within (k ∷ kept) (suc i) one e = omega (arith, there_within kept i one e)

front_seen : (kept : List Kept) (i : ℕ) → kept_sectors (take i kept) ≡ sector_count (take i (map stored kept))
front_seen [] zero = refl
front_seen [] (suc i) = refl
front_seen (k ∷ kept) zero = refl
front_seen (k ∷ kept) (suc i) =
    omega (arith, front_seen kept i, sum_by-cons (λ (x : Kept). x.dbd.roots * x.dbd.sectors) k (take i kept), sum_by-cons (λ (x : Stored). x.dbd.roots * x.dbd.sectors) (stored k) (take i (map stored kept)))

module _ (kept : List Kept) (place : SlotPlace) (one : Kept) (found : slice_get kept (place.db - 1) ≡ Some one) where
  pub sectors_at : slot_sectors_at place (map stored kept) ≡ one.dbd.sectors
  sectors_at = ap (λ (o : Option Stored). option_map_or (λ (s : Stored). s.dbd.sectors) o 0) (slice_get-map stored kept (place.db - 1) ∙ ap (option_map stored) found)

  pub sector_at_place : (first : ℕ) → slot_sector first place (map stored kept) ≡ first + kept_sectors (take (place.db - 1) kept) + place.slot * one.dbd.sectors
  sector_at_place first =
      ap (λ n. first + sector_count (take (place.db - 1) (map stored kept)) + place.slot * n) sectors_at
      ∙ ap (λ n. first + n + place.slot * one.dbd.sectors) (sym (front_seen kept (place.db - 1)))

  pub sector_below : place.slot < one.dbd.roots → kept_sectors (take (place.db - 1) kept) + place.slot * one.dbd.sectors ≤ kept_sectors kept
  sector_below below = omega (arith, slots_within kept (place.db - 1) one found, mul-le place.slot one.dbd.sectors one.dbd.roots one.dbd.sectors (omega (arith, below)) (omega arith))
