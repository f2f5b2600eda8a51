-- Slots are written one after another, each with the pieces of its record.
use Rattle.std.proofs.Common.{◌≡◌, ℕ, ◌+◌, ◌*◌, ◌<◌, ◌≤◌, zero, suc, List, [], ◌∷◌, ◌++◌, take, drop, length, get_or, refl, sym, ◌∙◌, ap, subst, arith, None, Some}
use Rattle.std.specs.List.{slice_get, AllByRecursion}
use Rattle.std.specs.Prelude.{slice_index_or}
use Rattle.std.specs.Option.{option_map}
use Rattle.std.proofs.lemmas.Option.{slice_get-map, slice_get-get_or}
use Rattle.std.proofs.lemmas.List.{append-nil, take-append-drop, get_or_default}
use Rattle.std.proofs.lemmas.List.Concat.{flat_map-append}
use Rattle.std.proofs.lemmas.Nat.{row_fits, mul-lt}
use Rattle.tm_disk.specs.Disk.{Image, DiskState, Follows, Within}
use Rattle.tm_disk.proofs.Words.{follows_on, follows_more, within_more, within_within}
use Rattle.model_data.specs.declared.row.Row.{Row}
use Rattle.model_data.specs.Record.{rows_spelling}
use Rattle.seg_store.specs.DataSectors.{pieces_from, pieces_of, bytes_of_slots, IsGivenAt, MayPut, HasPut, PutsFront}
use Rattle.seg_store.proofs.WritingBack.{is_given_front, is_given_back, may_both, may_more, has_both, front_both}
use Rattle.seg_store.proofs.Pieces.{may_slot, has_slot, front_slot}

-- the sectors of a slot are among those of all
pub slot_fits : (first roots sectors number size : ℕ) → number < roots → first + roots * sectors ≤ size → first + number * sectors + sectors ≤ size
slot_fits first roots sectors number size below within = omega (arith, row_fits number sectors roots sectors below (omega arith), within)

-- a product of a number of two bytes and one of one byte is small
pub small_product : (a b : ℕ) → a < 65536 → b < 256 → a * b < 16777216
small_product a b few short = omega (arith, mul-lt a b 65536 256 few short)

-- the pieces of a slot are among those of all
piece_there : (first n : ℕ) (slots : List (ℕ × List ℕ)) (i : ℕ) (slot : ℕ × List ℕ) → slice_get slots i ≡ Some slot → (at : ℕ) (sector : List ℕ)
    → IsGivenAt first (pieces_from n (slot.0 * n) slot.1) at sector → IsGivenAt first (pieces_of n slots) at sector
piece_there first n [] i slot found at sector given = let clash : None ≡ Some slot = found in absurd (cc)
piece_there first n (x ∷ slots) zero slot found at sector given =
    let both : Some x ≡ Some slot = found in
    let same : x ≡ slot = cc in
    is_given_front first (pieces_from n (x.0 * n) x.1) (pieces_of n slots) at sector
    (subst (λ (s : ℕ × List ℕ). IsGivenAt first (pieces_from n (s.0 * n) s.1) at sector) (sym same) given)
piece_there first n (x ∷ slots) (suc i) slot found at sector given =
    is_given_back first (pieces_from n (x.0 * n) x.1) (pieces_of n slots) at sector (piece_there first n slots i slot found at sector given)

abbrev pieces : ℕ → ℕ × List ℕ → List (ℕ × List ℕ)
pieces n slot = pieces_from n (slot.0 * n) slot.1

take_next : (slots : List (ℕ × List ℕ)) (i : ℕ) (slot : ℕ × List ℕ) → slice_get slots i ≡ Some slot → take (i + 1) slots ≡ take i slots ++ slot ∷ []
take_next [] i slot found = let clash : None ≡ Some slot = found in absurd (cc)
take_next (x ∷ slots) zero slot found = let both : Some x ≡ Some slot = found in let same : x ≡ slot = cc in ap (λ (s : ℕ × List ℕ). s ∷ []) same
take_next (x ∷ slots) (suc i) slot found =
    let more : suc i + 1 ≡ suc (i + 1) = omega arith in
    ap (λ k. take k (x ∷ slots)) more ∙ ap (λ (l : List (ℕ × List ℕ)). x ∷ l) (take_next slots i slot found)

-- the pieces of one slot more
one_more : (n : ℕ) (slots : List (ℕ × List ℕ)) (i : ℕ) (slot : ℕ × List ℕ) → slice_get slots i ≡ Some slot → pieces_of n (take (i + 1) slots) ≡ pieces_of n (take i slots) ++ pieces_from n (slot.0 * n) slot.1
one_more n slots i slot found =
    ap (pieces_of n) (take_next slots i slot found)
    ∙ flat_map-append (pieces n) (take i slots) (slot ∷ [])
    ∙ ap (λ (l : List (ℕ × List ℕ)). pieces_of n (take i slots) ++ l) (append-nil (pieces_from n (slot.0 * n) slot.1))

up_to : (n : ℕ) (slots : List (ℕ × List ℕ)) (i : ℕ) → pieces_of n slots ≡ pieces_of n (take i slots) ++ pieces_of n (drop i slots)
up_to n slots i = ap (pieces_of n) (sym (take-append-drop i slots)) ∙ flat_map-append (pieces n) (take i slots) (drop i slots)

-- The slot at a place is written, where its first sector is this one.
module _ (first n : ℕ) (slots : List (ℕ × List ℕ)) (i : ℕ) (slot : ℕ × List ℕ) (found : slice_get slots i ≡ Some slot) (at : ℕ) (is : at ≡ first + slot.0 * n) (bytes : List ℕ) (same : bytes ≡ slot.1) where
  -- what is written of it, by the place of slot 0
  placed : (P : ℕ → List (ℕ × List ℕ) → Type 0) → P at (pieces_from n 0 bytes) → P (first + slot.0 * n) (pieces_from n 0 slot.1)
  placed P written = subst (λ p. P p (pieces_from n 0 slot.1)) is (subst (λ (b : List ℕ). P at (pieces_from n 0 b)) same written)

  may_one : (a b : Image) → MayPut at (pieces_from n 0 bytes) a b → MayPut first (pieces_of n slots) a b
  may_one a b may =
      may_more first first (pieces_from n (slot.0 * n) slot.1) (pieces_of n slots) a b (piece_there first n slots i slot found)
      (may_slot first n slot.0 slot.1 a b (placed (λ p l. MayPut p l a b) may))

  pub next_within : (old mid new : DiskState) → Within (MayPut first (pieces_of n slots)) old mid → Follows (MayPut first (pieces_of n slots)) old mid → Within (MayPut at (pieces_from n 0 bytes)) mid new → Within (MayPut first (pieces_of n slots)) old new
  next_within old mid new before follows after =
      within_within (MayPut first (pieces_of n slots)) (MayPut first (pieces_of n slots)) (MayPut first (pieces_of n slots)) old mid new (λ a c may. may) (may_both first (pieces_of n slots))
      before follows (within_more (MayPut at (pieces_from n 0 bytes)) (MayPut first (pieces_of n slots)) mid new may_one after)

  pub next_follows : (old mid new : DiskState) → Follows (MayPut first (pieces_of n slots)) old mid → Follows (MayPut at (pieces_from n 0 bytes)) mid new → Follows (MayPut first (pieces_of n slots)) old new
  next_follows old mid new before after =
      follows_on (MayPut first (pieces_of n slots)) (MayPut first (pieces_of n slots)) (MayPut first (pieces_of n slots)) old mid new (may_both first (pieces_of n slots)) before
      (follows_more (MayPut at (pieces_from n 0 bytes)) (MayPut first (pieces_of n slots)) mid new may_one after)

  pub next_has : (a b c : Image) → HasPut first (pieces_of n (take i slots)) a b → HasPut at (pieces_from n 0 bytes) b c → HasPut first (pieces_of n (take (i + 1) slots)) a c
  next_has a b c before after =
      subst (λ (l : List (ℕ × List ℕ)). HasPut first l a c) (sym (one_more n slots i slot found))
      (has_both first (pieces_of n (take i slots)) (pieces_from n (slot.0 * n) slot.1) a b c before
      (has_slot first n slot.0 slot.1 b c (placed (λ p l. HasPut p l b c) after)))

  pub next_front : (a b c : Image) → HasPut first (pieces_of n (take i slots)) a b → PutsFront at (pieces_from n 0 bytes) b c → PutsFront first (pieces_of n slots) a c
  next_front a b c before puts =
      subst (λ (l : List (ℕ × List ℕ)). PutsFront first l a c)
      (sym (up_to n slots (i + 1) ∙ ap (λ (l : List (ℕ × List ℕ)). l ++ pieces_of n (drop (i + 1) slots)) (one_more n slots i slot found)))
      (front_both first (pieces_of n (take i slots)) (pieces_from n (slot.0 * n) slot.1) (pieces_of n (drop (i + 1) slots)) a b c before
      (front_slot first n slot.0 slot.1 b c (placed (λ p l. PutsFront p l b c) puts)))

-- ---- slots of a store, by their numbers

all_at : (P : ℕ → Type 0) (xs : List ℕ) (i d : ℕ) → i < length xs → AllByRecursion P xs → P (get_or xs i d)
all_at P [] i d lt h = absurd (omega (arith, lt))
all_at P (x ∷ xs) zero d lt h = h.0
all_at P (x ∷ xs) (suc i) d lt h = all_at P xs i d (omega (arith, lt)) h.1

pub all_images : (P : List Row → Type 0) (images : List (List Row)) (k : ℕ) (image : List Row) → k < length images → image ≡ get_or images k image → AllByRecursion P images → P image
all_images P [] k image lt is h = absurd (omega (arith, lt))
all_images P (x ∷ images) zero image lt is h = subst P (sym is) h.0
all_images P (x ∷ images) (suc k) image lt is h = all_images P images k image (omega (arith, lt)) is h.1

module _ (images : List (List Row)) (numbers : List ℕ) (i : ℕ) (image : List Row) (lt : i < length numbers)
    (within : AllByRecursion (λ slot. slot < length images) numbers) (is : image ≡ get_or images (get_or numbers i 0) image) where
  pub number_within : get_or numbers i 0 < length images
  number_within = all_at (λ slot. slot < length images) numbers i 0 lt within

  pub slot_of_number : slice_get (bytes_of_slots images numbers) i ≡ Some (get_or numbers i 0, rows_spelling image)
  slot_of_number =
      slice_get-map (λ number. (number, rows_spelling (slice_index_or images number []))) numbers i
      ∙ ap (option_map (λ number. (number, rows_spelling (slice_index_or images number [])))) (slice_get-get_or numbers i 0 lt)
      ∙ ap (λ (rows : List Row). Some (get_or numbers i 0, rows_spelling rows)) (sym (is ∙ get_or_default images (get_or numbers i 0) image [] number_within))

pub numbers_front : (images : List (List Row)) (numbers : List ℕ) (i : ℕ) → take i (bytes_of_slots images numbers) ≡ bytes_of_slots images (take i numbers)
numbers_front images [] zero = refl
numbers_front images [] (suc i) = refl
numbers_front images (n ∷ numbers) zero = refl
numbers_front images (n ∷ numbers) (suc i) = ap (λ (l : List (ℕ × List ℕ)). (n, rows_spelling (slice_index_or images n [])) ∷ l) (numbers_front images numbers i)
