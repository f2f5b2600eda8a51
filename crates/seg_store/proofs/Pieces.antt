-- The bytes of a record cut up over the sectors of its slot.
use Rattle.std.proofs.Common.{◌≡◌, ◌⊎◌, ℕ, zero, suc, ◌+◌, ◌-◌, ◌*◌, ◌<◌, ◌≤◌, List, [], ◌∷◌, ◌++◌, length, take, drop, refl, sym, ◌∙◌, ap, subst, inl, inr, ⊎_elim, arith}
use Rattle.std.proofs.lemmas.List.{drop-drop, append-nil, length-drop, length-take, take_all, drop_all}
use Rattle.std.proofs.lemmas.Grind.{flat_map-append}
use Rattle.tm_disk.specs.Disk.{Image, with_sector, MayWrite}
use Rattle.seg_store.specs.DataSectors.{data_sector, pieces_from, pieces_of, IsGivenAt, MayPut, HasPut, PutsFront}
use Rattle.seg_store.specs.WrittenSlots.{behind}
use Rattle.seg_store.proofs.Putting.{has_step}
use Rattle.seg_store.proofs.WritingBack.{has_behind, may_behind, front_behind}

-- the piece in a sector of the slot
abbrev pub piece_at : ℕ → List ℕ → List ℕ
piece_at k bytes = take 4000 (drop (4000 * k) bytes)

pub piece_later : (k : ℕ) (bytes : List ℕ) → piece_at k (drop 4000 bytes) ≡ piece_at (suc k) bytes
piece_later k bytes = ap (λ (l : List ℕ). take 4000 l) (drop-drop (4000 * k) 4000 bytes ∙ ap (λ n. drop n bytes) (omega arith))

-- one sector more
pub pieces_next : (n at : ℕ) (bytes : List ℕ) → pieces_from (n + 1) at bytes ≡ pieces_from n at bytes ++ (at + n, piece_at n bytes) ∷ []
pieces_next zero at bytes = ap (λ k. (k, take 4000 bytes) ∷ []) (omega arith)
pieces_next (suc n) at bytes =
    let more : suc n + 1 ≡ suc (n + 1) = omega arith in
    ap (λ k. pieces_from k at bytes) more
    ∙ ap (λ (l : List (ℕ × List ℕ)). (at, take 4000 bytes) ∷ l)
    (pieces_next n (at + 1) (drop 4000 bytes)
    ∙ (ap (λ k. pieces_from n (at + 1) (drop 4000 bytes) ++ (k, piece_at n (drop 4000 bytes)) ∷ []) (omega arith)
    ∙ ap (λ (l : List ℕ). pieces_from n (at + 1) (drop 4000 bytes) ++ (at + suc n, l) ∷ []) (piece_later n bytes)))

-- the first ones, and those behind
pub pieces_both : (n m at : ℕ) (bytes : List ℕ) → pieces_from (n + m) at bytes ≡ pieces_from n at bytes ++ pieces_from m (at + n) (drop (4000 * n) bytes)
pieces_both zero m at bytes =
    let none : 0 + m ≡ m = omega arith in
    ap (λ k. pieces_from k at bytes) none ∙ ap (λ k. pieces_from m k bytes) (omega arith)
pieces_both (suc n) m at bytes =
    let more : suc n + m ≡ suc (n + m) = omega arith in
    ap (λ k. pieces_from k at bytes) more
    ∙ ap (λ (l : List (ℕ × List ℕ)). (at, take 4000 bytes) ∷ l)
    (pieces_both n m (at + 1) (drop 4000 bytes)
    ∙ (ap (λ k. pieces_from n (at + 1) (drop 4000 bytes) ++ pieces_from m k (drop (4000 * n) (drop 4000 bytes))) (omega arith)
    ∙ ap (λ (l : List ℕ). pieces_from n (at + 1) (drop 4000 bytes) ++ pieces_from m (at + suc n) l) (drop-drop (4000 * n) 4000 bytes ∙ ap (λ k. drop k bytes) (omega arith))))

-- those of a slot, by its own first sector
pub pieces_behind : (n at others : ℕ) (bytes : List ℕ) → behind others (pieces_from n at bytes) ≡ pieces_from n (others + at) bytes
pieces_behind zero at others bytes = refl
pieces_behind (suc n) at others bytes =
    ap (λ (l : List (ℕ × List ℕ)). (others + at, take 4000 bytes) ∷ l) (pieces_behind n (at + 1) others (drop 4000 bytes) ∙ ap (λ k. pieces_from n k (drop 4000 bytes)) (omega arith))

-- each piece is given to its place
pub piece_given : (n first at : ℕ) (bytes : List ℕ) (k : ℕ) → k < n → IsGivenAt first (pieces_from n at bytes) (first + (at + k)) (data_sector (piece_at k bytes))
piece_given zero first at bytes k lt = absurd (omega (arith, lt))
piece_given (suc n) first at bytes zero lt = inl (omega arith, refl)
piece_given (suc n) first at bytes (suc k) lt =
    inr (subst (λ p. IsGivenAt first (pieces_from n (at + 1) (drop 4000 bytes)) p (data_sector (piece_at (suc k) bytes))) (omega arith)
    (subst (λ (l : List ℕ). IsGivenAt first (pieces_from n (at + 1) (drop 4000 bytes)) (first + ((at + 1) + k)) (data_sector l)) (piece_later k bytes)
    (piece_given n first (at + 1) (drop 4000 bytes) k (omega (arith, lt)))))

-- and what they give is one of them
pub record InPiece (first n at : ℕ) (bytes : List ℕ) (p : ℕ) (sector : List ℕ) : Type 0 where
  pub index : ℕ
  pub within : index < n
  pub is : p ≡ first + (at + index)
  pub holds : sector ≡ data_sector (piece_at index bytes)

pub in_piece : (n first at : ℕ) (bytes : List ℕ) (p : ℕ) (sector : List ℕ) → IsGivenAt first (pieces_from n at bytes) p sector → InPiece first n at bytes p sector
in_piece zero first at bytes p sector given = absurd given
in_piece (suc n) first at bytes p sector given =
    ⊎_elim
    (λ here. record { index = 0; within = omega arith; is = omega (arith, here.0); holds = here.1 })
    (λ later.
    let w = in_piece n first (at + 1) (drop 4000 bytes) p sector later in record {
      index = suc w.index;
      within = omega (arith, w.within);
      is = omega (arith, w.is);
      holds = w.holds ∙ ap data_sector (piece_later w.index bytes);
    })
    given

-- ---- slots, one more

-- a slot of a list with its bytes
pub pieces_more : (n : ℕ) (slots : List (ℕ × List ℕ)) (slot : ℕ × List ℕ) → pieces_of n (slots ++ slot ∷ []) ≡ pieces_of n slots ++ pieces_from n (slot.0 * n) slot.1
pieces_more n slots slot =
    flat_map-append (λ s. pieces_from n (s.0 * n) s.1) slots (slot ∷ []) ∙ ap (λ (l : List (ℕ × List ℕ)). pieces_of n slots ++ l) (append-nil (pieces_from n (slot.0 * n) slot.1))

at_own : (n number : ℕ) (bytes : List ℕ) → behind (number * n) (pieces_from n 0 bytes) ≡ pieces_from n (number * n) bytes
at_own n number bytes = pieces_behind n 0 (number * n) bytes ∙ ap (λ k. pieces_from n k bytes) (omega arith)

-- what a slot gives by its own first sector, it gives by that of slot 0
module _ (first n number : ℕ) (bytes : List ℕ) (a b : Image) where
  pub has_slot : HasPut (first + number * n) (pieces_from n 0 bytes) a b → HasPut first (pieces_from n (number * n) bytes) a b
  has_slot has = subst (λ (l : List (ℕ × List ℕ)). HasPut first l a b) (at_own n number bytes) (has_behind first (number * n) (pieces_from n 0 bytes) a b has)

  pub may_slot : MayPut (first + number * n) (pieces_from n 0 bytes) a b → MayPut first (pieces_from n (number * n) bytes) a b
  may_slot may = subst (λ (l : List (ℕ × List ℕ)). MayPut first l a b) (at_own n number bytes) (may_behind first (number * n) (pieces_from n 0 bytes) a b may)

  pub front_slot : PutsFront (first + number * n) (pieces_from n 0 bytes) a b → PutsFront first (pieces_from n (number * n) bytes) a b
  front_slot puts = subst (λ (l : List (ℕ × List ℕ)). PutsFront first l a b) (at_own n number bytes) (front_behind first (number * n) (pieces_from n 0 bytes) a b puts)

-- ---- one piece is written

-- the bytes from one place on, or up to another, are a piece
pub no_piece : (bytes : List ℕ) (from place : ℕ) → from ≡ place → length bytes ≤ 4000 * from → [] ≡ take 4000 (drop (4000 * place) bytes)
no_piece bytes from place same past = sym (ap (λ (l : List ℕ). take 4000 l) (drop_all (4000 * place) bytes (omega (arith, past, same))))

pub piece_last : (bytes : List ℕ) (from place : ℕ) → from ≡ place → length bytes ≤ 4000 * from + 4000 → take (length bytes - 4000 * from) (drop (4000 * from) bytes) ≡ take 4000 (drop (4000 * place) bytes)
piece_last bytes from place same last =
    ap (λ n. take (length bytes - 4000 * n) (drop (4000 * n) bytes)) same
    ∙ (take_all (length bytes - 4000 * place) (drop (4000 * place) bytes) (omega (arith, length-drop (4000 * place) bytes))
    ∙ sym (take_all 4000 (drop (4000 * place) bytes) (omega (arith, length-drop (4000 * place) bytes, last, same))))

pub piece_within : (bytes : List ℕ) (from place : ℕ) → from ≡ place → take (4000 * from + 4000 - 4000 * from) (drop (4000 * from) bytes) ≡ take 4000 (drop (4000 * place) bytes)
piece_within bytes from place same =
    let count : 4000 * from + 4000 - 4000 * from ≡ 4000 = omega arith in
    ap (λ n. take n (drop (4000 * from) bytes)) count ∙ ap (λ n. take 4000 (drop (4000 * n) bytes)) same

pub piece_short : (k : ℕ) (bytes piece : List ℕ) → piece ≡ piece_at k bytes → length piece ≤ 4000
piece_short k bytes piece is = omega (arith, ap (length {A = ℕ}) is, length-take 4000 (drop (4000 * k) bytes))

module _ (n first : ℕ) (bytes : List ℕ) (k p : ℕ) (sector : List ℕ) (lt : k < n) (is : p ≡ first + k) (sealed : sector ≡ data_sector (piece_at k bytes)) where
  pub given_here : IsGivenAt first (pieces_from n 0 bytes) p sector
  given_here =
      subst (λ q. IsGivenAt first (pieces_from n 0 bytes) q sector) (sym (is ∙ (omega arith)))
      (subst (λ (s : List ℕ). IsGivenAt first (pieces_from n 0 bytes) (first + (0 + k)) s) (sym sealed) (piece_given n first 0 bytes k lt))

  pub has_here : (before mid after : Image) → p < length mid → HasPut first (pieces_from k 0 bytes) before mid → after ≡ with_sector mid p sector → HasPut first (pieces_from (k + 1) 0 bytes) before after
  has_here before mid after inside has new =
      subst (λ (l : List (ℕ × List ℕ)). HasPut first l before after) (sym (pieces_next k 0 bytes))
      (has_step first (pieces_from k 0 bytes) (0 + k, piece_at k bytes) p sector before mid after (omega (arith, is)) inside sealed has new)

  front_to : (m : ℕ) (before after : Image) → m ≤ n → HasPut first (pieces_from m 0 bytes) before after → PutsFront first (pieces_from n 0 bytes) before after
  front_to m before after le has = record {
    front = pieces_from m 0 bytes;
    rest = pieces_from (n - m) (0 + m) (drop (4000 * m) bytes);
    all = ap (λ k. pieces_from k 0 bytes) (omega (arith, le)) ∙ pieces_both m (n - m) 0 bytes;
    put = has;
  }

  pub front_here : (before mid after : Image) → p < length mid → HasPut first (pieces_from k 0 bytes) before mid → MayWrite p sector mid after → PutsFront first (pieces_from n 0 bytes) before after
  front_here before mid after inside has wrote =
      ⊎_elim
      (λ same. front_to k before after (omega (arith, lt)) (subst (λ (a : Image). HasPut first (pieces_from k 0 bytes) before a) (sym same) has))
      (λ new. front_to (k + 1) before after (omega (arith, lt)) (has_here before mid after inside has new))
      wrote
