-- Sectors are written one by one, each with what a list of pieces gives it.
use Rattle.std.proofs.Common.{◌≡◌, ◌⊎◌, ℕ, ◌+◌, ◌<◌, ◌≤◌, zero, suc, Bool, true, false, cond, List, [], ◌∷◌, ◌++◌, length, refl, sym, ◌∙◌, ap, subst, inl, inr, ⊎_elim, None, Some, eqb}
use Rattle.std.specs.Prelude.{Result, Ok, Err, is_err, OnOk, OnErr}
use Rattle.std.specs.List.{slice_get}
use Rattle.std.specs.Option.{option_or, unwrap_or}
use Rattle.std.proofs.lemmas.Bool.{cases_lt, cases_eq, eq-eqb, ne_eqb}
use Rattle.std.proofs.lemmas.List.{get_or-set_same, get_or-set_other, length-set, set_past}
use Rattle.tm_disk.specs.Disk.{Image, DiskState, sector_at, with_sector, MayWrite, Elapses, Follows, Within}
use Rattle.tm_disk.proofs.Words.{within_on, follows_on}
use Rattle.seg_store.specs.DataSectors.{data_sector, IsGivenAt, given_at, MayPut, HasPut}

-- a piece of a list is given to its place
pub given_there : (first : ℕ) (slots : List (ℕ × List ℕ)) (i at : ℕ) (slot : ℕ × List ℕ) (sector : List ℕ) → slice_get slots i ≡ Some slot → first + slot.0 ≡ at → sector ≡ data_sector slot.1
    → IsGivenAt first slots at sector
given_there first [] i at slot sector e p s = let clash : None ≡ Some slot = e in absurd (cc)
given_there first (x ∷ slots) zero at slot sector e p s =
    let same : Some x ≡ Some slot = e in
    let one : x ≡ slot = cc in
    inl (ap (λ (y : ℕ × List ℕ). first + y.0) one ∙ p, s ∙ ap (λ (y : ℕ × List ℕ). data_sector y.1) (sym one))
given_there first (x ∷ slots) (suc i) at slot sector e p s = inr (given_there first slots i at slot sector e p s)

-- one more at the end
pub given_more : (first : ℕ) (slots : List (ℕ × List ℕ)) (slot : ℕ × List ℕ) (at : ℕ)
    → given_at first (slots ++ slot ∷ []) at ≡ cond (eqb (first + slot.0) at) (Some (data_sector slot.1)) (given_at first slots at)
given_more first [] slot at = refl
given_more first (x ∷ slots) slot at =
    ap (λ o. option_or o (cond (eqb (first + x.0) at) (Some (data_sector x.1)) None)) (given_more first slots slot at)
    ∙ by (eqb (first + slot.0) at)
  where
    by : (b : Bool) → option_or (cond b (Some (data_sector slot.1)) (given_at first slots at)) (cond (eqb (first + x.0) at) (Some (data_sector x.1)) None)
        ≡ cond b (Some (data_sector slot.1)) (given_at first (x ∷ slots) at)
    by true = refl
    by false = refl

-- what holds of a call that went well
pub at_ok : {A B : Type 0} (r : Result A B) (P : Type 0) → is_err r ≡ false → OnOk r P → P
at_ok (Ok a) P e h = h
at_ok (Err b) P e h = let clash : true ≡ false = e in absurd (cc)

-- and of one that failed
pub at_err : {A B : Type 0} (r : Result A B) (P : Type 0) → is_err r ≡ true → OnErr r P → P
at_err (Ok a) P e h = let clash : false ≡ true = e in absurd (cc)
at_err (Err b) P e h = h

pub may_none : (first : ℕ) (slots : List (ℕ × List ℕ)) (image : Image) → MayPut first slots image image
may_none first slots image = record { size = refl; each = λ at. inl refl }

pub may_step : (first : ℕ) (slots : List (ℕ × List ℕ)) (p : ℕ) (sector : List ℕ) → IsGivenAt first slots p sector → (before mid after : Image)
    → MayPut first slots before mid → MayWrite p sector mid after → MayPut first slots before after
may_step first slots p sector given before mid after may wrote =
    ⊎_elim
    (λ same. subst (λ (i : Image). MayPut first slots before i) (sym same) may)
    (λ new. subst (λ (i : Image). MayPut first slots before i) (sym new) (record { size = length-set mid p sector ∙ may.size; each = each }))
    wrote
  where
    at_place : (at : ℕ) → at ≡ p → (sector_at (with_sector mid p sector) at ≡ sector_at before at) ⊎ IsGivenAt first slots at (sector_at (with_sector mid p sector) at)
    at_place at here =
        ⊎_elim
        (λ (within : p < length mid).
        inr (subst (λ k. IsGivenAt first slots k (sector_at (with_sector mid p sector) k)) (sym here)
        (subst (λ (s : List ℕ). IsGivenAt first slots p s) (sym (get_or-set_same mid p sector [] within)) given)))
        (λ (past : length mid ≤ p).
        subst (λ (i : Image). (sector_at i at ≡ sector_at before at) ⊎ IsGivenAt first slots at (sector_at i at)) (sym (set_past mid p sector past)) (may.each at))
        (cases_lt p (length mid))

    each : (at : ℕ) → (sector_at (with_sector mid p sector) at ≡ sector_at before at) ⊎ IsGivenAt first slots at (sector_at (with_sector mid p sector) at)
    each at =
        ⊎_elim
        (λ (here : at ≡ p). at_place at here)
        (λ (other : at ≡ p → ⊥).
        subst (λ (s : List ℕ). (s ≡ sector_at before at) ⊎ IsGivenAt first slots at s) (sym (get_or-set_other mid p at sector [] other)) (may.each at))
        (cases_eq at p)

pub has_none : (first : ℕ) (image : Image) → HasPut first [] image image
has_none first image = record { size = refl; each = λ at. refl }

pub has_step : (first : ℕ) (slots : List (ℕ × List ℕ)) (slot : ℕ × List ℕ) (p : ℕ) (sector : List ℕ) (before mid after : Image) → first + slot.0 ≡ p → p < length mid → sector ≡ data_sector slot.1
    → HasPut first slots before mid → after ≡ with_sector mid p sector → HasPut first (slots ++ slot ∷ []) before after
has_step first slots slot p sector before mid after is within sealed has new =
    subst (λ (i : Image). HasPut first (slots ++ slot ∷ []) before i) (sym new) (record { size = length-set mid p sector ∙ has.size; each = each })
  where
    each : (at : ℕ) → sector_at (with_sector mid p sector) at ≡ unwrap_or (given_at first (slots ++ slot ∷ []) at) (sector_at before at)
    each at =
        ⊎_elim
        (λ (here : at ≡ p).
        ap (λ k. sector_at (with_sector mid p sector) k) here
        ∙ (get_or-set_same mid p sector [] within
        ∙ (sealed
        ∙ sym (ap (λ o. unwrap_or o (sector_at before at)) (given_more first slots slot at ∙ ap (λ b. cond b (Some (data_sector slot.1)) (given_at first slots at)) (eq-eqb (first + slot.0) at (is ∙ sym here)))))))
        (λ (other : at ≡ p → ⊥).
        get_or-set_other mid p at sector [] other
        ∙ (has.each at
        ∙ sym (ap (λ o. unwrap_or o (sector_at before at)) (given_more first slots slot at ∙ ap (λ b. cond b (Some (data_sector slot.1)) (given_at first slots at)) (ne_eqb (first + slot.0) at (λ e. other (sym e ∙ is)))))))
        (cases_eq at p)

-- so for a disk, call by call
module _ (first : ℕ) (slots : List (ℕ × List ℕ)) (p : ℕ) (sector : List ℕ) (given : IsGivenAt first slots p sector) (old mid new : DiskState) where
  pub put_follows : Follows (MayPut first slots) old mid → Follows (MayWrite p sector) mid new → Follows (MayPut first slots) old new
  put_follows before after =
      follows_on (MayPut first slots) (MayWrite p sector) (MayPut first slots) old mid new (λ a b c may wrote. may_step first slots p sector given a b c may wrote) before after

  pub put_within : Within (MayPut first slots) old mid → Follows (MayPut first slots) old mid → Elapses mid new → Follows (MayWrite p sector) mid new → Within (MayPut first slots) old new
  put_within within before elapses after = within_on (MayPut first slots) old mid new within elapses (put_follows before after)
