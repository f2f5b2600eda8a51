-- Slots by their places.
use Rattle.std.proofs.Common.{◌≡◌, ◌⊎◌, inl, inr, Bool, true, false, ◌&&◌, List, [], ◌∷◌, ℕ, ◌<◌, refl, sym, ◌∙◌, ap, arith, Some, ⊎_elim}
use Rattle.std.specs.Prelude.{if◌then◌else◌, ◌==◌, map, Option, find}
use Rattle.std.specs.BTreeMap.{is_at}
use Rattle.std.specs.Cmp.{nat_cmp_is}
use Rattle.std.specs.List.Sorted.{IsStrictlySortedBy}
use Rattle.std.specs.Map.{lookup, keys_of}
use Rattle.std.specs.Option.{option_map}
use Rattle.std.specs.Ordering.{nat_cmp, ordering_then, is_eq}
use Rattle.std.specs.declared.cmp.Ordering.TheVariants.{Less, Equal, Greater}
use Rattle.std.proofs.lemmas.Bool.{eq-eqb, ne_eqb, eqb-true, cases_order}
use Rattle.std.proofs.lemmas.Map.Keys.{sorted_head, sorted_tail}
use Rattle.image_records.specs.declared.slots.NamedSlot.{NamedSlot}
use Rattle.image_records.specs.NamedSlots.{named_bytes_at, is_at as is_slot_at, IsNamedSlotBefore, NamedSlotsAscend}
use Rattle.log_replay.specs.declared.said.Said.{Said}
use Rattle.log_replay.specs.SlotBytes.{place_cmp, said_at, said_slot, said_bytes, with_change_said}

-- ---- numbers compared

less_is : (a b : ℕ) → a < b → nat_cmp a b ≡ Less
less_is a b h = sym (nat_cmp_is a b Less h)

equal_is : (a b : ℕ) → a ≡ b → nat_cmp a b ≡ Equal
equal_is a b h = sym (nat_cmp_is a b Equal h)

greater_is : (a b : ℕ) → b < a → nat_cmp a b ≡ Greater
greater_is a b h = sym (nat_cmp_is a b Greater h)

-- the test of a look-up
same_place : (d s a b : ℕ) → is_at (place_cmp (d, s)) (a, b) ≡ (a == d) && (b == s)
same_place d s a b =
    ⊎_elim (λ e. ap (λ o. is_eq (ordering_then o (nat_cmp s b))) (equal_is d a e) ∙ second ∙ ap (λ x. x && (b == s)) (sym (eq-eqb a d (sym e))))
    (⊎_elim (λ h. ap (λ o. is_eq (ordering_then o (nat_cmp s b))) (less_is d a h) ∙ ap (λ x. x && (b == s)) (sym (ne_eqb a d (λ e. absurd (omega (arith, h, e))))))
    (λ h. ap (λ o. is_eq (ordering_then o (nat_cmp s b))) (greater_is d a h) ∙ ap (λ x. x && (b == s)) (sym (ne_eqb a d (λ e. absurd (omega (arith, h, e)))))))
    (cases_order d a)
  where
    second : is_eq (nat_cmp s b) ≡ b == s
    second =
        ⊎_elim (λ e. ap is_eq (equal_is s b e) ∙ sym (eq-eqb b s (sym e)))
        (⊎_elim (λ h. ap is_eq (less_is s b h) ∙ sym (ne_eqb b s (λ e. absurd (omega (arith, h, e)))))
        (λ h. ap is_eq (greater_is s b h) ∙ sym (ne_eqb b s (λ e. absurd (omega (arith, h, e))))))
        (cases_order s b)

-- where a place changes that is this one
pub turned : (d s a b : ℕ) → is_at (place_cmp (a, b)) (d, s) ≡ (a == d) && (b == s)
turned d s a b = same_place a b d s ∙ ap (λ x. x && (s == b)) (even d a) ∙ ap (λ x. (a == d) && x) (even s b) where
  even : (m n : ℕ) → (m == n) ≡ (n == m)
  even m n =
      ⊎_elim (λ e. eq-eqb m n e ∙ sym (eq-eqb n m (sym e)))
      (⊎_elim (λ h. ne_eqb m n (λ e. absurd (omega (arith, h, e))) ∙ sym (ne_eqb n m (λ e. absurd (omega (arith, h, e)))))
      (λ h. ne_eqb m n (λ e. absurd (omega (arith, h, e))) ∙ sym (ne_eqb n m (λ e. absurd (omega (arith, h, e))))))
      (cases_order m n)

-- ---- the slots of a map

pub found_by : (d s : ℕ) (entries : List ((ℕ × ℕ) × Said)) → named_bytes_at d s (map said_slot entries) ≡ option_map said_bytes (said_at d s entries)
found_by d s [] = refl
found_by d s (e ∷ entries) = by_first ((e.0.0 == d) && (e.0.1 == s)) (is_at (place_cmp (d, s)) e.0) (same_place d s e.0.0 e.0.1) (found_by d s entries) where
  by_first : (x y : Bool) → y ≡ x → named_bytes_at d s (map said_slot entries) ≡ option_map said_bytes (said_at d s entries) →
      option_map (λ s. s.bytes) (if x then Some (said_slot e) else find (is_slot_at d s) (map said_slot entries)) ≡ option_map said_bytes (if y then Some e.1 else said_at d s entries)
  by_first true true is rest = refl
  by_first false false is rest = rest
  by_first true false is rest = cc
  by_first false true is rest = cc

before_from : (x y : NamedSlot) → place_cmp (x.database, x.slot) (y.database, y.slot) ≡ Less → IsNamedSlotBefore x y
before_from x y less =
    ⊎_elim (λ e. inr (e, lower e))
    (⊎_elim (λ h. inl h) (λ h. absurd (never h)))
    (cases_order x.database y.database)
  where
    lower : x.database ≡ y.database → x.slot < y.slot
    lower e =
        let second : nat_cmp x.slot y.slot ≡ Less = ap (λ o. ordering_then o (nat_cmp x.slot y.slot)) (sym (equal_is x.database y.database e)) ∙ less in
        ⊎_elim (λ same. absurd (apart (sym (equal_is x.slot y.slot same) ∙ second)))
        (⊎_elim (λ h. h) (λ h. absurd (behind (sym (greater_is x.slot y.slot h) ∙ second))))
        (cases_order x.slot y.slot)
      where
        apart : Equal ≡ Less → ⊥
        apart e = cc

        behind : Greater ≡ Less → ⊥
        behind e = cc

    never : y.database < x.database → ⊥
    never h = wrong (ap (λ o. ordering_then o (nat_cmp x.slot y.slot)) (sym (greater_is x.database y.database h)) ∙ less)
      where
        wrong : Greater ≡ Less → ⊥
        wrong e = cc

pub ascend_from : (entries : List ((ℕ × ℕ) × Said)) → IsStrictlySortedBy place_cmp (keys_of entries) → NamedSlotsAscend (map said_slot entries)
ascend_from [] sorted = tt
ascend_from (e ∷ []) sorted = tt
ascend_from (e ∷ next ∷ entries) sorted =
    let lower = sorted_head place_cmp e.0 (keys_of (next ∷ entries)) sorted in
    (before_from (said_slot e) (said_slot next) lower.0, ascend_from (next ∷ entries) (sorted_tail place_cmp e.0 (keys_of (next ∷ entries)) sorted))

-- ---- one place changes

module _ (d s a b : ℕ) (counts : Bool) (before after : List ℕ) (old new : List ((ℕ × ℕ) × Said)) where
  abbrev change : Option Said → Said
  change said = with_change_said counts before after said

  -- what is kept of a place is the change of what was
  pub changed : (w : Said) → w ≡ change (said_at a b old) → ((q : ℕ × ℕ) → lookup (is_at (place_cmp q)) new ≡ (if is_at (place_cmp (a, b)) q then Some w else lookup (is_at (place_cmp q)) old)) →
      said_at d s new ≡ (if (a == d) && (b == s) then Some (change (said_at d s old)) else said_at d s old)
  changed w is all =
      all (d, s) ∙ ap (λ x. if x then Some w else said_at d s old) (turned d s a b) ∙ by_place (a == d) (b == s) refl refl where
        by_place : (x y : Bool) → a == d ≡ x → b == s ≡ y → (if x && y then Some w else said_at d s old) ≡ (if x && y then Some (change (said_at d s old)) else said_at d s old)
        by_place true true isx isy =
            ap (λ (s : Said). Some s) is
            ∙ ap (λ n. Some (change (said_at n b old))) (eqb-true a d isx)
            ∙ ap (λ n. Some (change (said_at d n old))) (eqb-true b s isy)
        by_place true false isx isy = refl
        by_place false y isx isy = refl
