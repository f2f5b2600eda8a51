-- Bytes are looked at one after another.
use Rattle.std.proofs.Common.{◌≡◌, ℕ, zero, suc, ◌+◌, ◌≤◌, ◌<◌, false, List, [], ◌∷◌, length, get_or, drop, refl, sym, ◌∙◌, ap, arith, Some, None}
use Rattle.std.specs.Option.{option_map, option_and_then}
use Rattle.image_reading.proofs.Fronts.{goes_before}
use Rattle.std.specs.Prelude.{Option, slice_get}
use Rattle.image_reading.specs.declared.parts.Part.{Part}
use Rattle.image_reading.specs.RecordParts.{part_step, left_before, next_part, advanced, layout_goes_on, is_front}

-- what is to be decided is whether the bytes that are left are a front of what is left of the layout
pub record Walks (missing : ℕ) (layout : List Part) (bytes : List ℕ) (current : Option Part) (place : ℕ) (left : List ℕ) : Type 0 where
  pub within : place ≤ length layout
  pub same : is_front missing (left_before current (drop place layout)) left ≡ is_front missing layout bytes

drop_none : {X : Type 0} (xs : List X) (place : ℕ) → slice_get xs place ≡ None → drop place xs ≡ []
drop_none [] zero none = refl
drop_none [] (suc place) none = refl
drop_none (x ∷ xs) zero none = absurd cc
drop_none (x ∷ xs) (suc place) none = drop_none xs place none

drop_some : {X : Type 0} (xs : List X) (place : ℕ) (x : X) → slice_get xs place ≡ Some x → (drop place xs ≡ x ∷ drop (suc place) xs) × (suc place ≤ length xs)
drop_some [] place x at = absurd cc
drop_some (y ∷ xs) zero x at = let e : y ≡ x = cc in (ap (λ z. z ∷ xs) e, omega arith)
drop_some (y ∷ xs) (suc place) x at = let later = drop_some xs place x at in (later.0, omega (arith, later.1))

drop_at : (bytes : List ℕ) (i : ℕ) → i < length bytes → drop i bytes ≡ get_or bytes i 0 ∷ drop (suc i) bytes
drop_at [] i lt = absurd (omega (arith, lt))
drop_at (b ∷ bytes) zero lt = refl
drop_at (b ∷ bytes) (suc i) lt = drop_at bytes i (omega (arith, lt))

abbrev found_part : Option Part → ℕ → Option (Option Part × ℕ)
found_part left behind = Some (left, behind)

abbrev part_at : Part → ℕ → Option (Part × ℕ)
part_at part next = Some (part, next)

part_is : (a b : Part × ℕ) → part_at a.0 a.1 ≡ part_at b.0 b.1 → a ≡ b
part_is a b e = cc

found_is : (a b : Option Part × ℕ) → found_part a.0 a.1 ≡ found_part b.0 b.1 → a ≡ b
found_is a b e = cc

pub record Next (current : Option Part) (layout : List Part) (place : ℕ) (part : Part) (next : ℕ) : Type 0 where
  pub parts : left_before current (drop place layout) ≡ part ∷ drop next layout
  pub within : next ≤ length layout

next_is : (current : Option Part) (layout : List Part) (place : ℕ) (part : Part) (next : ℕ) → place ≤ length layout → next_part current layout place ≡ part_at part next → Next current layout place part next
next_is (Some p) layout place part next within is =
    let both = part_is (p, place) (part, next) is in
    let e : p ≡ part = ap (λ (x : Part × ℕ). x.0) both in
    let f : place ≡ next = ap (λ (x : Part × ℕ). x.1) both in
    record { parts = ap (λ q. q ∷ drop place layout) e ∙ ap (λ k. part ∷ drop k layout) f; within = omega (arith, f, within) }
next_is None layout place part next within is = by (slice_get layout place) refl is where
  by : (o : Option Part) → slice_get layout place ≡ o → option_map {U = Part × ℕ} (λ p. (p, place + 1)) o ≡ part_at part next → Next None layout place part next
  by None at e = absurd cc
  by (Some p) at e =
      let both = part_is (p, place + 1) (part, next) e in
      let same : p ≡ part = ap (λ (x : Part × ℕ). x.0) both in
      let behind : place + 1 ≡ next = ap (λ (x : Part × ℕ). x.1) both in
      let d = drop_some layout place p at in
      let one : suc place ≡ next = omega (arith, behind) in
      record { parts = d.0 ∙ ap (λ q. q ∷ drop (suc place) layout) same ∙ ap (λ k. part ∷ drop k layout) one; within = omega (arith, d.1, one) }

none_next : (current : Option Part) (layout : List Part) (place : ℕ) → next_part current layout place ≡ None → left_before current (drop place layout) ≡ []
none_next (Some p) layout place none = absurd cc
none_next None layout place none = by (slice_get layout place) refl none where
  by : (o : Option Part) → slice_get layout place ≡ o → option_map {U = Part × ℕ} (λ p. (p, place + 1)) o ≡ None → drop place layout ≡ []
  by None at e = drop_none layout place at
  by (Some p) at e = absurd cc

module _ (missing : ℕ) (layout : List Part) (bytes : List ℕ) (current : Option Part) (place i : ℕ) (w : Walks missing layout bytes current place (drop i bytes)) (lt : i < length bytes) where
  b : ℕ
  b = get_or bytes i 0

  here : drop i bytes ≡ get_or bytes i 0 ∷ drop (suc i) bytes
  here = drop_at bytes i lt

  pub no_part : next_part current layout place ≡ None → false ≡ is_front missing layout bytes
  no_part none =
      ap (λ (l : List ℕ). is_front missing [] l) (sym here) ∙ ap (λ (ps : List Part). is_front missing ps (drop i bytes)) (sym (none_next current layout place none)) ∙ w.same

  stepped : (part : Part) (next : ℕ) (found : Option (Option Part)) → next_part current layout place ≡ part_at part next → part_step part (get_or bytes i 0) ≡ found →
      layout_goes_on (λ further. is_front missing further (drop (suc i) bytes)) (drop next layout) found ≡ is_front missing layout bytes
  stepped part next found at is =
      let n = next_is current layout place part next w.within at in
      ap (layout_goes_on (λ further. is_front missing further (drop (suc i) bytes)) (drop next layout)) (sym is)
      ∙ ap (λ (l : List ℕ). is_front missing (part ∷ drop next layout) l) (sym here)
      ∙ ap (λ (ps : List Part). is_front missing ps (drop i bytes)) (sym n.parts)
      ∙ w.same

  pub no_step : (part : Part) (next : ℕ) → next_part current layout place ≡ part_at part next → part_step part (get_or bytes i 0) ≡ None → false ≡ is_front missing layout bytes
  no_step part next at none = stepped part next None at none

  pub walks_on : (part : Part) (next : ℕ) (left : Option Part) → next_part current layout place ≡ part_at part next → part_step part (get_or bytes i 0) ≡ Some left → Walks missing layout bytes left next (drop (i + 1) bytes)
  walks_on part next left at is =
      let n = next_is current layout place part next w.within at in
      let one : i + 1 ≡ suc i = omega arith in
      record {
        within = n.within;
        same =
            ap (λ k. is_front missing (left_before left (drop next layout)) (drop k bytes)) one
            ∙ sym (goes_before (λ further. is_front missing further (drop (suc i) bytes)) (drop next layout) left)
            ∙ stepped part next (Some left) at is;
      }

  pub stops : None ≡ advanced current layout place (get_or bytes i 0) → false ≡ is_front missing layout bytes
  stops none = by (next_part current layout place) refl none where
    with_step : (part : Part) (next : ℕ) (found : Option (Option Part)) → next_part current layout place ≡ part_at part next → part_step part (get_or bytes i 0) ≡ found → None ≡ option_map {U = Option Part × ℕ} (λ left. (left, next)) found → false ≡ is_front missing layout bytes
    with_step part next None at is none = no_step part next at is
    with_step part next (Some left) at is none = absurd cc

    by : (o : Option (Part × ℕ)) → next_part current layout place ≡ o → None ≡ option_and_then (λ (next : Part × ℕ). option_map {U = Option Part × ℕ} (λ left. (left, next.1)) (part_step next.0 (get_or bytes i 0))) o → false ≡ is_front missing layout bytes
    by None at none = no_part at
    by (Some x) at none = with_step x.0 x.1 (part_step x.0 (get_or bytes i 0)) at refl none

  pub goes_further : (left : Option Part) (behind : ℕ) → found_part left behind ≡ advanced current layout place (get_or bytes i 0) → Walks missing layout bytes left behind (drop (i + 1) bytes)
  goes_further left behind is = by (next_part current layout place) refl is where
    with_step : (part : Part) (next : ℕ) (found : Option (Option Part)) → next_part current layout place ≡ part_at part next → part_step part (get_or bytes i 0) ≡ found → found_part left behind ≡ option_map {U = Option Part × ℕ} (λ left. (left, next)) found → Walks missing layout bytes left behind (drop (i + 1) bytes)
    with_step part next None at is e = absurd cc
    with_step part next (Some l) at is e =
        let both = found_is (left, behind) (l, next) e in
        let same : l ≡ left = ap (λ (x : Option Part × ℕ). x.0) (sym both) in
        let place_same : next ≡ behind = ap (λ (x : Option Part × ℕ). x.1) (sym both) in
        walks_on part behind left (at ∙ ap (λ k. part_at part k) place_same) (is ∙ ap (λ (x : Option Part). Some x) same)

    by : (o : Option (Part × ℕ)) → next_part current layout place ≡ o → found_part left behind ≡ option_and_then (λ (next : Part × ℕ). option_map {U = Option Part × ℕ} (λ left. (left, next.1)) (part_step next.0 (get_or bytes i 0))) o → Walks missing layout bytes left behind (drop (i + 1) bytes)
    by None at e = absurd cc
    by (Some x) at e = with_step x.0 x.1 (part_step x.0 (get_or bytes i 0)) at refl e
