-- What is sealed is opened again, and nothing else.
use Rattle.std.proofs.Common.{◌≡◌, ◌⊎◌, ℕ, ◌+◌, ◌-◌, ◌<◌, ◌≤◌, Bool, true, false, ◌&&◌, List, [], ◌∷◌, ◌++◌, length, get_or, take, drop, refl, sym, ◌∙◌, ap, subst, inl, inr, ⊎_elim, arith, append_assoc, Some, None}
use Rattle.std.specs.Int.{w16, w64, to_be_bytes, from_be_bytes}
use Rattle.std.specs.Str.{bytes_eq}
use Rattle.std.specs.Prelude.{nat_lt, nat_le, if◌then◌else◌}
use Rattle.std.proofs.lemmas.Bool.{lt-ltb, le-leb, ltb-true, leb-true, true≢false}
use Rattle.std.proofs.lemmas.Nat.{from_be_bytes-to_be_bytes_2}
use Rattle.std.proofs.lemmas.List.{get_or-replicate, replicate_more, replicate-append-replicate, length-append, take_at, drop_at, length-drop, length-take, take-append-drop, drop-drop}
use Rattle.std.proofs.lemmas.Slice.Eq.{bytes_eq-Decides}
use Rattle.tm_disk.specs.Sector.{zeros, blank}
use Rattle.log_sectors.specs.SealedSector.{header, sealed, HasZerosBehind, used_of, log_payload_of, opened_payload, HoldsPayload}
use Rattle.tm_disk.proofs.Zeros.{length-zeros, drop-zeros, blank_is, take-zeros}

pub length-header : (epoch sequence used : ℕ) → length (header epoch sequence used) ≡ 32
unfolding header
length-header epoch sequence used = refl

zeros_joined : (m n : ℕ) → zeros m ++ zeros n ≡ zeros (m + n)
unfolding zeros
zeros_joined m n = replicate-append-replicate m n 0

-- a header, a payload and zeros where others stood make a sealed sector
pub reseals : (epoch sequence held end : ℕ) (payload old front body : List ℕ) → length payload ≤ end → held ≤ end → end ≤ 4064 → HasZerosBehind held old → front ≡ take 0 old ++ header epoch sequence (length payload) ++ drop (0 + length (header epoch sequence (length payload))) old → body ≡ take 32 front ++ payload ++ drop (32 + length payload) front → take (32 + length payload) body ++ zeros (32 + end - (32 + length payload)) ++ drop (32 + end) body ≡ sealed epoch sequence payload
unfolding sealed
reseals epoch sequence held end payload old front body most before_end fits behind is body_is =
    let h = header epoch sequence (length payload) in
    let n = length payload in
    let k = 32 + end - (32 + n) in
    let size : 0 + length h ≡ 32 = omega (arith, length-header epoch sequence n) in
    let made : front ≡ h ++ drop 32 old = is ∙ ap (λ j. h ++ drop j old) size in
    let first : take 32 front ≡ h = ap (λ (l : List ℕ). take 32 l) made ∙ take_at h (drop 32 old) 32 (length-header epoch sequence n) in
    let rest : drop 32 front ≡ drop 32 old = ap (λ (l : List ℕ). drop 32 l) made ∙ drop_at h (drop 32 old) 32 (length-header epoch sequence n) in
    let whole : body ≡ (h ++ payload) ++ drop n (drop 32 old) =
    body_is ∙ ap (λ (l : List ℕ). l ++ payload ++ drop (32 + n) front) first ∙ ap (λ (l : List ℕ). h ++ payload ++ l) (sym (drop-drop n 32 front) ∙ ap (λ (l : List ℕ). drop n l) rest) in
    let long : length (h ++ payload) ≡ 32 + n = omega (arith, length-append h payload, length-header epoch sequence n) in
    let start : take (32 + n) body ≡ h ++ payload = ap (λ (l : List ℕ). take (32 + n) l) whole ∙ take_at (h ++ payload) (drop n (drop 32 old)) (32 + n) long in
    let after : drop (32 + n) body ≡ drop n (drop 32 old) = ap (λ (l : List ℕ). drop (32 + n) l) whole ∙ drop_at (h ++ payload) (drop n (drop 32 old)) (32 + n) long in
    let up : 32 + n + (end - n) ≡ 32 + end = omega (arith, most) in
    let same : n + (end - n) ≡ held + (end - held) = omega (arith, most, before_end) in
    let left : 4064 - held - (end - held) ≡ 4064 - end = omega (arith, before_end, fits) in
    let both : k + (4064 - end) ≡ 4064 - n = omega (arith, most, fits) in
    let last : drop (32 + end) body ≡ zeros (4064 - end) =
    ap (λ j. drop j body) (sym up) ∙ sym (drop-drop (end - n) (32 + n) body) ∙ ap (λ (l : List ℕ). drop (end - n) l) after
    ∙ drop-drop (end - n) n (drop 32 old) ∙ ap (λ j. drop j (drop 32 old)) same ∙ sym (drop-drop (end - held) held (drop 32 old))
    ∙ ap (λ (l : List ℕ). drop (end - held) l) (drop-drop held 32 old ∙ behind) ∙ drop-zeros (end - held) (4064 - held) ∙ ap zeros left in
    ap (λ (l : List ℕ). l ++ zeros k ++ drop (32 + end) body) start
    ∙ ap (λ (l : List ℕ). h ++ payload ++ zeros k ++ l) last
    ∙ append_assoc (h ++ payload) (zeros k) (zeros (4064 - end))
    ∙ ap (λ (l : List ℕ). h ++ payload ++ l) (zeros_joined k (4064 - end) ∙ ap zeros both)

pub blank-behind : HasZerosBehind 0 blank
blank-behind = ap (λ (l : List ℕ). drop 32 l) blank_is ∙ drop-zeros 32 4096

-- the bytes of a header, from the bytes of its numbers
pub header_is : (e s u : List ℕ) (epoch sequence used : ℕ) → e ≡ to_be_bytes w64 epoch → s ≡ to_be_bytes w64 sequence → u ≡ to_be_bytes w16 used → 73 ∷ 77 ∷ 83 ∷ 76 ∷ 0 ∷ 0 ∷ 0 ∷ 0 ∷ get_or e 0 0 ∷ get_or e 1 0 ∷ get_or e 2 0 ∷ get_or e 3 0 ∷ get_or e 4 0 ∷ get_or e 5 0 ∷ get_or e 6 0 ∷ get_or e 7 0 ∷ get_or s 0 0 ∷ get_or s 1 0 ∷ get_or s 2 0 ∷ get_or s 3 0 ∷ get_or s 4 0 ∷ get_or s 5 0 ∷ get_or s 6 0 ∷ get_or s 7 0 ∷ get_or u 0 0 ∷ get_or u 1 0 ∷ 0 ∷ 0 ∷ 0 ∷ 0 ∷ 0 ∷ 0 ∷ [] ≡ header epoch sequence used
unfolding header
header_is e s u epoch sequence used is_e is_s is_u =
    let F : List ℕ → List ℕ → List ℕ → List ℕ = λ e s u. 73 ∷ 77 ∷ 83 ∷ 76 ∷ 0 ∷ 0 ∷ 0 ∷ 0 ∷ get_or e 0 0 ∷ get_or e 1 0 ∷ get_or e 2 0 ∷ get_or e 3 0 ∷ get_or e 4 0 ∷ get_or e 5 0 ∷ get_or e 6 0 ∷ get_or e 7 0 ∷ get_or s 0 0 ∷ get_or s 1 0 ∷ get_or s 2 0 ∷ get_or s 3 0 ∷ get_or s 4 0 ∷ get_or s 5 0 ∷ get_or s 6 0 ∷ get_or s 7 0 ∷ get_or u 0 0 ∷ get_or u 1 0 ∷ 0 ∷ 0 ∷ 0 ∷ 0 ∷ 0 ∷ 0 ∷ [] in
    ap (λ (x : List ℕ). F x s u) is_e ∙ ap (λ (x : List ℕ). F (to_be_bytes w64 epoch) x u) is_s ∙ ap (λ (x : List ℕ). F (to_be_bytes w64 epoch) (to_be_bytes w64 sequence) x) is_u

-- how many bytes a sealed sector says it holds

pub used_of-sealed : (epoch sequence : ℕ) (payload : List ℕ) → length payload ≤ 4064 → used_of (sealed epoch sequence payload) ≡ length payload
unfolding sealed header
used_of-sealed epoch sequence payload fits = from_be_bytes-to_be_bytes_2 (length payload) (omega (arith, fits))

rest_of-sealed : (epoch sequence : ℕ) (payload : List ℕ) → drop 32 (sealed epoch sequence payload) ≡ payload ++ zeros (4064 - length payload)
unfolding sealed header
rest_of-sealed epoch sequence payload = refl

pub sealed-behind : (epoch sequence : ℕ) (payload : List ℕ) → HasZerosBehind (length payload) (sealed epoch sequence payload)
sealed-behind epoch sequence payload =
    sym (drop-drop (length payload) 32 (sealed epoch sequence payload))
    ∙ ap (λ (l : List ℕ). drop (length payload) l) (rest_of-sealed epoch sequence payload)
    ∙ drop_at payload (zeros (4064 - length payload)) (length payload) refl

front_of-sealed : (epoch sequence : ℕ) (payload : List ℕ) → take 32 (sealed epoch sequence payload) ≡ header epoch sequence (length payload)
unfolding sealed header
front_of-sealed epoch sequence payload = refl

pub payload_of-sealed : (epoch sequence : ℕ) (payload : List ℕ) → length payload ≤ 4064 → log_payload_of (sealed epoch sequence payload) ≡ payload
unfolding log_payload_of
payload_of-sealed epoch sequence payload fits =
    ap (λ k. take k (drop 32 (sealed epoch sequence payload))) (used_of-sealed epoch sequence payload fits)
    ∙ ap (λ (l : List ℕ). take (length payload) l) (rest_of-sealed epoch sequence payload)
    ∙ take_at payload (zeros (4064 - length payload)) (length payload) refl

chosen : (a b c : Bool) (p : List ℕ) → a ≡ true → b ≡ true → c ≡ true → (if a && b && c then Some p else None) ≡ Some p
chosen true true true p x y z = refl
chosen true true false p x y z = cc
chosen true false c p x y z = cc
chosen false b c p x y z = cc

choice : (a b c : Bool) (p : List ℕ) → ((if a && b && c then Some p else None) ≡ None) ⊎ ((a ≡ true) × (b ≡ true) × (c ≡ true))
choice true true true p = inr (refl, refl, refl)
choice true true false p = inl refl
choice true false c p = inl refl
choice false b c p = inl refl

-- a sector that holds its payload is opened
pub opened-holds : (epoch sequence : ℕ) (sector : List ℕ) → HoldsPayload epoch sequence (log_payload_of sector) sector → opened_payload epoch sequence sector ≡ Some (log_payload_of sector)
unfolding opened_payload
opened-holds epoch sequence sector holds =
    chosen (nat_lt 0 (length (log_payload_of sector))) (nat_le (length (log_payload_of sector)) 4064) (bytes_eq sector (sealed epoch sequence (log_payload_of sector))) (log_payload_of sector)
    (lt-ltb 0 (length (log_payload_of sector)) holds.some) (le-leb (length (log_payload_of sector)) 4064 holds.fits) ((bytes_eq-Decides sector (sealed epoch sequence (log_payload_of sector))).1 holds.spelled)

-- and no other
pub opened_cases : (epoch sequence : ℕ) (sector : List ℕ) → (opened_payload epoch sequence sector ≡ None) ⊎ HoldsPayload epoch sequence (log_payload_of sector) sector
unfolding opened_payload
opened_cases epoch sequence sector =
    ⊎_elim (λ none. inl none)
    (λ w. inr (record {
      some = ltb-true 0 (length (log_payload_of sector)) w.0;
      fits = leb-true (length (log_payload_of sector)) 4064 w.1;
      spelled = (bytes_eq-Decides sector (sealed epoch sequence (log_payload_of sector))).0 w.2;
    }))
    (choice (nat_lt 0 (length (log_payload_of sector))) (nat_le (length (log_payload_of sector)) 4064) (bytes_eq sector (sealed epoch sequence (log_payload_of sector))) (log_payload_of sector))

pub opened-sealed : (epoch sequence : ℕ) (payload : List ℕ) → 0 < length payload → length payload ≤ 4064 → opened_payload epoch sequence (sealed epoch sequence payload) ≡ Some payload
opened-sealed epoch sequence payload some fits =
    let same = payload_of-sealed epoch sequence payload fits in
    opened-holds epoch sequence (sealed epoch sequence payload) (record {
      some = subst (λ (l : List ℕ). 0 < length l) (sym same) some;
      fits = subst (λ (l : List ℕ). length l ≤ 4064) (sym same) fits;
      spelled = ap (λ (l : List ℕ). sealed epoch sequence l) (sym same);
    }) ∙ ap (λ (l : List ℕ). Some l) same

-- what a sector that holds its payload is made of
pub record Parts (epoch sequence : ℕ) (sector : List ℕ) : Type 0 where
  pub some : 0 < used_of sector
  pub fits : used_of sector ≤ 4064
  pub front : take 32 sector ≡ header epoch sequence (used_of sector)
  pub end : drop (used_of sector) (drop 32 sector) ≡ zeros (length (drop (used_of sector) (drop 32 sector)))

pub parts-holds : (epoch sequence : ℕ) (sector : List ℕ) → HoldsPayload epoch sequence (log_payload_of sector) sector → Parts epoch sequence sector
parts-holds epoch sequence sector holds =
    let p = log_payload_of sector in
    let used : used_of sector ≡ length p = ap used_of holds.spelled ∙ used_of-sealed epoch sequence p holds.fits in
    let end : drop (used_of sector) (drop 32 sector) ≡ zeros (4064 - length p) =
    ap (λ k. drop k (drop 32 sector)) used ∙ ap (λ (l : List ℕ). drop (length p) (drop 32 l)) holds.spelled ∙ ap (λ (l : List ℕ). drop (length p) l) (rest_of-sealed epoch sequence p) ∙ drop_at p (zeros (4064 - length p)) (length p) refl in
    record {
      some = omega (arith, holds.some, used);
      fits = omega (arith, holds.fits, used);
      front = ap (λ (l : List ℕ). take 32 l) holds.spelled ∙ front_of-sealed epoch sequence p ∙ ap (λ k. header epoch sequence k) (sym used);
      end = end ∙ ap zeros (sym (ap (length {A = ℕ}) end ∙ length-zeros (4064 - length p)));
    }

pub holds-parts : (epoch sequence : ℕ) (sector : List ℕ) → length sector ≡ 4096 → Parts epoch sequence sector → HoldsPayload epoch sequence (log_payload_of sector) sector
unfolding log_payload_of sealed
holds-parts epoch sequence sector size parts =
    let u = used_of sector in
    let rest : length (drop 32 sector) ≡ 4064 = omega (arith, length-drop 32 sector) in
    let count : length (take u (drop 32 sector)) ≡ u = omega (arith, length-take u (drop 32 sector), parts.fits) in
    let tail : length (drop u (drop 32 sector)) ≡ 4064 - u = omega (arith, length-drop u (drop 32 sector)) in
    record {
      some = omega (arith, parts.some, count);
      fits = omega (arith, parts.fits, count);
      spelled =
          sym (take-append-drop 32 sector)
          ∙ ap (λ (l : List ℕ). take 32 sector ++ l) (sym (take-append-drop u (drop 32 sector)))
          ∙ sym (append_assoc (take 32 sector) (take u (drop 32 sector)) (drop u (drop 32 sector)))
          ∙ ap (λ (l : List ℕ). l ++ take u (drop 32 sector) ++ drop u (drop 32 sector)) (parts.front ∙ ap (λ k. header epoch sequence k) (sym count))
          ∙ ap (λ (l : List ℕ). header epoch sequence (length (take u (drop 32 sector))) ++ take u (drop 32 sector) ++ l) (parts.end ∙ ap zeros (tail ∙ ap (λ k. 4064 - k) (sym count)));
    }

pub opened-parts : (epoch sequence : ℕ) (sector : List ℕ) → length sector ≡ 4096 → Parts epoch sequence sector → opened_payload epoch sequence sector ≡ Some (log_payload_of sector)
opened-parts epoch sequence sector size parts = opened-holds epoch sequence sector (holds-parts epoch sequence sector size parts)

pub opened-other : (epoch sequence : ℕ) (sector : List ℕ) → (Parts epoch sequence sector → ⊥) → opened_payload epoch sequence sector ≡ None
opened-other epoch sequence sector other = ⊎_elim (λ none. none) (λ holds. absurd (other (parts-holds epoch sequence sector holds))) (opened_cases epoch sequence sector)

pub payload_of_is : (sector : List ℕ) → log_payload_of sector ≡ take (used_of sector) (drop 32 sector)
unfolding log_payload_of
payload_of_is sector = refl

-- zeros one by one

pub zeros_none : zeros 0 ≡ []
unfolding zeros
zeros_none = refl

pub zeros_more : (n : ℕ) → zeros n ++ 0 ∷ [] ≡ zeros (n + 1)
unfolding zeros
zeros_more n = replicate_more n 0

pub get_or-zeros : (n i : ℕ) → i < n → get_or (zeros n) i 0 ≡ 0
unfolding zeros
get_or-zeros n i lt = get_or-replicate n i 0 0 lt

-- a sector cut into its parts, as it is read

pub record Cuts (epoch sequence : ℕ) (sector : List ℕ) (used : ℕ) (front payload end expected : List ℕ) : Type 0 where
  pub used_is : used ≡ used_of sector
  pub front_is : front ≡ take 32 sector
  pub payload_is : payload ≡ take used (drop 32 sector)
  pub end_is : end ≡ drop used (drop 32 sector)
  pub expected_is : expected ≡ header epoch sequence used

module _ (epoch sequence : ℕ) (sector : List ℕ) (used : ℕ) (front payload end expected : List ℕ) (cuts : Cuts epoch sequence sector used front payload end expected) where
  end_at : drop (used_of sector) (drop 32 sector) ≡ end
  end_at = ap (λ k. drop k (drop 32 sector)) (sym cuts.used_is) ∙ sym cuts.end_is

  front_at : header epoch sequence (used_of sector) ≡ expected
  front_at = ap (λ k. header epoch sequence k) (sym cuts.used_is) ∙ sym cuts.expected_is

  pub cuts-opened : length sector ≡ 4096 → 0 < used → used ≤ 4064 → front ≡ expected → end ≡ zeros (length end) → opened_payload epoch sequence sector ≡ Some payload
  cuts-opened size some fits same zero_end =
      opened-parts epoch sequence sector size (record {
        some = omega (arith, cuts.used_is);
        fits = omega (arith, cuts.used_is);
        front = sym cuts.front_is ∙ same ∙ sym front_at;
        end = end_at ∙ zero_end ∙ ap (λ (l : List ℕ). zeros (length l)) (sym end_at);
      })
      ∙ ap (λ (l : List ℕ). Some l) (payload_of_is sector ∙ ap (λ k. take k (drop 32 sector)) (sym cuts.used_is) ∙ sym cuts.payload_is)

  pub cuts-front : (front ≡ expected → ⊥) → opened_payload epoch sequence sector ≡ None
  cuts-front other = opened-other epoch sequence sector (λ (parts : Parts epoch sequence sector). other (cuts.front_is ∙ parts.front ∙ front_at))

  pub cuts-end : (end ≡ zeros (length end) → ⊥) → opened_payload epoch sequence sector ≡ None
  cuts-end other = opened-other epoch sequence sector (λ (parts : Parts epoch sequence sector). other (sym end_at ∙ parts.end ∙ ap (λ (l : List ℕ). zeros (length l)) end_at))

pub not_used : (epoch sequence : ℕ) (sector : List ℕ) (used : ℕ) → used ≡ used_of sector → (0 < used → used ≤ 4064 → ⊥) → opened_payload epoch sequence sector ≡ None
not_used epoch sequence sector used is other = opened-other epoch sequence sector (λ (parts : Parts epoch sequence sector). other (omega (arith, parts.some, is)) (omega (arith, parts.fits, is)))

-- two lists that a test tells apart, or not
pub told_same : (xs ys : List ℕ) → true ≡ bytes_eq xs ys → xs ≡ ys
told_same xs ys e = (bytes_eq-Decides xs ys).0 (sym e)

pub told_apart : (xs ys : List ℕ) → false ≡ bytes_eq xs ys → xs ≡ ys → ⊥
told_apart xs ys e same = true≢false (sym ((bytes_eq-Decides xs ys).1 same) ∙ sym e)

-- a sector of zeros is no log sector

used_of-zeros : from_be_bytes w16 (zeros 2) ≡ 0
unfolding zeros
used_of-zeros = refl

used_of-blank : used_of blank ≡ 0
used_of-blank =
    let two : take 2 (drop 24 blank) ≡ zeros 2 = ap (λ (l : List ℕ). take 2 (drop 24 l)) blank_is ∙ ap (λ (l : List ℕ). take 2 l) (drop-zeros 24 4096) ∙ take-zeros 2 4072 (omega arith) in
    ap (λ (l : List ℕ). from_be_bytes w16 l) two ∙ used_of-zeros

pub opened-blank : (epoch sequence : ℕ) → opened_payload epoch sequence blank ≡ None
opened-blank epoch sequence = not_used epoch sequence blank 0 (sym used_of-blank) (λ some fits. omega (arith, some))

pub opened-nothing : (epoch sequence : ℕ) → opened_payload epoch sequence [] ≡ None
opened-nothing epoch sequence = not_used epoch sequence [] 0 refl (λ some fits. omega (arith, some))
