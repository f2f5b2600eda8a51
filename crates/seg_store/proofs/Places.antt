-- The first place of a list whose element passes a test, and what a change of one element leaves.
use Rattle.std.proofs.Common.{◌≡◌, ℕ, ◌+◌, ◌≤◌, ◌<◌, ◌∷◌, [], List, length, zero, suc, refl, sym, ◌∙◌, ap, Bool, true, false, cond, Option, None, Some, arith, get_or, set}
use Rattle.std.specs.List.{prefix_len, slice_get, find}
use Rattle.std.specs.Option.{option_map}
use Rattle.std.proofs.lemmas.Bool.{false≢true}
use Rattle.seg_store.specs.Slots.{place_of, AtMostOne}

-- the front that passes, by its places
pub prefix_is : {A : Type 0} (test : A → Bool) (xs : List A) (p : ℕ) → p ≤ length xs → ((k : ℕ) (d : A) → k < p → test (get_or xs k d) ≡ true)
    → ((d : A) → p < length xs → test (get_or xs p d) ≡ false) → p ≡ prefix_len test xs
prefix_is test [] p within front stop = omega arith
prefix_is test (x ∷ xs) zero within front stop = sym (ap (λ b. cond b (1 + prefix_len test xs) 0) (stop x (omega arith)))
prefix_is test (x ∷ xs) (suc p) within front stop =
    let rec : p ≡ prefix_len test xs = prefix_is test xs p (omega arith) (λ k d h. front (suc k) d (omega arith)) (λ d h. stop d (omega arith)) in
    let more : 1 + prefix_len test xs ≡ suc p = omega arith in
    sym (ap (λ b. cond b (1 + prefix_len test xs) 0) (front zero x (omega arith)) ∙ more)

module _ {A : Type 0} (test : A → Bool) where
  some_suc : (o : Option ℕ) (n : ℕ) → option_map (λ m. suc m) o ≡ Some n → (m : ℕ) × (o ≡ Some m) × (n ≡ suc m)
  some_suc None n e = let clash : None ≡ Some n = e in absurd (cc)
  some_suc (Some m) n e = let same : Some (suc m) ≡ Some n = e in (m, refl, (let parts : suc m ≡ n = cc in sym parts))

  none_suc : (o : Option ℕ) → option_map (λ m. suc m) o ≡ None → o ≡ None
  none_suc None e = refl
  none_suc (Some m) e = let clash : Some (suc m) ≡ None = e in absurd (cc)

  -- the head passes, or the place is among the others
  pub place_head : (x : A) (xs : List A) → test x ≡ true → place_of test (x ∷ xs) ≡ Some 0
  place_head x xs e = ap (λ b. cond b (Some 0) (option_map (λ n. suc n) (place_of test xs))) e

  pub place_tail : (x : A) (xs : List A) → test x ≡ false → place_of test (x ∷ xs) ≡ option_map (λ n. suc n) (place_of test xs)
  place_tail x xs e = ap (λ b. cond b (Some 0) (option_map (λ n. suc n) (place_of test xs))) e

  -- nothing passes
  pub none_head : (x : A) (xs : List A) → place_of test (x ∷ xs) ≡ None → test x ≡ false
  none_head x xs e = by (test x) refl
    where
      by : (b : Bool) → test x ≡ b → test x ≡ false
      by true q = let clash : Some 0 ≡ None = sym (place_head x xs q) ∙ e in absurd (cc)
      by false q = q

  pub none_tail : (x : A) (xs : List A) → place_of test (x ∷ xs) ≡ None → place_of test xs ≡ None
  none_tail x xs e = none_suc (place_of test xs) (sym (place_tail x xs (none_head x xs e)) ∙ e)

  pub none_cons : (x : A) (xs : List A) → test x ≡ false → place_of test xs ≡ None → place_of test (x ∷ xs) ≡ None
  none_cons x xs q e = place_tail x xs q ∙ ap (option_map (λ n. suc n)) e

  -- what is found at a later place isn't the head
  pub later_head : (x : A) (xs : List A) (n : ℕ) → place_of test (x ∷ xs) ≡ Some (suc n) → test x ≡ false
  later_head x xs n e = by (test x) refl
    where
      by : (b : Bool) → test x ≡ b → test x ≡ false
      by true q = let clash : Some 0 ≡ Some (suc n) = sym (place_head x xs q) ∙ e in absurd (cc)
      by false q = q

  pub later_tail : (x : A) (xs : List A) (n : ℕ) → place_of test (x ∷ xs) ≡ Some (suc n) → place_of test xs ≡ Some n
  later_tail x xs n e =
      let found = some_suc (place_of test xs) (suc n) (sym (place_tail x xs (later_head x xs n e)) ∙ e) in
      found.1 ∙ ap Some (let same : suc n ≡ suc found.0 = found.2 in omega arith)

  pub first_head : (x : A) (xs : List A) → place_of test (x ∷ xs) ≡ Some 0 → test x ≡ true
  first_head x xs e = by (test x) refl
    where
      by : (b : Bool) → test x ≡ b → test x ≡ true
      by true q = q
      by false q =
          let found = some_suc (place_of test xs) 0 (sym (place_tail x xs q) ∙ e) in
          let clash : 0 ≡ suc found.0 = found.2 in absurd (omega arith)

  -- the element at the place passes, and lies within
  pub place_passes : (xs : List A) (i : ℕ) → place_of test xs ≡ Some i → (x : A) × (slice_get xs i ≡ Some x) × (test x ≡ true)
  place_passes [] i e = let clash : None ≡ Some i = e in absurd (cc)
  place_passes (x ∷ xs) zero e = (x, refl, first_head x xs e)
  place_passes (x ∷ xs) (suc i) e = place_passes xs i (later_tail x xs i e)

  pub get_within : (xs : List A) (i : ℕ) (x : A) → slice_get xs i ≡ Some x → i < length xs
  get_within [] i x e = let clash : None ≡ Some x = e in absurd (cc)
  get_within (y ∷ xs) zero x e = omega arith
  get_within (y ∷ xs) (suc i) x e = let rec = get_within xs i x e in omega arith

  -- where nothing passes, nothing is found
  pub none_passes : (xs : List A) → place_of test xs ≡ None → (i : ℕ) (x : A) → slice_get xs i ≡ Some x → test x ≡ false
  none_passes [] n i x e = let clash : None ≡ Some x = e in absurd (cc)
  none_passes (y ∷ xs) n zero x e = let same : Some y ≡ Some x = e in let parts : y ≡ x = cc in ap test (sym parts) ∙ none_head y xs n
  none_passes (y ∷ xs) n (suc i) x e = none_passes xs (none_tail y xs n) i x e

  -- the first element that passes is the one at the place
  pub find_none : (xs : List A) → place_of test xs ≡ None → find test xs ≡ None
  find_none [] e = refl
  find_none (x ∷ xs) e = ap (λ b. cond b (Some x) (find test xs)) (none_head x xs e) ∙ find_none xs (none_tail x xs e)

  pub find_at : (xs : List A) (i : ℕ) → place_of test xs ≡ Some i → find test xs ≡ slice_get xs i
  find_at [] i e = let clash : None ≡ Some i = e in absurd (cc)
  find_at (x ∷ xs) zero e = ap (λ b. cond b (Some x) (find test xs)) (first_head x xs e)
  find_at (x ∷ xs) (suc i) e = ap (λ b. cond b (Some x) (find test xs)) (later_head x xs i e) ∙ find_at xs i (later_tail x xs i e)

  -- an element that doesn't pass in place of one that doesn't
  pub set_apart : (xs : List A) (i : ℕ) (old x : A) → slice_get xs i ≡ Some old → test old ≡ false → test x ≡ false
      → (place_of test (set xs i x) ≡ place_of test xs) × (find test (set xs i x) ≡ find test xs)
  set_apart [] i old x g a b = (refl, refl)
  set_apart (y ∷ xs) zero old x g a b =
      let same : Some y ≡ Some old = g in
      let parts : y ≡ old = cc in
      let q : test y ≡ false = ap test parts ∙ a in (
        place_tail x xs b ∙ sym (place_tail y xs q),
        ap (λ c. cond c (Some x) (find test xs)) b ∙ sym (ap (λ c. cond c (Some y) (find test xs)) q),
      )
  set_apart (y ∷ xs) (suc i) old x g a b =
      let rec = set_apart xs i old x g a b in (
        ap (λ o. cond (test y) (Some 0) (option_map (λ n. suc n) o)) rec.0,
        ap (λ o. cond (test y) (Some y) o) rec.1,
      )

  -- one that passes, where no other does
  pub set_new : (xs : List A) (i : ℕ) (x : A) → i < length xs → place_of test xs ≡ None → test x ≡ true
      → (place_of test (set xs i x) ≡ Some i) × (find test (set xs i x) ≡ Some x)
  set_new [] i x h n q = absurd (omega arith)
  set_new (y ∷ xs) zero x h n q = (place_head x xs q, ap (λ c. cond c (Some x) (find test xs)) q)
  set_new (y ∷ xs) (suc i) x h n q =
      let rec = set_new xs i x (omega arith) (none_tail y xs n) q in (
        place_tail y (set xs i x) (none_head y xs n) ∙ ap (option_map (λ m. suc m)) rec.0,
        ap (λ c. cond c (Some y) (find test (set xs i x))) (none_head y xs n) ∙ rec.1,
      )

  -- one that passes, in place of the first that did
  pub set_same : (xs : List A) (i : ℕ) (x : A) → place_of test xs ≡ Some i → test x ≡ true
      → (place_of test (set xs i x) ≡ Some i) × (find test (set xs i x) ≡ Some x)
  set_same [] i x e q = let clash : None ≡ Some i = e in absurd (cc)
  set_same (y ∷ xs) zero x e q = (place_head x xs q, ap (λ c. cond c (Some x) (find test xs)) q)
  set_same (y ∷ xs) (suc i) x e q =
      let rec = set_same xs i x (later_tail y xs i e) q in (
        place_tail y (set xs i x) (later_head y xs i e) ∙ ap (option_map (λ m. suc m)) rec.0,
        ap (λ c. cond c (Some y) (find test (set xs i x))) (later_head y xs i e) ∙ rec.1,
      )

  -- one that doesn't pass, in place of the only one that did
  pub set_gone : (xs : List A) (i : ℕ) (x : A) → AtMostOne test xs → place_of test xs ≡ Some i → test x ≡ false
      → (place_of test (set xs i x) ≡ None) × (find test (set xs i x) ≡ None)
  set_gone [] i x one e q = let clash : None ≡ Some i = e in absurd (cc)
  set_gone (y ∷ xs) zero x one e q =
      let others : place_of test xs ≡ None = one.0 (first_head y xs e) in (
        none_cons x xs q others,
        ap (λ c. cond c (Some x) (find test xs)) q ∙ find_none xs others,
      )
  set_gone (y ∷ xs) (suc i) x one e q =
      let rec = set_gone xs i x one.1 (later_tail y xs i e) q in (
        none_cons y (set xs i x) (later_head y xs i e) rec.0,
        ap (λ c. cond c (Some y) (find test (set xs i x))) (later_head y xs i e) ∙ rec.1,
      )

  none_stays : (xs : List A) (i : ℕ) (x : A) → place_of test xs ≡ None → test x ≡ false → place_of test (set xs i x) ≡ None
  none_stays [] i x e q = refl
  none_stays (y ∷ xs) zero x e q = none_cons x xs q (none_tail y xs e)
  none_stays (y ∷ xs) (suc i) x e q = none_cons y (set xs i x) (none_head y xs e) (none_stays xs i x (none_tail y xs e) q)

  -- at most one passes after each of these
  pub one_apart : (xs : List A) (i : ℕ) (x : A) → AtMostOne test xs → test x ≡ false → AtMostOne test (set xs i x)
  one_apart [] i x one q = tt
  one_apart (y ∷ xs) zero x one q = (λ e. absurd (false≢true (sym q ∙ e)), one.1)
  one_apart (y ∷ xs) (suc i) x one q = (λ e. none_stays xs i x (one.0 e) q, one_apart xs i x one.1 q)

  pub one_new : (xs : List A) (i : ℕ) (x : A) → AtMostOne test xs → place_of test xs ≡ None → AtMostOne test (set xs i x)
  one_new [] i x one n = tt
  one_new (y ∷ xs) zero x one n = (λ e. none_tail y xs n, one.1)
  one_new (y ∷ xs) (suc i) x one n = (λ e. absurd (false≢true (sym (none_head y xs n) ∙ e)), one_new xs i x one.1 (none_tail y xs n))

  pub one_same : (xs : List A) (i : ℕ) (x : A) → AtMostOne test xs → place_of test xs ≡ Some i → AtMostOne test (set xs i x)
  one_same [] i x one p = tt
  one_same (y ∷ xs) zero x one p = (λ e. one.0 (first_head y xs p), one.1)
  one_same (y ∷ xs) (suc i) x one p = (λ e. absurd (false≢true (sym (later_head y xs i p) ∙ e)), one_same xs i x one.1 (later_tail y xs i p))
