-- Entries in the order of their keys: where a key stands, and what an insertion and a removal leave.
use Rattle.std.proofs.Common.{◌≡◌, ℕ, ◌+◌, ◌≤◌, ◌<◌, ◌∷◌, [], List, length, refl, sym, ◌∙◌, ap, subst, Bool, true, false, cond, Option, None, Some, arith, suc, get_or, ⊎_elim}
use Rattle.std.specs.List.{AllByRecursion, prefix_len, insert, remove, slice_get, find}
use Rattle.std.specs.List.Sorted.{IsStrictlySortedBy}
use Rattle.std.specs.Ordering.{is_lt, is_eq, match_ordering}
use Rattle.std.specs.declared.cmp.Ordering.{Ordering}
use Rattle.std.specs.declared.cmp.Ordering.TheVariants.{Less, Equal, Greater}
use Rattle.std.specs.BTreeMap.{insert_entry, is_at}
use Rattle.std.specs.Map.{keys_of, lookup, remove_entry}
use Rattle.std.proofs.lemmas.Map.Lookups.{exact_bytes}
use Rattle.std.proofs.lemmas.Map.Keys.{Less-from_sorted}
use Rattle.std.proofs.lemmas.Cmp.{tied_itself}
use Rattle.std.proofs.lemmas.Bool.{false≢true}
use Rattle.std.specs.Option.{option_map}
use Rattle.model_data.specs.declared.row.Row.{Row}
use Rattle.model_data.specs.Path.{key_cmp}
use Rattle.model_data.specs.Rows.{roots, next_root}
use Rattle.seg_store.specs.Store.{next_entry}
use Rattle.model_data.proofs.Order.{key_total, turned_less, turned_greater}
use Rattle.model_data.proofs.Lists.{all_then}
use Rattle.model_data.proofs.Records.{is_eq-true}
use Rattle.std.proofs.lemmas.List.{get_or-map, length-map, get_or_default}
use Rattle.std.proofs.lemmas.Bool.{cases_lt}
use Rattle.std.proofs.lemmas.Option.{slice_get_within}
use Rattle.model_data.proofs.Entries.{other_keys, keys_above, keys_above_equal}
use Rattle.model_data.proofs.Reading.{is_lt-true}

-- how many entries have lower keys
abbrev pub place_in : {X : Type 0} → List ℕ → List (List ℕ × X) → ℕ
place_in key es = prefix_len (λ e. is_lt (key_cmp e.0 key)) es

turned_equal : (a b : List ℕ) → key_cmp a b ≡ Equal → key_cmp b a ≡ Equal
turned_equal a b e = ap (λ k. key_cmp b k) (exact_bytes a b e) ∙ tied_itself key_total b

module _ {X : Type 0} where
  place_here : (key : List ℕ) (e : List ℕ × X) (es : List (List ℕ × X)) (o : Ordering) → key_cmp e.0 key ≡ o → place_in key (e ∷ es) ≡ cond (is_lt o) (suc (place_in key es)) 0
  place_here key e es o q =
      let more : 1 + place_in key es ≡ suc (place_in key es) = omega arith in
      ap (λ n. cond (is_lt (key_cmp e.0 key)) n 0) more ∙ ap (λ p. cond (is_lt p) (suc (place_in key es)) 0) q

  -- a new key goes in at its place
  pub insert_at : (key : List ℕ) (x : X) (es : List (List ℕ × X)) → lookup (is_at (key_cmp key)) es ≡ None
      → insert es (place_in key es) (key, x) ≡ insert_entry key_cmp es key x
  insert_at key x [] none = refl
  insert_at key x (e ∷ es) none = by (key_cmp key e.0) refl (insert_at key x es)
    where
      goes : Ordering → List (List ℕ × X)
      goes o = match_ordering o ((key, x) ∷ e ∷ es) ((e.0, x) ∷ es) (e ∷ insert_entry key_cmp es key x)

      by : (o : Ordering) → key_cmp key e.0 ≡ o → (lookup (is_at (key_cmp key)) es ≡ None → insert es (place_in key es) (key, x) ≡ insert_entry key_cmp es key x)
          → insert (e ∷ es) (place_in key (e ∷ es)) (key, x) ≡ goes (key_cmp key e.0)
      by Less q rec = ap (λ p. insert (e ∷ es) p (key, x)) (place_here key e es Greater (turned_less key_total key e.0 q)) ∙ sym (ap goes q)
      by Equal q rec =
          let clash : Some e.1 ≡ None = sym (ap (λ o. cond (is_eq o) (Some e.1) (lookup (is_at (key_cmp key)) es)) q) ∙ none in absurd (cc)
      by Greater q rec =
          ap (λ p. insert (e ∷ es) p (key, x)) (place_here key e es Less (turned_greater key_total key e.0 q))
          ∙ (ap (λ fs. e ∷ fs) (rec (sym (ap (λ o. cond (is_eq o) (Some e.1) (lookup (is_at (key_cmp key)) es)) q) ∙ none)) ∙ sym (ap goes q))

  -- the key of a later entry isn't this one
  lookup_above : (key : List ℕ) (es : List (List ℕ × X)) → AllByRecursion (λ f. key_cmp key f.0 ≡ Less) es → lookup (is_at (key_cmp key)) es ≡ None
  lookup_above key [] h = refl
  lookup_above key (e ∷ es) h = ap (λ o. cond (is_eq o) (Some e.1) (lookup (is_at (key_cmp key)) es)) h.0 ∙ lookup_above key es h.1

  -- what stands at the place of a key, and whether it is the key's
  abbrev pub found_at : List ℕ → Option (List ℕ × X) → Option X
  found_at key None = None
  found_at key (Some e) = cond (is_eq (key_cmp e.0 key)) (Some e.1) None

  pub lookup_at : (key : List ℕ) (es : List (List ℕ × X)) → IsStrictlySortedBy key_cmp (keys_of es) → lookup (is_at (key_cmp key)) es ≡ found_at key (slice_get es (place_in key es))
  lookup_at key [] s = refl
  lookup_at key (e ∷ es) s = by (key_cmp key e.0) refl (lookup_at key es (other_keys e es s))
    where
      here : (o : Ordering) → key_cmp key e.0 ≡ o → lookup (is_at (key_cmp key)) (e ∷ es) ≡ cond (is_eq o) (Some e.1) (lookup (is_at (key_cmp key)) es)
      here o q = ap (λ p. cond (is_eq p) (Some e.1) (lookup (is_at (key_cmp key)) es)) q

      there : (o : Ordering) → key_cmp e.0 key ≡ o → is_lt o ≡ false → found_at key (slice_get (e ∷ es) (place_in key (e ∷ es))) ≡ cond (is_eq o) (Some e.1) None
      there o q l =
          ap (λ p. found_at key (slice_get (e ∷ es) p)) (place_here key e es o q ∙ ap (λ b. cond b (suc (place_in key es)) 0) l)
          ∙ ap (λ p. cond (is_eq p) (Some e.1) None) q

      by : (o : Ordering) → key_cmp key e.0 ≡ o → lookup (is_at (key_cmp key)) es ≡ found_at key (slice_get es (place_in key es))
          → lookup (is_at (key_cmp key)) (e ∷ es) ≡ found_at key (slice_get (e ∷ es) (place_in key (e ∷ es)))
      by Less q rec = here Less q ∙ (lookup_above key es (keys_above key e es s q) ∙ sym (there Greater (turned_less key_total key e.0 q) refl))
      by Equal q rec = here Equal q ∙ sym (there Equal (turned_equal key e.0 q) refl)
      by Greater q rec =
          here Greater q ∙ (rec ∙ sym (ap (λ p. found_at key (slice_get (e ∷ es) p)) (place_here key e es Less (turned_greater key_total key e.0 q))))

  -- a key that is there goes out at its place
  pub remove_at : (key : List ℕ) (es : List (List ℕ × X)) (x : X) → lookup (is_at (key_cmp key)) es ≡ Some x
      → IsStrictlySortedBy key_cmp (keys_of es) → remove es (place_in key es) ≡ remove_entry (is_at (key_cmp key)) es
  remove_at key [] x f s = let clash : None ≡ Some x = f in absurd (cc)
  remove_at key (e ∷ es) x f s = by (key_cmp key e.0) refl (λ g. remove_at key es x g (other_keys e es s))
    where
      here : (o : Ordering) → key_cmp key e.0 ≡ o → lookup (is_at (key_cmp key)) (e ∷ es) ≡ cond (is_eq o) (Some e.1) (lookup (is_at (key_cmp key)) es)
      here o q = ap (λ p. cond (is_eq p) (Some e.1) (lookup (is_at (key_cmp key)) es)) q

      goes : Ordering → List (List ℕ × X)
      goes o = cond (is_eq o) es (e ∷ remove_entry (is_at (key_cmp key)) es)

      by : (o : Ordering) → key_cmp key e.0 ≡ o → (lookup (is_at (key_cmp key)) es ≡ Some x → remove es (place_in key es) ≡ remove_entry (is_at (key_cmp key)) es)
          → remove (e ∷ es) (place_in key (e ∷ es)) ≡ goes (key_cmp key e.0)
      by Less q rec =
          let clash : None ≡ Some x = sym (lookup_above key es (keys_above key e es s q)) ∙ (sym (here Less q) ∙ f) in absurd (cc)
      by Equal q rec = ap (remove (e ∷ es)) (place_here key e es Equal (turned_equal key e.0 q)) ∙ sym (ap goes q)
      by Greater q rec =
          ap (remove (e ∷ es)) (place_here key e es Less (turned_greater key_total key e.0 q))
          ∙ (ap (λ fs. e ∷ fs) (rec (sym (here Greater q) ∙ f)) ∙ sym (ap goes q))

  pub remove_none : (test : List ℕ → Bool) (es : List (List ℕ × X)) → lookup test es ≡ None → remove_entry test es ≡ es
  remove_none test [] n = refl
  remove_none test (e ∷ es) n = by (test e.0) refl (λ m. remove_none test es m)
    where
      by : (b : Bool) → test e.0 ≡ b → (lookup test es ≡ None → remove_entry test es ≡ es) → cond (test e.0) es (e ∷ remove_entry test es) ≡ e ∷ es
      by true q rec = let clash : Some e.1 ≡ None = sym (ap (λ b. cond b (Some e.1) (lookup test es)) q) ∙ n in absurd (cc)
      by false q rec =
          ap (λ b. cond b es (e ∷ remove_entry test es)) q
          ∙ ap (λ fs. e ∷ fs) (rec (sym (ap (λ b. cond b (Some e.1) (lookup test es)) q) ∙ n))

  -- by places: keys rise, and a key that is lower or isn't tells of those before or after it
  keys_rise : (es : List (List ℕ × X)) (i j : ℕ) (d : List ℕ × X) → IsStrictlySortedBy key_cmp (keys_of es) → i < j → j < length es
      → key_cmp (get_or es i d).0 (get_or es j d).0 ≡ Less
  keys_rise es i j d s lt within =
      let below : i < length es = omega arith in
      let inside : j < length (keys_of es) = subst (λ n. j < n) (sym (length-map es (λ e. e.0))) within in
      (λ t. key_cmp (sym (get_or-map (λ e. e.0) es i d d.0 below) t) (sym (get_or-map (λ e. e.0) es j d d.0 within) t))
      ∙ Less-from_sorted key_cmp (keys_of es) i j d.0 s lt inside

  pub front_more : (es : List (List ℕ × X)) (key : List ℕ) (m : ℕ) → IsStrictlySortedBy key_cmp (keys_of es) → m < length es
      → ((d : List ℕ × X) → is_lt (key_cmp (get_or es m d).0 key) ≡ true) → (k : ℕ) (d : List ℕ × X) → k < m + 1 → is_lt (key_cmp (get_or es k d).0 key) ≡ true
  front_more es key m s within less k d h =
      ⊎_elim (λ lt. ap is_lt (key_total.trans (get_or es k d).0 (get_or es m d).0 key (keys_rise es k m d s lt within) (is_lt-true _ (less d))))
      (λ ge. let same : k ≡ m = omega arith in subst (λ n. is_lt (key_cmp (get_or es n d).0 key) ≡ true) (sym same) (less d)) (cases_lt k m)

  pub back_more : (es : List (List ℕ × X)) (key : List ℕ) (m : ℕ) → IsStrictlySortedBy key_cmp (keys_of es) → m < length es
      → ((d : List ℕ × X) → is_lt (key_cmp (get_or es m d).0 key) ≡ false) → (k : ℕ) (d : List ℕ × X) → m ≤ k → k < length es → is_lt (key_cmp (get_or es k d).0 key) ≡ false
  back_more es key m s within not_less k d le lt = by (is_lt (key_cmp (get_or es k d).0 key)) refl
    where
      by : (b : Bool) → is_lt (key_cmp (get_or es k d).0 key) ≡ b → is_lt (key_cmp (get_or es k d).0 key) ≡ false
      by true q =
          absurd (false≢true (sym (not_less d)
          ∙ front_more es key k s lt (λ e. ap (λ x. is_lt (key_cmp x.0 key)) (get_or_default es k e d lt) ∙ q) m d (omega arith)))
      by false q = q

  -- an insertion keeps the order
  insert_above : (k key : List ℕ) (x : X) (es : List (List ℕ × X)) → AllByRecursion (λ y. key_cmp k y ≡ Less) (keys_of es) → key_cmp k key ≡ Less
      → AllByRecursion (λ y. key_cmp k y ≡ Less) (keys_of (insert_entry key_cmp es key x))
  insert_above k key x [] h l = (l, tt)
  insert_above k key x (e ∷ es) h l =
      elim (key_cmp key e.0) as (λ o. AllByRecursion (λ y. key_cmp k y ≡ Less) (keys_of (match_ordering o ((key, x) ∷ e ∷ es) ((e.0, x) ∷ es) (e ∷ insert_entry key_cmp es key x)))) [
        | Less ↦ (l, h)
        | Equal ↦ h
        | Greater ↦ (h.0, insert_above k key x es h.1 l)
      ]

  pub insert_sorted : (key : List ℕ) (x : X) (es : List (List ℕ × X)) → IsStrictlySortedBy key_cmp (keys_of es) → IsStrictlySortedBy key_cmp (keys_of (insert_entry key_cmp es key x))
  unfolding IsStrictlySortedBy
  insert_sorted key x [] s = (tt, tt)
  insert_sorted key x (e ∷ es) s = by (key_cmp key e.0) refl (insert_sorted key x es s.1)
    where
      goes : Ordering → List (List ℕ × X)
      goes o = match_ordering o ((key, x) ∷ e ∷ es) ((e.0, x) ∷ es) (e ∷ insert_entry key_cmp es key x)

      by : (o : Ordering) → key_cmp key e.0 ≡ o → IsStrictlySortedBy key_cmp (keys_of (insert_entry key_cmp es key x)) → IsStrictlySortedBy key_cmp (keys_of (goes (key_cmp key e.0)))
      by Less q rec =
          subst (λ o. IsStrictlySortedBy key_cmp (keys_of (goes o))) (sym q)
          ((q, all_then (λ y. key_cmp e.0 y ≡ Less) (λ y. key_cmp key y ≡ Less) (keys_of es) (λ y h. key_total.trans key e.0 y q h) s.0), s)
      by Equal q rec = subst (λ o. IsStrictlySortedBy key_cmp (keys_of (goes o))) (sym q) s
      by Greater q rec =
          subst (λ o. IsStrictlySortedBy key_cmp (keys_of (goes o))) (sym q)
          (insert_above e.0 key x es s.0 (turned_greater key_total key e.0 q), rec)

  -- and so does a removal
  remove_above : (P : List ℕ → Type 0) (test : List ℕ → Bool) (es : List (List ℕ × X)) → AllByRecursion P (keys_of es) → AllByRecursion P (keys_of (remove_entry test es))
  remove_above P test [] h = tt
  remove_above P test (e ∷ es) h =
      elim (test e.0) as (λ b. AllByRecursion P (keys_of (cond b es (e ∷ remove_entry test es)))) [
        | true ↦ h.1
        | false ↦ (h.0, remove_above P test es h.1)
      ]

  pub remove_sorted : (test : List ℕ → Bool) (es : List (List ℕ × X)) → IsStrictlySortedBy key_cmp (keys_of es) → IsStrictlySortedBy key_cmp (keys_of (remove_entry test es))
  unfolding IsStrictlySortedBy
  remove_sorted test [] s = tt
  remove_sorted test (e ∷ es) s =
      elim (test e.0) as (λ b. IsStrictlySortedBy key_cmp (keys_of (cond b es (e ∷ remove_entry test es)))) [
        | true ↦ s.1
        | false ↦ (remove_above (λ y. key_cmp e.0 y ≡ Less) test es s.0, remove_sorted test es s.1)
      ]

  -- what is found after an insertion
  pub lookup_insert : (q key : List ℕ) (x : X) (es : List (List ℕ × X))
      → lookup (is_at (key_cmp q)) (insert_entry key_cmp es key x) ≡ cond (is_eq (key_cmp q key)) (Some x) (lookup (is_at (key_cmp q)) es)
  lookup_insert q key x [] = refl
  lookup_insert q key x (e ∷ es) = by (key_cmp key e.0) refl (lookup_insert q key x es)
    where
      found : List (List ℕ × X) → Option X
      found fs = lookup (is_at (key_cmp q)) fs

      goes : Ordering → List (List ℕ × X)
      goes o = match_ordering o ((key, x) ∷ e ∷ es) ((e.0, x) ∷ es) (e ∷ insert_entry key_cmp es key x)

      twice : (b : Bool) (y z : Option X) → cond b (Some x) z ≡ cond b (Some x) (cond b y z)
      twice true y z = refl
      twice false y z = refl

      turn : (a b : Bool) (y z : Option X) → (a ≡ true → b ≡ true → ⊥) → cond a y (cond b (Some x) z) ≡ cond b (Some x) (cond a y z)
      turn true true y z h = absurd (h refl refl)
      turn true false y z h = refl
      turn false b y z h = refl

      by : (o : Ordering) → key_cmp key e.0 ≡ o → found (insert_entry key_cmp es key x) ≡ cond (is_eq (key_cmp q key)) (Some x) (found es)
          → found (goes (key_cmp key e.0)) ≡ cond (is_eq (key_cmp q key)) (Some x) (found (e ∷ es))
      by Less p rec = ap (λ o. found (goes o)) p
      by Equal p rec =
          ap (λ o. found (goes o)) p
          ∙ (twice (is_eq (key_cmp q e.0)) (Some e.1) (found es)
          ∙ ap (λ k. cond (is_eq (key_cmp q k)) (Some x) (found (e ∷ es))) (sym (exact_bytes key e.0 p)))
      by Greater p rec =
          ap (λ o. found (goes o)) p
          ∙ (ap (λ o. cond (is_eq (key_cmp q e.0)) (Some e.1) o) rec
          ∙ turn (is_eq (key_cmp q e.0)) (is_eq (key_cmp q key)) (Some e.1) (found es)
          (λ a b. let same : key ≡ e.0 = sym (exact_bytes q key (is_eq-true _ b)) ∙ exact_bytes q e.0 (is_eq-true _ a) in
          let clash : Equal ≡ Greater = sym (tied_itself key_total e.0) ∙ (ap (λ k. key_cmp k e.0) (sym same) ∙ p) in absurd (cc)))

  -- and after a removal
  pub lookup_remove : (q key : List ℕ) (es : List (List ℕ × X)) → IsStrictlySortedBy key_cmp (keys_of es)
      → lookup (is_at (key_cmp q)) (remove_entry (is_at (key_cmp key)) es) ≡ cond (is_eq (key_cmp q key)) None (lookup (is_at (key_cmp q)) es)
  lookup_remove q key [] s = same (is_eq (key_cmp q key)) None refl
    where
      same : (b : Bool) (z : Option X) → z ≡ None → z ≡ cond b None z
      same true z e = e
      same false z e = refl
  lookup_remove q key (e ∷ es) s = by (is_eq (key_cmp key e.0)) refl (lookup_remove q key es (other_keys e es s))
    where
      found : List (List ℕ × X) → Option X
      found fs = lookup (is_at (key_cmp q)) fs

      goes : Bool → List (List ℕ × X)
      goes b = cond b es (e ∷ remove_entry (is_at (key_cmp key)) es)

      here : (b : Bool) → is_eq (key_cmp q key) ≡ b → key ≡ e.0 → found es ≡ cond (is_eq (key_cmp q key)) None (found (e ∷ es))
      here true p same =
          lookup_above q es (keys_above_equal q e es s (ap (key_cmp q) (sym same) ∙ is_eq-true _ p))
          ∙ sym (ap (λ b. cond b None (found (e ∷ es))) p)
      here false p same =
          sym (ap (λ b. cond b (Some e.1) (found es)) (ap (λ k. is_eq (key_cmp q k)) (sym same) ∙ p))
          ∙ sym (ap (λ b. cond b None (found (e ∷ es))) p)

      turn : (a b : Bool) (y z : Option X) → (a ≡ true → b ≡ true → ⊥) → cond a y (cond b None z) ≡ cond b None (cond a y z)
      turn true true y z h = absurd (h refl refl)
      turn true false y z h = refl
      turn false b y z h = refl

      by : (b : Bool) → is_eq (key_cmp key e.0) ≡ b → found (remove_entry (is_at (key_cmp key)) es) ≡ cond (is_eq (key_cmp q key)) None (found es)
          → found (goes (is_eq (key_cmp key e.0))) ≡ cond (is_eq (key_cmp q key)) None (found (e ∷ es))
      by true p rec = ap (λ b. found (goes b)) p ∙ here (is_eq (key_cmp q key)) refl (exact_bytes key e.0 (is_eq-true _ p))
      by false p rec =
          ap (λ b. found (goes b)) p
          ∙ (ap (λ o. cond (is_eq (key_cmp q e.0)) (Some e.1) o) rec
          ∙ turn (is_eq (key_cmp q e.0)) (is_eq (key_cmp q key)) (Some e.1) (found es)
          (λ a b. let same : key ≡ e.0 = sym (exact_bytes q key (is_eq-true _ b)) ∙ exact_bytes q e.0 (is_eq-true _ a) in
          absurd (false≢true (sym p ∙ ap is_eq (ap (λ k. key_cmp k e.0) same ∙ tied_itself key_total e.0)))))

  -- entries in order that find alike are one
  pub same_entries : (es fs : List (List ℕ × X)) → IsStrictlySortedBy key_cmp (keys_of es) → IsStrictlySortedBy key_cmp (keys_of fs)
      → ((q : List ℕ) → lookup (is_at (key_cmp q)) es ≡ lookup (is_at (key_cmp q)) fs) → es ≡ fs
  same_entries [] [] s t h = refl
  same_entries [] (f ∷ fs) s t h =
      let clash : None ≡ Some f.1 = h f.0 ∙ ap (λ o. cond (is_eq o) (Some f.1) (lookup (is_at (key_cmp f.0)) fs)) (tied_itself key_total f.0) in absurd (cc)
  same_entries (e ∷ es) [] s t h =
      let clash : Some e.1 ≡ None = sym (ap (λ o. cond (is_eq o) (Some e.1) (lookup (is_at (key_cmp e.0)) es)) (tied_itself key_total e.0)) ∙ h e.0 in absurd (cc)
  same_entries (e ∷ es) (f ∷ fs) s t h = by (key_cmp e.0 f.0) refl (same_entries es fs (other_keys e es s) (other_keys f fs t))
    where
      own : (g : List ℕ × X) (gs : List (List ℕ × X)) → lookup (is_at (key_cmp g.0)) (g ∷ gs) ≡ Some g.1
      own g gs = ap (λ o. cond (is_eq o) (Some g.1) (lookup (is_at (key_cmp g.0)) gs)) (tied_itself key_total g.0)

      below : (q : List ℕ) (g : List ℕ × X) (gs : List (List ℕ × X)) → IsStrictlySortedBy key_cmp (keys_of (g ∷ gs)) → key_cmp q g.0 ≡ Less → lookup (is_at (key_cmp q)) (g ∷ gs) ≡ None
      below q g gs u l = lookup_above q (g ∷ gs) (l, keys_above q g gs u l)

      skip : (q : List ℕ) (g : List ℕ × X) (gs : List (List ℕ × X)) (b : Bool) → is_eq (key_cmp q g.0) ≡ b → b ≡ false → lookup (is_at (key_cmp q)) (g ∷ gs) ≡ lookup (is_at (key_cmp q)) gs
      skip q g gs b p c = ap (λ a. cond a (Some g.1) (lookup (is_at (key_cmp q)) gs)) (p ∙ c)

      none : (q : List ℕ) (g : List ℕ × X) (gs : List (List ℕ × X)) → IsStrictlySortedBy key_cmp (keys_of (g ∷ gs)) → is_eq (key_cmp q g.0) ≡ true → lookup (is_at (key_cmp q)) gs ≡ None
      none q g gs u p = lookup_above q gs (keys_above_equal q g gs u (is_eq-true _ p))

      rest : e.0 ≡ f.0 → (q : List ℕ) (b : Bool) → is_eq (key_cmp q e.0) ≡ b → lookup (is_at (key_cmp q)) es ≡ lookup (is_at (key_cmp q)) fs
      rest same q true p = none q e es s p ∙ sym (none q f fs t (ap (λ k. is_eq (key_cmp q k)) (sym same) ∙ p))
      rest same q false p = sym (skip q e es false p refl) ∙ (h q ∙ skip q f fs false (ap (λ k. is_eq (key_cmp q k)) (sym same) ∙ p) refl)

      by : (o : Ordering) → key_cmp e.0 f.0 ≡ o → (((q : List ℕ) → lookup (is_at (key_cmp q)) es ≡ lookup (is_at (key_cmp q)) fs) → es ≡ fs) → e ∷ es ≡ f ∷ fs
      by Less p rec = let clash : Some e.1 ≡ None = sym (own e es) ∙ (h e.0 ∙ below e.0 f fs t p) in absurd (cc)
      by Greater p rec =
          let clash : None ≡ Some f.1 = sym (below f.0 e es s (turned_greater key_total e.0 f.0 p)) ∙ (h f.0 ∙ own f fs) in absurd (cc)
      by Equal p rec =
          let same : e.0 ≡ f.0 = exact_bytes e.0 f.0 p in
          let shown : Some e.1 ≡ Some f.1 = sym (own e es) ∙ (h e.0 ∙ (ap (λ k. lookup (is_at (key_cmp k)) (f ∷ fs)) same ∙ own f fs)) in
          let value : e.1 ≡ f.1 = cc in
          λ i. (same i, value i) ∷ rec (λ q. rest same q (is_eq (key_cmp q e.0)) refl) i

  -- the first entry after this key: what stands at its place, or behind it where that is the key's
  abbrev pub after_of : List ℕ → Option (List ℕ × X) → Option (List ℕ × X) → Option (List ℕ × X)
  after_of key None later = None
  after_of key (Some e) later = cond (is_eq (key_cmp e.0 key)) later (Some e)

  pub after_at : (key : List ℕ) (es : List (List ℕ × X)) → IsStrictlySortedBy key_cmp (keys_of es)
      → find (λ e. is_lt (key_cmp key e.0)) es ≡ after_of key (slice_get es (place_in key es)) (slice_get es (suc (place_in key es)))
  after_at key [] s = refl
  after_at key (e ∷ es) s = by (key_cmp key e.0) refl (after_at key es (other_keys e es s))
    where
      later : List (List ℕ × X) → Option (List ℕ × X)
      later fs = find (λ f. is_lt (key_cmp key f.0)) fs

      here : (o : Ordering) → key_cmp key e.0 ≡ o → later (e ∷ es) ≡ cond (is_lt o) (Some e) (later es)
      here o q = ap (λ p. cond (is_lt p) (Some e) (later es)) q

      stands : ℕ → Option (List ℕ × X)
      stands p = after_of key (slice_get (e ∷ es) p) (slice_get (e ∷ es) (suc p))

      first : (fs : List (List ℕ × X)) → AllByRecursion (λ f. key_cmp key f.0 ≡ Less) fs → later fs ≡ slice_get fs 0
      first [] h = refl
      first (f ∷ fs) h = ap (λ o. cond (is_lt o) (Some f) (later fs)) h.0

      by : (o : Ordering) → key_cmp key e.0 ≡ o → later es ≡ after_of key (slice_get es (place_in key es)) (slice_get es (suc (place_in key es)))
          → later (e ∷ es) ≡ stands (place_in key (e ∷ es))
      by Less q rec =
          here Less q
          ∙ sym (ap stands (place_here key e es Greater (turned_less key_total key e.0 q))
          ∙ ap (λ o. cond (is_eq o) (slice_get es 0) (Some e)) (turned_less key_total key e.0 q))
      by Equal q rec =
          here Equal q
          ∙ (first es (keys_above_equal key e es s q)
          ∙ sym (ap stands (place_here key e es Equal (turned_equal key e.0 q))
          ∙ ap (λ o. cond (is_eq o) (slice_get es 0) (Some e)) (turned_equal key e.0 q)))
      by Greater q rec = here Greater q ∙ (rec ∙ sym (ap stands (place_here key e es Less (turned_greater key_total key e.0 q))))

  pub place_within : (key : List ℕ) (es : List (List ℕ × X)) → place_in key es ≤ length es
  place_within key [] = omega arith
  place_within key (e ∷ es) =
      elim (is_lt (key_cmp e.0 key)) as (λ b. cond b (1 + place_in key es) 0 ≤ suc (length es)) [
        | true ↦ omega (arith, place_within key es)
        | false ↦ omega arith
      ]

  -- a key that is there stands at its place
  pub found_within : (key : List ℕ) (es : List (List ℕ × X)) (x : X) → IsStrictlySortedBy key_cmp (keys_of es) → lookup (is_at (key_cmp key)) es ≡ Some x → place_in key es < length es
  found_within key es x s f = by (slice_get es (place_in key es)) refl
    where
      by : (o : Option (List ℕ × X)) → slice_get es (place_in key es) ≡ o → place_in key es < length es
      by None e = let clash : None ≡ Some x = sym (lookup_at key es s ∙ ap (found_at key) e) ∙ f in absurd (cc)
      by (Some entry) e = slice_get_within es (place_in key es) entry e

-- the next entry has the next key, and that key finds it
abbrev pub next_key : List (List ℕ) → Option (List ℕ) → Option (List ℕ)
next_key keys None = slice_get keys 0
next_key keys (Some after) = find (λ key. is_lt (key_cmp after key)) keys

first_found : (f : List ℕ → Bool) (es : List (List ℕ × ℕ)) → option_map (λ e. e.0) (find (λ e. f e.0) es) ≡ find f (keys_of es)
first_found f [] = refl
first_found f (e ∷ es) =
    elim (f e.0) as (λ b. option_map (λ e'. e'.0) (cond b (Some e) (find (λ e'. f e'.0) es)) ≡ cond b (Some e.0) (find f (keys_of es))) [
      | true ↦ refl
      | false ↦ first_found f es
    ]

own_entry : (e : List ℕ × ℕ) (es : List (List ℕ × ℕ)) → lookup (is_at (key_cmp e.0)) (e ∷ es) ≡ Some e.1
own_entry e es = ap (λ o. cond (is_eq o) (Some e.1) (lookup (is_at (key_cmp e.0)) es)) (tied_itself key_total e.0)

passing_found : (f : List ℕ → Bool) (es : List (List ℕ × ℕ)) (e : List ℕ × ℕ) → find (λ x. f x.0) es ≡ Some e → (f e.0 ≡ true) × (lookup (is_at (key_cmp e.0)) es ≡ Some e.1)
passing_found f [] e h = let clash : None ≡ Some e = h in absurd (cc)
passing_found f (x ∷ es) e h = by (f x.0) refl h (passing_found f es e)
  where
    apart : f x.0 ≡ false → f e.0 ≡ true → lookup (is_at (key_cmp e.0)) es ≡ Some e.1 → (b : Bool) → is_eq (key_cmp e.0 x.0) ≡ b → lookup (is_at (key_cmp e.0)) (x ∷ es) ≡ Some e.1
    apart fails passes found true q = absurd (false≢true (sym fails ∙ (ap f (sym (exact_bytes e.0 x.0 (is_eq-true _ q))) ∙ passes)))
    apart fails passes found false q = ap (λ b. cond b (Some x.1) (lookup (is_at (key_cmp e.0)) es)) q ∙ found

    by : (b : Bool) → f x.0 ≡ b → cond b (Some x) (find (λ y. f y.0) es) ≡ Some e → (find (λ y. f y.0) es ≡ Some e → (f e.0 ≡ true) × (lookup (is_at (key_cmp e.0)) es ≡ Some e.1))
        → (f e.0 ≡ true) × (lookup (is_at (key_cmp e.0)) (x ∷ es) ≡ Some e.1)
    by true q g rec =
        let same : Some x ≡ Some e = g in
        let one : x ≡ e = cc in
        subst (λ y. (f y.0 ≡ true) × (lookup (is_at (key_cmp y.0)) (x ∷ es) ≡ Some y.1)) one (q, own_entry x es)
    by false q g rec = let h' = rec g in (h'.0, apart q h'.0 h'.1 (is_eq (key_cmp e.0 x.0)) refl)

pub next_entry_key : (es : List (List ℕ × ℕ)) (after : Option (List ℕ)) → option_map (λ e. e.0) (next_entry es after) ≡ next_key (keys_of es) after
next_entry_key [] None = refl
next_entry_key (e ∷ es) None = refl
next_entry_key es (Some key) = first_found (λ k. is_lt (key_cmp key k)) es

pub next_entry_found : (es : List (List ℕ × ℕ)) (after : Option (List ℕ)) (e : List ℕ × ℕ) → next_entry es after ≡ Some e → lookup (is_at (key_cmp e.0)) es ≡ Some e.1
next_entry_found [] None e h = let clash : None ≡ Some e = h in absurd (cc)
next_entry_found (x ∷ es) None e h =
    let same : Some x ≡ Some e = h in
    let one : x ≡ e = cc in
    subst (λ y. lookup (is_at (key_cmp y.0)) (x ∷ es) ≡ Some y.1) one (own_entry x es)
next_entry_found es (Some key) e h = (passing_found (λ k. is_lt (key_cmp key k)) es e h).1

pub next_root_key : (rows : List Row) (es : List (List ℕ × ℕ)) (after : Option (List ℕ)) → roots rows ≡ keys_of es → next_root rows after ≡ option_map (λ e. e.0) (next_entry es after)
next_root_key rows es None h = ap (λ keys. slice_get keys 0) h ∙ sym (next_entry_key es None)
next_root_key rows es (Some key) h = ap (λ keys. find (λ k. is_lt (key_cmp key k)) keys) h ∙ sym (next_entry_key es (Some key))
