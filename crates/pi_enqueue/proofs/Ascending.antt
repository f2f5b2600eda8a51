-- Entries in the order of their keys.
use Rattle.std.proofs.Common.{◌≡◌, ◌∷◌, [], List, refl, sym, ap, subst, ◌∙◌, Bool, true, false, cond, Some, None}
use Rattle.std.specs.Prelude.{filter}
use Rattle.std.specs.List.{AllByRecursion}
use Rattle.std.specs.List.Sorted.{IsStrictlySortedBy}
use Rattle.std.specs.Cmp.{IsTotalOrder}
use Rattle.std.specs.Ordering.{is_eq, match_ordering, ordering_reverse}
use Rattle.std.specs.declared.cmp.Ordering.{Ordering}
use Rattle.std.specs.declared.cmp.Ordering.TheVariants.{Less, Equal, Greater}
use Rattle.std.specs.BTreeMap.{insert_entry, is_at}
use Rattle.std.specs.Map.{keys_of, lookup, set_value, remove_entry}
use Rattle.std.proofs.lemmas.Cmp.{tied_itself, alike_right, eq_by_cmp_equiv}
use Rattle.std.proofs.lemmas.Map.{lookup-none}
use Rattle.std.proofs.lemmas.Map.Keys.{sorted_head, sorted_tail}
use Rattle.std.proofs.lemmas.Map.Entries.{none_below_head}

pub by_order : {P : Type 0} (o : Ordering) → (o ≡ Less → P) → (o ≡ Equal → P) → (o ≡ Greater → P) → P
by_order Less a b c = a refl
by_order Equal a b c = b refl
by_order Greater a b c = c refl

pub all_map : {A : Type 0} {P Q : A → Type 0} → ((x : A) → P x → Q x) → (xs : List A) → AllByRecursion P xs → AllByRecursion Q xs
all_map f [] h = tt
all_map f (x ∷ xs) h = (f x h.0, all_map f xs h.1)

pub all_filtered : {A : Type 0} (P : A → Type 0) (p : A → Bool) (xs : List A) → AllByRecursion P xs → AllByRecursion P (filter p xs)
all_filtered P p [] h = tt
all_filtered P p (x ∷ xs) h =
    elim (p x) as (λ b. AllByRecursion P (cond b (x ∷ filter p xs) (filter p xs))) [
      | true ↦ (h.0, all_filtered P p xs h.1)
      | false ↦ all_filtered P p xs h.1
    ]

module _ {K X : Type 0} where
  pub all_keys_filtered : (P : K → Type 0) (p : K × X → Bool) (es : List (K × X)) → AllByRecursion P (keys_of es) → AllByRecursion P (keys_of (filter p es))
  all_keys_filtered P p [] h = tt
  all_keys_filtered P p (e ∷ es) h =
      elim (p e) as (λ b. AllByRecursion P (keys_of (cond b (e ∷ filter p es) (filter p es)))) [
        | true ↦ (h.0, all_keys_filtered P p es h.1)
        | false ↦ all_keys_filtered P p es h.1
      ]

  -- a removed key
  pub remove_absent : (test : K → Bool) (es : List (K × X)) → lookup test es ≡ None → remove_entry test es ≡ es
  remove_absent test [] h = refl
  remove_absent test (e ∷ es) h = by (test e.0) h (remove_absent test es)
    where
      by : (b : Bool) → cond b (Some e.1) (lookup test es) ≡ None → (lookup test es ≡ None → remove_entry test es ≡ es) → cond b es (e ∷ remove_entry test es) ≡ e ∷ es
      by true g rec = let clash : Some e.1 ≡ None = g in absurd (cc)
      by false g rec = ap (λ fs. e ∷ fs) (rec g)

  -- what doesn't pass may be removed before a filter
  pub filter_removed : (p : K × X → Bool) (test : K → Bool) → ((e : K × X) → test e.0 ≡ true → p e ≡ false) → (es : List (K × X)) → filter p (remove_entry test es) ≡ filter p es
  filter_removed p test h [] = refl
  filter_removed p test h (e ∷ es) = by (test e.0) refl (filter_removed p test h es)
    where
      by : (b : Bool) → test e.0 ≡ b → filter p (remove_entry test es) ≡ filter p es
          → filter p (cond b es (e ∷ remove_entry test es)) ≡ cond (p e) (e ∷ filter p es) (filter p es)
      by true q rec = ap (λ b. cond b (e ∷ filter p es) (filter p es)) (sym (h e q))
      by false q rec = ap (λ us. cond (p e) (e ∷ us) us) rec

module _ {K X : Type 0} (cmp : K → K → Ordering) where
  pub sorted_filtered : (p : K × X → Bool) (es : List (K × X)) → IsStrictlySortedBy cmp (keys_of es) → IsStrictlySortedBy cmp (keys_of (filter p es))
  unfolding IsStrictlySortedBy
  sorted_filtered p [] s = tt
  sorted_filtered p (e ∷ es) s =
      elim (p e) as (λ b. IsStrictlySortedBy cmp (keys_of (cond b (e ∷ filter p es) (filter p es)))) [
        | true ↦ (all_keys_filtered _ p es s.0, sorted_filtered p es s.1)
        | false ↦ sorted_filtered p es s.1
      ]

  pub all_keys_inserted : (P : K → Type 0) (k : K) (v : X) (es : List (K × X)) → P k → AllByRecursion P (keys_of es) → AllByRecursion P (keys_of (insert_entry cmp es k v))
  all_keys_inserted P k v [] p h = (p, tt)
  all_keys_inserted P k v (e ∷ es) p h =
      elim (cmp k e.0) as (λ o. AllByRecursion P (keys_of (match_ordering o ((k, v) ∷ e ∷ es) ((e.0, v) ∷ es) (e ∷ insert_entry cmp es k v)))) [
        | Less ↦ (p, h)
        | Equal ↦ h
        | Greater ↦ (h.0, all_keys_inserted P k v es p h.1)
      ]

tied_apart : {K : Type 0} {cmp : K → K → Ordering} → IsTotalOrder cmp → (q k y : K) → is_at (cmp q) k ≡ true → is_at (cmp q) y ≡ true → cmp k y ≡ Greater → ⊥
tied_apart {cmp = cmp} total q k y a b c =
    let same : is_at (cmp k) y ≡ true = sym ((eq_by_cmp_equiv total).congr q k y a) ∙ b in
    let other : is_at (cmp k) y ≡ false = ap is_eq c in
    let clash : true ≡ false = sym same ∙ other in
    cc

module _ {K X : Type 0} {cmp : K → K → Ordering} (total : IsTotalOrder cmp) where
  pub sorted_inserted : (k : K) (v : X) (es : List (K × X)) → IsStrictlySortedBy cmp (keys_of es) → IsStrictlySortedBy cmp (keys_of (insert_entry cmp es k v))
  unfolding IsStrictlySortedBy
  sorted_inserted k v [] s = (tt, tt)
  sorted_inserted k v (e ∷ es) s = by_order (cmp k e.0)
      (λ a. put Less a ((a, all_map (λ y h. total.trans k e.0 y a h) (keys_of es) s.0), s))
      (λ a. put Equal a s)
      (λ a. put Greater a (all_keys_inserted cmp (λ y. cmp e.0 y ≡ Less) k v es (total.antisymm e.0 k ∙ ap ordering_reverse a) s.0, sorted_inserted k v es s.1))
    where
      put : (o : Ordering) → cmp k e.0 ≡ o → IsStrictlySortedBy cmp (keys_of (match_ordering o ((k, v) ∷ e ∷ es) ((e.0, v) ∷ es) (e ∷ insert_entry cmp es k v)))
          → IsStrictlySortedBy cmp (keys_of (insert_entry cmp (e ∷ es) k v))
      put o a h = subst (λ r. IsStrictlySortedBy cmp (keys_of (match_ordering r ((k, v) ∷ e ∷ es) ((e.0, v) ∷ es) (e ∷ insert_entry cmp es k v)))) (sym a) h

  -- a query for the new key finds the new value, and any other what it found
  pub lookup_inserted : (q k : K) (v : X) (es : List (K × X)) → lookup (is_at (cmp q)) (insert_entry cmp es k v) ≡ cond (is_at (cmp q) k) (Some v) (lookup (is_at (cmp q)) es)
  lookup_inserted q k v [] = refl
  lookup_inserted q k v (e ∷ es) = by (cmp k e.0) refl (lookup_inserted q k v es)
    where
      at : K → Bool
      at = is_at (cmp q)

      tie : (b : Bool) → at e.0 ≡ b → at k ≡ b → cond (at e.0) (Some v) (lookup at es) ≡ cond (at k) (Some v) (cond (at e.0) (Some e.1) (lookup at es))
      tie true a b = ap (λ t. cond t (Some v) (lookup at es)) a ∙ sym (ap (λ t. cond t (Some v) (cond (at e.0) (Some e.1) (lookup at es))) b)
      tie false a b =
          ap (λ t. cond t (Some v) (lookup at es)) a
          ∙ sym (ap (λ t. cond t (Some v) (cond (at e.0) (Some e.1) (lookup at es))) b ∙ ap (λ t. cond t (Some e.1) (lookup at es)) a)

      apart : (b c : Bool) → at e.0 ≡ b → at k ≡ c → (b ≡ true → c ≡ true → ⊥) → cond b (Some e.1) (cond c (Some v) (lookup at es)) ≡ cond c (Some v) (cond b (Some e.1) (lookup at es))
      apart true true a b h = absurd (h refl refl)
      apart true false a b h = refl
      apart false true a b h = refl
      apart false false a b h = refl

      by : (o : Ordering) → cmp k e.0 ≡ o → lookup at (insert_entry cmp es k v) ≡ cond (at k) (Some v) (lookup at es)
          → lookup at (match_ordering o ((k, v) ∷ e ∷ es) ((e.0, v) ∷ es) (e ∷ insert_entry cmp es k v)) ≡ cond (at k) (Some v) (cond (at e.0) (Some e.1) (lookup at es))
      by Less a rec = refl
      by Equal a rec = tie (at e.0) refl (ap is_eq (alike_right total k e.0 q a))
      by Greater a rec =
          ap (cond (at e.0) (Some e.1)) rec
          ∙ apart (at e.0) (at k) refl refl (λ x y. tied_apart total q k e.0 y x a)

  -- what passes neither with the new key nor with the old one isn't seen behind a filter
  pub filter_inserted : (p : K × X → Bool) (k : K) (v : X) → ((x : K) (w : X) → is_at (cmp k) x ≡ true → p (x, w) ≡ false) → (es : List (K × X))
      → filter p (insert_entry cmp es k v) ≡ filter p es
  filter_inserted p k v h [] = ap (λ b. cond b ((k, v) ∷ []) []) (h k v (ap is_eq (tied_itself total k)))
  filter_inserted p k v h (e ∷ es) = by (cmp k e.0) refl (filter_inserted p k v h es)
    where
      by : (o : Ordering) → cmp k e.0 ≡ o → filter p (insert_entry cmp es k v) ≡ filter p es
          → filter p (match_ordering o ((k, v) ∷ e ∷ es) ((e.0, v) ∷ es) (e ∷ insert_entry cmp es k v)) ≡ cond (p e) (e ∷ filter p es) (filter p es)
      by Less a rec = ap (λ b. cond b ((k, v) ∷ cond (p e) (e ∷ filter p es) (filter p es)) (cond (p e) (e ∷ filter p es) (filter p es))) (h k v (ap is_eq (tied_itself total k)))
      by Equal a rec =
          ap (λ b. cond b ((e.0, v) ∷ filter p es) (filter p es)) (h e.0 v (ap is_eq a))
          ∙ ap (λ b. cond b (e ∷ filter p es) (filter p es)) (sym (h e.0 e.1 (ap is_eq a)))
      by Greater a rec = ap (λ us. cond (p e) (e ∷ us) us) rec

  -- a key below the first isn't there
  below_all : (k : K) (e : K × X) (es : List (K × X)) → IsStrictlySortedBy cmp (keys_of (e ∷ es)) → cmp k e.0 ≡ Less → lookup (is_at (cmp k)) (e ∷ es) ≡ None
  below_all k e es s a = lookup-none (is_at (cmp k)) (e ∷ es) (none_below_head total k e es s a)

  -- the value that is there already
  pub insert_same : (k : K) (v : X) (es : List (K × X)) → IsStrictlySortedBy cmp (keys_of es) → lookup (is_at (cmp k)) es ≡ Some v → insert_entry cmp es k v ≡ es
  insert_same k v [] s h = let clash : None ≡ Some v = h in absurd (cc)
  insert_same k v (e ∷ es) s h = by (cmp k e.0) refl (insert_same k v es (sorted_tail cmp e.0 (keys_of es) s))
    where
      by : (o : Ordering) → cmp k e.0 ≡ o → (lookup (is_at (cmp k)) es ≡ Some v → insert_entry cmp es k v ≡ es)
          → match_ordering o ((k, v) ∷ e ∷ es) ((e.0, v) ∷ es) (e ∷ insert_entry cmp es k v) ≡ e ∷ es
      by Less a rec = let clash : None ≡ Some v = sym (below_all k e es s a) ∙ h in absurd (cc)
      by Equal a rec =
          let found : Some e.1 ≡ Some v = sym (ap (λ o. cond (is_eq o) (Some e.1) (lookup (is_at (cmp k)) es)) a) ∙ h in
          let same : e.1 ≡ v = cc in
          λ i. (e.0, sym same i) ∷ es
      by Greater a rec = ap (λ us. e ∷ us) (rec (sym (ap (λ o. cond (is_eq o) (Some e.1) (lookup (is_at (cmp k)) es)) a) ∙ h))

  -- a new value taken back
  pub reset_inserted : (k : K) (v w : X) (es : List (K × X)) → IsStrictlySortedBy cmp (keys_of es) → lookup (is_at (cmp k)) es ≡ Some w
      → set_value (is_at (cmp k)) (insert_entry cmp es k v) w ≡ es
  reset_inserted k v w [] s h = let clash : None ≡ Some w = h in absurd (cc)
  reset_inserted k v w (e ∷ es) s h = by (cmp k e.0) refl (reset_inserted k v w es (sorted_tail cmp e.0 (keys_of es) s))
    where
      by : (o : Ordering) → cmp k e.0 ≡ o → (lookup (is_at (cmp k)) es ≡ Some w → set_value (is_at (cmp k)) (insert_entry cmp es k v) w ≡ es)
          → set_value (is_at (cmp k)) (match_ordering o ((k, v) ∷ e ∷ es) ((e.0, v) ∷ es) (e ∷ insert_entry cmp es k v)) w ≡ e ∷ es
      by Less a rec = let clash : None ≡ Some w = sym (below_all k e es s a) ∙ h in absurd (cc)
      by Equal a rec =
          let found : Some e.1 ≡ Some w = sym (ap (λ o. cond (is_eq o) (Some e.1) (lookup (is_at (cmp k)) es)) a) ∙ h in
          let same : e.1 ≡ w = cc in
          ap (λ o. cond (is_eq o) ((e.0, w) ∷ es) ((e.0, v) ∷ set_value (is_at (cmp k)) es w)) a ∙ (λ i. (e.0, sym same i) ∷ es)
      by Greater a rec =
          ap (λ o. cond (is_eq o) ((e.0, w) ∷ insert_entry cmp es k v) (e ∷ set_value (is_at (cmp k)) (insert_entry cmp es k v) w)) a
          ∙ ap (λ us. e ∷ us) (rec (sym (ap (λ o. cond (is_eq o) (Some e.1) (lookup (is_at (cmp k)) es)) a) ∙ h))

  -- a new key taken back
  pub remove_inserted : (k : K) (v : X) (es : List (K × X)) → lookup (is_at (cmp k)) es ≡ None → remove_entry (is_at (cmp k)) (insert_entry cmp es k v) ≡ es
  remove_inserted k v [] h = ap (λ o. cond (is_eq o) [] ((k, v) ∷ [])) (tied_itself total k)
  remove_inserted k v (e ∷ es) h = by (cmp k e.0) refl (remove_inserted k v es)
    where
      by : (o : Ordering) → cmp k e.0 ≡ o → (lookup (is_at (cmp k)) es ≡ None → remove_entry (is_at (cmp k)) (insert_entry cmp es k v) ≡ es)
          → remove_entry (is_at (cmp k)) (match_ordering o ((k, v) ∷ e ∷ es) ((e.0, v) ∷ es) (e ∷ insert_entry cmp es k v)) ≡ e ∷ es
      by Less a rec = ap (λ o. cond (is_eq o) (e ∷ es) ((k, v) ∷ remove_entry (is_at (cmp k)) (e ∷ es))) (tied_itself total k)
      by Equal a rec =
          let clash : Some e.1 ≡ None = sym (ap (λ o. cond (is_eq o) (Some e.1) (lookup (is_at (cmp k)) es)) a) ∙ h in
          absurd (cc)
      by Greater a rec =
          ap (λ o. cond (is_eq o) (insert_entry cmp es k v) (e ∷ remove_entry (is_at (cmp k)) (insert_entry cmp es k v))) a
          ∙ ap (λ us. e ∷ us) (rec (sym (ap (λ o. cond (is_eq o) (Some e.1) (lookup (is_at (cmp k)) es)) a) ∙ h))

  -- a removed key isn't there any more
  pub none_removed : (k : K) (es : List (K × X)) → IsStrictlySortedBy cmp (keys_of es) → AllByRecursion (λ x. is_at (cmp k) x ≡ false) (keys_of (remove_entry (is_at (cmp k)) es))
  none_removed k [] s = tt
  none_removed k (e ∷ es) s = by (is_at (cmp k) e.0) refl (none_removed k es (sorted_tail cmp e.0 (keys_of es) s))
    where
      behind : (y : K) → is_at (cmp k) e.0 ≡ true → cmp e.0 y ≡ Less → is_at (cmp k) y ≡ false
      behind y a b = (eq_by_cmp_equiv total).congr k e.0 y a ∙ ap is_eq b

      by : (b : Bool) → is_at (cmp k) e.0 ≡ b → AllByRecursion (λ x. is_at (cmp k) x ≡ false) (keys_of (remove_entry (is_at (cmp k)) es))
          → AllByRecursion (λ x. is_at (cmp k) x ≡ false) (keys_of (cond b es (e ∷ remove_entry (is_at (cmp k)) es)))
      by true a rec = all_map (λ y h. behind y a h) (keys_of es) (sorted_head cmp e.0 (keys_of es) s)
      by false a rec = (a, rec)
