-- Ids with flags, as they are kept.
use Rattle.std.proofs.Common.{◌≡◌, ℕ, suc, ◌+◌, ◌≤◌, ◌++◌, ◌∷◌, [], List, refl, sym, ◌∙◌, ap, subst, arith, Bool, true, false, cond, not, ◌||◌, Option, Some, None, eqb, ltb, length}
use Rattle.std.specs.Prelude.{count_by}
use Rattle.std.specs.List.{AllByRecursion}
use Rattle.std.specs.List.Sorted.{IsStrictlySortedBy}
use Rattle.std.specs.Option.{option_map, unwrap_or, MatchOption}
use Rattle.std.specs.Ordering.{nat_cmp, is_eq, match_ordering}
use Rattle.std.specs.declared.cmp.Ordering.TheVariants.{Less}
use Rattle.std.specs.BTreeMap.{insert_entry, is_at}
use Rattle.std.specs.Map.{keys_of, values_of, lookup, remove_entry, set_value}
use Rattle.std.proofs.lemmas.Map.{keys-set_value}
use Rattle.std.proofs.lemmas.Map.Entries.{sum_by-set_value, sum_by-remove_entry, length-values_of}
use Rattle.std.proofs.lemmas.List.Sums.{sum_by_push, sum_by-cons, count_by-le-length}
use Rattle.std.proofs.lemmas.List.{map-append}
use Rattle.std.proofs.lemmas.Bool.{ltb-true, ltb-false, lt-ltb, le-ltb}
use Rattle.msg_queues.specs.Places.{IsIdBehind, with_flag, without_id, id_weight, unheld_count, any_held_id, AreIdsCounted}
use Rattle.msg_queues.proofs.Keys.{at_key, key_is, first_below, others_ascend}
use Rattle.tm_types.proofs.Ordered.{greater_from}

abbrev AreAbove : ℕ → List (ℕ × Bool) → Type 0
AreAbove id es = AllByRecursion (λ k. nat_cmp id k ≡ Less) (keys_of es)

not_it : (id : ℕ) (e : ℕ × Bool) → nat_cmp id e.0 ≡ Less → eqb e.0 id ≡ false
not_it id e less = sym (at_key id e.0) ∙ ap is_eq less

flag_above : (id : ℕ) (held : Bool) (es : List (ℕ × Bool)) → AreAbove id es → with_flag id held es ≡ es
flag_above id held [] h = refl
flag_above id held (e ∷ es) h = λ i. cond (not_it id e h.0 i) (e.0, held) e ∷ flag_above id held es h.1 i

without_above : (id : ℕ) (es : List (ℕ × Bool)) → AreAbove id es → without_id id es ≡ es
without_above id [] h = refl
without_above id (e ∷ es) h = λ i. cond (not (not_it id e h.0 i)) (e ∷ without_above id es h.1 i) (without_above id es h.1 i)

above_first : (id : ℕ) (e : ℕ × Bool) (es : List (ℕ × Bool)) → IsStrictlySortedBy nat_cmp (keys_of (e ∷ es)) → is_at (nat_cmp id) e.0 ≡ true → AreAbove id es
above_first id e es s q = subst (λ k. AreAbove k es) (key_is id e.0 q) (first_below e es s)

pub flag_set : (id : ℕ) (held : Bool) (es : List (ℕ × Bool)) → IsStrictlySortedBy nat_cmp (keys_of es) → set_value (is_at (nat_cmp id)) es held ≡ with_flag id held es
flag_set id held [] s = refl
flag_set id held (e ∷ es) s = by (is_at (nat_cmp id) e.0) refl (flag_set id held es (others_ascend e es s))
  where
    by : (b : Bool) → is_at (nat_cmp id) e.0 ≡ b → set_value (is_at (nat_cmp id)) es held ≡ with_flag id held es
        → cond (is_at (nat_cmp id) e.0) ((e.0, held) ∷ es) (e ∷ set_value (is_at (nat_cmp id)) es held) ≡ cond (eqb e.0 id) (e.0, held) e ∷ with_flag id held es
    by true q rec =
        ap (λ b. cond b ((e.0, held) ∷ es) (e ∷ set_value (is_at (nat_cmp id)) es held)) q
        ∙ (ap (λ fs. (e.0, held) ∷ fs) (sym (flag_above id held es (above_first id e es s q)))
        ∙ ap (λ b. cond b (e.0, held) e ∷ with_flag id held es) (sym (sym (at_key id e.0) ∙ q)))
    by false q rec =
        ap (λ b. cond b ((e.0, held) ∷ es) (e ∷ set_value (is_at (nat_cmp id)) es held)) q
        ∙ (ap (λ fs. e ∷ fs) rec
        ∙ ap (λ b. cond b (e.0, held) e ∷ with_flag id held es) (sym (sym (at_key id e.0) ∙ q)))

pub id_removed : (id : ℕ) (es : List (ℕ × Bool)) → IsStrictlySortedBy nat_cmp (keys_of es) → remove_entry (is_at (nat_cmp id)) es ≡ without_id id es
id_removed id [] s = refl
id_removed id (e ∷ es) s = by (is_at (nat_cmp id) e.0) refl (id_removed id es (others_ascend e es s))
  where
    by : (b : Bool) → is_at (nat_cmp id) e.0 ≡ b → remove_entry (is_at (nat_cmp id)) es ≡ without_id id es
        → cond (is_at (nat_cmp id) e.0) es (e ∷ remove_entry (is_at (nat_cmp id)) es) ≡ cond (not (eqb e.0 id)) (e ∷ without_id id es) (without_id id es)
    by true q rec =
        ap (λ b. cond b es (e ∷ remove_entry (is_at (nat_cmp id)) es)) q
        ∙ (sym (without_above id es (above_first id e es s q))
        ∙ ap (λ b. cond (not b) (e ∷ without_id id es) (without_id id es)) (sym (sym (at_key id e.0) ∙ q)))
    by false q rec =
        ap (λ b. cond b es (e ∷ remove_entry (is_at (nat_cmp id)) es)) q
        ∙ (ap (λ fs. e ∷ fs) rec
        ∙ ap (λ b. cond (not b) (e ∷ without_id id es) (without_id id es)) (sym (sym (at_key id e.0) ∙ q)))

pub id_added : (id : ℕ) (held : Bool) (es : List (ℕ × Bool)) → IsIdBehind id es → insert_entry nat_cmp es id held ≡ es ++ (id, held) ∷ []
id_added id held [] g = refl
id_added id held (e ∷ es) g =
    λ i. match_ordering (greater_from id e.0 g.0 i) ((id, held) ∷ e ∷ es) ((e.0, held) ∷ es) (e ∷ id_added id held es g.1 i)

-- set, where it isn't there
pub set_none : (test : ℕ → Bool) (held : Bool) (es : List (ℕ × Bool)) → lookup test es ≡ None → set_value test es held ≡ es
set_none test held [] e = refl
set_none test held (f ∷ es) e = by (test f.0) e (set_none test held es)
  where
    by : (b : Bool) → cond b (Some f.1) (lookup test es) ≡ None → (lookup test es ≡ None → set_value test es held ≡ es) → cond b ((f.0, held) ∷ es) (f ∷ set_value test es held) ≡ f ∷ es
    by true g rec = let clash : Some f.1 ≡ None = g in absurd (cc)
    by false g rec = ap (λ fs. f ∷ fs) (rec g)

-- ---- the counts
module _ (id : ℕ) (es fs : List (ℕ × Bool)) where
  pub open_added : IsIdBehind id es → fs ≡ insert_entry nat_cmp es id false → unheld_count fs ≡ unheld_count es + 1
  open_added g e =
      let values : values_of fs ≡ values_of es ++ false ∷ [] = ap values_of (e ∙ id_added id false es g) ∙ map-append (λ (f : ℕ × Bool). f.1) es ((id, false) ∷ []) in
      omega (arith, ap (λ bs. count_by (λ held. not held) bs) values, sum_by_push id_weight (values_of es) false)

  pub open_set : (held was : Bool) → lookup (is_at (nat_cmp id)) es ≡ Some was → fs ≡ set_value (is_at (nat_cmp id)) es held → unheld_count fs + id_weight was ≡ unheld_count es + id_weight held
  open_set held was found e = ap (λ us. unheld_count us + id_weight was) e ∙ sum_by-set_value id_weight (is_at (nat_cmp id)) es was held found

  pub open_taken : (r : Option Bool) → r ≡ lookup (is_at (nat_cmp id)) es → fs ≡ remove_entry (is_at (nat_cmp id)) es
      → MatchOption r (unheld_count fs ≡ unheld_count es) (λ was. unheld_count fs + id_weight was ≡ unheld_count es)
  open_taken None found e =
      omega (arith, ap unheld_count e, sum_by-remove_entry id_weight (is_at (nat_cmp id)) es, ap (λ o. unwrap_or (option_map id_weight o) 0) found)
  open_taken (Some was) found e =
      omega (arith, ap unheld_count e, sum_by-remove_entry id_weight (is_at (nat_cmp id)) es, ap (λ o. unwrap_or (option_map id_weight o) 0) found)

  pub keys_set : (held : Bool) → IsStrictlySortedBy nat_cmp (keys_of es) → fs ≡ set_value (is_at (nat_cmp id)) es held → IsStrictlySortedBy nat_cmp (keys_of fs)
  keys_set held s e = subst (λ us. IsStrictlySortedBy nat_cmp (keys_of us)) (sym e) (subst (IsStrictlySortedBy nat_cmp) (sym (keys-set_value (is_at (nat_cmp id)) es held)) s)

one_more : (a b n m : ℕ) → n ≡ a + 1 → m ≡ b + 1 → ltb n m ≡ ltb a b
one_more a b n m e f = by (ltb a b) refl
  where
    by : (t : Bool) → ltb a b ≡ t → ltb n m ≡ t
    by true less = lt-ltb n m (omega (arith, e, f, ltb-true a b less))
    by false most = le-ltb n m (omega (arith, e, f, ltb-false a b most))

-- an id is held exactly where fewer aren't held than there are
pub held_where_fewer : (es : List (ℕ × Bool)) → ltb (unheld_count es) (length es) ≡ any_held_id es
held_where_fewer [] = refl
held_where_fewer (e ∷ es) = by e.1 (held_where_fewer es)
  where
    by : (b : Bool) → ltb (unheld_count es) (length es) ≡ any_held_id es → ltb (count_by (λ held. not held) (b ∷ values_of es)) (suc (length es)) ≡ (b || any_held_id es)
    by true rest =
        lt-ltb (count_by (λ held. not held) (true ∷ values_of es)) (suc (length es))
        (omega (arith, sum_by-cons id_weight true (values_of es), count_by-le-length (λ held. not held) (values_of es), length-values_of es))
    by false rest =
        one_more (unheld_count es) (length es) (count_by (λ held. not held) (false ∷ values_of es)) (suc (length es)) (omega (arith, sum_by-cons id_weight false (values_of es))) (omega arith) ∙ rest

pub free_within : (es : List (ℕ × Bool)) (free : ℕ) → AreIdsCounted es free → free ≤ length es
free_within es free h = omega (arith, h.counted, count_by-le-length (λ held. not held) (values_of es), length-values_of es)
