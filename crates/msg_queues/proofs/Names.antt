-- What a change under one name leaves.
use Rattle.std.proofs.Common.{◌≡◌, ℕ, [], List, refl, sym, ◌∙◌, ap, subst, Bool, true, false, cond, Some, None}
use Rattle.std.specs.BTreeMap.{is_at}
use Rattle.std.specs.Cmp.Lexicographic.{slice_cmp}
use Rattle.std.specs.Map.{lookup}
use Rattle.std.specs.Option.{unwrap_or}
use Rattle.std.specs.Ordering.{nat_cmp}
use Rattle.std.specs.Str.{bytes_eq}
use Rattle.std.proofs.lemmas.Map.Text.{is_eq-slice_cmp}
use Rattle.std.proofs.lemmas.Slice.Eq.{bytes_eq-Decides}
use Rattle.msg_queues.specs.Index.{of_name, when, ChangesName, KeepsNames}

abbrev Kept : Type 0
Kept = List (List ℕ × List (ℕ × Bool))

pub same_name : (name other : List ℕ) → bytes_eq name other ≡ true → name ≡ other
same_name name other e = (bytes_eq-Decides name other).0 e

module _ (name : List ℕ) (change : List (ℕ × Bool) → List (ℕ × Bool)) (old new : Kept) where
  -- the value under the name was written
  pub changed : (w : List (ℕ × Bool)) → w ≡ change (of_name name old)
      → ((q : List ℕ) → lookup (is_at (slice_cmp nat_cmp q)) new ≡ cond (is_at (slice_cmp nat_cmp name) q) (Some w) (lookup (is_at (slice_cmp nat_cmp q)) old))
      → ChangesName name change old new
  changed w is all other =
      ap (λ o. unwrap_or o []) (all other ∙ ap (λ b. cond b (Some w) (lookup (is_at (slice_cmp nat_cmp other)) old)) (is_eq-slice_cmp name other))
      ∙ by (bytes_eq name other) refl
    where
      by : (b : Bool) → bytes_eq name other ≡ b → unwrap_or (cond b (Some w) (lookup (is_at (slice_cmp nat_cmp other)) old)) [] ≡ cond b (change (of_name other old)) (of_name other old)
      by true e = is ∙ ap (λ c. change (of_name c old)) (same_name name other e)
      by false e = refl

  -- there is nothing under the name, and nothing was done
  pub unchanged : change [] ≡ [] → lookup (is_at (slice_cmp nat_cmp name)) old ≡ None → new ≡ old → ChangesName name change old new
  unchanged nothing none same other = ap (of_name other) same ∙ by (bytes_eq name other) refl
    where
      by : (b : Bool) → bytes_eq name other ≡ b → of_name other old ≡ cond b (change (of_name other old)) (of_name other old)
      by true e =
          let empty : of_name other old ≡ [] = ap (λ c. of_name c old) (sym (same_name name other e)) ∙ ap (λ o. unwrap_or o []) none in
          empty ∙ (sym nothing ∙ ap change (sym empty))
      by false e = refl

-- what was written back is what was there
pub kept : (name : List ℕ) (old new : Kept) (w : List (ℕ × Bool)) → lookup (is_at (slice_cmp nat_cmp name)) old ≡ Some w
    → ((q : List ℕ) → lookup (is_at (slice_cmp nat_cmp q)) new ≡ cond (is_at (slice_cmp nat_cmp name) q) (Some w) (lookup (is_at (slice_cmp nat_cmp q)) old))
    → KeepsNames old new
kept name old new w was all other =
    ap (λ o. unwrap_or o []) (all other ∙ ap (λ b. cond b (Some w) (lookup (is_at (slice_cmp nat_cmp other)) old)) (is_eq-slice_cmp name other))
    ∙ by (bytes_eq name other) refl
  where
    by : (b : Bool) → bytes_eq name other ≡ b → unwrap_or (cond b (Some w) (lookup (is_at (slice_cmp nat_cmp other)) old)) [] ≡ of_name other old
    by true e = sym (ap (λ c. of_name c old) (sym (same_name name other e)) ∙ ap (λ o. unwrap_or o []) was)
    by false e = refl

-- a change on a condition, where it holds and where it doesn't
pub same_either : (b : Bool) (ids : List (ℕ × Bool)) → cond b ids ids ≡ ids
same_either true ids = refl
same_either false ids = refl

pub changed_when : (name : List ℕ) (condition : Bool) (change : List (ℕ × Bool) → List (ℕ × Bool)) (old new : Kept) → condition ≡ true → ChangesName name change old new → ChangesName name (when condition change) old new
changed_when name condition change old new e h = subst (λ b. ChangesName name (when b change) old new) (sym e) h

pub unchanged_when : (name : List ℕ) (condition : Bool) (change : List (ℕ × Bool) → List (ℕ × Bool)) (old : Kept) → condition ≡ false → ChangesName name (when condition change) old old
unchanged_when name condition change old e other =
    subst (λ b. of_name other old ≡ cond (bytes_eq name other) (when b change (of_name other old)) (of_name other old)) (sym e) (sym (same_either (bytes_eq name other) (of_name other old)))
