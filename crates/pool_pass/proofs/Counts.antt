-- What views have together, when one of them changes.
use Rattle.std.proofs.Common.{◌≡◌, ◌≢◌, ℕ, zero, suc, ◌+◌, ◌≤◌, List, [], ◌∷◌, ◌++◌, set, refl, sym, ap, arith}
use mathlib.Core.Option.{some, some-injective, some-ne-none}
use lib.ListN.{get_elem?}
use Rattle.pool_pass.specs.Rule.{in_all}
use Rattle.pool_pass.specs.declared.views.View.{View}

module _ {I : Type 0} (count : View I → ℕ) where
  pub in_all_set : (views : List (View I)) (seat : ℕ) (view now : View I) → get_elem? views seat ≡ some view → in_all count (set views seat now) + count view ≡ in_all count views + count now
  in_all_set [] seat view now at = absurd (some-ne-none view (sym at))
  in_all_set (v ∷ views) zero view now at = let same : count v ≡ count view = ap count (some-injective v view at) in omega arith
  in_all_set (v ∷ views) (suc seat) view now at = let rest = in_all_set views seat view now at in omega arith

  pub in_all_new : (views : List (View I)) (new : View I) → in_all count (views ++ new ∷ []) ≡ in_all count views + count new
  in_all_new [] new = omega arith
  in_all_new (v ∷ views) new = let rest = in_all_new views new in omega arith

  pub in_all_at : (views : List (View I)) (seat : ℕ) (view : View I) → get_elem? views seat ≡ some view → count view ≤ in_all count views
  in_all_at [] seat view at = absurd (some-ne-none view (sym at))
  in_all_at (v ∷ views) zero view at = let same : count v ≡ count view = ap count (some-injective v view at) in omega arith
  in_all_at (v ∷ views) (suc seat) view at = let rest = in_all_at views seat view at in omega arith

  -- two seats have together no more than all
  pub in_all_two : (views : List (View I)) (seat other : ℕ) (view its : View I) → other ≢ seat → get_elem? views seat ≡ some view → get_elem? views other ≡ some its → count view + count its ≤ in_all count views
  in_all_two [] seat other view its apart at there = absurd (some-ne-none view (sym at))
  in_all_two (v ∷ views) zero zero view its apart at there = absurd (apart refl)
  in_all_two (v ∷ views) zero (suc other) view its apart at there =
      let same : count v ≡ count view = ap count (some-injective v view at) in let rest = in_all_at views other its there in omega arith
  in_all_two (v ∷ views) (suc seat) zero view its apart at there =
      let same : count v ≡ count its = ap count (some-injective v its there) in let rest = in_all_at views seat view at in omega arith
  in_all_two (v ∷ views) (suc seat) (suc other) view its apart at there = let rest = in_all_two views seat other view its (λ e. apart (ap suc e)) at there in omega arith
