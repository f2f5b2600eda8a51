-- Numbers that stand at most once in a list as long as they are many: each of them stands in it.
use Rattle.std.proofs.Common.{◌≡◌, ◌≢◌, ℕ, zero, suc, ◌+◌, ◌<◌, ◌≤◌, true, false, ◌∙◌, List, [], ◌∷◌, length, refl, ap, subst, ⊎_elim, arith}
use Rattle.std.proofs.lemmas.Bool.{cases_lt}
use Rattle.std.proofs.lemmas.Bool.Decides.{eqb_tells}
use Rattle.std.specs.Prelude.{◌==◌}
use Rattle.pool_pass.specs.Book.{times}
use Rattle.pool_pass.proofs.Books.{times_here, times_else}

module _ {I : Type 0} where
  -- how often the numbers below `many` stand together
  abbrev pub upto : ℕ → List (ℕ × List I) → ℕ
  upto zero kept = 0
  upto (suc many) kept = times many kept + upto many kept

pub upto_none : (I : Type 0) (many : ℕ) → upto {I = I} many [] ≡ 0
upto_none I zero = refl
upto_none I (suc many) = let rest = upto_none I many in omega arith

module _ {I : Type 0} where
  pub upto_past : (many number : ℕ) (list : List I) (kept : List (ℕ × List I)) → many ≤ number → upto many ((number, list) ∷ kept) ≡ upto many kept
  upto_past zero number list kept past = refl
  upto_past (suc many) number list kept past =
      let here = times_else many number list kept (λ e. omega (arith, e)) in
      let rest = upto_past many number list kept (omega arith) in omega (arith, here, rest)

  pub upto_one : (many number : ℕ) (list : List I) (kept : List (ℕ × List I)) → number < many → upto many ((number, list) ∷ kept) ≡ suc (upto many kept)
  upto_one zero number list kept below = absurd (omega arith)
  upto_one (suc many) number list kept below = ⊎_elim
      (λ (is : ((number == many) ≡ true) × (number ≡ many)).
      let here : times many ((number, list) ∷ kept) ≡ suc (times many kept) = subst (λ k. times k ((number, list) ∷ kept) ≡ suc (times k kept)) is.1 (times_here number list kept) in
      let rest = upto_past many number list kept (omega (arith, is.1)) in omega (arith, here, rest))
      (λ (not : ((number == many) ≡ false) × (number ≢ many)).
      let here = times_else many number list kept not.1 in
      let apart = not.1 in
      let rest = upto_one many number list kept (omega (arith, apart)) in omega (arith, here, rest))
      (eqb_tells number many)

  pub upto_all : (many : ℕ) (kept : List (ℕ × List I)) → ((number : ℕ) → many ≤ number → times number kept ≡ 0) → upto many kept ≡ length kept
  upto_all many [] none = upto_none I many
  upto_all many (entry ∷ kept) none = ⊎_elim
      (λ (below : entry.0 < many). upto_one many entry.0 entry.1 kept below ∙ ap suc (upto_all many kept (λ number past. let all = none number past in omega arith)))
      (λ (past : many ≤ entry.0). let one = times_here entry.0 entry.1 kept in let all = none entry.0 past in absurd (omega (arith, one, all)))
      (cases_lt entry.0 many)

  pub upto_most : (many : ℕ) (kept : List (ℕ × List I)) → ((number : ℕ) → number < many → times number kept ≤ 1) → upto many kept ≤ many
  upto_most zero kept once = omega arith
  upto_most (suc many) kept once =
      let last = once many (omega arith) in let rest = upto_most many kept (λ number below. once number (omega arith)) in omega arith

  pub upto_gap : (many : ℕ) (kept : List (ℕ × List I)) → ((number : ℕ) → number < many → times number kept ≤ 1) → (gap : ℕ) → gap < many → times gap kept ≡ 0 → upto many kept < many
  upto_gap zero kept once gap below none = absurd (omega arith)
  upto_gap (suc many) kept once gap below none = ⊎_elim
      (λ (is : ((gap == many) ≡ true) × (gap ≡ many)).
      let here : times many kept ≡ 0 = subst (λ k. times k kept ≡ 0) is.1 none in
      let rest = upto_most many kept (λ number less. once number (omega arith)) in omega arith)
      (λ (not : ((gap == many) ≡ false) × (gap ≢ many)).
      let apart = not.1 in
      let last = once many (omega arith) in
      let rest = upto_gap many kept (λ number less. once number (omega arith)) gap (omega (arith, apart)) none in omega arith)
      (eqb_tells gap many)

  -- no number is missing
  pub none_missing : (many : ℕ) (kept : List (ℕ × List I)) → ((number : ℕ) → number < many → times number kept ≤ 1) → ((number : ℕ) → many ≤ number → times number kept ≡ 0) → many ≤ length kept → (gap : ℕ) → gap < many → times gap kept ≡ 0 → ⊥
  none_missing many kept once none long gap below missing = let less = upto_gap many kept once gap below missing in let all = upto_all many kept none in absurd (omega (arith, less, all))
