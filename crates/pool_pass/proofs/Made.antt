-- The passes of a new pool, one more made.
use Rattle.std.proofs.Common.{◌≡◌, ℕ, suc, ◌+◌, ◌-◌, ◌<◌, List, [], ◌∷◌, ◌++◌, sym, ap, ◌∙◌, arith, append_assoc}
use Rattle.pool_pass.specs.Passes.{PassState, passes_from}

module _ {I : Type 0} where
  -- a pass with this number and an empty list
  abbrev pub fresh : ℕ → ℕ → PassState I
  fresh passes number = record { passes = passes; number = number; list = []; joined = [] }

  pub one_made : (passes left made : ℕ) (list all : List (PassState I)) → made < left → left < passes
      → list ++ passes_from passes (passes - (left - made)) (left - made) ≡ all
      → (list ++ fresh passes (passes - (left - made)) ∷ []) ++ passes_from passes (passes - (left - (made + 1))) (left - (made + 1)) ≡ all
  one_made passes left made list all more few is =
      let rest : ℕ = left - (made + 1) in
      let one : left - made ≡ suc rest = omega arith in
      let next : suc (passes - suc rest) ≡ passes - rest = omega arith in
      append_assoc list (fresh passes (passes - (left - made)) ∷ []) (passes_from passes (passes - rest) rest)
      ∙ ap (λ k. list ++ fresh passes (passes - k) ∷ passes_from passes (passes - rest) rest) one
      ∙ ap (λ k. list ++ fresh passes (passes - suc rest) ∷ passes_from passes k rest) (sym next)
      ∙ ap (λ k. list ++ passes_from passes (passes - k) k) (sym one)
      ∙ is
