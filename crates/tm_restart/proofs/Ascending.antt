-- Slots of all databases are put in the order of their sectors.
use Rattle.std.proofs.Common.{◌≡◌, ℕ, zero, suc, ◌+◌, List, [], ◌∷◌, ◌++◌, take, drop, refl, sym, ◌∙◌, ap, subst, arith, Some, append_assoc}
use Rattle.std.specs.Prelude.{slice_get}
use Rattle.std.proofs.lemmas.List.{append-nil}
use Rattle.tm_disk.specs.Disk.{Image}
use Rattle.model_system.specs.System.{System}
use Rattle.model_system.specs.Areas.{data_first}
use Rattle.seg_store.specs.DataSectors.{HasPut, PutsFront}
use Rattle.seg_store.specs.WrittenSlots.{behind}
use Rattle.seg_store.proofs.WritingBack.{has_both, has_behind, front_both, front_behind}
use Rattle.tm_restart.specs.GivenSlots.{GivenSlots, given_from, all_pieces}
use Rattle.tm_restart.proofs.AllPut.{pieces}

-- one database more
one_more : (system : System) (from : ℕ) (given : GivenSlots) (i : ℕ) (slots : List (ℕ × List ℕ)) → slice_get given i ≡ Some slots
    → given_from system from (take (i + 1) given) ≡ given_from system from (take i given) ++ behind (data_first system (from + i)) (pieces system (from + i) slots)
one_more system from [] i slots found = absurd (none_of i found) where
  none_of : (n : ℕ) → slice_get {X = List (ℕ × List ℕ)} [] n ≡ Some slots → ⊥
  none_of n e = cc
one_more system from (s ∷ given) zero slots found =
    let same : s ≡ slots = cc in
    append-nil (behind (data_first system from) (pieces system from s))
    ∙ ap (λ (l : List (ℕ × List ℕ)). behind (data_first system from) (pieces system from l)) same
    ∙ ap (λ n. behind (data_first system n) (pieces system n slots)) (omega arith)
one_more system from (s ∷ given) (suc i) slots found =
    let more : suc i + 1 ≡ suc (i + 1) = omega arith in
    let front : List (ℕ × List ℕ) = behind (data_first system from) (pieces system from s) in
    ap (λ n. given_from system from (take n (s ∷ given))) more
    ∙ ap (λ (l : List (ℕ × List ℕ)). front ++ l) (one_more system (from + 1) given i slots found)
    ∙ ap (λ n. front ++ (given_from system (from + 1) (take i given) ++ behind (data_first system n) (pieces system n slots))) (omega arith)
    ∙ sym (append_assoc front (given_from system (from + 1) (take i given)) (behind (data_first system (from + suc i)) (pieces system (from + suc i) slots)))

-- the first databases, and then the others
up_to : (system : System) (from : ℕ) (given : GivenSlots) (i : ℕ) → given_from system from given ≡ given_from system from (take i given) ++ given_from system (from + i) (drop i given)
up_to system from [] zero = refl
up_to system from [] (suc i) = refl
up_to system from (s ∷ given) zero = ap (λ n. given_from system n (s ∷ given)) (omega arith)
up_to system from (s ∷ given) (suc i) =
    let front : List (ℕ × List ℕ) = behind (data_first system from) (pieces system from s) in
    ap (λ (l : List (ℕ × List ℕ)). front ++ l) (up_to system (from + 1) given i)
    ∙ ap (λ n. front ++ (given_from system (from + 1) (take i given) ++ given_from system n (drop i given))) (omega arith)
    ∙ sym (append_assoc front (given_from system (from + 1) (take i given)) (given_from system (from + suc i) (drop i given)))

pub none_put : (image : Image) → HasPut 0 [] image image
none_put image = record { size = refl; each = λ at. refl }

module _ (system : System) (given : GivenSlots) (i : ℕ) (slots : List (ℕ × List ℕ)) (there : slice_get given i ≡ Some slots) where
  more_is : given_from system 0 (take (i + 1) given) ≡ given_from system 0 (take i given) ++ behind (data_first system i) (pieces system i slots)
  more_is = one_more system 0 given i slots there ∙ ap (λ n. given_from system 0 (take i given) ++ behind (data_first system n) (pieces system n slots)) (omega arith)

  pub next_has : (a b c : Image) → HasPut 0 (given_from system 0 (take i given)) a b → HasPut (data_first system i) (pieces system i slots) b c → HasPut 0 (given_from system 0 (take (i + 1) given)) a c
  next_has a b c before after =
      let here : HasPut 0 (behind (data_first system i) (pieces system i slots)) b c =
      has_behind 0 (data_first system i) (pieces system i slots) b c (subst (λ n. HasPut n (pieces system i slots) b c) (omega arith) after) in
      subst (λ (l : List (ℕ × List ℕ)). HasPut 0 l a c) (sym more_is) (has_both 0 (given_from system 0 (take i given)) (behind (data_first system i) (pieces system i slots)) a b c before here)

  pub next_front : (a b c : Image) → HasPut 0 (given_from system 0 (take i given)) a b → PutsFront (data_first system i) (pieces system i slots) b c → PutsFront 0 (all_pieces system given) a c
  next_front a b c before puts =
      let here : PutsFront 0 (behind (data_first system i) (pieces system i slots)) b c =
      front_behind 0 (data_first system i) (pieces system i slots) b c (subst (λ n. PutsFront n (pieces system i slots) b c) (omega arith) puts) in
      let more : List (ℕ × List ℕ) = given_from system (0 + (i + 1)) (drop (i + 1) given) in
      subst (λ (l : List (ℕ × List ℕ)). PutsFront 0 l a c)
      (sym (up_to system 0 given (i + 1) ∙ ap (λ (l : List (ℕ × List ℕ)). l ++ more) more_is))
      (front_both 0 (given_from system 0 (take i given)) (behind (data_first system i) (pieces system i slots)) more a b c before here)
