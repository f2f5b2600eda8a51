-- An index with one name more.
use Rattle.std.proofs.Common.{ℕ, ◌≡◌, ◌+◌, ◌<◌, Bool, true, false, cond, List, [], ◌∷◌, ◌++◌, length, take, get_or, reverse, refl, ap, sym, ◌∙◌}
use Rattle.std.specs.Prelude.{Option, Some, find, slice_get}
use Rattle.std.specs.Str.{bytes_eq}
use Rattle.std.specs.Ordering.{nat_cmp, is_eq}
use Rattle.std.specs.Cmp.Lexicographic.{slice_cmp}
use Rattle.std.proofs.lemmas.List.{take_more, reverse-append}
use Rattle.std.proofs.lemmas.Map.Text.{is_eq-slice_cmp}
use Rattle.mfs_edit.specs.Indexes.{item_at}

module _ {A : Type 0} (name_of : A → List ℕ) where
  named : List ℕ → A → Bool
  named name item = bytes_eq (name_of item) name

  by : (b : Bool) (items rest : List A) (place : ℕ) (item : A) (old found : Option ℕ) (p : A → Bool) → p item ≡ b → slice_get items place ≡ Some item
      → found ≡ cond b (Some place) old → item_at items old ≡ find p rest → item_at items found ≡ find p (item ∷ rest)
  by true items rest place item old found p e at f h = ap (item_at items) f ∙ at ∙ sym (ap (λ b. cond b (Some item) (find p rest)) e)
  by false items rest place item old found p e at f h = ap (item_at items) f ∙ h ∙ sym (ap (λ b. cond b (Some item) (find p rest)) e)

  pub placed : (f g : List ℕ → Option ℕ) (items : List A) (index : ℕ) (item : A) → index < length items → item ≡ get_or items index item → slice_get items index ≡ Some item
      → ((name : List ℕ) → g name ≡ cond (is_eq (slice_cmp nat_cmp (name_of item) name)) (Some index) (f name))
      → ((name : List ℕ) → item_at items (f name) ≡ find (λ i. bytes_eq (name_of i) name) (reverse (take index items)))
      → (name : List ℕ) → item_at items (g name) ≡ find (λ i. bytes_eq (name_of i) name) (reverse (take (index + 1) items))
  placed f g items index item within e at inserted h name =
      let more : take (index + 1) items ≡ take index items ++ item ∷ [] = take_more items index item within ∙ ap (λ (i : A). take index items ++ i ∷ []) (sym e) in
      let turned : reverse (take (index + 1) items) ≡ item ∷ reverse (take index items) = ap reverse more ∙ reverse-append (take index items) (item ∷ []) in
      by (bytes_eq (name_of item) name) items (reverse (take index items)) index item (f name) (g name) (λ i. bytes_eq (name_of i) name) refl at
      (inserted name ∙ ap (λ b. cond b (Some index) (f name)) (is_eq-slice_cmp (name_of item) name)) (h name)
      ∙ ap (find (λ i. bytes_eq (name_of i) name)) (sym turned)
