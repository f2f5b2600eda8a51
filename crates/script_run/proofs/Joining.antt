-- Texts that are joined and cut.
use Rattle.std.proofs.Common.{◌≡◌, ℕ, zero, suc, ◌+◌, ◌-◌, ◌<◌, ◌≤◌, List, [], ◌∷◌, ◌++◌, length, take, refl, ap, sym, ◌∙◌, arith, length-append}
use Rattle.std.specs.Prelude.{get_or}
use Rattle.std.specs.List.{flat_map}
use Rattle.std.proofs.lemmas.List.{take_all, take_more, flat_map_more}
use Rattle.std.proofs.Math.Seq.{take-append-add}

pub cut_whole : (xs ys : List ℕ) → length xs ≤ 1996 → length ys ≤ 1996 - length xs → xs ++ ys ≡ take 1996 (xs ++ ys)
cut_whole xs ys h k = sym (take_all 1996 (xs ++ ys) (omega (arith, length-append xs ys)))

pub cut_part : (xs ys : List ℕ) → length xs ≤ 1996 → xs ++ take (1996 - length xs) ys ≡ take 1996 (xs ++ ys)
cut_part xs ys h =
    let whole : length xs + (1996 - length xs) ≡ 1996 = omega arith in
    sym (take-append-add xs ys (1996 - length xs)) ∙ ap (λ n. take n (xs ++ ys)) whole

-- what was cut before more is joined is cut the same
pub cut_twice : (n : ℕ) (xs ys : List ℕ) → take n (take n xs ++ ys) ≡ take n (xs ++ ys)
cut_twice zero xs ys = refl
cut_twice (suc n) [] ys = refl
cut_twice (suc n) (x ∷ xs) ys = ap (λ l. x ∷ l) (cut_twice n xs ys)

-- one text more
pub joined_more : {A : Type 0} → (f : A → List ℕ) (texts : List A) (i : ℕ) (text : A) (so_far : List ℕ) → i < length texts → text ≡ get_or texts i text
    → so_far ≡ take 1996 (flat_map f (take i texts)) → take 1996 (so_far ++ f text) ≡ take 1996 (flat_map f (take (i + 1) texts))
joined_more f texts i text so_far h at e =
    ap (λ s. take 1996 (s ++ f text)) e ∙ cut_twice 1996 (flat_map f (take i texts)) (f text)
    ∙ ap (take 1996) (flat_map_more f [] (take i texts) text ∙ ap (flat_map f) (sym (take_more texts i text h ∙ ap (λ x. take i texts ++ x ∷ []) (sym at))))

pub ruleset cut_steps = (cut_whole, cut_part)
