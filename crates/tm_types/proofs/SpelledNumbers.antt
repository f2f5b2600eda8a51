-- A text spells a number exactly where it is the number's digits.
use Rattle.std.proofs.Common.{◌≡◌, ℕ, Bool, true, false, ◌&&◌, List, [], ◌∷◌, ◌++◌, length, refl, sym, ap, ◌∙◌, arith}
use Rattle.std.specs.Prelude.{◌<◌, ◌≤◌, ◌+◌, ◌-◌, ◌*◌, ◌^◌, ◌%◌, Some, None, if◌then◌else◌, decimal, nat_le}
use Rattle.std.specs.Str.{bytes_eq}
use Rattle.std.proofs.lemmas.Bool.Decides.{nat_tests}
use Rattle.std.proofs.lemmas.Fmt.{decimal_by_steps, decimal_nonempty}
use Rattle.std.proofs.lemmas.Slice.Eq.{bytes_eq-Decides}
use Rattle.tm_types.specs.Digits.{number_after, number_of, spelled_number}

pub record IsSpelled (low high : ℕ) (text : List ℕ) (number : ℕ) : Type 0 where
  pub least : low ≤ number
  pub most : number ≤ high
  pub digits : text ≡ decimal number

after_more : (n : ℕ) (digits : List ℕ) (digit : ℕ) → number_after n (digits ++ digit ∷ []) ≡ 10 * number_after n digits + (digit - 48)
after_more n [] digit = refl
after_more n (first ∷ digits) digit = after_more (10 * n + (first - 48)) digits digit

number_back : (n : ℕ) → n < 2 ^ 64 → number_after 0 (decimal n) ≡ n
number_back = decimal_by_steps (λ n ds. number_after 0 ds ≡ n) (λ n h. omega arith)
    (λ n ds low h. after_more 0 ds (48 + n % 10) ∙ omega (arith, h))

pub some_digits : (n : ℕ) → n ≤ 255 → 0 < length (decimal n)
some_digits n most = decimal_nonempty n (omega arith)

pub spelled_is : (low high : ℕ) (text : List ℕ) (n : ℕ) → spelled_number low high text ≡ Some n → IsSpelled low high text n
unfolding spelled_number
spelled_is low high text n is = by (number_of text) (bytes_eq (decimal (number_of text)) text) refl refl is
  where
    by : (m : ℕ) (same : Bool) → number_of text ≡ m → bytes_eq (decimal (number_of text)) text ≡ same
        → (if nat_le low m && nat_le m high && same then Some m else None) ≡ Some n → IsSpelled low high text n
    by m same at e h = tested (nat_le low m) (nat_le m high) same refl refl e h
      where
        tested : (a b c : Bool) → nat_le low m ≡ a → nat_le m high ≡ b → bytes_eq (decimal (number_of text)) text ≡ c
            → (if a && b && c then Some m else None) ≡ Some n → IsSpelled low high text n
        tested true true true ia ib ic f =
            let value : m ≡ n = the_number m n f in
            record {
              least = grind (arith, nat_tests);
              most = grind (arith, nat_tests);
              digits = sym ((bytes_eq-Decides (decimal (number_of text)) text).0 ic) ∙ ap decimal (at ∙ value);
            }
          where
            the_number : (x y : ℕ) → Some x ≡ Some y → x ≡ y
            the_number x y g = cc
        tested true true false ia ib ic f = cc
        tested true false c ia ib ic f = cc
        tested false b c ia ib ic f = cc

pub number_spelled : (low high n : ℕ) → low ≤ n → n ≤ high → high < 2 ^ 64 → spelled_number low high (decimal n) ≡ Some n
unfolding spelled_number number_of
number_spelled low high n least most fits =
    ap (λ m. if nat_le low m && nat_le m high && bytes_eq (decimal m) (decimal n) then Some m else None) (number_back n (omega arith))
    ∙ by (nat_le low n) (nat_le n high) (bytes_eq (decimal n) (decimal n)) (grind (arith, nat_tests)) (grind (arith, nat_tests)) ((bytes_eq-Decides (decimal n) (decimal n)).1 refl)
  where
    by : (a b c : Bool) → a ≡ true → b ≡ true → c ≡ true → (if a && b && c then Some n else None) ≡ Some n
    by true true true ia ib ic = refl
    by true true false ia ib ic = cc
    by true false c ia ib ic = cc
    by false b c ia ib ic = cc
