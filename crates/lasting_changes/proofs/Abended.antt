-- The text of an abend is a segment's.
use Rattle.std.proofs.Common.{◌≡◌, ℕ, ◌/◌, Bool, true, false, ◌&&◌, List, [], ◌∷◌, ◌++◌, refl, arith}
use Rattle.std.specs.Prelude.{codes}
use Rattle.std.specs.List.{list_all}
use Rattle.std.proofs.lemmas.Bool.{and_parts, and_from}
use Rattle.std.proofs.lemmas.List.{length-append}
use Rattle.tm_types.specs.declared.abend.AbendCode.{AbendCode}
use Rattle.tm_types.specs.Name.{IsName, is_name_byte}
use Rattle.tm_types.specs.Digits.{digit, four_digits}
use Rattle.tm_types.specs.Segment.{IsSegmentText, is_printable}
use Rattle.model_machine.specs.LastingSteps.{dfs555i_text}

abbrev Printable : List ℕ → Type 0
Printable text = list_all is_printable text ≡ true

pub both : (xs ys : List ℕ) → Printable xs → Printable ys → Printable (xs ++ ys)
both [] ys a b = b
both (x ∷ xs) ys a b = by (is_printable x) a (both xs ys)
  where
    by : (p : Bool) → (p && list_all is_printable xs) ≡ true → (Printable xs → Printable ys → Printable (xs ++ ys)) → (p && list_all is_printable (xs ++ ys)) ≡ true
    by true h rest = rest h b
    by false h rest = cc

digit_prints : (n : ℕ) → is_printable (digit n) ≡ true
digit_prints n = search arith

byte_prints : (b : ℕ) → is_name_byte b ≡ true → is_printable b ≡ true
byte_prints b h = search arith

pub name_prints : (name : List ℕ) → list_all is_name_byte name ≡ true → Printable name
name_prints [] h = refl
name_prints (b ∷ name) h =
    let parts = and_parts (is_name_byte b) (list_all is_name_byte name) h in
    and_from (is_printable b) (list_all is_printable name) (byte_prints b parts.0) (name_prints name parts.1)

digits_print : (n : ℕ) → Printable (four_digits n)
digits_print n =
    and_from (is_printable (digit (n / 1000))) _ (digit_prints (n / 1000)) (and_from (is_printable (digit (n / 100))) _ (digit_prints (n / 100))
    (and_from (is_printable (digit (n / 10))) _ (digit_prints (n / 10)) (and_from (is_printable (digit n)) true (digit_prints n) refl)))

pub text_is : (code : List ℕ) (abend : AbendCode) (text : List ℕ) → IsName code → text ≡ dfs555i_text code abend → IsSegmentText text
text_is code abend text named is =
    let start = codes "DFS555I TRAN " in
    let middle = codes " ABEND U" in
    let digits = four_digits abend.number in
    rw is (
      omega (arith, named.1, length-append (start ++ code ++ middle) digits, length-append (start ++ code) middle, length-append start code),
      both (start ++ code ++ middle) digits (both (start ++ code) middle (both start code refl (name_prints code named.2)) refl) (digits_print abend.number),
    )
