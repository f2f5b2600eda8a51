-- The length of a scratch pad, read as a number in a range.
use Rattle.std.proofs.Common.{ℕ, ◌≡◌, ◌&&◌, cond, min, nat_le, Bool, true, false, List, Ok, Err, refl, ap, arith}
use Rattle.std.proofs.lemmas.Bool.Decides.{nat_tests}
use Rattle.text_rows.specs.Numbers.{is_number, number_between, number_of}
use Rattle.sysdef_rows.specs.Values.{capped_pad, pad_length_of}

within : (n : ℕ) → nat_le n 65535 ≡ true → n ≡ min n 65535
within n e = grind (arith, nat_tests, e)

above : (n : ℕ) → nat_le n 65535 ≡ false → 65535 ≡ min n 65535
above n e = grind (arith, nat_tests, e)

by_tests : (number least most : Bool) (n : ℕ) → nat_le 0 n ≡ least → nat_le n 65535 ≡ most
    → capped_pad (cond number (cond (least && most) (Ok n) (Err 6)) (Err 5)) ≡ cond number (Ok (min n 65535)) (Err 5)
by_tests false least most n e f = refl
by_tests true true true n e f = ap Ok (within n f)
by_tests true true false n e f = ap Ok (above n f)
by_tests true false most n e f = grind (arith, nat_tests, e)

pub pad_is : (text : List ℕ) → capped_pad (number_between 0 65535 text) ≡ pad_length_of text
unfolding number_between pad_length_of
pad_is text = by_tests (is_number text) (nat_le 0 (number_of text)) (nat_le (number_of text) 65535) (number_of text) refl refl
