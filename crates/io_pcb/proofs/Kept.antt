-- A text that is given back is kept as a pad.
use Rattle.std.proofs.Common.{◌≡◌, ℕ, ◌-◌, ◌≤◌, ◌∷◌, [], List, length, take, Bool, true, false, zero, suc, refl, sym, ap, ◌∙◌, arith, subst}
use Rattle.std.specs.Prelude.{◌&&◌, ◌==◌, not, nat_lt, replicate, Option, Some, None, if◌then◌else◌}
use Rattle.std.specs.List.{list_all}
use Rattle.std.specs.Option.{is_some}
use Rattle.std.specs.Str.{bytes_eq}
use Rattle.std.proofs.lemmas.Bool.{and_parts, ltb-true, ltb-false}
use Rattle.std.proofs.lemmas.List.{length-append, length-replicate, length-take, take-append-le}
use Rattle.std.proofs.lemmas.List.Folds.{list_all-append}
use Rattle.tm_types.specs.Segment.{IsSegmentText, is_printable}
use Rattle.model_messages.specs.Pads.{code_field, fitted_pad, is_pad}
use Rattle.model_messages.specs.MessageCalls.{is_wrong_pad}
use Rattle.io_pcb.specs.Pads.{ArePadsKept, IsPadText, conversation_by}

pub fitted_length : (n : ℕ) (text : List ℕ) → length (fitted_pad n text) ≡ n
fitted_length n text =
    let whole = length-append (take n text) (replicate (n - length text) 32) in
    omega (arith, whole, length-take n text, length-replicate {A = ℕ} (n - length text) 32)

-- ---- the bytes are printable
all_blank : (n : ℕ) → list_all is_printable (replicate n 32) ≡ true
all_blank zero = refl
all_blank (suc n) = all_blank n

front_printable : (n : ℕ) (text : List ℕ) → list_all is_printable text ≡ true → list_all is_printable (take n text) ≡ true
front_printable zero text h = refl
front_printable (suc n) [] h = refl
front_printable (suc n) (x ∷ text) h =
    let parts = and_parts (is_printable x) (list_all is_printable text) h in
    (λ i. parts.0 i && front_printable n text parts.1 i)

fitted_printable : (n : ℕ) (text : List ℕ) → list_all is_printable text ≡ true → list_all is_printable (fitted_pad n text) ≡ true
fitted_printable n text h =
    list_all-append is_printable (take n text) (replicate (n - length text) 32)
    ∙ (λ i. front_printable n text h i && all_blank (n - length text) i)

-- ---- the front stays
take_front : (k n : ℕ) (text : List ℕ) → k ≤ n → take k (take n text) ≡ take k text
take_front zero n text h = refl
take_front (suc k) zero text h = absurd (omega (arith, h))
take_front (suc k) (suc n) [] h = refl
take_front (suc k) (suc n) (x ∷ text) h = λ i. x ∷ take_front k n text (omega (arith, h)) i

front_is : (n : ℕ) (text : List ℕ) → 8 ≤ n → 8 ≤ length text → take 8 (fitted_pad n text) ≡ take 8 text
front_is n text whole long =
    let size = length-take n text in
    let within : 8 ≤ length (take n text) = omega (arith, size, whole, long) in
    take-append-le 8 (take n text) (replicate (n - length text) 32) within ∙ take_front 8 n text whole

-- whether it is a pad is told by its front
long_pad : (code text : List ℕ) → is_pad code text ≡ true → nat_lt (length text) 8 ≡ false
long_pad code text h = by (nat_lt (length text) 8) refl h
  where
    by : (short : Bool) → nat_lt (length text) 8 ≡ short
        → (if short then false else (if bytes_eq (take 8 text) (replicate 8 32) then true else bytes_eq (take 8 text) (code_field code))) ≡ true
        → nat_lt (length text) 8 ≡ false
    by true e g = cc
    by false e g = e

fitted_good : (code text : List ℕ) (n : ℕ) → 8 ≤ n → is_pad code text ≡ true → is_pad code (fitted_pad n text) ≡ true
fitted_good code text n whole good =
    let long : nat_lt (length text) 8 ≡ false = long_pad code text good in
    let here = ltb-false (length text) 8 long in
    let front : take 8 (fitted_pad n text) ≡ take 8 text = front_is n text whole (omega (arith, here)) in
    let size = fitted_length n text in
    let also : nat_lt (length (fitted_pad n text)) 8 ≡ false = not_less (length (fitted_pad n text)) (omega (arith, size, whole)) in
    (λ i. if (also ∙ sym long) i then false else (if bytes_eq (front i) (replicate 8 32) then true else bytes_eq (front i) (code_field code))) ∙ good
  where
    not_less : (m : ℕ) → 8 ≤ m → nat_lt m 8 ≡ false
    not_less m h = by (nat_lt m 8) refl
      where
        by : (b : Bool) → nat_lt m 8 ≡ b → nat_lt m 8 ≡ false
        by true e = absurd (let less = ltb-true m 8 e in omega (arith, less, h))
        by false e = e

-- ---- what is kept
pad_text : (code pad : List ℕ) (had : Option (List ℕ)) → ArePadsKept code (Some pad) had → IsPadText pad
pad_text code pad None kept = kept
pad_text code pad (Some text) kept = kept.0

good_of : (gives good : Bool) → gives ≡ true → gives && not good ≡ false → good ≡ true
good_of true true e f = refl
good_of true false e f = cc
good_of false good e f = cc

kept_so : (code pad text whole : List ℕ) (had : Option (List ℕ)) (gives : Bool) → ArePadsKept code (Some pad) had → IsSegmentText text
    → gives ≡ true → gives && not (is_pad code text) ≡ false → whole ≡ fitted_pad (length pad) text
    → ArePadsKept code (Some pad) (Some whole)
kept_so code pad text whole had gives kept held does right same =
    let is : IsPadText pad = pad_text code pad had kept in
    let size : length whole ≡ length pad = ap length same ∙ fitted_length (length pad) text in (
      is,
      record {
        size = size;
        good = ap (is_pad code) same ∙ fitted_good code text (length pad) is.code (good_of gives (is_pad code text) does right);
        held = (omega (arith, size, is.held.0), ap (list_all is_printable) same ∙ fitted_printable (length pad) text held.1);
      },
    )

pub back_is : (code : List ℕ) (pad had : Option (List ℕ)) (of text whole : List ℕ) (pcb : ℕ) → pad ≡ Some of → ArePadsKept code pad had → IsSegmentText text
    → ((pcb == 0) && is_some (conversation_by code pad) && not (is_some had)) ≡ true
    → ((pcb == 0) && is_some (conversation_by code pad) && not (is_some had)) && is_wrong_pad (conversation_by code pad) text ≡ false
    → whole ≡ fitted_pad (length of) text
    → ArePadsKept code pad (Some whole)
back_is code pad had of text whole pcb e kept held does right same =
    subst (λ p. ArePadsKept code p (Some whole)) (sym e)
    (kept_so code of text whole had ((pcb == 0) && is_some (conversation_by code (Some of)) && not (is_some had))
    (subst (λ p. ArePadsKept code p had) e kept) held
    (subst (λ p. ((pcb == 0) && is_some (conversation_by code p) && not (is_some had)) ≡ true) e does)
    (subst (λ p. ((pcb == 0) && is_some (conversation_by code p) && not (is_some had)) && is_wrong_pad (conversation_by code p) text ≡ false) e right)
    same)
