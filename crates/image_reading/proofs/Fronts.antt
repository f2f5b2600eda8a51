-- A front of some parts is one of a text of them.
use Rattle.std.proofs.Common.{◌≡◌, ◌⊎◌, inl, inr, ℕ, zero, suc, ◌+◌, ◌-◌, ◌<◌, ◌≤◌, Bool, true, List, [], ◌∷◌, ◌++◌, length, refl, sym, ◌∙◌, ap, arith, Some, None}
use Rattle.std.specs.Prelude.{Option, nat_le}
use Rattle.std.proofs.lemmas.Bool.{cases_lt, leb-true, le-leb, and_parts, and_from}
use Rattle.log_records.proofs.Takes.{IsBytes, IsBytes-rest}
use Rattle.image_reading.specs.declared.parts.Part.{Part}
use Rattle.image_reading.specs.declared.parts.Part.TheVariants.{Exactly, Flag, Positive, Any, Names, Abend, Name, Text, TextLow, Segments, Segment, SegmentLow, SegmentBytes}
use Rattle.image_reading.specs.RecordParts.{part_step, least, most, leasts, mosts, left_before, layout_goes_on, is_front}
use Rattle.image_reading.proofs.Ranges.{IsPart, IsLeft, least_left, most_left, step_behind, Leads, wide}

abbrev pub AreParts : List Part → Type 0
AreParts [] = Unit {0}
AreParts (part ∷ parts) = IsPart part × AreParts parts

-- the bytes are a text of these parts
abbrev pub is_text : List Part → List ℕ → Bool
is_text parts bytes = is_front 0 parts bytes

pub bytes_nil : IsBytes []
bytes_nil i = omega arith

pub bytes_cons : (b : ℕ) (bytes : List ℕ) → b < 256 → IsBytes bytes → IsBytes (b ∷ bytes)
bytes_cons b bytes lt are zero = lt
bytes_cons b bytes lt are (suc i) = are i

pub bytes_both : (xs ys : List ℕ) → IsBytes xs → IsBytes ys → IsBytes (xs ++ ys)
bytes_both [] ys are also = also
bytes_both (x ∷ xs) ys are also = bytes_cons x (xs ++ ys) (are 0) (bytes_both xs ys (IsBytes-rest x xs are) also)

-- each part has a byte
one : (part : Part) → 1 ≤ least part
one (Exactly byte) = omega arith
one Flag = omega arith
one Positive = omega arith
one (Any n) = omega arith
one (Names n) = omega arith
one Abend = omega arith
one Name = omega arith
one (Text limit) = omega arith
one (TextLow limit high) = omega arith
one Segments = omega arith
one (Segment more) = omega arith
one (SegmentLow more high) = omega arith
one (SegmentBytes more n) = omega arith

part_ordered : (part : Part) → IsPart part → least part ≤ most part
part_ordered (Exactly byte) is = omega (arith)
part_ordered Flag is = omega (arith)
part_ordered Positive is = omega (arith)
part_ordered (Any n) is = omega (arith)
part_ordered (Names n) is = omega (arith)
part_ordered Abend is = omega (arith)
part_ordered Name is = omega (arith)
part_ordered (Text limit) is = omega (arith)
part_ordered (TextLow limit high) is = omega (arith, is)
part_ordered Segments is = omega (arith)
part_ordered (Segment more) is = omega (arith)
part_ordered (SegmentLow more high) is = omega (arith, is)
part_ordered (SegmentBytes more n) is = omega (arith)

ordered : (parts : List Part) → AreParts parts → leasts parts ≤ mosts parts
ordered [] are = omega arith
ordered (part ∷ parts) are = omega (arith, part_ordered part are.0, ordered parts are.1)

-- ---- lengths

least_before : (left : Option Part) (parts : List Part) → leasts (left_before left parts) ≡ least_left left + leasts parts
least_before None parts = omega arith
least_before (Some part) parts = refl

most_before : (left : Option Part) (parts : List Part) → mosts (left_before left parts) ≡ most_left left + mosts parts
most_before None parts = omega arith
most_before (Some part) parts = refl

parts_before : (left : Option Part) (parts : List Part) → IsLeft left → AreParts parts → AreParts (left_before left parts)
parts_before None parts is are = are
parts_before (Some part) parts is are = (is, are)

pub goes_before : (further : List Part → Bool) (parts : List Part) (left : Option Part) → layout_goes_on further parts (Some left) ≡ further (left_before left parts)
goes_before further parts None = refl
goes_before further parts (Some part) = refl

-- a text of so many bytes
pub record Whole (parts : List Part) (n : ℕ) : Type 0 where
  pub bytes : List ℕ
  pub size : length bytes ≡ n
  pub are_bytes : IsBytes bytes
  pub is : is_text parts bytes ≡ true

none_left : (parts : List Part) → leasts parts ≤ 0 → is_text parts [] ≡ true
none_left parts few = and_from (nat_le (leasts parts) 0) (nat_le 0 (mosts parts)) (le-leb (leasts parts) 0 few) (le-leb 0 (mosts parts) (omega arith))

pub some_text : (n : ℕ) (parts : List Part) → AreParts parts → leasts parts ≤ n → n ≤ mosts parts → Whole parts n
some_text zero parts are few many = record { bytes = []; size = refl; are_bytes = bytes_nil; is = none_left parts few }
some_text (suc n) [] are few many = absurd (omega (arith, many))
some_text (suc n) (part ∷ parts) are few many =
    by_first (cases_lt (suc n) (most part + leasts parts)) (λ others are_others. some_text n others are_others) where
      longer : (first : ℕ) (l : Leads part first) → IsLeft l.left → least_left l.left + leasts parts ≤ n → n ≤ most_left l.left + mosts parts →
          ((others : List Part) → AreParts others → leasts others ≤ n → n ≤ mosts others → Whole others n) → Whole (part ∷ parts) (suc n)
      longer first l valid low high rest =
          let later = rest (left_before l.left parts) (parts_before l.left parts valid are.1)
          (omega (arith, low, least_before l.left parts)) (omega (arith, high, most_before l.left parts)) in
          record {
            bytes = l.byte ∷ later.bytes;
            size = omega (arith, later.size);
            are_bytes = bytes_cons l.byte later.bytes l.is_byte later.are_bytes;
            is = ap (layout_goes_on (λ further. is_text further later.bytes) parts) l.steps ∙ goes_before (λ further. is_text further later.bytes) parts l.left ∙ later.is;
          }

      lead : (first : ℕ) → least part ≤ suc first → suc first ≤ most part → first + leasts parts ≤ n → n ≤ first + mosts parts →
          ((others : List Part) → AreParts others → leasts others ≤ n → n ≤ mosts others → Whole others n) → Whole (part ∷ parts) (suc n)
      lead first low high under over rest =
          let l = wide part first are.0 low high in
          longer first l (step_behind part l.byte l.left l.steps).valid (omega (arith, l.few, under)) (omega (arith, l.many, over)) rest

      by_first : (suc n < most part + leasts parts) ⊎ (most part + leasts parts ≤ suc n) →
          ((others : List Part) → AreParts others → leasts others ≤ n → n ≤ mosts others → Whole others n) → Whole (part ∷ parts) (suc n)
      by_first (inl below) rest =
          lead (n - leasts parts) (omega (arith, few, one part)) (omega (arith, below, few, one part)) (omega (arith, few, one part)) (omega (arith, few, one part, ordered parts are.1)) rest
      by_first (inr above) rest =
          lead (most part - 1) (omega (arith, one part, part_ordered part are.0)) (omega (arith, one part, part_ordered part are.0)) (omega (arith, above, one part, part_ordered part are.0)) (omega (arith, many, one part, part_ordered part are.0)) rest

-- each text has one of these lengths
pub text_within : (parts : List Part) (bytes : List ℕ) → is_text parts bytes ≡ true → (leasts parts ≤ length bytes) × (length bytes ≤ mosts parts)
text_within parts [] is =
    let tests = and_parts (nat_le (leasts parts) 0) (nat_le 0 (mosts parts)) is in
    (leb-true (leasts parts) 0 tests.0, omega arith)
text_within [] (b ∷ bytes) is = absurd cc
text_within (part ∷ parts) (b ∷ bytes) is =
    by_step (part_step part b) refl is (λ others. text_within others bytes) where
      by_step : (found : Option (Option Part)) → part_step part b ≡ found → layout_goes_on (λ further. is_text further bytes) parts found ≡ true →
          ((others : List Part) → is_text others bytes ≡ true → (leasts others ≤ length bytes) × (length bytes ≤ mosts others)) → (least part + leasts parts ≤ suc (length bytes)) × (suc (length bytes) ≤ most part + mosts parts)
      by_step None at is rest = absurd cc
      by_step (Some left) at is rest =
          let r = rest (left_before left parts) (sym (goes_before (λ further. is_text further bytes) parts left) ∙ is) in
          let s = step_behind part b left at in
          (omega (arith, r.0, s.few, least_before left parts), omega (arith, r.1, s.many, most_before left parts))

pub not_empty : (part : Part) (others : List Part) → is_text (part ∷ others) [] ≡ true → ⊥
not_empty part others is =
    let tests = and_parts (nat_le (leasts (part ∷ others)) 0) (nat_le 0 (mosts (part ∷ others))) is in
    let none : least part + leasts others ≤ 0 = leb-true (leasts (part ∷ others)) 0 tests.0 in
    omega (arith, none, one part)

-- ---- fronts

-- what is missing behind a front
pub record Missing (parts : List Part) (bytes : List ℕ) (n : ℕ) : Type 0 where
  pub missing : List ℕ
  pub size : length missing ≡ n
  pub are_bytes : IsBytes missing
  pub is : is_text parts (bytes ++ missing) ≡ true

pub front_of : (n : ℕ) (parts : List Part) (bytes : List ℕ) → AreParts parts → is_front n parts bytes ≡ true → Missing parts bytes n
front_of n parts [] valid is =
    let tests = and_parts (nat_le (leasts parts) n) (nat_le n (mosts parts)) is in
    let t = some_text n parts valid (leb-true (leasts parts) n tests.0) (leb-true n (mosts parts) tests.1) in
    record { missing = t.bytes; size = t.size; are_bytes = t.are_bytes; is = t.is }
front_of n [] (b ∷ bytes) valid is = absurd cc
front_of n (part ∷ parts) (b ∷ bytes) valid is =
    by_step (part_step part b) refl is (λ others valid_others. front_of n others bytes valid_others) where
      by_step : (found : Option (Option Part)) → part_step part b ≡ found → layout_goes_on (λ further. is_front n further bytes) parts found ≡ true →
          ((others : List Part) → AreParts others → is_front n others bytes ≡ true → Missing others bytes n) → Missing (part ∷ parts) (b ∷ bytes) n
      by_step None at is rest = absurd cc
      by_step (Some left) at is rest =
          let s = step_behind part b left at in
          let m = rest (left_before left parts) (parts_before left parts s.valid valid.1) (sym (goes_before (λ further. is_front n further bytes) parts left) ∙ is) in
          record {
            missing = m.missing;
            size = m.size;
            are_bytes = m.are_bytes;
            is = ap (layout_goes_on (λ further. is_text further (bytes ++ m.missing)) parts) at ∙ goes_before (λ further. is_text further (bytes ++ m.missing)) parts left ∙ m.is;
          }

pub is_front_of : (parts : List Part) (bytes missing : List ℕ) → is_text parts (bytes ++ missing) ≡ true → is_front (length missing) parts bytes ≡ true
is_front_of parts [] missing is =
    let w = text_within parts missing is in
    and_from (nat_le (leasts parts) (length missing)) (nat_le (length missing) (mosts parts)) (le-leb (leasts parts) (length missing) w.0) (le-leb (length missing) (mosts parts) w.1)
is_front_of [] (b ∷ bytes) missing is = absurd cc
is_front_of (part ∷ parts) (b ∷ bytes) missing is =
    by_step (part_step part b) is (λ others. is_front_of others bytes missing) where
      by_step : (found : Option (Option Part)) → layout_goes_on (λ further. is_text further (bytes ++ missing)) parts found ≡ true →
          ((others : List Part) → is_text others (bytes ++ missing) ≡ true → is_front (length missing) others bytes ≡ true) → layout_goes_on (λ further. is_front (length missing) further bytes) parts found ≡ true
      by_step None is rest = absurd cc
      by_step (Some left) is rest =
          goes_before (λ further. is_front (length missing) further bytes) parts left
          ∙ rest (left_before left parts) (sym (goes_before (λ further. is_text further (bytes ++ missing)) parts left) ∙ is)
