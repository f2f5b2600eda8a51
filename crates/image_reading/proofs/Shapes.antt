-- The parts of each field have its spellings as their texts.
use Rattle.std.proofs.Common.{◌≡◌, ℕ, zero, suc, ◌+◌, ◌-◌, ◌*◌, ◌^◌, ◌<◌, ◌≤◌, Bool, true, false, ◌&&◌, List, [], ◌∷◌, ◌++◌, length, refl, sym, ◌∙◌, ap, append_assoc, arith, Some, None}
use Rattle.std.specs.Prelude.{Option, nat_le, ◌==◌, if◌then◌else◌}
use Rattle.std.specs.Int.{w16, w64, from_be_bytes, to_be_bytes}
use Rattle.std.specs.List.{flat_map, AllByRecursion, list_all}
use Rattle.std.proofs.lemmas.Bool.{leb-true, le-leb, eq-eqb, eqb-true, eqb-false, and_parts, and_from}
use Rattle.std.proofs.lemmas.List.Concat.{flat_map-cons}
use Rattle.tm_types.specs.Name.{IsName, is_name_byte}
use Rattle.tm_types.specs.Segment.{IsSegmentText, is_printable}
use Rattle.log_records.specs.RecordSpelling.{number1, number2, number8, flag, name, text, segs, IsByte, IsNumber, IsAbend, AreSegments}
use Rattle.log_records.proofs.Takes.{IsBytes, IsBytes-rest}
use Rattle.log_records.proofs.FieldLaws.{wide16, wide64, number2_length, number8_length}
use Rattle.image_reading.specs.declared.parts.Part.{Part}
use Rattle.image_reading.specs.declared.parts.Part.TheVariants.{Exactly, Flag, Positive, Any, Names, Abend, Name, Text, TextLow, Segments, Segment, SegmentLow, SegmentBytes}
use Rattle.image_reading.specs.RecordParts.{any_left, names_left, segments_left, segment_left, if_so, left_before, layout_goes_on}
use Rattle.image_reading.proofs.Ranges.{Split, split, low_tests, are_low, within}
use Rattle.image_reading.proofs.Fronts.{is_text, bytes_nil, bytes_cons, goes_before, not_empty}

-- a text, and what stands behind it
pub record Front (A : Type 0) (spell : A → List ℕ) (Fits : A → Type 0) (others : List Part) (bytes : List ℕ) : Type 0 where
  pub value : A
  pub fits : Fits value
  pub rest : List ℕ
  pub parts : bytes ≡ spell value ++ rest
  pub are_bytes : IsBytes rest
  pub is : is_text others rest ≡ true

-- Values of this kind are spelled as the texts of these parts.
pub record Lays (layout : List Part) (A : Type 0) (spell : A → List ℕ) (Fits : A → Type 0) : Type 0 where
  pub goes : (v : A) (others : List Part) (bytes : List ℕ) → Fits v → is_text (layout ++ others) (spell v ++ bytes) ≡ is_text others bytes
  pub back : (others : List Part) (bytes : List ℕ) → IsBytes bytes → is_text (layout ++ others) bytes ≡ true → Front A spell Fits others bytes

-- ---- one field, and then others

pub both : {A B : Type 0} (p q : List Part) (sa : A → List ℕ) (sb : B → List ℕ) (FA : A → Type 0) (FB : B → Type 0) → Lays p A sa FA → Lays q B sb FB → Lays (p ++ q) (A × B) (λ v. sa v.0 ++ sb v.1) (λ v. FA v.0 × FB v.1)
both {A = A} {B = B} p q sa sb FA FB f g = record {
  goes = λ v others bytes fits.
      ap (λ (l : List Part). is_text l ((sa v.0 ++ sb v.1) ++ bytes)) (append_assoc p q others)
      ∙ ap (is_text (p ++ (q ++ others))) (append_assoc (sa v.0) (sb v.1) bytes)
      ∙ f.goes v.0 (q ++ others) (sb v.1 ++ bytes) fits.0
      ∙ g.goes v.1 others bytes fits.1;
  back = λ others bytes are is. joined others bytes are (ap (λ (l : List Part). is_text l bytes) (sym (append_assoc p q others)) ∙ is);
} where
  second : (others : List Part) (bytes : List ℕ) (x : Front A sa FA (q ++ others) bytes) → Front B sb FB others x.rest → Front (A × B) (λ v. sa v.0 ++ sb v.1) (λ v. FA v.0 × FB v.1) others bytes
  second others bytes x y = record {
    value = (x.value, y.value);
    fits = (x.fits, y.fits);
    rest = y.rest;
    parts = x.parts ∙ ap (λ (t : List ℕ). sa x.value ++ t) y.parts ∙ sym (append_assoc (sa x.value) (sb y.value) y.rest);
    are_bytes = y.are_bytes;
    is = y.is;
  }

  joined : (others : List Part) (bytes : List ℕ) → IsBytes bytes → is_text (p ++ (q ++ others)) bytes ≡ true → Front (A × B) (λ v. sa v.0 ++ sb v.1) (λ v. FA v.0 × FB v.1) others bytes
  joined others bytes are is =
      let x = f.back (q ++ others) bytes are is in
      second others bytes x (g.back others x.rest x.are_bytes x.is)

-- one byte before a field
pub behind_byte : {A : Type 0} (b : ℕ) (p : List Part) (sa : A → List ℕ) (FA : A → Type 0) → Lays p A sa FA → Lays (Exactly b ∷ p) A (λ v. b ∷ sa v) FA
behind_byte {A = A} b p sa FA f = record {
  goes = λ v others bytes fits.
      ap (λ t. layout_goes_on (λ further. is_text further (sa v ++ bytes)) (p ++ others) (if_so t None)) (eq-eqb b b refl) ∙ f.goes v others bytes fits;
  back = λ others bytes are is. after_byte others bytes are is;
} where
  one : (others : List Part) (x : ℕ) (bytes : List ℕ) (t : Bool) → x == b ≡ t → IsBytes (x ∷ bytes) → layout_goes_on (λ further. is_text further bytes) (p ++ others) (if_so t None) ≡ true → Front A (λ v. b ∷ sa v) FA others (x ∷ bytes)
  one others x bytes false same are is = absurd cc
  one others x bytes true same are is =
      let y = f.back others bytes (IsBytes-rest x bytes are) is in
      record { value = y.value; fits = y.fits; rest = y.rest; parts = ap (λ k. k ∷ bytes) (eqb-true x b same) ∙ ap (λ (t : List ℕ). b ∷ t) y.parts; are_bytes = y.are_bytes; is = y.is }

  after_byte : (others : List Part) (bytes : List ℕ) → IsBytes bytes → is_text (Exactly b ∷ (p ++ others)) bytes ≡ true → Front A (λ v. b ∷ sa v) FA others bytes
  after_byte others [] are is = absurd (not_empty (Exactly b) (p ++ others) is)
  after_byte others (x ∷ bytes) are is = one others x bytes (x == b) refl are is

-- ---- any bytes

pub any_goes : (n : ℕ) (t : List ℕ) (others : List Part) (bytes : List ℕ) → length t ≡ n → is_text (left_before (any_left n) others) (t ++ bytes) ≡ is_text others bytes
any_goes zero [] others bytes size = refl
any_goes zero (x ∷ t) others bytes size = absurd (omega (arith, size))
any_goes (suc n) [] others bytes size = absurd (omega (arith, size))
any_goes (suc n) (x ∷ t) others bytes size =
    goes_before (λ further. is_text further (t ++ bytes)) others (any_left n) ∙ any_goes n t others bytes (omega (arith, size))

pub record Taken (n : ℕ) (others : List Part) (bytes : List ℕ) : Type 0 where
  pub front : List ℕ
  pub rest : List ℕ
  pub size : length front ≡ n
  pub parts : bytes ≡ front ++ rest
  pub front_bytes : IsBytes front
  pub are_bytes : IsBytes rest
  pub is : is_text others rest ≡ true

abbrev one_taken : (n x : ℕ) (others : List Part) (bytes : List ℕ) → x < 256 → Taken n others bytes → Taken (suc n) others (x ∷ bytes)
one_taken n x others bytes lt t = record {
  front = x ∷ t.front;
  rest = t.rest;
  size = omega (arith, t.size);
  parts = ap (λ (l : List ℕ). x ∷ l) t.parts;
  front_bytes = bytes_cons x t.front lt t.front_bytes;
  are_bytes = t.are_bytes;
  is = t.is;
}

abbrev none_taken : (others : List Part) (bytes : List ℕ) → IsBytes bytes → is_text others bytes ≡ true → Taken 0 others bytes
none_taken others bytes are is = record { front = []; rest = bytes; size = refl; parts = refl; front_bytes = bytes_nil; are_bytes = are; is = is }

pub any_back : (n : ℕ) (others : List Part) (bytes : List ℕ) → IsBytes bytes → is_text (left_before (any_left n) others) bytes ≡ true → Taken n others bytes
any_back zero others bytes are is = none_taken others bytes are is
any_back (suc n) others [] are is = absurd (not_empty (Any n) others is)
any_back (suc n) others (x ∷ bytes) are is =
    one_taken n x others bytes (are 0) (any_back n others bytes (IsBytes-rest x bytes are) (sym (goes_before (λ further. is_text further bytes) others (any_left n)) ∙ is))

-- ---- numbers

abbrev pub AnyFlag : Bool → Type 0
AnyFlag b = Unit {0}

abbrev pub IsTwo : ℕ → Type 0
IsTwo n = n < 2 ^ 16

eight_found : (others : List Part) (bytes : List ℕ) → Taken 8 others bytes → Front ℕ number8 IsNumber others bytes
unfolding number8
eight_found others bytes t = record {
  value = from_be_bytes w64 t.front;
  fits = wide64.below t.front t.front_bytes;
  rest = t.rest;
  parts = t.parts ∙ ap (λ (l : List ℕ). l ++ t.rest) (sym (wide64.back t.front t.size t.front_bytes));
  are_bytes = t.are_bytes;
  is = t.is;
}

pub eight_lays : Lays (Any 7 ∷ []) ℕ number8 IsNumber
eight_lays = record {
  goes = λ v others bytes fits. any_goes 8 (number8 v) others bytes (number8_length v);
  back = λ others bytes are is. eight_found others bytes (any_back 8 others bytes are is);
}

two_found : (others : List Part) (bytes : List ℕ) → Taken 2 others bytes → Front ℕ number2 IsTwo others bytes
unfolding number2
two_found others bytes t = record {
  value = from_be_bytes w16 t.front;
  fits = wide16.below t.front t.front_bytes;
  rest = t.rest;
  parts = t.parts ∙ ap (λ (l : List ℕ). l ++ t.rest) (sym (wide16.back t.front t.size t.front_bytes));
  are_bytes = t.are_bytes;
  is = t.is;
}

pub two_lays : Lays (Any 1 ∷ []) ℕ number2 IsTwo
two_lays = record {
  goes = λ v others bytes fits. any_goes 2 (number2 v) others bytes (number2_length v);
  back = λ others bytes are is. two_found others bytes (any_back 2 others bytes are is);
}

pub one_lays : Lays (Any 0 ∷ []) ℕ number1 IsByte
one_lays = record {
  goes = λ v others bytes fits. refl;
  back = λ others bytes are is. number others bytes are is;
} where
  number : (others : List Part) (bytes : List ℕ) → IsBytes bytes → is_text (Any 0 ∷ others) bytes ≡ true → Front ℕ number1 IsByte others bytes
  number others [] are is = absurd (not_empty (Any 0) others is)
  number others (x ∷ bytes) are is =
      record { value = x; fits = omega (arith, are 0); rest = bytes; parts = refl; are_bytes = IsBytes-rest x bytes are; is = is }

pub flag_lays : Lays (Flag ∷ []) Bool flag AnyFlag
flag_lays = record {
  goes = λ v others bytes fits. whole v others bytes;
  back = λ others bytes are is. found others bytes are is;
} where
  whole : (v : Bool) (others : List Part) (bytes : List ℕ) → is_text (Flag ∷ others) (flag v ++ bytes) ≡ is_text others bytes
  whole true others bytes = refl
  whole false others bytes = refl

  found : (others : List Part) (bytes : List ℕ) → IsBytes bytes → is_text (Flag ∷ others) bytes ≡ true → Front Bool flag AnyFlag others bytes
  found others [] are is = absurd (not_empty Flag others is)
  found others (zero ∷ bytes) are is = record { value = false; fits = tt; rest = bytes; parts = refl; are_bytes = IsBytes-rest 0 bytes are; is = is }
  found others (suc zero ∷ bytes) are is = record { value = true; fits = tt; rest = bytes; parts = refl; are_bytes = IsBytes-rest 1 bytes are; is = is }
  found others (suc (suc x) ∷ bytes) are is = absurd (not_two (nat_le (suc (suc x)) 1) refl is) where
    not_two : (t : Bool) → nat_le (suc (suc x)) 1 ≡ t → layout_goes_on (λ further. is_text further bytes) others (if_so t None) ≡ true → ⊥
    not_two true small is = let i : suc (suc x) ≤ 1 = leb-true (suc (suc x)) 1 small in omega (arith, i)
    not_two false small is = absurd cc

-- ---- tests

so_goes : (c : Bool) (left : Option Part) (others : List Part) (bytes : List ℕ) → c ≡ true → layout_goes_on (λ further. is_text further bytes) others (if_so c left) ≡ is_text (left_before left others) bytes
so_goes true left others bytes is = goes_before (λ further. is_text further bytes) others left
so_goes false left others bytes is = cc

so_back : (c : Bool) (left : Option Part) (others : List Part) (bytes : List ℕ) → layout_goes_on (λ further. is_text further bytes) others (if_so c left) ≡ true → (c ≡ true) × (is_text (left_before left others) bytes ≡ true)
so_back true left others bytes is = (refl, sym (goes_before (λ further. is_text further bytes) others left) ∙ is)
so_back false left others bytes is = absurd cc

is_within : (low high n : ℕ) → low ≤ n → n ≤ high → nat_le low n && nat_le n high ≡ true
is_within low high n l h = and_from (nat_le low n) (nat_le n high) (le-leb low n l) (le-leb n high h)

-- ---- names

names_go : (n : ℕ) (t : List ℕ) (others : List Part) (bytes : List ℕ) → length t ≡ n → list_all is_name_byte t ≡ true → is_text (left_before (names_left n) others) (t ++ bytes) ≡ is_text others bytes
names_go zero [] others bytes size all = refl
names_go zero (x ∷ t) others bytes size all = absurd (omega (arith, size))
names_go (suc n) [] others bytes size all = absurd (omega (arith, size))
names_go (suc n) (x ∷ t) others bytes size all =
    let a = and_parts (is_name_byte x) (list_all is_name_byte t) all in
    so_goes (is_name_byte x) (names_left n) others (t ++ bytes) a.0 ∙ names_go n t others bytes (omega (arith, size)) a.1

pub record TakenAll (passes : ℕ → Bool) (n : ℕ) (others : List Part) (bytes : List ℕ) : Type 0 where
  pub taken : Taken n others bytes
  pub all : list_all passes taken.front ≡ true

names_back : (n : ℕ) (others : List Part) (bytes : List ℕ) → IsBytes bytes → is_text (left_before (names_left n) others) bytes ≡ true → TakenAll is_name_byte n others bytes
names_back zero others bytes are is = record { taken = none_taken others bytes are is; all = refl }
names_back (suc n) others [] are is = absurd (not_empty (Names n) others is)
names_back (suc n) others (x ∷ bytes) are is =
    let s = so_back (is_name_byte x) (names_left n) others bytes is in
    let t = names_back n others bytes (IsBytes-rest x bytes are) s.1 in
    record { taken = one_taken n x others bytes (are 0) t.taken; all = and_from (is_name_byte x) (list_all is_name_byte t.taken.front) s.0 t.all }

pub name_lays : Lays (Name ∷ []) (List ℕ) name IsName
name_lays = record {
  goes = λ v others bytes fits.
      so_goes (nat_le 1 (length v) && nat_le (length v) 8) (names_left (length v)) others (v ++ bytes) (is_within 1 8 (length v) fits.0 fits.1)
      ∙ names_go (length v) v others bytes refl fits.2;
  back = λ others bytes are is. found others bytes are is;
} where
  made : (others : List Part) (n : ℕ) (bytes : List ℕ) → (1 ≤ n) × (n ≤ 8) → TakenAll is_name_byte n others bytes → Front (List ℕ) name IsName others (n ∷ bytes)
  made others n bytes range t = record {
    value = t.taken.front;
    fits = (omega (arith, range.0, t.taken.size), omega (arith, range.1, t.taken.size), t.all);
    rest = t.taken.rest;
    parts = ap (λ (l : List ℕ). n ∷ l) t.taken.parts ∙ ap (λ k. k ∷ (t.taken.front ++ t.taken.rest)) (sym t.taken.size);
    are_bytes = t.taken.are_bytes;
    is = t.taken.is;
  }

  found : (others : List Part) (bytes : List ℕ) → IsBytes bytes → is_text (Name ∷ others) bytes ≡ true → Front (List ℕ) name IsName others bytes
  found others [] are is = absurd (not_empty Name others is)
  found others (n ∷ bytes) are is =
      let s = so_back (nat_le 1 n && nat_le n 8) (names_left n) others bytes is in
      made others n bytes (within 1 8 n s.0) (names_back n others bytes (IsBytes-rest n bytes are) s.1)

-- ---- numbers of two bytes

pub two_is : (high low : ℕ) → high < 256 → low < 256 → number2 (256 * high + low) ≡ high ∷ low ∷ []
unfolding number2
two_is high low h l =
    let sum : 256 * high + low ≡ from_be_bytes w16 (high ∷ low ∷ []) = omega arith in
    ap (to_be_bytes w16) sum ∙ wide16.back (high ∷ low ∷ []) refl (bytes_cons high (low ∷ []) h (bytes_cons low [] l bytes_nil))

pub record TwoBytes (n : ℕ) : Type 0 where
  pub high : ℕ
  pub low : ℕ
  pub small : low ≤ 255
  pub is : number2 n ≡ high ∷ low ∷ []
  pub sum : 256 * high + low ≡ n

pub two_bytes : (n : ℕ) → n < 2 ^ 16 → TwoBytes n
two_bytes n lt = by (split n) where
  by : Split n → TwoBytes n
  by s = record {
    high = s.high;
    low = s.low;
    small = omega (arith, s.lt);
    is = ap number2 s.is ∙ two_is s.high s.low (omega (arith, s.is, lt)) s.lt;
    sum = sym s.is;
  }

-- ---- the number of an abend

pub abend_lays : Lays (Abend ∷ []) ℕ number2 IsAbend
abend_lays = record {
  goes = λ v others bytes fits. whole v others bytes fits (two_bytes v (omega (arith, fits.1)));
  back = λ others bytes are is. found others bytes are is;
} where
  second : (high low : ℕ) (others : List Part) (bytes : List ℕ) (t : Bool) → high == 0 ≡ t → 1 ≤ 256 * high + low → is_text (left_before (if t then Some Positive else Some (Any 0)) others) (low ∷ bytes) ≡ is_text others bytes
  second high low others bytes false same some = refl
  second high low others bytes true same some =
      let none : high ≡ 0 = eqb-true high 0 same in
      so_goes (nat_le 1 low) None others bytes (le-leb 1 low (omega (arith, none, some)))

  whole : (v : ℕ) (others : List Part) (bytes : List ℕ) → IsAbend v → TwoBytes v → is_text (Abend ∷ others) (number2 v ++ bytes) ≡ is_text others bytes
  whole v others bytes fits b =
      ap (λ (l : List ℕ). is_text (Abend ∷ others) (l ++ bytes)) b.is
      ∙ so_goes (nat_le b.high 15) (if b.high == 0 then Some Positive else Some (Any 0)) others (b.low ∷ bytes) (le-leb b.high 15 (omega (arith, b.sum, fits.1)))
      ∙ second b.high b.low others bytes (b.high == 0) refl (omega (arith, b.sum, fits.0))

  made : (high low : ℕ) (others : List Part) (bytes : List ℕ) → IsBytes (high ∷ low ∷ bytes) → high ≤ 15 → 1 ≤ 256 * high + low → is_text others bytes ≡ true → Front ℕ number2 IsAbend others (high ∷ low ∷ bytes)
  made high low others bytes are few some is =
      let l : low < 256 = are 1 in
      record {
        value = 256 * high + low;
        fits = (some, omega (arith, few, l));
        rest = bytes;
        parts = ap (λ (x : List ℕ). x ++ bytes) (sym (two_is high low (are 0) l));
        are_bytes = IsBytes-rest low bytes (IsBytes-rest high (low ∷ bytes) are);
        is = is;
      }

  behind : (high low : ℕ) (others : List Part) (bytes : List ℕ) (t : Bool) → high == 0 ≡ t → IsBytes (high ∷ low ∷ bytes) → high ≤ 15 → is_text (left_before (if t then Some Positive else Some (Any 0)) others) (low ∷ bytes) ≡ true → Front ℕ number2 IsAbend others (high ∷ low ∷ bytes)
  behind high low others bytes true same are few is =
      let s = so_back (nat_le 1 low) None others bytes is in
      let i : 1 ≤ low = leb-true 1 low s.0 in
      made high low others bytes are few (omega (arith, i)) s.1
  behind high low others bytes false same are few is =
      made high low others bytes are few (omega (arith, eqb-false high 0 same)) is

  empty : (high : ℕ) (others : List Part) (t : Bool) → is_text (left_before (if t then Some Positive else Some (Any 0)) others) [] ≡ true → ⊥
  empty high others true is = not_empty Positive others is
  empty high others false is = not_empty (Any 0) others is

  found : (others : List Part) (bytes : List ℕ) → IsBytes bytes → is_text (Abend ∷ others) bytes ≡ true → Front ℕ number2 IsAbend others bytes
  found others [] are is = absurd (not_empty Abend others is)
  found others (high ∷ []) are is =
      absurd (empty high others (high == 0) (so_back (nat_le high 15) (if high == 0 then Some Positive else Some (Any 0)) others [] is).1)
  found others (high ∷ low ∷ bytes) are is =
      let s = so_back (nat_le high 15) (if high == 0 then Some Positive else Some (Any 0)) others (low ∷ bytes) is in
      behind high low others bytes (high == 0) refl are (leb-true high 15 s.0) s.1

-- ---- texts

pub text_lays : (limit : ℕ) → limit < 2 ^ 16 → Lays (Text limit ∷ []) (List ℕ) text (λ t. length t ≤ limit)
text_lays limit small = record {
  goes = λ v others bytes fits. whole v others bytes fits (two_bytes (length v) (omega (arith, fits, small)));
  back = λ others bytes are is. found others bytes are is;
} where
  whole : (v : List ℕ) (others : List Part) (bytes : List ℕ) → length v ≤ limit → TwoBytes (length v) → is_text (Text limit ∷ others) (text v ++ bytes) ≡ is_text others bytes
  whole v others bytes fits b =
      let n = 256 * b.high + b.low in
      ap (λ (l : List ℕ). is_text (Text limit ∷ others) ((l ++ v) ++ bytes)) b.is
      ∙ so_goes (nat_le (256 * b.high) limit) (Some (TextLow limit b.high)) others (b.low ∷ (v ++ bytes)) (le-leb (256 * b.high) limit (omega (arith, b.sum, fits)))
      ∙ so_goes (nat_le b.low 255 && nat_le n limit) (any_left n) others (v ++ bytes) (are_low b.low n limit b.small (omega (arith, b.sum, fits)))
      ∙ any_goes n v others bytes (sym b.sum)

  made : (high low : ℕ) (others : List Part) (bytes : List ℕ) → high < 256 → low < 256 → 256 * high + low ≤ limit → Taken (256 * high + low) others bytes → Front (List ℕ) text (λ t. length t ≤ limit) others (high ∷ low ∷ bytes)
  made high low others bytes h l few t = record {
    value = t.front;
    fits = omega (arith, few, t.size);
    rest = t.rest;
    parts =
        ap (λ (x : List ℕ). high ∷ low ∷ x) t.parts
        ∙ ap (λ (x : List ℕ). x ++ (t.front ++ t.rest)) (sym (two_is high low h l))
        ∙ ap (λ n. number2 n ++ (t.front ++ t.rest)) (sym t.size)
        ∙ sym (append_assoc (number2 (length t.front)) t.front t.rest);
    are_bytes = t.are_bytes;
    is = t.is;
  }

  found : (others : List Part) (bytes : List ℕ) → IsBytes bytes → is_text (Text limit ∷ others) bytes ≡ true → Front (List ℕ) text (λ t. length t ≤ limit) others bytes
  found others [] are is = absurd (not_empty (Text limit) others is)
  found others (high ∷ []) are is =
      absurd (not_empty (TextLow limit high) others (so_back (nat_le (256 * high) limit) (Some (TextLow limit high)) others [] is).1)
  found others (high ∷ low ∷ bytes) are is =
      let n = 256 * high + low in
      let s = so_back (nat_le (256 * high) limit) (Some (TextLow limit high)) others (low ∷ bytes) is in
      let t = so_back (nat_le low 255 && nat_le n limit) (any_left n) others bytes s.1 in
      made high low others bytes (are 0) (are 1) (low_tests low n limit t.0).1 (any_back n others bytes (IsBytes-rest low bytes (IsBytes-rest high (low ∷ bytes) are)) t.1)

-- ---- segments

-- the bytes of a segment, and then those segments that are left
bytes_go : (more n : ℕ) (t : List ℕ) (others : List Part) (bytes : List ℕ) → length t ≡ n → list_all is_printable t ≡ true → is_text (left_before (segment_left more n) others) (t ++ bytes) ≡ is_text (left_before (segments_left more) others) bytes
bytes_go more zero [] others bytes size all = refl
bytes_go more zero (x ∷ t) others bytes size all = absurd (omega (arith, size))
bytes_go more (suc n) [] others bytes size all = absurd (omega (arith, size))
bytes_go more (suc n) (x ∷ t) others bytes size all =
    let a = and_parts (is_printable x) (list_all is_printable t) all in
    so_goes (is_printable x) (segment_left more n) others (t ++ bytes) a.0 ∙ bytes_go more n t others bytes (omega (arith, size)) a.1

bytes_back : (more n : ℕ) (others : List Part) (bytes : List ℕ) → IsBytes bytes → is_text (left_before (segment_left more n) others) bytes ≡ true → TakenAll is_printable n (left_before (segments_left more) others) bytes
bytes_back more zero others bytes are is = record { taken = none_taken (left_before (segments_left more) others) bytes are is; all = refl }
bytes_back more (suc n) others [] are is = absurd (not_empty (SegmentBytes more n) others is)
bytes_back more (suc n) others (x ∷ bytes) are is =
    let s = so_back (is_printable x) (segment_left more n) others bytes is in
    let t = bytes_back more n others bytes (IsBytes-rest x bytes are) s.1 in
    record { taken = one_taken n x (left_before (segments_left more) others) bytes (are 0) t.taken; all = and_from (is_printable x) (list_all is_printable t.taken.front) s.0 t.all }

segment_goes : (more : ℕ) (t : List ℕ) (others : List Part) (bytes : List ℕ) → IsSegmentText t → TwoBytes (length t) → is_text (Segment more ∷ others) (text t ++ bytes) ≡ is_text (left_before (segments_left more) others) bytes
segment_goes more t others bytes fits b =
    let n = 256 * b.high + b.low in
    ap (λ (l : List ℕ). is_text (Segment more ∷ others) ((l ++ t) ++ bytes)) b.is
    ∙ so_goes (nat_le (256 * b.high) 1996) (Some (SegmentLow more b.high)) others (b.low ∷ (t ++ bytes)) (le-leb (256 * b.high) 1996 (omega (arith, b.sum, fits.0)))
    ∙ so_goes (nat_le b.low 255 && nat_le n 1996) (segment_left more n) others (t ++ bytes) (are_low b.low n 1996 b.small (omega (arith, b.sum, fits.0)))
    ∙ bytes_go more n t others bytes (sym b.sum) fits.1

segments_go : (ts : List (List ℕ)) (n : ℕ) (others : List Part) (bytes : List ℕ) → length ts ≡ n → AllByRecursion IsSegmentText ts → is_text (left_before (segments_left n) others) (flat_map text ts ++ bytes) ≡ is_text others bytes
segments_go [] zero others bytes size fits = refl
segments_go [] (suc n) others bytes size fits = absurd (omega (arith, size))
segments_go (t ∷ ts) zero others bytes size fits = absurd (omega (arith, size))
segments_go (t ∷ ts) (suc n) others bytes size fits =
    let regrouped : flat_map text (t ∷ ts) ++ bytes ≡ text t ++ (flat_map text ts ++ bytes) = ap (λ (x : List ℕ). x ++ bytes) (flat_map-cons text t ts) ∙ append_assoc (text t) (flat_map text ts) bytes in
    ap (is_text (Segment n ∷ others)) regrouped
    ∙ segment_goes n t others (flat_map text ts ++ bytes) fits.0 (two_bytes (length t) (omega (arith, fits.0.0)))
    ∙ segments_go ts n others bytes (omega (arith, size)) fits.1

pub record OneSegment (more : ℕ) (others : List Part) (bytes : List ℕ) : Type 0 where
  pub segment : List ℕ
  pub fits : IsSegmentText segment
  pub rest : List ℕ
  pub parts : bytes ≡ text segment ++ rest
  pub are_bytes : IsBytes rest
  pub is : is_text (left_before (segments_left more) others) rest ≡ true

segment_made : (more high low : ℕ) (others : List Part) (bytes : List ℕ) → high < 256 → low < 256 → 256 * high + low ≤ 1996 → TakenAll is_printable (256 * high + low) (left_before (segments_left more) others) bytes → OneSegment more others (high ∷ low ∷ bytes)
segment_made more high low others bytes h l few t = record {
  segment = t.taken.front;
  fits = (omega (arith, few, t.taken.size), t.all);
  rest = t.taken.rest;
  parts =
      ap (λ (x : List ℕ). high ∷ low ∷ x) t.taken.parts
      ∙ ap (λ (x : List ℕ). x ++ (t.taken.front ++ t.taken.rest)) (sym (two_is high low h l))
      ∙ ap (λ n. number2 n ++ (t.taken.front ++ t.taken.rest)) (sym t.taken.size)
      ∙ sym (append_assoc (number2 (length t.taken.front)) t.taken.front t.taken.rest);
  are_bytes = t.taken.are_bytes;
  is = t.taken.is;
}

segment_back : (more : ℕ) (others : List Part) (bytes : List ℕ) → IsBytes bytes → is_text (Segment more ∷ others) bytes ≡ true → OneSegment more others bytes
segment_back more others [] are is = absurd (not_empty (Segment more) others is)
segment_back more others (high ∷ []) are is =
    absurd (not_empty (SegmentLow more high) others (so_back (nat_le (256 * high) 1996) (Some (SegmentLow more high)) others [] is).1)
segment_back more others (high ∷ low ∷ bytes) are is =
    let n = 256 * high + low in
    let s = so_back (nat_le (256 * high) 1996) (Some (SegmentLow more high)) others (low ∷ bytes) is in
    let t = so_back (nat_le low 255 && nat_le n 1996) (segment_left more n) others bytes s.1 in
    segment_made more high low others bytes (are 0) (are 1) (low_tests low n 1996 t.0).1 (bytes_back more n others bytes (IsBytes-rest low bytes (IsBytes-rest high (low ∷ bytes) are)) t.1)

pub record SomeSegments (n : ℕ) (others : List Part) (bytes : List ℕ) : Type 0 where
  pub segments : List (List ℕ)
  pub size : length segments ≡ n
  pub fits : AllByRecursion IsSegmentText segments
  pub rest : List ℕ
  pub parts : bytes ≡ flat_map text segments ++ rest
  pub are_bytes : IsBytes rest
  pub is : is_text others rest ≡ true

one_more : (n : ℕ) (others : List Part) (bytes : List ℕ) (x : OneSegment n others bytes) → SomeSegments n others x.rest → SomeSegments (suc n) others bytes
one_more n others bytes x y = record {
  segments = x.segment ∷ y.segments;
  size = omega (arith, y.size);
  fits = (x.fits, y.fits);
  rest = y.rest;
  parts =
      x.parts ∙ ap (λ (t : List ℕ). text x.segment ++ t) y.parts ∙ sym (append_assoc (text x.segment) (flat_map text y.segments) y.rest)
      ∙ ap (λ (t : List ℕ). t ++ y.rest) (sym (flat_map-cons text x.segment y.segments));
  are_bytes = y.are_bytes;
  is = y.is;
}

segments_back : (n : ℕ) (others : List Part) (bytes : List ℕ) → IsBytes bytes → is_text (left_before (segments_left n) others) bytes ≡ true → SomeSegments n others bytes
segments_back zero others bytes are is = record { segments = []; size = refl; fits = tt; rest = bytes; parts = refl; are_bytes = are; is = is }
segments_back (suc n) others bytes are is =
    let x = segment_back n others bytes are is in
    one_more n others bytes x (segments_back n others x.rest x.are_bytes x.is)

pub segs_lay : Lays (Segments ∷ []) (List (List ℕ)) segs AreSegments
segs_lay = record {
  goes = λ v others bytes fits.
      so_goes (nat_le 1 (length v) && nat_le (length v) 32) (segments_left (length v)) others (flat_map text v ++ bytes) (is_within 1 32 (length v) fits.0 fits.1)
      ∙ segments_go v (length v) others bytes refl fits.2;
  back = λ others bytes are is. found others bytes are is;
} where
  made : (others : List Part) (n : ℕ) (bytes : List ℕ) → (1 ≤ n) × (n ≤ 32) → SomeSegments n others bytes → Front (List (List ℕ)) segs AreSegments others (n ∷ bytes)
  made others n bytes range t = record {
    value = t.segments;
    fits = (omega (arith, range.0, t.size), omega (arith, range.1, t.size), t.fits);
    rest = t.rest;
    parts = ap (λ (l : List ℕ). n ∷ l) t.parts ∙ ap (λ k. k ∷ (flat_map text t.segments ++ t.rest)) (sym t.size);
    are_bytes = t.are_bytes;
    is = t.is;
  }

  found : (others : List Part) (bytes : List ℕ) → IsBytes bytes → is_text (Segments ∷ others) bytes ≡ true → Front (List (List ℕ)) segs AreSegments others bytes
  found others [] are is = absurd (not_empty Segments others is)
  found others (n ∷ bytes) are is =
      let s = so_back (nat_le 1 n && nat_le n 32) (segments_left n) others bytes is in
      made others n bytes (within 1 32 n s.0) (segments_back n others bytes (IsBytes-rest n bytes are) s.1)
