-- Each part has texts of just the lengths from its least to its most.
use Rattle.std.proofs.Common.{◌≡◌, ◌⊎◌, inl, inr, ℕ, zero, suc, ◌+◌, ◌-◌, ◌*◌, ◌<◌, ◌≤◌, Bool, true, false, ◌&&◌, min, refl, sym, subst, arith, Some, None}
use Rattle.std.specs.Prelude.{Option, nat_le, ◌==◌, if◌then◌else◌}
use Rattle.std.proofs.lemmas.Bool.{cases_lt, leb-true, le-leb, eq-eqb, and_parts, and_from}
use Rattle.tm_types.specs.Name.{is_name_byte}
use Rattle.tm_types.specs.Segment.{is_printable}
use Rattle.image_reading.specs.declared.parts.Part.{Part}
use Rattle.image_reading.specs.declared.parts.Part.TheVariants.{Exactly, Flag, Positive, Any, Names, Abend, Name, Text, TextLow, Segments, Segment, SegmentLow, SegmentBytes}
use Rattle.image_reading.specs.RecordParts.{any_left, names_left, segments_left, segment_left, if_so, part_step, least, most}

abbrev pub least_left : Option Part → ℕ
least_left None = 0
least_left (Some part) = least part

abbrev pub most_left : Option Part → ℕ
most_left None = 0
most_left (Some part) = most part

-- bytes are below 256, and lengths below 65536
abbrev pub IsPart : Part → Type 0
IsPart (Exactly byte) = byte < 256
IsPart (Text limit) = limit < 65536
IsPart (TextLow limit high) = 256 * high ≤ limit
IsPart (SegmentLow more high) = 256 * high ≤ 1996
IsPart _ = Unit {0}

abbrev pub IsLeft : Option Part → Type 0
IsLeft None = Unit {0}
IsLeft (Some part) = IsPart part

pub so : (c : Bool) (l left : Option Part) → if_so c l ≡ Some left → (c ≡ true) × (l ≡ left)
so true l left e = (refl, cc)
so false l left e = cc

pub so_from : (c : Bool) (l : Option Part) → c ≡ true → if_so c l ≡ Some l
so_from true l e = refl
so_from false l e = cc

-- ---- what is left of one

pub record Spans (low high : ℕ) (left : Option Part) : Type 0 where
  pub few : low ≤ least_left left
  pub many : most_left left ≤ high
  pub valid : IsLeft left

pub any_spans : (n : ℕ) → Spans n n (any_left n)
any_spans zero = record { few = omega arith; many = omega arith; valid = tt }
any_spans (suc n) = record { few = omega arith; many = omega arith; valid = tt }

pub names_span : (n : ℕ) → Spans n n (names_left n)
names_span zero = record { few = omega arith; many = omega arith; valid = tt }
names_span (suc n) = record { few = omega arith; many = omega arith; valid = tt }

pub segments_span : (n : ℕ) → Spans (2 * n) (1998 * n) (segments_left n)
segments_span zero = record { few = omega arith; many = omega arith; valid = tt }
segments_span (suc n) = record { few = omega arith; many = omega arith; valid = tt }

pub segment_spans : (more n : ℕ) → Spans (n + 2 * more) (n + 1998 * more) (segment_left more n)
segment_spans more zero = let s = segments_span more in record { few = omega (arith, s.few); many = omega (arith, s.many); valid = s.valid }
segment_spans more (suc n) = record { few = omega arith; many = omega arith; valid = tt }

-- what is left of a part has the lengths of the part, less one
pub record Behind (part : Part) (left : Option Part) : Type 0 where
  pub few : least part ≤ 1 + least_left left
  pub many : 1 + most_left left ≤ most part
  pub valid : IsLeft left

behind : (part : Part) (few many : ℕ) (l left : Option Part) → Spans few many l → l ≡ left → least part ≤ 1 + few → 1 + many ≤ most part → Behind part left
behind part few many l left s is low high =
    subst (λ (x : Option Part). Behind part x) is (record { few = omega (arith, s.few, low); many = omega (arith, s.many, high); valid = s.valid })

none_spans : Spans 0 0 None
none_spans = record { few = omega arith; many = omega arith; valid = tt }

abend_behind : (b : ℕ) (c : Bool) → Behind Abend (if c then Some Positive else Some (Any 0))
abend_behind b true = record { few = omega arith; many = omega arith; valid = tt }
abend_behind b false = record { few = omega arith; many = omega arith; valid = tt }

pub within : (low high b : ℕ) → nat_le low b && nat_le b high ≡ true → (low ≤ b) × (b ≤ high)
within low high b e = let p = and_parts (nat_le low b) (nat_le b high) e in (leb-true low b p.0, leb-true b high p.1)

-- the low byte of a length
pub low_tests : (b n limit : ℕ) → nat_le b 255 && nat_le n limit ≡ true → (b ≤ 255) × (n ≤ limit)
low_tests b n limit e = let p = and_parts (nat_le b 255) (nat_le n limit) e in (leb-true b 255 p.0, leb-true n limit p.1)

pub are_low : (b n limit : ℕ) → b ≤ 255 → n ≤ limit → nat_le b 255 && nat_le n limit ≡ true
are_low b n limit l h = and_from (nat_le b 255) (nat_le n limit) (le-leb b 255 l) (le-leb n limit h)

pub step_behind : (part : Part) (b : ℕ) (left : Option Part) → part_step part b ≡ Some left → Behind part left
step_behind (Exactly byte) b left e = behind (Exactly byte) 0 0 None left none_spans (so (b == byte) None left e).1 (omega arith) (omega arith)
step_behind Flag b left e = behind Flag 0 0 None left none_spans (so (nat_le b 1) None left e).1 (omega arith) (omega arith)
step_behind Positive b left e = behind Positive 0 0 None left none_spans (so (nat_le 1 b) None left e).1 (omega arith) (omega arith)
step_behind (Any n) b left e = behind (Any n) n n (any_left n) left (any_spans n) (so true (any_left n) left e).1 (omega arith) (omega arith)
step_behind (Names n) b left e = behind (Names n) n n (names_left n) left (names_span n) (so (is_name_byte b) (names_left n) left e).1 (omega arith) (omega arith)
step_behind Abend b left e =
    subst (λ (x : Option Part). Behind Abend x) (so (nat_le b 15) (if b == 0 then Some Positive else Some (Any 0)) left e).1 (abend_behind b (b == 0))
step_behind Name b left e =
    let s = so (nat_le 1 b && nat_le b 8) (names_left b) left e in
    let i = within 1 8 b s.0 in
    behind Name b b (names_left b) left (names_span b) s.1 (omega (arith, i.0)) (omega (arith, i.1))
step_behind (Text limit) b left e =
    let s = so (nat_le (256 * b) limit) (Some (TextLow limit b)) left e in
    let i : 256 * b ≤ limit = leb-true (256 * b) limit s.0 in
    subst (λ (x : Option Part). Behind (Text limit) x) s.1 (record { few = omega arith; many = omega (arith, i); valid = i })
step_behind (TextLow limit high) b left e =
    let n = 256 * high + b in
    let s = so (nat_le b 255 && nat_le n limit) (any_left n) left e in
    let i = low_tests b n limit s.0 in
    behind (TextLow limit high) n n (any_left n) left (any_spans n) s.1 (omega arith) (omega (arith, i.0, i.1))
step_behind Segments b left e =
    let s = so (nat_le 1 b && nat_le b 32) (segments_left b) left e in
    let i = within 1 32 b s.0 in
    behind Segments (2 * b) (1998 * b) (segments_left b) left (segments_span b) s.1 (omega (arith, i.0)) (omega (arith, i.1))
step_behind (Segment more) b left e =
    let s = so (nat_le (256 * b) 1996) (Some (SegmentLow more b)) left e in
    let i : 256 * b ≤ 1996 = leb-true (256 * b) 1996 s.0 in
    subst (λ (x : Option Part). Behind (Segment more) x) s.1 (record { few = omega arith; many = omega (arith, i); valid = i })
step_behind (SegmentLow more high) b left e =
    let n = 256 * high + b in
    let s = so (nat_le b 255 && nat_le n 1996) (segment_left more n) left e in
    let i = low_tests b n 1996 s.0 in
    behind (SegmentLow more high) (n + 2 * more) (n + 1998 * more) (segment_left more n) left (segment_spans more n) s.1 (omega arith) (omega (arith, i.0, i.1))
step_behind (SegmentBytes more n) b left e =
    behind (SegmentBytes more n) (n + 2 * more) (n + 1998 * more) (segment_left more n) left (segment_spans more n) (so (is_printable b) (segment_left more n) left e).1 (omega arith) (omega arith)

-- ---- and each such length there is

pub record Leads (part : Part) (n : ℕ) : Type 0 where
  pub byte : ℕ
  pub is_byte : byte < 256
  pub left : Option Part
  pub steps : part_step part byte ≡ Some left
  pub few : least_left left ≤ n
  pub many : n ≤ most_left left

-- exactly so many bytes are left, or from so many to so many
pub record Exact (low high : ℕ) (left : Option Part) : Type 0 where
  pub few : least_left left ≤ low
  pub many : high ≤ most_left left

any_exact : (n : ℕ) → Exact n n (any_left n)
any_exact zero = record { few = omega arith; many = omega arith }
any_exact (suc n) = record { few = omega arith; many = omega arith }

names_exact : (n : ℕ) → Exact n n (names_left n)
names_exact zero = record { few = omega arith; many = omega arith }
names_exact (suc n) = record { few = omega arith; many = omega arith }

segments_exact : (n : ℕ) → Exact (2 * n) (1998 * n) (segments_left n)
segments_exact zero = record { few = omega arith; many = omega arith }
segments_exact (suc n) = record { few = omega arith; many = omega arith }

segment_exact : (more n : ℕ) → Exact (n + 2 * more) (n + 1998 * more) (segment_left more n)
segment_exact more zero = let s = segments_exact more in record { few = omega (arith, s.few); many = omega (arith, s.many) }
segment_exact more (suc n) = record { few = omega arith; many = omega arith }

leads : (part : Part) (n b : ℕ) (few many : ℕ) (left : Option Part) → b < 256 → part_step part b ≡ Some left → Exact few many left → few ≤ n → n ≤ many → Leads part n
leads part n b few many left lt is s low high =
    record { byte = b; is_byte = lt; left = left; steps = is; few = omega (arith, s.few, low); many = omega (arith, s.many, high) }

none_exact : Exact 0 0 None
none_exact = record { few = omega arith; many = omega arith }

one_exact : (part : Part) → Exact (least part) (most part) (Some part)
one_exact part = record { few = omega arith; many = omega arith }

-- a number of two bytes
pub record Split (n : ℕ) : Type 0 where
  pub high : ℕ
  pub low : ℕ
  pub is : n ≡ 256 * high + low
  pub lt : low < 256

pub split : (n : ℕ) → Split n
split zero = record { high = 0; low = 0; is = refl; lt = omega arith }
split (suc n) = by (split n) (cases_lt ((split n).low + 1) 256) where
  by : (s : Split n) → (s.low + 1 < 256) ⊎ (256 ≤ s.low + 1) → Split (suc n)
  by s (inl few) = record { high = s.high; low = s.low + 1; is = omega (arith, s.is); lt = few }
  by s (inr many) = record { high = s.high + 1; low = 0; is = omega (arith, s.is, s.lt, many); lt = omega arith }

text_leads : (limit n : ℕ) (s : Split n) → limit < 65536 → n ≤ limit → Leads (Text limit) (suc n)
text_leads limit n s small within =
    leads (Text limit) (suc n) s.high (1 + 256 * s.high) (1 + min (256 * s.high + 255) limit) (Some (TextLow limit s.high)) (omega (arith, s.is, small, within)) (so_from (nat_le (256 * s.high) limit) (Some (TextLow limit s.high)) (le-leb (256 * s.high) limit (omega (arith, s.is, within)))) (one_exact (TextLow limit s.high)) (omega (arith, s.is)) (omega (arith, s.is, s.lt, within))

segment_leads : (more n text : ℕ) (s : Split text) → text ≤ 1996 → text + 2 * more ≤ n → n ≤ text + 1998 * more → Leads (Segment more) (suc n)
segment_leads more n text s short low high =
    leads (Segment more) (suc n) s.high (1 + 256 * s.high + 2 * more) (1 + min (256 * s.high + 255) 1996 + 1998 * more) (Some (SegmentLow more s.high)) (omega (arith, s.is, short)) (so_from (nat_le (256 * s.high) 1996) (Some (SegmentLow more s.high)) (le-leb (256 * s.high) 1996 (omega (arith, s.is, short)))) (one_exact (SegmentLow more s.high)) (omega (arith, s.is, low)) (omega (arith, s.is, s.lt, short, high))

low_leads : (more high n b : ℕ) → b < 256 → 256 * high + b ≤ 1996 → 256 * high + b + 2 * more ≤ n → n ≤ 256 * high + b + 1998 * more → Leads (SegmentLow more high) n
low_leads more high n b lt short low most =
    let text = 256 * high + b in
    leads (SegmentLow more high) n b (text + 2 * more) (text + 1998 * more) (segment_left more text) lt (so_from (nat_le b 255 && nat_le text 1996) (segment_left more text) (are_low b text 1996 (omega (arith, lt)) short)) (segment_exact more text) low most

pub wide : (part : Part) (n : ℕ) → IsPart part → least part ≤ suc n → suc n ≤ most part → Leads part n
wide (Exactly byte) n is low high = leads (Exactly byte) n byte 0 0 None is (so_from (byte == byte) None (eq-eqb byte byte refl)) none_exact (omega arith) (omega (arith, high))
wide Flag n is low high = leads Flag n 0 0 0 None (omega arith) refl none_exact (omega arith) (omega (arith, high))
wide Positive n is low high = leads Positive n 1 0 0 None (omega arith) refl none_exact (omega arith) (omega (arith, high))
wide (Any k) n is low high = leads (Any k) n 0 k k (any_left k) (omega arith) refl (any_exact k) (omega (arith, low)) (omega (arith, high))
wide (Names k) n is low high = leads (Names k) n 65 k k (names_left k) (omega arith) refl (names_exact k) (omega (arith, low)) (omega (arith, high))
wide Abend n is low high = leads Abend n 1 1 1 (Some (Any 0)) (omega arith) refl (one_exact (Any 0)) (omega (arith, low)) (omega (arith, high))
wide Name n is low high =
    leads Name n n n n (names_left n) (omega (arith, high)) (so_from (nat_le 1 n && nat_le n 8) (names_left n) (and_from (nat_le 1 n) (nat_le n 8) (le-leb 1 n (omega (arith, low))) (le-leb n 8 (omega (arith, high))))) (names_exact n) (omega arith) (omega arith)
wide (Text limit) zero is low high = absurd (omega (arith, low))
wide (Text limit) (suc n) is low high = text_leads limit n (split n) is (omega (arith, high))
wide (TextLow limit h) n is low high =
    let b = n - 256 * h in
    let same : 256 * h + b ≡ n = omega (arith, low) in
    leads (TextLow limit h) n b n n (any_left (256 * h + b)) (omega (arith, low, high)) (so_from (nat_le b 255 && nat_le (256 * h + b) limit) (any_left (256 * h + b)) (are_low b (256 * h + b) limit (omega (arith, low, high)) (omega (arith, same, high)))) (subst (λ k. Exact n n (any_left k)) (sym same) (any_exact n)) (omega arith) (omega arith)
wide Segments n is low high = by (cases_lt n 64) where
  by : (n < 64) ⊎ (64 ≤ n) → Leads Segments n
  by (inl few) = leads Segments n 1 2 1998 (segments_left 1) (omega arith) refl (segments_exact 1) (omega (arith, low)) (omega (arith, few))
  by (inr many) = leads Segments n 32 64 63936 (segments_left 32) (omega arith) refl (segments_exact 32) many (omega (arith, high))
wide (Segment more) zero is low high = absurd (omega (arith, low))
wide (Segment more) (suc n) is low high = by (cases_lt n (1997 + 2 * more)) where
  by : (n < 1997 + 2 * more) ⊎ (1997 + 2 * more ≤ n) → Leads (Segment more) (suc n)
  by (inl few) = let text = n - 2 * more in segment_leads more n text (split text) (omega (arith, low, few)) (omega (arith, low)) (omega (arith, low))
  by (inr many) = segment_leads more n 1996 (split 1996) (omega arith) (omega (arith, many)) (omega (arith, high))
wide (SegmentLow more h) n is low high = by (cases_lt (n - 2 * more) (min (256 * h + 255) 1996 + 1)) where
  by : (n - 2 * more < min (256 * h + 255) 1996 + 1) ⊎ (min (256 * h + 255) 1996 + 1 ≤ n - 2 * more) → Leads (SegmentLow more h) n
  by (inl few) = low_leads more h n (n - 2 * more - 256 * h) (omega (arith, low, few)) (omega (arith, low, few)) (omega (arith, low)) (omega (arith, low))
  by (inr many) = low_leads more h n (min (256 * h + 255) 1996 - 256 * h) (omega arith) (omega (arith, low, high, many)) (omega (arith, low, many)) (omega (arith, high, many, low))
wide (SegmentBytes more k) n is low high =
    leads (SegmentBytes more k) n 32 (k + 2 * more) (k + 1998 * more) (segment_left more k) (omega arith) refl (segment_exact more k) (omega (arith, low)) (omega (arith, high))
