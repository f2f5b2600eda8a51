-- Each field is read as it is spelled.
use Rattle.std.proofs.Common.{◌≡◌, ℕ, zero, suc, ◌^◌, ◌<◌, ◌≤◌, Bool, true, false, not, cond, ltb, leb, ◌&&◌, List, [], ◌∷◌, ◌++◌, length, take, drop, Option, Some, None, Result, Ok, Err, refl, sym, ap, subst, ◌∙◌, append_assoc, arith}
use Rattle.std.specs.Prelude.{nat_lt, IsTrue, IfOk}
use Rattle.log_records.specs.declared.fault.ReadFault.{ReadFault}
use Rattle.std.specs.List.{flat_map, AllByRecursion, list_all, prefix_len, position}
use Rattle.std.specs.Int.{Width, w16, w64, byte_len, from_be_bytes, to_be_bytes}
use Rattle.std.proofs.lemmas.Bool.{ltb-false, le-ltb, leb-true, le-leb, and_parts, and_from}
use Rattle.std.proofs.lemmas.List.{take_at, drop_at, take-append-drop, length-append, length-take, nil_from_length}
use Rattle.std.proofs.lemmas.List.Concat.{flat_map-cons}
use Rattle.std.proofs.lemmas.Nat.{be_bytes_2, be_bytes_8, from_be_bytes-to_be_bytes_2, from_be_bytes-to_be_bytes_8}
use Rattle.tm_types.specs.Name.{IsName, is_name_byte}
use Rattle.tm_types.specs.Segment.{IsSegmentText, is_printable}
use Rattle.model_messages.specs.declared.conversation.PadChange.{PadChange}
use Rattle.model_messages.specs.declared.conversation.PadChange.TheVariants.{Stays, New, Ends}
use Rattle.model_messages.specs.declared.conversation.Conversation.{Conversation}
use Rattle.log_records.specs.RecordSpelling.{number1, number2, number8, flag, name, text, segs, spelled_pad_change, conversation_field, IsByte, IsNumber, AreSegments, IsAbend, IsText, IsPadChange, IsConversationSpelled}
use Rattle.log_records.specs.RecordReader.{GivesRead, ◌>>=◌, read_byte, read_number, flag_at, read_bytes, unless_wrong, bytes_of_kind_at, number_within_at, byte_within_at, name_at, text_at, segment_at, read_segments, segs_at, pad_of_kind_at, pad_change_at, conversation_where_at, read_conversation}
use Rattle.log_records.proofs.Takes.{IsBytes, IsBytes-drop, IsBytes-take, IsBytes-rest, bind_ok, failed_not, passed, ok_is, Takes, Takes-then, Field, ◌and◌, both_again, made_takes}
use Rattle.tm_types.proofs.Printable.{all_from_prefix, none_from_cond}

-- ---- numbers

pub byte_takes : (bytes : List ℕ) (x : ℕ × List ℕ) → IsBytes bytes → read_byte bytes ≡ Ok x → Takes bytes (number1 x.0) x.1 × IsByte x.0
unfolding read_byte
byte_takes [] x fits e = absurd cc
byte_takes (b ∷ rest) x fits e =
    let here : b < 256 = fits 0 in
    subst (λ (y : ℕ × List ℕ). Takes (b ∷ rest) (number1 y.0) y.1 × IsByte y.0) (ok_is (b, rest) x e) (record { parts = refl; rest_fits = IsBytes-rest b rest fits }, omega arith)

pub byte_again : (n : ℕ) (rest : List ℕ) → IsByte n → read_byte (number1 n ++ rest) ≡ Ok (n, rest)
unfolding read_byte
byte_again n rest h = refl

abbrev pub byte_field : Field ℕ
byte_field = record { read = read_byte; spell = number1; Fits = IsByte; takes = byte_takes; again = byte_again }

pub record IsWide (w : Width) (limit : ℕ) : Type 0 where
  pub len : (n : ℕ) → length (to_be_bytes w n) ≡ byte_len w
  pub back : (bytes : List ℕ) → length bytes ≡ byte_len w → IsBytes bytes → to_be_bytes w (from_be_bytes w bytes) ≡ bytes
  pub same : (n : ℕ) → n < limit → from_be_bytes w (to_be_bytes w n) ≡ n
  pub below : (bytes : List ℕ) → IsBytes bytes → from_be_bytes w bytes < limit

pub wide16 : IsWide w16 (2 ^ 16)
wide16 = record {
  len = λ n. refl;
  back = λ bytes len fits. be_bytes_2 bytes _ len fits refl;
  same = λ n lt. from_be_bytes-to_be_bytes_2 n lt;
  below = λ bytes fits. omega (arith, fits 0, fits 1);
}

pub wide64 : IsWide w64 (2 ^ 64)
wide64 = record {
  len = λ n. refl;
  back = λ bytes len fits. be_bytes_8 bytes _ len fits refl;
  same = λ n lt. from_be_bytes-to_be_bytes_8 n lt;
  below = λ bytes fits. omega (arith, fits 0, fits 1, fits 2, fits 3, fits 4, fits 5, fits 6, fits 7);
}

pub number_takes : (w : Width) (limit : ℕ) (wide : IsWide w limit) (bytes : List ℕ) (x : ℕ × List ℕ) → IsBytes bytes → read_number w bytes ≡ Ok x → Takes bytes (to_be_bytes w x.0) x.1 × (x.0 < limit)
unfolding read_number
number_takes w limit wide bytes x fits e =
    let g = failed_not (ltb (length bytes) (byte_len w)) (1, 0) (from_be_bytes w (take (byte_len w) bytes), drop (byte_len w) bytes) x e in
    let long : byte_len w ≤ length bytes = ltb-false _ _ g.0 in
    let front = take (byte_len w) bytes in
    let front_fits : IsBytes (take (byte_len w) bytes) = IsBytes-take (byte_len w) bytes fits in
    let spelled : to_be_bytes w (from_be_bytes w (take (byte_len w) bytes)) ≡ take (byte_len w) bytes = wide.back (take (byte_len w) bytes) (omega (arith, length-take (byte_len w) bytes)) front_fits in
    let whole : Takes bytes (to_be_bytes w (from_be_bytes w (take (byte_len w) bytes))) (drop (byte_len w) bytes) = record { parts = rw spelled (sym (take-append-drop (byte_len w) bytes)); rest_fits = IsBytes-drop (byte_len w) bytes fits } in
    subst (λ (y : ℕ × List ℕ). Takes bytes (to_be_bytes w y.0) y.1 × (y.0 < limit)) g.1 (whole, wide.below (take (byte_len w) bytes) front_fits)

pub number_again : (w : Width) (limit : ℕ) (wide : IsWide w limit) (n : ℕ) (rest : List ℕ) → n < limit → read_number w (to_be_bytes w n ++ rest) ≡ Ok (n, rest)
unfolding read_number
number_again w limit wide n rest lt =
    let len = wide.len n in
    let long : ltb (length (to_be_bytes w n ++ rest)) (byte_len w) ≡ false = le-ltb _ _ (omega (arith, length-append (to_be_bytes w n) rest)) in
    rw (long, take_at (to_be_bytes w n) rest (byte_len w) len, drop_at (to_be_bytes w n) rest (byte_len w) len, wide.same n lt) refl

pub number2_takes : (bytes : List ℕ) (x : ℕ × List ℕ) → IsBytes bytes → read_number w16 bytes ≡ Ok x → Takes bytes (number2 x.0) x.1 × (x.0 < 2 ^ 16)
unfolding number2
number2_takes = number_takes w16 (2 ^ 16) wide16

pub number2_again : (n : ℕ) (rest : List ℕ) → n < 2 ^ 16 → read_number w16 (number2 n ++ rest) ≡ Ok (n, rest)
unfolding number2
number2_again = number_again w16 (2 ^ 16) wide16

pub number2_length : (n : ℕ) → length (number2 n) ≡ 2
unfolding number2
number2_length n = refl

pub number8_length : (n : ℕ) → length (number8 n) ≡ 8
unfolding number8
number8_length n = refl

pub number8_takes : (bytes : List ℕ) (x : ℕ × List ℕ) → IsBytes bytes → read_number w64 bytes ≡ Ok x → Takes bytes (number8 x.0) x.1 × IsNumber x.0
unfolding number8
number8_takes = number_takes w64 (2 ^ 64) wide64

pub number8_again : (n : ℕ) (rest : List ℕ) → IsNumber n → read_number w64 (number8 n ++ rest) ≡ Ok (n, rest)
unfolding number8
number8_again = number_again w64 (2 ^ 64) wide64

abbrev pub number2_field : Field ℕ
number2_field = record { read = read_number w16; spell = number2; Fits = λ n. n < 2 ^ 16; takes = number2_takes; again = number2_again }

abbrev pub number8_field : Field ℕ
number8_field = record { read = read_number w64; spell = number8; Fits = IsNumber; takes = number8_takes; again = number8_again }

pub flag_takes : (bytes : List ℕ) (x : Bool × List ℕ) → IsBytes bytes → flag_at bytes ≡ Ok x → Takes bytes (flag x.0) x.1 × Unit {0}
unfolding flag_at
flag_takes [] x fits e = absurd cc
flag_takes (zero ∷ rest) x fits e = subst (λ (y : Bool × List ℕ). Takes (0 ∷ rest) (flag y.0) y.1 × Unit {0}) (ok_is (false, rest) x e) (record { parts = refl; rest_fits = IsBytes-rest 0 rest fits }, tt)
flag_takes (suc zero ∷ rest) x fits e = subst (λ (y : Bool × List ℕ). Takes (1 ∷ rest) (flag y.0) y.1 × Unit {0}) (ok_is (true, rest) x e) (record { parts = refl; rest_fits = IsBytes-rest 1 rest fits }, tt)
flag_takes (suc (suc b) ∷ rest) x fits e = absurd cc

pub flag_again : (b : Bool) (rest : List ℕ) → Unit {0} → flag_at (flag b ++ rest) ≡ Ok (b, rest)
unfolding flag_at
flag_again false rest h = refl
flag_again true rest h = refl

abbrev pub flag_field : Field Bool
flag_field = record { read = flag_at; spell = flag; Fits = λ b. Unit {0}; takes = flag_takes; again = flag_again }

-- ---- numbers within a range

within : (low high n : ℕ) → (leb low n && leb n high) ≡ true → (low ≤ n) × (n ≤ high)
within low high n e = let p = and_parts (leb low n) (leb n high) e in (leb-true low n p.0, leb-true n high p.1)

pub is_within : (low high n : ℕ) → low ≤ n → n ≤ high → (leb low n && leb n high) ≡ true
is_within low high n l h = and_from (leb low n) (leb n high) (le-leb low n l) (le-leb n high h)

abbrev IsWithin : ℕ → ℕ → ℕ → Type 0
IsWithin low high n = (low ≤ n) × (n ≤ high)

pub byte_within_takes : (low high : ℕ) (bytes : List ℕ) (x : ℕ × List ℕ) → IsBytes bytes → byte_within_at low high bytes ≡ Ok x → Takes bytes (number1 x.0) x.1 × ((low ≤ x.0) × (x.0 ≤ high))
unfolding byte_within_at
byte_within_takes low high bytes x fits e =
    let u = bind_ok (read_byte bytes) (λ (n : ℕ × List ℕ). cond (leb low n.0 && leb n.0 high) (Ok n) (Err (3, length bytes))) x e in
    let g = passed (leb low u.0.0 && leb u.0.0 high) (3, length bytes) u.0 x u.2 in
    let k = byte_takes bytes u.0 fits u.1 in
    subst (λ (y : ℕ × List ℕ). Takes bytes (number1 y.0) y.1 × ((low ≤ y.0) × (y.0 ≤ high))) g.1 (k.0, within low high u.0.0 g.0)

pub byte_within_again : (low high n : ℕ) (rest : List ℕ) → low ≤ n → n ≤ high → byte_within_at low high (n ∷ rest) ≡ Ok (n, rest)
unfolding byte_within_at read_byte
byte_within_again low high n rest l h = rw (is_within low high n l h) refl

pub number_within_takes : (low high : ℕ) (bytes : List ℕ) (x : ℕ × List ℕ) → IsBytes bytes → number_within_at low high w16 bytes ≡ Ok x → Takes bytes (number2 x.0) x.1 × ((low ≤ x.0) × (x.0 ≤ high))
unfolding number_within_at
number_within_takes low high bytes x fits e =
    let u = bind_ok (read_number w16 bytes) (λ (n : ℕ × List ℕ). cond (leb low n.0 && leb n.0 high) (Ok n) (Err (3, length bytes))) x e in
    let g = passed (leb low u.0.0 && leb u.0.0 high) (3, length bytes) u.0 x u.2 in
    let k = number2_takes bytes u.0 fits u.1 in
    subst (λ (y : ℕ × List ℕ). Takes bytes (number2 y.0) y.1 × ((low ≤ y.0) × (y.0 ≤ high))) g.1 (k.0, within low high u.0.0 g.0)

number_within_again : (low high n : ℕ) (rest : List ℕ) → n < 2 ^ 16 → low ≤ n → n ≤ high → number_within_at low high w16 (number2 n ++ rest) ≡ Ok (n, rest)
unfolding number_within_at
number_within_again low high n rest lt l h = rw (number2_again n rest lt, is_within low high n l h) refl

pub abend_again : (n : ℕ) (rest : List ℕ) → IsAbend n → number_within_at 1 4095 w16 (number2 n ++ rest) ≡ Ok (n, rest)
abend_again n rest h = number_within_again 1 4095 n rest (omega (arith, h.1)) h.0 h.1

abbrev pub abend_field : Field ℕ
abend_field = record { read = number_within_at 1 4095 w16; spell = number2; Fits = IsAbend; takes = number_within_takes 1 4095; again = abend_again }

-- ---- bytes

bytes_take : (n : ℕ) (bytes : List ℕ) (x : List ℕ × List ℕ) → IsBytes bytes → read_bytes n bytes ≡ Ok x → Takes bytes x.0 x.1 × (length x.0 ≡ n) × (x.0 ≡ take n bytes)
unfolding read_bytes
bytes_take n bytes x fits e =
    let g = failed_not (ltb (length bytes) n) (1, 0) (take n bytes, drop n bytes) x e in
    let long : n ≤ length bytes = ltb-false _ _ g.0 in
    let len : length (take n bytes) ≡ n = omega (arith, length-take n bytes) in
    subst (λ (y : List ℕ × List ℕ). Takes bytes y.0 y.1 × (length y.0 ≡ n) × (y.0 ≡ take n bytes)) g.1 (record { parts = sym (take-append-drop n bytes); rest_fits = IsBytes-drop n bytes fits }, len, refl)

bytes_again : (t rest : List ℕ) → read_bytes (length t) (t ++ rest) ≡ Ok (t, rest)
unfolding read_bytes
bytes_again t rest =
    let long : ltb (length (t ++ rest)) (length t) ≡ false = le-ltb _ _ (omega (arith, length-append t rest)) in
    rw (long, take_at t rest (length t) refl, drop_at t rest (length t) refl) refl

-- ---- bytes of a kind

pub all_from_position : (p : ℕ → Bool) (xs : List ℕ) → position (λ b. not (p b)) xs ≡ None → list_all p xs ≡ true
all_from_position p xs none =
    let past : nat_lt (prefix_len (λ b. not (not (p b))) xs) (length xs) ≡ false = none_from_cond _ _ none in
    all_from_prefix p xs (ltb-false _ _ past)

not_not : (b : Bool) → not (not b) ≡ b
not_not true = refl
not_not false = refl

prefix_from_all : (p : ℕ → Bool) (xs : List ℕ) → list_all p xs ≡ true → prefix_len (λ x. not (not (p x))) xs ≡ length xs
prefix_from_all p [] h = refl
prefix_from_all p (x ∷ xs) h =
    let parts = and_parts (p x) (list_all p xs) h in
    rw (not_not (p x), parts.0, prefix_from_all p xs parts.1) (omega arith)

position_from_all : (p : ℕ → Bool) (xs : List ℕ) → list_all p xs ≡ true → position (λ b. not (p b)) xs ≡ None
position_from_all p xs h =
    let past : nat_lt (prefix_len (λ b. not (not (p b))) xs) (length xs) ≡ false = le-ltb _ _ (omega (arith, prefix_from_all p xs h)) in
    rw past refl

unless_wrong_ok : (o : Option ℕ) (n : ℕ) (bytes : List ℕ) (x : List ℕ × List ℕ) → unless_wrong o n bytes ≡ Ok x → (o ≡ None) × (read_bytes n bytes ≡ Ok x)
unless_wrong_ok None n bytes x e = (refl, e)
unless_wrong_ok (Some i) n bytes x e = absurd cc

kind_takes : (p : ℕ → Bool) (n : ℕ) (bytes : List ℕ) (x : List ℕ × List ℕ) → IsBytes bytes → bytes_of_kind_at p n bytes ≡ Ok x → Takes bytes x.0 x.1 × (length x.0 ≡ n) × IsTrue (list_all p x.0)
unfolding bytes_of_kind_at
kind_takes p n bytes x fits e =
    let u = unless_wrong_ok (position (λ b. not (p b)) (take n bytes)) n bytes x e in
    let k = bytes_take n bytes x fits u.1 in
    let each : list_all p x.0 ≡ true = rw k.2 (all_from_position p (take n bytes) u.0) in
    (k.0, k.1, each)

-- what a function answered that reads so many bytes, none of which is wrong
pub kind_each : {X : Type 0} (p : ℕ → Bool) (n : ℕ) (bytes : List ℕ) (view : X → List ℕ × List ℕ) (r : Result X ReadFault) → position (λ b. not (p b)) (take n bytes) ≡ None → GivesRead view r (read_bytes n bytes)
    → IfOk r (λ x. (length (view x).0 ≡ n) × IsTrue (list_all p (view x).0))
unfolding read_bytes
kind_each p n bytes view (Err e) none given = tt
kind_each p n bytes view (Ok v) none given =
    let g = failed_not (ltb (length bytes) n) (1, 0) (take n bytes, drop n bytes) (view v) given in
    let long : n ≤ length bytes = ltb-false _ _ g.0 in
    let len : length (take n bytes) ≡ n = omega (arith, length-take n bytes) in
    subst (λ (y : List ℕ × List ℕ). (length y.0 ≡ n) × IsTrue (list_all p y.0)) g.1 (len, all_from_position p (take n bytes) none)

kind_again : (p : ℕ → Bool) (t rest : List ℕ) → IsTrue (list_all p t) → bytes_of_kind_at p (length t) (t ++ rest) ≡ Ok (t, rest)
unfolding bytes_of_kind_at
kind_again p t rest h =
    rw (take_at t rest (length t) refl, position_from_all p t h) (bytes_again t rest)

-- ---- names and texts

pub name_takes : (bytes : List ℕ) (x : List ℕ × List ℕ) → IsBytes bytes → name_at bytes ≡ Ok x → Takes bytes (name x.0) x.1 × IsName x.0
unfolding name_at
name_takes bytes x fits e =
    let u = bind_ok (byte_within_at 1 8 bytes) (λ (n : ℕ × List ℕ). bytes_of_kind_at is_name_byte n.0 n.1) x e in
    let k = byte_within_takes 1 8 bytes u.0 fits u.1 in
    let l = kind_takes is_name_byte u.0.0 u.0.1 x k.0.rest_fits u.2 in
    let whole : Takes bytes (number1 u.0.0 ++ x.0) x.1 = Takes-then bytes (number1 u.0.0) u.0.1 x.0 x.1 k.0 l.0 in
    (subst (λ (n : ℕ). Takes bytes (number1 n ++ x.0) x.1) (sym l.1) whole, (omega (arith, k.1, l.1), omega (arith, k.1, l.1), l.2))

pub name_again : (t rest : List ℕ) → IsName t → name_at (name t ++ rest) ≡ Ok (t, rest)
unfolding name_at
name_again t rest h = rw (byte_within_again 1 8 (length t) (t ++ rest) h.0 h.1) (kind_again is_name_byte t rest h.2)

abbrev pub name_field : Field (List ℕ)
name_field = record { read = name_at; spell = name; Fits = IsName; takes = name_takes; again = name_again }

pub text_takes : (limit : ℕ) (bytes : List ℕ) (x : List ℕ × List ℕ) → IsBytes bytes → text_at limit bytes ≡ Ok x → Takes bytes (text x.0) x.1 × (length x.0 ≤ limit)
unfolding text_at
text_takes limit bytes x fits e =
    let u = bind_ok (number_within_at 0 limit w16 bytes) (λ (n : ℕ × List ℕ). read_bytes n.0 n.1) x e in
    let k = number_within_takes 0 limit bytes u.0 fits u.1 in
    let l = bytes_take u.0.0 u.0.1 x k.0.rest_fits u.2 in
    let whole : Takes bytes (number2 u.0.0 ++ x.0) x.1 = Takes-then bytes (number2 u.0.0) u.0.1 x.0 x.1 k.0 l.0 in
    (subst (λ (n : ℕ). Takes bytes (number2 n ++ x.0) x.1) (sym l.1) whole, omega (arith, k.1, l.1))

text_again : (limit : ℕ) (t rest : List ℕ) → limit < 2 ^ 16 → length t ≤ limit → text_at limit (text t ++ rest) ≡ Ok (t, rest)
unfolding text_at
text_again limit t rest small h =
    ap (text_at limit) (append_assoc (number2 (length t)) t rest) ∙ rw (number_within_again 0 limit (length t) (t ++ rest) (omega arith) (omega arith) h) (bytes_again t rest)

pub text_again_within : (limit : ℕ) → limit < 2 ^ 16 → (t rest : List ℕ) → length t ≤ limit → text_at limit (text t ++ rest) ≡ Ok (t, rest)
text_again_within limit small t rest h = text_again limit t rest small h

abbrev pub text_field : (limit : ℕ) → limit < 2 ^ 16 → Field (List ℕ)
text_field limit small = record { read = text_at limit; spell = text; Fits = λ t. length t ≤ limit; takes = text_takes limit; again = text_again_within limit small }

pub whole_text_takes : (bytes : List ℕ) (x : List ℕ × List ℕ) → IsBytes bytes → text_at 65535 bytes ≡ Ok x → Takes bytes (text x.0) x.1 × IsText x.0
whole_text_takes bytes x fits e = let k = text_takes 65535 bytes x fits e in (k.0, omega (arith, k.1))

pub whole_text_again : (t rest : List ℕ) → IsText t → text_at 65535 (text t ++ rest) ≡ Ok (t, rest)
whole_text_again t rest h = text_again 65535 t rest (omega arith) (omega (arith, h))

abbrev pub whole_text_field : Field (List ℕ)
whole_text_field = record { read = text_at 65535; spell = text; Fits = IsText; takes = whole_text_takes; again = whole_text_again }

-- ---- segments

segment_takes : (bytes : List ℕ) (x : List ℕ × List ℕ) → IsBytes bytes → segment_at bytes ≡ Ok x → Takes bytes (text x.0) x.1 × IsSegmentText x.0
unfolding segment_at
segment_takes bytes x fits e =
    let u = bind_ok (number_within_at 0 1996 w16 bytes) (λ (n : ℕ × List ℕ). bytes_of_kind_at is_printable n.0 n.1) x e in
    let k = number_within_takes 0 1996 bytes u.0 fits u.1 in
    let l = kind_takes is_printable u.0.0 u.0.1 x k.0.rest_fits u.2 in
    let whole : Takes bytes (number2 u.0.0 ++ x.0) x.1 = Takes-then bytes (number2 u.0.0) u.0.1 x.0 x.1 k.0 l.0 in
    (subst (λ (n : ℕ). Takes bytes (number2 n ++ x.0) x.1) (sym l.1) whole, (omega (arith, k.1, l.1), l.2))

segment_again : (t rest : List ℕ) → IsSegmentText t → segment_at (text t ++ rest) ≡ Ok (t, rest)
unfolding segment_at
segment_again t rest h =
    ap segment_at (append_assoc (number2 (length t)) t rest) ∙ rw (number_within_again 0 1996 (length t) (t ++ rest) (omega (arith, h.0)) (omega arith) h.0) (kind_again is_printable t rest h.1)

segments_take : (n : ℕ) (bytes : List ℕ) (x : List (List ℕ) × List ℕ) → IsBytes bytes → read_segments n bytes ≡ Ok x → Takes bytes (flat_map text x.0) x.1 × (length x.0 ≡ n) × AllByRecursion IsSegmentText x.0
unfolding read_segments
segments_take zero bytes x fits e =
    subst (λ (y : List (List ℕ) × List ℕ). Takes bytes (flat_map text y.0) y.1 × (length y.0 ≡ 0) × AllByRecursion IsSegmentText y.0) (ok_is ([], bytes) x e) (record { parts = refl; rest_fits = fits }, refl, tt)
segments_take (suc n) bytes x fits e =
    let a = bind_ok (segment_at bytes) (λ (first : List ℕ × List ℕ). read_segments n first.1 >>= λ others. Ok (first.0 ∷ others.0, others.1)) x e in
    let b = bind_ok (read_segments n a.0.1) (λ (others : List (List ℕ) × List ℕ). Ok (a.0.0 ∷ others.0, others.1)) x a.2 in
    let first = segment_takes bytes a.0 fits a.1 in
    let second = segments_take n a.0.1 b.0 first.0.rest_fits b.1 in
    let all = Takes-then bytes (text a.0.0) a.0.1 (flat_map text b.0.0) b.0.1 first.0 second.0 in
    let found : List (List ℕ) × List ℕ = (a.0.0 ∷ b.0.0, b.0.1) in
    subst (λ (y : List (List ℕ) × List ℕ). Takes bytes (flat_map text y.0) y.1 × (length y.0 ≡ suc n) × AllByRecursion IsSegmentText y.0) (ok_is found x b.2) (rw flat_map-cons all, ap suc second.1, (first.1, second.2))

segments_again : (ts : List (List ℕ)) (rest : List ℕ) → AllByRecursion IsSegmentText ts → read_segments (length ts) (flat_map text ts ++ rest) ≡ Ok (ts, rest)
unfolding read_segments
segments_again [] rest fits = refl
segments_again (t ∷ ts) rest fits =
    let regrouped : flat_map text (t ∷ ts) ++ rest ≡ text t ++ (flat_map text ts ++ rest) = ap (λ (x : List ℕ). x ++ rest) (flat_map-cons text t ts) ∙ append_assoc (text t) (flat_map text ts) rest in
    ap (read_segments (suc (length ts))) regrouped ∙ rw (segment_again t (flat_map text ts ++ rest) fits.0, segments_again ts rest fits.1) refl

pub segs_take : (bytes : List ℕ) (x : List (List ℕ) × List ℕ) → IsBytes bytes → segs_at bytes ≡ Ok x → Takes bytes (segs x.0) x.1 × AreSegments x.0
unfolding segs_at
segs_take bytes x fits e =
    let u = bind_ok (byte_within_at 1 32 bytes) (λ (n : ℕ × List ℕ). read_segments n.0 n.1) x e in
    let k = byte_within_takes 1 32 bytes u.0 fits u.1 in
    let l = segments_take u.0.0 u.0.1 x k.0.rest_fits u.2 in
    let whole : Takes bytes (number1 u.0.0 ++ flat_map text x.0) x.1 = Takes-then bytes (number1 u.0.0) u.0.1 (flat_map text x.0) x.1 k.0 l.0 in
    (subst (λ (n : ℕ). Takes bytes (number1 n ++ flat_map text x.0) x.1) (sym l.1) whole, (omega (arith, k.1, l.1), omega (arith, k.1, l.1), l.2))

pub segs_again : (ts : List (List ℕ)) (rest : List ℕ) → AreSegments ts → segs_at (segs ts ++ rest) ≡ Ok (ts, rest)
unfolding segs_at
segs_again ts rest h = rw (byte_within_again 1 32 (length ts) (flat_map text ts ++ rest) h.0 h.1) (segments_again ts rest h.2)

abbrev pub segs_field : Field (List (List ℕ))
segs_field = record { read = segs_at; spell = segs; Fits = AreSegments; takes = segs_take; again = segs_again }

-- ---- pads and conversations

pad_of_kind_takes : (kind : ℕ) (bytes : List ℕ) (x : PadChange × List ℕ) → kind ≤ 2 → IsBytes bytes → pad_of_kind_at kind bytes ≡ Ok x → Takes (kind ∷ bytes) (spelled_pad_change x.0) x.1 × IsPadChange x.0
unfolding pad_of_kind_at
pad_of_kind_takes zero bytes x le fits e =
    let u = bind_ok (text_at 0 bytes) (λ (y : List ℕ × List ℕ). Ok (Stays, y.1)) x e in
    let k = text_takes 0 bytes u.0 fits u.1 in
    let nothing : u.0.0 ≡ [] = nil_from_length u.0.0 (omega (arith, k.1)) in
    let whole : Takes (0 ∷ bytes) (0 ∷ text []) u.0.1 = record { parts = ap (λ (t : List ℕ). 0 ∷ t) k.0.parts ∙ ap (λ (t : List ℕ). 0 ∷ (text t ++ u.0.1)) nothing; rest_fits = k.0.rest_fits } in
    subst (λ (y : PadChange × List ℕ). Takes (0 ∷ bytes) (spelled_pad_change y.0) y.1 × IsPadChange y.0) (ok_is (Stays, u.0.1) x u.2) (whole, tt)
pad_of_kind_takes (suc zero) bytes x le fits e =
    made_takes (λ (pad : List ℕ). New pad) whole_text_field (1 ∷ []) spelled_pad_change IsPadChange (λ v. refl) (λ v h. h) bytes x fits e
pad_of_kind_takes (suc (suc zero)) bytes x le fits e =
    let u = bind_ok (text_at 0 bytes) (λ (y : List ℕ × List ℕ). Ok (Ends, y.1)) x e in
    let k = text_takes 0 bytes u.0 fits u.1 in
    let nothing : u.0.0 ≡ [] = nil_from_length u.0.0 (omega (arith, k.1)) in
    let whole : Takes (2 ∷ bytes) (2 ∷ text []) u.0.1 = record { parts = ap (λ (t : List ℕ). 2 ∷ t) k.0.parts ∙ ap (λ (t : List ℕ). 2 ∷ (text t ++ u.0.1)) nothing; rest_fits = k.0.rest_fits } in
    subst (λ (y : PadChange × List ℕ). Takes (2 ∷ bytes) (spelled_pad_change y.0) y.1 × IsPadChange y.0) (ok_is (Ends, u.0.1) x u.2) (whole, tt)
pad_of_kind_takes (suc (suc (suc b))) bytes x le fits e = absurd (omega arith)

pub pad_change_takes : (bytes : List ℕ) (x : PadChange × List ℕ) → IsBytes bytes → pad_change_at bytes ≡ Ok x → Takes bytes (spelled_pad_change x.0) x.1 × IsPadChange x.0
unfolding pad_change_at
pad_change_takes bytes x fits e =
    let u = bind_ok (byte_within_at 0 2 bytes) (λ (kind : ℕ × List ℕ). pad_of_kind_at kind.0 kind.1) x e in
    let k = byte_within_takes 0 2 bytes u.0 fits u.1 in
    let l = pad_of_kind_takes u.0.0 u.0.1 x k.1.1 k.0.rest_fits u.2 in
    (record { parts = k.0.parts ∙ l.0.parts; rest_fits = l.0.rest_fits }, l.1)

pub pad_change_again : (v : PadChange) (rest : List ℕ) → IsPadChange v → pad_change_at (spelled_pad_change v ++ rest) ≡ Ok (v, rest)
unfolding pad_change_at pad_of_kind_at
pad_change_again Stays rest h = rw (byte_within_again 0 2 0 (text [] ++ rest) (omega arith) (omega arith), text_again 0 [] rest (omega arith) (omega arith)) refl
pad_change_again (New pad) rest h = rw (byte_within_again 0 2 1 (text pad ++ rest) (omega arith) (omega arith), whole_text_again pad rest h) refl
pad_change_again Ends rest h = rw (byte_within_again 0 2 2 (text [] ++ rest) (omega arith) (omega arith), text_again 0 [] rest (omega arith) (omega arith)) refl

abbrev pub pad_change_field : Field PadChange
pad_change_field = record { read = pad_change_at; spell = spelled_pad_change; Fits = IsPadChange; takes = pad_change_takes; again = pad_change_again }

abbrev code_and_pad : Field (List ℕ × List ℕ)
code_and_pad = name_field and whole_text_field

conversation_where_takes : (there : Bool) (bytes : List ℕ) (x : Option Conversation × List ℕ) → IsBytes bytes → conversation_where_at there bytes ≡ Ok x → Takes (flag there ++ bytes) (conversation_field x.0) x.1 × IsConversationSpelled x.0
unfolding conversation_where_at
conversation_where_takes false bytes x fits e =
    let u = bind_ok (text_at 0 bytes) (λ (y : List ℕ × List ℕ). Ok (None, y.1)) x e in
    let k = text_takes 0 bytes u.0 fits u.1 in
    let nothing : u.0.0 ≡ [] = nil_from_length u.0.0 (omega (arith, k.1)) in
    let whole : Takes (0 ∷ bytes) (0 ∷ text []) u.0.1 = record { parts = ap (λ (t : List ℕ). 0 ∷ t) k.0.parts ∙ ap (λ (t : List ℕ). 0 ∷ (text t ++ u.0.1)) nothing; rest_fits = k.0.rest_fits } in
    subst (λ (y : Option Conversation × List ℕ). Takes (0 ∷ bytes) (conversation_field y.0) y.1 × IsConversationSpelled y.0) (ok_is (None, u.0.1) x u.2) (whole, tt)
conversation_where_takes true bytes x fits e =
    let make : List ℕ × List ℕ → Option Conversation = λ c. Some (record { code = c.0; pad = c.1 }) in
    made_takes make code_and_pad (1 ∷ []) conversation_field IsConversationSpelled (λ v. refl) (λ v h. h) bytes x fits e

pub conversation_takes : (bytes : List ℕ) (x : Option Conversation × List ℕ) → IsBytes bytes → read_conversation bytes ≡ Ok x → Takes bytes (conversation_field x.0) x.1 × IsConversationSpelled x.0
unfolding read_conversation
conversation_takes bytes x fits e =
    let u = bind_ok (flag_at bytes) (λ (there : Bool × List ℕ). conversation_where_at there.0 there.1) x e in
    let k = flag_takes bytes u.0 fits u.1 in
    let l = conversation_where_takes u.0.0 u.0.1 x k.0.rest_fits u.2 in
    (record { parts = k.0.parts ∙ l.0.parts; rest_fits = l.0.rest_fits }, l.1)

pub conversation_again : (v : Option Conversation) (rest : List ℕ) → IsConversationSpelled v → read_conversation (conversation_field v ++ rest) ≡ Ok (v, rest)
unfolding read_conversation conversation_where_at flag_at
conversation_again None rest h = rw (text_again 0 [] rest (omega arith) (omega arith)) refl
conversation_again (Some c) rest h = rw (both_again name_field whole_text_field (c.code, c.pad) rest h) refl

abbrev pub conversation_or_none_field : Field (Option Conversation)
conversation_or_none_field = record { read = read_conversation; spell = conversation_field; Fits = IsConversationSpelled; takes = conversation_takes; again = conversation_again }
