-- Records that were appended are cut out again; a front of them gives a front of the records, and a rest that is cut off.
use Rattle.std.proofs.Common.{◌≡◌, ℕ, zero, suc, ◌+◌, ◌-◌, ◌<◌, ◌≤◌, List, [], ◌∷◌, ◌++◌, length, take, drop, refl, sym, ◌∙◌, ap, subst, ⊎_elim, arith, Some, Ok, Err, append_assoc}
use Rattle.std.specs.Prelude.{Result}
use Rattle.std.specs.List.{flat_map, AllByRecursion}
use Rattle.std.proofs.lemmas.Bool.{cases_lt}
use Rattle.std.proofs.lemmas.List.{length-append, length-take, take_at, drop_at, take-append-drop, append-nil, length-drop}
use Rattle.std.proofs.lemmas.List.{take-append-le}
use Rattle.std.proofs.Math.Seq.{take-append-add}
use Rattle.std.proofs.lemmas.List.Concat.{flat_map-cons}
use Rattle.log_records.specs.declared.record.Record.{Record}
use Rattle.log_records.specs.RecordSpelling.{IsLogRecord, record_spelling, record_length, record_content, number2}
use Rattle.log_records.specs.RecordReader.{record_at, read_number}
use Rattle.log_records.proofs.Takes.{IsBytes, IsBytes-take, IsBytes-drop}
use Rattle.log_records.proofs.Laws.{record_takes, record_again, one_spelling}
use Rattle.log_records.proofs.FieldLaws.{number2_length}
use Rattle.model_image.specs.CutRecords.{Cut, none_of, and_others, from_first, cut_by, cut_of, where_none_left, records_cut, IsRecordCutOff}
use Rattle.model_image.proofs.Answers.{nothing_cut_off}

-- the bytes of records, one after another
abbrev pub spelled : List Record → List ℕ
spelled records = flat_map record_spelling records

-- What so many bytes of these records are cut into: the records that are whole, as many as there are, and the rest.
pub record CutsFront (records : List Record) (count : ℕ) (cut : Cut) : Type 0 where
  pub whole : ℕ
  pub are : cut.records ≡ take whole records
  pub rest : IsRecordCutOff cut.rest
  pub most : (k : ℕ) → k ≤ length records → length (spelled (take k records)) ≤ count → k ≤ whole

pub length_spelling : (r : Record) → length (record_spelling r) ≡ record_length r
length_spelling r = length-append (number2 (record_length r)) (record_content r) ∙ ap (λ n. n + length (record_content r)) (number2_length (record_length r))

-- a front of a record's spelling begins with no record
no_record : (r : Record) (n : ℕ) → IsLogRecord r → IsBytes (record_spelling r) → n < length (record_spelling r) → (x : Record × ℕ) → record_at (take n (record_spelling r)) ≡ Ok x → ⊥
no_record r n is_record bytes short x found =
    let front = take n (record_spelling r) in
    let takes = record_takes front x (IsBytes-take n (record_spelling r) bytes) found in
    let one = one_spelling (take x.1 front) (record_spelling r) x.0 r (drop x.1 front ++ drop n (record_spelling r)) [] takes.1 (record { is_record = is_record; same = refl })
    (sym (append_assoc (take x.1 front) (drop x.1 front) (drop n (record_spelling r))) ∙ ap (λ (l : List ℕ). l ++ drop n (record_spelling r)) (take-append-drop x.1 front) ∙ take-append-drop n (record_spelling r) ∙ sym (append-nil (record_spelling r))) in
    omega (arith, ap (length {A = ℕ}) one.0, length-take x.1 front, length-take n (record_spelling r), short)

stops : (n : ℕ) (bytes : List ℕ) → ((x : Record × ℕ) → record_at bytes ≡ Ok x → ⊥) → cut_by n bytes ≡ none_of bytes
stops zero bytes none = refl
stops (suc n) bytes none = by_read (record_at bytes) refl where
  by_read : (read : Result (Record × ℕ) (ℕ × ℕ)) → record_at bytes ≡ read → from_first (cut_by n) bytes (record_at bytes) ≡ none_of bytes
  by_read (Ok x) is = absurd (none x is)
  by_read (Err e) is = ap (from_first (cut_by n) bytes) is

goes_on : (n : ℕ) (r : Record) (rest : List ℕ) → IsLogRecord r → cut_by (suc n) (record_spelling r ++ rest) ≡ and_others r (cut_by n rest)
goes_on n r rest is_record =
    ap (from_first (cut_by n) (record_spelling r ++ rest)) (record_again r rest is_record)
    ∙ ap (λ (l : List ℕ). and_others r (cut_by n l)) (drop_at (record_spelling r) rest (record_length r) (length_spelling r))

nothing_found : record_at [] ≡ Err (1, 0)
unfolding record_at read_number
nothing_found = refl

spelled_more : (r : Record) (records : List Record) → spelled (r ∷ records) ≡ record_spelling r ++ spelled records
spelled_more r records = flat_map-cons record_spelling r records

bytes_of_first : (xs ys : List ℕ) → IsBytes (xs ++ ys) → IsBytes xs
bytes_of_first xs ys bytes = subst IsBytes (take_at xs ys (length xs) refl) (IsBytes-take (length xs) (xs ++ ys) bytes)

bytes_of_rest : (xs ys : List ℕ) → IsBytes (xs ++ ys) → IsBytes ys
bytes_of_rest xs ys bytes = subst IsBytes (drop_at xs ys (length xs) refl) (IsBytes-drop (length xs) (xs ++ ys) bytes)

-- only no records are so short
none_fits : (r : Record) (records : List Record) (count k : ℕ) → count < length (record_spelling r) → length (spelled (take k (r ∷ records))) ≤ count → k ≤ 0
none_fits r records count zero short fits = omega arith
none_fits r records count (suc k) short fits =
    absurd (omega (arith, short, fits, ap (length {A = ℕ}) (spelled_more r (take k records)), length-append (record_spelling r) (spelled (take k records))))

others_fit : (r : Record) (records : List Record) (count more k whole : ℕ) → count ≡ length (record_spelling r) + more → ((j : ℕ) → j ≤ length records → length (spelled (take j records)) ≤ more → j ≤ whole) → k ≤ length (r ∷ records) → length (spelled (take k (r ∷ records))) ≤ count → k ≤ suc whole
others_fit r records count more zero whole is most within fits = omega arith
others_fit r records count more (suc k) whole is most within fits =
    let less : length (spelled (take k records)) ≤ more =
    omega (arith, is, fits, ap (length {A = ℕ}) (spelled_more r (take k records)), length-append (record_spelling r) (spelled (take k records))) in
    omega (arith, most k (omega (arith, within)) less)

-- a front that ends within the first record
cuts_none : (r : Record) (records : List Record) (fuel count : ℕ) → IsLogRecord r → IsBytes (record_spelling r) → count < length (record_spelling r) → CutsFront (r ∷ records) count (cut_by fuel (take count (spelled (r ∷ records))))
cuts_none r records fuel count is_record bytes short =
    let front : take count (spelled (r ∷ records)) ≡ take count (record_spelling r) =
    ap (λ (l : List ℕ). take count l) (spelled_more r records) ∙ take-append-le count (record_spelling r) (spelled records) (omega (arith, short)) in
    let cut : cut_by fuel (take count (spelled (r ∷ records))) ≡ none_of (take count (record_spelling r)) =
    ap (cut_by fuel) front ∙ stops fuel (take count (record_spelling r)) (no_record r count is_record bytes short) in
    subst (CutsFront (r ∷ records) count) (sym cut) (record {
      whole = 0;
      are = refl;
      rest = record {
        whole = r;
        is_record = is_record;
        missing = drop count (record_spelling r);
        some = omega (arith, length-drop count (record_spelling r), short);
        begins = sym (take-append-drop count (record_spelling r));
      };
      most = λ k within fits. none_fits r records count k short fits;
    })

-- a front that has the first record whole
cuts_more : (r : Record) (records : List Record) (fuel count more : ℕ) → IsLogRecord r → count ≡ length (record_spelling r) + more → CutsFront records more (cut_by fuel (take more (spelled records))) → CutsFront (r ∷ records) count (cut_by (suc fuel) (take count (spelled (r ∷ records))))
cuts_more r records fuel count more is_record is others =
    let front : take count (spelled (r ∷ records)) ≡ record_spelling r ++ take more (spelled records) =
    ap (λ k. take k (spelled (r ∷ records))) is ∙ ap (λ (l : List ℕ). take (length (record_spelling r) + more) l) (spelled_more r records) ∙ take-append-add (record_spelling r) (spelled records) more in
    let cut : cut_by (suc fuel) (take count (spelled (r ∷ records))) ≡ and_others r (cut_by fuel (take more (spelled records))) =
    ap (cut_by (suc fuel)) front ∙ goes_on fuel r (take more (spelled records)) is_record in
    subst (CutsFront (r ∷ records) count) (sym cut) (record {
      whole = suc others.whole;
      are = ap (λ (l : List Record). r ∷ l) others.are;
      rest = others.rest;
      most = λ k within fits. others_fit r records count more k others.whole is others.most within fits;
    })

some_bytes : (r : Record) → 0 < length (record_spelling r)
some_bytes r = omega (arith, length_spelling r)

cuts_by : (records : List Record) (fuel count : ℕ) → length (take count (spelled records)) ≤ fuel → AllByRecursion IsLogRecord records → IsBytes (spelled records) → CutsFront records count (cut_by fuel (take count (spelled records)))
cuts_by [] fuel count enough are bytes =
    let front : take count (spelled []) ≡ [] = nothing count in
    let cut : cut_by fuel (take count (spelled [])) ≡ none_of [] =
    ap (cut_by fuel) front ∙ stops fuel [] (λ x found. let both : Err (1, 0) ≡ Ok x = sym nothing_found ∙ found in cc) in
    subst (CutsFront [] count) (sym cut) (record { whole = 0; are = refl; rest = nothing_cut_off; most = λ k within fits. within }) where
      nothing : (n : ℕ) → take n (spelled []) ≡ []
      nothing zero = refl
      nothing (suc n) = refl
cuts_by (r ∷ records) fuel count enough are bytes =
    let all : IsBytes (record_spelling r ++ spelled records) = subst IsBytes (spelled_more r records) bytes in
    ⊎_elim
    (λ (short : count < length (record_spelling r)). cuts_none r records fuel count are.0 (bytes_of_first (record_spelling r) (spelled records) all) short)
    (λ (long : length (record_spelling r) ≤ count).
    let more = count - length (record_spelling r) in
    let is : count ≡ length (record_spelling r) + more = omega (arith, long) in
    let front : take count (spelled (r ∷ records)) ≡ record_spelling r ++ take more (spelled records) =
    ap (λ k. take k (spelled (r ∷ records))) is ∙ ap (λ (l : List ℕ). take (length (record_spelling r) + more) l) (spelled_more r records) ∙ take-append-add (record_spelling r) (spelled records) more in
    let size : length (record_spelling r) + length (take more (spelled records)) ≤ fuel =
    omega (arith, enough, ap (length {A = ℕ}) front, length-append (record_spelling r) (take more (spelled records))) in
    let one : suc (fuel - 1) ≡ fuel = omega (arith, size, some_bytes r) in
    subst (λ n. CutsFront (r ∷ records) count (cut_by n (take count (spelled (r ∷ records))))) one
    (cuts_more r records (fuel - 1) count more are.0 is
    (cuts_by records (fuel - 1) more (omega (arith, size, some_bytes r)) are.1 (bytes_of_rest (record_spelling r) (spelled records) all))))
    (cases_lt count (length (record_spelling r)))

-- The first bytes of records are cut into those that are whole, and a rest that is cut off.
pub cuts_front : (records : List Record) (count : ℕ) → AllByRecursion IsLogRecord records → IsBytes (spelled records) → CutsFront records count (cut_of (take count (spelled records)))
unfolding cut_of
cuts_front records count are bytes = cuts_by records (length (take count (spelled records))) count (omega arith) are bytes

-- All bytes of records are cut into these.
cuts_whole : (records : List Record) (fuel : ℕ) → length records ≤ fuel → AllByRecursion IsLogRecord records → cut_by fuel (spelled records) ≡ record { records = records; rest = [] }
cuts_whole [] fuel enough are = stops fuel [] (λ x found. let both : Err (1, 0) ≡ Ok x = sym nothing_found ∙ found in cc)
cuts_whole (r ∷ records) zero enough are = absurd (omega (arith, enough))
cuts_whole (r ∷ records) (suc n) enough are =
    ap (cut_by (suc n)) (spelled_more r records) ∙ goes_on n r (spelled records) are.0
    ∙ ap (and_others r) (cuts_whole records n (omega (arith, enough)) are.1)

fewer_records : (records : List Record) → length records ≤ length (spelled records)
fewer_records [] = omega arith
fewer_records (r ∷ records) =
    omega (arith, fewer_records records, some_bytes r, ap (length {A = ℕ}) (spelled_more r records), length-append (record_spelling r) (spelled records))

pub records_whole : (records : List Record) → AllByRecursion IsLogRecord records → records_cut (spelled records) ≡ Some records
unfolding cut_of
records_whole records are = ap (λ (cut : Cut). where_none_left cut.rest cut.records) (cuts_whole records (length (spelled records)) (fewer_records records) are)
