-- Records that were written behind others are told where they fit the room, and go else.
use Rattle.std.proofs.Common.{◌≡◌, ℕ, ◌-◌, ◌≤◌, List, [], ◌∷◌, ◌++◌, length, take, Result, Ok, Err, sym, ap, ◌∙◌, arith}
use Rattle.std.specs.Prelude.{OnOk, OnErr, IfErr}
use Rattle.std.specs.List.{AllByRecursion}
use Rattle.std.proofs.Math.Seq.{take-append_seam}
use Rattle.std.proofs.lemmas.List.{append-nil, append_assoc, length-append, length-take}
use Rattle.std.proofs.lemmas.List.Concat.{flat_map-append, flat_map-cons}
use Rattle.log_records.specs.declared.record.Record.{Record}
use Rattle.log_records.specs.declared.untold.Untold.{Untold}
use Rattle.log_records.specs.declared.untold.Untold.TheVariants.{Memory, Full}
use Rattle.log_records.specs.RecordSpelling.{record_spelling, IsLogRecord}
use Rattle.log_records.specs.ToldRecords.{spelled_records, AddsRecords, TellsInRoom, AreRecordsUntold, AreRecordsTooLong}
use Rattle.log_records.proofs.Kept.{Keeps, same}

pub adds_none : (before : List ℕ) → AddsRecords [] before before
adds_none before = record { bytes = sym (append-nil before); valid = tt }

pub adds_one : (r : Record) (before after : List ℕ) → after ≡ before ++ record_spelling r → IsLogRecord r → AddsRecords (r ∷ []) before after
adds_one r before after is valid = record {
  bytes = is ∙ ap (λ (l : List ℕ). before ++ l) (sym (flat_map-cons record_spelling r [] ∙ append-nil (record_spelling r)));
  valid = (valid, tt);
}

pub all_both : (some more : List Record) → AllByRecursion IsLogRecord some → AllByRecursion IsLogRecord more → AllByRecursion IsLogRecord (some ++ more)
all_both [] more a b = b
all_both (r ∷ some) more a b = (a.0, all_both some more a.1 b)

pub adds_both : (some more : List Record) (before middle after : List ℕ) → AddsRecords some before middle → AddsRecords more middle after → AddsRecords (some ++ more) before after
adds_both some more before middle after a b = record {
  bytes =
      b.bytes ∙ ap (λ (l : List ℕ). l ++ spelled_records more) a.bytes
      ∙ append_assoc before (spelled_records some) (spelled_records more)
      ∙ ap (λ (l : List ℕ). before ++ l) (sym (flat_map-append record_spelling some more));
  valid = all_both some more a.valid b.valid;
}

-- ---- records that were written whole, or a part of them

long : (records : List Record) (start : ℕ) (before middle : List ℕ) → start ≡ length before → AddsRecords records before middle → length middle - start ≡ length (spelled_records records)
long records start before middle from adds = omega (arith, from, ap (length {A = ℕ}) adds.bytes, length-append before (spelled_records records))

pub tells : {T U E : Type 0} (written : Result T E) (ended : Result U Untold) (records : List Record) (start room : ℕ) (before middle after : List ℕ)
    → OnErr written (ended ≡ Err Memory) → OnOk ended (after ≡ middle) → OnOk ended (length middle - start ≤ room) → start ≡ length before → OnOk written (AddsRecords records before middle)
    → OnOk ended (TellsInRoom records room before after)
tells (Ok x) (Ok y) records start room before middle after refused is fits from adds = record {
  told = is ∙ adds.bytes;
  valid = adds.valid;
  fits = omega (arith, fits, long records start before middle from adds);
}
tells (Err e) (Ok y) records start room before middle after refused is fits from adds = absurd (cc)
tells written (Err f) records start room before middle after refused is fits from adds = tt

pub untold : {T U E : Type 0} (written : Result T E) (ended : Result U Untold) (records : List Record) (start : ℕ) (before middle after : List ℕ)
    → OnErr ended (after ≡ take start middle) → start ≡ length before → OnOk written (AddsRecords records before middle) → OnErr written (Keeps before middle) → OnErr ended (after ≡ before)
untold written (Ok y) records start before middle after cut from adds kept = tt
untold (Ok x) (Err f) records start before middle after cut from adds kept =
    cut ∙ ap (λ n. take n middle) from ∙ ap (take (length before)) adds.bytes ∙ take-append_seam before (spelled_records records)
untold (Err e) (Err f) records start before middle after cut from adds kept = cut ∙ ap (λ n. take n middle) from ∙ kept

pub full : {T U E : Type 0} (written : Result T E) (ended : Result U Untold) (records : List Record) (start room : ℕ) (before middle : List ℕ)
    → OnErr written (ended ≡ Err Memory) → IfErr ended (AreRecordsTooLong (length middle - start) room) → start ≡ length before → OnOk written (AddsRecords records before middle)
    → IfErr ended (AreRecordsUntold records room)
full written (Ok y) records start room before middle refused over from adds = tt
full written (Err Memory) records start room before middle refused over from adds = tt
full (Ok x) (Err Full) records start room before middle refused over from adds = omega (arith, over, long records start before middle from adds)
full (Err e) (Err Full) records start room before middle refused over from adds = absurd (cc)

-- what stood there before isn't cut
pub within : {T E : Type 0} (written : Result T E) (records : List Record) (start : ℕ) (before middle : List ℕ) → start ≡ length before
    → OnOk written (AddsRecords records before middle) → OnErr written (Keeps before middle) → start ≤ length middle
within (Ok x) records start before middle from adds kept = omega (arith, from, ap (length {A = ℕ}) adds.bytes, length-append before (spelled_records records))
within (Err e) records start before middle from adds kept = omega (arith, from, ap (length {A = ℕ}) kept, length-take (length before) middle)

-- ---- one record, of which nothing was written else

pub added : {T E : Type 0} (written : Result T E) (r : Record) (before middle : List ℕ) → OnOk written (middle ≡ before ++ record_spelling r) → OnOk written (IsLogRecord r) → OnOk written (AddsRecords (r ∷ []) before middle)
added (Ok x) r before middle is valid = adds_one r before middle is valid
added (Err e) r before middle is valid = tt

left : {T E : Type 0} (written : Result T E) (before middle : List ℕ) → OnErr written (middle ≡ before) → OnErr written (Keeps before middle)
left (Ok x) before middle is = tt
left (Err e) before middle is = same before middle is

pub one_within : {T E : Type 0} (written : Result T E) (r : Record) (start : ℕ) (before middle : List ℕ)
    → start ≡ length before → OnOk written (middle ≡ before ++ record_spelling r) → OnOk written (IsLogRecord r) → OnErr written (middle ≡ before) → start ≤ length middle
one_within written r start before middle from is valid unwritten =
    within written (r ∷ []) start before middle from (added written r before middle is valid) (left written before middle unwritten)

pub tells_one : {T U E : Type 0} (written : Result T E) (ended : Result U Untold) (r : Record) (start room : ℕ) (before middle after : List ℕ)
    → OnErr written (ended ≡ Err Memory) → OnOk ended (after ≡ middle) → OnOk ended (length middle - start ≤ room) → start ≡ length before
    → OnOk written (middle ≡ before ++ record_spelling r) → OnOk written (IsLogRecord r) → OnOk ended (TellsInRoom (r ∷ []) room before after)
tells_one written ended r start room before middle after refused same fits from is valid =
    tells written ended (r ∷ []) start room before middle after refused same fits from (added written r before middle is valid)

pub untold_one : {T U E : Type 0} (written : Result T E) (ended : Result U Untold) (r : Record) (start : ℕ) (before middle after : List ℕ)
    → OnErr ended (after ≡ take start middle) → start ≡ length before → OnOk written (middle ≡ before ++ record_spelling r) → OnOk written (IsLogRecord r) → OnErr written (middle ≡ before)
    → OnErr ended (after ≡ before)
untold_one written ended r start before middle after cut from is valid unwritten =
    untold written ended (r ∷ []) start before middle after cut from (added written r before middle is valid) (left written before middle unwritten)

pub full_one : {T U E : Type 0} (written : Result T E) (ended : Result U Untold) (r : Record) (start room : ℕ) (before middle : List ℕ)
    → OnErr written (ended ≡ Err Memory) → IfErr ended (AreRecordsTooLong (length middle - start) room) → start ≡ length before
    → OnOk written (middle ≡ before ++ record_spelling r) → OnOk written (IsLogRecord r) → IfErr ended (AreRecordsUntold (r ∷ []) room)
full_one written ended r start room before middle refused over from is valid =
    full written ended (r ∷ []) start room before middle refused over from (added written r before middle is valid)

pub ruleset one_told = (one_within, tells_one, untold_one, full_one)
