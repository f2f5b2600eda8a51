-- Reading segments one after the other, as a loop does.
use Rattle.std.proofs.Common.{◌≡◌, ℕ, suc, ◌-◌, ◌+◌, ◌≤◌, ◌<◌, List, [], ◌∷◌, ◌++◌, Result, Ok, Err, refl, sym, ap, ◌∙◌, append_assoc, arith}
use Rattle.std.proofs.lemmas.List.{append-nil}
use Rattle.log_records.specs.declared.fault.ReadFault.{ReadFault}
use Rattle.log_records.specs.declared.fault.ReadFault.TheVariants as faults
use Rattle.log_records.specs.RecordReader.{RecordFault, ◌>>=◌, ReadingFails, segment_at, read_segments}

abbrev pub Texts : Type 0
Texts = List (List ℕ)

-- what was read before, and what is still read
abbrev pub with_front : Texts → Result (Texts × List ℕ) RecordFault → Result (Texts × List ℕ) RecordFault
with_front front read = read >>= λ x. Ok (front ++ x.0, x.1)

regroup : (front : Texts) (t : List ℕ) (read : Result (Texts × List ℕ) RecordFault) → with_front front (read >>= λ x. Ok (t ∷ x.0, x.1)) ≡ with_front (front ++ t ∷ []) read
regroup front t (Ok x) = ap (λ (ts : Texts). Ok (ts, x.1)) (simp append_assoc)
regroup front t (Err f) = refl

pub goes_on : (front : Texts) (count i : ℕ) (bytes : List ℕ) (t : List ℕ) (after : List ℕ) (total : Result (Texts × List ℕ) RecordFault) → i < count → segment_at bytes ≡ Ok (t, after)
    → with_front front (read_segments (count - i) bytes) ≡ total → with_front (front ++ t ∷ []) (read_segments (count - (i + 1)) after) ≡ total
unfolding read_segments
goes_on front count i bytes t after total lt h so_far =
    let k : count - i ≡ suc (count - (i + 1)) = omega arith in
    let one : with_front front (read_segments (count - i) bytes) ≡ with_front (front ++ t ∷ []) (read_segments (count - (i + 1)) after) = rw (k, h) (regroup front t (read_segments (count - (i + 1)) after)) in
    sym one ∙ so_far

pub ends : (e : ReadFault) (front : Texts) (count i : ℕ) (bytes : List ℕ) (total : Result (Texts × List ℕ) RecordFault) → i < count → ReadingFails e (segment_at bytes)
    → with_front front (read_segments (count - i) bytes) ≡ total → ReadingFails e total
unfolding read_segments
ends faults.Memory front count i bytes total lt h so_far = tt
ends (faults.Broken rule left) front count i bytes total lt h so_far =
    let k : count - i ≡ suc (count - (i + 1)) = omega arith in
    let one : with_front front (read_segments (count - i) bytes) ≡ Err (rule, left) = rw (k, h) refl in
    sym so_far ∙ one

pub is_done : (front : Texts) (count i : ℕ) (bytes : List ℕ) (total : Result (Texts × List ℕ) RecordFault) → count ≤ i → with_front front (read_segments (count - i) bytes) ≡ total → total ≡ Ok (front, bytes)
unfolding read_segments
is_done front count i bytes total le so_far =
    let k : count - i ≡ 0 = omega arith in
    let one : with_front front (read_segments (count - i) bytes) ≡ Ok (front, bytes) = rw k (ap (λ (ts : Texts). Ok (ts, bytes)) (append-nil front)) in
    sym so_far ∙ one
