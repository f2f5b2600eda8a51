-- How long the content of a record is, and that its length is a number of two bytes.
use Rattle.std.proofs.Common.{◌≡◌, ℕ, ◌+◌, ◌*◌, ◌≤◌, ◌<◌, ◌^◌, Bool, true, false, List, [], ◌∷◌, ◌++◌, length, Result, Ok, Err, refl, ap, ◌∙◌, arith}
use Rattle.std.specs.Prelude.{OnOk}
use Rattle.std.specs.List.{flat_map, AllByRecursion}
use Rattle.std.proofs.lemmas.List.{length-append}
use Rattle.std.proofs.lemmas.List.Concat.{flat_map-cons}
use Rattle.tm_types.specs.Segment.{IsSegmentText}
use Rattle.log_records.specs.declared.record.Record.{Record}
use Rattle.log_records.specs.declared.record.Record.TheVariants.{Input, Command, Reply, Discarded, Completed, Acknowledged, SyncPoint, Checkpoint, Terminal, Code, Change}
use Rattle.log_records.specs.RecordSpelling.{number2, number8, flag, text, segs, record_length, AreSegments, AreInRange, IsShort, IsLogRecord}
use Rattle.log_records.proofs.FieldLaws.{number2_length, number8_length}

flag_length : (b : Bool) → length (flag b) ≡ 1
flag_length true = refl
flag_length false = refl

pub text_length : (t : List ℕ) → length (text t) ≡ 2 + length t
text_length t = length-append (number2 (length t)) t ∙ ap (λ (k : ℕ). k + length t) (number2_length (length t))

texts_length : (ts : List (List ℕ)) → AllByRecursion IsSegmentText ts → length (flat_map text ts) ≤ 1998 * length ts
texts_length [] h = omega arith
texts_length (t ∷ ts) h =
    let whole : length (flat_map text (t ∷ ts)) ≡ length (text t) + length (flat_map text ts) = ap length (flat_map-cons text t ts) ∙ length-append (text t) (flat_map text ts) in
    let first = text_length t in
    let others = texts_length ts h.1 in
    let here = h.0.0 in
    omega arith

segs_length : (ts : List (List ℕ)) → AreSegments ts → length (segs ts) ≤ 63937
segs_length ts h = let texts = texts_length ts h.2 in let most = h.1 in omega arith

-- the length of eight bytes and then others
pub eight : (n : ℕ) (t : List ℕ) → length (number8 n ++ t) ≡ 8 + length t
eight n t = length-append (number8 n) t ∙ ap (λ (k : ℕ). k + length t) (number8_length n)

two : (n : ℕ) (t : List ℕ) → length (number2 n ++ t) ≡ 2 + length t
two n t = length-append (number2 n) t ∙ ap (λ (k : ℕ). k + length t) (number2_length n)

pub one : (b : Bool) (t : List ℕ) → length (flag b ++ t) ≡ 1 + length t
one b t = length-append (flag b) t ∙ ap (λ (k : ℕ). k + length t) (flag_length b)

pub is_short_enough : (r : Record) → AreInRange r → IsShort r → record_length r < 2 ^ 16
is_short_enough (Input unit id origin code number conversation segments) h short =
    let last = segs_length segments h.1.1.1.1.1.1 in
    simp (eight, one, length-append {A = ℕ}) (omega arith)
is_short_enough (Command words) h short = simp (two) (omega arith)
is_short_enough (Reply unit terminal number segments) h short =
    let last = segs_length segments h.1.1.1 in
    simp (eight, length-append {A = ℕ}) (omega arith)
is_short_enough (Discarded unit id abend number) h short = simp (eight, two, number8_length) (omega arith)
is_short_enough (Completed unit id) h short = simp (eight, number8_length) (omega arith)
is_short_enough (Acknowledged terminal number) h short = simp (length-append {A = ℕ}, number8_length) (omega arith)
is_short_enough (SyncPoint unit pad) h short = short
is_short_enough (Checkpoint checkpoint next_id next_unit lasting_steps) h short = simp (eight, number8_length) (omega arith)
is_short_enough (Terminal terminal last_input next_output stopped conversation) h short = short
is_short_enough (Code code stopped class priority) h short = simp (length-append {A = ℕ}, flag_length) (omega arith)
is_short_enough (Change unit database slot before after) h short =
    simp (eight, two, length-append {A = ℕ}) (omega arith)

pub is_record : (r : Record) → AreInRange r → IsShort r → IsLogRecord r
is_record r h short = record { fields = h; short = is_short_enough r h short }

pub holds_on_ok : {X E P : Type 0} (r : Result X E) → P → OnOk r P
holds_on_ok (Ok x) h = h
holds_on_ok (Err e) h = tt
