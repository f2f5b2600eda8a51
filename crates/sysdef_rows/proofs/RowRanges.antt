-- The macro of a row is of the row's kind, and its numbers lie in their ranges.
use Rattle.std.proofs.Common.{ℕ, ◌≡◌, ◌≤◌, ◌&&◌, cond, nat_le, Bool, true, false, List, length, Option, Some, None, Result, Ok, Err, IfOk, codes, refl, arith}
use Rattle.std.specs.List.{list_all}
use Rattle.std.proofs.lemmas.Bool.Decides.{nat_tests}
use Rattle.model_system.specs.declared.code.SegmentKind.{SegmentKind}
use Rattle.model_system.specs.declared.code.SegmentKind.TheVariants.{Multiple}
use Rattle.text_rows.specs.Lists.{three_of}
use Rattle.text_rows.specs.Names.{name_of}
use Rattle.tm_types.specs.Name.{is_name_byte}
use Rattle.text_rows.specs.LowestRule.{also, both}
use Rattle.text_rows.specs.Numbers.{is_number, number_between, number_of}
use Rattle.text_rows.specs.Operands.{needed, only, or_as, read_or, values}
use Rattle.system_types.specs.declared.definition.Macro.{Macro}
use Rattle.system_types.specs.Definitions.{IsInRange, is_application, is_control, is_end_macro, may_stand}
use Rattle.sysdef_rows.specs.declared.kinds.Kind.{Kind}
use Rattle.sysdef_rows.specs.declared.kinds.Kind.TheVariants.{Control, Database, Segment, Application, Pcb, Transaction, Terminal, Region, End}
use Rattle.sysdef_rows.specs.declared.pcbs.PcbForm.{PcbForm}
use Rattle.sysdef_rows.specs.declared.pcbs.PcbForm.TheVariants.{OnDatabase, ToDestination, Modifiable}
use Rattle.sysdef_rows.specs.Pcbs.{database_pcb, destination_pcb, pcb_form, modifiable_pcb, pcb_of, pcb_row, standing_database, standing_output}
use Rattle.sysdef_rows.specs.Values.{message_type_in, message_type_of, priorities_in, priorities_of, response_of, segment_kind_of}
use Rattle.sysdef_rows.specs.Rows.{application_made, application_row, code_part, limit_part, segment_part, control_made, control_row, database_made, database_row, length_part, region_made, region_row, macro_row, segment_made, segment_row, slot_part, terminal_made, terminal_row, transaction_made, transaction_row}

-- what holds of a value that is read holds where something besides is judged
pub also_left : {A B : Type 0} (P : A → Type 0) (a : Result A ℕ) (b : Result B ℕ) → IfOk a P → IfOk (also a b) P
unfolding also
also_left P (Ok value) (Ok other) h = h
also_left P (Ok value) (Err rule) h = tt
also_left P (Err rule) (Ok other) h = tt
also_left P (Err rule) (Err other) h = tt

pub also_right : {A B : Type 0} (Q : Type 0) (a : Result A ℕ) (b : Result B ℕ) → IfOk b (λ value. Q) → IfOk (also a b) (λ value. Q)
unfolding also
also_right Q (Ok value) (Ok other) h = h
also_right Q (Ok value) (Err rule) h = tt
also_right Q (Err rule) (Ok other) h = tt
also_right Q (Err rule) (Err other) h = tt

both_hold : {A B : Type 0} (P : A → Type 0) (Q : B → Type 0) (a : Result A ℕ) (b : Result B ℕ) → IfOk a P → IfOk b Q → IfOk (both a b) (λ p. P p.0 × Q p.1)
unfolding both
both_hold P Q (Ok x) (Ok y) h k = (h, k)
both_hold P Q (Ok x) (Err rule) h k = tt
both_hold P Q (Err rule) (Ok y) h k = tt
both_hold P Q (Err rule) (Err other) h k = tt

first_holds : {A B : Type 0} (P : A → Type 0) (a : Result A ℕ) (b : Result B ℕ) → IfOk a P → IfOk (both a b) (λ p. P p.0)
unfolding both
first_holds P (Ok x) (Ok y) h = h
first_holds P (Ok x) (Err rule) h = tt
first_holds P (Err rule) (Ok y) h = tt
first_holds P (Err rule) (Err other) h = tt

second_holds : {A B : Type 0} (Q : B → Type 0) (a : Result A ℕ) (b : Result B ℕ) → IfOk b Q → IfOk (both a b) (λ p. Q p.1)
unfolding both
second_holds Q (Ok x) (Ok y) h = h
second_holds Q (Ok x) (Err rule) h = tt
second_holds Q (Err rule) (Ok y) h = tt
second_holds Q (Err rule) (Err other) h = tt

pub if_both : {A : Type 0} (P Q : A → Type 0) (a : Result A ℕ) → IfOk a P → IfOk a Q → IfOk a (λ value. P value × Q value)
if_both P Q (Ok value) h k = (h, k)
if_both P Q (Err rule) h k = tt

-- numbers, and operands that may be missing
within_by : (low high n : ℕ) (number : Bool) (b c : Bool) (rule other : ℕ) → nat_le low n ≡ b → nat_le n high ≡ c
    → IfOk (cond number (cond (b && c) (Ok n) (Err rule)) (Err other)) (λ m. (low ≤ m) × (m ≤ high))
within_by low high n false b c rule other e f = tt
within_by low high n true true true rule other e f = (grind (arith, nat_tests), grind (arith, nat_tests))
within_by low high n true true false rule other e f = tt
within_by low high n true false c rule other e f = tt

number_holds : (low high : ℕ) (text : List ℕ) → IfOk (number_between low high text) (λ n. (low ≤ n) × (n ≤ high))
unfolding number_between
number_holds low high text = within_by low high (number_of text) (is_number text) (nat_le low (number_of text)) (nat_le (number_of text) high) _ _ refl refl

read_by : {A : Type 0} (P : A → Type 0) (missing : Result A ℕ) (read : List ℕ → Result A ℕ) (found : Result (Option (List ℕ)) ℕ) → IfOk missing P → ((text : List ℕ) → IfOk (read text) P) → IfOk (read_or missing read found) P
read_by P missing read (Ok None) h each = h
read_by P missing read (Ok (Some text)) h each = each text
read_by P missing read (Err rule) h each = tt

needed_holds : {A : Type 0} (P : A → Type 0) (key : List ℕ) (read : List ℕ → Result A ℕ) (ops : List (List ℕ)) → ((text : List ℕ) → IfOk (read text) P) → IfOk (needed key read ops) P
unfolding needed
needed_holds P key read ops each = read_by P (Err _) read (only (values key ops)) tt each

or_as_holds : {A : Type 0} (P : A → Type 0) (key : List ℕ) (read : List ℕ → Result A ℕ) (default : A) (ops : List (List ℕ)) → P default → ((text : List ℕ) → IfOk (read text) P) → IfOk (or_as key read default ops) P
unfolding or_as
or_as_holds P key read default ops h each = read_by P (Ok default) read (only (values key ops)) h each

-- the macro of a row is of the row's kind, with numbers in their ranges
abbrev pub IsOfKind : Kind → Macro → Type 0
IsOfKind Control content = is_control content ≡ true
IsOfKind End content = is_end_macro content ≡ true
IsOfKind Application content = is_application content ≡ true
IsOfKind Transaction content = Unit {0}
IsOfKind _ content = may_stand false content ≡ true

abbrev pub Fits : Kind → Macro → Type 0
Fits kind content = IsInRange content × IsOfKind kind content

control_by : (numbers : Result (ℕ × ℕ) ℕ) → IfOk numbers (λ p. ((131072 ≤ p.0) × (p.0 ≤ 8388608)) × ((64 ≤ p.1) × (p.1 ≤ 2048))) → IfOk (control_made numbers) (Fits Control)
control_by (Ok (qbytes, logs)) h = ((h.0.0, h.0.1, h.1.0, h.1.1), refl)
control_by (Err rule) h = tt

control_fits : (ops : List (List ℕ)) → IfOk (control_row ops) (Fits Control)
unfolding control_row
control_fits ops =
    control_by _ (both_hold (λ n. (131072 ≤ n) × (n ≤ 8388608)) (λ n. (64 ≤ n) × (n ≤ 2048)) _ _
    (or_as_holds (λ n. (131072 ≤ n) × (n ≤ 8388608)) (codes "QBYTES") (number_between 131072 8388608) 8388608 ops (omega arith, omega arith) (number_holds 131072 8388608))
    (or_as_holds (λ n. (64 ≤ n) × (n ≤ 2048)) (codes "LOGS") (number_between 64 2048) 2048 ops (omega arith, omega arith) (number_holds 64 2048)))

database_by : (parts : Result (List ℕ × (ℕ × ℕ)) ℕ) → IfOk parts (λ p. ((1 ≤ p.1.0) × (p.1.0 ≤ 4096)) × ((1 ≤ p.1.1) × (p.1.1 ≤ 8))) → IfOk (database_made parts) (Fits Database)
database_by (Ok (name, (roots, sectors))) h = ((h.0.0, h.0.1, h.1.0, h.1.1), refl)
database_by (Err rule) h = tt

slot_fits : (ops : List (List ℕ)) → IfOk (slot_part ops) (λ p. ((1 ≤ p.0) × (p.0 ≤ 4096)) × ((1 ≤ p.1) × (p.1 ≤ 8)))
unfolding slot_part
slot_fits ops =
    both_hold (λ n. (1 ≤ n) × (n ≤ 4096)) (λ n. (1 ≤ n) × (n ≤ 8)) _ _
    (or_as_holds (λ n. (1 ≤ n) × (n ≤ 4096)) (codes "ROOTS") (number_between 1 4096) 4096 ops (omega arith, omega arith) (number_holds 1 4096))
    (or_as_holds (λ n. (1 ≤ n) × (n ≤ 8)) (codes "SECTORS") (number_between 1 8) 1 ops (omega arith, omega arith) (number_holds 1 8))

database_fits : (ops : List (List ℕ)) → IfOk (database_row ops) (Fits Database)
unfolding database_row
database_fits ops = database_by _ (second_holds (λ p. ((1 ≤ p.0) × (p.0 ≤ 4096)) × ((1 ≤ p.1) × (p.1 ≤ 8))) _ _ (slot_fits ops))

segment_by : (parts : Result ((List ℕ × Option (List ℕ)) × (ℕ × ℕ)) ℕ) → IfOk parts (λ p. ((1 ≤ p.1.0) × (p.1.0 ≤ 32)) × ((1 ≤ p.1.1) × (p.1.1 ≤ 1900))) → IfOk (segment_made parts) (Fits Segment)
segment_by (Ok ((name, parent), (key, bytes))) h = ((h.0.0, h.0.1, h.1.1), refl)
segment_by (Err rule) h = tt

lengths_fit : (ops : List (List ℕ)) → IfOk (length_part ops) (λ p. ((1 ≤ p.0) × (p.0 ≤ 32)) × ((1 ≤ p.1) × (p.1 ≤ 1900)))
unfolding length_part
lengths_fit ops =
    both_hold (λ n. (1 ≤ n) × (n ≤ 32)) (λ n. (1 ≤ n) × (n ≤ 1900)) _ _
    (needed_holds (λ n. (1 ≤ n) × (n ≤ 32)) (codes "KEY") (number_between 1 32) ops (number_holds 1 32))
    (needed_holds (λ n. (1 ≤ n) × (n ≤ 1900)) (codes "BYTES") (number_between 1 1900) ops (number_holds 1 1900))

segment_fits : (ops : List (List ℕ)) → IfOk (segment_row ops) (Fits Segment)
unfolding segment_row
segment_fits ops = segment_by _ (second_holds (λ p. ((1 ≤ p.0) × (p.0 ≤ 32)) × ((1 ≤ p.1) × (p.1 ≤ 1900))) _ _ (lengths_fit ops))

application_by : (name : Result (List ℕ) ℕ) → IfOk (application_made name) (Fits Application)
application_by (Ok name) = (tt, refl)
application_by (Err rule) = tt

application_fits : (ops : List (List ℕ)) → IfOk (application_row ops) (Fits Application)
unfolding application_row
application_fits ops = application_by _

terminal_by : (parts : Result (List ℕ × Option (List ℕ)) ℕ) → IfOk (terminal_made parts) (Fits Terminal)
terminal_by (Ok (name, format)) = (tt, refl)
terminal_by (Err rule) = tt

terminal_fits : (ops : List (List ℕ)) → IfOk (terminal_row ops) (Fits Terminal)
unfolding terminal_row
terminal_fits ops = terminal_by _

region_by : (classes : Result (List ℕ) ℕ) → IfOk (region_made classes) (Fits Region)
region_by (Ok classes) = (tt, refl)
region_by (Err rule) = tt

region_fits : (ops : List (List ℕ)) → IfOk (region_row ops) (Fits Region)
unfolding region_row
region_fits ops = region_by _

-- the name and the class, the priorities, and the segments of a transaction code
abbrev HasClass : List ℕ × (SegmentKind × ℕ) → Type 0
HasClass part = (length part.0 ≤ 8) × ((1 ≤ part.1.1) × (part.1.1 ≤ 255))

abbrev HasPriorities : ℕ × (ℕ × ℕ) → Type 0
HasPriorities part = ((0 ≤ part.0) × (part.0 ≤ 14)) × ((0 ≤ part.1.0) × (part.1.0 ≤ 14))

abbrev HasSegments : (ℕ × ℕ) × (ℕ × Bool) → Type 0
HasSegments part = ((1 ≤ part.0.0) × (part.0.0 ≤ 32)) × ((5 ≤ part.0.1) × (part.0.1 ≤ 2000))

abbrev HasLimits : (ℕ × (ℕ × ℕ)) × ((ℕ × ℕ) × ((ℕ × ℕ) × (ℕ × Bool))) → Type 0
HasLimits part = HasPriorities part.0 × HasSegments part.1.1

type_by : (words : Result (List ℕ × List ℕ × List ℕ) ℕ) → IfOk (message_type_in words) (λ part. (1 ≤ part.1) × (part.1 ≤ 255))
type_by (Ok (kind, response, class)) =
    also_left (λ part. (1 ≤ part.1) × (part.1 ≤ 255)) (both (segment_kind_of kind) (number_between 1 255 class)) (response_of response)
    (second_holds (λ n. (1 ≤ n) × (n ≤ 255)) (segment_kind_of kind) (number_between 1 255 class) (number_holds 1 255 class))
type_by (Err rule) = tt

type_holds : (text : List ℕ) → IfOk (message_type_of text) (λ part. (1 ≤ part.1) × (part.1 ≤ 255))
unfolding message_type_of
type_holds text = type_by (three_of text)

priorities_by : (words : Result (List ℕ × List ℕ × List ℕ) ℕ) → IfOk (priorities_in words) HasPriorities
priorities_by (Ok (normal, limit, count)) =
    both_hold (λ n. (0 ≤ n) × (n ≤ 14)) (λ q. (0 ≤ q.0) × (q.0 ≤ 14)) (number_between 0 14 normal) (both (number_between 0 14 limit) (number_between 1 65535 count))
    (number_holds 0 14 normal) (first_holds (λ n. (0 ≤ n) × (n ≤ 14)) (number_between 0 14 limit) (number_between 1 65535 count) (number_holds 0 14 limit))
priorities_by (Err rule) = tt

priorities_hold : (text : List ℕ) → IfOk (priorities_of text) HasPriorities
unfolding priorities_of
priorities_hold text = priorities_by (three_of text)

abbrev named_by : List ℕ → Bool → Result (List ℕ) ℕ
named_by text is = cond is (Ok text) (Err 7)

name_by : (text : List ℕ) (some short bytes : Bool) → nat_le (length text) 8 ≡ short → IfOk (named_by text (some && short && bytes)) (λ name. length name ≤ 8)
name_by text true true true e = grind (arith, nat_tests, e)
name_by text true true false e = tt
name_by text true false bytes e = tt
name_by text false short bytes e = tt

name_holds : (text : List ℕ) → IfOk (name_of text) (λ name. length name ≤ 8)
unfolding name_of
name_holds text = name_by text (nat_le 1 (length text)) (nat_le (length text) 8) (list_all is_name_byte text) refl

class_fits : (ops : List (List ℕ)) → IfOk (code_part ops) HasClass
unfolding code_part
class_fits ops =
    both_hold (λ name. length name ≤ 8) (λ q. (1 ≤ q.1) × (q.1 ≤ 255)) _ _ (needed_holds (λ name. length name ≤ 8) (codes "CODE") name_of ops name_holds) (or_as_holds (λ q. (1 ≤ q.1) × (q.1 ≤ 255)) (codes "MSGTYPE") message_type_of (Multiple, 1) ops (omega arith, omega arith) type_holds)

segments_fit : (ops : List (List ℕ)) → IfOk (segment_part ops) HasSegments
unfolding segment_part
segments_fit ops =
    first_holds (λ q. ((1 ≤ q.0) × (q.0 ≤ 32)) × ((5 ≤ q.1) × (q.1 ≤ 2000))) _ _
    (both_hold (λ n. (1 ≤ n) × (n ≤ 32)) (λ n. (5 ≤ n) × (n ≤ 2000)) _ _
    (or_as_holds (λ n. (1 ≤ n) × (n ≤ 32)) (codes "SEGNO") (number_between 1 32) 32 ops (omega arith, omega arith) (number_holds 1 32))
    (or_as_holds (λ n. (5 ≤ n) × (n ≤ 2000)) (codes "SEGSIZE") (number_between 5 2000) 2000 ops (omega arith, omega arith) (number_holds 5 2000)))

limits_fit : (ops : List (List ℕ)) → IfOk (limit_part ops) HasLimits
unfolding limit_part
limits_fit ops =
    both_hold HasPriorities (λ q. HasSegments q.1) _ _
    (or_as_holds HasPriorities (codes "PRTY") priorities_of (1, (1, 65535)) ops ((omega arith, omega arith), (omega arith, omega arith)) priorities_hold)
    (second_holds HasSegments _ _ (segments_fit ops))

transaction_by : (parts : Result ((List ℕ × (SegmentKind × ℕ)) × ((ℕ × (ℕ × ℕ)) × ((ℕ × ℕ) × ((ℕ × ℕ) × (ℕ × Bool))))) ℕ) → IfOk parts (λ p. HasClass p.0 × HasLimits p.1)
    → IfOk (transaction_made parts) (Fits Transaction)
transaction_by (Ok ((code, (kind, class)), ((normal, (limit, count)), ((processing, statements), ((segments, size), (pad, serial)))))) h = (
  record {
    name = h.0.0;
    some_class = h.0.1.0;
    class = h.0.1.1;
    normal_priority = h.1.0.0.1;
    limit_priority = h.1.0.1.1;
    segment_count = h.1.1.0.1;
    segment_size = h.1.1.1.1;
  },
  tt,
)
transaction_by (Err rule) h = tt

transaction_fits : (ops : List (List ℕ)) → IfOk (transaction_row ops) (Fits Transaction)
unfolding transaction_row
transaction_fits ops = transaction_by _ (both_hold HasClass HasLimits _ _ (class_fits ops) (limits_fit ops))

database_pcb_by : (parts : Result (List ℕ × ℕ) ℕ) → IfOk (database_pcb parts) (Fits Pcb)
database_pcb_by (Ok (database, options)) = (tt, refl)
database_pcb_by (Err rule) = tt

destination_by : (name : Result (List ℕ) ℕ) → IfOk (destination_pcb name) (Fits Pcb)
destination_by (Ok name) = (tt, refl)
destination_by (Err rule) = tt

modifiable_by : (asked : Result (Unit {0}) ℕ) → IfOk (modifiable_pcb asked) (Fits Pcb)
modifiable_by (Ok value) = (tt, refl)
modifiable_by (Err rule) = tt

pcb_by : (form : Result PcbForm ℕ) (ops : List (List ℕ)) → IfOk (pcb_of form ops) (Fits Pcb)
pcb_by (Ok OnDatabase) ops = database_pcb_by _
pcb_by (Ok ToDestination) ops = destination_by _
pcb_by (Ok Modifiable) ops = modifiable_by _
pcb_by (Err rule) ops = also_left (Fits Pcb) (also (Err rule) (standing_database ops)) (standing_output ops) (also_left (Fits Pcb) (Err rule) (standing_database ops) tt)

pcb_fits : (ops : List (List ℕ)) → IfOk (pcb_row ops) (Fits Pcb)
unfolding pcb_row
pcb_fits ops = pcb_by (pcb_form ops) ops

pub row_fits : (kind : Kind) (ops : List (List ℕ)) → IfOk (macro_row kind ops) (Fits kind)
unfolding macro_row
row_fits Control ops = control_fits ops
row_fits Database ops = database_fits ops
row_fits Segment ops = segment_fits ops
row_fits Application ops = application_fits ops
row_fits Pcb ops = pcb_fits ops
row_fits Transaction ops = transaction_fits ops
row_fits Terminal ops = terminal_fits ops
row_fits Region ops = region_fits ops
row_fits End ops = (tt, refl)
