-- Each message call keeps what the work may send within its limits.
use Rattle.std.proofs.Common.{◌≡◌, ℕ, ◌+◌, ◌*◌, ◌≤◌, nat_le, nat_lt, not, Bool, true, false, ◌&&◌, ◌||◌, List, [], ◌∷◌, ◌++◌, find, Option, Some, None, refl, ◌∙◌, ap, subst, arith}
use Rattle.std.specs.Prelude.{slice_get, slice_set, if◌then◌else◌, ◌==◌}
use Rattle.std.specs.List.{list_all, list_any, flat_map}
use Rattle.std.specs.Option.{option_map_or, option_and_then, option_or, is_some}
use Rattle.std.specs.Str.{bytes_eq}
use Rattle.std.proofs.lemmas.Bool.{leb-false, ltb-false}
use Rattle.std.proofs.lemmas.Bool.Decides.{nat_tests}
use Rattle.std.proofs.lemmas.List.{length-append}
use Rattle.std.proofs.lemmas.List.Sums.{sum_by-append}
use Rattle.tm_types.specs.declared.function.Function.{Function}
use Rattle.tm_types.specs.declared.function.Function.TheVariants.{GU, GN, ISRT, PURG, CHNG, ROLB}
use Rattle.tm_types.specs.declared.status.Status.TheVariants.{Blank, A3, A6, A7}
use Rattle.tm_types.specs.Segment.{segment_length}
use Rattle.model_system.specs.declared.code.Code.{Code}
use Rattle.model_system.specs.declared.pcb.Pcb.{Pcb}
use Rattle.model_system.specs.declared.pcb.Pcb.TheVariants.{Database, Destination, Modifiable}
use Rattle.model_system.specs.Codes.{code_at}
use Rattle.model_system.specs.Lists.{change_at}
use Rattle.model_system.specs.System.{System}
use Rattle.model_messages.specs.declared.open_pcb.OpenPcb.{OpenPcb}
use Rattle.model_messages.specs.MessageWork.{MessageWork, destination_by, destination_of, output_ended_by, fresh_pcb, without_output}
use Rattle.model_messages.specs.MessageCalls.{is_blank, destination_at, gives_back, segment_status, with_output_segment, segment_work, returned_pad, insert_work, purge_status, ended_at, purge_work, switched_to, destination_named, without_blanks, change_status, with_chosen, change_work, reset_pcb, reset_work, finish_work, message_work_by}
use Rattle.model_image.specs.States.{is_system_terminal, is_system_code}
use Rattle.image_law.specs.StepNeeds.{takes_switched}
use Rattle.image_law.proofs.Bools.{same_bytes, bytes_same}
use Rattle.image_law.proofs.Lists.{all_more, found_is_one}
use Rattle.image_law.specs.SentMessages.{is_receiver, sends_well, is_short_text, is_well, ended_bytes, sent_bytes, segments_built, open_segments, is_sent_well, SendsWithin}
use Rattle.image_law.proofs.Changes.{all_changed, all_mapped, all_both, passes_at, sum_set, sum_same, sum_more, sum_mapped_zero}
use Rattle.image_law.proofs.Ended.{has_receiver_part, has_short_part, has_kind_part, one_bytes, one_sent, all_bytes, all_well_sent}
use Rattle.tm_types.proofs.Truths.{both}

-- a PCB that is made of its parts
made_well : (system : System) (p : OpenPcb) → sends_well system p.kind ≡ true → option_map_or (is_receiver system) (destination_of p) true ≡ true → list_all is_short_text p.segments ≡ true → is_well system p ≡ true
made_well system p kind to short =
    both (sends_well system p.kind) (option_map_or (is_receiver system) (destination_of p) true && list_all is_short_text p.segments) kind
    (both (option_map_or (is_receiver system) (destination_of p) true) (list_all is_short_text p.segments) to short)

-- ---- ISRT

segment_well : (system : System) (text : List ℕ) → is_short_text text ≡ true → (p : OpenPcb) → is_well system p ≡ true → is_well system (with_output_segment text p) ≡ true
segment_well system text short p is =
    made_well system (with_output_segment text p) (has_kind_part system p is) (has_receiver_part system p is) (all_more is_short_text p.segments text (has_short_part system p is) short)

-- a segment that is taken is short, and one of those that may be
pub record IsTaken (work : MessageWork) (text : List ℕ) : Type 0 where
  pub size : segment_length text ≤ work.size_limit
  pub count : work.inserted + 1 ≤ work.count_limit

taken_by : (there long many : Bool) (size limit count inserted : ℕ) → nat_lt limit size ≡ long → nat_le count inserted ≡ many
    → is_blank (if not there then A3 else if long then A6 else if many then A7 else Blank) ≡ true → (size ≤ limit) × (inserted + 1 ≤ count)
taken_by false long many size limit count inserted e f is = cc
taken_by true true many size limit count inserted e f is = cc
taken_by true false true size limit count inserted e f is = cc
taken_by true false false size limit count inserted e f is = (omega (arith, ltb-false limit size e), omega (arith, leb-false count inserted f))

is_taken : (work : MessageWork) (pcb : ℕ) (text : List ℕ) → is_blank (segment_status work pcb text) ≡ true → IsTaken work text
is_taken work pcb text is =
    let parts =
    taken_by (is_some (destination_at work.pcbs pcb)) (nat_lt work.size_limit (segment_length text)) (nat_le work.count_limit work.inserted) (segment_length text) work.size_limit work.count_limit work.inserted refl refl is in
    record { size = parts.0; count = parts.1 }

le_true : (a b : ℕ) → a ≤ b → nat_le a b ≡ true
le_true a b h = grind (arith, nat_tests, h)

segment_keeps : (system : System) (work : MessageWork) (pcb : ℕ) (text : List ℕ) → SendsWithin system work → SendsWithin system (segment_work work pcb text)
segment_keeps system work pcb text s = by (is_blank (segment_status work pcb text)) refl where
  by : (b : Bool) → is_blank (segment_status work pcb text) ≡ b → SendsWithin system (if b then record work { inserted = work.inserted + 1; pcbs = change_at work.pcbs (Some pcb) (with_output_segment text) } else work)
  by false e = s
  by true e =
      let taken = is_taken work pcb text e in
      let short : is_short_text text ≡ true = le_true (segment_length text) 2000 (omega (arith, taken.size, s.size)) in
      record {
        size = s.size;
        count = s.count;
        inserted = taken.count;
        bytes = omega (arith, s.bytes, sum_more segments_built work.pcbs pcb (with_output_segment text) (λ p. length-append p.segments (text ∷ [])));
        pcbs = all_changed (is_well system) work.pcbs pcb (with_output_segment text) s.pcbs (segment_well system text short);
        ended = s.ended;
      }

insert_keeps : (system : System) (work : MessageWork) (pcb : ℕ) (text : List ℕ) → SendsWithin system work → SendsWithin system (insert_work work pcb text)
insert_keeps system work pcb text s = by (gives_back work pcb) (segment_keeps system work pcb text s) where
  by : (b : Bool) → SendsWithin system (segment_work work pcb text) → SendsWithin system (if b then record work { returned = returned_pad work.conversation text } else segment_work work pcb text)
  by true h = record { size = s.size; count = s.count; inserted = s.inserted; bytes = s.bytes; pcbs = s.pcbs; ended = s.ended }
  by false h = h

-- ---- PURG

without_well : (system : System) (p : OpenPcb) → is_well system p ≡ true → is_well system (without_output p) ≡ true
without_well system p is = made_well system (without_output p) (has_kind_part system p is) (has_receiver_part system p is) refl

-- what is ended counts no more than its segments stood for
purged_bytes : (system : System) (pcbs : List OpenPcb) (pcb : ℕ) → list_all (is_well system) pcbs ≡ true
    → sent_bytes (ended_at pcbs pcb) + open_segments (change_at pcbs (Some pcb) without_output) * 2048 ≤ open_segments pcbs * 2048
purged_bytes system pcbs pcb all = by (slice_get pcbs pcb) refl where
  by : (found : Option OpenPcb) → slice_get pcbs pcb ≡ found
      → sent_bytes (option_map_or output_ended_by found []) + open_segments (option_map_or (λ p. slice_set pcbs pcb (without_output p)) found pcbs) * 2048 ≤ open_segments pcbs * 2048
  by None e = omega arith
  by (Some p) e = omega (arith, sum_set segments_built pcbs pcb p (without_output p) e, one_bytes system p (passes_at (is_well system) pcbs pcb p all e))

purged_sent : (system : System) (pcbs : List OpenPcb) (pcb : ℕ) → list_all (is_well system) pcbs ≡ true → list_all (is_sent_well system) (ended_at pcbs pcb) ≡ true
purged_sent system pcbs pcb all = by (slice_get pcbs pcb) refl where
  by : (found : Option OpenPcb) → slice_get pcbs pcb ≡ found → list_all (is_sent_well system) (option_map_or output_ended_by found []) ≡ true
  by None e = refl
  by (Some p) e = one_sent system p (passes_at (is_well system) pcbs pcb p all e)

purge_keeps : (system : System) (work : MessageWork) (pcb : ℕ) → SendsWithin system work → SendsWithin system (purge_work work pcb)
purge_keeps system work pcb s = by (is_blank (purge_status work pcb)) where
  by : (b : Bool) → SendsWithin system (if b then record work { pcbs = change_at work.pcbs (Some pcb) without_output; ended = work.ended ++ ended_at work.pcbs pcb } else work)
  by false = s
  by true = record {
    size = s.size;
    count = s.count;
    inserted = s.inserted;
    bytes = omega (arith, s.bytes, sum_by-append ended_bytes work.ended (ended_at work.pcbs pcb), purged_bytes system work.pcbs pcb s.pcbs);
    pcbs = all_changed (is_well system) work.pcbs pcb without_output s.pcbs (without_well system);
    ended = all_both (is_sent_well system) work.ended (ended_at work.pcbs pcb) s.ended (purged_sent system work.pcbs pcb s.pcbs);
  }

-- ---- CHNG

pub or_left : (a b : Bool) → a ≡ true → (a || b) ≡ true
or_left true b is = refl
or_left false b is = cc

or_right : (a b : Bool) → b ≡ true → (a || b) ≡ true
or_right true b is = refl
or_right false b is = is

-- a terminal that is found by a name is one of this name
found_named : (names : List (List ℕ)) (name found : List ℕ) → find (λ other. bytes_eq other name) names ≡ Some found → list_any (λ other. bytes_eq other found) names ≡ true
found_named names name found e = found_is_one (λ other. bytes_eq other found) (λ other. bytes_eq other name) names found e (bytes_same found)

-- a code that is found by a name has this name
named_by : (b : Bool) (c code : Code) (rest : Option Code) (name : List ℕ) → bytes_eq c.transaction.code name ≡ b → (rest ≡ Some code → bytes_eq code.transaction.code name ≡ true) → (if b then Some c else rest) ≡ Some code → bytes_eq code.transaction.code name ≡ true
named_by true c code rest name is later g = let same : c ≡ code = cc in subst (λ (x : Code). bytes_eq x.transaction.code name ≡ true) same is
named_by false c code rest name is later g = later g

pub has_name : (codes : List Code) (name : List ℕ) (code : Code) → code_at codes name ≡ Some code → bytes_eq code.transaction.code name ≡ true
has_name [] name code f = cc
has_name (c ∷ codes) name code f = named_by (bytes_eq c.transaction.code name) c code (code_at codes name) name refl (λ g. has_name codes name code g) f

code_receives : (system : System) (name : List ℕ) (code : Option Code) → code_at system.codes name ≡ code → option_map_or (is_receiver system) (option_and_then switched_to code) true ≡ true
code_receives system name None e = refl
code_receives system name (Some code) e = by (code.transaction.scratch_pad == 0) refl where
  is_its : bytes_eq code.transaction.code name ≡ true
  is_its = has_name system.codes name code e

  again : code_at system.codes code.transaction.code ≡ Some code
  again = ap (code_at system.codes) (same_bytes code.transaction.code name is_its) ∙ e

  by : (b : Bool) → code.transaction.scratch_pad == 0 ≡ b → option_map_or (is_receiver system) (if b then Some code.transaction.code else None) true ≡ true
  by false none = refl
  by true none =
      or_right (is_system_terminal system code.transaction.code) (takes_switched system code.transaction.code)
      (both (is_system_code system code.transaction.code) (option_map_or (λ c. c.transaction.scratch_pad == 0) (code_at system.codes code.transaction.code) true)
      (ap is_some again) (ap (λ (o : Option Code). option_map_or (λ c. c.transaction.scratch_pad == 0) o true) again ∙ none))

named_receives : (system : System) (name : List ℕ) → option_map_or (is_receiver system) (destination_named system name) true ≡ true
named_receives system name = by (find (λ terminal. bytes_eq terminal name) system.terminals) refl where
  by : (found : Option (List ℕ)) → find (λ terminal. bytes_eq terminal name) system.terminals ≡ found
      → option_map_or (is_receiver system) (option_or found (option_and_then switched_to (code_at system.codes name))) true ≡ true
  by (Some terminal) e = or_left (is_system_terminal system terminal) (takes_switched system terminal) (found_named system.terminals name terminal e)
  by None e = code_receives system name (code_at system.codes name) refl

chosen_by : (system : System) (kind : Pcb) (to : Option (List ℕ)) → sends_well system kind ≡ true → option_map_or (is_receiver system) to true ≡ true → option_map_or (is_receiver system) (destination_by kind to) true ≡ true
chosen_by system (Destination name) to well is = well
chosen_by system Modifiable to well is = is
chosen_by system (Database number options) to well is = refl

chosen_well : (system : System) (to : Option (List ℕ)) → option_map_or (is_receiver system) to true ≡ true → (p : OpenPcb) → is_well system p ≡ true → is_well system (with_chosen to p) ≡ true
chosen_well system to is p well =
    made_well system (with_chosen to p) (has_kind_part system p well) (chosen_by system p.kind to (has_kind_part system p well) is) (has_short_part system p well)

change_keeps : (system : System) (work : MessageWork) (pcb : ℕ) (name : List ℕ) → SendsWithin system work → SendsWithin system (change_work system work pcb name)
change_keeps system work pcb name s = by (is_blank (change_status system work pcb name)) where
  to : Option (List ℕ)
  to = destination_named system (without_blanks name)

  by : (b : Bool) → SendsWithin system (if b then record work { pcbs = change_at work.pcbs (Some pcb) (with_chosen to) } else work)
  by false = s
  by true = record {
    size = s.size;
    count = s.count;
    inserted = s.inserted;
    bytes = omega (arith, s.bytes, sum_same segments_built work.pcbs pcb (with_chosen to) (λ p. refl));
    pcbs = all_changed (is_well system) work.pcbs pcb (with_chosen to) s.pcbs (chosen_well system to (named_receives system (without_blanks name)));
    ended = s.ended;
  }

-- ---- ROLB, and the sync point

fresh_by : (system : System) (kind : Pcb) → sends_well system kind ≡ true → option_map_or (is_receiver system) (destination_by kind None) true ≡ true
fresh_by system (Destination name) well = well
fresh_by system Modifiable well = refl
fresh_by system (Database number options) well = refl

pub fresh_well : (system : System) (kind : Pcb) → sends_well system kind ≡ true → is_well system (fresh_pcb kind) ≡ true
fresh_well system kind well = made_well system (fresh_pcb kind) well (fresh_by system kind well) refl

reset_keeps : (system : System) (work : MessageWork) → SendsWithin system work → SendsWithin system (reset_work work)
reset_keeps system work s = record {
  size = s.size;
  count = s.count;
  inserted = omega arith;
  bytes = omega (arith, sum_mapped_zero segments_built reset_pcb work.pcbs (λ p. refl));
  pcbs = all_mapped (is_well system) reset_pcb work.pcbs s.pcbs (λ p is. fresh_well system p.kind (has_kind_part system p is));
  ended = refl;
}

-- what is sent in the end has the room of a slot, and goes to receivers
pub finished_bytes : (system : System) (work : MessageWork) → SendsWithin system work → sent_bytes (finish_work work).ended ≤ 65536
finished_bytes system work s = omega (arith, s.bytes, s.inserted, s.count, sum_by-append ended_bytes work.ended (flat_map output_ended_by work.pcbs), all_bytes system work.pcbs s.pcbs)

pub finished_sent : (system : System) (work : MessageWork) → SendsWithin system work → list_all (is_sent_well system) (finish_work work).ended ≡ true
finished_sent system work s = all_both (is_sent_well system) work.ended (flat_map output_ended_by work.pcbs) s.ended (all_well_sent system work.pcbs s.pcbs)

-- ---- any call

pub call_keeps : (function : Function) (system : System) (work : MessageWork) (pcb : ℕ) (text : List ℕ) → SendsWithin system work → SendsWithin system (message_work_by function system work pcb text)
call_keeps GU system work pcb text s = record { size = s.size; count = s.count; inserted = s.inserted; bytes = s.bytes; pcbs = s.pcbs; ended = s.ended }
call_keeps GN system work pcb text s = by (work.begun && nat_lt work.place _) where
  by : (b : Bool) → SendsWithin system (if b then record work { place = work.place + 1 } else work)
  by true = record { size = s.size; count = s.count; inserted = s.inserted; bytes = s.bytes; pcbs = s.pcbs; ended = s.ended }
  by false = s
call_keeps ISRT system work pcb text s = insert_keeps system work pcb text s
call_keeps PURG system work pcb text s = purge_keeps system work pcb s
call_keeps CHNG system work pcb text s = change_keeps system work pcb text s
call_keeps ROLB system work pcb text s = reset_keeps system work s
call_keeps _ system work pcb text s = s
