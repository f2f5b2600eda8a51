-- Each message that a unit sends has 1 to 32 segments.
use Rattle.std.proofs.Common.{◌≡◌, ℕ, zero, suc, ◌+◌, ◌≤◌, Bool, true, false, not, ◌&&◌, List, [], ◌∷◌, ◌++◌, Option, Some, None, length, map, refl, arith}
use Rattle.std.specs.Prelude.{if◌then◌else◌, nat_le, nat_lt, slice_get, slice_set}
use Rattle.std.specs.List.{AllByRecursion, flat_map}
use Rattle.std.specs.Option.{is_some, option_map_or}
use Rattle.std.proofs.lemmas.Bool.{leb-false}
use Rattle.std.proofs.lemmas.List.{length-append}
use Rattle.tm_types.specs.declared.function.Function.{Function}
use Rattle.tm_types.specs.declared.function.Function.TheVariants.{GU, GN, ISRT, PURG, CHNG, ROLB}
use Rattle.tm_types.specs.declared.status.Status.TheVariants.{Blank, A3, A6, A7}
use Rattle.tm_types.specs.Segment.{segment_length}
use Rattle.model_data.specs.declared.row.Row.{Row}
use Rattle.model_system.specs.declared.pcb.Pcb.{Pcb}
use Rattle.model_system.specs.declared.pcb.Pcb.TheVariants.{Destination}
use Rattle.model_system.specs.Jobs.{Job}
use Rattle.model_system.specs.Lists.{change_at}
use Rattle.model_system.specs.System.{System}
use Rattle.model_messages.specs.declared.ended_message.EndedMessage.{EndedMessage}
use Rattle.model_messages.specs.declared.open_pcb.OpenPcb.{OpenPcb}
use Rattle.model_messages.specs.MessageWork.{MessageWork, destination_of, output_ended_by, ended_to, fresh_pcb, without_output}
use Rattle.model_messages.specs.MessageCalls.{change_status, change_work, destination_at, destination_named, ended_at, gives_back, insert_work, is_blank, next_work, purge_status, purge_work, reset_pcb, returned_pad, segment_status, segment_work, work_texts, with_chosen, with_output_segment, without_blanks, message_work_by}
use Rattle.model_machine.specs.Trial.{Given, Trial, outputs_of, trial_of}
use Rattle.image_law.proofs.Trials.{IsJob, trial_has}

-- the PCBs' messages under construction have at most so many segments
abbrev Fit : ℕ → List OpenPcb → Type 0
Fit n pcbs = AllByRecursion (λ p. length p.segments ≤ n) pcbs

abbrev pub HaveSegments : List EndedMessage → Type 0
HaveSegments outputs = AllByRecursion (λ output. (1 ≤ length output.segments) × (length output.segments ≤ 32)) outputs

-- A unit inserts at most as many segments as its count, which is at most 32, by all PCBs together.
record CountsWithin (work : MessageWork) : Type 0 where
  count : work.count_limit ≤ 32
  inserted : work.inserted ≤ work.count_limit
  pcbs : Fit work.inserted work.pcbs
  ended : HaveSegments work.ended

-- ---- the PCBs

more : (n m : ℕ) → n ≤ m → (pcbs : List OpenPcb) → Fit n pcbs → Fit m pcbs
more n m le [] h = tt
more n m le (p ∷ pcbs) h = (omega (arith, le, h.0), more n m le pcbs h.1)

changed : (n m : ℕ) → n ≤ m → (change : OpenPcb → OpenPcb) → ((p : OpenPcb) → length p.segments ≤ n → length (change p).segments ≤ m) → (pcbs : List OpenPcb) (place : ℕ)
    → Fit n pcbs → Fit m (change_at pcbs (Some place) change)
changed n m le change step [] place h = tt
changed n m le change step (p ∷ pcbs) zero h = (step p h.0, more n m le pcbs h.1)
changed n m le change step (p ∷ pcbs) (suc place) h = by (slice_get pcbs place) (changed n m le change step pcbs place h.1)
  where
    by : (found : Option OpenPcb) → Fit m (option_map_or (λ q. slice_set pcbs place (change q)) found pcbs)
        → Fit m (option_map_or (λ q. slice_set (p ∷ pcbs) (suc place) (change q)) found (p ∷ pcbs))
    by (Some q) rest = (omega (arith, le, h.0), rest)
    by None rest = (omega (arith, le, h.0), rest)

one_more : (text : List ℕ) (n : ℕ) (p : OpenPcb) → length p.segments ≤ n → length (with_output_segment text p).segments ≤ n + 1
one_more text n p h = omega (arith, h, length-append p.segments (text ∷ []))

none_left : (pcbs : List OpenPcb) → Fit 0 (map reset_pcb pcbs)
none_left [] = tt
none_left (p ∷ pcbs) = (omega arith, none_left pcbs)

none_yet : (pcbs : List Pcb) → Fit 0 (map fresh_pcb pcbs)
none_yet [] = tt
none_yet (p ∷ pcbs) = (omega arith, none_yet pcbs)

-- ---- messages that end

ends : (to : Option (List ℕ)) (segments : List (List ℕ)) → length segments ≤ 32 → HaveSegments (ended_to to segments)
ends None segments h = tt
ends (Some to) [] h = tt
ends (Some to) (segment ∷ segments) h = ((omega arith, h), tt)

both_have : (a b : List EndedMessage) → HaveSegments a → HaveSegments b → HaveSegments (a ++ b)
both_have [] b h g = g
both_have (o ∷ a) b h g = (h.0, both_have a b h.1 g)

one_ends : (n : ℕ) → n ≤ 32 → (pcbs : List OpenPcb) (place : ℕ) → Fit n pcbs → HaveSegments (option_map_or output_ended_by (slice_get pcbs place) [])
one_ends n le [] place h = tt
one_ends n le (p ∷ pcbs) zero h = ends (destination_of p) p.segments (omega (arith, le, h.0))
one_ends n le (p ∷ pcbs) (suc place) h = one_ends n le pcbs place h.1

all_end : (n : ℕ) → n ≤ 32 → (pcbs : List OpenPcb) → Fit n pcbs → HaveSegments (flat_map output_ended_by pcbs)
all_end n le [] h = tt
all_end n le (p ∷ pcbs) h = both_have (output_ended_by p) (flat_map output_ended_by pcbs) (ends (destination_of p) p.segments (omega (arith, le, h.0))) (all_end n le pcbs h.1)

-- ---- calls

-- a segment is inserted where fewer than the count were
pub room_left : (there long full : Bool) → is_blank (if not there then A3 else if long then A6 else if full then A7 else Blank) ≡ true
    → full ≡ false
room_left false long full e = cc
room_left true true full e = cc
room_left true false true e = cc
room_left true false false e = refl

segment_counts : (work : MessageWork) (pcb : ℕ) (text : List ℕ) → CountsWithin work → CountsWithin (segment_work work pcb text)
segment_counts work pcb text s = by (is_blank (segment_status work pcb text)) refl where
  by : (b : Bool) → is_blank (segment_status work pcb text) ≡ b → CountsWithin (if b then record work { inserted = work.inserted + 1; pcbs = change_at work.pcbs (Some pcb) (with_output_segment text) } else work)
  by true e =
      let full = room_left (is_some (destination_at work.pcbs pcb)) (nat_lt work.size_limit (segment_length text)) (nat_le work.count_limit work.inserted) e in
      let less = leb-false work.count_limit work.inserted full in
      record {
        count = s.count;
        inserted = omega (arith, less);
        pcbs = changed work.inserted (work.inserted + 1) (omega arith) (with_output_segment text) (one_more text work.inserted) work.pcbs pcb s.pcbs;
        ended = s.ended;
      }
  by false e = s

insert_counts : (work : MessageWork) (pcb : ℕ) (text : List ℕ) → CountsWithin work → CountsWithin (insert_work work pcb text)
insert_counts work pcb text s = by (gives_back work pcb) (segment_counts work pcb text s) where
  by : (b : Bool) → CountsWithin (segment_work work pcb text) → CountsWithin (if b then record work { returned = returned_pad work.conversation text } else segment_work work pcb text)
  by true h = record { count = s.count; inserted = s.inserted; pcbs = s.pcbs; ended = s.ended }
  by false h = h

purge_counts : (work : MessageWork) (pcb : ℕ) → CountsWithin work → CountsWithin (purge_work work pcb)
purge_counts work pcb s = by (is_blank (purge_status work pcb)) where
  by : (b : Bool) → CountsWithin (if b then record work { pcbs = change_at work.pcbs (Some pcb) without_output; ended = work.ended ++ ended_at work.pcbs pcb } else work)
  by true = record {
    count = s.count;
    inserted = s.inserted;
    pcbs = changed work.inserted work.inserted (omega arith) without_output (λ p h. omega arith) work.pcbs pcb s.pcbs;
    ended = both_have work.ended (ended_at work.pcbs pcb) s.ended (one_ends work.inserted (omega (arith, s.count, s.inserted)) work.pcbs pcb s.pcbs);
  }
  by false = s

change_counts : (system : System) (work : MessageWork) (pcb : ℕ) (name : List ℕ) → CountsWithin work → CountsWithin (change_work system work pcb name)
change_counts system work pcb name s = by (is_blank (change_status system work pcb name)) where
  by : (b : Bool) → CountsWithin (if b then record work { pcbs = change_at work.pcbs (Some pcb) (with_chosen (destination_named system (without_blanks name))) } else work)
  by true = record {
    count = s.count;
    inserted = s.inserted;
    pcbs = changed work.inserted work.inserted (omega arith) (with_chosen (destination_named system (without_blanks name))) (λ p h. h) work.pcbs pcb s.pcbs;
    ended = s.ended;
  }
  by false = s

next_counts : (work : MessageWork) → CountsWithin work → CountsWithin (next_work work)
next_counts work s = by (work.begun && nat_lt work.place (length (work_texts work))) where
  by : (b : Bool) → CountsWithin (if b then record work { place = work.place + 1 } else work)
  by true = record { count = s.count; inserted = s.inserted; pcbs = s.pcbs; ended = s.ended }
  by false = s

call_counts : (function : Function) (system : System) (work : MessageWork) (pcb : ℕ) (text : List ℕ) → CountsWithin work → CountsWithin (message_work_by function system work pcb text)
call_counts GU system work pcb text s = record { count = s.count; inserted = s.inserted; pcbs = s.pcbs; ended = s.ended }
call_counts GN system work pcb text s = next_counts work s
call_counts ISRT system work pcb text s = insert_counts work pcb text s
call_counts PURG system work pcb text s = purge_counts work pcb s
call_counts CHNG system work pcb text s = change_counts system work pcb text s
call_counts ROLB system work pcb text s = record { count = s.count; inserted = omega arith; pcbs = none_left work.pcbs; ended = tt }
call_counts _ system work pcb text s = s

pub outputs_have : (job : Job) → IsJob job → (rows : List (List Row)) (given : Given) (calls : ℕ) (trial : Trial) → trial_of job rows given calls ≡ Some trial → HaveSegments (outputs_of trial)
outputs_have job is_job rows given calls trial e =
    let s =
    trial_has job rows given CountsWithin (λ work call s. call_counts call.function job.system work call.pcb call.area s)
    (record { count = is_job.count; inserted = omega arith; pcbs = none_yet (Destination given.message.origin ∷ job.pcbs); ended = tt }) calls trial e in
    both_have trial.work.ended (flat_map output_ended_by trial.work.pcbs) s.ended (all_end trial.work.inserted (omega (arith, s.count, s.inserted)) trial.work.pcbs s.pcbs)
