-- A unit sends at most 32 outputs.
use Rattle.std.proofs.Common.{◌≡◌, ℕ, ◌+◌, ◌≤◌, Bool, true, false, ◌&&◌, List, [], ◌∷◌, ◌++◌, Option, Some, None, length, map, refl, arith}
use Rattle.std.specs.Prelude.{if◌then◌else◌, nat_le, nat_lt, slice_get, slice_set}
use Rattle.std.specs.List.{flat_map}
use Rattle.std.specs.Option.{is_some, option_map_or}
use Rattle.std.proofs.lemmas.Bool.{leb-false}
use Rattle.std.proofs.lemmas.List.{length-append}
use Rattle.std.proofs.lemmas.List.Sums.{sum_by-cons}
use Rattle.tm_types.specs.declared.function.Function.{Function}
use Rattle.tm_types.specs.declared.function.Function.TheVariants.{GU, GN, ISRT, PURG, CHNG, ROLB}
use Rattle.tm_types.specs.Segment.{segment_length}
use Rattle.model_data.specs.declared.row.Row.{Row}
use Rattle.model_system.specs.declared.pcb.Pcb.{Pcb}
use Rattle.model_system.specs.declared.pcb.Pcb.TheVariants.{Destination}
use Rattle.model_system.specs.Jobs.{Job}
use Rattle.model_system.specs.Lists.{change_at}
use Rattle.model_system.specs.System.{System}
use Rattle.model_messages.specs.declared.open_pcb.OpenPcb.{OpenPcb}
use Rattle.model_messages.specs.MessageWork.{MessageWork, destination_of, output_ended_by, ended_to, fresh_pcb, without_output}
use Rattle.model_messages.specs.MessageCalls.{change_status, change_work, destination_at, destination_named, ended_at, gives_back, insert_work, is_blank, next_work, purge_status, purge_work, reset_pcb, returned_pad, segment_status, segment_work, work_texts, with_chosen, with_output_segment, without_blanks, message_work_by}
use Rattle.model_machine.specs.Trial.{Given, Trial, outputs_of, trial_of}
use Rattle.image_law.specs.SentMessages.{segments_built, open_segments}
use Rattle.image_law.proofs.Changes.{sum_set, sum_more, sum_same, sum_mapped_zero}
use Rattle.image_law.proofs.Trials.{IsJob, trial_has}
use Rattle.image_law.proofs.Counts.{room_left}

-- A unit inserts at most 32 segments, and each output that it has ended has one of them.
record SendsFew (work : MessageWork) : Type 0 where
  count : work.count_limit ≤ 32
  inserted : work.inserted ≤ work.count_limit
  few : open_segments work.pcbs + length work.ended ≤ work.inserted

-- ---- messages that end

one_ends : (to : Option (List ℕ)) (segments : List (List ℕ)) → length (ended_to to segments) ≤ length segments
one_ends None segments = omega arith
one_ends (Some to) [] = omega arith
one_ends (Some to) (segment ∷ segments) = omega arith

all_end : (pcbs : List OpenPcb) → length (flat_map output_ended_by pcbs) ≤ open_segments pcbs
all_end [] = omega arith
all_end (p ∷ pcbs) = omega (arith, length-append (output_ended_by p) (flat_map output_ended_by pcbs), sum_by-cons segments_built p pcbs, one_ends (destination_of p) p.segments, all_end pcbs)

purged : (pcbs : List OpenPcb) (pcb : ℕ) → open_segments (change_at pcbs (Some pcb) without_output) + length (ended_at pcbs pcb) ≤ open_segments pcbs
purged pcbs pcb = by (slice_get pcbs pcb) refl where
  by : (found : Option OpenPcb) → slice_get pcbs pcb ≡ found
      → open_segments (option_map_or (λ p. slice_set pcbs pcb (without_output p)) found pcbs) + length (option_map_or output_ended_by found []) ≤ open_segments pcbs
  by None e = omega arith
  by (Some p) e = omega (arith, sum_set segments_built pcbs pcb p (without_output p) e, one_ends (destination_of p) p.segments)

none_yet : (pcbs : List Pcb) → open_segments (map fresh_pcb pcbs) ≡ 0
none_yet [] = refl
none_yet (pcb ∷ pcbs) = omega (arith, sum_by-cons segments_built (fresh_pcb pcb) (map fresh_pcb pcbs), none_yet pcbs)

-- ---- calls

segment_few : (work : MessageWork) (pcb : ℕ) (text : List ℕ) → SendsFew work → SendsFew (segment_work work pcb text)
segment_few work pcb text s = by (is_blank (segment_status work pcb text)) refl where
  by : (b : Bool) → is_blank (segment_status work pcb text) ≡ b → SendsFew (if b then record work { inserted = work.inserted + 1; pcbs = change_at work.pcbs (Some pcb) (with_output_segment text) } else work)
  by true e =
      let full = room_left (is_some (destination_at work.pcbs pcb)) (nat_lt work.size_limit (segment_length text)) (nat_le work.count_limit work.inserted) e in
      let less = leb-false work.count_limit work.inserted full in
      record {
        count = s.count;
        inserted = omega (arith, less);
        few = omega (arith, s.few, sum_more segments_built work.pcbs pcb (with_output_segment text) (λ p. length-append p.segments (text ∷ [])));
      }
  by false e = s

insert_few : (work : MessageWork) (pcb : ℕ) (text : List ℕ) → SendsFew work → SendsFew (insert_work work pcb text)
insert_few work pcb text s = by (gives_back work pcb) (segment_few work pcb text s) where
  by : (b : Bool) → SendsFew (segment_work work pcb text) → SendsFew (if b then record work { returned = returned_pad work.conversation text } else segment_work work pcb text)
  by true h = record { count = s.count; inserted = s.inserted; few = s.few }
  by false h = h

purge_few : (work : MessageWork) (pcb : ℕ) → SendsFew work → SendsFew (purge_work work pcb)
purge_few work pcb s = by (is_blank (purge_status work pcb)) where
  by : (b : Bool) → SendsFew (if b then record work { pcbs = change_at work.pcbs (Some pcb) without_output; ended = work.ended ++ ended_at work.pcbs pcb } else work)
  by true = record {
    count = s.count;
    inserted = s.inserted;
    few = omega (arith, s.few, length-append work.ended (ended_at work.pcbs pcb), purged work.pcbs pcb);
  }
  by false = s

change_few : (system : System) (work : MessageWork) (pcb : ℕ) (name : List ℕ) → SendsFew work → SendsFew (change_work system work pcb name)
change_few system work pcb name s = by (is_blank (change_status system work pcb name)) where
  to : Option (List ℕ)
  to = destination_named system (without_blanks name)

  by : (b : Bool) → SendsFew (if b then record work { pcbs = change_at work.pcbs (Some pcb) (with_chosen to) } else work)
  by true = record {
    count = s.count;
    inserted = s.inserted;
    few = omega (arith, s.few, sum_same segments_built work.pcbs pcb (with_chosen to) (λ p. refl));
  }
  by false = s

next_few : (work : MessageWork) → SendsFew work → SendsFew (next_work work)
next_few work s = by (work.begun && nat_lt work.place (length (work_texts work))) where
  by : (b : Bool) → SendsFew (if b then record work { place = work.place + 1 } else work)
  by true = record { count = s.count; inserted = s.inserted; few = s.few }
  by false = s

call_few : (function : Function) (system : System) (work : MessageWork) (pcb : ℕ) (text : List ℕ) → SendsFew work → SendsFew (message_work_by function system work pcb text)
call_few GU system work pcb text s = record { count = s.count; inserted = s.inserted; few = s.few }
call_few GN system work pcb text s = next_few work s
call_few ISRT system work pcb text s = insert_few work pcb text s
call_few PURG system work pcb text s = purge_few work pcb s
call_few CHNG system work pcb text s = change_few system work pcb text s
call_few ROLB system work pcb text s = record {
  count = s.count;
  inserted = omega arith;
  few = omega (arith, sum_mapped_zero segments_built reset_pcb work.pcbs (λ p. refl));
}
call_few _ system work pcb text s = s

pub few_outputs : (job : Job) → IsJob job → (rows : List (List Row)) (given : Given) (calls : ℕ) (trial : Trial) → trial_of job rows given calls ≡ Some trial → length (outputs_of trial) ≤ 32
few_outputs job is_job rows given calls trial e =
    let s =
    trial_has job rows given SendsFew (λ work call s. call_few call.function job.system work call.pcb call.area s)
    (record { count = is_job.count; inserted = omega arith; few = omega (arith, none_yet (Destination given.message.origin ∷ job.pcbs)) }) calls trial e in
    omega (arith, s.count, s.inserted, s.few, length-append trial.work.ended (flat_map output_ended_by trial.work.pcbs), all_end trial.work.pcbs)
