-- What a PCB's message under construction becomes when it is ended.
use Rattle.std.proofs.Common.{◌≡◌, ℕ, ◌*◌, ◌≤◌, nat_le, true, ◌&&◌, List, [], ◌∷◌, length, Option, Some, None, refl, arith}
use Rattle.std.specs.Prelude.{sum_by}
use Rattle.std.specs.List.{list_all, flat_map}
use Rattle.std.specs.Option.{option_map_or}
use Rattle.std.proofs.lemmas.Bool.Decides.{nat_tests}
use Rattle.std.proofs.lemmas.List.Sums.{sum_by-append, sum_by-cons}
use Rattle.tm_types.specs.Segment.{segment_length}
use Rattle.model_system.specs.System.{System}
use Rattle.model_messages.specs.declared.ended_message.EndedMessage.{EndedMessage}
use Rattle.model_messages.specs.declared.open_pcb.OpenPcb.{OpenPcb}
use Rattle.model_messages.specs.MessageWork.{destination_of, ended_to, output_ended_by}
use Rattle.image_law.proofs.Bools.{first_of, second_of}
use Rattle.image_law.specs.SentMessages.{is_receiver, sends_well, is_short_text, is_well, ended_bytes, sent_bytes, segments_built, open_segments, is_sent_well}
use Rattle.image_law.proofs.Changes.{all_both}
use Rattle.tm_types.proofs.Truths.{both}

at_most : (a b : ℕ) → nat_le a b ≡ true → a ≤ b
at_most a b is = grind (arith, nat_tests, is)

short_sum : (texts : List (List ℕ)) → list_all is_short_text texts ≡ true → sum_by segment_length texts ≤ length texts * 2000
short_sum [] all = omega arith
short_sum (text ∷ texts) all =
    omega (arith, sum_by-cons segment_length text texts, at_most (segment_length text) 2000 (first_of (is_short_text text) (list_all is_short_text texts) all), short_sum texts (second_of (is_short_text text) (list_all is_short_text texts) all))

to_bytes : (to : Option (List ℕ)) (texts : List (List ℕ)) → list_all is_short_text texts ≡ true → sent_bytes (ended_to to texts) ≤ length texts * 2048
to_bytes None texts all = omega arith
to_bytes (Some to) [] all = omega arith
to_bytes (Some to) (text ∷ texts) all =
    let o : EndedMessage = record { to = to; segments = text ∷ texts } in
    omega (arith, sum_by-cons ended_bytes o [], short_sum (text ∷ texts) all)

to_receiver : (system : System) (to : Option (List ℕ)) (texts : List (List ℕ)) → option_map_or (is_receiver system) to true ≡ true → list_all (is_sent_well system) (ended_to to texts) ≡ true
to_receiver system None texts is = refl
to_receiver system (Some to) [] is = refl
to_receiver system (Some to) (text ∷ texts) is = both (is_receiver system to) true is refl

-- the parts of a PCB that is well
pub has_receiver_part : (system : System) (p : OpenPcb) → is_well system p ≡ true → option_map_or (is_receiver system) (destination_of p) true ≡ true
has_receiver_part system p is =
    first_of (option_map_or (is_receiver system) (destination_of p) true) (list_all is_short_text p.segments)
    (second_of (sends_well system p.kind) (option_map_or (is_receiver system) (destination_of p) true && list_all is_short_text p.segments) is)

pub has_short_part : (system : System) (p : OpenPcb) → is_well system p ≡ true → list_all is_short_text p.segments ≡ true
has_short_part system p is =
    second_of (option_map_or (is_receiver system) (destination_of p) true) (list_all is_short_text p.segments)
    (second_of (sends_well system p.kind) (option_map_or (is_receiver system) (destination_of p) true && list_all is_short_text p.segments) is)

pub has_kind_part : (system : System) (p : OpenPcb) → is_well system p ≡ true → sends_well system p.kind ≡ true
has_kind_part system p is = first_of (sends_well system p.kind) (option_map_or (is_receiver system) (destination_of p) true && list_all is_short_text p.segments) is

pub one_bytes : (system : System) (p : OpenPcb) → is_well system p ≡ true → sent_bytes (output_ended_by p) ≤ segments_built p * 2048
one_bytes system p is = to_bytes (destination_of p) p.segments (has_short_part system p is)

pub one_sent : (system : System) (p : OpenPcb) → is_well system p ≡ true → list_all (is_sent_well system) (output_ended_by p) ≡ true
one_sent system p is = to_receiver system (destination_of p) p.segments (has_receiver_part system p is)

-- all of them, at the sync point
pub all_bytes : (system : System) (pcbs : List OpenPcb) → list_all (is_well system) pcbs ≡ true → sent_bytes (flat_map output_ended_by pcbs) ≤ open_segments pcbs * 2048
all_bytes system [] all = omega arith
all_bytes system (p ∷ pcbs) all =
    omega (
      arith,
      sum_by-append ended_bytes (output_ended_by p) (flat_map output_ended_by pcbs),
      sum_by-cons segments_built p pcbs,
      one_bytes system p (first_of (is_well system p) (list_all (is_well system) pcbs) all),
      all_bytes system pcbs (second_of (is_well system p) (list_all (is_well system) pcbs) all),
    )

pub all_well_sent : (system : System) (pcbs : List OpenPcb) → list_all (is_well system) pcbs ≡ true → list_all (is_sent_well system) (flat_map output_ended_by pcbs) ≡ true
all_well_sent system [] all = refl
all_well_sent system (p ∷ pcbs) all =
    all_both (is_sent_well system) (output_ended_by p) (flat_map output_ended_by pcbs) (one_sent system p (first_of (is_well system p) (list_all (is_well system) pcbs) all))
    (all_well_sent system pcbs (second_of (is_well system p) (list_all (is_well system) pcbs) all))
