-- An input is accepted, or a reply is acknowledged: the life takes the step.
use Rattle.std.proofs.Common.{◌≡◌, ℕ, ◌+◌, ◌≤◌, nat_le, nat_lt, Bool, true, false, ◌&&◌, List, [], ◌∷◌, ◌++◌, length, Option, Some, None, Result, Ok, Err, refl, sym, ◌∙◌, ap, subst, arith}
use Rattle.std.specs.Prelude.{if◌then◌else◌, ◌==◌, slice_get}
use Rattle.std.specs.List.{list_all, list_any, flat_map, AllByRecursion}
use Rattle.std.specs.Option.{is_some, option_and_then, option_map_or}
use Rattle.std.specs.Str.{bytes_eq}
use Rattle.std.proofs.lemmas.Bool.{ltb-false, leb-false, eqb-true}
use Rattle.tm_types.specs.declared.message.Reply.{Reply}
use Rattle.model_messages.specs.declared.replies.TerminalReplies.{TerminalReplies}
use Rattle.model_messages.specs.Outputs.{first_number, reply_at}
use Rattle.model_system.specs.declared.code.Code.{Code}
use Rattle.model_system.specs.Codes.{code_at}
use Rattle.model_system.specs.System.{System}
use Rattle.model_machine.specs.declared.lasting.TerminalState.{TerminalState}
use Rattle.model_machine.specs.declared.entry.ControlCall.TheVariants.{Input, Acknowledge}
use Rattle.model_machine.specs.declared.entry.Taken.{Taken}
use Rattle.model_machine.specs.declared.entry.Taken.TheVariants.{New}
use Rattle.model_machine.specs.declared.entry.InputRefused.TheVariants.{Expected, Code as NoCode, Terminal as NoTerminal}
use Rattle.model_machine.specs.declared.entry.Acked.{Acked}
use Rattle.model_machine.specs.declared.entry.Acked.TheVariants.{Removed, Already as AckAlready}
use Rattle.model_machine.specs.declared.entry.AckRefused.{AckRefused}
use Rattle.model_machine.specs.declared.entry.AckRefused.TheVariants.{Ahead}
use Rattle.model_machine.specs.Machine.{LastingState, Moment, content, terminal_at, output_at}
use Rattle.model_machine.specs.LastingSteps.{KeptInput, LastingStep, applied, kept_input}
use Rattle.model_machine.specs.LastingSteps.LastingStep.{Accepts, Acknowledges}
use Rattle.model_machine.specs.MachineCalls.{After, Refusal, accepted_step, ack_answer, ack_by, acknowledged_step, by_number, input_answer, lasting_step, unknown_code, unknown_terminal, wrong_number}
use Rattle.model_image.specs.States.{has_right_pad, is_system_code, is_small, is_system_terminal}
use Rattle.log_records.specs.declared.record.Record.{Record}
use Rattle.log_records.specs.declared.record.Record.TheVariants.{Acknowledged}
use Rattle.log_records.specs.RecordSpelling.{record_spelling, IsLogRecord}
use Rattle.log_records.proofs.Takes.{IsBytes}
use Rattle.log_writer.specs.ForcedLog.{log_sectors_of}
use Rattle.system_types.specs.ValidSystem.{IsSystem}
use Rattle.image_law.specs.SoundState.{FitsRanges}
use Rattle.image_law.specs.StandingState.{StandsLasting}
use Rattle.image_law.proofs.SoundLaws.{is_sound}
use Rattle.image_law.specs.SoundMachine.{StaysSound}
use Rattle.image_law.proofs.Refused.{IsNew, is_new}
use Rattle.image_law.proofs.Steps.{HasTerminals, pads_of_codes, there_by, is_free, input_known, stays_sound}
use Rattle.checkpointing.specs.SnapshotRecords.{IsOfSystem}
use Rattle.image_law.specs.SegmentCounts.{AreSegmentsCounted}
use Rattle.model_image.specs.StepRecords as told
use Rattle.disk_law.specs.Life.{LifeOnDisk, IsLifeOnDisk}
use Rattle.disk_law.specs.LifeSteps.{HasRoomForRecords, IsStep, StepOnDisk}
use Rattle.disk_law.specs.LastingSteps.{MayAccept, MayAcknowledge, accepting, acknowledging, life_input_record, input_of}
use Rattle.disk_law.proofs.LastingSteps.{accept_step, acknowledge_step}
use Rattle.disk_law.proofs.Stepping.{step_life}
use Rattle.journal.specs.UnspentCounts.{AreUnspent}
use Rattle.program_rows.specs.SlotsState.{SlotsState}
use Rattle.journal.specs.CarriedLife.{IsCarriedBy}
use Rattle.journal.specs.LifeByCall.{LifeStepsOn}
use Rattle.journal.proofs.Counting.{accepts_fits, acknowledges_fits}
use Rattle.journal.proofs.Names.{of_system_behind, step_counted}

-- these records have room in a life's log
pub record HasRoom (records : List Record) (life : LifeOnDisk) : Type 0 where
  pub valid : AllByRecursion IsLogRecord records
  pub fits : life.log.place + log_sectors_of (length (life.log.appended ++ flat_map record_spelling records)) ≤ life.log.count
  pub bytes : IsBytes (flat_map record_spelling records)

pub room_for : (some records : List Record) (life : LifeOnDisk) → some ≡ records → HasRoom records life → HasRoomForRecords life some
room_for some records life same room =
    subst (λ (rs : List Record). HasRoomForRecords life rs) (sym same) (record { fits = room.fits; valid = room.valid; bytes = room.bytes })

-- what lasts of a life fits
pub lasting_fits : (system : System) (lasting : LastingState) (life : LifeOnDisk) → life.system ≡ system → life.lasting ≡ lasting → IsLifeOnDisk life → FitsRanges system lasting
lasting_fits system lasting life same lasts l =
    subst (λ (x : LastingState). FitsRanges system x) lasts (subst (λ (y : System). FitsRanges y life.lasting) same (is_sound life.system life.lasting l.sound).fits)

-- what lasts has the terminals of the system
pub has_terminals : (system : System) (lasting : LastingState) → IsOfSystem system lasting → HasTerminals system lasting
has_terminals system lasting is = record { terminals = is.terminals; outputs = is.outputs; conversations = is.conversations }

-- ---- an input

abbrev number_by : ℕ → ℕ → Bool → Bool → Refusal
number_by last number low far = if low then Some (Ok Rattle.model_machine.specs.declared.entry.Taken.TheVariants.Already) else if far then Some (Err (Expected (last + 1))) else None

next_by : (last number : ℕ) (low far : Bool) → nat_le number last ≡ low → nat_lt (last + 1) number ≡ far → number_by last number low far ≡ None → last + 1 ≡ number
next_by last number true far e f is = absurd cc
next_by last number false true e f is = absurd cc
next_by last number false false e f is = omega (arith, leb-false number last e, ltb-false (last + 1) number f)

-- the terminal of an input that is new, whose next input it is
record IsNextOf (lasting : LastingState) (terminal : List ℕ) (number : ℕ) : Type 0 where
  state : TerminalState
  found : terminal_at lasting.terminals terminal ≡ Some state
  next : state.last + 1 ≡ number

next_of_terminal : (lasting : LastingState) (terminal : List ℕ) (number : ℕ) → unknown_terminal lasting terminal ≡ None → wrong_number lasting terminal number ≡ None → IsNextOf lasting terminal number
next_of_terminal lasting terminal number known right = by (terminal_at lasting.terminals terminal) refl known right where
  none : Refusal
  none = None

  by : (o : Option TerminalState) → terminal_at lasting.terminals terminal ≡ o → (if is_some o then None else Some (Err NoTerminal)) ≡ none → option_and_then (λ t. by_number t.last number) o ≡ None → IsNextOf lasting terminal number
  by None e k r = absurd cc
  by (Some t) e k r = record { state = t; found = e; next = next_by t.last number (nat_le number t.last) (nat_lt (t.last + 1) number) refl refl r }

code_is : (system : System) (word : List ℕ) → unknown_code system.codes word ≡ None → is_system_code system word ≡ true
code_is system word known = by (code_at system.codes word) known where
  none : Refusal
  none = None

  by : (o : Option Code) → (if is_some o then None else Some (Err NoCode)) ≡ none → is_some o ≡ true
  by None e = absurd cc
  by (Some code) e = refl

-- how a reply's number is judged
abbrev removed_by : ℕ → Bool → Bool → Option Reply → Result Acked AckRefused
removed_by first low same reply = if low then Ok AckAlready else if same && is_some reply then Ok Removed else Err (Ahead first)

room_within : (a b most : ℕ) → a + b ≤ most → a ≤ most
room_within a b most h = omega (arith, h)

module _ (system : System) (valid : IsSystem system) (moment : Moment) (slots : SlotsState) (units : List ℕ) (next : ℕ) (life : LifeOnDisk)
    (c : IsCarriedBy system moment slots units next life) (unspent : AreUnspent moment.lasting) where
  names : HasTerminals system moment.lasting
  names = has_terminals system moment.lasting c.is.names

  pub fits_now : FitsRanges system moment.lasting
  fits_now = lasting_fits system moment.lasting life c.is.of_system c.is.lasts c.is.is_life

  pub counted_then : (step : StepOnDisk) → IsStep life step → (after : LastingState) → step.lasting ≡ after → AreSegmentsCounted after
  counted_then step s after same =
      subst (λ (l : LastingState). AreSegmentsCounted l) same (step_counted life step s (subst (λ (l : LastingState). AreSegmentsCounted l) (sym c.is.lasts) c.is.counted))

  module _ (terminal : List ℕ) (number : ℕ) (segments : List (List ℕ)) (id : ℕ) (answer : input_answer system moment terminal number segments ≡ Ok (New id)) (small : is_small number ≡ true)
      (right : list_all (has_right_pad system) (After system moment (Input terminal number segments) []).lasting.conversations ≡ true) where
    abbrev kept : KeptInput
    kept = kept_input system moment.lasting terminal segments

    abbrev after : Moment
    after = After system moment (Input terminal number segments) []

    abbrev behind : LastingState
    behind = applied (Accepts terminal number kept) moment.lasting

    step_is : lasting_step system moment (Input terminal number segments) ≡ Some (Accepts terminal number kept)
    step_is = ap (accepted_step terminal number kept) answer

    behind_is : after.lasting ≡ behind
    behind_is = ap (λ (o : Option LastingStep). option_map_or (λ s. applied s moment.lasting) o moment.lasting) step_is

    sound : StaysSound system after
    sound = stays_sound system valid moment names c.sound (Input terminal number segments) [] tt refl right

    stands : StandsLasting system behind
    stands = subst (StandsLasting system) behind_is sound.stands

    has_room : content behind ≤ system.qbytes
    has_room = subst (λ (l : LastingState). content l ≤ system.qbytes) behind_is (omega (arith, sound.room))

    new : IsNew system moment terminal number segments
    new = is_new system moment terminal number segments (Accepts terminal number kept) step_is

    known : is_system_terminal system terminal ≡ true
    known = input_known system valid moment names c.sound terminal number segments new

    abbrev told_now : Record
    told_now = told.input_record terminal number kept moment.lasting

    record_is : life_input_record terminal number segments life ≡ told_now
    record_is = rw (c.is.of_system, c.is.lasts) refl

    fits_so : FitsRanges system behind
    fits_so = accepts_fits system moment.lasting fits_now unspent terminal number kept small stands has_room

    may_accept : HasRoom (told_now ∷ []) life → MayAccept terminal number segments life
    may_accept room =
        let its = next_of_terminal moment.lasting terminal number new.terminal_known new.number_next in
        record {
          pads = rw (c.is.of_system) (pads_of_codes system.codes valid.pads);
          state = its.state;
          found = subst (λ (x : LastingState). terminal_at x.terminals terminal ≡ Some its.state) (sym c.is.lasts) its.found;
          next = its.next;
          known = rw (c.is.of_system) known;
          free = rw (c.is.lasts) (is_free system valid moment names c.sound terminal number segments known new);
          to_code = rw (c.is.of_system, c.is.lasts) (code_is system kept.code new.code_known);
          fits = rw (c.is.of_system, c.is.lasts) fits_so;
          room = room_for (life_input_record terminal number segments life ∷ []) (told_now ∷ []) life (ap (λ (r : Record). r ∷ []) record_is) room;
        }

    -- The input is accepted.
    pub accept_goes : HasRoom (told_now ∷ []) life → LifeStepsOn (flat_map record_spelling (told_now ∷ [])) system after slots units next life
    accept_goes room =
        let is = accept_step terminal number segments life c.is.is_life (may_accept room) in
        record {
          step = accepting terminal number segments life;
          spelled = ap (λ (r : Record). flat_map record_spelling (r ∷ [])) (sym record_is);
          is_step = is;
          lasts = lasts_so;
          is = record {
            is = record {
              of_system = c.is.of_system;
              lasts = lasts_so;
              names = subst (λ (l : LastingState). IsOfSystem system l) (sym behind_is) (of_system_behind system (Accepts terminal number kept) moment.lasting c.is.names);
              counted = counted_then (accepting terminal number segments life) is after.lasting lasts_so;
              is_life = step_life life c.is.is_life (accepting terminal number segments life) is;
              stores = record { are_of = c.is.stores.are_of; valid = c.is.stores.valid; present = c.is.stores.present; changed = c.is.stores.changed };
              committed = c.is.committed;
              numbers = c.is.numbers;
              touched = c.is.touched;
              syncs = c.is.syncs;
            };
            sound = sound;
          };
        } where
          lasts_so : applied (Accepts terminal number (input_of terminal segments life)) life.lasting ≡ after.lasting
          lasts_so = (rw (c.is.of_system, c.is.lasts) refl) ∙ sym behind_is

  -- ---- an acknowledgement

  module _ (terminal : List ℕ) (number : ℕ) (answer : ack_answer moment terminal number ≡ Ok Removed)
      (right : list_all (has_right_pad system) (After system moment (Acknowledge terminal number) []).lasting.conversations ≡ true) where
    abbrev after_ack : Moment
    after_ack = After system moment (Acknowledge terminal number) []

    abbrev without : LastingState
    without = applied (Acknowledges terminal) moment.lasting

    ack_behind : after_ack.lasting ≡ without
    ack_behind = ap (λ (o : Option LastingStep). option_map_or (λ s. applied s moment.lasting) o moment.lasting) (ap (acknowledged_step terminal) answer)

    ack_sound : StaysSound system after_ack
    ack_sound = stays_sound system valid moment names c.sound (Acknowledge terminal number) [] tt refl right

    -- the reply that is removed
    record IsFirst : Type 0 where
      output : TerminalReplies
      found : output_at moment.lasting.outputs terminal ≡ Some output
      reply : Reply
      first : slice_get output.replies 0 ≡ Some reply
      same : first_number output ≡ number

    first_is : IsFirst
    first_is = by (output_at moment.lasting.outputs terminal) refl answer where
      with_reply : (output : TerminalReplies) → output_at moment.lasting.outputs terminal ≡ Some output → (o : Option Reply) → slice_get output.replies 0 ≡ o → (low same : Bool) → number == first_number output ≡ same
          → removed_by (first_number output) low same o ≡ Ok Removed → IsFirst
      with_reply output e o f true same g is = absurd cc
      with_reply output e None f false true g is = absurd cc
      with_reply output e (Some reply) f false true g is = record { output = output; found = e; reply = reply; first = f; same = sym (eqb-true number (first_number output) g) }
      with_reply output e o f false false g is = absurd cc

      by : (o : Option TerminalReplies) → output_at moment.lasting.outputs terminal ≡ o → ack_by o number ≡ Ok Removed → IsFirst
      by None e is = absurd cc
      by (Some output) e is = with_reply output e (slice_get output.replies 0) refl (nat_lt number (first_number output)) (number == first_number output) refl is

    abbrev ack_record : Record
    ack_record = told.acknowledged_record terminal moment.lasting

    ack_record_is : Acknowledged terminal number ≡ ack_record
    ack_record_is =
        ap (λ n. Acknowledged terminal n) (sym first_is.same)
        ∙ sym (ap (λ (o : Option TerminalReplies). Acknowledged terminal (option_map_or first_number o 1)) first_is.found)

    reply_found : reply_at terminal 0 moment.lasting.outputs ≡ Some first_is.reply
    reply_found = ap (λ (o : Option TerminalReplies). option_and_then (λ t. slice_get t.replies 0) o) first_is.found ∙ first_is.first

    number_found : first_is.reply.number ≡ number
    number_found = sym (ap (λ (o : Option Reply). option_map_or (λ r. r.number) o first_is.output.next) first_is.first) ∙ first_is.same

    some_output : (o : Option TerminalReplies) (output : TerminalReplies) → o ≡ Some output → is_some o ≡ true
    some_output None output e = absurd cc
    some_output (Some x) output e = refl

    terminal_is : is_system_terminal system terminal ≡ true
    terminal_is =
        sym (ap (λ (ns : List (List ℕ)). list_any (λ other. bytes_eq other terminal) ns) names.outputs)
        ∙ sym (there_by (λ (t : TerminalReplies). t.terminal) moment.lasting.outputs terminal)
        ∙ some_output (output_at moment.lasting.outputs terminal) first_is.output first_is.found

    ack_stands : StandsLasting system without
    ack_stands = subst (StandsLasting system) ack_behind ack_sound.stands

    ack_room : content without ≤ system.qbytes
    ack_room = subst (λ (l : LastingState). content l ≤ system.qbytes) ack_behind (omega (arith, ack_sound.room))

    ack_fits_so : FitsRanges system without
    ack_fits_so = acknowledges_fits system moment.lasting fits_now unspent terminal ack_stands ack_room

    may_acknowledge : HasRoom (ack_record ∷ []) life → MayAcknowledge terminal number life
    may_acknowledge room = record {
      reply = first_is.reply;
      found = subst (λ (x : LastingState). reply_at terminal 0 x.outputs ≡ Some first_is.reply) (sym c.is.lasts) reply_found;
      same = number_found;
      known = rw (c.is.of_system) terminal_is;
      fits = rw (c.is.of_system, c.is.lasts) ack_fits_so;
      room = room_for (Acknowledged terminal number ∷ []) (ack_record ∷ []) life (ap (λ (r : Record). r ∷ []) ack_record_is) room;
    }

    -- The reply is acknowledged.
    pub acknowledge_goes : HasRoom (ack_record ∷ []) life → LifeStepsOn (flat_map record_spelling (ack_record ∷ [])) system after_ack slots units next life
    acknowledge_goes room =
        let is = acknowledge_step terminal number life c.is.is_life (may_acknowledge room) in
        record {
          step = acknowledging terminal number life;
          spelled = ap (λ (r : Record). flat_map record_spelling (r ∷ [])) (sym ack_record_is);
          is_step = is;
          lasts = lasts_so;
          is = record {
            is = record {
              of_system = c.is.of_system;
              lasts = lasts_so;
              names = subst (λ (l : LastingState). IsOfSystem system l) (sym ack_behind) (of_system_behind system (Acknowledges terminal) moment.lasting c.is.names);
              counted = counted_then (acknowledging terminal number life) is after_ack.lasting lasts_so;
              is_life = step_life life c.is.is_life (acknowledging terminal number life) is;
              stores = record { are_of = c.is.stores.are_of; valid = c.is.stores.valid; present = c.is.stores.present; changed = c.is.stores.changed };
              committed = c.is.committed;
              numbers = c.is.numbers;
              touched = c.is.touched;
              syncs = c.is.syncs;
            };
            sound = ack_sound;
          };
        } where
          lasts_so : applied (Acknowledges terminal) life.lasting ≡ after_ack.lasting
          lasts_so = (rw (c.is.lasts) refl) ∙ sym ack_behind
