-- The work on a message ends: it is completed or discarded, and the life takes the step.
use Rattle.std.proofs.Common.{◌≡◌, ◌⊎◌, ℕ, ◌+◌, ◌-◌, ◌≤◌, ◌<◌, Bool, true, List, [], ◌∷◌, map, Option, Some, refl, sym, ◌∙◌, ap, subst, arith}
use Rattle.std.specs.Prelude.{slice_get}
use Rattle.std.specs.List.{list_all, list_any, flat_map}
use Rattle.std.specs.Option.{is_some}
use Rattle.std.specs.Str.{bytes_eq}
use Rattle.tm_types.specs.declared.abend.AbendCode.{AbendCode}
use Rattle.tm_types.specs.declared.dbd.Dbd.{Dbd}
use Rattle.tm_types.specs.declared.message.Message.{Message}
use Rattle.model_messages.specs.declared.conversation.PadChange.{PadChange}
use Rattle.model_messages.specs.declared.conversation.TerminalConversation.{TerminalConversation}
use Rattle.model_messages.specs.declared.replies.TerminalReplies.{TerminalReplies}
use Rattle.model_messages.specs.declared.ended_message.EndedMessage.{EndedMessage}
use Rattle.model_data.specs.declared.row.Row.{Row}
use Rattle.model_system.specs.System.{System}
use Rattle.model_machine.specs.Machine.{LastingState, Moment, content, message_at, output_at}
use Rattle.model_machine.specs.LastingSteps.{applied, finished_by, with_pad_changed, with_pad_by, without_message}
use Rattle.model_machine.specs.LastingSteps.LastingStep.{Completes, Discards}
use Rattle.model_image.specs.States.{has_right_pad}
use Rattle.log_records.specs.declared.record.Record.{Record}
use Rattle.log_records.specs.RecordSpelling.{record_spelling}
use Rattle.seg_store.specs.Slots.{Stored, rows_of_slots}
use Rattle.unit_work.specs.Images.{image_at, image_bytes_at, IsSlotOf}
use Rattle.system_types.specs.ValidSystem.{IsSystem}
use Rattle.image_law.specs.SoundState.{FitsRanges}
use Rattle.image_law.specs.StepNeeds.{has_receiver}
use Rattle.image_law.specs.StandingState.{StandsLasting}
use Rattle.image_law.proofs.Lists.{all_imply}
use Rattle.image_law.specs.SoundMachine.{StaysSound}
use Rattle.image_law.specs.SentMessages.{is_sent_well, sent_bytes}
use Rattle.image_law.proofs.Pads.{Changes}
use Rattle.image_law.proofs.Works.{origin_known}
use Rattle.image_law.proofs.Steps.{HasTerminals, all_keep, pad_fits, receives, there_by}
use Rattle.checkpointing.specs.SnapshotRecords.{IsOfSystem}
use Rattle.image_law.specs.SegmentCounts.{AreSegmentsCounted}
use Rattle.model_image.specs.StepRecords.{step_records}
use Rattle.disk_law.specs.CommittedBytes.{synced}
use Rattle.disk_law.specs.Life.{LifeOnDisk, SpellRows}
use Rattle.disk_law.proofs.Changing.{IsKnownSlot}
use Rattle.disk_law.specs.LifeSteps.{StepOnDisk, after_step}
use Rattle.disk_law.specs.LastingSteps.{MayComplete, MayDiscard, completing, discarding, unit_records}
use Rattle.disk_law.proofs.LastingSteps.{complete_step, discard_step}
use Rattle.disk_law.proofs.Stepping.{step_life}
use Rattle.journal.specs.UnspentCounts.{AreUnspent}
use Rattle.unit_work.specs.Marks.{is_marked}
use Rattle.program_rows.specs.OpenUnits.{HoldsAlone}
use Rattle.program_rows.specs.SlotsState.{SlotsState, HaveSlots, CommitsSo, GivesUpSo}
use Rattle.journal.specs.UnitNumbers.{AreUnitsNumbered, with_unit}
use Rattle.journal.specs.CarriedLife.{resource_of, HoldTouched, IsCarriedBy}
use Rattle.journal.specs.LifeByCall.{LifeStepsOn}
use Rattle.journal.proofs.Counting.{completes_fits, discards_fits}
use Rattle.journal.proofs.Ended.{put_so, marks_back, synced_so, held_committed, units_then, syncs_then}
use Rattle.journal.proofs.Inputs.{HasRoom, has_terminals, room_for, lasting_fits}
use Rattle.journal.proofs.Names.{of_system_behind, step_counted}
use Rattle.journal.proofs.Places.{bytes_of_place}
use Rattle.journal.proofs.Stores.{has_stores, few_sectors_of, stands_so, marked_so, stays_there}

module _ (system : System) (valid : IsSystem system) (n : ℕ) (moment after : Moment) (old new : SlotsState) (units : List ℕ) (next : ℕ) (life : LifeOnDisk)
    (c : IsCarriedBy system moment old units next life) (sound : StaysSound system after) (unspent : AreUnspent moment.lasting)
    (have : HaveSlots system.databases n old) (had : HaveSlots system.databases n new) (holds : HoldTouched moment.enqueues old)
    (unit region : ℕ) (least : 1 ≤ region) (found : slice_get units (region - 1) ≡ Some unit) (some : 0 < unit)
    (leave : (other d : ℕ) (image : List Row) → (other ≡ region → ⊥) → HoldsAlone moment.enqueues other (resource_of d image) → HoldsAlone after.enqueues other (resource_of d image))
    (number later : ℕ) (fresh : (number ≡ 0) ⊎ (next ≤ number)) (low : number < later) (more : next ≤ later) (numbers : AreUnitsNumbered after.slots (with_unit region number units) later)
    (id : ℕ) (message : Message) (at : message_at moment.lasting.messages id ≡ Some message) (its : message.id ≡ id) where
  names : HasTerminals system moment.lasting
  names = has_terminals system moment.lasting c.is.names

  fits_now : FitsRanges system moment.lasting
  fits_now = lasting_fits system moment.lasting life c.is.of_system c.is.lasts c.is.is_life

  there : (d s : ℕ) → IsSlotOf old.stores d s → IsSlotOf new.stores d s
  there d s is = stays_there system n n old new have had d s is

  known_there : (place number : ℕ) (dbd : Dbd) → slice_get system.databases place ≡ Some dbd → number < dbd.roots → IsKnownSlot system (place + 1) number
  known_there place number dbd found below = record { place = place; is = refl; dbd = dbd; found = found; below = below }

  of_system : (place : ℕ) (dbd : Dbd) → slice_get life.system.databases place ≡ Some dbd → slice_get system.databases place ≡ Some dbd
  of_system place dbd found = subst (λ (y : System). slice_get y.databases place ≡ Some dbd) c.is.of_system found

  has_room : content after.lasting ≤ system.qbytes
  has_room = omega (arith, sound.room)

  -- ---- a completion

  module _ (lines : List (List Row)) (outputs : List EndedMessage) (pad : PadChange) (behind_is : after.lasting ≡ applied (Completes id lines outputs pad) moment.lasting)
      (bytes : sent_bytes outputs ≤ 65536) (sends : list_all (is_sent_well system) outputs ≡ true) (flagged : Changes pad → message.conversation ≡ true)
      (commits : CommitsSo region old new) (rows_are : map (λ s. rows_of_slots s.slots) new.committed ≡ lines) where
    abbrev behind : LastingState
    behind = applied (Completes id lines outputs pad) moment.lasting

    right : list_all (has_right_pad system) behind.conversations ≡ true
    right = subst (λ (l : LastingState). list_all (has_right_pad system) l.conversations ≡ true) behind_is sound.stands.pads

    -- the pads behind it
    pads_are : behind.conversations ≡ with_pad_changed pad message.origin moment.lasting.conversations
    pads_are =
        ap (λ (o : Option Message). (finished_by o (λ _. outputs) (with_pad_by o (λ _. pad) (record moment.lasting { rows = lines }))).conversations) at
        ∙ all_keep message.origin outputs (record moment.lasting { rows = lines; conversations = with_pad_changed pad message.origin moment.lasting.conversations; messages = without_message moment.lasting.messages message.id })

    same_records : unit_records unit message outputs pad life ≡ step_records unit (Completes id lines outputs pad) moment.lasting
    same_records =
        (rw (c.is.lasts) refl)
        ∙ sym (ap (λ (o : Option Message). Rattle.model_image.specs.StepRecords.completed_by_step unit o outputs pad moment.lasting) at)

    spells : SpellRows life.system (synced unit life.touches life.committed) lines
    spells = record {
      stores = new.committed;
      databases = rw (c.is.of_system) had.committed;
      valid = had.valid_committed;
      bytes = λ place number dbd found_there below.
          synced_so system n moment.lasting moment.slots moment.enqueues after.enqueues old units next life c.is have holds unit region least found some new commits (place + 1) number
          (known_there place number dbd (of_system place dbd found_there) below)
          ∙ bytes_of_place new.committed place number;
      are = rows_are;
    }

    fits_so : FitsRanges system behind
    fits_so =
        completes_fits system moment.lasting fits_now unspent id lines outputs pad bytes (subst (StandsLasting system) behind_is sound.stands)
        (subst (λ (l : LastingState). content l ≤ system.qbytes) behind_is has_room)

    may_complete : HasRoom (step_records unit (Completes id lines outputs pad) moment.lasting) life → MayComplete unit message outputs pad lines life
    may_complete room = record {
      some = some;
      may = c.is.syncs.open_yet (region - 1) unit found some;
      found = rw (c.is.lasts) (ap (λ k. message_at moment.lasting.messages k) its ∙ at);
      receivers = rw (c.is.of_system, c.is.lasts)
          (all_imply (is_sent_well system) (has_receiver system moment.lasting.outputs) outputs (receives system valid moment names c.sound) sends);
      pad_fits = rw (c.is.of_system, c.is.lasts)
          (pad_fits system valid moment names c.sound pad message flagged (ap (λ (cs : List TerminalConversation). list_all (has_right_pad system) cs) (sym pads_are) ∙ right));
      fits = rw (c.is.of_system, c.is.lasts, its) fits_so;
      spells = spells;
      room = room_for (unit_records unit message outputs pad life) (step_records unit (Completes id lines outputs pad) moment.lasting) life same_records room;
    }

    lasts_so : applied (Completes message.id lines outputs pad) life.lasting ≡ after.lasting
    lasts_so = (rw (c.is.lasts, its) refl) ∙ sym behind_is

    -- The message is completed.
    pub complete_goes : HasRoom (step_records unit (Completes id lines outputs pad) moment.lasting) life
        → LifeStepsOn (flat_map record_spelling (step_records unit (Completes id lines outputs pad) moment.lasting)) system after new (with_unit region number units) later life
    complete_goes room =
        let step : StepOnDisk = completing unit message outputs pad lines life in
        let is = complete_step unit message outputs pad lines life c.is.is_life (may_complete room) in
        record {
          step = step;
          spelled = ap (λ (rs : List Record). flat_map record_spelling rs) (sym same_records);
          is_step = is;
          lasts = lasts_so;
          is = record {
            is = record {
              of_system = c.is.of_system;
              lasts = lasts_so;
              names = subst (λ (l : LastingState). IsOfSystem system l) (sym behind_is) (of_system_behind system (Completes id lines outputs pad) moment.lasting c.is.names);
              counted = subst (λ (l : LastingState). AreSegmentsCounted l) lasts_so (step_counted life step is (subst (λ (l : LastingState). AreSegmentsCounted l) (sym c.is.lasts) c.is.counted));
              is_life = step_life life c.is.is_life step is;
              stores = has_stores system n new had (few_sectors_of system valid) (after_step step life) c.is.of_system
                  (λ place number dbd found_there below.
                  stands_so system old life c.is.of_system c.is.stores (place + 1) number (known_there place number dbd found_there below)
                  ∙ ap (λ (stores : List Stored). image_bytes_at (place + 1) number stores) (sym commits.stores))
                  (λ place number dbd found_there below.
                  marked_so system old life c.is.of_system c.is.stores (place + 1) number (known_there place number dbd found_there below)
                  ∙ ap (λ (changed : List (List ℕ)). is_marked changed (place + 1) number) (sym commits.changed));
              committed = λ place number dbd found_there below.
                  synced_so system n moment.lasting moment.slots moment.enqueues after.enqueues old units next life c.is have holds unit region least found some new commits (place + 1) number
                  (known_there place number dbd found_there below);
              numbers = numbers;
              touched = units_then system n moment.lasting moment.slots moment.enqueues after.enqueues old units next life c.is have holds unit region least found some new there commits.touched leave
                  (held_committed system n moment.lasting moment.slots moment.enqueues after.enqueues old units next life c.is have holds unit region least found some new commits)
                  number later fresh low more;
              syncs = syncs_then system n moment.lasting moment.slots moment.enqueues after.enqueues old units next life c.is have holds unit region least found some new there commits.touched leave
                  (held_committed system n moment.lasting moment.slots moment.enqueues after.enqueues old units next life c.is have holds unit region least found some new commits)
                  number later fresh low more;
            };
            sound = sound;
          };
        }

  -- ---- an abend

  module _ (abend : AbendCode) (behind_is : after.lasting ≡ applied (Discards id abend) moment.lasting) (up : GivesUpSo region old new) where
    abbrev marks : ℕ → ℕ → Bool
    marks = λ d s. is_marked new.changed d s

    same_discard : Rattle.log_records.specs.declared.record.Record.TheVariants.Discarded unit message.id abend (Rattle.model_messages.specs.Outputs.next_of message.origin life.lasting.outputs) ∷ []
        ≡ step_records unit (Discards id abend) moment.lasting
    same_discard =
        (rw (c.is.lasts) refl)
        ∙ sym (ap (λ (o : Option Message). Rattle.model_image.specs.StepRecords.discarded_by unit o abend moment.lasting) at)

    origin_there : is_some (output_at moment.lasting.outputs message.origin) ≡ true
    origin_there =
        there_by (λ (t : TerminalReplies). t.terminal) moment.lasting.outputs message.origin
        ∙ ap (λ (ns : List (List ℕ)). list_any (λ other. bytes_eq other message.origin) ns) names.outputs
        ∙ origin_known system valid moment.lasting c.sound.stands id message at

    discard_fits_so : FitsRanges system (applied (Discards id abend) moment.lasting)
    discard_fits_so =
        discards_fits system moment.lasting fits_now unspent id abend (subst (StandsLasting system) behind_is sound.stands)
        (subst (λ (l : LastingState). content l ≤ system.qbytes) behind_is has_room)

    may_discard : HasRoom (step_records unit (Discards id abend) moment.lasting) life → MayDiscard unit message abend marks life
    may_discard room = record {
      found = rw (c.is.lasts) (ap (λ k. message_at moment.lasting.messages k) its ∙ at);
      origin = rw (c.is.lasts) origin_there;
      fits = rw (c.is.of_system, c.is.lasts, its) discard_fits_so;
      marks = marks_back system n moment.lasting moment.slots moment.enqueues after.enqueues old units next life c.is have holds unit region least found some new up;
      room = room_for _ (step_records unit (Discards id abend) moment.lasting) life same_discard room;
    }

    discard_lasts : applied (Discards message.id abend) life.lasting ≡ after.lasting
    discard_lasts = (rw (c.is.lasts, its) refl) ∙ sym behind_is

    committed_stays : (other d s : ℕ) → 1 ≤ other → (other ≡ region → ⊥) → 1 ≤ d → HoldsAlone moment.enqueues other (resource_of d (image_at d s old.committed)) → image_at d s new.committed ≡ image_at d s old.committed
    committed_stays other d s l apart p alone = ap (λ (stores : List Stored). image_at d s stores) up.committed

    -- The message is discarded.
    pub discard_goes : HasRoom (step_records unit (Discards id abend) moment.lasting) life
        → LifeStepsOn (flat_map record_spelling (step_records unit (Discards id abend) moment.lasting)) system after new (with_unit region number units) later life
    discard_goes room =
        let step : StepOnDisk = discarding unit message abend marks life in
        let is = discard_step unit message abend marks life c.is.is_life (may_discard room) in
        record {
          step = step;
          spelled = ap (λ (rs : List Record). flat_map record_spelling rs) (sym same_discard);
          is_step = is;
          lasts = discard_lasts;
          is = record {
            is = record {
              of_system = c.is.of_system;
              lasts = discard_lasts;
              names = subst (λ (l : LastingState). IsOfSystem system l) (sym behind_is) (of_system_behind system (Discards id abend) moment.lasting c.is.names);
              counted = subst (λ (l : LastingState). AreSegmentsCounted l) discard_lasts (step_counted life step is (subst (λ (l : LastingState). AreSegmentsCounted l) (sym c.is.lasts) c.is.counted));
              is_life = step_life life c.is.is_life step is;
              stores = has_stores system n new had (few_sectors_of system valid) (after_step step life) c.is.of_system
                  (λ place number dbd found_there below.
                  put_so system n moment.lasting moment.slots moment.enqueues after.enqueues old units next life c.is have holds unit region least found some new up (place + 1) number
                  (known_there place number dbd found_there below))
                  (λ place number dbd found_there below. refl);
              committed = λ place number dbd found_there below.
                  c.is.committed place number dbd found_there below ∙ ap (λ (stores : List Stored). image_bytes_at (place + 1) number stores) (sym up.committed);
              numbers = numbers;
              touched = units_then system n moment.lasting moment.slots moment.enqueues after.enqueues old units next life c.is have holds unit region least found some new there up.touched leave committed_stays number later fresh low more;
              syncs = syncs_then system n moment.lasting moment.slots moment.enqueues after.enqueues old units next life c.is have holds unit region least found some new there up.touched leave committed_stays number later fresh low more;
            };
            sound = sound;
          };
        }
