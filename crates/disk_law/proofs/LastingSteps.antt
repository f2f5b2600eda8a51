-- Each of the lasting steps has what a step needs.
use Rattle.std.proofs.Common.{◌≡◌, ◌⊎◌, inl, inr, ℕ, zero, suc, ◌+◌, ◌<◌, ◌≤◌, Bool, true, false, List, [], ◌∷◌, ◌++◌, length, take, refl, sym, ◌∙◌, ap, subst, arith, Some, None, IsSome}
use Rattle.std.specs.Prelude.{Option, if◌then◌else◌, ◌==◌, slice_get}
use Rattle.std.specs.List.{list_all}
use Rattle.std.specs.Option.{is_some, option_map_or}
use Rattle.std.proofs.lemmas.Bool.{eqb-true}
use Rattle.std.proofs.lemmas.List.{length-append, take-append-le}
use Rattle.tm_types.specs.declared.abend.AbendCode.{AbendCode}
use Rattle.tm_types.specs.declared.dbd.Dbd.{Dbd}
use Rattle.tm_types.specs.declared.command.LastingCommand.{LastingCommand}
use Rattle.tm_types.specs.declared.command.LastingCommand.TheVariants.{StartTransaction, StopTransaction, StartTerminal, StopTerminal, DequeueFirst, DequeueAll, Exit, AssignClass, AssignPriority}
use Rattle.tm_types.specs.declared.message.Message.{Message}
use Rattle.model_messages.specs.declared.conversation.PadChange.{PadChange}
use Rattle.model_messages.specs.declared.conversation.PadChange.TheVariants.{Stays, New, Ends}
use Rattle.model_messages.specs.declared.ended_message.EndedMessage.{EndedMessage}
use Rattle.model_messages.specs.Outputs.{next_of}
use Rattle.model_data.specs.declared.row.Row.{Row}
use Rattle.model_system.specs.System.{System}
use Rattle.model_machine.specs.Machine.{LastingState, empty_state, output_at}
use Rattle.model_machine.specs.LastingSteps.{LastingStep, applied, output_sent}
use Rattle.model_machine.specs.LastingSteps.LastingStep.{Accepts, Acknowledges, Completes, Discards, Commands}
use Rattle.log_records.specs.declared.record.Record.{Record}
use Rattle.log_records.specs.declared.record.Record.TheVariants.{Input, Reply, Discarded, Acknowledged, SyncPoint}
use Rattle.model_image.specs.Slots.{named_by}
use Rattle.model_image.specs.StepRecords.{output_record, completion_records}
use Rattle.model_image.specs.Replay.{replay_all}
use Rattle.image_law.specs.SoundState.{FitsRanges}
use Rattle.image_law.specs.StepNeeds.{EndsNoneWaiting, IsConversationFree, PadFits}
use Rattle.image_law.proofs.Replayed.{all_take}
use Rattle.image_law.proofs.Rows.{with_rows, at_rows, rows_aside}
use Rattle.image_law.proofs.Laws.{accept_replayed, acknowledge_replayed, command_replayed, abend_replayed, completion_replayed, front_waits}
use Rattle.disk_law.specs.CommittedBytes.{Touch, AreCommitted, without_touches, without_sync, synced}
use Rattle.disk_law.proofs.Slots.{ended_keeps, sync_keeps}
use Rattle.disk_law.specs.Life.{LifeOnDisk, IsLifeOnDisk, AreBeside, SpellRows, but_rows}
use Rattle.disk_law.specs.QuietRecords.{is_quiet_record}
use Rattle.disk_law.specs.LifeSteps.{done_to, Wait, IsTouchedByUnits, IsStep}
use Rattle.disk_law.specs.LastingSteps.{input_of, life_input_record, accepting, MayAccept, acknowledging, MayAcknowledge, command_record, commanding, MayCommand, discarding, MayDiscard, completing, MayComplete}
use Rattle.disk_law.proofs.Naming.{all_quiet_keep, named_stays}
use Rattle.disk_law.proofs.Changing.{touched_named, without_life}
use Rattle.tm_types.proofs.Truths.{both}

-- ---- rows stand aside

fits_aside : (system : System) (lines : List (List Row)) (lasting : LastingState) → FitsRanges system lasting → FitsRanges system (with_rows lines lasting)
fits_aside system lines lasting f = record { id = f.id; counted = f.counted; inputs = f.inputs; numbers = f.numbers; room = f.room }

fits_step : (system : System) (lines : List (List Row)) (step : LastingStep) (lasting : LastingState) → FitsRanges system (applied step lasting) → FitsRanges system (applied (at_rows lines step) (with_rows lines lasting))
fits_step system lines step lasting f = subst (FitsRanges system) (rows_aside lines step lasting) (fits_aside system lines (applied step lasting) f)

free_aside : (lines : List (List Row)) (terminal : List ℕ) (lasting : LastingState) → IsConversationFree terminal lasting → IsConversationFree terminal (with_rows lines lasting)
free_aside lines terminal lasting f = record { place = f.place; none = f.none }

pad_aside : (system : System) (lines : List (List Row)) (pad : PadChange) (message : Message) (lasting : LastingState) → PadFits system pad message lasting → PadFits system pad message (with_rows lines lasting)
pad_aside system lines Stays message lasting f = f
pad_aside system lines (New text) message lasting f = f
pad_aside system lines Ends message lasting f = f

ends_aside : (lines : List (List Row)) (command : LastingCommand) (lasting : LastingState) → EndsNoneWaiting command lasting → EndsNoneWaiting command (with_rows lines lasting)
ends_aside lines (StartTransaction code) lasting none = tt
ends_aside lines (StopTransaction code) lasting none = tt
ends_aside lines (StartTerminal terminal) lasting none = tt
ends_aside lines (StopTerminal terminal) lasting none = tt
ends_aside lines (DequeueFirst terminal) lasting none = tt
ends_aside lines (DequeueAll terminal) lasting none = tt
ends_aside lines (Exit terminal) lasting none = none
ends_aside lines (AssignClass code class) lasting none = tt
ends_aside lines (AssignPriority code priority) lasting none = tt

sent_aside : (lines : List (List Row)) (origin : List ℕ) (output : EndedMessage) (lasting : LastingState) (b : Bool) → is_some (output_at lasting.outputs output.to) ≡ b → output_sent origin output (with_rows lines lasting) ≡ with_rows lines (output_sent origin output lasting)
sent_aside lines origin output lasting true is = rw is refl
sent_aside lines origin output lasting false is = rw is refl

completion_aside : (lines : List (List Row)) (unit : ℕ) (origin : List ℕ) (id : ℕ) (outputs : List EndedMessage) (lasting : LastingState) → completion_records unit origin id outputs (with_rows lines lasting) ≡ completion_records unit origin id outputs lasting
completion_aside lines unit origin id [] lasting = refl
completion_aside lines unit origin id (output ∷ outputs) lasting =
    ap (λ (l : LastingState). output_record unit origin output lasting ∷ completion_records unit origin id outputs l) (sent_aside lines origin output lasting (is_some (output_at lasting.outputs output.to)) refl)
    ∙ ap (λ (rs : List Record). output_record unit origin output lasting ∷ rs) (completion_aside lines unit origin id outputs (output_sent origin output lasting))

-- a step that brings no rows leaves those that were
same_rows : (step : LastingStep) (lasting : LastingState) → at_rows lasting.rows step ≡ step → (applied step lasting).rows ≡ lasting.rows
same_rows step lasting is =
    sym (ap (λ (l : LastingState). l.rows) (rows_aside lasting.rows step lasting ∙ ap (λ (s : LastingStep). applied s lasting) is))

-- what lasts with a step, but for the rows
step_aside : (system : System) (step : LastingStep) (lasting : LastingState) → Some (done_to system (applied step lasting)) ≡ Some (record { lasting = applied (at_rows (empty_state system).rows step) (but_rows system lasting); waiting = [] })
step_aside system step lasting = ap (λ (l : LastingState). Some (record { lasting = l; waiting = [] })) (rows_aside (empty_state system).rows step lasting)

-- ---- one record

one_quiet : (r : Record) (n : ℕ) → n < length (r ∷ []) → list_all is_quiet_record (take n (r ∷ [])) ≡ true
one_quiet r zero short = refl
one_quiet r (suc n) short = absurd (omega (arith, short))

one_waits : (system : System) (lasting : LastingState) (r : Record) (n : ℕ) → n < length (r ∷ []) → Wait system lasting (take n (r ∷ []))
one_waits system lasting r zero short = record { waiting = []; is = refl }
one_waits system lasting r (suc n) short = absurd (omega (arith, short))

module _ (terminal : List ℕ) (number : ℕ) (segments : List (List ℕ)) (life : LifeOnDisk) (l : IsLifeOnDisk life) (may : MayAccept terminal number segments life) where
  abbrev lines_a : List (List Row)
  lines_a = (empty_state life.system).rows

  -- an input is accepted
  pub accept_step : IsStep life (accepting terminal number segments life)
  accept_step = record {
    room = may.room;
    quiet = one_quiet (life_input_record terminal number segments life);
    wait = one_waits life.system life.lasting (life_input_record terminal number segments life);
    leads =
        accept_replayed life.system (but_rows life.system life.lasting) [] l.sound may.pads terminal number segments may.state may.found may.next may.known
        (free_aside lines_a terminal life.lasting may.free) may.to_code (fits_step life.system lines_a (Accepts terminal number (input_of terminal segments life)) life.lasting may.fits)
        ∙ sym (step_aside life.system (Accepts terminal number (input_of terminal segments life)) life.lasting);
    carries = λ snapshot log c. all_quiet_keep snapshot life.may_sync life.touches life.committed log (life_input_record terminal number segments life ∷ []) refl c;
    others = λ snapshot log c d s none. refl;
    rows = l.rows;
    slots = l.slots;
    same = λ place number dbd found below is. (is, refl);
    only = λ place number dbd found below is. inl is;
  }

module _ (terminal : List ℕ) (number : ℕ) (life : LifeOnDisk) (l : IsLifeOnDisk life) (may : MayAcknowledge terminal number life) where
  abbrev lines_b : List (List Row)
  lines_b = (empty_state life.system).rows

  -- a reply is acknowledged
  pub acknowledge_step : IsStep life (acknowledging terminal number life)
  acknowledge_step = record {
    room = may.room;
    quiet = one_quiet (Acknowledged terminal number);
    wait = one_waits life.system life.lasting (Acknowledged terminal number);
    leads =
        ap (λ n. replay_all life.system (Acknowledged terminal n ∷ []) (done_to life.system life.lasting)) (sym may.same)
        ∙ acknowledge_replayed life.system (but_rows life.system life.lasting) [] l.sound terminal may.reply may.found may.known (fits_step life.system lines_b (Acknowledges terminal) life.lasting may.fits)
        ∙ sym (step_aside life.system (Acknowledges terminal) life.lasting);
    carries = λ snapshot log c. all_quiet_keep snapshot life.may_sync life.touches life.committed log (Acknowledged terminal number ∷ []) refl c;
    others = λ snapshot log c d s none. refl;
    rows = l.rows;
    slots = l.slots;
    same = λ place number dbd found below is. (is, refl);
    only = λ place number dbd found below is. inl is;
  }

module _ (command : LastingCommand) (life : LifeOnDisk) (l : IsLifeOnDisk life) (may : MayCommand command life) where
  abbrev lines_e : List (List Row)
  lines_e = (empty_state life.system).rows

  -- a command is done
  pub command_step : IsStep life (commanding command life)
  command_step = record {
    room = may.room;
    quiet = one_quiet (command_record command);
    wait = one_waits life.system life.lasting (command_record command);
    leads =
        command_replayed life.system (but_rows life.system life.lasting) [] l.sound command may.named may.known (ends_aside lines_e command life.lasting may.none)
        (fits_step life.system lines_e (Commands command) life.lasting may.fits)
        ∙ sym (step_aside life.system (Commands command) life.lasting);
    carries = λ snapshot log c. all_quiet_keep snapshot life.may_sync life.touches life.committed log (command_record command ∷ []) refl c;
    others = λ snapshot log c d s none. refl;
    rows = subst (SpellRows life.system life.committed) (sym (same_rows (Commands command) life.lasting refl)) l.rows;
    slots = l.slots;
    same = λ place number dbd found below is. (is, refl);
    only = λ place number dbd found below is. inl is;
  }

module _ (unit : ℕ) (message : Message) (abend : AbendCode) (changed : ℕ → ℕ → Bool) (life : LifeOnDisk) (l : IsLifeOnDisk life) (may : MayDiscard unit message abend changed life) where
  abbrev lines_c : List (List Row)
  lines_c = (empty_state life.system).rows

  abbrev its_discard : Record
  its_discard = Discarded unit message.id abend (next_of message.origin life.lasting.outputs)

  changed_or_touched : (place number : ℕ) (dbd : Dbd) → slice_get life.system.databases place ≡ Some dbd → number < dbd.roots → changed (place + 1) number ≡ true → (o : Option Touch) → life.touches unit (place + 1) number ≡ o →
      (life.changed (place + 1) number ≡ true) ⊎ IsTouchedByUnits life.touches (place + 1) number
  changed_or_touched place number dbd found below is None none = inl (may.marks.only place number dbd found below is none)
  changed_or_touched place number dbd found below is (Some t) there = inr (record { unit = unit; touch = t; is = there })

  -- a message is discarded
  pub discard_step : IsStep life (discarding unit message abend changed life)
  discard_step = record {
    room = may.room;
    quiet = one_quiet its_discard;
    wait = one_waits life.system life.lasting its_discard;
    leads =
        abend_replayed life.system (but_rows life.system life.lasting) [] l.sound message.id message may.found unit abend may.origin (fits_step life.system lines_c (Discards message.id abend) life.lasting may.fits)
        ∙ sym (step_aside life.system (Discards message.id abend) life.lasting);
    carries = λ snapshot log c.
        ended_keeps snapshot (log ++ its_discard ∷ []) life.may_sync life.touches life.committed
        (all_quiet_keep snapshot life.may_sync life.touches life.committed log (its_discard ∷ []) refl c) unit;
    others = λ snapshot log c d s none. refl;
    rows = subst (SpellRows life.system life.committed) (sym (same_rows (Discards message.id abend) life.lasting refl)) l.rows;
    slots = (without_life unit changed life l may.marks).slots;
    same = may.marks.same;
    only = λ place number dbd found below is. changed_or_touched place number dbd found below is (life.touches unit (place + 1) number) refl;
  }

-- ---- a completion

module _ (unit : ℕ) (message : Message) (outputs : List EndedMessage) (pad : PadChange) (lines : List (List Row)) (life : LifeOnDisk) (l : IsLifeOnDisk life) (may : MayComplete unit message outputs pad lines life) where
  abbrev lines_d : List (List Row)
  lines_d = (empty_state life.system).rows

  abbrev before_sync : List Record
  before_sync = completion_records unit message.origin message.id outputs life.lasting

  abbrev its_sync : Record
  its_sync = SyncPoint unit pad

  output_quiet : (b : Bool) (output : EndedMessage) (lasting : LastingState) →
      is_quiet_record (if b then Reply unit output.to (next_of output.to lasting.outputs) output.segments else Input unit lasting.next_id message.origin output.to 0 false output.segments) ≡ true
  output_quiet true output lasting = refl
  output_quiet false output lasting = refl

  all_quiet : (outputs : List EndedMessage) (lasting : LastingState) → list_all is_quiet_record (completion_records unit message.origin message.id outputs lasting) ≡ true
  all_quiet [] lasting = refl
  all_quiet (output ∷ outputs) lasting =
      both (is_quiet_record (output_record unit message.origin output lasting)) (list_all is_quiet_record (completion_records unit message.origin message.id outputs (output_sent message.origin output lasting)))
      (output_quiet (is_some (output_at lasting.outputs output.to)) output lasting) (all_quiet outputs (output_sent message.origin output lasting))

  few : (n : ℕ) → n < length (before_sync ++ its_sync ∷ []) → n ≤ length before_sync
  few n short = omega (arith, short, length-append before_sync (its_sync ∷ []))

  front_is : (n : ℕ) → n < length (before_sync ++ its_sync ∷ []) → take n (before_sync ++ its_sync ∷ []) ≡ take n before_sync
  front_is n short = take-append-le n before_sync (its_sync ∷ []) (few n short)

  aside : completion_records unit message.origin message.id outputs (but_rows life.system life.lasting) ≡ before_sync
  aside = completion_aside lines_d unit message.origin message.id outputs life.lasting

  waits_so : (n : ℕ) → n < length (before_sync ++ its_sync ∷ []) → Wait life.system life.lasting (take n (before_sync ++ its_sync ∷ []))
  waits_so n short = record {
    waiting = take n (completion_records unit message.origin message.id outputs (but_rows life.system life.lasting));
    is =
        ap (λ (rs : List Record). replay_all life.system rs (done_to life.system life.lasting)) (front_is n short ∙ ap (λ (rs : List Record). take n rs) (sym aside))
        ∙ front_waits life.system (but_rows life.system life.lasting) [] l.sound message.id message may.found outputs may.receivers unit may.some n;
  }

  leads_so : replay_all life.system (before_sync ++ its_sync ∷ []) (done_to life.system life.lasting) ≡ Some (done_to life.system (applied (Completes message.id lines outputs pad) life.lasting))
  leads_so =
      ap (λ (rs : List Record). replay_all life.system (rs ++ its_sync ∷ []) (done_to life.system life.lasting)) (sym aside)
      ∙ completion_replayed life.system (but_rows life.system life.lasting) [] l.sound message.id message may.found outputs may.receivers unit may.some pad
      (pad_aside life.system lines_d pad message life.lasting may.pad_fits) refl (fits_step life.system lines_d (Completes message.id lines outputs pad) life.lasting may.fits)
      ∙ sym (step_aside life.system (Completes message.id lines outputs pad) life.lasting)

  carries_so : (snapshot log : List Record) → AreCommitted snapshot log life.may_sync life.touches life.committed →
      AreCommitted snapshot (log ++ (before_sync ++ its_sync ∷ [])) (without_sync unit life.may_sync) (without_touches unit life.touches) (synced unit life.touches life.committed)
  carries_so snapshot log c =
      subst (λ (rs : List Record). AreCommitted snapshot rs (without_sync unit life.may_sync) (without_touches unit life.touches) (synced unit life.touches life.committed))
      (Rattle.std.proofs.Common.append_assoc log before_sync (its_sync ∷ []))
      (sync_keeps (log ++ before_sync) unit pad snapshot life.may_sync life.touches life.committed
      (all_quiet_keep snapshot life.may_sync life.touches life.committed log before_sync (all_quiet outputs life.lasting) c) may.may)

  not_none : (o : Option (List ℕ)) → o ≡ None → IsSome o → ⊥
  not_none None e some = cc
  not_none (Some x) e some = cc

  others_so : (snapshot log : List Record) → AreCommitted snapshot log life.may_sync life.touches life.committed → (d s : ℕ) → named_by snapshot (log ++ (before_sync ++ its_sync ∷ [])) d s ≡ None → (o : Option Touch) → life.touches unit d s ≡ o →
      option_map_or (λ t. t.present) o (life.committed d s) ≡ life.committed d s
  others_so snapshot log c d s none None is = refl
  others_so snapshot log c d s none (Some t) is =
      absurd (not_none (named_by snapshot (log ++ (before_sync ++ its_sync ∷ [])) d s) none
      (named_stays snapshot log (before_sync ++ its_sync ∷ []) d s (touched_named snapshot log life.may_sync life.touches life.committed c unit d s t is)))

  still : (one d s : ℕ) (t : Touch) (b : Bool) → (if b then None else life.touches one d s) ≡ Some t → life.touches one d s ≡ Some t
  still one d s t true is = cc
  still one d s t false is = is

  -- a slot that another unit touched isn't committed anew
  other_first : (one d s : ℕ) (t : Touch) (b : Bool) → one == unit ≡ b → (if b then None else life.touches one d s) ≡ Some t → (o : Option Touch) → life.touches unit d s ≡ o → option_map_or (λ x. x.present) o (life.committed d s) ≡ life.committed d s
  other_first one d s t true same is o there = cc
  other_first one d s t false apart is None there = refl
  other_first one d s t false apart is (Some x) there =
      let same : one == unit ≡ true = Rattle.std.proofs.lemmas.Bool.eq-eqb one unit (l.slots.apart one unit d s t x is there) in
      let clash : true ≡ false = sym same ∙ apart in cc

  none_other : (d s : ℕ) → ((one : ℕ) → (if one == unit then None else life.touches one d s) ≡ None) → life.touches unit d s ≡ None → (one : ℕ) → life.touches one d s ≡ None
  none_other d s none its one = by_unit (one == unit) refl (none one) where
    by_unit : (b : Bool) → one == unit ≡ b → (if b then None else life.touches one d s) ≡ None → life.touches one d s ≡ None
    by_unit true is e = ap (λ u. life.touches u d s) (eqb-true one unit is) ∙ its
    by_unit false is e = e

  stands_so : (place number : ℕ) (dbd : Dbd) → slice_get life.system.databases place ≡ Some dbd → number < dbd.roots → ((one : ℕ) → (if one == unit then None else life.touches one (place + 1) number) ≡ None) → (o : Option Touch) → life.touches unit (place + 1) number ≡ o →
      option_map_or (λ t. t.present) o (life.committed (place + 1) number) ≡ life.present (place + 1) number
  stands_so place number dbd found below none (Some t) is = l.slots.touched unit (place + 1) number t is
  stands_so place number dbd found below none None is = l.slots.untouched place number dbd found below (none_other (place + 1) number none is)

  slots_so : AreBeside life.system (without_touches unit life.touches) (synced unit life.touches life.committed) life.present
  slots_so = record {
    firsts = λ one d s t is. l.slots.firsts one d s t (still one d s t (one == unit) is) ∙ sym (other_first one d s t (one == unit) refl is (life.touches unit d s) refl);
    apart = λ one other d s t u first second. l.slots.apart one other d s t u (still one d s t (one == unit) first) (still other d s u (other == unit) second);
    touched = λ one d s t is. l.slots.touched one d s t (still one d s t (one == unit) is);
    untouched = λ place number dbd found below none. stands_so place number dbd found below none (life.touches unit (place + 1) number) refl;
  }

  completed_rows : (applied (Completes message.id lines outputs pad) life.lasting).rows ≡ lines
  completed_rows = sym (ap (λ (x : LastingState). x.rows) (rows_aside lines (Completes message.id lines outputs pad) life.lasting))

  -- a message is completed
  pub complete_step : IsStep life (completing unit message outputs pad lines life)
  complete_step = record {
    room = may.room;
    quiet = λ n short. ap (λ (rs : List Record). list_all is_quiet_record rs) (front_is n short) ∙ all_take is_quiet_record n before_sync (all_quiet outputs life.lasting);
    wait = waits_so;
    leads = leads_so;
    carries = carries_so;
    others = λ snapshot log c d s none. others_so snapshot log c d s none (life.touches unit d s) refl;
    rows = subst (SpellRows life.system (synced unit life.touches life.committed)) (sym completed_rows) may.spells;
    slots = slots_so;
    same = λ place number dbd found below is. (is, refl);
    only = λ place number dbd found below is. inl is;
  }
