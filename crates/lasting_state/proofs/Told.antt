-- What is told of a step: its records, by the queues' own look-up.
use Rattle.std.proofs.Common.{◌≡◌, ℕ, ◌+◌, List, [], ◌∷◌, ◌++◌, length, take, refl, sym, ap, ◌∙◌, subst, Some, arith}
use Rattle.std.specs.Prelude.{Bool, true, false, Option, None, Result, Ok, Err, IfErr, ◌==◌, ◌&&◌, nat_lt, if◌then◌else◌, slice_get}
use Rattle.std.specs.Option.{option_map_or, is_some}
use Rattle.std.proofs.lemmas.Bool.{false≢true, eqb-true, eq-eqb, le-ltb}
use Rattle.std.proofs.Math.Seq.{take-append_seam}
use Rattle.tm_types.specs.declared.message.Message.{Message}
use Rattle.tm_types.specs.declared.abend.AbendCode.{AbendCode}
use Rattle.model_messages.specs.declared.conversation.PadChange.{PadChange}
use Rattle.model_data.specs.declared.row.Row.{Row}
use Rattle.model_messages.specs.Queue.{queued_message}
use Rattle.tm_types.specs.declared.message.Reply.{Reply}
use Rattle.model_messages.specs.declared.replies.TerminalReplies.{TerminalReplies}
use Rattle.model_messages.specs.Outputs.{first_number, next_of}
use Rattle.model_messages.proofs.Laws.{found_message, message_found}
use Rattle.model_messages.specs.declared.ended_message.EndedMessage.{EndedMessage}
use Rattle.model_machine.specs.declared.lasting.CodeSetting.{CodeSetting}
use Rattle.model_machine.specs.declared.entry.Acked.{Acked}
use Rattle.model_machine.specs.declared.entry.Acked.TheVariants.{Removed, Already}
use Rattle.model_machine.specs.declared.entry.AckRefused.{AckRefused}
use Rattle.model_machine.specs.declared.entry.AckRefused.TheVariants.{Unknown, Ahead, Fault}
use Rattle.model_machine.specs.declared.entry.ControlFault.{ControlFault}
use Rattle.model_machine.specs.Machine.{LastingState, output_at}
use Rattle.model_machine.specs.MachineCalls.{ack_by}
use Rattle.model_machine.specs.LastingSteps.{LastingStep}
use Rattle.model_machine.specs.LastingSteps.LastingStep.{Acknowledges, Completes, Discards}
use Rattle.log_records.specs.declared.record.Record.{Record}
use Rattle.log_records.specs.declared.record.Record.TheVariants.{Acknowledged, Discarded, SyncPoint}
use Rattle.log_records.specs.ToldRecords.{spelled_records, AreRecordsUntold, TellsInRoom as RecordsTell}
use Rattle.log_records.specs.declared.untold.Untold.{Untold}
use Rattle.log_records.specs.declared.untold.Untold.TheVariants.{Memory, Full}
use Rattle.model_image.specs.StepRecords.{completion_records, completed_by_step, discarded_by, step_records}
use Rattle.lasting_state.specs.UntoldSteps.{WhereFull}
use Rattle.lasting_state.specs.Tables.{TablesState, lasting_of}
use Rattle.lasting_state.specs.ToldSteps.{AreRecordsLonger, TellsStep, TellsAcknowledged, is_first_of, removes_by}

-- what is told of a step's records, whatever the settings of the codes are
module _ (unit room : ℕ) (step : LastingStep) (old : TablesState) where
  pub tells : (before after : List ℕ) → ((settings : List CodeSetting) → RecordsTell (step_records unit step (lasting_of settings old)) room before after) → TellsStep unit room step old before after
  tells before after h = record {
    told = λ settings. (h settings).told;
    valid = λ settings. (h settings).valid;
    fits = λ settings. (h settings).fits;
  }

  pub longer : (error : Untold) → ((settings : List CodeSetting) → AreRecordsUntold (step_records unit step (lasting_of settings old)) room error) → WhereFull (AreRecordsLonger unit room step old) error
  longer Memory h = tt
  longer Full h = h

pub completion_are : (unit : ℕ) (old : TablesState) (id : ℕ) (outputs : List EndedMessage) (pad : PadChange) (message : Message) → Some message ≡ queued_message id old.queues.queued
    → (rows : List (List Row)) (settings : List CodeSetting)
    → completion_records unit message.origin id outputs (lasting_of settings old) ++ SyncPoint unit pad ∷ [] ≡ step_records unit (Completes id rows outputs pad) (lasting_of settings old)
completion_are unit old id outputs pad message found rows settings =
    let lasting : LastingState = lasting_of settings old in
    ap (λ i. completion_records unit message.origin i outputs lasting ++ SyncPoint unit pad ∷ []) (sym (found_message id old.queues.queued message (sym found)))
    ∙ ap (λ m. completed_by_step unit m outputs pad lasting) (found ∙ sym (message_found id old.queues.queued))

pub discarding_are : (unit : ℕ) (old : TablesState) (id : ℕ) (abend : AbendCode) (message : Message) (number : ℕ) → Some message ≡ queued_message id old.queues.queued → number ≡ next_of message.origin old.outputs
    → (settings : List CodeSetting) → Discarded unit id abend number ∷ [] ≡ step_records unit (Discards id abend) (lasting_of settings old)
discarding_are unit old id abend message number found numbered settings =
    let lasting : LastingState = lasting_of settings old in
    ap (λ n. Discarded unit id abend n ∷ []) numbered
    ∙ ap (λ i. Discarded unit i abend (next_of message.origin old.outputs) ∷ []) (sym (found_message id old.queues.queued message (sym found)))
    ∙ ap (λ m. discarded_by unit m abend lasting) (found ∙ sym (message_found id old.queues.queued))

-- what is so where there is no room
pub where_full : {P Q : Type 0} (error : Untold) → (P → Q) → WhereFull P error → WhereFull Q error
where_full Memory f h = tt
where_full Full f h = f h

-- what is so of the error is so of a result that is this error
pub err_is : {A : Type 0} (P : Untold → Type 0) (result : Result A Untold) (error : Untold) → result ≡ Err error → P error → IfErr result P
err_is P result error is h = subst (λ r. IfErr r P) (sym is) h

-- what is cut back to what was there
pub cut_back : (records : List Record) (room start : ℕ) (before told after : List ℕ) → RecordsTell records room before told → start ≡ length before → after ≡ take start told → after ≡ before
cut_back records room start before told after h at cut =
    cut ∙ (ap (λ n. take n told) at ∙ (ap (take (length before)) h.told ∙ take-append_seam before (spelled_records records)))

-- ---- acknowledgements

acked_by : (kept : TerminalReplies) (number : ℕ) (first : Option Reply) → slice_get kept.replies 0 ≡ first → is_first_of number first ≡ true
    → (ack_by (Some kept) number ≡ Ok Removed) × (first_number kept ≡ number)
acked_by kept number None e f = let clash : false ≡ true = f in absurd (cc)
acked_by kept number (Some reply) e f =
    let same : reply.number ≡ number = eqb-true reply.number number f in
    let first : first_number kept ≡ number = ap (λ o. option_map_or (λ (r : Reply). r.number) o kept.next) e ∙ same in (
      ap (λ n. if nat_lt number n then Ok Already else (if (number == n) && is_some (slice_get kept.replies 0) then Ok Removed else Err (Ahead n))) first
          ∙ ap (λ b. if b then Ok Already else (if (number == number) && is_some (slice_get kept.replies 0) then Ok Removed else Err (Ahead number))) (le-ltb number number (omega arith))
          ∙ ap (λ b. if b && is_some (slice_get kept.replies 0) then Ok Removed else Err (Ahead number)) (eq-eqb number number refl)
          ∙ ap (λ o. if is_some o then Ok Removed else Err (Ahead number)) e,
      first,
    )

pub removes_so : (outputs : Option TerminalReplies) (number : ℕ) → removes_by outputs number ≡ true → (ack_by outputs number ≡ Ok Removed) × (option_map_or first_number outputs 1 ≡ number)
removes_so None number f = let clash : false ≡ true = f in absurd (cc)
removes_so (Some kept) number f = acked_by kept number (slice_get kept.replies 0) refl f

pub acknowledged_are : (old : TablesState) (terminal : List ℕ) (number : ℕ) → removes_by (output_at old.outputs terminal) number ≡ true
    → (settings : List CodeSetting) → Acknowledged terminal number ∷ [] ≡ step_records 0 (Acknowledges terminal) (lasting_of settings old)
acknowledged_are old terminal number removes settings = ap (λ n. Acknowledged terminal n ∷ []) (sym (removes_so (output_at old.outputs terminal) number removes).1)

-- an answer by which nothing is removed tells nothing
not_removed : (outputs : Option TerminalReplies) (number : ℕ) → removes_by outputs number ≡ false → ack_by outputs number ≡ Ok Removed → ⊥
not_removed None number f e = let clash : Err Unknown ≡ Ok Removed = e in cc
not_removed (Some kept) number f e = by (nat_lt number (first_number kept)) (number == first_number kept) refl (slice_get kept.replies 0) refl e
  where
    by : (less same : Bool) → (number == first_number kept) ≡ same → (first : Option Reply) → slice_get kept.replies 0 ≡ first
        → (if less then Ok Already else (if same && is_some (slice_get kept.replies 0) then Ok Removed else Err (Ahead (first_number kept)))) ≡ Ok Removed → ⊥
    by true same q first g h = cc
    by false false q first g h = cc
    by false true q None g h =
        let clash : Err (Ahead (first_number kept)) ≡ Ok Removed = sym (ap (λ o. if is_some o then Ok Removed else Err (Ahead (first_number kept))) g) ∙ h in
        cc
    by false true q (Some reply) g h =
        let number_is : number ≡ first_number kept = eqb-true number (first_number kept) q in
        let first_is : first_number kept ≡ reply.number = ap (λ o. option_map_or (λ (r : Reply). r.number) o kept.next) g in
        false≢true (sym f ∙ (ap (is_first_of number) g ∙ eq-eqb reply.number number (sym (number_is ∙ first_is))))

-- no fault is answered
no_fault : (outputs : Option TerminalReplies) (number : ℕ) (fault : ControlFault) → ack_by outputs number ≡ Err (Fault fault) → ⊥
no_fault None number fault e = let clash : Err Unknown ≡ Err (Fault fault) = e in cc
no_fault (Some kept) number fault e = by (nat_lt number (first_number kept)) ((number == first_number kept) && is_some (slice_get kept.replies 0)) e
  where
    by : (less same : Bool) → (if less then Ok Already else (if same then Ok Removed else Err (Ahead (first_number kept)))) ≡ Err (Fault fault) → ⊥
    by true same h = cc
    by false true h = cc
    by false false h = cc

pub declined_told : (old : TablesState) (terminal : List ℕ) (number room : ℕ) (told : List ℕ) (answer : Result Acked AckRefused) → removes_by (output_at old.outputs terminal) number ≡ false
    → answer ≡ ack_by (output_at old.outputs terminal) number → TellsAcknowledged old terminal room told told answer
declined_told old terminal number room told (Ok Removed) none e = absurd (not_removed (output_at old.outputs terminal) number none (sym e))
declined_told old terminal number room told (Ok Already) none e = refl
declined_told old terminal number room told (Err Unknown) none e = refl
declined_told old terminal number room told (Err (Ahead first)) none e = refl
declined_told old terminal number room told (Err (Fault fault)) none e = no_fault (output_at old.outputs terminal) number fault (sym e)

pub removed_told : (old : TablesState) (terminal : List ℕ) (number room : ℕ) (told now : List ℕ) (answer : Result Acked AckRefused) → removes_by (output_at old.outputs terminal) number ≡ true
    → answer ≡ ack_by (output_at old.outputs terminal) number → TellsStep 0 room (Acknowledges terminal) old told now → TellsAcknowledged old terminal room told now answer
removed_told old terminal number room told now answer removes e t =
    subst (TellsAcknowledged old terminal room told now) (sym (e ∙ (removes_so (output_at old.outputs terminal) number removes).0)) t
