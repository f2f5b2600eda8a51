-- What the work on a slot's message sends.
use Rattle.std.proofs.Common.{◌≡◌, ℕ, ◌+◌, ◌≤◌, Bool, true, false, ◌&&◌, List, [], ◌∷◌, ◌++◌, length, length-append, Option, Some, None, refl, sym, subst, arith}
use Rattle.std.specs.Prelude.{codes, if◌then◌else◌, ◌==◌}
use Rattle.std.specs.List.{list_all}
use Rattle.std.specs.Option.{is_some, option_and_then}
use Rattle.std.specs.Str.{bytes_eq}
use Rattle.std.proofs.lemmas.List.Sums.{sum_by-cons}
use Rattle.tm_types.specs.Digits.{four_digits}
use Rattle.tm_types.specs.Segment.{segment_length}
use Rattle.tm_types.specs.declared.abend.AbendCode.{AbendCode}
use Rattle.tm_types.specs.declared.message.Message.{Message}
use Rattle.model_system.specs.declared.code.Code.{Code}
use Rattle.model_system.specs.Codes.{code_at}
use Rattle.model_system.specs.Jobs.{Job, job_of}
use Rattle.model_system.specs.System.{System}
use Rattle.model_image.specs.States.{is_system_code, is_message_known, is_system_terminal}
use Rattle.model_machine.specs.LastingSteps.{abend_outputs, dfs555i_text}
use Rattle.model_machine.specs.Machine.{LastingState, Slot, message_at}
use Rattle.model_machine.specs.MachineCalls.{AtWork, slot_work, work_by}
use Rattle.model_machine.specs.Trial.{Trial, outputs_of, pad_of, trial_of}
use Rattle.model_messages.specs.declared.conversation.Conversation.{Conversation}
use Rattle.model_messages.specs.Terminals.{conversation_at}
use Rattle.image_law.proofs.Pads.{Changes, pad_in_conversation}
use Rattle.model_machine.specs.WorkSoFar.{given_now, slot_trial}
use Rattle.system_types.specs.Definitions.{IsTransaction}
use Rattle.system_types.specs.ValidSystem.{IsSystem}
use Rattle.image_law.proofs.Bools.{first_of, same_bytes}
use Rattle.image_law.proofs.Lists.{found_passes}
use Rattle.image_law.specs.StandingState.{StandsLasting}
use Rattle.image_law.specs.SentMessages.{is_receiver, is_sent_well, sent_bytes, ended_bytes}
use Rattle.image_law.proofs.Calls.{has_name, or_left}
use Rattle.image_law.proofs.Jobs.{found_holds, job_found}
use Rattle.image_law.proofs.Trials.{outputs_fit, outputs_go}

-- its bytes have the room of a slot, its outputs go to receivers, and it changes a pad only in a conversation
pub record SendsWell (system : System) (lasting : LastingState) (id : ℕ) (trial : Trial) : Type 0 where
  pub bytes : sent_bytes (outputs_of trial) ≤ 65536
  pub receivers : list_all (is_sent_well system) (outputs_of trial) ≡ true
  pub flagged : (message : Message) → message_at lasting.messages id ≡ Some message → Changes (pad_of trial) → message.conversation ≡ true

flag_by : (flag : Bool) (c : Option Conversation) → is_some (if flag then c else None) ≡ true → flag ≡ true
flag_by true c h = refl
flag_by false c h = cc

module _ (system : System) (valid : IsSystem system) (lasting : LastingState) (s : StandsLasting system lasting) where
  pub origin_known : (id : ℕ) (message : Message) → message_at lasting.messages id ≡ Some message → is_system_terminal system message.origin ≡ true
  origin_known id message found =
      first_of (is_system_terminal system message.origin) (is_system_code system message.code)
      (first_of (is_system_terminal system message.origin && is_system_code system message.code) _ (found_passes (is_message_known system lasting) (λ m. m.id == id) lasting.messages message s.known found))

  trial_sends : (slot : Slot) (trial : Trial) → slot_trial system lasting slot ≡ Some trial → SendsWell system lasting slot.id trial
  trial_sends slot trial e = by_job (job_of system slot.code) refl e where
    by_message : (job : Job) → job_of system slot.code ≡ Some job → (found : Option Message) → message_at lasting.messages slot.id ≡ found
        → option_and_then (λ message. trial_of job lasting.rows (given_now lasting message) slot.calls) found ≡ Some trial → SendsWell system lasting slot.id trial
    by_message job f None g h = cc
    by_message job f (Some message) g h =
        let its = job_found system slot.code job valid f in
        let from : is_receiver job.system message.origin ≡ true =
        subst (λ (y : System). is_receiver y message.origin ≡ true) (sym its.same) (or_left (is_system_terminal system message.origin) _ (origin_known slot.id message g)) in
        record {
          bytes = outputs_fit job its.is_job lasting.rows (given_now lasting message) from slot.calls trial h;
          receivers = subst (λ (y : System). list_all (is_sent_well y) (outputs_of trial) ≡ true) its.same (outputs_go job its.is_job lasting.rows (given_now lasting message) from slot.calls trial h);
          flagged = λ other found changes.
              let same : message ≡ other = cc in
              subst (λ (m : Message). m.conversation ≡ true) same
              (flag_by message.conversation (conversation_at message.origin lasting.conversations) (pad_in_conversation job lasting.rows (given_now lasting message) slot.calls trial h changes));
        }

    by_job : (found : Option Job) → job_of system slot.code ≡ found
        → option_and_then (λ job. option_and_then (λ message. trial_of job lasting.rows (given_now lasting message) slot.calls) (message_at lasting.messages slot.id)) found ≡ Some trial → SendsWell system lasting slot.id trial
    by_job None f g = cc
    by_job (Some job) f g = by_message job f (message_at lasting.messages slot.id) refl g

  pub work_sends : (slot : Slot) (work : AtWork) → slot_work system lasting slot ≡ Some work → SendsWell system lasting slot.id work.trial
  work_sends slot work e = by_job (job_of system slot.code) e where
    by_trial : (job : Job) (found : Option Trial) → slot_trial system lasting slot ≡ found → option_and_then (λ trial. Some (work_by job lasting trial)) found ≡ Some work → SendsWell system lasting slot.id work.trial
    by_trial job None f g = cc
    by_trial job (Some trial) f g =
        let same : work_by job lasting trial ≡ work = cc in
        subst (λ (w : AtWork). SendsWell system lasting slot.id w.trial) same (trial_sends slot trial f)

    by_job : (found : Option Job) → option_and_then (λ job. option_and_then (λ trial. Some (work_by job lasting trial)) (slot_trial system lasting slot)) found ≡ Some work → SendsWell system lasting slot.id work.trial
    by_job None g = cc
    by_job (Some job) g = by_trial job (slot_trial system lasting slot) refl g

  -- the line that an abend sends is short
  code_short : (name : List ℕ) → is_system_code system name ≡ true → length name ≤ 8
  code_short name is = by (code_at system.codes name) refl is where
    by : (found : Option Code) → code_at system.codes name ≡ found → is_some found ≡ true → length name ≤ 8
    by None e some = cc
    by (Some code) e some =
        let its = found_holds (λ c. IsTransaction c.transaction) (λ c. bytes_eq c.transaction.code name) system.codes code valid.transactions e in
        subst (λ (n : List ℕ). length n ≤ 8) (same_bytes code.transaction.code name (has_name system.codes name code e)) its.name

  text_short : (code : List ℕ) (abend : AbendCode) → length code ≤ 8 → length (dfs555i_text code abend) ≤ 100
  text_short code abend short =
      let first : List ℕ = codes "DFS555I TRAN " ++ code in
      let second : List ℕ = first ++ codes " ABEND U" in
      omega (arith, short, length-append (codes "DFS555I TRAN ") code, length-append first (codes " ABEND U"), length-append second (four_digits abend.number))

  pub abend_fits : (id : ℕ) (message : Message) (abend : AbendCode) → message_at lasting.messages id ≡ Some message → sent_bytes (abend_outputs message abend) ≤ 65536
  abend_fits id message abend found =
      let known = first_of (is_system_terminal system message.origin && is_system_code system message.code) _ (found_passes (is_message_known system lasting) (λ m. m.id == id) lasting.messages message s.known found) in
      let text = dfs555i_text message.code abend in
      omega (
        arith,
        text_short message.code abend (code_short message.code (both_second (is_system_terminal system message.origin) (is_system_code system message.code) known)),
        sum_by-cons segment_length text [],
        sum_by-cons ended_bytes (record { to = message.origin; segments = text ∷ [] }) [],
      ) where
        both_second : (a b : Bool) → a && b ≡ true → b ≡ true
        both_second true b h = h
        both_second false b h = cc
