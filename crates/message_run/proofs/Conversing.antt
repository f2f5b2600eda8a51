-- The conversation of a message stays the same from call to call.
use Rattle.std.proofs.Common.{◌≡◌, ℕ, zero, suc, ◌+◌, Bool, true, false, List, [], ◌∷◌, ◌++◌, sym, ◌∙◌, ap, refl}
use Rattle.std.specs.Prelude.{Option, Some, None, if◌then◌else◌}
use Rattle.std.specs.Option.{option_and_then}
use Rattle.tm_types.specs.declared.abend.AbendCode.{AbendCode}
use Rattle.tm_types.specs.declared.function.Function.{Function}
use Rattle.tm_types.specs.declared.function.Function.TheVariants.{GU, GN, GNP, GHU, GHN, GHNP, ISRT, REPL, DLET, PURG, CHNG, ROLB, ROLL}
use Rattle.model_messages.specs.declared.conversation.Conversation.{Conversation}
use Rattle.model_data.specs.declared.row.Row.{Row}
use Rattle.model_data.specs.Data.{Data}
use Rattle.model_system.specs.declared.need.CallText.{CallText}
use Rattle.model_system.specs.declared.need.Need.{Need}
use Rattle.model_system.specs.declared.need.Need.TheVariants.{Call, Ended, Abend}
use Rattle.model_system.specs.Jobs.{Job}
use Rattle.model_system.specs.Lists.{change_at}
use Rattle.model_system.specs.System.{System}
use Rattle.model_messages.specs.MessageWork.{MessageWork}
use Rattle.model_messages.specs.MessageCalls.{gives_back, is_blank, returned_pad, segment_status, segment_work, with_output_segment, message_work_by}
use Rattle.model_machine.specs.Trial.{Given, Trial, Reached, outcome_at, pcb_reached, call_outcome, called_in_trial, trial_goes_on, unless_abend, is_sync, gone, advance, advance_by, trial_need, trial_of}
use Rattle.model_machine.specs.Trial.Reached.{Messages, Rows, Nothing}
use Rattle.model_machine.specs.Trial.Advance.{Stops}
use Rattle.model_machine.specs.Trial.WorkEnd.{Syncs}

either : (of : Option Conversation) (b : Bool) (x y : MessageWork) → x.conversation ≡ of → y.conversation ≡ of → (if b then x else y).conversation ≡ of
either of true x y one other = one
either of false x y one other = other

segment_keeps : (work : MessageWork) (pcb : ℕ) (text : List ℕ) → (segment_work work pcb text).conversation ≡ work.conversation
segment_keeps work pcb text =
    either work.conversation (is_blank (segment_status work pcb text))
    (record work { inserted = work.inserted + 1; pcbs = change_at work.pcbs (Some pcb) (with_output_segment text) }) work refl refl

work_keeps : (function : Function) (system : System) (work : MessageWork) (pcb : ℕ) (text : List ℕ) → (message_work_by function system work pcb text).conversation ≡ work.conversation
work_keeps GU system work pcb text = refl
work_keeps GN system work pcb text = either work.conversation _ _ _ refl refl
work_keeps GNP system work pcb text = refl
work_keeps GHU system work pcb text = refl
work_keeps GHN system work pcb text = refl
work_keeps GHNP system work pcb text = refl
work_keeps ISRT system work pcb text =
    either work.conversation (gives_back work pcb) (record work { returned = returned_pad work.conversation text }) (segment_work work pcb text) refl
    (segment_keeps work pcb text)
work_keeps REPL system work pcb text = refl
work_keeps DLET system work pcb text = refl
work_keeps PURG system work pcb text = either work.conversation _ _ _ refl refl
work_keeps CHNG system work pcb text = either work.conversation _ _ _ refl refl
work_keeps ROLB system work pcb text = refl
work_keeps ROLL system work pcb text = refl

outcome_keeps : (system : System) (rows : List (List Row)) (target : Reached) (work : MessageWork) (d : Data) (call : CallText)
    → (outcome_at system rows target work d call).work.conversation ≡ work.conversation
outcome_keeps system rows Messages work d call = work_keeps call.function system work call.pcb call.area
outcome_keeps system rows (Rows target) work d call = refl
outcome_keeps system rows Nothing work d call = refl

step_keeps : (job : Job) (rows : List (List Row)) (before one : Trial) (need : Need) → gone (advance_by job rows before need) ≡ Some one
    → one.work.conversation ≡ before.work.conversation
step_keeps job rows before one Ended goes = absurd (cc)
step_keeps job rows before one (Abend code) goes = absurd (cc)
step_keeps job rows before one (Call call) goes = by_sync (is_sync before.work call) goes
  where
    by_abend : (o : Option AbendCode) → gone (unless_abend o (trial_goes_on before call (call_outcome job rows before call))) ≡ Some one
        → one.work.conversation ≡ before.work.conversation
    by_abend (Some abend) g = absurd (cc)
    by_abend None g =
        let next : Trial = record {
          answers = before.answers ++ (call_outcome job rows before call).answer ∷ [];
          work = (call_outcome job rows before call).work;
          databases = (call_outcome job rows before call).databases;
        } in
        let some : Some next ≡ Some one = g in
        let same : next ≡ one = cc in
        sym (ap (λ (t : Trial). t.work.conversation) same)
        ∙ outcome_keeps job.system rows (pcb_reached job.system.databases job.pcbs call.pcb) before.work before.databases call

    by_sync : (t : Bool) → gone (if t then Stops Syncs else called_in_trial before call (call_outcome job rows before call)) ≡ Some one
        → one.work.conversation ≡ before.work.conversation
    by_sync true g = absurd (cc)
    by_sync false g = by_abend (call_outcome job rows before call).abend g

abbrev conversation_at_trial : Option Trial → Option Conversation
conversation_at_trial (Some t) = t.work.conversation
conversation_at_trial None = None

-- Behind so many calls the work has the conversation with which the message was given.
pub same_conversation : (job : Job) (rows : List (List Row)) (given : Given) (calls : ℕ) (one : Trial) → trial_of job rows given calls ≡ Some one
    → one.work.conversation ≡ given.conversation
same_conversation job rows given zero one made = start one made
  where
    start : (one : Trial) → trial_of job rows given zero ≡ Some one → one.work.conversation ≡ given.conversation
    start one e = ap conversation_at_trial (sym e)
same_conversation job rows given (suc calls) one made = by (trial_of job rows given calls) refl made (λ before e. same_conversation job rows given calls before e)
  where
    by : (o : Option Trial) → trial_of job rows given calls ≡ o → option_and_then (λ t. gone (advance job rows t)) o ≡ Some one
        → ((before : Trial) → trial_of job rows given calls ≡ Some before → before.work.conversation ≡ given.conversation)
        → one.work.conversation ≡ given.conversation
    by None e g rec = absurd (cc)
    by (Some before) e g rec = step_keeps job rows before one (trial_need job before) g ∙ rec before e
