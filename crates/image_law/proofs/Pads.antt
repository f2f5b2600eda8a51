-- Only the work on a message of a conversation changes a pad.
use Rattle.std.proofs.Common.{◌≡◌, ℕ, ◌+◌, Bool, true, false, ◌&&◌, List, ◌++◌, Option, Some, None, refl, sym, ◌∙◌, ap}
use Rattle.std.specs.Prelude.{if◌then◌else◌, ◌==◌, nat_lt, not, length}
use Rattle.std.specs.Option.{is_some}
use Rattle.tm_types.specs.declared.function.Function.{Function}
use Rattle.tm_types.specs.declared.function.Function.TheVariants.{GU, GN, ISRT, PURG, CHNG, ROLB}
use Rattle.model_messages.specs.declared.conversation.Conversation.{Conversation}
use Rattle.model_messages.specs.declared.conversation.PadChange.{PadChange}
use Rattle.model_messages.specs.declared.conversation.PadChange.TheVariants.{Stays, New, Ends}
use Rattle.model_messages.specs.Pads.{pad_change_by}
use Rattle.model_data.specs.declared.row.Row.{Row}
use Rattle.model_system.specs.Jobs.{Job}
use Rattle.model_system.specs.Lists.{change_at}
use Rattle.model_system.specs.System.{System}
use Rattle.model_messages.specs.MessageWork.{MessageWork, without_output}
use Rattle.model_messages.specs.MessageCalls.{change_status, change_work, destination_named, ended_at, gives_back, insert_work, is_blank, next_work, purge_status, purge_work, returned_pad, segment_status, segment_work, work_texts, with_chosen, with_output_segment, without_blanks, message_work_by}
use Rattle.model_machine.specs.Trial.{Given, Trial, pad_of, trial_of}
use Rattle.image_law.proofs.Bools.{first_of, second_of}
use Rattle.image_law.proofs.Trials.{trial_has}

-- the work is in the conversation that it was given, and gives a pad back only in one
pub record KeepsPad (conversation : Option Conversation) (work : MessageWork) : Type 0 where
  pub same : work.conversation ≡ conversation
  pub returned : is_some work.returned ≡ true → is_some conversation ≡ true

module _ (conversation : Option Conversation) where
  abbrev Keeps : MessageWork → Type 0
  Keeps work = KeepsPad conversation work

  stays : (work after : MessageWork) → after.conversation ≡ work.conversation → after.returned ≡ work.returned → Keeps work → Keeps after
  stays work after c r s = record { same = c ∙ s.same; returned = λ e. s.returned (ap is_some (sym r) ∙ e) }

  segment_pad : (work : MessageWork) (pcb : ℕ) (text : List ℕ) → Keeps work → Keeps (segment_work work pcb text)
  segment_pad work pcb text s = by (is_blank (segment_status work pcb text)) where
    by : (b : Bool) → Keeps (if b then record work { inserted = work.inserted + 1; pcbs = change_at work.pcbs (Some pcb) (with_output_segment text) } else work)
    by true = stays work (record work { inserted = work.inserted + 1; pcbs = change_at work.pcbs (Some pcb) (with_output_segment text) }) refl refl s
    by false = s

  insert_pad : (work : MessageWork) (pcb : ℕ) (text : List ℕ) → Keeps work → Keeps (insert_work work pcb text)
  insert_pad work pcb text s = by (gives_back work pcb) refl (segment_pad work pcb text s) where
    by : (b : Bool) → gives_back work pcb ≡ b → Keeps (segment_work work pcb text) → Keeps (if b then record work { returned = returned_pad work.conversation text } else segment_work work pcb text)
    by true e h = record {
      same = s.same;
      returned = λ f. ap is_some (sym s.same) ∙ second_of (pcb == 0) (is_some work.conversation) (first_of ((pcb == 0) && is_some work.conversation) (not (is_some work.returned)) e);
    }
    by false e h = h

  purge_pad : (work : MessageWork) (pcb : ℕ) → Keeps work → Keeps (purge_work work pcb)
  purge_pad work pcb s = by (is_blank (purge_status work pcb)) where
    by : (b : Bool) → Keeps (if b then record work { pcbs = change_at work.pcbs (Some pcb) without_output; ended = work.ended ++ ended_at work.pcbs pcb } else work)
    by true = stays work (record work { pcbs = change_at work.pcbs (Some pcb) without_output; ended = work.ended ++ ended_at work.pcbs pcb }) refl refl s
    by false = s

  change_pad : (system : System) (work : MessageWork) (pcb : ℕ) (name : List ℕ) → Keeps work → Keeps (change_work system work pcb name)
  change_pad system work pcb name s = by (is_blank (change_status system work pcb name)) where
    by : (b : Bool) → Keeps (if b then record work { pcbs = change_at work.pcbs (Some pcb) (with_chosen (destination_named system (without_blanks name))) } else work)
    by true = stays work (record work { pcbs = change_at work.pcbs (Some pcb) (with_chosen (destination_named system (without_blanks name))) }) refl refl s
    by false = s

  next_pad : (work : MessageWork) → Keeps work → Keeps (next_work work)
  next_pad work s = by (work.begun && nat_lt work.place (length (work_texts work))) where
    by : (b : Bool) → Keeps (if b then record work { place = work.place + 1 } else work)
    by true = stays work (record work { place = work.place + 1 }) refl refl s
    by false = s

  call_pad : (function : Function) (system : System) (work : MessageWork) (pcb : ℕ) (text : List ℕ) → Keeps work → Keeps (message_work_by function system work pcb text)
  call_pad GU system work pcb text s = stays work (record work { begun = true; place = 1 }) refl refl s
  call_pad GN system work pcb text s = next_pad work s
  call_pad ISRT system work pcb text s = insert_pad work pcb text s
  call_pad PURG system work pcb text s = purge_pad work pcb s
  call_pad CHNG system work pcb text s = change_pad system work pcb text s
  call_pad ROLB system work pcb text s = record { same = s.same; returned = λ e. cc }
  call_pad _ system work pcb text s = s

-- a pad changes only where one was given back
abbrev pub Changes : PadChange → Type 0
Changes Stays = ⊥
Changes (New text) = Unit {0}
Changes Ends = Unit {0}

changes_by : (returned : Option (List ℕ)) → Changes (pad_change_by returned) → is_some returned ≡ true
changes_by None h = absurd h
changes_by (Some text) h = refl

pub pad_in_conversation : (job : Job) (rows : List (List Row)) (given : Given) (calls : ℕ) (trial : Trial) → trial_of job rows given calls ≡ Some trial → Changes (pad_of trial) → is_some given.conversation ≡ true
pad_in_conversation job rows given calls trial e h =
    (trial_has job rows given (KeepsPad given.conversation) (λ work call s. call_pad given.conversation call.function job.system work call.pcb call.area s) (record { same = refl; returned = λ f. cc }) calls trial e).returned
    (changes_by trial.work.returned h)
