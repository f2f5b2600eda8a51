-- Calls that leave the databases as they are.
use Rattle.std.proofs.Common.{◌≡◌, ℕ, false, List, refl}
use Rattle.model_machine.specs.History.{call_of}
use Rattle.model_machine.specs.declared.entry.ControlCall.{ControlCall}
use Rattle.model_machine.specs.declared.entry.ControlCall.TheVariants.{Input, Receive, Acknowledge, Turn, Command, Checkpoint, AskQuiet}
use Rattle.model_machine.specs.declared.entry.Entry.{Entry}
use Rattle.model_machine.specs.declared.entry.Entry.TheVariants.{Accept, Show, Acked, Commanded, Checked, Quiet, Turn as TurnEntry}
use Rattle.tm_machine.specs.Parts.{PartsState}
use Rattle.logged_machine.specs.UntakenCheckpoint.{settled_parts}
use Rattle.logged_machine.specs.ToldCalls.{ChangesBy, DoesCall, DoesTo, may_change, own_records}
use Rattle.logged_machine.proofs.Behind.{answered_settled, databases_settled}
use Rattle.tm_types.proofs.Truths.{apart}

pub still : (units : List ℕ) (entry : Entry) (old new : PartsState) → may_change (call_of entry) ≡ false → DoesTo units entry old new → new.databases ≡ old.databases
still units (Accept terminal number segments answer) old new none does = does
still units (Show terminal answer) old new none does = does
still units (Acked terminal number answer) old new none does = does
still units (Commanded command answer) old new none does = does
still units (Checked freeze answer) old new none does = does
still units (Quiet quiet) old new none does = does
still units (TurnEntry region answer) old new none does = absurd (apart none)

does_still : (units : List ℕ) (entry : Entry) (old new : PartsState) → may_change (call_of entry) ≡ false → new.databases ≡ old.databases → DoesTo units entry old new
does_still units (Accept terminal number segments answer) old new none same = same
does_still units (Show terminal answer) old new none same = same
does_still units (Acked terminal number answer) old new none same = same
does_still units (Commanded command answer) old new none same = same
does_still units (Checked freeze answer) old new none same = same
does_still units (Quiet quiet) old new none same = same
does_still units (TurnEntry region answer) old new none same = absurd (apart none)

no_changes : (units : List ℕ) (entry : Entry) (parts : PartsState) → may_change (call_of entry) ≡ false → ChangesBy units entry parts
no_changes units (Accept terminal number segments answer) parts none = tt
no_changes units (Show terminal answer) parts none = tt
no_changes units (Acked terminal number answer) parts none = tt
no_changes units (Commanded command answer) parts none = tt
no_changes units (Checked freeze answer) parts none = tt
no_changes units (Quiet quiet) parts none = tt
no_changes units (TurnEntry region answer) parts none = absurd (apart none)

-- it did so on parts where no slot counts as changed
pub does_settled : (units : List ℕ) (entry : Entry) (parts made parts' : PartsState) → may_change (call_of entry) ≡ false → parts' ≡ settled_parts made → DoesCall units entry parts made
    → DoesCall units entry (settled_parts parts) parts'
does_settled units entry parts made parts' none is d = record {
  answered = answered_settled parts made parts' entry is d.answered;
  no_fault = d.no_fault;
  does = does_still units entry (settled_parts parts) parts' none (databases_settled parts made parts' is (still units entry parts made none d.does));
  changes = no_changes units entry (settled_parts parts) none;
  spellable = d.spellable;
}

-- and tells the same there
pub records_settled : (parts : PartsState) (units : List ℕ) (call : ControlCall) → may_change call ≡ false → own_records parts units call ≡ own_records (settled_parts parts) units call
records_settled parts units (Input terminal number segments) none = refl
records_settled parts units (Receive terminal) none = refl
records_settled parts units (Acknowledge terminal number) none = refl
records_settled parts units (Command command) none = refl
records_settled parts units (Checkpoint freeze) none = refl
records_settled parts units AskQuiet none = refl
records_settled parts units (Turn region) none = absurd (apart none)
