-- A call's answer, and what the call leaves.
use Rattle.std.specs.Prelude.{◌≡◌, Bool, true, false}
use Rattle.model_machine.specs.declared.entry.Entry.{Entry}
use Rattle.model_machine.specs.History.{after_entry, is_fault, May}
use Rattle.tm_machine.specs.Parts.{PartsState}

-- the entry has the machine's answer, and the machine went on
pub record IsAnswered (old new : PartsState) (entry : Entry) : Type 0 where
  pub may : May old.system old.moment entry
  pub after : new.moment ≡ after_entry old.system old.moment entry
  pub system : new.system ≡ old.system

abbrev pub AnsweredUnless : Bool → PartsState → PartsState → Entry → Type 0
AnsweredUnless true old new entry = new ≡ old
AnsweredUnless false old new entry = IsAnswered old new entry

-- a call was answered by this entry; one that met a fault changed nothing
abbrev pub Answers : PartsState → PartsState → Entry → Type 0
Answers old new entry = AnsweredUnless (is_fault entry) old new entry
