-- The numbers of checkpoints that are told, in lives and at their disk.
use Rattle.std.proofs.Common.{◌≡◌, ℕ, suc, Bool, true, false, List, [], ◌∷◌, ◌++◌, sym, ◌∙◌, ap, refl, append_assoc}
use Rattle.std.proofs.lemmas.List.{append-nil}
use Rattle.std.specs.Prelude.{Option, Some, None, Ok, Err}
use Rattle.model_system.specs.System.{System}
use Rattle.model_machine.specs.declared.entry.Entry.{Entry}
use Rattle.model_machine.specs.declared.entry.Entry.TheVariants.{Accept, Show, Acked, Turn as TurnEntry, Commanded, Checked, Quiet}
use Rattle.model_machine.specs.declared.entry.ControlCall.TheVariants.{Turn}
use Rattle.model_machine.specs.Machine.{Moment}
use Rattle.model_machine.specs.History.{call_of, after_entry}
use Rattle.model_session.specs.Lives.{LifeState, LastLife, is_disk_fault, kept_life, with_life}
use Rattle.model_session.specs.QuietTurns.{AreTurns, region_behind_turns}
use Rattle.model_session.specs.SessionState.{DiskEvent, DiskPast, stop_armed, told_one, told_by}
use Rattle.model_session.specs.SessionState.DiskEvent.{StopsAt, CutWith, Tells}
use Rattle.session_lives.specs.ToldNumbers.{numbers_in, numbers_told, numbers_of, told_numbers}

-- ---- numbers

pub numbers_more : (entries more : List Entry) → numbers_in (entries ++ more) ≡ numbers_in entries ++ numbers_in more
numbers_more [] more = refl
numbers_more (Checked freeze (Ok number) ∷ entries) more = ap (λ (numbers : List ℕ). number ∷ numbers) (numbers_more entries more)
numbers_more (Checked freeze (Err refused) ∷ entries) more = numbers_more entries more
numbers_more (Accept terminal number segments answer ∷ entries) more = numbers_more entries more
numbers_more (Show terminal answer ∷ entries) more = numbers_more entries more
numbers_more (Acked terminal number answer ∷ entries) more = numbers_more entries more
numbers_more (TurnEntry region answer ∷ entries) more = numbers_more entries more
numbers_more (Commanded command answer ∷ entries) more = numbers_more entries more
numbers_more (Quiet quiet ∷ entries) more = numbers_more entries more

-- an entry with the disk's fault tells of none
pub fault_numbers : (entry : Entry) → is_disk_fault entry ≡ true → numbers_in (entry ∷ []) ≡ []
fault_numbers (Checked freeze (Ok number)) fault = cc
fault_numbers (Checked freeze (Err refused)) fault = refl
fault_numbers (Accept terminal number segments answer) fault = refl
fault_numbers (Show terminal answer) fault = refl
fault_numbers (Acked terminal number answer) fault = refl
fault_numbers (TurnEntry region answer) fault = refl
fault_numbers (Commanded command answer) fault = refl
fault_numbers (Quiet quiet) fault = refl

-- and so does a turn
turn_numbers : (entry : Entry) (entries : List Entry) (region : ℕ) → call_of entry ≡ Turn region → numbers_in (entry ∷ entries) ≡ numbers_in entries
turn_numbers (Checked freeze answer) entries region is = cc
turn_numbers (Accept terminal number segments answer) entries region is = refl
turn_numbers (Show terminal answer) entries region is = refl
turn_numbers (Acked terminal number answer) entries region is = refl
turn_numbers (TurnEntry other answer) entries region is = refl
turn_numbers (Commanded command answer) entries region is = refl
turn_numbers (Quiet quiet) entries region is = refl

pub turns_numbers : (system : System) (before : ℕ) (moment : Moment) (turns : List Entry) → AreTurns system before moment turns → numbers_in turns ≡ []
turns_numbers system before moment [] are = refl
turns_numbers system before moment (entry ∷ entries) are =
    turn_numbers entry entries (region_behind_turns system before) are.1 ∙ turns_numbers system (suc before) (after_entry system moment entry) entries are.2

pub with_numbers : (lives : List LifeState) (last : Option LastLife) (kept : ℕ) → numbers_told (with_life lives last kept) ≡ numbers_told lives ++ numbers_of last
with_numbers lives None kept = sym (append-nil (numbers_told lives))
with_numbers lives (Some life) kept = lives_more lives where
  lives_more : (before : List LifeState) → numbers_told (before ++ kept_life life kept ∷ []) ≡ numbers_told before ++ numbers_in life.history
  lives_more [] = append-nil (numbers_in life.history)
  lives_more (first ∷ before) = ap (λ (numbers : List ℕ). numbers_in first.history ++ numbers) (lives_more before) ∙ sym (append_assoc (numbers_in first.history) (numbers_told before) (numbers_in life.history))

-- ---- at the disk

told_more : (events more : List DiskEvent) → told_numbers (events ++ more) ≡ told_numbers events ++ told_numbers more
told_more [] more = refl
told_more (Tells number ∷ events) more = ap (λ (numbers : List ℕ). number ∷ numbers) (told_more events more)
told_more (StopsAt writes ∷ events) more = told_more events more
told_more (CutWith pick ∷ events) more = told_more events more

-- neither a cut tells of one, nor that the disk was told to stop
pub cut_numbers : (events : List DiskEvent) (pick : ℕ) → told_numbers (events ++ CutWith pick ∷ []) ≡ told_numbers events
cut_numbers events pick = told_more events (CutWith pick ∷ []) ∙ append-nil (told_numbers events)

pub armed_numbers : (can : Bool) (writes pick : ℕ) (past : DiskPast) → told_numbers (stop_armed can writes pick past).events ≡ told_numbers past.events
armed_numbers true writes pick past = told_more past.events (StopsAt writes ∷ []) ∙ append-nil (told_numbers past.events)
armed_numbers false writes pick past = refl

-- an entry tells of its own
pub one_numbers : (entry : Entry) (past : DiskPast) → told_numbers (told_one entry past).events ≡ told_numbers past.events ++ numbers_in (entry ∷ [])
one_numbers (Checked freeze (Ok number)) past = told_more past.events (Tells number ∷ [])
one_numbers (Checked freeze (Err refused)) past = sym (append-nil (told_numbers past.events))
one_numbers (Accept terminal number segments answer) past = sym (append-nil (told_numbers past.events))
one_numbers (Show terminal answer) past = sym (append-nil (told_numbers past.events))
one_numbers (Acked terminal number answer) past = sym (append-nil (told_numbers past.events))
one_numbers (TurnEntry region answer) past = sym (append-nil (told_numbers past.events))
one_numbers (Commanded command answer) past = sym (append-nil (told_numbers past.events))
one_numbers (Quiet quiet) past = sym (append-nil (told_numbers past.events))

-- a turn tells of none
turn_told : (entry : Entry) (past : DiskPast) (region : ℕ) → call_of entry ≡ Turn region → told_one entry past ≡ past
turn_told (Checked freeze answer) past region is = cc
turn_told (Accept terminal number segments answer) past region is = refl
turn_told (Show terminal answer) past region is = refl
turn_told (Acked terminal number answer) past region is = refl
turn_told (TurnEntry other answer) past region is = refl
turn_told (Commanded command answer) past region is = refl
turn_told (Quiet quiet) past region is = refl

pub turns_told : (system : System) (before : ℕ) (moment : Moment) (turns : List Entry) (past : DiskPast) → AreTurns system before moment turns → told_by turns past ≡ past
turns_told system before moment [] past are = refl
turns_told system before moment (entry ∷ entries) past are =
    ap (told_by entries) (turn_told entry past (region_behind_turns system before) are.1) ∙ turns_told system (suc before) (after_entry system moment entry) entries past are.2

-- a life went on with entries, and they were told
pub numbers_behind : (lives lives' : List LifeState) (before after entries : List Entry) (told told' : List ℕ) → lives' ≡ lives → after ≡ before ++ entries
    → told ≡ numbers_told lives ++ numbers_in before → told' ≡ told ++ numbers_in entries → told' ≡ numbers_told lives' ++ numbers_in after
numbers_behind lives lives' before after entries told told' same more first second =
    second ∙ ap (λ (ns : List ℕ). ns ++ numbers_in entries) first
    ∙ append_assoc (numbers_told lives) (numbers_in before) (numbers_in entries)
    ∙ ap (λ (ns : List ℕ). numbers_told lives ++ ns) (sym (numbers_more before entries) ∙ ap numbers_in (sym more))
    ∙ ap (λ (ls : List LifeState). numbers_told ls ++ numbers_in after) (sym same)
