-- The end of a life.
use Rattle.std.proofs.Common.{◌≡◌, ◌+◌, ◌-◌, ◌≤◌, ℕ, Bool, true, false, List, refl, sym, ◌∙◌, ap, arith}
use Rattle.std.specs.Prelude.{Some, None, Result, Ok, Err}
use Rattle.tm_disk.specs.Disk.{DiskState}
use Rattle.model_system.specs.System.{System}
use Rattle.model_machine.specs.declared.entry.Acked.{Acked as AckAnswer}
use Rattle.model_machine.specs.declared.entry.AckRefused.{AckRefused}
use Rattle.model_machine.specs.declared.entry.AckRefused.TheVariants.{Unknown as AckUnknown, Ahead, Fault as AckFault}
use Rattle.model_machine.specs.declared.answer.Answer.{Answer}
use Rattle.model_machine.specs.declared.command.Command.{Command}
use Rattle.model_machine.specs.declared.entry.CheckpointRefused.{CheckpointRefused}
use Rattle.model_machine.specs.declared.entry.CheckpointRefused.TheVariants.{BusyRegion, Fault as CheckpointFault}
use Rattle.model_machine.specs.declared.entry.CommandRefused.{CommandRefused}
use Rattle.model_machine.specs.declared.entry.CommandRefused.TheVariants.{UnknownName, Busy, NoConversation, Fault as CommandFault}
use Rattle.model_machine.specs.declared.entry.ControlFault.{ControlFault}
use Rattle.model_machine.specs.declared.entry.Entry.{Entry}
use Rattle.model_machine.specs.declared.entry.Entry.TheVariants.{Accept, Show, Acked, Turn, Commanded, Checked, Quiet}
use Rattle.model_machine.specs.declared.entry.InputRefused.{InputRefused}
use Rattle.model_machine.specs.declared.entry.InputRefused.TheVariants.{Terminal, StoppedTerminal, Expected, Conversation, Code, StoppedCode, SegmentsOver, QueueFull, Fault as InputFault}
use Rattle.model_machine.specs.declared.entry.Taken.{Taken}
use Rattle.model_machine.specs.declared.entry.Turned.{Turned}
use Rattle.model_machine.specs.Machine.{LastingState, Moment, start_of}
use Rattle.model_machine.specs.History.{AscendAbove, IsLegal, is_fault, moment_after}
use Rattle.deadlock_pick.specs.NoCycles.{HasNoCycles}
use Rattle.logged_machine.specs.LoggedState.{LoggedState}
use Rattle.openings.specs.Faults.{fault_in}
use Rattle.tm_control.specs.ControlOnDisk.{lasting_after_entries}
use Rattle.tm_control.specs.ControlParts.{HoldsBy}
use Rattle.tm_control.proofs.Along.{forced_within}
use Rattle.tm_control.proofs.Rings.{no_ring}

-- ---- an entry with a fault

pub none_some : {A : Type 0} (x : A) → None ≡ Some x → ⊥
none_some x e = cc

accept_faulted : (terminal : List ℕ) (number : ℕ) (segments : List (List ℕ)) (answer : Result Taken InputRefused) (fault : ControlFault) → fault_in (Accept terminal number segments answer) ≡ Some fault → is_fault (Accept terminal number segments answer) ≡ true
accept_faulted terminal number segments (Ok taken) fault e = absurd (none_some fault e)
accept_faulted terminal number segments (Err Terminal) fault e = absurd (none_some fault e)
accept_faulted terminal number segments (Err StoppedTerminal) fault e = absurd (none_some fault e)
accept_faulted terminal number segments (Err (StoppedCode code)) fault e = absurd (none_some fault e)
accept_faulted terminal number segments (Err (Expected n)) fault e = absurd (none_some fault e)
accept_faulted terminal number segments (Err (Conversation id)) fault e = absurd (none_some fault e)
accept_faulted terminal number segments (Err Code) fault e = absurd (none_some fault e)
accept_faulted terminal number segments (Err (SegmentsOver n most)) fault e = absurd (none_some fault e)
accept_faulted terminal number segments (Err (QueueFull n most)) fault e = absurd (none_some fault e)
accept_faulted terminal number segments (Err (InputFault f)) fault e = refl

acked_faulted : (terminal : List ℕ) (number : ℕ) (answer : Result AckAnswer AckRefused) (fault : ControlFault) → fault_in (Acked terminal number answer) ≡ Some fault → is_fault (Acked terminal number answer) ≡ true
acked_faulted terminal number (Ok acked) fault e = absurd (none_some fault e)
acked_faulted terminal number (Err AckUnknown) fault e = absurd (none_some fault e)
acked_faulted terminal number (Err (Ahead first)) fault e = absurd (none_some fault e)
acked_faulted terminal number (Err (AckFault f)) fault e = refl

turn_faulted : (region : ℕ) (answer : Result Turned ControlFault) (fault : ControlFault) → fault_in (Turn region answer) ≡ Some fault → is_fault (Turn region answer) ≡ true
turn_faulted region (Ok turned) fault e = absurd (none_some fault e)
turn_faulted region (Err f) fault e = refl

commanded_faulted : (command : Command) (answer : Result Answer CommandRefused) (fault : ControlFault) → fault_in (Commanded command answer) ≡ Some fault → is_fault (Commanded command answer) ≡ true
commanded_faulted command (Ok answer) fault e = absurd (none_some fault e)
commanded_faulted command (Err (UnknownName name)) fault e = absurd (none_some fault e)
commanded_faulted command (Err (Busy id)) fault e = absurd (none_some fault e)
commanded_faulted command (Err NoConversation) fault e = absurd (none_some fault e)
commanded_faulted command (Err (CommandFault f)) fault e = refl

checked_faulted : (freeze : Bool) (answer : Result ℕ CheckpointRefused) (fault : ControlFault) → fault_in (Checked freeze answer) ≡ Some fault → is_fault (Checked freeze answer) ≡ true
checked_faulted freeze (Ok number) fault e = absurd (none_some fault e)
checked_faulted freeze (Err (BusyRegion region id)) fault e = absurd (none_some fault e)
checked_faulted freeze (Err (CheckpointFault f)) fault e = refl

pub faulted : (entry : Entry) (fault : ControlFault) → fault_in entry ≡ Some fault → is_fault entry ≡ true
faulted (Accept terminal number segments answer) fault e = accept_faulted terminal number segments answer fault e
faulted (Show terminal answer) fault e = absurd (none_some fault e)
faulted (Acked terminal number answer) fault e = acked_faulted terminal number answer fault e
faulted (Turn region answer) fault e = turn_faulted region answer fault e
faulted (Commanded command answer) fault e = commanded_faulted command answer fault e
faulted (Checked freeze answer) fault e = checked_faulted freeze answer fault e
faulted (Quiet quiet) fault e = absurd (none_some fault e)

-- ---- a life's end

pub record IsEnded (system : System) (opening : LastingState) (first : ℕ) (history : List Entry) (kept : ℕ) : Type 0 where
  pub legal : IsLegal system (start_of system opening) history
  pub count : opening.steps + kept ≡ (lasting_after_entries system opening legal.steps).steps
  pub numbers : AscendAbove first history
  pub rings : HasNoCycles (moment_after system (start_of system opening) legal.steps).enqueues

-- so many lasting steps were done before at least
pub least : {D : Type 0} (state : D → DiskState) (machine : LoggedState D) (opening : LastingState) (first : ℕ) (history : List Entry) (steps : ℕ) (b : Bool)
    → HoldsBy b state machine opening first history steps → opening.steps ≤ steps
least state machine opening first history steps true h = omega (arith, h.more, h.count, forced_within state machine opening first history steps h)
least state machine opening first history steps false h = omega (arith, h.more, h.most)

-- and so many were forced
pub least_forced : {D : Type 0} (state : D → DiskState) (machine : LoggedState D) (opening : LastingState) (first : ℕ) (history : List Entry) (steps : ℕ) (b : Bool)
    → HoldsBy b state machine opening first history steps → opening.steps ≤ machine.forced
least_forced state machine opening first history steps true h = h.more
least_forced state machine opening first history steps false h = h.more

pub ended : {D : Type 0} (state : D → DiskState) (machine : LoggedState D) (opening : LastingState) (first : ℕ) (history : List Entry) (steps kept : ℕ) (b : Bool)
    → HoldsBy b state machine opening first history steps → kept ≡ steps - opening.steps → IsEnded machine.machine.system opening first history kept
ended state machine opening first history steps kept true h is = record {
  legal = record { steps = history; last = None; all = refl; legal = h.legal; end = tt };
  count =
      let same : steps ≡ (lasting_after_entries machine.machine.system opening history).steps = h.count ∙ ap (λ (m : Moment). m.lasting.steps) (sym h.moment) in
      omega (arith, is, least state machine opening first history steps true h, same);
  numbers = h.ascend;
  rings = no_ring machine.machine.system opening history h.legal;
}
ended state machine opening first history steps kept false h is = record {
  legal = record { steps = h.before; last = Some h.entry; all = h.all; legal = h.legal; end = (faulted h.entry _ h.fault, h.call) };
  count = omega (arith, is, h.most, h.more, h.count);
  numbers = h.ascend;
  rings = no_ring machine.machine.system opening h.before h.legal;
}
