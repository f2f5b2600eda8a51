-- What is handed back at the end of a life.
use Rattle.std.proofs.Common.{◌≡◌, ◌-◌, ℕ, List}
use Rattle.tm_disk.specs.Disk.{DiskState}
use Rattle.model_system.specs.System.{System}
use Rattle.model_machine.specs.declared.entry.Entry.{Entry}
use Rattle.model_machine.specs.Machine.{LastingState}
use Rattle.logged_machine.specs.LoggedState.{LoggedState}
use Rattle.tm_control.specs.ClosedControl.{Closes}
use Rattle.tm_control.specs.ControlParts.{HoldsControl}
use Rattle.openings.specs.declared.life.Life.{Life}
use Rattle.tm_control.proofs.Closing.{IsEnded, ended}
use Rattle.tm_control.proofs.Going.{seen}

pub closes_now : {D : Type 0} (state : D → DiskState) (machine : LoggedState D) (opening : LastingState) (first : ℕ) (history : List Entry) (room began steps : ℕ)
    (disk : D) (life : Life) (system : System) (text : List ℕ) (faults : ℕ)
    → HoldsControl state machine opening first history steps → disk ≡ machine.disk → system ≡ machine.machine.system → text ≡ machine.text → faults ≡ began
    → life.opening ≡ opening → life.checkpoint ≡ first → life.history ≡ history → life.forced ≡ machine.forced - opening.steps → life.kept ≡ steps - opening.steps
    → Closes (seen machine opening first history room began) disk life system text faults
closes_now state machine opening first history room began steps disk life system text faults holds disk_is system_is text_is faults_are opening_is checkpoint_is history_is forced_is kept_is =
    let over : IsEnded machine.machine.system opening first history life.kept = ended state machine opening first history steps life.kept machine.served holds kept_is in
    record {
      disk_is = disk_is;
      system_is = system_is;
      text_is = text_is;
      faults_are = faults_are;
      opening = opening_is;
      checkpoint = checkpoint_is;
      history = history_is;
      forced = forced_is;
      legal = over.legal;
      numbers = over.numbers;
      kept = over.count;
      rings = over.rings;
    }
