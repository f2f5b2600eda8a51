-- A turn in which no region gave way has one line.
use Rattle.std.proofs.Common.{◌≡◌, ℕ, List, refl}
use Rattle.tm_types.specs.declared.dbd.Dbd.{Dbd}
use Rattle.model_data.specs.declared.victim.Victim.{Victim}
use Rattle.model_machine.specs.declared.entry.Turned.{Turned}
use Rattle.model_machine.specs.declared.entry.Turned.TheVariants.{Scheduled, Called, Next, QC, Done, Abended, Idle, Held, Waits, Backed}
use Rattle.model_session.specs.Text.{region_line, did_text, turned_text}

pub one_line : (databases : List Dbd) (region : ℕ) (turned : Turned) → ((victims : List Victim) → turned ≡ Backed victims → ⊥)
    → turned_text databases region turned ≡ region_line region (did_text databases turned)
one_line databases region (Scheduled code id) other = refl
one_line databases region (Called function pcb status) other = refl
one_line databases region (Next code id next) other = refl
one_line databases region (QC code id) other = refl
one_line databases region (Done code id) other = refl
one_line databases region (Abended code id abend) other = refl
one_line databases region Idle other = refl
one_line databases region (Held need limit) other = refl
one_line databases region (Waits resource by) other = refl
one_line databases region (Backed victims) other = absurd (other victims refl)
