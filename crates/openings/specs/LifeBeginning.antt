-- What a life begins with, and why an opening is refused.
use Rattle.std.specs.Prelude.{◌≡◌, ℕ, List, IsTrue, Ok, Err}
use Rattle.tm_disk.specs.Disk.{Image, DiskState, Stays, Within}
use Rattle.model_system.specs.System.{System}
use Rattle.model_machine.specs.Machine.{LastingState}
use Rattle.log_writer.specs.Writer.{Writer}
use Rattle.restart_data.specs.declared.restart.RestartSector.{RestartSector}
use Rattle.openings.specs.OpeningParts.{OpeningParts}
use Rattle.openings.specs.declared.refusals.OpenError.{OpenError}
use Rattle.openings.specs.KeptImage.{KeepsImage, KeepsOrEmpties}
use Rattle.openings.specs.OpenedImage.{OpeningCause, SizeFirst, TellsCold, TellsOpening}
use Rattle.openings.specs.Renewal.{first_writer}
use Rattle.openings.specs.declared.how.How.{How}
use Rattle.openings.specs.declared.how.How.TheVariants.{Found, Cold}

-- Whenever a crash comes in an opening, what it leaves recovers as before, and is the image before, or like that one of the definition's text;
-- in a cold start it is the image before, or one of that text that recovers to the empty state.
abbrev pub KeepsBy : How → System → List ℕ → Image → Image → Type 0
KeepsBy Found system text before after = KeepsImage system text before after
KeepsBy Cold system text before after = KeepsOrEmpties system text before after

-- A life begins with what the disk recovers to, or empty. What it counts on stands where that says: its restart sector, its
-- log, at the start of the area that this names, and the number of its next unit.
pub record BeginsLife (how : How) (system : System) (text : List ℕ) (disk : DiskState) (opening : LastingState) (restart : RestartSector) (log : Writer) (next_unit : ℕ) : Type 0 where
  pub parts : OpeningParts
  pub found : how ≡ Found → IsTrue disk.tells → TellsOpening system text disk.shown (Ok (parts, opening))
  pub cold : how ≡ Cold → TellsCold system (Ok (parts, opening))
  pub restart_is : restart ≡ parts.now
  pub log_is : log ≡ first_writer system parts.now
  pub unit_is : next_unit ≡ parts.next_unit

-- why an opening is refused
pub record Refuses (how : How) (system : System) (text : List ℕ) (disk : DiskState) (error : OpenError) : Type 0 where
  pub size : SizeFirst system disk.size (Err error)
  pub found : how ≡ Found → IsTrue disk.tells → TellsOpening system text disk.shown (Err error)
  pub cold : how ≡ Cold → TellsCold system (Err error)

-- All is handed back.
pub record HandsBack {D : Type 0} (state : D → DiskState) (how : How) (system : System) (text : List ℕ) (disk : D) (error : OpenError) (disk_back : D) (system_back : System) (text_back : List ℕ) : Type 0 where
  pub refuses : Refuses how system text (state disk) error
  pub system_is : system_back ≡ system
  pub text_is : text_back ≡ text
  pub stays : Stays (state disk) (state disk_back)
  pub cause : OpeningCause (Err error) (state disk) (state disk_back)
  pub any_moment : Within (KeepsBy how system text) (state disk) (state disk_back)
