-- A definition that was read, a session that has begun, and one that has ended.
use Rattle.std.specs.Prelude.{◌≡◌, ℕ, Bool, true, false, List, [], length, Option, Some, None, IfSome}
use Rattle.tm_disk.specs.Disk.{DiskState}
use Rattle.model_system.specs.System.{System}
use Rattle.system_types.specs.ValidSystem.{IsSystem}
use Rattle.openings.specs.declared.life.Life.{Life}
use Rattle.session_lives.specs.declared.called.Opening.{Opening}
use Rattle.session_lives.specs.declared.called.Opening.TheVariants.{Opened, Broke, Refused, Memory as NoMemory, Spent as SpentCounter}
use Rattle.tm_session.specs.declared.outcome.Ended.{Ended}
use Rattle.tm_session.specs.declared.outcome.Ended.TheVariants.{Done, Down as DownAtEnd, Image, Memory, Spent}
use Rattle.session_lives.specs.declared.place.Idle.{Idle}
use Rattle.session_lives.specs.declared.place.Kept.{Kept}
use Rattle.session_lives.specs.declared.place.Session.{Session}
use Rattle.tm_session.specs.ReadDefinition.{ReadsDefinition}
use Rattle.tm_session.specs.DefinedSystem.{text_of_definition}
use Rattle.session_lives.specs.Openings.{HasGone}
use Rattle.tm_session.specs.Headline.{Defines}

-- the definition was read, of so many lines, with this system and this text
pub record IsDefinitionRead (told told' : Option (List ℕ)) (count : ℕ) (system : System) (text : List ℕ) : Type 0 where
  pub texts : List (List ℕ)
  pub read : ReadsDefinition told texts told'
  pub counted : length texts ≡ count
  pub defines : IfSome told (λ bytes. Defines bytes system)
  pub joined : text ≡ text_of_definition texts

-- how a session ends whose first opening went so
abbrev pub refusal : Opening → Option Ended
refusal Opened = None
refusal Broke = None
refusal (Refused refused) = Some (Image refused)
refusal NoMemory = Some Memory
refusal SpentCounter = Some Spent

-- The disk that was handed in was opened for the system, or that went otherwise.
pub record HasBegun {D : Type 0} (state : D → DiskState) (system : System) (text : List ℕ) (disk : D) (session : Session D) (ended : Option Ended) : Type 0 where
  pub opening : Opening
  pub idle : Idle D
  pub disk_is : idle.disk ≡ disk
  pub system_is : idle.system ≡ system
  pub text_is : idle.text ≡ text
  pub last_is : idle.last ≡ None
  pub emptied_is : idle.emptied ≡ false
  pub stopped_is : idle.stopped ≡ false
  pub kept : Kept
  pub lives : kept.lives.items ≡ []
  pub stops : kept.stops.items ≡ []
  pub pick : kept.pick ≡ 0
  pub valid : IsSystem system
  pub gone : HasGone state idle kept false session opening
  pub ends : ended ≡ refusal opening

-- it has not begun
pub record IsNothing {D : Type 0} (disk : D) (ended status : Ended) (disk_back : D) (lives : List Life) (stops : List (ℕ × ℕ)) : Type 0 where
  pub status_is : status ≡ ended
  pub disk_is : disk_back ≡ disk
  pub no_life : lives ≡ []
  pub no_stop : stops ≡ []

-- at the source's end the system may be down by a stop
abbrev pub down_at_end : Ended → Ended
down_at_end Done = DownAtEnd
down_at_end ended = ended

abbrev pub by_standing : Bool → Ended → Ended
by_standing true ended = down_at_end ended
by_standing false ended = ended
