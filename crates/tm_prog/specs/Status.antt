-- The last line of a session by its status, and what a whole run comes to.
use Rattle.std.specs.Prelude.{◌≡◌, ℕ, ◌≤◌, ◌++◌, ◌⊎◌, Bool, true, false, Option, Some, None, IfSome, Result, Ok, Err, List, [], ◌∷◌, length, codes, decimal}
use Rattle.std.specs.List.{list_all}
use Rattle.std.specs.Io.KnownBytes.{append_known}
use Rattle.model_system.specs.System.{System}
use Rattle.openings.specs.declared.life.Life.{Life}
use Rattle.tm_edge.specs.Fault.{HasRisen, AppendsFront}
use Rattle.tm_edge.specs.Lines.{cut_lines, lines_of, is_short_line}
use Rattle.tm_session.specs.declared.outcome.Ended.{Ended}
use Rattle.tm_session.specs.declared.outcome.Ended.TheVariants.{Done, Words, BadLine, BadCross, Down, Read, Write, Image, Memory, Limit, Spent}
use Rattle.model_session.specs.declared.asked.ImageRefused.TheVariants.{Rule, Text, Size}
use Rattle.model_session.specs.Blocks.{Block, blocks_of}
use Rattle.model_session.specs.SessionState.{Stop}
use Rattle.tm_disk.specs.Disk.{DiskState, FailedSince}
use Rattle.sysdef_text.specs.DefinitionEnd.{definition_lines, lines_behind}
use Rattle.tm_session.specs.DefinedSystem.{judged_definition, text_of_definition}
use Rattle.tm_session.specs.Outcome.{HasCause}
use Rattle.tm_session.specs.Headline.{IsSession, CountsDisk, IsDiskValid, IsDiskOpened, IsFoundDisk, AskNoColdStart, Defines}
use Rattle.tm_prog.specs.declared.words.Workload.{Workload}
use Rattle.tm_prog.specs.Words.{WordFault, word_fault, workload_of}
use Rattle.tm_prog.specs.Workload.{IsWorkload}

-- The line that a status ends with; 0 and 5 have none.
abbrev pub session_status_text : Ended → List ℕ
session_status_text Done = []
session_status_text (Words word rule) = codes "STATUS 1 WORD " ++ decimal word ++ codes " RULE " ++ decimal rule ++ 10 ∷ []
session_status_text (BadLine line rule) = codes "STATUS 2 LINE " ++ decimal line ++ codes " RULE " ++ decimal rule ++ 10 ∷ []
session_status_text (BadCross line rule) = codes "STATUS 2 LINE " ++ decimal line ++ codes " CROSS " ++ decimal rule ++ 10 ∷ []
session_status_text Down = codes "STATUS 3 DOWN" ++ 10 ∷ []
session_status_text (Image (Rule rule sector)) = codes "STATUS 6 RULE " ++ decimal rule ++ codes " SECTOR " ++ decimal sector ++ 10 ∷ []
session_status_text (Image (Text place)) = codes "STATUS 6 TEXT " ++ decimal place ++ 10 ∷ []
session_status_text (Image (Size needed has)) = codes "STATUS 6 SIZE " ++ decimal needed ++ 32 ∷ [] ++ decimal has ++ 10 ∷ []
session_status_text Read = codes "STATUS 4 READ" ++ 10 ∷ []
session_status_text Write = []
session_status_text Memory = codes "STATUS 7 MEMORY" ++ 10 ∷ []
session_status_text (Limit n) = codes "STATUS 9 LIMIT " ++ decimal n ++ 10 ∷ []
session_status_text Spent = codes "STATUS 9 LIMIT 1000000000000000000" ++ 10 ∷ []

-- The last line was written behind the others, and the sink met no fault; or writing it failed, and a
-- front of it was written. A status without a line writes nothing.
abbrev pub IsLastLine : Option (List ℕ) → Option (List ℕ) → List ℕ → ℕ → ℕ → Type 0
IsLastLine old new [] faults_old faults_new = (new ≡ old) × (faults_new ≡ faults_old)
IsLastLine old new (b ∷ line) faults_old faults_new =
    ((new ≡ append_known old (b ∷ line)) × (faults_new ≡ faults_old))
    ⊎ (AppendsFront old new (b ∷ line) × HasRisen faults_old faults_new)

-- Words that break a rule are told, unless memory is wanting, and nothing else is done.
pub record AreWordsRefused {D : Type 0} (fault : WordFault) (old new : Option (List ℕ)) (handed disk : D) (status : Ended) (lives : List Life) (stops : List Stop) : Type 0 where
  pub status_is : (status ≡ Words fault.word fault.rule) ⊎ (status ≡ Memory)
  pub no_life : lives ≡ []
  pub no_stop : stops ≡ []
  pub nothing : new ≡ old
  pub same : disk ≡ handed

-- Otherwise the session is served: that of a workload, and then the source isn't touched; or that of the source.
abbrev pub IsSessionServed : {D : Type 0} → (D → DiskState) → Option Workload → Option (List ℕ) → Option (List ℕ) → Option (List ℕ) → Option (List ℕ) → List ℕ → D → D → Ended → List Life → List Stop → Type 0
IsSessionServed state (Some workload) told left old new summary handed disk status lives stops =
    (left ≡ told) × IsWorkload state workload old new summary handed disk status lives stops
IsSessionServed state None told left old new summary handed disk status lives stops =
    (summary ≡ []) × IsSession state told left old new handed disk status lives stops

abbrev pub IsByWords : {D : Type 0} → (D → DiskState) → Option WordFault → Option Workload → Option (List ℕ) → Option (List ℕ) → Option (List ℕ) → Option (List ℕ) → List ℕ → D → D → Ended → List Life → List Stop → Type 0
IsByWords state (Some fault) workload told left old new summary handed disk status lives stops =
    (summary ≡ []) × AreWordsRefused fault old new handed disk status lives stops
IsByWords state None workload told left old new summary handed disk status lives stops =
    IsSessionServed state workload told left old new summary handed disk status lives stops

-- A run: what the words ask for is done, which has its cause in the counts of faults; and then the status line is printed, where
-- the status has one. Before it stands the summary of a workload whose session was not run to its end.
pub record IsRun {D : Type 0} (state : D → DiskState) (words : List (List ℕ)) (told left old new : Option (List ℕ)) (handed disk : D) (status : Ended) (lives : List Life) (stops : List Stop) (reads_old reads_new writes_old writes_new : ℕ) : Type 0 where
  pub before : Option (List ℕ)
  pub summary : List ℕ
  pub writes : ℕ
  pub session : IsByWords state (word_fault words) (workload_of words) told left old before summary handed disk status lives stops
  pub cause : HasCause status reads_old reads_new writes_old writes
  pub last : IsLastLine before new (summary ++ session_status_text status) writes writes_new

-- no limit is met in these bytes: at most a million lines, none of 4,097 bytes or more
abbrev pub IsWithinLimits : Option (List ℕ) → Type 0
IsWithinLimits (Some bytes) = (length (cut_lines bytes) ≤ 1000000) × (list_all is_short_line (cut_lines bytes) ≡ true)
IsWithinLimits None = ⊥

-- a status that the disk decides: it can't be opened, a counter of it is spent, or it failed
abbrev pub is_by_disk : Ended → Bool
is_by_disk Down = true
is_by_disk (Image refusal) = true
is_by_disk Spent = true
is_by_disk _ = false

-- The status where the definition breaks no rule is 0, memory was wanting, or the disk decides it. Where the disk didn't fail there
-- is no stop; where it was valid too, only a spent counter is left of what the disk decides. Where there is no stop, a status of 0 comes
-- of a disk alone that has sectors enough, and that could be opened where it tells its contents; and where none of the session's
-- blocks asks for a cold start, of one alone that a life could begin with, whatever openings had failed before.
pub record IsServedWhole (system : System) (text : List ℕ) (blocks : List Block) (handed disk : DiskState) (status : Ended) (stops : List Stop) : Type 0 where
  pub status_is : (status ≡ Done) ⊎ ((status ≡ Memory) ⊎ (is_by_disk status ≡ true))
  pub calm : ¬ FailedSince handed disk → stops ≡ []
  pub valid : ¬ FailedSince handed disk → IsDiskValid system text handed → (status ≡ Done) ⊎ ((status ≡ Memory) ⊎ (status ≡ Spent))
  pub opened : stops ≡ [] → status ≡ Done → IsDiskOpened system text handed
  pub found : AskNoColdStart system blocks → status ≡ Done → IsFoundDisk system text handed

-- Where nothing else comes between, a definition that breaks a rule has the status of that rule, or memory was wanting.
abbrev pub IsServedBy : Result System Ended → List ℕ → List Block → DiskState → DiskState → Ended → List Stop → Type 0
IsServedBy (Ok system) text blocks handed disk status stops = IsServedWhole system text blocks handed disk status stops
IsServedBy (Err ended) text blocks handed disk status stops = (status ≡ ended) ⊎ (status ≡ Memory)

abbrev pub IsComplete : Option (List ℕ) → DiskState → DiskState → Ended → List Stop → Type 0
IsComplete (Some bytes) handed disk status stops =
    IsServedBy (judged_definition (definition_lines (lines_of bytes))) (text_of_definition (definition_lines (lines_of bytes))) (blocks_of (lines_behind (lines_of bytes))) handed disk status stops
IsComplete None handed disk status stops = Unit {0}

-- A counter stood at 900,000,000,000,000,000 or above in the disk that was handed in, for the system that the source defines; of a disk
-- that doesn't tell its contents nothing is said.
pub record IsNearLimit (told : Option (List ℕ)) (handed : DiskState) : Type 0 where
  pub system : System
  pub defines : IfSome told (λ bytes. Defines bytes system)
  pub near : (high : ℕ) → CountsDisk system high handed → 900000000000000000 ≤ high

-- that a counter is spent is told of such a disk alone
abbrev pub IsNear : Option (List ℕ) → DiskState → Ended → Type 0
IsNear told handed Spent = IsNearLimit told handed
IsNear told handed _ = Unit {0}

-- the number of a status
abbrev pub status_number : Ended → ℕ
status_number Done = 0
status_number (Words word rule) = 1
status_number (BadLine line rule) = 2
status_number (BadCross line rule) = 2
status_number Down = 3
status_number (Image refusal) = 6
status_number Spent = 9
status_number Read = 4
status_number Write = 5
status_number Memory = 7
status_number (Limit n) = 9
