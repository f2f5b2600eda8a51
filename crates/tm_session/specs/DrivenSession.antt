-- A session as it is driven, line by line and block by block.
use Rattle.std.specs.Prelude.{◌≡◌, ◌≢◌, ℕ, ◌+◌, ◌≤◌, ◌⊎◌, Bool, true, false, Option, Some, None, IfSome, if◌then◌else◌, List, [], ◌∷◌, ◌++◌, length}
use Rattle.std.specs.Io.KnownBytes.{append_known}
use Rattle.text_rows.specs.Lines.{is_passed_over}
use Rattle.model_session.specs.Blocks.{Block, blocks_of, blocks_behind, line_before, takes_further, closed_blocks}
use Rattle.model_session.specs.SessionState.{Setting, SessionState}
use Rattle.model_session.specs.Session.{AreServed}
use Rattle.model_session.specs.Text.{broken_text}
use Rattle.tm_edge.specs.Fault.{AppendsFront}
use Rattle.tm_edge.specs.Lines.{CutLine, HasServed, ServesTold}
use Rattle.tm_session.specs.declared.outcome.Ended.{Ended}
use Rattle.tm_session.specs.declared.outcome.Ended.TheVariants.{Done, Down, Write, Memory, Limit, Spent, Image}
use Rattle.session_lives.specs.declared.called.Served.{Served}
use Rattle.session_lives.specs.declared.called.Served.TheVariants.{Printed, Broke, Undone as NotServed}
use Rattle.session_lives.specs.declared.called.Undone.{Undone}
use Rattle.session_lives.specs.declared.called.Undone.TheVariants.{Memory as NoMemory, Spent as SpentCounter, Image as BadImage}
use Rattle.tm_session.specs.Outcome.{ending_of, texts_of_lines, HasWrittenText, IsLeftBehind, is_undone, UndoneAs, AreSettled, IsAtLimit, IsTextBack}
use Rattle.tm_session.specs.Outcome.Ending.{Stopped, NotBegun}

-- ---- blocks that were served

-- these blocks were served, and their text was written
pub record ServesBlocks (setting : Setting) (blocks : List Block) (written written' : Option (List ℕ)) (old new : SessionState) : Type 0 where
  pub text : List ℕ
  pub served : AreServed setting blocks old new text
  pub printed : written' ≡ append_known written text

-- These blocks were served, and the others were not; the session ended there, with what comes behind the blocks.
pub record Stops (setting : Setting) (ended : Ended) (blocks others : List Block) (written written' : Option (List ℕ)) (old new : SessionState) : Type 0 where
  pub mid : SessionState
  pub text : List ℕ
  pub served : AreServed setting blocks old mid text
  pub end_text : List ℕ
  pub behind : IsLeftBehind ended setting.system others mid new end_text
  pub undone : UndoneAs ended others setting new
  pub printed : HasWrittenText written written' (text ++ end_text) ended

-- serving this block failed: its text was not written whole, or it could not be served
pub record FailsWriting (setting : Setting) (ended : Ended) (block : Block) (written written' : Option (List ℕ)) (old new : SessionState) : Type 0 where
  pub writing : ended ≡ Write
  pub stops : (others : List Block) → Stops setting Write (block ∷ []) others written written' old new

pub record FailsServing (setting : Setting) (ended : Ended) (block : Block) (written written' : Option (List ℕ)) (old new : SessionState) : Type 0 where
  pub undone : is_undone ended ≡ true
  pub stops : (others : List Block) → Stops setting ended [] (block ∷ others) written written' old new

abbrev pub FailsAt : Setting → Ended → Block → Option (List ℕ) → Option (List ℕ) → SessionState → SessionState → Type 0
FailsAt setting ended block written written' old new =
    FailsWriting setting ended block written written' old new ⊎ FailsServing setting ended block written written' old new

-- how a session ends at a block that could not be served
abbrev pub session_ended_by : Undone → Ended
session_ended_by NoMemory = Memory
session_ended_by SpentCounter = Spent
session_ended_by (BadImage refusal) = Image refusal

-- a text was written whole, or a front of it where writing failed
abbrev pub IsTextWritten : Option (List ℕ) → Option (List ℕ) → List ℕ → Option Ended → Type 0
IsTextWritten written written' text None = written' ≡ append_known written text
IsTextWritten written written' text (Some ended) = (ended ≡ Write) × AppendsFront written written' text

-- how a session ends whose source was read to its end and whose last text could be written so
abbrev pub end_by : Option Ended → Ended
end_by None = Done
end_by (Some ended) = ended

-- so it was for a block that was served so
abbrev pub IsBlockFinished : List ℕ → Served → Option (List ℕ) → Option (List ℕ) → Option Ended → Type 0
IsBlockFinished text Printed written written' ended = IsTextWritten written written' text ended
IsBlockFinished text Broke written written' ended = IsTextWritten written written' broken_text ended
IsBlockFinished text (NotServed undone) written written' ended = (written' ≡ written) × (ended ≡ Some (session_ended_by undone))

-- ---- lines that were read

-- the blocks of a line and of those that the lines behind it make
abbrev pub line_blocks : List ℕ → List Block → List Block
line_blocks line behind = if is_passed_over line then behind else line_before line behind

-- the same, behind a line that may still take `+` lines
abbrev pub ahead_with : Option Block → List ℕ → List Block → List Block
ahead_with pending line behind = blocks_behind pending (line_blocks line behind)

-- a line that may still take `+` lines
abbrev pub IsBlockOpen : Block → Type 0
IsBlockOpen block = takes_further block.line ≡ true

-- What was served are the closed blocks: a line that is kept may still take `+` lines; where none is kept,
-- no `+` line can belong to the last one.
abbrev pub AreClosed : Option Block → List Block → Type 0
AreClosed (Some block) served = IsBlockOpen block
AreClosed None served = closed_blocks served ≡ served

-- A line was read behind what was kept, and then other is kept: some blocks were served, whatever lines
-- come behind.
pub record SessionGoes (setting : Setting) (pending : Option Block) (line : List ℕ) (after : Option Block) (written written' : Option (List ℕ)) (old new : SessionState) : Type 0 where
  pub blocks : List Block
  pub split : (behind : List Block) → ahead_with pending line behind ≡ blocks ++ blocks_behind after behind
  pub shut : (served : List Block) → (is_passed_over line ≡ true → AreClosed pending served) → AreClosed after (served ++ blocks)
  pub serves : ServesBlocks setting blocks written written' old new

-- writing failed, or a block could not be served
abbrev pub IsSessionBroken : Ended → Type 0
IsSessionBroken ended = (ended ≡ Write) ⊎ (is_undone ended ≡ true)

-- The session broke off at a line that was read: a front of the closed blocks was served.
pub record SessionEnds (setting : Setting) (ended : Ended) (pending : Option Block) (line : List ℕ) (written written' : Option (List ℕ)) (old new : SessionState) : Type 0 where
  pub broken : IsSessionBroken ended
  pub blocks : List Block
  pub others : List Block
  pub front : (served : List Block) → closed_blocks (served ++ ahead_with pending line []) ≡ served ++ (blocks ++ others)
  pub stops : Stops setting ended blocks others written written' old new

-- the block that was kept, if one was
abbrev pub kept_blocks : Option Block → List Block
kept_blocks pending = blocks_behind pending []

-- The session ended with the source: what was kept was served, and what lasts was forced; or that broke off.
pub record EndsWhole (setting : Setting) (ended : Ended) (pending : Option Block) (written written' : Option (List ℕ)) (old new : SessionState) : Type 0 where
  pub blocks : List Block
  pub others : List Block
  pub settled : ((ended ≡ Done) × (kept_blocks pending ≡ blocks) × (others ≡ [])) ⊎ (IsSessionBroken ended × (kept_blocks pending ≡ blocks ++ others))
  pub stops : Stops setting ended blocks others written written' old new

-- ---- where a session ended

-- The same bytes lie before the reader; but behind a limit it may have gone on.
abbrev pub may_pass : Ended → Bool
may_pass (Limit n) = true
may_pass _ = false

abbrev pub IsTextBehind : Bool → Option (List ℕ) → Option (List ℕ) → Type 0
IsTextBehind true told told' = IsTextBack told told'
IsTextBehind false told told' = told' ≡ told

-- a limit that is met behind the last line is the one of lines
abbrev pub behind_last : Ended → Ended
behind_last (Limit n) = Limit 1000001
behind_last ended = ended

-- It ended before a line, behind so many in all: a limit was met, reading failed or memory was wanting.
pub record StopsBetween (count : ℕ) (ended : Ended) (told told' : Option (List ℕ)) (written written' : Option (List ℕ)) (old new : SessionState) : Type 0 where
  pub stopped : (ending_of ended ≡ Stopped) ⊎ (ended ≡ Memory)
  pub behind : IsTextBehind (may_pass ended) told told'
  pub limit : IfSome told (IsAtLimit ended count)
  pub printed : written' ≡ written
  pub same : new ≡ old

-- It ended at a line that was read.
pub record StopsAt (setting : Setting) (ended : Ended) (told told' : Option (List ℕ)) (pending : Option Block) (written written' : Option (List ℕ)) (old new : SessionState) : Type 0 where
  pub line : List ℕ
  pub read : ServesTold told (Some line) told'
  pub ends : SessionEnds setting ended pending line written written' old new

-- It ended with the source.
pub record StopsWhole (setting : Setting) (ended : Ended) (told told' : Option (List ℕ)) (pending : Option Block) (written written' : Option (List ℕ)) (old new : SessionState) : Type 0 where
  pub read : ServesTold told None told'
  pub ends : EndsWhole setting ended pending written written' old new

-- behind so many lines in all, of which there may be a million
abbrev pub StopsLast : Setting → ℕ → Ended → Option (List ℕ) → Option (List ℕ) → Option Block → Option (List ℕ) → Option (List ℕ) → SessionState → SessionState → Type 0
StopsLast setting count ended told told' pending written written' old new =
    StopsBetween count ended told told' written written' old new ⊎ StopsWhole setting ended told told' pending written written' old new

abbrev pub StopsHere : Setting → ℕ → Ended → Option (List ℕ) → Option (List ℕ) → Option Block → Option (List ℕ) → Option (List ℕ) → SessionState → SessionState → Type 0
StopsHere setting count ended told told' pending written written' old new =
    StopsLast setting count ended told told' pending written written' old new ⊎ StopsAt setting ended told told' pending written written' old new

-- a line was read, and some blocks were served
pub record SessionSteps (setting : Setting) (told told' : Option (List ℕ)) (pending pending' : Option Block) (written written' : Option (List ℕ)) (old new : SessionState) : Type 0 where
  pub line : List ℕ
  pub read : ServesTold told (Some line) told'
  pub goes : SessionGoes setting pending line pending' written written' old new

-- ---- a session so far

-- The lines that were read behind so many others, so that there are so many in all; and the blocks that
-- were served of them, whatever lines come behind.
pub record ReadsBlocks (before count : ℕ) (bytes rest : List ℕ) (pending : Option Block) (blocks : List Block) : Type 0 where
  pub cut : List CutLine
  pub counted : before + length cut ≡ count
  pub served : HasServed bytes cut rest
  pub split : (lines : List (List ℕ)) → blocks_of (texts_of_lines cut ++ lines) ≡ blocks ++ blocks_behind pending (blocks_of lines)

abbrev pub ReadSoFar : ℕ → ℕ → Option (List ℕ) → Option (List ℕ) → Option Block → List Block → Type 0
ReadSoFar before count (Some bytes) (Some rest) pending blocks = ReadsBlocks before count bytes rest pending blocks
ReadSoFar before count (Some bytes) None pending blocks = ⊥
ReadSoFar before count None told pending blocks = told ≡ None

-- Each line that was read makes one block at most: those that were served, and the one that is kept.
pub record SoFar (setting : Setting) (before count : ℕ) (told told' : Option (List ℕ)) (pending : Option Block) (written written' : Option (List ℕ)) (old new : SessionState) : Type 0 where
  pub blocks : List Block
  pub serves : ServesBlocks setting blocks written written' old new
  pub read : ReadSoFar before count told told' pending blocks
  pub shut : AreClosed pending blocks
  pub few : before + length blocks + length (kept_blocks pending) ≤ count

-- What was read of the bytes of a session, before which so many lines stood; these bytes lie before the
-- reader then.
pub record ReadsSession (before : ℕ) (bytes left : List ℕ) (blocks others : List Block) (ended : Ended) : Type 0 where
  pub cut : List CutLine
  pub rest : List ℕ
  pub served : HasServed bytes cut rest
  pub few : before + length cut ≤ 1000000
  pub settled : AreSettled (ending_of ended) (texts_of_lines cut) rest blocks others
  pub limit : IsAtLimit ended (before + length cut) rest
  pub behind : IsTextBehind (may_pass ended) (Some rest) (Some left)

abbrev pub ReadsTold : ℕ → Option (List ℕ) → Option (List ℕ) → List Block → List Block → Ended → Type 0
ReadsTold before (Some bytes) (Some left) blocks others ended = ReadsSession before bytes left blocks others ended
ReadsTold before (Some bytes) None blocks others ended = ⊥
ReadsTold before None left blocks others ended = left ≡ None

-- Some blocks were served one after another, a million at most, and then the session ended. That the system is down is told later.
pub record HasDriven (setting : Setting) (before : ℕ) (told told' written written' : Option (List ℕ)) (old new : SessionState) (ended : Ended) : Type 0 where
  pub blocks : List Block
  pub others : List Block
  pub begun : ending_of ended ≢ NotBegun
  pub not_down : ended ≢ Down
  pub few : length blocks ≤ 1000000
  pub stops : Stops setting ended blocks others written written' old new
  pub read : ReadsTold before told told' blocks others ended
