-- How a session ends, and what it has done.
use Rattle.std.specs.Prelude.{◌≡◌, ◌≢◌, ℕ, ◌<◌, ◌⊎◌, Bool, true, false, Option, Some, None, List, [], ◌∷◌, ◌++◌, map}
use Rattle.std.specs.Io.KnownBytes.{append_known, IsAtEnd}
use Rattle.model_system.specs.System.{System}
use Rattle.model_session.specs.Blocks.{Block, blocks_of, closed_blocks}
use Rattle.model_session.specs.Lines.{asked_of}
use Rattle.model_session.specs.SessionState.{Setting, SessionState, Standing, is_session_stopped}
use Rattle.model_session.specs.Text.{broken_text}
use Rattle.model_session.specs.Session.{IsSessionBegun, IsSourceEnded}
use Rattle.session_lives.specs.declared.called.Undone.TheVariants.{Spent as SpentCounter, Image as BadImage}
use Rattle.session_lives.specs.Openings.{UndoneBy}
use Rattle.tm_edge.specs.Fault.{HasRisen, AppendsFront}
use Rattle.tm_edge.specs.Lines.{CutLine, IsLineTooLong}
use Rattle.tm_session.specs.declared.outcome.Ended.{Ended}
use Rattle.tm_session.specs.declared.outcome.Ended.TheVariants.{Done, Words, BadLine, BadCross, Down, Read, Write, Image, Memory, Limit, Spent}

-- ---- ways to end

-- A session ends with its source. It stops between two lines, where a limit is met or reading fails. It
-- breaks off, for want of memory, where writing fails, or at a block that it can't serve: a counter is spent, or the disk can't
-- be opened. Or it never begins.
pub data Ending : Type 0 where
  Whole : Ending
  Stopped : Ending
  BrokenOff : Ending
  NotBegun : Ending

abbrev pub ending_of : Ended → Ending
ending_of Done = Whole
ending_of Read = Stopped
ending_of (Limit n) = Stopped
ending_of Write = BrokenOff
ending_of Memory = BrokenOff
ending_of Spent = BrokenOff
ending_of (Image refusal) = BrokenOff
ending_of Down = Whole
ending_of (Words word rule) = NotBegun
ending_of (BadLine line rule) = NotBegun
ending_of (BadCross line rule) = NotBegun

-- ---- what was read

-- A limit that was met behind so many lines: the next line has 4,097 bytes or more; or a million lines
-- were read, and more bytes are there.
abbrev pub IsLimit : ℕ → ℕ → List ℕ → Type 0
IsLimit n count rest =
    ((n ≡ 4097) × (count < 1000000) × IsLineTooLong rest)
    ⊎ ((n ≡ 1000001) × (count ≡ 1000000) × (rest ≢ []))

abbrev pub IsAtLimit : Ended → ℕ → List ℕ → Type 0
IsAtLimit (Limit n) count rest = IsLimit n count rest
IsAtLimit _ count rest = Unit {0}

-- the texts of lines that were read
abbrev pub texts_of_lines : List CutLine → List (List ℕ)
texts_of_lines cut = map (λ (line : CutLine). line.text) cut

-- Which blocks of the lines that were read were served, and which weren't; these bytes lie behind the
-- lines. At the source's end all were. Between two lines just the closed ones were. Where a session broke
-- off, a front of the closed ones was, or at the source's end a front of all.
abbrev pub AreSettled : Ending → List (List ℕ) → List ℕ → List Block → List Block → Type 0
AreSettled Whole lines rest blocks others = (rest ≡ []) × (blocks_of lines ≡ blocks) × (others ≡ [])
AreSettled Stopped lines rest blocks others = (closed_blocks (blocks_of lines) ≡ blocks) × (others ≡ [])
AreSettled BrokenOff lines rest blocks others =
    (closed_blocks (blocks_of lines) ≡ blocks ++ others) ⊎ ((rest ≡ []) × (blocks_of lines ≡ blocks ++ others))
AreSettled NotBegun lines rest blocks others = ⊥

-- bytes were taken from the front of those that are told, and from nowhere else
abbrev pub IsTextBack : Option (List ℕ) → Option (List ℕ) → Type 0
IsTextBack (Some old) (Some new) = (front : List ℕ) × (old ≡ front ++ new)
IsTextBack (Some old) None = ⊥
IsTextBack None new = new ≡ None

-- a session that is done has read the source to its end
abbrev pub IsReadToEnd : Ended → Option (List ℕ) → Type 0
IsReadToEnd Done left = IsAtEnd left
IsReadToEnd Down left = IsAtEnd left
IsReadToEnd _ left = Unit {0}

-- ---- what was written

-- The text was written behind what the sink had; where writing failed, a front of it.
abbrev pub HasWrittenText : Option (List ℕ) → Option (List ℕ) → List ℕ → Ended → Type 0
HasWrittenText old new text Write = AppendsFront old new text
HasWrittenText old new text _ = new ≡ append_known old text

-- a block could not be served
abbrev pub is_undone : Ended → Bool
is_undone Memory = true
is_undone Spent = true
is_undone (Image refusal) = true
is_undone _ = false

-- nothing comes behind the blocks that were served
abbrev pub IsNothingBehind : SessionState → SessionState → List ℕ → Type 0
IsNothingBehind old new text = (new ≡ old) × (text ≡ [])

-- where a block could not be served, the turns of a QUIET that broke off, which is the first block that was not served
abbrev pub IsBegunBehind : System → List Block → SessionState → SessionState → List ℕ → Type 0
IsBegunBehind system others old new text = IsSessionBegun system others old new × (text ≡ [])

-- the source was read to its end, and the disk failed in the force behind that, of which the text could not be written whole
abbrev pub IsEndBehind : System → List Block → SessionState → SessionState → List ℕ → Type 0
IsEndBehind system others old new text = (others ≡ []) × (text ≡ broken_text) × IsSourceEnded system old new text

-- What comes behind the blocks that were served, with its text. With the source's end all that lasts is forced, or the disk fails in that.
-- Where the session broke off or stopped before, nothing does but the turns of a QUIET.
abbrev pub IsLeftBehind : Ended → System → List Block → SessionState → SessionState → List ℕ → Type 0
IsLeftBehind Done system others old new text = IsSourceEnded system old new text
IsLeftBehind Down system others old new text = IsSourceEnded system old new text
IsLeftBehind Write system others old new text = IsNothingBehind old new text ⊎ IsEndBehind system others old new text
IsLeftBehind Memory system others old new text = IsBegunBehind system others old new text
IsLeftBehind Spent system others old new text = IsBegunBehind system others old new text
IsLeftBehind (Image refusal) system others old new text = IsBegunBehind system others old new text
IsLeftBehind _ system others old new text = IsNothingBehind old new text

-- Why the first of these blocks could not be served: a counter is spent, or no life has begun and the disk can't be opened.
abbrev pub UndoneAs : Ended → List Block → Setting → SessionState → Type 0
UndoneAs Spent (block ∷ others) setting last = UndoneBy SpentCounter (asked_of setting.system block) setting last
UndoneAs Spent [] setting last = ⊥
UndoneAs (Image refusal) (block ∷ others) setting last = UndoneBy (BadImage refusal) (asked_of setting.system block) setting last
UndoneAs (Image refusal) [] setting last = ⊥
UndoneAs _ others setting last = Unit {0}

-- whether the system is down by a stop, at the end of the source
abbrev pub IsBy : Ended → Standing → Type 0
IsBy Done standing = is_session_stopped standing ≡ false
IsBy Down standing = is_session_stopped standing ≡ true
IsBy _ standing = Unit {0}

-- ---- causes

-- What a session's end says of the counts of faults, of reading and of writing: the one that is its cause
-- rose, and no other. A limit is told by its number.
abbrev pub HasCause : Ended → ℕ → ℕ → ℕ → ℕ → Type 0
HasCause Read reads_old reads_new writes_old writes_new = HasRisen reads_old reads_new × (writes_new ≡ writes_old)
HasCause Write reads_old reads_new writes_old writes_new = (reads_new ≡ reads_old) × HasRisen writes_old writes_new
HasCause (Limit n) reads_old reads_new writes_old writes_new =
    ((n ≡ 4097) ⊎ (n ≡ 1000001)) × (reads_new ≡ reads_old) × (writes_new ≡ writes_old)
HasCause _ reads_old reads_new writes_old writes_new = (reads_new ≡ reads_old) × (writes_new ≡ writes_old)
