-- What is sent again in a whole session.
use Rattle.std.specs.Prelude.{◌≡◌, ◌≤◌, ◌+◌, ℕ, Option, List, length, map, IsTrue}
use Rattle.std.specs.List.{AllByRecursion}
use Rattle.tm_disk.specs.Disk.{DiskState}
use Rattle.model_system.specs.System.{System}
use Rattle.model_session.specs.Blocks.{Block}
use Rattle.model_session.specs.Lives.{LifeState}
use Rattle.model_session.specs.SessionState.{Stop}
use Rattle.openings.specs.declared.life.Life.{Life}
use Rattle.session_law.specs.SentAgain.{AreLeft, AreLinked, KnowsInputs}
use Rattle.session_law.specs.ShownAgain.{ShowsReplies}
use Rattle.session_law.specs.SerialOrder.{EndsInOrder}
use Rattle.session_law.specs.ColdRuns.{colds_in, joined, AreEmptyBehind}
use Rattle.session_lives.specs.RunningSession.{life_of}
use Rattle.tm_session.specs.declared.outcome.Ended.{Ended}
use Rattle.tm_session.specs.Headline.{HasSession, AskNoColdStart}

-- Each life opened with what the one before it left, of which so many lasting steps are kept, and with a checkpoint of a higher number.
-- So an input under a number is answered as accepted before exactly where its step was kept, and is taken as new exactly where it was
-- not; and a reply that was shown is shown again until it is acknowledged or dequeued, and never behind an acknowledgement whose step was kept. The
-- messages of a serial code are completed or abended in the ascending order of their ids.
pub record IsAnsweredAsKept (system : System) (lives : List LifeState) : Type 0 where
  pub linked : AreLinked system lives
  pub inputs : KnowsInputs system lives
  pub replies : ShowsReplies system lives
  pub serial : EndsInOrder system lives

-- The same of lives each of which opened with what the one before it left, whatever the numbers of checkpoints.
pub record IsRunAnswered (system : System) (lives : List LifeState) : Type 0 where
  pub left : AreLeft system lives
  pub inputs : KnowsInputs system lives
  pub replies : ShowsReplies system lives
  pub serial : EndsInOrder system lives

-- The lives fall into runs that are answered so, one behind the other. There is one more than cold starts at most, and each but the first
-- opened with the empty state.
pub record IsAnsweredBetween (system : System) (colds : ℕ) (lives : List LifeState) : Type 0 where
  pub runs : List (List LifeState)
  pub all : lives ≡ joined runs
  pub few : length runs ≤ colds + 1
  pub each : AllByRecursion (IsRunAnswered system) runs
  pub behind : AreEmptyBehind system runs

-- All lives where no block asks for a cold start; and else those between cold starts.
pub record IsAnsweredBehind (system : System) (blocks : List Block) (lives : List LifeState) : Type 0 where
  pub warm : AskNoColdStart system blocks → IsAnsweredAsKept system lives
  pub between : IsAnsweredBetween system (colds_in system blocks) lives

-- So it is in each session over a disk that tells its contents.
abbrev pub AnswersAsKept : {D : Type 0} → (D → DiskState) → D → D → List Life → List Stop → Type 0
AnswersAsKept {D} state handed disk lives stops =
    (ended : Ended) (told left old new : Option (List ℕ)) (session : HasSession state told left old new handed disk ended lives stops)
    → IsTrue (state handed).tells → IsAnsweredBehind session.system session.lived.blocks (map life_of lives)
