-- How a session is left behind the blocks that were served.
use Rattle.std.specs.Prelude.{◌≡◌, ◌⊎◌, ℕ, List}
use Rattle.model_system.specs.System.{System}
use Rattle.model_session.specs.Blocks.{Block}
use Rattle.model_session.specs.SessionState.{SessionState}
use Rattle.model_session.specs.Session.{IsSessionBegun, IsSourceEnded}

-- It is left as it is; or with the turns of a QUIET that broke off; or its source has ended, and this was printed for that.
abbrev pub IsLeftOver : System → List Block → SessionState → SessionState → Type 0
IsLeftOver system others mid last = (last ≡ mid) ⊎ (IsSessionBegun system others mid last ⊎ ((text : List ℕ) × IsSourceEnded system mid last text))
