-- Why a session is told that a counter is spent.
use Rattle.std.specs.Prelude.{◌≡◌, ℕ, ◌+◌, ◌*◌, ◌≤◌, true, Some}
use Rattle.model_machine.specs.declared.counts.Counter.{Counter}
use Rattle.model_machine.specs.Machine.{LastingState}
use Rattle.model_session.specs.Lives.{now_in}
use Rattle.model_session.specs.SessionState.{MayBeFound, Outage, SessionState, Setting, Standing}
use Rattle.model_session.specs.SessionState.Standing.{Up, Down}
use Rattle.openings.specs.OpenedImage.{counters, first_spent}
use Rattle.session_law.specs.Measures.{call_raises, measure}

-- None of the disk's own counters is above a bound.
pub record OwnUpTo (high epoch sequence checkpoint unit : ℕ) : Type 0 where
  pub epoch_low : epoch ≤ high
  pub sequence_low : sequence ≤ high
  pub checkpoint_low : checkpoint ≤ high
  pub unit_low : unit ≤ high

-- A counter is spent where what lasts is this. The disk's own counters stand no higher than up to where the disk handed in counts,
-- and 4,096 more for each opening, entry and stop.
pub record HasSpent (counts : ℕ → Type 0) (did : ℕ) (state : LastingState) : Type 0 where
  pub epoch : ℕ
  pub sequence : ℕ
  pub checkpoint : ℕ
  pub unit : ℕ
  pub counter : Counter
  pub spent : first_spent (counters epoch sequence checkpoint unit state) ≡ Some counter
  pub own : (high : ℕ) → counts high → OwnUpTo (high + call_raises * did) epoch sequence checkpoint unit

-- a counter is spent of what is found
pub record FindsSpent (counts : ℕ → Type 0) (did : ℕ) (setting : Setting) (outage : Outage) : Type 0 where
  pub kept : ℕ
  pub state : LastingState
  pub found : MayBeFound setting outage kept state
  pub spent : HasSpent counts did state

-- of the life while the system is up, and else of what the disk holds, where that tells its contents
abbrev pub IsSpentBy : Standing → (ℕ → Type 0) → ℕ → Setting → Type 0
IsSpentBy (Up life) counts did setting = HasSpent counts did (now_in setting.system life).lasting
IsSpentBy (Down outage) counts did setting = setting.tells ≡ true → FindsSpent counts did setting outage

-- A counter is spent where a session stands. The disk handed in counts up to these bounds.
abbrev pub IsSpentAt : (ℕ → Type 0) → Setting → SessionState → Type 0
IsSpentAt counts setting state = IsSpentBy state.standing counts (measure state) setting
