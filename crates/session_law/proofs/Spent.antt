-- A counter comes to its limit only where it was near it.
use Rattle.std.proofs.Common.{◌≡◌, ℕ, ◌+◌, ◌*◌, ◌≤◌, nat_le, cond, Bool, true, false, List, [], ◌∷◌, Some, find, length, refl, sym, ap, subst, arith}
use Rattle.std.specs.List.{AllByRecursion}
use Rattle.std.specs.Option.{option_map}
use Rattle.std.proofs.lemmas.Bool.Decides.{nat_tests}
use Rattle.model_machine.specs.declared.counts.Counter.{Counter}
use Rattle.model_messages.specs.declared.replies.TerminalReplies.{TerminalReplies}
use Rattle.openings.specs.OpenedImage.{counters, first_spent, output_counters}
use Rattle.model_machine.specs.Machine.{LastingState}
use Rattle.system_types.specs.ValidSystem.{IsSystem}
use Rattle.model_system.specs.System.{System}
use Rattle.model_session.specs.Blocks.{Block}
use Rattle.model_session.specs.Lives.{LifeState, LastLife, now_in}
use Rattle.model_session.specs.SessionState.{AreAllLives, MayHold, SessionState, Setting, Standing, last_life}
use Rattle.model_session.specs.SessionState.Standing.{Up, Down}
use Rattle.model_session.specs.Session.{AreServed, BeginsSession}
use Rattle.session_law.specs.LeftOver.{IsLeftOver}
use Rattle.session_law.specs.SpentCounters.{HasSpent, IsSpentAt, IsSpentBy}
use Rattle.session_law.specs.Counts.{LastsUpTo, LivesUpTo, RepliesUpTo, most_raised}
use Rattle.session_law.specs.Measures.{call_raises, limit, lives_measure, measure, most_measure, near_limit}
use Rattle.session_law.proofs.Lasting.{lasts_higher}
use Rattle.session_law.proofs.SessionMeasures.{lives_behind, session_rises}
use Rattle.session_law.proofs.Standing.{begun_stands, blocks_stand, held_lasts, left_stands, now_lasts}

-- ---- a counter that is spent

find_above : (bound : ℕ) (counts : List (Counter × ℕ)) → AllByRecursion (λ c. c.1 ≤ bound) counts → (counter : Counter) → first_spent counts ≡ Some counter → limit ≤ bound
find_above bound [] all counter spent = cc
find_above bound (c ∷ counts) all counter spent = by (nat_le limit c.1) refl spent (find_above bound counts all.1 counter) where
  by : (b : Bool) → nat_le limit c.1 ≡ b → option_map (λ (e : Counter × ℕ). e.0) (cond b (Some c) (find (λ e. nat_le limit e.1) counts)) ≡ Some counter → (first_spent counts ≡ Some counter → limit ≤ bound) → limit ≤ bound
  by true high is more = grind (arith, nat_tests, high, all.0)
  by false high is more = more is

replies_above : (bound : ℕ) (outputs : List TerminalReplies) → RepliesUpTo bound outputs → AllByRecursion (λ (c : Counter × ℕ). c.1 ≤ bound) (output_counters outputs)
replies_above bound [] all = tt
replies_above bound (t ∷ ts) all = (all.0, replies_above bound ts all.1)

-- A counter is spent only where a bound of all of them is at the limit or above.
pub spent_above : (bound epoch sequence checkpoint unit : ℕ) (state : LastingState) (counter : Counter) → epoch ≤ bound → sequence ≤ bound → checkpoint ≤ bound → unit ≤ bound → LastsUpTo bound state
    → first_spent (counters epoch sequence checkpoint unit state) ≡ Some counter → limit ≤ bound
spent_above bound epoch sequence checkpoint unit state counter e s c u lasts spent =
    find_above bound (counters epoch sequence checkpoint unit state) (e, (s, (c, (lasts.next_id, (u, (lasts.steps, replies_above bound state.outputs lasts.replies)))))) counter spent

-- What a session of at most a million lines may do, and two calls or openings more, brings no counter to the limit that wasn't near it.
pub was_near : (high did : ℕ) → did ≤ most_measure → limit ≤ high + call_raises * (did + 2) → near_limit ≤ high
was_near high did few spent = omega (arith, few, spent)

-- the same by what a session has told: its lives and stops
pub told_measure : (system : System) (state : SessionState) (lives : List LifeState) → AreAllLives system state lives → measure state ≡ lives_measure lives + length state.stops
told_measure system state lives all = omega (arith, ap lives_measure all.are, lives_behind state.lives (last_life state.standing) all.count)

-- how far the lives of a whole session count
session_stands : (setting : Setting) → IsSystem setting.system → setting.tells ≡ true → (high : ℕ) → 1 ≤ high → ((state : LastingState) → setting.begins state → LastsUpTo high state)
    → (blocks others : List Block) (first mid last : SessionState) (text : List ℕ) → BeginsSession setting first → AreServed setting blocks first mid text → IsLeftOver setting.system others mid last
    → LivesUpTo setting high last
session_stands setting valid tells high some handed blocks others first mid last text begins served behind =
    left_stands setting valid tells high some others mid last behind (blocks_stand setting valid tells high some blocks first mid text served (begun_stands setting valid tells high some first begins handed))

-- Whatever the disk holds behind a session counts up to what the image handed in had, and 4,096 more for each opening, entry and stop.
pub session_lasts : (setting : Setting) → IsSystem setting.system → setting.tells ≡ true → (high : ℕ) → 1 ≤ high → ((state : LastingState) → setting.begins state → LastsUpTo high state)
    → (blocks others : List Block) (first mid last : SessionState) (text : List ℕ) → BeginsSession setting first → AreServed setting blocks first mid text → IsLeftOver setting.system others mid last
    → (held : LastingState) → MayHold setting last.standing held → LastsUpTo (high + call_raises * measure last) held
session_lasts setting valid tells high some handed blocks others first mid last text begins served behind held may =
    lasts_higher (high + most_raised * measure last) (high + call_raises * measure last) held (omega arith)
    (held_lasts setting valid high some last (session_stands setting valid tells high some handed blocks others first mid last text begins served behind) held may)

-- and so does what lasts of a life that is up
session_lasts_now : (setting : Setting) → IsSystem setting.system → setting.tells ≡ true → (high : ℕ) → 1 ≤ high → ((state : LastingState) → setting.begins state → LastsUpTo high state)
    → (blocks others : List Block) (first mid last : SessionState) (text : List ℕ) → BeginsSession setting first → AreServed setting blocks first mid text → IsLeftOver setting.system others mid last
    → (life : LastLife) → last.standing ≡ Up life → LastsUpTo (high + call_raises * measure last) (now_in setting.system life).lasting
session_lasts_now setting valid tells high some handed blocks others first mid last text begins served behind life stands =
    lasts_higher (high + most_raised * measure last) (high + call_raises * measure last) (now_in setting.system life).lasting (omega arith)
    (now_lasts setting valid high last (session_stands setting valid tells high some handed blocks others first mid last text begins served behind) life stands)

-- So behind a session of at most a million lines a counter is spent of what counts up to that only where the image handed in was near that:
-- the disk's own counters rise no further than by 4,096 for each opening, entry and stop.
pub near_where_spent : (setting : Setting) → (high : ℕ) → (blocks others : List Block) (first mid last : SessionState) (text : List ℕ) → length blocks ≤ 1000000 → BeginsSession setting first → AreServed setting blocks first mid text
    → IsLeftOver setting.system others mid last → (held : LastingState) → LastsUpTo (high + call_raises * measure last) held → (epoch sequence checkpoint unit : ℕ) (counter : Counter)
    → epoch ≤ high + call_raises * measure last → sequence ≤ high + call_raises * measure last → checkpoint ≤ high + call_raises * measure last → unit ≤ high + call_raises * measure last
    → first_spent (counters epoch sequence checkpoint unit held) ≡ Some counter → near_limit ≤ high
near_where_spent setting high blocks others first mid last text few begins served behind held lasts epoch sequence checkpoint unit counter e s c u spent =
    let far = spent_above (high + call_raises * measure last) epoch sequence checkpoint unit held counter e s c u lasts spent in
    was_near high (measure last) (session_rises setting blocks others first mid last text few begins served behind) (omega (arith, far))

-- ---- at a session's end

-- A session over a disk that tells its contents is told that a counter is spent only where the image handed in was near that.
pub near_at_end : (setting : Setting) → IsSystem setting.system → setting.tells ≡ true → (counts : ℕ → Type 0) (high : ℕ) → 1 ≤ high → counts high → ((state : LastingState) → setting.begins state → LastsUpTo high state)
    → (blocks others : List Block) (first mid last : SessionState) (text : List ℕ) → length blocks ≤ 1000000 → BeginsSession setting first → AreServed setting blocks first mid text → IsLeftOver setting.system others mid last
    → IsSpentAt counts setting last → near_limit ≤ high
near_at_end setting valid tells counts high some counted handed blocks others first mid last text few begins served behind spent = by last.standing refl spent where
  of_held : (held : LastingState) → LastsUpTo (high + call_raises * measure last) held → HasSpent counts (measure last) held → near_limit ≤ high
  of_held held lasts is =
      let own = is.own high counted in
      near_where_spent setting high blocks others first mid last text few begins served behind held lasts is.epoch is.sequence is.checkpoint is.unit is.counter
      own.epoch_low own.sequence_low own.checkpoint_low own.unit_low is.spent

  by : (standing : Standing) → last.standing ≡ standing → IsSpentBy standing counts (measure last) setting → near_limit ≤ high
  by (Up life) stands is =
      of_held (now_in setting.system life).lasting (session_lasts_now setting valid tells high some handed blocks others first mid last text begins served behind life stands) is
  by (Down outage) stands is =
      let finds = is tells in
      of_held finds.state
      (session_lasts setting valid tells high some handed blocks others first mid last text begins served behind finds.state
      (subst (λ s. MayHold setting s finds.state) (sym stands) (finds.kept, finds.found))) finds.spent
