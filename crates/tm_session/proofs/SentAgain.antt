-- What is sent again in a session is answered by what was kept.
use Rattle.std.proofs.Common.{ℕ, List, [], ◌∷◌, map, inl, inr, sym, subst}
use Rattle.std.specs.Prelude.{Option, Ok, IsTrue}
use Rattle.std.specs.List.{AllByRecursion}
use Rattle.tm_disk.specs.Disk.{DiskState, Image, IsDisk}
use Rattle.model_system.specs.System.{System}
use Rattle.model_machine.specs.Machine.{LastingState, empty_state}
use Rattle.model_image.specs.RecoveredState.{Recovers}
use Rattle.model_session.specs.Lives.{LifeState, AreLegal}
use Rattle.system_types.specs.ValidSystem.{IsSystem}
use Rattle.model_session.specs.SessionState.{Stop}
use Rattle.openings.specs.declared.life.Life.{Life}
use Rattle.session_law.specs.SentAgain.{AreLeft, AreLinked, AreBound}
use Rattle.session_law.specs.ColdRuns.{colds_in, joined}
use Rattle.session_law.proofs.Linked.{lives_begin, lives_linked}
use Rattle.session_law.proofs.LifeEnds.{OpenedWith, linked_left, legal_parts, bound_parts}
use Rattle.session_law.proofs.ColdRuns.{Begins, IsRun, ArePartedAs, lives_parted}
use Rattle.session_law.proofs.FreshInputs.{inputs_known}
use Rattle.session_law.proofs.NumberedReplies.{IsNumbered}
use Rattle.session_law.proofs.AcksInDoubt.{replies_shown}
use Rattle.session_law.proofs.SerialOrder.{IsInOrder, ends_in_order}
use Rattle.session_law.proofs.FoundInOrder.{empty_numbered, found_in_order, found_numbered}
use Rattle.session_lives.specs.RunningSession.{life_of, session_setting}
use Rattle.tm_session.specs.declared.outcome.Ended.{Ended}
use Rattle.tm_session.specs.Headline.{HasLived, AskNoColdStart}
use Rattle.tm_session.proofs.SourceEnd.{left_over}
use Rattle.tm_session.specs.SentAgain.{IsAnsweredAsKept, IsRunAnswered, IsAnsweredBetween, AnswersAsKept}

module _ {D : Type 0} (state : D → DiskState) (is_disk : (disk : D) → IsDisk (state disk)) (handed disk : D) (stops : List Stop) where
  -- the first life opened with what an image recovers to
  begins_as : (P : LastingState → Type 0) (system : System) (source : List ℕ) (lives : List LifeState) → ((image : Image) (found : LastingState) → Recovers system image (Ok found) → P found) → IsTrue (state handed).tells
      → OpenedWith (session_setting state system source handed).begins lives → OpenedWith P lives
  begins_as P system source [] has tells begins = tt
  begins_as P system source (life ∷ lives) has tells begins =
      let its = begins (state handed).shown ((is_disk handed).shown_left tells) in
      has its.found life.opening its.recovers

  lived : (system : System) (source : List ℕ) (told left old new : Option (List ℕ)) (ended : Ended) (lives : List LifeState) (h : HasLived state system source told left old new handed disk ended lives stops)
      → IsTrue (state handed).tells → AskNoColdStart system h.blocks → IsAnsweredAsKept system lives
  lived system source told left old new ended lives h tells warm =
      let linked : AreLinked system lives =
      lives_linked (session_setting state system source handed) tells h.blocks h.others h.first h.mid h.last h.text lives h.begins h.session
      (left_over ended system h.others h.mid h.last h.end_text h.behind) warm h.lives_are in
      let begins : OpenedWith (session_setting state system source handed).begins lives =
      lives_begin (session_setting state system source handed) tells h.blocks h.others h.first h.mid h.last h.text lives h.begins h.session
      (left_over ended system h.others h.mid h.last h.end_text h.behind) warm h.lives_are in
      let behind : AreLeft system lives = linked_left system lives linked in
      record {
        linked = linked;
        inputs = inputs_known system lives behind h.legal h.bound;
        replies = replies_shown system lives (begins_as IsNumbered system source lives (found_numbered system) tells begins) behind h.legal h.bound;
        serial = ends_in_order system h.valid lives (begins_as IsInOrder system source lives (found_in_order system) tells begins) behind;
      }

  -- a run opened with what an image recovers to, or with the empty state
  run_begins : (P : LastingState → Type 0) (system : System) (source : List ℕ) (run : List LifeState) → ((image : Image) (found : LastingState) → Recovers system image (Ok found) → P found) → P (empty_state system)
      → IsTrue (state handed).tells → OpenedWith (Begins (session_setting state system source handed)) run → OpenedWith P run
  run_begins P system source [] has empty tells begins = tt
  run_begins P system source (life ∷ run) has empty tells (inl found) = begins_as P system source (life ∷ run) has tells found
  run_begins P system source (life ∷ run) has empty tells (inr is) = subst P (sym is) empty

  run_answered : (system : System) (source : List ℕ) (run : List LifeState) → IsSystem system → IsTrue (state handed).tells → AreLegal system run → AreBound system run → IsRun (session_setting state system source handed) run → IsRunAnswered system run
  run_answered system source run valid tells legal bound its = record {
    left = its.left;
    inputs = inputs_known system run its.left legal bound;
    replies = replies_shown system run (run_begins IsNumbered system source run (found_numbered system) (empty_numbered system) tells its.begins) its.left legal bound;
    serial = ends_in_order system valid run (run_begins IsInOrder system source run (found_in_order system) tt tells its.begins) its.left;
  }

  runs_answered : (system : System) (source : List ℕ) (runs : List (List LifeState)) → IsSystem system → IsTrue (state handed).tells → AreLegal system (joined runs) → AreBound system (joined runs)
      → AllByRecursion (IsRun (session_setting state system source handed)) runs → AllByRecursion (IsRunAnswered system) runs
  runs_answered system source [] valid tells legal bound each = tt
  runs_answered system source (run ∷ runs) valid tells legal bound each =
      let parts = legal_parts system run (joined runs) legal in
      let bounds = bound_parts system run (joined runs) bound in
      (run_answered system source run valid tells parts.0 bounds.0 each.0, runs_answered system source runs valid tells parts.1 bounds.1 each.1)

  lived_between : (system : System) (source : List ℕ) (told left old new : Option (List ℕ)) (ended : Ended) (lives : List LifeState) (h : HasLived state system source told left old new handed disk ended lives stops)
      → IsTrue (state handed).tells → IsAnsweredBetween system (colds_in system h.blocks) lives
  lived_between system source told left old new ended lives h tells =
      let parted : ArePartedAs (session_setting state system source handed) tells (colds_in system h.blocks) lives =
      lives_parted (session_setting state system source handed) tells h.blocks h.others h.first h.mid h.last h.text lives h.begins h.session
      (left_over ended system h.others h.mid h.last h.end_text h.behind) h.lives_are in
      record {
        runs = parted.runs;
        all = parted.all;
        few = parted.few;
        each = runs_answered system source parted.runs h.valid tells (subst (AreLegal system) parted.all h.legal) (subst (AreBound system) parted.all h.bound) parted.each;
        behind = parted.behind;
      }

  pub answered_as_kept : (lives : List Life) → AnswersAsKept state handed disk lives stops
  answered_as_kept lives ended told left old new session tells = record {
    warm = λ warm. lived session.system session.text told left old new ended (map life_of lives) session.lived tells warm;
    between = lived_between session.system session.text told left old new ended (map life_of lives) session.lived tells;
  }
