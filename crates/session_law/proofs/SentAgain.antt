-- An input that is sent again is answered by what was kept.
use Rattle.std.proofs.Common.{◌≡◌, ℕ, ◌+◌, ◌<◌, ◌≤◌, Bool, true, false, List, [], ◌∷◌, ◌++◌, refl, sym, ap, ◌∙◌, subst, arith, nat_lt}
use Rattle.std.specs.Prelude.{Option, Some, None, Result, Ok, Err, nat_le, if◌then◌else◌}
use Rattle.std.specs.Option.{option_map_or, option_or, unwrap_or}
use Rattle.std.specs.Str.{bytes_eq}
use Rattle.std.proofs.lemmas.Bool.Decides.{nat_tests}
use Rattle.std.proofs.lemmas.Slice.Eq.{bytes_eq-Decides}
use Rattle.model_system.specs.System.{System}
use Rattle.model_machine.specs.declared.lasting.TerminalState.{TerminalState}
use Rattle.model_machine.specs.declared.entry.Entry.{Entry}
use Rattle.model_machine.specs.declared.entry.Entry.TheVariants.{Accept, Show, Acked as AckedEntry, Turn as TurnEntry, Commanded, Checked, Quiet}
use Rattle.model_machine.specs.declared.entry.Taken.{Taken}
use Rattle.model_machine.specs.declared.entry.Taken.TheVariants.{New, Already}
use Rattle.model_machine.specs.declared.entry.InputRefused.{InputRefused}
use Rattle.model_machine.specs.declared.entry.InputRefused.TheVariants.{Terminal as NoTerminal, StoppedTerminal, Expected, Conversation as Conversing, Code as NoCode, StoppedCode, SegmentsOver, QueueFull, Fault}
use Rattle.model_machine.specs.Machine.{Moment, start_of, terminal_at}
use Rattle.model_machine.specs.MachineCalls.{Refusal, by_number, input_answer}
use Rattle.model_machine.specs.History.{May, AreSteps, IsEnd, after_entry, history_ended_by, is_fault, moment_after}
use Rattle.model_machine.proofs.Histories.{moment_after-append}
use Rattle.model_session.specs.Lives.{LifeState, AreLegal, life_moment}
use Rattle.session_law.specs.ResentInputs.{last_number_of, any_call}
use Rattle.session_law.specs.SentAgain.{alone, steps_of, AreLeft, IsInputKnown, KnowsInput, AllKnow, LivesKnow}
use Rattle.session_law.proofs.Sessions.{Leaving, of_kind, opened_leaves}
use Rattle.session_law.proofs.LifeEnds.{head_is, tail_is, none_there, apart, ended_more, all_any, forced_leaves, OpenedWith, opened_behind}
use Rattle.session_law.proofs.Inputs.{Reached, answer_by, later_refusals, next_by, there_by, numbers_kept, taken}

-- ---- answers to inputs

nothing_less : 0 < 0 → ⊥
nothing_less e = omega (arith, e)

-- up to a terminal's last number each input is known
known_by : (t : Option TerminalState) (number next : ℕ) (later : Refusal) → 0 < option_map_or (λ (u : TerminalState). u.last) t 0 → number ≤ option_map_or (λ (u : TerminalState). u.last) t 0 → IsInputKnown (answer_by t number next later)
known_by None number next later some low = absurd (nothing_less some)
known_by (Some u) number next later some low = by_stopped u.stopped where
  at : (b : Bool) → nat_le number u.last ≡ b → IsInputKnown (unwrap_or (option_or (if b then Some (Ok Already) else if nat_lt (u.last + 1) number then Some (Err (Expected (u.last + 1))) else None) later) (Ok (New next)))
  at true e = tt
  at false e = absurd (apart (sym is ∙ e)) where
    is : nat_le number u.last ≡ true
    is = grind (arith, nat_tests, low)

  by_stopped : (s : Bool) → IsInputKnown (unwrap_or (option_or (if s then Some (Err StoppedTerminal) else None) (option_or (by_number u.last number) later)) (Ok (New next)))
  by_stopped true = tt
  by_stopped false = at (nat_le number u.last) refl

-- a fault in place of the answer
fault_known : (terminal : List ℕ) (number : ℕ) (segments : List (List ℕ)) (answer : Result Taken InputRefused) → is_fault (Accept terminal number segments answer) ≡ true → IsInputKnown answer
fault_known terminal number segments (Ok (New id)) e = cc
fault_known terminal number segments (Ok Already) e = cc
fault_known terminal number segments (Err NoTerminal) e = cc
fault_known terminal number segments (Err StoppedTerminal) e = cc
fault_known terminal number segments (Err (Expected n)) e = cc
fault_known terminal number segments (Err (Conversing id)) e = cc
fault_known terminal number segments (Err NoCode) e = cc
fault_known terminal number segments (Err (StoppedCode code)) e = cc
fault_known terminal number segments (Err (SegmentsOver count most)) e = cc
fault_known terminal number segments (Err (QueueFull need limit)) e = cc
fault_known terminal number segments (Err (Fault fault)) e = tt

-- the answer of an entry of an input
answer_in : (terminal : List ℕ) (number : ℕ) (segments : List (List ℕ)) (a b : Result Taken InputRefused) → Accept terminal number segments a ≡ Accept terminal number segments b → a ≡ b
answer_in terminal number segments a b e = cc

pub answers_input : (system : System) (moment : Moment) (terminal : List ℕ) (number : ℕ) (segments : List (List ℕ)) (answer : Result Taken InputRefused) → May system moment (Accept terminal number segments answer)
    → answer ≡ input_answer system moment terminal number segments
answers_input system moment terminal number segments answer may = answer_in terminal number segments answer (input_answer system moment terminal number segments) may.answer

module _ (system : System) (terminal : List ℕ) (number : ℕ) where
  -- ---- known from then on

  pub same_terminal : (other : List ℕ) → bytes_eq other terminal ≡ true → other ≡ terminal
  same_terminal other is = (bytes_eq-Decides other terminal).0 is

  entry_knows : (moment : Moment) (entry : Entry) → May system moment entry → 0 < number → Reached terminal number moment.lasting → KnowsInput terminal number entry
  entry_knows moment (Accept other sent segments answer) may some low = λ is below.
      let at : number ≤ last_number_of other moment.lasting = subst (λ (name : List ℕ). number ≤ last_number_of name moment.lasting) (sym (same_terminal other is)) low in
      subst IsInputKnown (sym (answers_input system moment other sent segments answer may))
      (known_by (terminal_at moment.lasting.terminals other) sent moment.lasting.next_id (later_refusals system moment other segments) (omega (arith, some, at)) (omega (arith, below, at)))
  entry_knows moment (Show other answer) may some low = tt
  entry_knows moment (AckedEntry other n answer) may some low = tt
  entry_knows moment (TurnEntry region answer) may some low = tt
  entry_knows moment (Commanded command answer) may some low = tt
  entry_knows moment (Checked freeze answer) may some low = tt
  entry_knows moment (Quiet quiet) may some low = tt

  end_knows : (entry : Entry) → is_fault entry ≡ true → KnowsInput terminal number entry
  end_knows (Accept other sent segments answer) fault = λ is below. fault_known other sent segments answer fault
  end_knows (Show other answer) fault = tt
  end_knows (AckedEntry other n answer) fault = tt
  end_knows (TurnEntry region answer) fault = tt
  end_knows (Commanded command answer) fault = tt
  end_knows (Checked freeze answer) fault = tt
  end_knows (Quiet quiet) fault = tt

  steps_know : (steps : List Entry) (last : Option Entry) (moment : Moment) → AreSteps system moment steps → IsEnd system last → 0 < number → Reached terminal number moment.lasting → AllKnow terminal number (history_ended_by steps last)
  steps_know [] None moment legal end some low = tt
  steps_know [] (Some entry) moment legal end some low = (end_knows entry end.0, tt)
  steps_know (step ∷ steps) None moment legal end some low =
      (entry_knows moment step legal.0 some low, steps_know steps None (after_entry system moment step) legal.1 end some (numbers_kept terminal number system moment step refl low))
  steps_know (step ∷ steps) (Some entry) moment legal end some low =
      (entry_knows moment step legal.0 some low, steps_know steps (Some entry) (after_entry system moment step) legal.1 end some (numbers_kept terminal number system moment step refl low))

  -- whatever a life leaves that opened so
  pub reached_leaves : (life : LifeState) → Reached terminal number life.opening → Leaving (Reached terminal number) system (alone life)
  reached_leaves life low =
      opened_leaves (Reached terminal number) system (alone life)
      (of_kind (Reached terminal number) system any_call (numbers_kept terminal number system) life.history (all_any life.history)) low

  pub lives_know : (lives : List LifeState) → 0 < number → OpenedWith (Reached terminal number) lives → AreLeft system lives → AreLegal system lives → LivesKnow terminal number lives
  lives_know [] some low linked legal = tt
  lives_know (life ∷ lives) some low linked legal =
      let is = legal.0.legal in (
        subst (AllKnow terminal number) (sym is.all) (steps_know is.steps is.last (start_of system life.opening) is.legal is.end some low),
        lives_know lives some (opened_behind system (Reached terminal number) life lives (reached_leaves life low) linked.0) linked.1 legal.1,
      )

  -- ---- one that was answered as new

  module _ (id : ℕ) (segments : List (List ℕ)) where
    abbrev taken_entry : Entry
    taken_entry = Accept terminal number segments (Ok (New id))

    -- what is known at its place
    pub record IsPlaced (moment : Moment) (front rest : List Entry) : Type 0 where
      pub some : 0 < number
      pub reached : Reached terminal number (moment_after system moment (front ++ taken_entry ∷ [])).lasting
      pub know : AllKnow terminal number rest

    pub above_none : (moment : Moment) → input_answer system moment terminal number segments ≡ Ok (New id) → 0 < number
    above_none moment new =
        by (there_by (terminal_at moment.lasting.terminals terminal) number moment.lasting.next_id id (later_refusals system moment terminal segments) new)
      where
        by : (u : TerminalState) × (terminal_at moment.lasting.terminals terminal ≡ Some u) → 0 < number
        by (u, e) =
            let next = next_by (terminal_at moment.lasting.terminals terminal) number moment.lasting.next_id id (later_refusals system moment terminal segments) new u e in
            omega (arith, next)

    placed_here : (step : Entry) (steps : List Entry) (last : Option Entry) (moment : Moment) (rest : List Entry) → AreSteps system moment (step ∷ steps) → IsEnd system last → step ≡ taken_entry → history_ended_by steps last ≡ rest
        → IsPlaced moment [] rest
    placed_here step steps last moment rest legal end is same =
        let may : May system moment taken_entry = subst (May system moment) is legal.0 in
        let new : input_answer system moment terminal number segments ≡ Ok (New id) = sym (answers_input system moment terminal number segments (Ok (New id)) may) in
        let low : Reached terminal number (after_entry system moment taken_entry).lasting = taken system moment terminal number segments id new in
        record {
          some = above_none moment new;
          reached = low;
          know = subst (AllKnow terminal number) same
              (steps_know steps last (after_entry system moment step) legal.1 end (above_none moment new)
              (subst (λ (e : Entry). Reached terminal number (after_entry system moment e).lasting) (sym is) low));
        }

    placed : (steps : List Entry) (last : Option Entry) (moment : Moment) (front rest : List Entry) → AreSteps system moment steps → IsEnd system last → history_ended_by steps last ≡ front ++ taken_entry ∷ rest → IsPlaced moment front rest
    placed [] None moment front rest legal end same = absurd (none_there front taken_entry rest same)
    placed [] (Some last) moment [] rest legal end same = absurd (apart (sym end.0 ∙ ap is_fault (head_is last taken_entry [] rest same)))
    placed [] (Some last) moment (f ∷ front) rest legal end same = absurd (none_there front taken_entry rest (tail_is last f [] (front ++ taken_entry ∷ rest) same))
    placed (step ∷ steps) last moment [] rest legal end same =
        let all : step ∷ history_ended_by steps last ≡ taken_entry ∷ rest = sym (ended_more step steps last) ∙ same in
        placed_here step steps last moment rest legal end (head_is step taken_entry (history_ended_by steps last) rest all) (tail_is step taken_entry (history_ended_by steps last) rest all)
    placed (step ∷ steps) last moment (f ∷ front) rest legal end same =
        let all : step ∷ history_ended_by steps last ≡ f ∷ (front ++ taken_entry ∷ rest) = sym (ended_more step steps last) ∙ same in
        let is : step ≡ f = head_is step f (history_ended_by steps last) (front ++ taken_entry ∷ rest) all in
        let there : IsPlaced (after_entry system moment step) front rest =
        placed steps last (after_entry system moment step) front rest legal.1 end (tail_is step f (history_ended_by steps last) (front ++ taken_entry ∷ rest) all) in
        record {
          some = there.some;
          reached = subst (λ (e : Entry). Reached terminal number (moment_after system (after_entry system moment e) (front ++ taken_entry ∷ [])).lasting) is there.reached;
          know = there.know;
        }

    pub answered_known : (life : LifeState) (later : List LifeState) (front rest : List Entry) → AreLeft system (life ∷ later) → AreLegal system (life ∷ later)
        → life.history ≡ front ++ taken_entry ∷ rest → steps_of system life (front ++ taken_entry ∷ []) ≤ life.forced → AllKnow terminal number rest × LivesKnow terminal number later
    answered_known life later front rest linked legal split few =
        let is = legal.0.legal in
        let there : IsPlaced (start_of system life.opening) front rest = placed is.steps is.last (start_of system life.opening) front rest is.legal is.end (sym is.all ∙ split) in
        let low : Reached terminal number (after_entry system (life_moment system (alone life) front) taken_entry).lasting =
        subst (λ (m : Moment). Reached terminal number m.lasting) (moment_after-append system (start_of system life.opening) front taken_entry) there.reached in
        let left : Leaving (Reached terminal number) system (alone life) =
        forced_leaves (Reached terminal number) system life front rest taken_entry split few
        (of_kind (Reached terminal number) system any_call (numbers_kept terminal number system) rest (all_any rest)) low in
        (there.know, lives_know later there.some (opened_behind system (Reached terminal number) life later left linked.0) linked.1 legal.1)
