-- An input in whose call, or in the force behind it, the disk failed is known from then on, or fresh until it is taken.
use Rattle.std.proofs.Common.{◌≡◌, ◌≢◌, ◌⊎◌, inl, inr, ⊎_elim, ℕ, ◌+◌, ◌<◌, Bool, true, false, not, ◌&&◌, List, [], ◌∷◌, ◌++◌, refl, sym, ap, ◌∙◌, subst, arith, nat_lt}
use Rattle.std.specs.Prelude.{Option, Some, None, Result, Ok, Err, nat_le, ◌==◌, if◌then◌else◌}
use Rattle.std.specs.Option.{is_some, option_map_or, option_and_then, option_or, unwrap_or}
use Rattle.std.specs.Str.{bytes_eq}
use Rattle.std.proofs.lemmas.Bool.{eq-eqb, eqb-true}
use Rattle.std.proofs.lemmas.Bool.Decides.{nat_tests}
use Rattle.tm_types.specs.Segment.{counted_bytes}
use Rattle.model_system.specs.declared.code.Code.{Code}
use Rattle.model_system.specs.Codes.{code_at}
use Rattle.model_system.specs.System.{System}
use Rattle.model_messages.specs.declared.conversation.Conversation.{Conversation}
use Rattle.model_messages.specs.ConversationInput.{busy_id}
use Rattle.model_messages.specs.Room.{input_needs}
use Rattle.model_messages.specs.Terminals.{conversation_at}
use Rattle.model_machine.specs.declared.lasting.TerminalState.{TerminalState}
use Rattle.model_machine.specs.declared.entry.Entry.{Entry}
use Rattle.model_machine.specs.declared.entry.Entry.TheVariants.{Accept, Show, Acked as AckedEntry, Turn as TurnEntry, Commanded, Checked, Quiet}
use Rattle.model_machine.specs.declared.entry.Taken.{Taken}
use Rattle.model_machine.specs.declared.entry.Taken.TheVariants.{New, Already}
use Rattle.model_machine.specs.declared.entry.InputRefused.{InputRefused}
use Rattle.model_machine.specs.declared.entry.InputRefused.TheVariants.{Terminal as NoTerminal, StoppedTerminal, Expected, Conversation as Conversing, Code as NoCode, StoppedCode, SegmentsOver, QueueFull, Fault}
use Rattle.model_machine.specs.Machine.{LastingState, Moment, start_of, terminal_at, content, busy_slots}
use Rattle.model_machine.specs.LastingSteps.{KeptInput, applied, kept_input}
use Rattle.model_machine.specs.CommandAnswers.{state_now}
use Rattle.model_machine.specs.MachineCalls.{Refusal, by_number, busy_by, most_segments, by_count, accepted_step, input_answer}
use Rattle.model_machine.specs.History.{May, AreSteps, IsEnd, after_entry, history_ended_by, is_fault}
use Rattle.model_session.specs.Lives.{LifeState, AreLegal, life_moment, binds, failed_force}
use Rattle.session_law.specs.ResentInputs.{last_number_of}
use Rattle.session_law.specs.SentAgain.{alone, IsLeftBy, AreLeft, AreBound, entries_of_lives, IsFresh, AllKnow, LivesKnow, IsFreshInput, takes_input, fails_input, FreshUntilTaken, IsInDoubt, SettlesDoubt, KnowsInputs}
use Rattle.session_law.proofs.Inputs.{Reached, answer_by, later_refusals, next_by, there_by, taken}
use Rattle.session_law.proofs.Again.{Stands, last_kept, input_leaves}
use Rattle.session_law.proofs.LifeEnds.{apart, HoldsAlong, along_as, along_last, life_leaves, OpensWhole, OpensBefore, kept_to_doubt, opened_in_doubt, linked_behind, legal_behind, bound_behind, OpenedWith, opened_behind, opened_either}
use Rattle.session_law.proofs.SentAgain.{answers_input, same_terminal, lives_know, above_none, answered_known}

-- ---- answers to inputs

-- the one behind it is fresh, where each refusal is that comes behind the number
abbrev LaterIsFresh : Refusal → Type 0
LaterIsFresh None = Unit {0}
LaterIsFresh (Some answer) = IsFresh answer

fresh_end : (later : Refusal) (next : ℕ) → LaterIsFresh later → IsFresh (unwrap_or later (Ok (New next)))
fresh_end None next fine = tt
fresh_end (Some answer) next fine = fine

fresh_by : (t : Option TerminalState) (number next : ℕ) (later : Refusal) → LaterIsFresh later → number ≡ option_map_or (λ (u : TerminalState). u.last) t 0 + 1 → IsFresh (answer_by t number next later)
fresh_by None number next later fine is = tt
fresh_by (Some u) number next later fine is = by_stopped u.stopped where
  at : (low high : Bool) → nat_le number u.last ≡ low → nat_lt (u.last + 1) number ≡ high
      → IsFresh (unwrap_or (option_or (if low then Some (Ok Already) else if high then Some (Err (Expected (u.last + 1))) else None) later) (Ok (New next)))
  at true high l r = absurd (apart (sym l ∙ above)) where
    above : nat_le number u.last ≡ false
    above = grind (arith, nat_tests, is)
  at false true l r = absurd (apart (sym r ∙ itself)) where
    itself : nat_lt (u.last + 1) number ≡ false
    itself = grind (arith, nat_tests, is)
  at false false l r = fresh_end later next fine

  by_stopped : (s : Bool) → IsFresh (unwrap_or (option_or (if s then Some (Err StoppedTerminal) else None) (option_or (by_number u.last number) later)) (Ok (New next)))
  by_stopped true = tt
  by_stopped false = at (nat_le number u.last) (nat_lt (u.last + 1) number) refl refl

choose : (b : Bool) (first second : Refusal) → LaterIsFresh first → LaterIsFresh second → LaterIsFresh (if b then first else second)
choose true first second one two = one
choose false first second one two = two

either : (refusal others : Refusal) → LaterIsFresh refusal → LaterIsFresh others → LaterIsFresh (option_or refusal others)
either None others one two = two
either (Some answer) others one two = one

busy_fresh : (conversation : Option Conversation) (id : Option ℕ) → LaterIsFresh (busy_by conversation id)
busy_fresh None id = tt
busy_fresh (Some c) None = tt
busy_fresh (Some c) (Some id) = tt

many_fresh : (count : ℕ) (code : Option Code) → LaterIsFresh (option_and_then (λ code. by_count (most_segments code.transaction.segment_kind) count) code)
many_fresh count None = tt
many_fresh count (Some code) =
    choose (nat_lt (most_segments code.transaction.segment_kind) count) (Some (Err (SegmentsOver count (most_segments code.transaction.segment_kind)))) None tt tt

later_fresh : (system : System) (moment : Moment) (terminal : List ℕ) (segments : List (List ℕ)) → LaterIsFresh (later_refusals system moment terminal segments)
later_fresh system moment terminal segments =
    let kept = kept_input system moment.lasting terminal segments in
    let need : ℕ = input_needs (content moment.lasting) (counted_bytes kept.segments) (busy_slots moment.slots) in
    either _ _ (busy_fresh (conversation_at terminal moment.lasting.conversations) (busy_id terminal moment.lasting.messages))
    (either _ _ (choose (is_some (code_at system.codes kept.code)) None (Some (Err NoCode)) tt tt)
    (either _ _ (choose (option_map_or (λ s. s.stopped) (state_now system moment kept.code) false) (Some (Err (StoppedCode kept.code))) None tt tt)
    (either _ _ (many_fresh _ (code_at system.codes kept.code))
    (either _ _ (choose (nat_lt system.qbytes need) (Some (Err (QueueFull need system.qbytes))) None tt tt) tt))))

fault_fresh : (terminal : List ℕ) (number : ℕ) (segments : List (List ℕ)) (answer : Result Taken InputRefused) → is_fault (Accept terminal number segments answer) ≡ true → IsFresh answer
fault_fresh terminal number segments (Ok (New id)) e = cc
fault_fresh terminal number segments (Ok Already) e = cc
fault_fresh terminal number segments (Err NoTerminal) e = cc
fault_fresh terminal number segments (Err StoppedTerminal) e = cc
fault_fresh terminal number segments (Err (Expected n)) e = cc
fault_fresh terminal number segments (Err (Conversing id)) e = cc
fault_fresh terminal number segments (Err NoCode) e = cc
fault_fresh terminal number segments (Err (StoppedCode code)) e = cc
fault_fresh terminal number segments (Err (SegmentsOver count most)) e = cc
fault_fresh terminal number segments (Err (QueueFull need limit)) e = cc
fault_fresh terminal number segments (Err (Fault fault)) e = tt

-- ---- all entries of lives

all_behind : (terminal : List ℕ) (number : ℕ) (entries others : List Entry) → AllKnow terminal number entries → AllKnow terminal number others → AllKnow terminal number (entries ++ others)
all_behind terminal number [] others here later = later
all_behind terminal number (entry ∷ entries) others here later = (here.0, all_behind terminal number entries others here.1 later)

all_of_lives : (terminal : List ℕ) (number : ℕ) (lives : List LifeState) → LivesKnow terminal number lives → AllKnow terminal number (entries_of_lives lives)
all_of_lives terminal number [] know = tt
all_of_lives terminal number (life ∷ lives) know = all_behind terminal number life.history (entries_of_lives lives) know.0 (all_of_lives terminal number lives know.1)

-- ---- an input that isn't taken

accepted_keeps : (terminal other : List ℕ) (sent last : ℕ) (kept : KeptInput) (lasting : LastingState) (answer : Result Taken InputRefused) → ((id : ℕ) → answer ≡ Ok (New id) → ⊥) → Stands terminal last lasting
    → Stands terminal last (option_map_or (λ step. applied step lasting) (accepted_step other sent kept answer) lasting)
accepted_keeps terminal other sent last kept lasting (Ok (New id)) never h = absurd (never id refl)
accepted_keeps terminal other sent last kept lasting (Ok Already) never h = h
accepted_keeps terminal other sent last kept lasting (Err refused) never h = h

module _ (system : System) (terminal : List ℕ) (number last : ℕ) (next : number ≡ last + 1) where
  -- an input of the terminal that is new has this number
  new_is : (moment : Moment) (other : List ℕ) (sent id : ℕ) (segments : List (List ℕ)) → bytes_eq other terminal ≡ true → Stands terminal last moment.lasting → input_answer system moment other sent segments ≡ Ok (New id) → sent ≡ number
  new_is moment other sent id segments is stands new =
      by (there_by (terminal_at moment.lasting.terminals other) sent moment.lasting.next_id id (later_refusals system moment other segments) new)
    where
      at : last_number_of other moment.lasting ≡ last
      at = ap (λ (name : List ℕ). last_number_of name moment.lasting) (same_terminal system terminal number other is) ∙ stands

      by : (u : TerminalState) × (terminal_at moment.lasting.terminals other ≡ Some u) → sent ≡ number
      by (u, e) =
          let behind = next_by (terminal_at moment.lasting.terminals other) sent moment.lasting.next_id id (later_refusals system moment other segments) new u e in
          let here : last_number_of other moment.lasting ≡ u.last = ap (λ (o : Option TerminalState). option_map_or (λ (w : TerminalState). w.last) o 0) e in
          omega (arith, behind, here, at, next)

  -- Unless it is taken, it leaves the terminal's last number.
  unless_new : (moment : Moment) (other : List ℕ) (sent : ℕ) (segments : List (List ℕ)) (answer : Result Taken InputRefused) → ((id : ℕ) → bytes_eq other terminal ≡ true → input_answer system moment other sent segments ≡ Ok (New id) → ⊥)
      → Stands terminal last moment.lasting → Stands terminal last (after_entry system moment (Accept other sent segments answer)).lasting
  unless_new moment other sent segments answer never stands = by (bytes_eq other terminal) refl where
    by : (b : Bool) → bytes_eq other terminal ≡ b → Stands terminal last (after_entry system moment (Accept other sent segments answer)).lasting
    by true is =
        accepted_keeps terminal other sent last (kept_input system moment.lasting other segments) moment.lasting (input_answer system moment other sent segments) (λ id new. never id is new) stands
    by false is = last_kept terminal last system moment (Accept other sent segments answer) (ap not is) stands

  both_hold : (b : Bool) (sent : ℕ) → b ≡ true → sent ≡ number → b && (sent == number) ≡ true
  both_hold true sent is same = eq-eqb sent number same
  both_hold false sent is same = is

  accept_on : (moment : Moment) (other : List ℕ) (sent : ℕ) (segments : List (List ℕ)) (answer : Result Taken InputRefused) → answer ≡ input_answer system moment other sent segments → Stands terminal last moment.lasting
      → takes_input terminal number (Accept other sent segments answer) ≡ false → Stands terminal last (after_entry system moment (Accept other sent segments answer)).lasting
  accept_on moment other sent segments answer answers stands untaken =
      unless_new moment other sent segments answer
      (λ id is new.
      apart (sym (both_hold (bytes_eq other terminal) sent is (new_is moment other sent id segments is stands new))
      ∙ sym (ap (λ (a : Result Taken InputRefused). takes_input terminal number (Accept other sent segments a)) (answers ∙ new)) ∙ untaken)) stands

  -- an entry that was answered, and that takes it not
  step_on : (moment : Moment) (entry : Entry) → May system moment entry → Stands terminal last moment.lasting → takes_input terminal number entry ≡ false → Stands terminal last (after_entry system moment entry).lasting
  step_on moment (Accept other sent segments answer) may stands untaken = accept_on moment other sent segments answer (answers_input system moment other sent segments answer may) stands untaken
  step_on moment (Show other answer) may stands untaken = last_kept terminal last system moment (Show other answer) refl stands
  step_on moment (AckedEntry other n answer) may stands untaken = last_kept terminal last system moment (AckedEntry other n answer) refl stands
  step_on moment (TurnEntry region answer) may stands untaken = last_kept terminal last system moment (TurnEntry region answer) refl stands
  step_on moment (Commanded command answer) may stands untaken = last_kept terminal last system moment (Commanded command answer) refl stands
  step_on moment (Checked freeze answer) may stands untaken = last_kept terminal last system moment (Checked freeze answer) refl stands
  step_on moment (Quiet quiet) may stands untaken = last_kept terminal last system moment (Quiet quiet) refl stands

  -- one that doesn't bind
  pub unbound_stands : (moment : Moment) (entry : Entry) → May system moment entry → binds entry ≡ false → Stands terminal last moment.lasting → Stands terminal last (after_entry system moment entry).lasting
  unbound_stands moment (Accept other sent segments answer) may unbound stands =
      unless_new moment other sent segments answer
      (λ id is new. apart (sym (ap (λ (a : Result Taken InputRefused). binds (Accept other sent segments a)) (answers_input system moment other sent segments answer may ∙ new)) ∙ unbound)) stands
  unbound_stands moment (Show other answer) may unbound stands = last_kept terminal last system moment (Show other answer) refl stands
  unbound_stands moment (AckedEntry other n answer) may unbound stands = last_kept terminal last system moment (AckedEntry other n answer) refl stands
  unbound_stands moment (TurnEntry region answer) may unbound stands = last_kept terminal last system moment (TurnEntry region answer) refl stands
  unbound_stands moment (Commanded command answer) may unbound stands = last_kept terminal last system moment (Commanded command answer) refl stands
  unbound_stands moment (Checked freeze answer) may unbound stands = last_kept terminal last system moment (Checked freeze answer) refl stands
  unbound_stands moment (Quiet quiet) may unbound stands = last_kept terminal last system moment (Quiet quiet) refl stands

  -- one that met a fault
  fault_fails : (other : List ℕ) (sent : ℕ) (segments : List (List ℕ)) (answer : Result Taken InputRefused) → is_fault (Accept other sent segments answer) ≡ true → fails_input terminal number (Accept other sent segments answer) ≡ bytes_eq other terminal && (sent == number)
  fault_fails other sent segments (Ok (New id)) e = cc
  fault_fails other sent segments (Ok Already) e = cc
  fault_fails other sent segments (Err NoTerminal) e = cc
  fault_fails other sent segments (Err StoppedTerminal) e = cc
  fault_fails other sent segments (Err (Expected n)) e = cc
  fault_fails other sent segments (Err (Conversing id)) e = cc
  fault_fails other sent segments (Err NoCode) e = cc
  fault_fails other sent segments (Err (StoppedCode code)) e = cc
  fault_fails other sent segments (Err (SegmentsOver count most)) e = cc
  fault_fails other sent segments (Err (QueueFull need limit)) e = cc
  fault_fails other sent segments (Err (Fault fault)) e = refl

  end_on : (moment : Moment) (entry : Entry) → is_fault entry ≡ true → Stands terminal last moment.lasting → fails_input terminal number entry ≡ false → Stands terminal last (after_entry system moment entry).lasting
  end_on moment (Accept other sent segments answer) fault stands other_one =
      unless_new moment other sent segments answer
      (λ id is new.
      apart (sym (both_hold (bytes_eq other terminal) sent is (new_is moment other sent id segments is stands new)) ∙ sym (fault_fails other sent segments answer fault) ∙ other_one)) stands
  end_on moment (Show other answer) fault stands other_one = last_kept terminal last system moment (Show other answer) refl stands
  end_on moment (AckedEntry other n answer) fault stands other_one = last_kept terminal last system moment (AckedEntry other n answer) refl stands
  end_on moment (TurnEntry region answer) fault stands other_one = last_kept terminal last system moment (TurnEntry region answer) refl stands
  end_on moment (Commanded command answer) fault stands other_one = last_kept terminal last system moment (Commanded command answer) refl stands
  end_on moment (Checked freeze answer) fault stands other_one = last_kept terminal last system moment (Checked freeze answer) refl stands
  end_on moment (Quiet quiet) fault stands other_one = last_kept terminal last system moment (Quiet quiet) refl stands

  split_and : (a : Bool) (sent : ℕ) → a && (sent == number) ≡ true → (a ≡ true) × (sent ≡ number)
  split_and true sent e = (refl, eqb-true sent number e)
  split_and false sent e = cc

  -- in the input's own call
  failed_on : (moment : Moment) (entry : Entry) → fails_input terminal number entry ≡ true → Stands terminal last moment.lasting
      → Stands terminal last (after_entry system moment entry).lasting ⊎ Reached terminal number (after_entry system moment entry).lasting
  failed_on moment (Accept other sent segments (Ok (New id))) fails stands = cc
  failed_on moment (Accept other sent segments (Ok Already)) fails stands = cc
  failed_on moment (Accept other sent segments (Err NoTerminal)) fails stands = cc
  failed_on moment (Accept other sent segments (Err StoppedTerminal)) fails stands = cc
  failed_on moment (Accept other sent segments (Err (Expected n))) fails stands = cc
  failed_on moment (Accept other sent segments (Err (Conversing id))) fails stands = cc
  failed_on moment (Accept other sent segments (Err NoCode)) fails stands = cc
  failed_on moment (Accept other sent segments (Err (StoppedCode code))) fails stands = cc
  failed_on moment (Accept other sent segments (Err (SegmentsOver count most))) fails stands = cc
  failed_on moment (Accept other sent segments (Err (QueueFull need limit))) fails stands = cc
  failed_on moment (Accept other sent segments (Err (Fault fault))) fails stands =
      let its = split_and (bytes_eq other terminal) sent fails in
      subst (λ (n : ℕ). Stands terminal last (after_entry system moment (Accept other n segments (Err (Fault fault)))).lasting ⊎ Reached terminal number (after_entry system moment (Accept other n segments (Err (Fault fault)))).lasting) (sym its.1)
      (subst (λ (name : List ℕ). Stands terminal last (after_entry system moment (Accept name number segments (Err (Fault fault)))).lasting ⊎ Reached terminal number (after_entry system moment (Accept name number segments (Err (Fault fault)))).lasting) (sym (same_terminal system terminal number other its.0))
      (input_leaves system moment terminal number last segments (Accept terminal number segments (Err (Fault fault))) refl stands))
  failed_on moment (Show other answer) fails stands = cc
  failed_on moment (AckedEntry other n answer) fails stands = cc
  failed_on moment (TurnEntry region answer) fails stands = cc
  failed_on moment (Commanded command answer) fails stands = cc
  failed_on moment (Checked freeze answer) fails stands = cc
  failed_on moment (Quiet quiet) fails stands = cc

  -- ---- fresh

  entry_fresh : (moment : Moment) (entry : Entry) → May system moment entry → Stands terminal last moment.lasting → IsFreshInput terminal number entry
  entry_fresh moment (Accept other sent segments answer) may stands = λ is same.
      let at : last_number_of other moment.lasting ≡ last = ap (λ (name : List ℕ). last_number_of name moment.lasting) (same_terminal system terminal number other is) ∙ stands in
      subst IsFresh (sym (answers_input system moment other sent segments answer may))
      (fresh_by (terminal_at moment.lasting.terminals other) sent moment.lasting.next_id (later_refusals system moment other segments) (later_fresh system moment other segments) (omega (arith, next, same, at)))
  entry_fresh moment (Show other answer) may stands = tt
  entry_fresh moment (AckedEntry other n answer) may stands = tt
  entry_fresh moment (TurnEntry region answer) may stands = tt
  entry_fresh moment (Commanded command answer) may stands = tt
  entry_fresh moment (Checked freeze answer) may stands = tt
  entry_fresh moment (Quiet quiet) may stands = tt

  end_fresh : (entry : Entry) → is_fault entry ≡ true → IsFreshInput terminal number entry
  end_fresh (Accept other sent segments answer) fault = λ is same. fault_fresh other sent segments answer fault
  end_fresh (Show other answer) fault = tt
  end_fresh (AckedEntry other n answer) fault = tt
  end_fresh (TurnEntry region answer) fault = tt
  end_fresh (Commanded command answer) fault = tt
  end_fresh (Checked freeze answer) fault = tt
  end_fresh (Quiet quiet) fault = tt

  -- how it goes on behind a life
  abbrev GoesOn : Option Entry → List Entry → Type 0
  GoesOn None behind = FreshUntilTaken terminal number behind
  GoesOn (Some entry) behind = FreshUntilTaken terminal number behind ⊎ ((fails_input terminal number entry ≡ true) × AllKnow terminal number behind)

  steps_fresh : (steps : List Entry) (end : Option Entry) (moment : Moment) (behind : List Entry) → AreSteps system moment steps → IsEnd system end → Stands terminal last moment.lasting
      → (HoldsAlong (Stands terminal last) system moment steps → GoesOn end behind) → FreshUntilTaken terminal number (history_ended_by steps end ++ behind)
  steps_fresh [] None moment behind legal is stands on = on stands
  steps_fresh [] (Some entry) moment behind legal is stands on = (end_fresh entry is.0, λ untaken. on stands)
  steps_fresh (step ∷ steps) None moment behind legal is stands on =
      (entry_fresh moment step legal.0 stands, λ untaken. inl (steps_fresh steps None (after_entry system moment step) behind legal.1 is (step_on moment step legal.0 stands untaken) (λ along. on (stands, along))))
  steps_fresh (step ∷ steps) (Some entry) moment behind legal is stands on =
      (entry_fresh moment step legal.0 stands, λ untaken. inl (steps_fresh steps (Some entry) (after_entry system moment step) behind legal.1 is (step_on moment step legal.0 stands untaken) (λ along. on (stands, along))))

  some_number : 0 < number
  some_number = omega (arith, next)

  -- behind a life, where it isn't taken in it
  module _ (life : LifeState) (lives : List LifeState) (opens : IsLeftBy system life lives) (linked : AreLeft system lives) (legal : AreLegal system lives) (fresh : OpenedWith (Stands terminal last) lives → FreshUntilTaken terminal number (entries_of_lives lives)) where
    abbrev Along : List Entry → Type 0
    Along steps = HoldsAlong (Stands terminal last) system (start_of system life.opening) steps

    failed_behind : (steps : List Entry) (entry : Entry) → life.history ≡ history_ended_by steps (Some entry) → is_fault entry ≡ true → Along steps
        → (b : Bool) → fails_input terminal number entry ≡ b → GoesOn (Some entry) (entries_of_lives lives)
    failed_behind steps entry all fault along false fails =
        let stands = along_last (Stands terminal last) system (start_of system life.opening) steps along in
        inl (fresh
        (opened_behind system (Stands terminal last) life lives
        (life_leaves system (Stands terminal last) life steps (Some entry) all along (end_on (life_moment system (alone life) steps) entry fault stands fails)) opens))
    failed_behind steps entry all fault along true fails =
        let stands = along_last (Stands terminal last) system (start_of system life.opening) steps along in
        ⊎_elim (λ stays. inl (fresh stays)) (λ reached. inr (fails, all_of_lives terminal number lives (lives_know system terminal number lives some_number reached linked legal)))
        (opened_either (Stands terminal last) (Reached terminal number) lives
        (opened_behind system (λ (s : LastingState). Stands terminal last s ⊎ Reached terminal number s) life lives
        (life_leaves system (λ (s : LastingState). Stands terminal last s ⊎ Reached terminal number s) life steps (Some entry) all
        (along_as (Stands terminal last) (λ (s : LastingState). Stands terminal last s ⊎ Reached terminal number s) (λ s h. inl h) system (start_of system life.opening) steps along)
        (failed_on (life_moment system (alone life) steps) entry fails stands)) opens))

    goes_behind : (steps : List Entry) (end : Option Entry) → life.history ≡ history_ended_by steps end → IsEnd system end → Along steps → GoesOn end (entries_of_lives lives)
    goes_behind steps None all is along = fresh (opened_behind system (Stands terminal last) life lives (life_leaves system (Stands terminal last) life steps None all along tt) opens)
    goes_behind steps (Some entry) all is along = failed_behind steps entry all is.0 along (fails_input terminal number entry) refl

  lives_fresh : (lives : List LifeState) → OpenedWith (Stands terminal last) lives → AreLeft system lives → AreLegal system lives → FreshUntilTaken terminal number (entries_of_lives lives)
  lives_fresh [] stands linked legal = tt
  lives_fresh (life ∷ lives) stands linked legal =
      let its = legal.0.legal in
      subst (λ (h : List Entry). FreshUntilTaken terminal number (h ++ entries_of_lives lives)) (sym its.all)
      (steps_fresh its.steps its.last (start_of system life.opening) (entries_of_lives lives) its.legal its.end stands
      (goes_behind life lives linked.0 linked.1 legal.1 (λ opened. lives_fresh lives opened linked.1 legal.1) its.steps its.last its.all its.end))

-- ---- one in whose call, or in the force behind it, the disk failed

accept_apart : (terminal : List ℕ) (number : ℕ) (segments : List (List ℕ)) (answer : Result Taken InputRefused) → Accept terminal number segments answer ≢ failed_force
accept_apart terminal number segments answer e = cc

module _ (system : System) (terminal : List ℕ) (number : ℕ) (life next : LifeState) (later : List LifeState) (linked : AreLeft system (life ∷ next ∷ later)) (legal : AreLegal system (life ∷ next ∷ later)) (bound : AreBound system (life ∷ next ∷ later)) (doubt : IsInDoubt system life terminal number) where
  abbrev entry : Entry
  entry = Accept terminal number doubt.segments doubt.answer

  abbrev moment_then : Moment
  moment_then = life_moment system (alone life) doubt.before

  kept_known : OpensWhole system life next doubt.before entry → SettlesDoubt system life (next ∷ later) terminal number doubt.before
  kept_known opens =
      let low : Reached terminal number (after_entry system moment_then entry).lasting = taken system moment_then terminal number doubt.segments doubt.id doubt.new in
      inl (
        opens.counted,
        lives_know system terminal number (next ∷ later) (above_none system terminal number doubt.id doubt.segments moment_then doubt.new) (subst (Reached terminal number) (sym opens.opening) low) linked.1 legal.1,
      )

  number_is : number ≡ last_number_of terminal moment_then.lasting + 1
  number_is =
      by (there_by (terminal_at moment_then.lasting.terminals terminal) number moment_then.lasting.next_id doubt.id (later_refusals system moment_then terminal doubt.segments) doubt.new)
    where
      by : (u : TerminalState) × (terminal_at moment_then.lasting.terminals terminal ≡ Some u) → number ≡ last_number_of terminal moment_then.lasting + 1
      by (u, e) =
          next_by (terminal_at moment_then.lasting.terminals terminal) number moment_then.lasting.next_id doubt.id (later_refusals system moment_then terminal doubt.segments) doubt.new u e
          ∙ ap (λ (o : Option TerminalState). option_map_or (λ (w : TerminalState). w.last) o 0 + 1) (sym e)

  -- No input of the terminal that was accepted before is lost.
  last_before : OpensBefore system life next doubt.before → last_number_of terminal moment_then.lasting ≡ last_number_of terminal next.opening
  last_before opens =
      kept_to_doubt system life next doubt.before doubt.after entry legal.0 bound.0 doubt.all (accept_apart terminal number doubt.segments doubt.answer) opens (Stands terminal (last_number_of terminal next.opening))
      (unbound_stands system terminal (last_number_of terminal next.opening + 1) (last_number_of terminal next.opening) refl) refl

  lost_fresh : OpensBefore system life next doubt.before → SettlesDoubt system life (next ∷ later) terminal number doubt.before
  lost_fresh opens =
      inr (opens.few, lives_fresh system terminal number (last_number_of terminal moment_then.lasting) number_is (next ∷ later) (sym (last_before opens)) linked.1 legal.1)

  pub doubt_settled : SettlesDoubt system life (next ∷ later) terminal number doubt.before
  doubt_settled = ⊎_elim kept_known lost_fresh (opened_in_doubt system life next doubt.before doubt.after entry linked.0 doubt.all doubt.doubted)

-- ---- all of it

pub inputs_known : (system : System) (lives : List LifeState) → AreLeft system lives → AreLegal system lives → AreBound system lives → KnowsInputs system lives
inputs_known system lives linked legal bound = record {
  answered = λ before later life front rest terminal number id segments split all few.
      answered_known system terminal number id segments life later front rest
      (linked_behind system before (life ∷ later) (subst (AreLeft system) split linked)) (legal_behind system before (life ∷ later) (subst (AreLegal system) split legal)) all few;
  in_doubt = λ before later life next terminal number split doubt.
      doubt_settled system terminal number life next later
      (linked_behind system before (life ∷ next ∷ later) (subst (AreLeft system) split linked)) (legal_behind system before (life ∷ next ∷ later) (subst (AreLegal system) split legal))
      (bound_behind system before (life ∷ next ∷ later) (subst (AreBound system) split bound)) doubt;
}
