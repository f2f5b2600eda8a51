-- The numbers of the replies that a terminal is shown never fall.
use Rattle.std.proofs.Common.{◌≡◌, ℕ, ◌+◌, ◌<◌, ◌≤◌, Bool, true, false, List, [], ◌∷◌, ◌++◌, Option, Some, None, refl, sym, ap, ◌∙◌, subst, cond, arith}
use Rattle.std.specs.Prelude.{Result, Ok, Err, ◌==◌, ◌&&◌, if◌then◌else◌, slice_get, nat_lt, drop}
use Rattle.std.specs.Option.{is_some, option_map_or}
use Rattle.std.specs.Str.{bytes_eq}
use Rattle.std.proofs.lemmas.Bool.{eqb-true}
use Rattle.std.proofs.lemmas.List.{length-append}
use Rattle.std.proofs.lemmas.Slice.Eq.{bytes_eq-Decides}
use Rattle.tm_types.specs.declared.message.Message.{Message}
use Rattle.tm_types.specs.declared.message.Reply.{Reply}
use Rattle.tm_types.specs.declared.command.LastingCommand.{LastingCommand}
use Rattle.tm_types.specs.declared.command.LastingCommand.TheVariants as lasts
use Rattle.model_messages.specs.declared.conversation.PadChange.{PadChange}
use Rattle.model_messages.specs.declared.ended_message.EndedMessage.{EndedMessage}
use Rattle.model_messages.specs.declared.replies.TerminalReplies.{TerminalReplies}
use Rattle.model_messages.specs.Outputs.{are_replies_of, replies_at, with_terminal, with_reply, without_first, first_number, RunUpTo, AreNumbered}
use Rattle.model_system.specs.System.{System}
use Rattle.model_machine.specs.declared.entry.Acked.{Acked}
use Rattle.model_machine.specs.declared.entry.Acked.TheVariants.{Removed, Already as AckAlready}
use Rattle.model_machine.specs.declared.entry.AckRefused.{AckRefused}
use Rattle.model_machine.specs.declared.entry.AckRefused.TheVariants.{Ahead}
use Rattle.model_machine.specs.declared.entry.Entry.{Entry}
use Rattle.model_machine.specs.declared.entry.Entry.TheVariants.{Accept, Show, Acked as AckedEntry, Turn as TurnEntry, Commanded, Checked, Quiet}
use Rattle.model_machine.specs.declared.entry.ShowAnswer.{ShowAnswer}
use Rattle.model_machine.specs.declared.entry.ShowAnswer.TheVariants.{Reply as Showed, Empty, Stopped as ShowStopped, Unknown as ShowUnknown}
use Rattle.model_machine.specs.declared.lasting.TerminalState.{TerminalState}
use Rattle.model_machine.specs.Machine.{LastingState, Moment, start_of, terminal_at, output_at, message_at}
use Rattle.model_machine.specs.LastingSteps.{LastingStep, applied, output_sent, replied, switched, all_sent, finished_by, without_message, without_replies, with_pad_by, discarded_pad, abend_outputs, commanded}
use Rattle.model_machine.specs.LastingSteps.LastingStep.{Accepts, Acknowledges, Completes, Discards, Commands}
use Rattle.model_machine.specs.MachineCalls.{acknowledged_step, ack_by, ack_answer, show_to, show_by, show_answer, lasting_step}
use Rattle.model_machine.specs.History.{May, AreSteps, IsEnd, call_of, after_entry, history_ended_by, is_fault, moment_after}
use Rattle.model_machine.proofs.Histories.{moment_after-append}
use Rattle.model_session.specs.Lives.{LifeState, AreLegal, life_moment}
use Rattle.session_law.specs.ResentInputs.{IsKeptBy, any_call}
use Rattle.session_law.specs.SentAgain.{alone, steps_of, AreLeft}
use Rattle.session_law.specs.ShownAgain.{ShowsHigher, AllShowHigher, LivesShowHigher}
use Rattle.session_law.proofs.Steps.{FineBy, applied_by}
use Rattle.session_law.proofs.Sessions.{AllKeep, Leaving, of_kind, opened_leaves}
use Rattle.session_law.proofs.LifeEnds.{head_is, tail_is, none_there, ended_more, all_any, forced_leaves, OpenedWith, opened_behind}

apart : true ≡ false → ⊥
apart e = cc

some_is : {X : Type 0} (x y : X) → Some x ≡ Some y → x ≡ y
some_is x y e = cc

-- ---- one terminal

-- its replies are numbered, and neither they nor those to come have a lower number than this
pub record IsFrom (low : ℕ) (t : TerminalReplies) : Type 0 where
  pub numbered : AreNumbered t
  pub least : low ≤ first_number t

run_first : (next : ℕ) (replies : List Reply) → RunUpTo next replies → option_map_or (λ (r : Reply). r.number) (slice_get replies 0) next ≤ next
run_first next [] run = omega arith
run_first next (r ∷ replies) run = omega (arith, run.0)

run_more : (next : ℕ) (replies : List Reply) (reply : Reply) → reply.number ≡ next → RunUpTo next replies → RunUpTo (next + 1) (replies ++ reply ∷ [])
run_more next [] reply is run = (omega (arith, is), tt)
run_more next (r ∷ replies) reply is run = (omega (arith, run.0, length-append replies (reply ∷ [])), run_more next replies reply is run.1)

replied_from : (low : ℕ) (segments : List (List ℕ)) (t : TerminalReplies) → IsFrom low t → IsFrom low (with_reply segments t)
replied_from low segments t h = by t.replies refl where
  by : (replies : List Reply) → t.replies ≡ replies → IsFrom low (with_reply segments t)
  by replies is = record {
    numbered = run_more t.next t.replies (record { number = t.next; segments = segments }) refl h.numbered;
    least = subst (λ (n : ℕ). low ≤ n) (sym (same t.replies)) h.least;
  } where
    same : (rs : List Reply) → option_map_or (λ (r : Reply). r.number) (slice_get (rs ++ record { number = t.next; segments = segments } ∷ []) 0) (t.next + 1) ≡ option_map_or (λ (r : Reply). r.number) (slice_get rs 0) t.next
    same [] = refl
    same (r ∷ rs) = refl

dropped : (next low : ℕ) (replies : List Reply) → RunUpTo next replies → low ≤ option_map_or (λ (r : Reply). r.number) (slice_get replies 0) next
    → RunUpTo next (drop 1 replies) × (low ≤ option_map_or (λ (r : Reply). r.number) (slice_get (drop 1 replies) 0) next)
dropped next low [] run least = (tt, least)
dropped next low (r ∷ []) run least = (tt, omega (arith, run.0, least))
dropped next low (r ∷ s ∷ replies) run least = (run.1, omega (arith, run.0, run.1.0, least))

first_from : (low : ℕ) (t : TerminalReplies) → IsFrom low t → IsFrom low (without_first t)
first_from low t h = let both = dropped t.next low t.replies h.numbered h.least in record { numbered = both.0; least = both.1 }

none_from : (low : ℕ) (t : TerminalReplies) → IsFrom low t → IsFrom low (without_replies t)
none_from low t h = record { numbered = tt; least = omega (arith, h.least, run_first t.next t.replies h.numbered) }

-- without its first reply the least number is one higher
removed : (next number : ℕ) (replies : List Reply) → RunUpTo next replies → is_some (slice_get replies 0) ≡ true → number ≡ option_map_or (λ (r : Reply). r.number) (slice_get replies 0) next
    → RunUpTo next (drop 1 replies) × (number + 1 ≤ option_map_or (λ (r : Reply). r.number) (slice_get (drop 1 replies) 0) next)
removed next number [] run there is = cc
removed next number (r ∷ []) run there is = (tt, omega (arith, run.0, is))
removed next number (r ∷ s ∷ replies) run there is = (run.1, omega (arith, run.0, run.1.0, is))

-- ---- all terminals

-- the replies that are kept for each terminal have numbers that follow one another, up to its next one
abbrev pub IsNumbered : LastingState → Type 0
IsNumbered lasting = (terminal : List ℕ) (t : TerminalReplies) → output_at lasting.outputs terminal ≡ Some t → AreNumbered t

module _ (terminal : List ℕ) where
  -- what holds of the terminal, if it is there
  abbrev HoldsAt : (TerminalReplies → Type 0) → List TerminalReplies → Type 0
  HoldsAt G outputs = (t : TerminalReplies) → replies_at terminal outputs ≡ Some t → G t

  changed_at : (G : TerminalReplies → Type 0) (other : List ℕ) (change : TerminalReplies → TerminalReplies) → ((t : TerminalReplies) → (change t).terminal ≡ t.terminal) → ((t : TerminalReplies) → G t → G (change t))
      → (outputs : List TerminalReplies) → HoldsAt G outputs → HoldsAt G (with_terminal other change outputs)
  changed_at G other change names keeps [] h = h
  changed_at G other change names keeps (t ∷ outputs) h = by (are_replies_of other t) (bytes_eq t.terminal terminal) refl (changed_at G other change names keeps outputs) where
    here : (c : Bool) → bytes_eq t.terminal terminal ≡ c → (u : TerminalReplies) → cond c (Some (change t)) (replies_at terminal outputs) ≡ Some u → G u
    here true is u e = subst G (some_is (change t) u e) (keeps t (h t (ap (λ (b : Bool). cond b (Some t) (replies_at terminal outputs)) is)))
    here false is u e = h u (ap (λ (b : Bool). cond b (Some t) (replies_at terminal outputs)) is ∙ e)

    behind : (c : Bool) → bytes_eq t.terminal terminal ≡ c → (HoldsAt G outputs → HoldsAt G (with_terminal other change outputs)) → (u : TerminalReplies)
        → cond c (Some t) (replies_at terminal (with_terminal other change outputs)) ≡ Some u → G u
    behind true is on u e = subst G (some_is t u e) (h t (ap (λ (b : Bool). cond b (Some t) (replies_at terminal outputs)) is))
    behind false is on u e = on (λ v f. h v (ap (λ (b : Bool). cond b (Some t) (replies_at terminal outputs)) is ∙ f)) u e

    by : (b c : Bool) → bytes_eq t.terminal terminal ≡ c → (HoldsAt G outputs → HoldsAt G (with_terminal other change outputs)) → HoldsAt G (if b then change t ∷ outputs else t ∷ with_terminal other change outputs)
    by true c is on = λ u e. here (bytes_eq t.terminal terminal) refl u (sym (ap (λ (n : List ℕ). cond (bytes_eq n terminal) (Some (change t)) (replies_at terminal outputs)) (names t)) ∙ e)
    by false c is on = λ u e. behind (bytes_eq t.terminal terminal) refl on u e

  -- of the terminal itself
  abbrev With : (TerminalReplies → TerminalReplies) → List TerminalReplies → Type 0
  With change outputs = (u : TerminalReplies) → replies_at terminal (with_terminal terminal change outputs) ≡ Some u → (t : TerminalReplies) × (replies_at terminal outputs ≡ Some t) × (u ≡ change t)

  changed_here : (change : TerminalReplies → TerminalReplies) → ((t : TerminalReplies) → (change t).terminal ≡ t.terminal) → (outputs : List TerminalReplies) → With change outputs
  changed_here change names [] u e = cc
  changed_here change names (t ∷ outputs) u e = by (bytes_eq t.terminal terminal) refl (changed_here change names outputs u) e where
    Was : List TerminalReplies → Type 0
    Was rest = (v : TerminalReplies) × (replies_at terminal rest ≡ Some v) × (u ≡ change v)

    by : (b : Bool) → bytes_eq t.terminal terminal ≡ b → (replies_at terminal (with_terminal terminal change outputs) ≡ Some u → Was outputs) → replies_at terminal (if b then change t ∷ outputs else t ∷ with_terminal terminal change outputs) ≡ Some u
        → (v : TerminalReplies) × (cond (bytes_eq t.terminal terminal) (Some t) (replies_at terminal outputs) ≡ Some v) × (u ≡ change v)
    by true is on f = (
      t,
      ap (λ (b : Bool). cond b (Some t) (replies_at terminal outputs)) is,
      sym (some_is (change t) u (sym (ap (λ (n : List ℕ). cond (bytes_eq n terminal) (Some (change t)) (replies_at terminal outputs)) (names t) ∙ ap (λ (b : Bool). cond b (Some (change t)) (replies_at terminal outputs)) is) ∙ f)),
    )
    by false is on f =
        let later = on (sym (ap (λ (b : Bool). cond b (Some t) (replies_at terminal (with_terminal terminal change outputs))) is) ∙ f) in
        (later.0, ap (λ (b : Bool). cond b (Some t) (replies_at terminal outputs)) is ∙ later.1, later.2)

  module _ (low : ℕ) where
    abbrev pub AreFrom : LastingState → Type 0
    AreFrom lasting = HoldsAt (IsFrom low) lasting.outputs

    sent_from : (origin : List ℕ) (output : EndedMessage) (lasting : LastingState) → AreFrom lasting → AreFrom (output_sent origin output lasting)
    sent_from origin output lasting h = by (is_some (output_at lasting.outputs output.to)) where
      by : (b : Bool) → AreFrom (if b then replied output lasting else switched origin output lasting)
      by true = changed_at (IsFrom low) output.to (with_reply output.segments) (λ t. refl) (replied_from low output.segments) lasting.outputs h
      by false = h

    all_sent_from : (origin : List ℕ) (outputs : List EndedMessage) (lasting : LastingState) → AreFrom lasting → AreFrom (all_sent origin outputs lasting)
    all_sent_from origin [] lasting h = h
    all_sent_from origin (output ∷ outputs) lasting h = all_sent_from origin outputs (output_sent origin output lasting) (sent_from origin output lasting h)

    finished_from : (message : Option Message) (outputs : Message → List EndedMessage) (lasting : LastingState) → AreFrom lasting → AreFrom (finished_by message outputs lasting)
    finished_from None outputs lasting h = h
    finished_from (Some message) outputs lasting h =
        all_sent_from message.origin (outputs message) (record lasting { messages = without_message lasting.messages message.id }) h

    pad_from : (message : Option Message) (change : Message → PadChange) (lasting : LastingState) → AreFrom lasting → AreFrom (with_pad_by message change lasting)
    pad_from None change lasting h = h
    pad_from (Some message) change lasting h = h

    commanded_from : (command : LastingCommand) (lasting : LastingState) → AreFrom lasting → AreFrom (commanded command lasting)
    commanded_from (lasts.StartTransaction code) lasting h = h
    commanded_from (lasts.StopTransaction code) lasting h = h
    commanded_from (lasts.StartTerminal other) lasting h = h
    commanded_from (lasts.StopTerminal other) lasting h = h
    commanded_from (lasts.DequeueFirst other) lasting h = changed_at (IsFrom low) other without_first (λ t. refl) (first_from low) lasting.outputs h
    commanded_from (lasts.DequeueAll other) lasting h = changed_at (IsFrom low) other without_replies (λ t. refl) (none_from low) lasting.outputs h
    commanded_from (lasts.Exit other) lasting h = h
    commanded_from (lasts.AssignClass code class) lasting h = h
    commanded_from (lasts.AssignPriority code priority) lasting h = h

    step_from : (step : LastingStep) (lasting : LastingState) → AreFrom lasting → AreFrom (applied step lasting)
    step_from (Accepts other number kept) lasting h = h
    step_from (Acknowledges other) lasting h = changed_at (IsFrom low) other without_first (λ t. refl) (first_from low) lasting.outputs h
    step_from (Completes id rows outputs pad) lasting h =
        finished_from (message_at lasting.messages id) (λ _. outputs) (with_pad_by (message_at lasting.messages id) (λ _. pad) (record lasting { rows = rows }))
        (pad_from (message_at lasting.messages id) (λ _. pad) (record lasting { rows = rows }) h)
    step_from (Discards id abend) lasting h =
        finished_from (message_at lasting.messages id) (λ message. abend_outputs message abend) (with_pad_by (message_at lasting.messages id) discarded_pad lasting)
        (pad_from (message_at lasting.messages id) discarded_pad lasting h)
    step_from (Commands command) lasting h = commanded_from command lasting h

    fine : (step : Option LastingStep) → FineBy (λ s. Unit {0}) step
    fine None = tt
    fine (Some step) = tt

    -- No call lets the least number fall.
    pub from_kept : (system : System) → IsKeptBy AreFrom system any_call
    from_kept system moment entry is h =
        applied_by AreFrom (λ s. Unit {0}) moment.lasting (λ step any has. step_from step moment.lasting has) (lasting_step system moment (call_of entry)) (fine (lasting_step system moment (call_of entry))) h

    pub from_after : (system : System) (entries : List Entry) (moment : Moment) → AreFrom moment.lasting → AreFrom (moment_after system moment entries).lasting
    from_after system [] moment h = h
    from_after system (entry ∷ entries) moment h = from_after system entries (after_entry system moment entry) (from_kept system moment entry refl h)

  -- ---- what the terminal is shown

  showed_is : (a b : ℕ) → Showed a ≡ Showed b → a ≡ b
  showed_is a b e = cc

  shown_by : (low : ℕ) (output : Option TerminalReplies) (shown : ℕ) → ((t : TerminalReplies) → output ≡ Some t → IsFrom (low + 1) t) → Showed shown ≡ show_by output → low < shown
  shown_by low None shown h e = cc
  shown_by low (Some t) shown h e = of (slice_get t.replies 0) (h t refl).least e where
    of : (first : Option Reply) → low + 1 ≤ option_map_or (λ (r : Reply). r.number) first t.next → Showed shown ≡ option_map_or (λ (r : Reply). Showed r.number) first Empty → low < shown
    of None least f = cc
    of (Some r) least f = omega (arith, least, showed_is shown r.number f)

  shown_to : (low : ℕ) (state : Option TerminalState) (output : Option TerminalReplies) (shown : ℕ) → ((t : TerminalReplies) → output ≡ Some t → IsFrom (low + 1) t) → Showed shown ≡ show_to state output → low < shown
  shown_to low None output shown h e = cc
  shown_to low (Some state) output shown h e = of state.stopped e where
    of : (b : Bool) → Showed shown ≡ (if b then ShowStopped else show_by output) → low < shown
    of true f = cc
    of false f = shown_by low output shown h f

  show_answer_is : (other : List ℕ) (a b : ShowAnswer) → Show other a ≡ Show other b → a ≡ b
  show_answer_is other a b e = cc

  entry_higher : (system : System) (low : ℕ) (moment : Moment) (entry : Entry) → May system moment entry → AreFrom (low + 1) moment.lasting → ShowsHigher terminal low entry
  entry_higher system low moment (Show other (Showed shown)) may h = λ is.
      let same : other ≡ terminal = (bytes_eq-Decides other terminal).0 is in
      shown_to low (terminal_at moment.lasting.terminals other) (output_at moment.lasting.outputs other) shown
      (subst (λ (name : List ℕ). (t : TerminalReplies) → output_at moment.lasting.outputs name ≡ Some t → IsFrom (low + 1) t) (sym same) h)
      (show_answer_is other (Showed shown) (show_answer moment other) may.answer)
  entry_higher system low moment (Show other Empty) may h = tt
  entry_higher system low moment (Show other ShowStopped) may h = tt
  entry_higher system low moment (Show other ShowUnknown) may h = tt
  entry_higher system low moment (Accept other number segments answer) may h = tt
  entry_higher system low moment (AckedEntry other number answer) may h = tt
  entry_higher system low moment (TurnEntry region answer) may h = tt
  entry_higher system low moment (Commanded command answer) may h = tt
  entry_higher system low moment (Checked freeze answer) may h = tt
  entry_higher system low moment (Quiet quiet) may h = tt

  end_higher : (low : ℕ) (entry : Entry) → is_fault entry ≡ true → ShowsHigher terminal low entry
  end_higher low (Show other (Showed shown)) fault = cc
  end_higher low (Show other Empty) fault = tt
  end_higher low (Show other ShowStopped) fault = tt
  end_higher low (Show other ShowUnknown) fault = tt
  end_higher low (Accept other number segments answer) fault = tt
  end_higher low (AckedEntry other number answer) fault = tt
  end_higher low (TurnEntry region answer) fault = tt
  end_higher low (Commanded command answer) fault = tt
  end_higher low (Checked freeze answer) fault = tt
  end_higher low (Quiet quiet) fault = tt

  steps_higher : (system : System) (low : ℕ) (steps : List Entry) (last : Option Entry) (moment : Moment) → AreSteps system moment steps → IsEnd system last → AreFrom (low + 1) moment.lasting
      → AllShowHigher terminal low (history_ended_by steps last)
  steps_higher system low [] None moment legal end h = tt
  steps_higher system low [] (Some entry) moment legal end h = (end_higher low entry end.0, tt)
  steps_higher system low (step ∷ steps) None moment legal end h =
      (entry_higher system low moment step legal.0 h, steps_higher system low steps None (after_entry system moment step) legal.1 end (from_kept (low + 1) system moment step refl h))
  steps_higher system low (step ∷ steps) (Some entry) moment legal end h =
      (entry_higher system low moment step legal.0 h, steps_higher system low steps (Some entry) (after_entry system moment step) legal.1 end (from_kept (low + 1) system moment step refl h))

  all_from : (system : System) (low : ℕ) (entries : List Entry) → AllKeep (AreFrom low) system entries
  all_from system low entries = of_kind (AreFrom low) system any_call (from_kept low system) entries (all_any entries)

  -- what a life leaves, whatever it did
  life_from : (system : System) (low : ℕ) (life : LifeState) → AreFrom low life.opening → Leaving (AreFrom low) system (alone life)
  life_from system low life h = opened_leaves (AreFrom low) system (alone life) (all_from system low life.history) h

  pub lives_higher : (system : System) (low : ℕ) (lives : List LifeState) → OpenedWith (AreFrom (low + 1)) lives → AreLeft system lives → AreLegal system lives → LivesShowHigher terminal low lives
  lives_higher system low [] h linked legal = tt
  lives_higher system low (life ∷ lives) h linked legal =
      let is = legal.0.legal in (
        subst (AllShowHigher terminal low) (sym is.all) (steps_higher system low is.steps is.last (start_of system life.opening) is.legal is.end h),
        lives_higher system low lives (opened_behind system (AreFrom (low + 1)) life lives (life_from system (low + 1) life h) linked.0) linked.1 legal.1,
      )

  -- all lives behind the first, too
  pub numbered_behind : (system : System) (before lives : List LifeState) → OpenedWith (AreFrom 0) (before ++ lives) → AreLeft system (before ++ lives) → OpenedWith (AreFrom 0) lives
  numbered_behind system [] lives h linked = h
  numbered_behind system (life ∷ before) lives h linked =
      numbered_behind system before lives (opened_behind system (AreFrom 0) life (before ++ lives) (life_from system 0 life h) linked.0) linked.1

  pub begins_from : (lives : List LifeState) → OpenedWith IsNumbered lives → OpenedWith (AreFrom 0) lives
  begins_from [] h = tt
  begins_from (life ∷ lives) h = λ t is. record { numbered = h terminal t is; least = omega arith }

  -- ---- one that was acknowledged

  module _ (system : System) (number : ℕ) where
    abbrev removal : Entry
    removal = AckedEntry terminal number (Ok Removed)

    pub record IsGone (moment : Moment) (front rest : List Entry) : Type 0 where
      pub from : AreFrom (number + 1) (moment_after system moment (front ++ removal ∷ [])).lasting
      pub higher : AllShowHigher terminal number rest

    acked_is : (a b : Result Acked AckRefused) → AckedEntry terminal number a ≡ AckedEntry terminal number b → a ≡ b
    acked_is a b e = cc

    split_and : (a b : Bool) → a && b ≡ true → (a ≡ true) × (b ≡ true)
    split_and true b e = (refl, e)
    split_and false b e = cc

    removes : (b c : Bool) (first : ℕ) → (if b then Ok AckAlready else if c then Ok Removed else Err (Ahead first)) ≡ Ok Removed → c ≡ true
    removes true c first e = cc
    removes false true first e = refl
    removes false false first e = cc

    pub first_is : (output : Option TerminalReplies) (t : TerminalReplies) → output ≡ Some t → ack_by output number ≡ Ok Removed → (number ≡ first_number t) × (is_some (slice_get t.replies 0) ≡ true)
    first_is None t is e = cc
    first_is (Some u) t is e =
        let both = split_and (number == first_number u) (is_some (slice_get u.replies 0)) (removes (nat_lt number (first_number u)) ((number == first_number u) && is_some (slice_get u.replies 0)) (first_number u) e) in
        subst (λ (v : TerminalReplies). (number ≡ first_number v) × (is_some (slice_get v.replies 0) ≡ true)) (some_is u t is) (eqb-true number (first_number u) both.0, both.1)

    -- where its first reply has this number, a terminal has none of them behind the removal of the first, or of all
    pub first_gone : (outputs : List TerminalReplies) → HoldsAt (IsFrom 0) outputs → ((t : TerminalReplies) → replies_at terminal outputs ≡ Some t → (number ≡ first_number t) × (is_some (slice_get t.replies 0) ≡ true))
        → HoldsAt (IsFrom (number + 1)) (with_terminal terminal without_first outputs)
    first_gone outputs h first = λ u e.
        let was = changed_here without_first (λ t. refl) outputs u e in
        let its = first was.0 was.1 in
        let both = removed was.0.next number was.0.replies (h was.0 was.1).numbered its.1 its.0 in
        subst (IsFrom (number + 1)) (sym was.2) (record { numbered = both.0; least = both.1 })

    run_above : (next : ℕ) (replies : List Reply) → RunUpTo next replies → is_some (slice_get replies 0) ≡ true → number ≡ option_map_or (λ (r : Reply). r.number) (slice_get replies 0) next → number + 1 ≤ next
    run_above next [] run there is = cc
    run_above next (r ∷ replies) run there is = omega (arith, run.0, is)

    pub all_gone : (outputs : List TerminalReplies) → HoldsAt (IsFrom 0) outputs → ((t : TerminalReplies) → replies_at terminal outputs ≡ Some t → (number ≡ first_number t) × (is_some (slice_get t.replies 0) ≡ true))
        → HoldsAt (IsFrom (number + 1)) (with_terminal terminal without_replies outputs)
    all_gone outputs h first = λ u e.
        let was = changed_here without_replies (λ t. refl) outputs u e in
        let its = first was.0 was.1 in
        subst (IsFrom (number + 1)) (sym was.2) (record { numbered = tt; least = run_above was.0.next was.0.replies (h was.0 was.1).numbered its.1 its.0 })

    pub gone_then : (moment : Moment) → ack_answer moment terminal number ≡ Ok Removed → AreFrom 0 moment.lasting → AreFrom (number + 1) (after_entry system moment removal).lasting
    gone_then moment is h =
        subst (λ (answer : Result Acked AckRefused). AreFrom (number + 1) (option_map_or (λ step. applied step moment.lasting) (acknowledged_step terminal answer) moment.lasting)) (sym is)
        (first_gone moment.lasting.outputs h (λ t there. first_is (output_at moment.lasting.outputs terminal) t there is))

    gone_here : (step : Entry) (steps : List Entry) (last : Option Entry) (moment : Moment) (rest : List Entry) → AreSteps system moment (step ∷ steps) → IsEnd system last → AreFrom 0 moment.lasting → step ≡ removal → history_ended_by steps last ≡ rest
        → IsGone moment [] rest
    gone_here step steps last moment rest legal end h is same =
        let may : May system moment removal = subst (May system moment) is legal.0 in
        let from : AreFrom (number + 1) (after_entry system moment removal).lasting = gone_then moment (sym (acked_is (Ok Removed) (ack_answer moment terminal number) may.answer)) h in
        record {
          from = from;
          higher = subst (AllShowHigher terminal number) same
              (steps_higher system number steps last (after_entry system moment step) legal.1 end (subst (λ (e : Entry). AreFrom (number + 1) (after_entry system moment e).lasting) (sym is) from));
        }

    gone : (steps : List Entry) (last : Option Entry) (moment : Moment) (front rest : List Entry) → AreSteps system moment steps → IsEnd system last → AreFrom 0 moment.lasting → history_ended_by steps last ≡ front ++ removal ∷ rest
        → IsGone moment front rest
    gone [] None moment front rest legal end h same = absurd (none_there front removal rest same)
    gone [] (Some last) moment [] rest legal end h same = absurd (apart (sym end.0 ∙ ap is_fault (head_is last removal [] rest same)))
    gone [] (Some last) moment (f ∷ front) rest legal end h same = absurd (none_there front removal rest (tail_is last f [] (front ++ removal ∷ rest) same))
    gone (step ∷ steps) last moment [] rest legal end h same =
        let all : step ∷ history_ended_by steps last ≡ removal ∷ rest = sym (ended_more step steps last) ∙ same in
        gone_here step steps last moment rest legal end h (head_is step removal (history_ended_by steps last) rest all) (tail_is step removal (history_ended_by steps last) rest all)
    gone (step ∷ steps) last moment (f ∷ front) rest legal end h same =
        let all : step ∷ history_ended_by steps last ≡ f ∷ (front ++ removal ∷ rest) = sym (ended_more step steps last) ∙ same in
        let is : step ≡ f = head_is step f (history_ended_by steps last) (front ++ removal ∷ rest) all in
        let there : IsGone (after_entry system moment step) front rest =
        gone steps last (after_entry system moment step) front rest legal.1 end (from_kept 0 system moment step refl h) (tail_is step f (history_ended_by steps last) (front ++ removal ∷ rest) all) in
        record {
          from = subst (λ (e : Entry). AreFrom (number + 1) (moment_after system (after_entry system moment e) (front ++ removal ∷ [])).lasting) is there.from;
          higher = there.higher;
        }

    pub gone_for_good : (life : LifeState) (later : List LifeState) (front rest : List Entry) → AreLeft system (life ∷ later) → AreLegal system (life ∷ later) → AreFrom 0 life.opening
        → life.history ≡ front ++ removal ∷ rest → steps_of system life (front ++ removal ∷ []) ≤ life.forced → AllShowHigher terminal number rest × LivesShowHigher terminal number later
    gone_for_good life later front rest linked legal h split few =
        let is = legal.0.legal in
        let there : IsGone (start_of system life.opening) front rest = gone is.steps is.last (start_of system life.opening) front rest is.legal is.end h (sym is.all ∙ split) in
        let from : AreFrom (number + 1) (after_entry system (life_moment system (alone life) front) removal).lasting =
        subst (λ (m : Moment). AreFrom (number + 1) m.lasting) (moment_after-append system (start_of system life.opening) front removal) there.from in
        let left : Leaving (AreFrom (number + 1)) system (alone life) =
        forced_leaves (AreFrom (number + 1)) system life front rest removal split few (all_from system (number + 1) rest) from in
        (there.higher, lives_higher system number later (opened_behind system (AreFrom (number + 1)) life later left linked.0) linked.1 legal.1)
