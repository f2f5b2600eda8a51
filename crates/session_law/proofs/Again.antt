-- An input whose own call met a stop.
use Rattle.std.proofs.Common.{◌≡◌, ◌⊎◌, inl, inr, ℕ, ◌+◌, ◌≤◌, Bool, true, false, not, List, [], ◌∷◌, Option, Some, None, refl, sym, ap, ◌∙◌, subst, arith, cond, nat_lt}
use Rattle.std.specs.Prelude.{Result, Ok, Err, nat_le, if◌then◌else◌}
use Rattle.std.specs.Option.{option_map, option_map_or, option_or, unwrap_or}
use Rattle.std.specs.Str.{bytes_eq}
use Rattle.std.proofs.lemmas.Bool.Decides.{nat_tests}
use Rattle.std.proofs.lemmas.Slice.Eq.{bytes_eq-Decides}
use Rattle.tm_types.specs.declared.command.LastingCommand.{LastingCommand}
use Rattle.tm_types.specs.declared.command.LastingCommand.TheVariants.{StartTransaction, StopTransaction, StartTerminal, StopTerminal, DequeueFirst, DequeueAll, Exit, AssignClass, AssignPriority}
use Rattle.model_system.specs.System.{System}
use Rattle.model_machine.specs.declared.lasting.TerminalState.{TerminalState}
use Rattle.model_machine.specs.declared.entry.Entry.{Entry}
use Rattle.model_machine.specs.declared.entry.ControlCall.{ControlCall}
use Rattle.model_machine.specs.declared.entry.ControlCall.TheVariants.{Input, Receive, Acknowledge, Turn, Command, Checkpoint, AskQuiet}
use Rattle.model_machine.specs.declared.entry.Taken.{Taken}
use Rattle.model_machine.specs.declared.entry.Taken.TheVariants.{New, Already}
use Rattle.model_machine.specs.declared.entry.InputRefused.{InputRefused}
use Rattle.model_machine.specs.declared.entry.InputRefused.TheVariants.{StoppedTerminal, Expected}
use Rattle.model_machine.specs.declared.entry.Acked.{Acked}
use Rattle.model_machine.specs.declared.entry.Acked.TheVariants.{Removed, Already as AckAlready}
use Rattle.model_machine.specs.declared.entry.AckRefused.{AckRefused}
use Rattle.model_machine.specs.Machine.{LastingState, Moment, terminal_at, message_at}
use Rattle.model_machine.specs.CommandAnswers.{lasting_command}
use Rattle.model_machine.specs.LastingSteps.{LastingStep, KeptInput, with_last_number, stopped_terminal, applied, with_pad_by, discarded_pad, abend_outputs, commanded, kept_input}
use Rattle.model_machine.specs.LastingSteps.LastingStep.{Accepts, Acknowledges, Completes, Discards, Commands}
use Rattle.model_machine.specs.MachineCalls.{by_number, accepted_step, acknowledged_step, input_answer, ack_answer, lasting_step}
use Rattle.model_machine.specs.History.{call_of, after_entry}
use Rattle.model_session.specs.Lives.{LastLife, forced_to, longer}
use Rattle.model_session.specs.SessionState.Standing.{Up}
use Rattle.session_law.specs.ResentInputs.{last_number_of, IsForcedWithin, IsKeptBy, spares_input}
use Rattle.session_law.specs.SentAgain.{IsDoubted}
use Rattle.session_law.proofs.Sessions.{AllKeep, Leaving, force_keeps, more}
use Rattle.session_law.proofs.Steps.{FineBy, applied_by, turn_fine, command_fine}
use Rattle.session_law.proofs.Inputs.{Reached, last_in, change_named, changed_here, changed_later, last_cons, finished_terminals, pad_terminals, answer_by, later_refusals, numbers_kept, taken}

-- ---- a terminal's last number stays

not_true : (b : Bool) → not b ≡ true → b ≡ false
not_true true e = cc
not_true false e = refl

other_name : (name other terminal : List ℕ) → bytes_eq name other ≡ true → not (bytes_eq other terminal) ≡ true → bytes_eq name terminal ≡ false
other_name name other terminal is apart = ap (λ n. bytes_eq n terminal) ((bytes_eq-Decides name other).0 is) ∙ not_true (bytes_eq other terminal) apart

-- where another terminal changes
same_at : (terminal other : List ℕ) (f : TerminalState → TerminalState) → ((t : TerminalState) → (f t).name ≡ t.name) → not (bytes_eq other terminal) ≡ true → (ts : List TerminalState)
    → last_in terminal (change_named other f ts) ≡ last_in terminal ts
same_at terminal other f names apart [] = refl
same_at terminal other f names apart (t ∷ ts) = by (bytes_eq t.name other) refl (same_at terminal other f names apart ts) where
  by : (b : Bool) → bytes_eq t.name other ≡ b → last_in terminal (change_named other f ts) ≡ last_in terminal ts → last_in terminal (change_named other f (t ∷ ts)) ≡ last_in terminal (t ∷ ts)
  by true is rest =
      ap (λ us. last_in terminal us) (changed_here other f t ts is)
      ∙ last_cons terminal (f t) ts
      ∙ ap (λ n. cond (bytes_eq n terminal) (f t).last (last_in terminal ts)) (names t)
      ∙ ap (λ b. cond b (f t).last (last_in terminal ts)) (other_name t.name other terminal is apart)
      ∙ sym (last_cons terminal t ts ∙ ap (λ b. cond b t.last (last_in terminal ts)) (other_name t.name other terminal is apart))
  by false is rest =
      ap (λ us. last_in terminal us) (changed_later other f t ts is)
      ∙ last_cons terminal t (change_named other f ts)
      ∙ ap (λ l. cond (bytes_eq t.name terminal) t.last l) rest
      ∙ sym (last_cons terminal t ts)

-- where a terminal changes but for its last number
kept_at : (terminal other : List ℕ) (f : TerminalState → TerminalState) → ((t : TerminalState) → (f t).name ≡ t.name) → ((t : TerminalState) → (f t).last ≡ t.last) → (ts : List TerminalState)
    → last_in terminal (change_named other f ts) ≡ last_in terminal ts
kept_at terminal other f names lasts [] = refl
kept_at terminal other f names lasts (t ∷ ts) = by (bytes_eq t.name other) refl (kept_at terminal other f names lasts ts) where
  by : (b : Bool) → bytes_eq t.name other ≡ b → last_in terminal (change_named other f ts) ≡ last_in terminal ts → last_in terminal (change_named other f (t ∷ ts)) ≡ last_in terminal (t ∷ ts)
  by true is rest =
      ap (λ us. last_in terminal us) (changed_here other f t ts is)
      ∙ last_cons terminal (f t) ts
      ∙ ap (λ n. cond (bytes_eq n terminal) (f t).last (last_in terminal ts)) (names t)
      ∙ ap (λ l. cond (bytes_eq t.name terminal) l (last_in terminal ts)) (lasts t)
      ∙ sym (last_cons terminal t ts)
  by false is rest =
      ap (λ us. last_in terminal us) (changed_later other f t ts is)
      ∙ last_cons terminal t (change_named other f ts)
      ∙ ap (λ l. cond (bytes_eq t.name terminal) t.last l) rest
      ∙ sym (last_cons terminal t ts)

module _ (terminal : List ℕ) (last : ℕ) where
  -- the terminal's last number is this
  abbrev pub Stands : LastingState → Type 0
  Stands lasting = last_number_of terminal lasting ≡ last

  commanded_stands : (command : LastingCommand) (lasting : LastingState) → Stands lasting → Stands (commanded command lasting)
  commanded_stands (StartTransaction code) lasting h = h
  commanded_stands (StopTransaction code) lasting h = h
  commanded_stands (StartTerminal other) lasting h = kept_at terminal other (stopped_terminal false) (λ t. refl) (λ t. refl) lasting.terminals ∙ h
  commanded_stands (StopTerminal other) lasting h = kept_at terminal other (stopped_terminal true) (λ t. refl) (λ t. refl) lasting.terminals ∙ h
  commanded_stands (DequeueFirst other) lasting h = h
  commanded_stands (DequeueAll other) lasting h = h
  commanded_stands (Exit other) lasting h = h
  commanded_stands (AssignClass code class) lasting h = h
  commanded_stands (AssignPriority code priority) lasting h = h

  -- a step that accepts no input of the terminal
  abbrev SparesBy : LastingStep → Type 0
  SparesBy (Accepts other number kept) = not (bytes_eq other terminal) ≡ true
  SparesBy (Acknowledges other) = Unit {0}
  SparesBy (Completes id rows outputs pad) = Unit {0}
  SparesBy (Discards id abend) = Unit {0}
  SparesBy (Commands command) = Unit {0}

  step_stands : (step : LastingStep) (lasting : LastingState) → SparesBy step → Stands lasting → Stands (applied step lasting)
  step_stands (Accepts other number kept) lasting apart h = same_at terminal other (with_last_number number) (λ t. refl) apart lasting.terminals ∙ h
  step_stands (Acknowledges other) lasting is h = h
  step_stands (Completes id rows outputs pad) lasting is h =
      ap (λ ts. last_in terminal ts)
      (finished_terminals (message_at lasting.messages id) (λ _. outputs) (with_pad_by (message_at lasting.messages id) (λ _. pad) (record lasting { rows = rows }))
      ∙ pad_terminals (message_at lasting.messages id) (λ _. pad) (record lasting { rows = rows })) ∙ h
  step_stands (Discards id abend) lasting is h =
      ap (λ ts. last_in terminal ts)
      (finished_terminals (message_at lasting.messages id) (λ message. abend_outputs message abend) (with_pad_by (message_at lasting.messages id) discarded_pad lasting)
      ∙ pad_terminals (message_at lasting.messages id) discarded_pad lasting) ∙ h
  step_stands (Commands command) lasting is h = commanded_stands command lasting h

  accepts_spare : (other : List ℕ) (number : ℕ) (kept : KeptInput) (answer : Result Taken InputRefused) → not (bytes_eq other terminal) ≡ true → FineBy SparesBy (accepted_step other number kept answer)
  accepts_spare other number kept (Ok (New id)) apart = apart
  accepts_spare other number kept (Ok Already) apart = tt
  accepts_spare other number kept (Err refused) apart = tt

  acknowledges_spare : (other : List ℕ) (answer : Result Acked AckRefused) → FineBy SparesBy (acknowledged_step other answer)
  acknowledges_spare other (Ok Removed) = tt
  acknowledges_spare other (Ok AckAlready) = tt
  acknowledges_spare other (Err refused) = tt

  commands_spare : (command : Option LastingCommand) → FineBy SparesBy (option_map Commands command)
  commands_spare None = tt
  commands_spare (Some command) = tt

  call_spares : (system : System) (moment : Moment) (call : ControlCall) → spares_input terminal call ≡ true → FineBy SparesBy (lasting_step system moment call)
  call_spares system moment (Input other number segments) is =
      accepts_spare other number (kept_input system moment.lasting other segments) (input_answer system moment other number segments) is
  call_spares system moment (Receive other) is = tt
  call_spares system moment (Acknowledge other number) is = acknowledges_spare other (ack_answer moment other number)
  call_spares system moment (Turn region) is = turn_fine SparesBy (λ id rows outputs pad. tt) (λ id abend. tt) system moment region
  call_spares system moment (Command command) is = command_fine SparesBy system moment command (commands_spare (lasting_command command))
  call_spares system moment (Checkpoint freeze) is = tt
  call_spares system moment AskQuiet is = tt

  -- No call but an input of the terminal changes its last number.
  pub last_kept : (system : System) → IsKeptBy Stands system (spares_input terminal)
  last_kept system moment entry is h =
      applied_by Stands SparesBy moment.lasting (λ step fine has. step_stands step moment.lasting fine has)
      (lasting_step system moment (call_of entry)) (call_spares system moment (call_of entry) is) h

-- ---- the input's own call

accepted_or : (terminal : List ℕ) (number last : ℕ) (kept : KeptInput) (lasting : LastingState) (answer : Result Taken InputRefused)
    → ((id : ℕ) → answer ≡ Ok (New id) → Reached terminal number (option_map_or (λ step. applied step lasting) (accepted_step terminal number kept answer) lasting))
    → Stands terminal last lasting
    → Stands terminal last (option_map_or (λ step. applied step lasting) (accepted_step terminal number kept answer) lasting)
    ⊎ Reached terminal number (option_map_or (λ step. applied step lasting) (accepted_step terminal number kept answer) lasting)
accepted_or terminal number last kept lasting (Ok (New id)) reached h = inr (reached id refl)
accepted_or terminal number last kept lasting (Ok Already) reached h = inl h
accepted_or terminal number last kept lasting (Err refused) reached h = inl h

-- Whatever the call is answered, it leaves the terminal's last number, or this number is used behind it.
pub input_leaves : (system : System) (moment : Moment) (terminal : List ℕ) (number last : ℕ) (segments : List (List ℕ)) (entry : Entry) → call_of entry ≡ Input terminal number segments
    → Stands terminal last moment.lasting
    → Stands terminal last (after_entry system moment entry).lasting ⊎ Reached terminal number (after_entry system moment entry).lasting
input_leaves system moment terminal number last segments entry asked h =
    subst
    (λ call. Stands terminal last (option_map_or (λ step. applied step moment.lasting) (lasting_step system moment call) moment.lasting)
    ⊎ Reached terminal number (option_map_or (λ step. applied step moment.lasting) (lasting_step system moment call) moment.lasting))
    (sym asked)
    (accepted_or terminal number last (kept_input system moment.lasting terminal segments) moment.lasting (input_answer system moment terminal number segments)
    (λ id new. taken system moment terminal number segments id new) h)

-- A life that ends with an input, in whose call or in the force behind it the disk failed, leaves the terminal's last number as it was, or
-- this number as used, whatever the stop kept.
pub cut_off : (system : System) (terminal : List ℕ) (number last forced : ℕ) (segments : List (List ℕ)) (life : LastLife) (entry : Entry) (after : List Entry) → call_of entry ≡ Input terminal number segments
    → IsDoubted entry after → IsForcedWithin system (Up life) → life.forced ≤ forced → Leaving (Stands terminal last) system life
    → Leaving (λ lasting. Stands terminal last lasting ⊎ Reached terminal number lasting) system (forced_to forced (longer life (entry ∷ after)))
cut_off system terminal number last forced segments life entry after asked doubted within least has =
    more Either system life (entry ∷ after) forced (entry_keeps, by doubted) within least (λ kept state leaves. inl (has kept state leaves))
  where
    Either : LastingState → Type 0
    Either lasting = Stands terminal last lasting ⊎ Reached terminal number lasting

    entry_keeps : (moment : Moment) → Either moment.lasting → Either (after_entry system moment entry).lasting
    entry_keeps moment (inl stands) = input_leaves system moment terminal number last segments entry asked stands
    entry_keeps moment (inr reached) = inr (numbers_kept terminal number system moment entry refl reached)

    by : IsDoubted entry after → AllKeep Either system after
    by (inl (fault, none)) = subst (AllKeep Either system) (sym none) tt
    by (inr one) = subst (AllKeep Either system) (sym one) (force_keeps Either system, tt)

-- ---- sent again

-- Where the number is the next one of its terminal, which isn't stopped, the input is new, unless a refusal that comes behind the
-- number applies.
pub next_is_new : (system : System) (moment : Moment) (terminal : List ℕ) (number : ℕ) (segments : List (List ℕ)) (t : TerminalState)
    → terminal_at moment.lasting.terminals terminal ≡ Some t → t.stopped ≡ false → number ≡ t.last + 1
    → input_answer system moment terminal number segments ≡ unwrap_or (later_refusals system moment terminal segments) (Ok (New moment.lasting.next_id))
next_is_new system moment terminal number segments t there running next =
    ap (λ o. answer_by o number moment.lasting.next_id (later_refusals system moment terminal segments)) there
    ∙ ap (λ (s : Bool). unwrap_or (option_or (if s then Some (Err StoppedTerminal) else None) (option_or (by_number t.last number) (later_refusals system moment terminal segments))) (Ok (New moment.lasting.next_id))) running
    ∙ ap (λ (n : ℕ). unwrap_or (option_or (by_number t.last n) (later_refusals system moment terminal segments)) (Ok (New moment.lasting.next_id))) next
    ∙ by (nat_le (t.last + 1) t.last) (nat_lt (t.last + 1) (t.last + 1)) above itself
  where
    above : nat_le (t.last + 1) t.last ≡ false
    above = grind (arith, nat_tests)

    itself : nat_lt (t.last + 1) (t.last + 1) ≡ false
    itself = grind (arith, nat_tests)

    by : (low high : Bool) → low ≡ false → high ≡ false
        → unwrap_or (option_or (if low then Some (Ok Already) else if high then Some (Err (Expected (t.last + 1))) else None) (later_refusals system moment terminal segments)) (Ok (New moment.lasting.next_id))
        ≡ unwrap_or (later_refusals system moment terminal segments) (Ok (New moment.lasting.next_id))
    by true high l r = cc
    by false true l r = cc
    by false false l r = refl
