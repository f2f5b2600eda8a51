-- A reply that a terminal is shown is what it is shown on, or never comes back.
use Rattle.std.proofs.Common.{◌≡◌, ◌⊎◌, inl, inr, ℕ, ◌+◌, ◌≤◌, Bool, true, false, ◌&&◌, List, [], ◌∷◌, Option, Some, None, refl, sym, ap, ◌∙◌, subst, arith}
use Rattle.std.specs.Prelude.{Result, Ok, Err, ◌==◌, if◌then◌else◌, slice_get}
use Rattle.std.specs.Option.{is_some, option_map_or, option_and_then}
use Rattle.std.specs.Str.{bytes_eq}
use Rattle.std.proofs.lemmas.Bool.{eqb-true}
use Rattle.std.proofs.lemmas.Slice.Eq.{bytes_eq-Decides}
use Rattle.tm_types.specs.declared.message.Reply.{Reply}
use Rattle.model_system.specs.System.{System}
use Rattle.model_messages.specs.declared.replies.TerminalReplies.{TerminalReplies}
use Rattle.model_messages.specs.Outputs.{first_number}
use Rattle.model_machine.specs.declared.command.Command.{Command}
use Rattle.model_machine.specs.declared.command.Command.TheVariants.{StartTransaction, StopTransaction, StartTerminal, StopTerminal, DisplayTransaction, DisplayTerminal, DisplayActive, Checkpoint as CheckpointCommand, Freeze, DequeueFirst, DequeueAll, Exit, AssignClass, AssignPriority, EmergencyRestart, NormalRestart, ColdStart}
use Rattle.model_machine.specs.declared.entry.Acked.{Acked}
use Rattle.model_machine.specs.declared.entry.Acked.TheVariants.{Removed, Already as AckAlready}
use Rattle.model_machine.specs.declared.entry.AckRefused.{AckRefused}
use Rattle.model_machine.specs.declared.entry.CommandRefused.{CommandRefused}
use Rattle.model_machine.specs.declared.answer.Answer.{Answer}
use Rattle.model_machine.specs.declared.entry.Entry.{Entry}
use Rattle.model_machine.specs.declared.entry.Entry.TheVariants.{Accept, Show, Acked as AckedEntry, Turn as TurnEntry, Commanded, Checked, Quiet}
use Rattle.model_machine.specs.declared.entry.ControlCall.TheVariants.{Command as CommandCall}
use Rattle.model_machine.specs.declared.entry.ShowAnswer.TheVariants.{Reply as Showed, Empty, Stopped as ShowStopped}
use Rattle.model_machine.specs.declared.lasting.TerminalState.{TerminalState}
use Rattle.model_machine.specs.Machine.{LastingState, Moment, output_at}
use Rattle.model_machine.specs.CommandAnswers.{CommandAnswer, command_answer, lasting_command, steps_by}
use Rattle.model_machine.specs.LastingSteps.{applied}
use Rattle.model_machine.specs.MachineCalls.{acknowledged_step, ack_answer, show_by, show_to}
use Rattle.model_machine.specs.History.{call_of, after_entry}
use Rattle.session_law.specs.ShownAgain.{takes_reply}
use Rattle.session_law.proofs.Sessions.{AllKeep}
use Rattle.session_law.proofs.Replies.{Waits}
use Rattle.session_law.proofs.ShownAgain.{kept_until}
use Rattle.session_law.proofs.NumberedReplies.{AreFrom, from_kept, first_gone, all_gone}

-- ---- the first reply

-- it is there, and has this number
pub record IsFirst (number : ℕ) (first : Option Reply) : Type 0 where
  pub reply : Reply
  pub numbered : reply.number ≡ number
  pub there : first ≡ Some reply

shown_is : (a b : ℕ) → Showed a ≡ Showed b → a ≡ b
shown_is a b e = cc

first_shown : (number : ℕ) (first : Option Reply) → option_map_or (λ (r : Reply). Showed r.number) first Empty ≡ Showed number → IsFirst number first
first_shown number None e = cc
first_shown number (Some r) e = record { reply = r; numbered = shown_is r.number number e; there = refl }

shown_first_by : (number : ℕ) (output : Option TerminalReplies) → show_by output ≡ Showed number → IsFirst number (option_and_then (λ (t : TerminalReplies). slice_get t.replies 0) output)
shown_first_by number None e = cc
shown_first_by number (Some t) e = first_shown number (slice_get t.replies 0) e

-- a terminal that is shown a reply has it as its first
pub shown_first : (number : ℕ) (state : Option TerminalState) (output : Option TerminalReplies) → show_to state output ≡ Showed number → IsFirst number (option_and_then (λ (t : TerminalReplies). slice_get t.replies 0) output)
shown_first number None output e = cc
shown_first number (Some state) output e = by state.stopped e where
  by : (b : Bool) → (if b then ShowStopped else show_by output) ≡ Showed number → IsFirst number (option_and_then (λ (t : TerminalReplies). slice_get t.replies 0) output)
  by true f = cc
  by false f = shown_first_by number output f

some_there : (reply : Reply) (next : ℕ) (first : Option Reply) → first ≡ Some reply → (reply.number ≡ option_map_or (λ (r : Reply). r.number) first next) × (is_some first ≡ true)
some_there reply next None e = cc
some_there reply next (Some r) e = let same : r ≡ reply = cc in (ap (λ (x : Reply). x.number) (sym same), refl)

first_there : (reply : Reply) (output : Option TerminalReplies) (t : TerminalReplies) → output ≡ Some t → option_and_then (λ (u : TerminalReplies). slice_get u.replies 0) output ≡ Some reply
    → (reply.number ≡ first_number t) × (is_some (slice_get t.replies 0) ≡ true)
first_there reply output t there waits = some_there reply t.next (slice_get t.replies 0) (sym (ap (λ (o : Option TerminalReplies). option_and_then (λ (u : TerminalReplies). slice_get u.replies 0) o) there) ∙ waits)

apart : true ≡ false → ⊥
apart e = cc

split_and : (a b : Bool) → a && b ≡ true → (a ≡ true) × (b ≡ true)
split_and true b e = (refl, e)
split_and false b e = cc

module _ (terminal : List ℕ) (reply : Reply) where
  from_any : (low : ℕ) (lasting : LastingState) → AreFrom terminal low lasting → AreFrom terminal 0 lasting
  from_any low lasting h = λ t there. record { numbered = (h t there).numbered; least = omega arith }

  -- The reply is what the terminal is shown, and none before it comes back; or it is gone, and never comes back.
  abbrev pub StaysOrGone : LastingState → Type 0
  StaysOrGone lasting = (Waits terminal reply lasting × AreFrom terminal reply.number lasting) ⊎ AreFrom terminal (reply.number + 1) lasting

  -- where it is what the terminal is shown, and numbers follow one another
  pub stays_here : (lasting : LastingState) → Waits terminal reply lasting → AreFrom terminal 0 lasting → StaysOrGone lasting
  stays_here lasting waits from =
      inl (waits, λ t there. record { numbered = (from t there).numbered; least = least (first_number t) (first_there reply (output_at lasting.outputs terminal) t there waits).0 }) where
        least : (n : ℕ) → reply.number ≡ n → reply.number ≤ n
        least n e = omega (arith, e)

  first_of_terminal : (lasting : LastingState) → Waits terminal reply lasting → (t : TerminalReplies) → output_at lasting.outputs terminal ≡ Some t → (reply.number ≡ first_number t) × (is_some (slice_get t.replies 0) ≡ true)
  first_of_terminal lasting waits t there = first_there reply (output_at lasting.outputs terminal) t there waits

  module _ (system : System) where
    -- ---- calls that take it away

    dequeued_first : (lasting : LastingState) (answer : CommandAnswer) → Waits terminal reply lasting → AreFrom terminal reply.number lasting
        → StaysOrGone (option_map_or (λ step. applied step lasting) (steps_by (lasting_command (DequeueFirst terminal)) answer) lasting)
    dequeued_first lasting (Err refused) waits from = inl (waits, from)
    dequeued_first lasting (Ok answer) waits from =
        inr (first_gone terminal system reply.number lasting.outputs (from_any reply.number lasting from) (first_of_terminal lasting waits))

    dequeued_all : (lasting : LastingState) (answer : CommandAnswer) → Waits terminal reply lasting → AreFrom terminal reply.number lasting
        → StaysOrGone (option_map_or (λ step. applied step lasting) (steps_by (lasting_command (DequeueAll terminal)) answer) lasting)
    dequeued_all lasting (Err refused) waits from = inl (waits, from)
    dequeued_all lasting (Ok answer) waits from =
        inr (all_gone terminal system reply.number lasting.outputs (from_any reply.number lasting from) (first_of_terminal lasting waits))

    first_taken : (moment : Moment) (other : List ℕ) (answer : CommandAnswer) → bytes_eq other terminal ≡ true → Waits terminal reply moment.lasting → AreFrom terminal reply.number moment.lasting
        → StaysOrGone (option_map_or (λ step. applied step moment.lasting) (steps_by (lasting_command (DequeueFirst other)) answer) moment.lasting)
    first_taken moment other answer is waits from =
        subst (λ (name : List ℕ). StaysOrGone (option_map_or (λ step. applied step moment.lasting) (steps_by (lasting_command (DequeueFirst name)) answer) moment.lasting))
        (sym ((bytes_eq-Decides other terminal).0 is)) (dequeued_first moment.lasting answer waits from)

    all_taken : (moment : Moment) (other : List ℕ) (answer : CommandAnswer) → bytes_eq other terminal ≡ true → Waits terminal reply moment.lasting → AreFrom terminal reply.number moment.lasting
        → StaysOrGone (option_map_or (λ step. applied step moment.lasting) (steps_by (lasting_command (DequeueAll other)) answer) moment.lasting)
    all_taken moment other answer is waits from =
        subst (λ (name : List ℕ). StaysOrGone (option_map_or (λ step. applied step moment.lasting) (steps_by (lasting_command (DequeueAll name)) answer) moment.lasting))
        (sym ((bytes_eq-Decides other terminal).0 is)) (dequeued_all moment.lasting answer waits from)

    taken : (moment : Moment) (command : Command) (answer : Result Answer CommandRefused) → takes_reply terminal reply.number (CommandCall command) ≡ true → Waits terminal reply moment.lasting → AreFrom terminal reply.number moment.lasting
        → StaysOrGone (after_entry system moment (Commanded command answer)).lasting
    taken moment (DequeueFirst other) answer is waits from = first_taken moment other (command_answer system moment (DequeueFirst other)) is waits from
    taken moment (DequeueAll other) answer is waits from = all_taken moment other (command_answer system moment (DequeueAll other)) is waits from
    taken moment (StartTransaction code) answer is waits from = absurd (apart (sym is))
    taken moment (StopTransaction code) answer is waits from = absurd (apart (sym is))
    taken moment (StartTerminal other) answer is waits from = absurd (apart (sym is))
    taken moment (StopTerminal other) answer is waits from = absurd (apart (sym is))
    taken moment (DisplayTransaction code) answer is waits from = absurd (apart (sym is))
    taken moment (DisplayTerminal other) answer is waits from = absurd (apart (sym is))
    taken moment DisplayActive answer is waits from = absurd (apart (sym is))
    taken moment CheckpointCommand answer is waits from = absurd (apart (sym is))
    taken moment Freeze answer is waits from = absurd (apart (sym is))
    taken moment (Exit other) answer is waits from = absurd (apart (sym is))
    taken moment (AssignClass code class) answer is waits from = absurd (apart (sym is))
    taken moment (AssignPriority code priority) answer is waits from = absurd (apart (sym is))
    taken moment EmergencyRestart answer is waits from = absurd (apart (sym is))
    taken moment NormalRestart answer is waits from = absurd (apart (sym is))
    taken moment ColdStart answer is waits from = absurd (apart (sym is))

    -- its acknowledgement
    acked_by : (moment : Moment) (answer : Result Acked AckRefused) → ack_answer moment terminal reply.number ≡ answer → Waits terminal reply moment.lasting → AreFrom terminal reply.number moment.lasting
        → StaysOrGone (option_map_or (λ step. applied step moment.lasting) (acknowledged_step terminal answer) moment.lasting)
    acked_by moment (Ok Removed) is waits from =
        inr (first_gone terminal system reply.number moment.lasting.outputs (from_any reply.number moment.lasting from) (first_of_terminal moment.lasting waits))
    acked_by moment (Ok AckAlready) is waits from = inl (waits, from)
    acked_by moment (Err refused) is waits from = inl (waits, from)

    acked : (moment : Moment) (other : List ℕ) (number : ℕ) (answer : Result Acked AckRefused) → bytes_eq other terminal && (number == reply.number) ≡ true → Waits terminal reply moment.lasting → AreFrom terminal reply.number moment.lasting
        → StaysOrGone (after_entry system moment (AckedEntry other number answer)).lasting
    acked moment other number answer is waits from =
        let its = split_and (bytes_eq other terminal) (number == reply.number) is in
        subst (λ (name : List ℕ). StaysOrGone (after_entry system moment (AckedEntry name number answer)).lasting) (sym ((bytes_eq-Decides other terminal).0 its.0))
        (subst (λ (n : ℕ). StaysOrGone (after_entry system moment (AckedEntry terminal n answer)).lasting) (sym (eqb-true number reply.number its.1))
        (acked_by moment (ack_answer moment terminal reply.number) refl waits from))

    taking : (moment : Moment) (entry : Entry) → takes_reply terminal reply.number (call_of entry) ≡ true → Waits terminal reply moment.lasting → AreFrom terminal reply.number moment.lasting
        → StaysOrGone (after_entry system moment entry).lasting
    taking moment (AckedEntry other number answer) is waits from = acked moment other number answer is waits from
    taking moment (Commanded command answer) is waits from = taken moment command answer is waits from
    taking moment (Accept other number segments answer) is waits from = absurd (apart (sym is))
    taking moment (Show other answer) is waits from = absurd (apart (sym is))
    taking moment (TurnEntry region answer) is waits from = absurd (apart (sym is))
    taking moment (Checked freeze answer) is waits from = absurd (apart (sym is))
    taking moment (Quiet quiet) is waits from = absurd (apart (sym is))

    -- Each entry keeps that.
    pub stays_or_gone : (entry : Entry) (moment : Moment) → StaysOrGone moment.lasting → StaysOrGone (after_entry system moment entry).lasting
    stays_or_gone entry moment (inr gone) = inr (from_kept terminal (reply.number + 1) system moment entry refl gone)
    stays_or_gone entry moment (inl (waits, from)) = by (takes_reply terminal reply.number (call_of entry)) refl where
      by : (b : Bool) → takes_reply terminal reply.number (call_of entry) ≡ b → StaysOrGone (after_entry system moment entry).lasting
      by true is = taking moment entry is waits from
      by false is = inl (kept_until terminal reply system moment entry is waits, from_kept terminal reply.number system moment entry refl from)

    pub all_stay : (entries : List Entry) → AllKeep StaysOrGone system entries
    all_stay [] = tt
    all_stay (entry ∷ entries) = (stays_or_gone entry, all_stay entries)
