-- A reply is shown again until it is taken away, whatever stops and restarts lie between.
use Rattle.std.proofs.Common.{◌≡◌, ◌≤◌, ℕ, Bool, true, false, not, ◌&&◌, List, [], ◌∷◌, ◌++◌, Option, Some, None, refl, sym, ap, ◌∙◌, subst}
use Rattle.std.specs.Prelude.{Result, Ok, Err, ◌==◌, if◌then◌else◌, slice_get, nat_lt}
use Rattle.std.specs.Option.{is_some, option_and_then, option_map_or}
use Rattle.std.specs.Str.{bytes_eq}
use Rattle.std.proofs.lemmas.Slice.Eq.{bytes_eq-Decides}
use Rattle.tm_types.specs.declared.message.Reply.{Reply}
use Rattle.model_system.specs.System.{System}
use Rattle.model_messages.specs.declared.replies.TerminalReplies.{TerminalReplies}
use Rattle.model_messages.specs.Outputs.{first_number}
use Rattle.model_machine.specs.declared.command.Command.{Command}
use Rattle.model_machine.specs.declared.command.Command.TheVariants.{StartTransaction, StopTransaction, StartTerminal, StopTerminal, DisplayTransaction, DisplayTerminal, DisplayActive, Checkpoint as CheckpointCommand, Freeze, DequeueFirst, DequeueAll, Exit, AssignClass, AssignPriority, EmergencyRestart, NormalRestart, ColdStart}
use Rattle.model_machine.specs.declared.entry.Entry.{Entry}
use Rattle.model_machine.specs.declared.entry.Entry.TheVariants.{Accept, Show, Acked as AckedEntry, Turn as TurnEntry, Commanded, Checked, Quiet}
use Rattle.model_machine.specs.declared.entry.ControlCall.{ControlCall}
use Rattle.model_machine.specs.declared.entry.ControlCall.TheVariants.{Command as CommandCall}
use Rattle.model_machine.specs.declared.entry.ShowAnswer.TheVariants.{Reply as ShowReply}
use Rattle.model_machine.specs.declared.entry.Acked.{Acked}
use Rattle.model_machine.specs.declared.entry.Acked.TheVariants.{Removed, Already as AckAlready}
use Rattle.model_machine.specs.declared.entry.AckRefused.{AckRefused}
use Rattle.model_machine.specs.declared.entry.AckRefused.TheVariants.{Ahead}
use Rattle.model_machine.specs.Machine.{LastingState, Moment, start_of, output_at}
use Rattle.model_machine.specs.LastingSteps.{applied}
use Rattle.model_machine.specs.MachineCalls.{acknowledged_step, ack_by, ack_answer}
use Rattle.model_machine.specs.History.{call_of, after_entry}
use Rattle.model_session.specs.Lives.{LifeState, life_moment}
use Rattle.session_law.specs.ResentInputs.{spares, IsKeptBy}
use Rattle.session_law.specs.SentAgain.{alone, steps_of, AreLeft}
use Rattle.session_law.specs.ShownAgain.{takes_reply, takes_none, WaitsOn, LivesWaitOn}
use Rattle.session_law.proofs.Sessions.{AllKeep, of_kind, opened_leaves}
use Rattle.session_law.proofs.Replies.{Waits, replies_kept}
use Rattle.session_law.proofs.LifeEnds.{forced_leaves, OpenedWith, opened_behind}

apart : true ≡ false → ⊥
apart e = cc

not_true : (b : Bool) → not b ≡ true → b ≡ false
not_true true e = cc
not_true false e = refl

module _ (terminal : List ℕ) (reply : Reply) where
  -- an acknowledgement of another number takes nothing away
  acked_by : (b removes : Bool) (first : ℕ) → removes ≡ false → (if b then Ok AckAlready else if removes then Ok Removed else Err (Ahead first)) ≡ Ok Removed → ⊥
  acked_by true removes first none is = cc
  acked_by false true first none is = absurd (apart none)
  acked_by false false first none is = cc

  not_removed : (output : Option TerminalReplies) (number : ℕ) → (number == reply.number) ≡ false → option_and_then (λ (t : TerminalReplies). slice_get t.replies 0) output ≡ Some reply
      → ack_by output number ≡ Ok Removed → ⊥
  not_removed None number other waits is = cc
  not_removed (Some t) number other waits is =
      acked_by (nat_lt number (first_number t)) ((number == first_number t) && is_some (slice_get t.replies 0)) (first_number t)
      (ap (λ (o : Option Reply). (number == option_map_or (λ (r : Reply). r.number) o t.next) && is_some o) waits ∙ ap (λ (b : Bool). b && true) other) is

  unless_removed : (other : List ℕ) (lasting : LastingState) (answer : Result Acked AckRefused) → (answer ≡ Ok Removed → ⊥) → Waits terminal reply lasting
      → Waits terminal reply (option_map_or (λ step. applied step lasting) (acknowledged_step other answer) lasting)
  unless_removed other lasting (Ok Removed) never h = absurd (never refl)
  unless_removed other lasting (Ok AckAlready) never h = h
  unless_removed other lasting (Err refused) never h = h

  acknowledged_keeps : (system : System) (moment : Moment) (other : List ℕ) (number : ℕ) (answer : Result Acked AckRefused) → bytes_eq other terminal && (number == reply.number) ≡ false → Waits terminal reply moment.lasting
      → Waits terminal reply (after_entry system moment (AckedEntry other number answer)).lasting
  acknowledged_keeps system moment other number answer spared h = by (bytes_eq other terminal) refl where
    by : (b : Bool) → bytes_eq other terminal ≡ b → Waits terminal reply (after_entry system moment (AckedEntry other number answer)).lasting
    by false is = replies_kept terminal reply system moment (AckedEntry other number answer) (ap not is) h
    by true is =
        let same : other ≡ terminal = (bytes_eq-Decides other terminal).0 is in
        let numbers : (number == reply.number) ≡ false = ap (λ (b : Bool). b && (number == reply.number)) (sym is) ∙ spared in
        unless_removed other moment.lasting (ack_answer moment other number)
        (not_removed (output_at moment.lasting.outputs other) number numbers
        (subst (λ (name : List ℕ). option_and_then (λ (t : TerminalReplies). slice_get t.replies 0) (output_at moment.lasting.outputs name) ≡ Some reply) (sym same) h)) h

  -- a command that takes none away
  command_spares : (command : Command) → takes_reply terminal reply.number (CommandCall command) ≡ false → spares terminal (CommandCall command) ≡ true
  command_spares (StartTransaction code) is = refl
  command_spares (StopTransaction code) is = refl
  command_spares (StartTerminal other) is = refl
  command_spares (StopTerminal other) is = refl
  command_spares (DisplayTransaction code) is = refl
  command_spares (DisplayTerminal other) is = refl
  command_spares DisplayActive is = refl
  command_spares CheckpointCommand is = refl
  command_spares Freeze is = refl
  command_spares (DequeueFirst other) is = ap not is
  command_spares (DequeueAll other) is = ap not is
  command_spares (Exit other) is = refl
  command_spares (AssignClass code class) is = refl
  command_spares (AssignPriority code priority) is = refl
  command_spares EmergencyRestart is = refl
  command_spares NormalRestart is = refl
  command_spares ColdStart is = refl

  pub kept_until : (system : System) (moment : Moment) (entry : Entry) → takes_reply terminal reply.number (call_of entry) ≡ false → Waits terminal reply moment.lasting → Waits terminal reply (after_entry system moment entry).lasting
  kept_until system moment (Accept other number segments answer) is h = replies_kept terminal reply system moment (Accept other number segments answer) refl h
  kept_until system moment (Show other answer) is h = replies_kept terminal reply system moment (Show other answer) refl h
  kept_until system moment (AckedEntry other number answer) is h = acknowledged_keeps system moment other number answer is h
  kept_until system moment (TurnEntry region answer) is h = replies_kept terminal reply system moment (TurnEntry region answer) refl h
  kept_until system moment (Commanded command answer) is h = replies_kept terminal reply system moment (Commanded command answer) (command_spares command is) h
  kept_until system moment (Checked freeze answer) is h = replies_kept terminal reply system moment (Checked freeze answer) refl h
  kept_until system moment (Quiet quiet) is h = replies_kept terminal reply system moment (Quiet quiet) refl h

  abbrev kind : ControlCall → Bool
  kind call = not (takes_reply terminal reply.number call)

  keeps : (system : System) → IsKeptBy (Waits terminal reply) system kind
  keeps system moment entry is h = kept_until system moment entry (not_true (takes_reply terminal reply.number (call_of entry)) is) h

  -- ---- over entries and lives

  waits_on : (system : System) (moment : Moment) (entries : List Entry) → Waits terminal reply moment.lasting → WaitsOn system terminal reply moment entries
  waits_on system moment [] h = h
  waits_on system moment (entry ∷ entries) h = (h, λ spared. waits_on system (after_entry system moment entry) entries (kept_until system moment entry spared h))

  keep_all : (system : System) (entries : List Entry) → takes_none terminal reply.number entries ≡ true → AllKeep (Waits terminal reply) system entries
  keep_all system entries none = of_kind (Waits terminal reply) system kind (keeps system) entries none

  pub lives_wait : (system : System) (lives : List LifeState) → OpenedWith (Waits terminal reply) lives → AreLeft system lives → LivesWaitOn system terminal reply lives
  lives_wait system [] has linked = tt
  lives_wait system (life ∷ lives) has linked = (
    waits_on system (start_of system life.opening) life.history has,
    λ none. lives_wait system lives
        (opened_behind system (Waits terminal reply) life lives (opened_leaves (Waits terminal reply) system (alone life) (keep_all system life.history none) has) linked.0)
        linked.1,
  )

  pub shown_on : (system : System) (life : LifeState) (later : List LifeState) (front rest : List Entry) (number : ℕ) → AreLeft system (life ∷ later)
      → life.history ≡ front ++ Show terminal (ShowReply number) ∷ rest → steps_of system life (front ++ Show terminal (ShowReply number) ∷ []) ≤ life.forced → Waits terminal reply (life_moment system (alone life) front).lasting
      → WaitsOn system terminal reply (life_moment system (alone life) front) (Show terminal (ShowReply number) ∷ rest)
      × (takes_none terminal reply.number rest ≡ true → LivesWaitOn system terminal reply later)
  shown_on system life later front rest number linked split few has =
      let entry : Entry = Show terminal (ShowReply number) in
      let behind : Waits terminal reply (after_entry system (life_moment system (alone life) front) entry).lasting = kept_until system (life_moment system (alone life) front) entry refl has in (
        waits_on system (life_moment system (alone life) front) (entry ∷ rest) has,
        λ none. lives_wait system later
            (opened_behind system (Waits terminal reply) life later
            (forced_leaves (Waits terminal reply) system life front rest entry split few (keep_all system rest none) behind) linked.0)
            linked.1,
      )
