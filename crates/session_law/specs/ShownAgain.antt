-- What is sent again, over the lives of a session: replies.
use Rattle.std.specs.Prelude.{◌≡◌, ◌⊎◌, ℕ, ◌<◌, ◌≤◌, ◌==◌, Bool, true, false, not, ◌&&◌, List, [], ◌∷◌, ◌++◌, Some, Result, Ok}
use Rattle.std.specs.List.{list_all, AllByRecursion}
use Rattle.std.specs.Str.{bytes_eq}
use Rattle.tm_types.specs.declared.message.Reply.{Reply}
use Rattle.model_system.specs.System.{System}
use Rattle.model_machine.specs.declared.command.Command.TheVariants.{DequeueFirst, DequeueAll}
use Rattle.model_machine.specs.declared.entry.ControlCall.{ControlCall}
use Rattle.model_machine.specs.declared.entry.ControlCall.TheVariants.{Acknowledge, Command}
use Rattle.model_machine.specs.declared.entry.Entry.{Entry}
use Rattle.model_machine.specs.declared.entry.Entry.TheVariants.{Show, Acked as AckedEntry}
use Rattle.model_machine.specs.declared.entry.Acked.{Acked}
use Rattle.model_machine.specs.declared.entry.Acked.TheVariants.{Removed}
use Rattle.model_machine.specs.declared.entry.AckRefused.{AckRefused}
use Rattle.model_machine.specs.declared.entry.ShowAnswer.TheVariants.{Reply as ShowReply}
use Rattle.model_machine.specs.Machine.{Moment, start_of}
use Rattle.model_machine.specs.MachineCalls.{ack_answer}
use Rattle.model_machine.specs.History.{call_of, after_entry}
use Rattle.model_session.specs.Lives.{LifeState, life_moment}
use Rattle.session_law.specs.ResentInputs.{shown_reply}
use Rattle.session_law.specs.SentAgain.{alone, steps_of, IsDoubted}

-- a call that takes the terminal's reply of this number away: its acknowledgement, or a command that dequeues replies of the terminal
abbrev pub takes_reply : List ℕ → ℕ → ControlCall → Bool
takes_reply terminal number (Acknowledge other acked) = bytes_eq other terminal && (acked == number)
takes_reply terminal number (Command (DequeueFirst other)) = bytes_eq other terminal
takes_reply terminal number (Command (DequeueAll other)) = bytes_eq other terminal
takes_reply terminal number _ = false

abbrev pub takes_none : List ℕ → ℕ → List Entry → Bool
takes_none terminal number entries = list_all (λ entry. not (takes_reply terminal number (call_of entry))) entries

-- The reply is what its terminal is shown, with its number and its segments, at each of these places, up to a call that takes it away.
abbrev pub WaitsOn : System → List ℕ → Reply → Moment → List Entry → Type 0
WaitsOn system terminal reply moment [] = shown_reply terminal moment.lasting ≡ Some reply
WaitsOn system terminal reply moment (entry ∷ entries) =
    (shown_reply terminal moment.lasting ≡ Some reply)
    × (takes_reply terminal reply.number (call_of entry) ≡ false → WaitsOn system terminal reply (after_entry system moment entry) entries)

abbrev pub LivesWaitOn : System → List ℕ → Reply → List LifeState → Type 0
LivesWaitOn system terminal reply [] = Unit {0}
LivesWaitOn system terminal reply (life ∷ lives) =
    WaitsOn system terminal reply (start_of system life.opening) life.history
    × (takes_none terminal reply.number life.history ≡ true → LivesWaitOn system terminal reply lives)

-- Each reply that the terminal is shown has a higher number.
abbrev pub ShowsHigher : List ℕ → ℕ → Entry → Type 0
ShowsHigher terminal number (Show other (ShowReply shown)) = bytes_eq other terminal ≡ true → number < shown
ShowsHigher terminal number _ = Unit {0}

abbrev pub AllShowHigher : List ℕ → ℕ → List Entry → Type 0
AllShowHigher terminal number entries = AllByRecursion (ShowsHigher terminal number) entries

abbrev pub LivesShowHigher : List ℕ → ℕ → List LifeState → Type 0
LivesShowHigher terminal number lives = AllByRecursion (λ life. AllShowHigher terminal number life.history) lives

-- The disk failed in the call of an acknowledgement that removes its reply, or in the force before that was printed, which ended the life.
pub record IsAckInDoubt (system : System) (life : LifeState) (terminal : List ℕ) (number : ℕ) : Type 0 where
  pub before : List Entry
  pub after : List Entry
  pub answer : Result Acked AckRefused
  pub all : life.history ≡ before ++ AckedEntry terminal number answer ∷ after
  pub doubted : IsDoubted (AckedEntry terminal number answer) after
  pub removes : ack_answer (life_moment system (alone life) before) terminal number ≡ Ok Removed

-- The reply of this number is what the terminal was shown at this moment, and is what it is shown on in these lives.
pub record IsShownOn (system : System) (terminal : List ℕ) (number : ℕ) (moment : Moment) (lives : List LifeState) : Type 0 where
  pub reply : Reply
  pub numbered : reply.number ≡ number
  pub shown : shown_reply terminal moment.lasting ≡ Some reply
  pub waits : LivesWaitOn system terminal reply lives

-- The terminal was shown the reply of this number among these entries.
pub record WasShown (terminal : List ℕ) (number : ℕ) (entries : List Entry) : Type 0 where
  pub front : List Entry
  pub rest : List Entry
  pub are : entries ≡ front ++ Show terminal (ShowReply number) ∷ rest

-- Its step is kept, and the reply is never shown again; or its step is not, and the terminal is shown the reply on, if it was shown it or
-- all steps before are kept.
abbrev pub SettlesAck : System → LifeState → List LifeState → (terminal : List ℕ) → (number : ℕ) → List Entry → Type 0
SettlesAck system life later terminal number before =
    ((life.kept ≡ steps_of system life life.history) × LivesShowHigher terminal number later)
    ⊎ ((life.kept ≤ steps_of system life before)
    × (WasShown terminal number before ⊎ (life.kept ≡ steps_of system life before) → IsShownOn system terminal number (life_moment system (alone life) before) later))

-- Behind any stops and restarts a reply that a terminal was shown is what it is shown again, until it is acknowledged or dequeued, where
-- all steps before were forced, as they are of each that was printed. Once the step of its acknowledgement was forced, as it is of each
-- that was printed, it is never shown again; and one in the call of whose acknowledgement, or in the force behind it, the disk failed is
-- never shown again where that one's step counts as kept, and else is what the terminal is shown on.
pub record ShowsReplies (system : System) (lives : List LifeState) : Type 0 where
  pub again :
      (before later : List LifeState) (life : LifeState) (front rest : List Entry) (terminal : List ℕ) (number : ℕ) (reply : Reply)
      → lives ≡ before ++ life ∷ later → life.history ≡ front ++ Show terminal (ShowReply number) ∷ rest
      → steps_of system life (front ++ Show terminal (ShowReply number) ∷ []) ≤ life.forced
      → shown_reply terminal (life_moment system (alone life) front).lasting ≡ Some reply
      → WaitsOn system terminal reply (life_moment system (alone life) front) (Show terminal (ShowReply number) ∷ rest)
      × (takes_none terminal reply.number rest ≡ true → LivesWaitOn system terminal reply later)
  pub never :
      (before later : List LifeState) (life : LifeState) (front rest : List Entry) (terminal : List ℕ) (number : ℕ)
      → lives ≡ before ++ life ∷ later → life.history ≡ front ++ AckedEntry terminal number (Ok Removed) ∷ rest
      → steps_of system life (front ++ AckedEntry terminal number (Ok Removed) ∷ []) ≤ life.forced
      → AllShowHigher terminal number rest × LivesShowHigher terminal number later
  pub in_doubt :
      (before later : List LifeState) (life next : LifeState) (terminal : List ℕ) (number : ℕ)
      → lives ≡ before ++ life ∷ next ∷ later → (doubt : IsAckInDoubt system life terminal number)
      → SettlesAck system life (next ∷ later) terminal number doubt.before
