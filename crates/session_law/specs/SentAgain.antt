-- What is sent again, over the lives of a session: inputs.
use Rattle.std.specs.Prelude.{◌≡◌, ◌⊎◌, ℕ, ◌-◌, ◌<◌, ◌≤◌, ◌==◌, Bool, true, false, ◌&&◌, List, [], ◌∷◌, ◌++◌, Result, Ok, Err}
use Rattle.std.specs.List.{AllByRecursion}
use Rattle.std.specs.Str.{bytes_eq}
use Rattle.model_system.specs.System.{System}
use Rattle.model_machine.specs.declared.entry.Entry.{Entry}
use Rattle.model_machine.specs.declared.entry.Entry.TheVariants.{Accept}
use Rattle.model_machine.specs.declared.entry.Taken.{Taken}
use Rattle.model_machine.specs.declared.entry.Taken.TheVariants.{New, Already}
use Rattle.model_machine.specs.declared.entry.InputRefused.{InputRefused}
use Rattle.model_machine.specs.declared.entry.InputRefused.TheVariants.{StoppedTerminal, Expected, Fault}
use Rattle.model_machine.specs.MachineCalls.{input_answer}
use Rattle.model_machine.specs.History.{is_fault}
use Rattle.model_session.specs.Lives.{LifeState, LastLife, last_number, LifeLeaves, life_moment, binds, failed_force}

-- ---- lives one after another

-- a life by what it opened with and its entries
abbrev pub alone : LifeState → LastLife
alone life = record { opening = life.opening; checkpoint = life.checkpoint; history = life.history; forced = life.forced }

-- A life opened with what the one before it left, of which so many lasting steps are kept, and with a checkpoint of a higher number than
-- any that this told of.
pub record IsOpenedBehind (system : System) (life next : LifeState) : Type 0 where
  pub left : LifeLeaves system (alone life) life.kept next.opening
  pub above : last_number (alone life) < next.checkpoint

-- so did each
abbrev pub OpensBehind : System → LifeState → List LifeState → Type 0
OpensBehind system life [] = Unit {0}
OpensBehind system life (next ∷ lives) = IsOpenedBehind system life next

abbrev pub AreLinked : System → List LifeState → Type 0
AreLinked system [] = Unit {0}
AreLinked system (life ∷ lives) = OpensBehind system life lives × AreLinked system lives

-- Each opened with what the one before it left, whatever the numbers of checkpoints.
abbrev pub IsLeftBy : System → LifeState → List LifeState → Type 0
IsLeftBy system life [] = Unit {0}
IsLeftBy system life (next ∷ lives) = LifeLeaves system (alone life) life.kept next.opening

abbrev pub AreLeft : System → List LifeState → Type 0
AreLeft system [] = Unit {0}
AreLeft system (life ∷ lives) = IsLeftBy system life lives × AreLeft system lives

-- how many lasting steps these entries of a life are
abbrev pub steps_of : System → LifeState → List Entry → ℕ
steps_of system life entries = (life_moment system (alone life) entries).lasting.steps - life.opening.steps

-- All lasting steps of a life up to an entry whose text binds are forced; but where the disk failed in the force behind it.
abbrev pub IsLifeBound : System → LifeState → Type 0
IsLifeBound system life =
    (front rest : List Entry) (entry : Entry) → life.history ≡ front ++ entry ∷ rest → binds entry ≡ true
    → (rest ≡ failed_force ∷ []) ⊎ (steps_of system life (front ++ entry ∷ []) ≤ life.forced)

abbrev pub AreBound : System → List LifeState → Type 0
AreBound system lives = AllByRecursion (IsLifeBound system) lives

-- The disk failed in the call of this entry, or in the force behind it, which ended the life. A checkpoint that fails behind an entry
-- leaves the same.
abbrev pub IsDoubted : Entry → List Entry → Type 0
IsDoubted entry after = ((is_fault entry ≡ true) × (after ≡ [])) ⊎ (after ≡ failed_force ∷ [])

abbrev pub entries_of_lives : List LifeState → List Entry
entries_of_lives [] = []
entries_of_lives (life ∷ lives) = life.history ++ entries_of_lives lives

-- ---- inputs

-- the input was accepted before, unless its terminal is stopped, or the disk failed
abbrev pub IsInputKnown : Result Taken InputRefused → Type 0
IsInputKnown (Ok Already) = Unit {0}
IsInputKnown (Err StoppedTerminal) = Unit {0}
IsInputKnown (Err (Fault fault)) = Unit {0}
IsInputKnown _ = ⊥

-- the input is new, unless a refusal applies that isn't for its number, or the disk failed
abbrev pub IsFresh : Result Taken InputRefused → Type 0
IsFresh (Ok Already) = ⊥
IsFresh (Err (Expected number)) = ⊥
IsFresh _ = Unit {0}

-- an input of the terminal under this number, or a lower one, is known
abbrev pub KnowsInput : List ℕ → ℕ → Entry → Type 0
KnowsInput terminal number (Accept other sent segments answer) = bytes_eq other terminal ≡ true → sent ≤ number → IsInputKnown answer
KnowsInput terminal number _ = Unit {0}

abbrev pub AllKnow : List ℕ → ℕ → List Entry → Type 0
AllKnow terminal number entries = AllByRecursion (KnowsInput terminal number) entries

abbrev pub LivesKnow : List ℕ → ℕ → List LifeState → Type 0
LivesKnow terminal number lives = AllByRecursion (λ life. AllKnow terminal number life.history) lives

-- an input of the terminal under this number is fresh
abbrev pub IsFreshInput : List ℕ → ℕ → Entry → Type 0
IsFreshInput terminal number (Accept other sent segments answer) = bytes_eq other terminal ≡ true → sent ≡ number → IsFresh answer
IsFreshInput terminal number _ = Unit {0}

-- an input of the terminal under this number is taken as new
abbrev pub takes_input : List ℕ → ℕ → Entry → Bool
takes_input terminal number (Accept other sent segments (Ok (New id))) = bytes_eq other terminal && (sent == number)
takes_input terminal number _ = false

-- the disk fails in its call
abbrev pub fails_input : List ℕ → ℕ → Entry → Bool
fails_input terminal number (Accept other sent segments (Err (Fault fault))) = bytes_eq other terminal && (sent == number)
fails_input terminal number _ = false

-- Each input of the terminal under this number is fresh, up to the one that is taken as new. Behind one in whose call the disk fails it
-- goes on so, or each is known.
abbrev pub FreshUntilTaken : List ℕ → ℕ → List Entry → Type 0
FreshUntilTaken terminal number [] = Unit {0}
FreshUntilTaken terminal number (entry ∷ entries) =
    IsFreshInput terminal number entry
    × (takes_input terminal number entry ≡ false → FreshUntilTaken terminal number entries ⊎ ((fails_input terminal number entry ≡ true) × AllKnow terminal number entries))

-- The disk failed in the call of an input that is new, or in the force before that was printed, which ended the life.
pub record IsInDoubt (system : System) (life : LifeState) (terminal : List ℕ) (number : ℕ) : Type 0 where
  pub before : List Entry
  pub after : List Entry
  pub segments : List (List ℕ)
  pub answer : Result Taken InputRefused
  pub id : ℕ
  pub all : life.history ≡ before ++ Accept terminal number segments answer ∷ after
  pub doubted : IsDoubted (Accept terminal number segments answer) after
  pub new : input_answer system (life_moment system (alone life) before) terminal number segments ≡ Ok (New id)

-- Its step is kept, and it is known from then on; or its step is not, and it is fresh whenever it is sent again, until it is taken.
abbrev pub SettlesDoubt : System → LifeState → List LifeState → (terminal : List ℕ) → (number : ℕ) → List Entry → Type 0
SettlesDoubt system life later terminal number before =
    ((life.kept ≡ steps_of system life life.history) × LivesKnow terminal number later)
    ⊎ ((life.kept ≤ steps_of system life before) × FreshUntilTaken terminal number (entries_of_lives later))

-- Behind any stops and restarts an input under a number is answered as accepted before exactly where its step was kept, and is
-- taken as new exactly where it was not: one whose step was forced, as it is of each that was printed as new, is known from then on, in
-- its life and in all behind it; and one in whose call, or in the force behind it, the disk failed is known then where its step counts as
-- kept, and else fresh until it is taken.
pub record KnowsInputs (system : System) (lives : List LifeState) : Type 0 where
  pub answered :
      (before later : List LifeState) (life : LifeState) (front rest : List Entry) (terminal : List ℕ) (number id : ℕ) (segments : List (List ℕ))
      → lives ≡ before ++ life ∷ later → life.history ≡ front ++ Accept terminal number segments (Ok (New id)) ∷ rest
      → steps_of system life (front ++ Accept terminal number segments (Ok (New id)) ∷ []) ≤ life.forced
      → AllKnow terminal number rest × LivesKnow terminal number later
  pub in_doubt :
      (before later : List LifeState) (life next : LifeState) (terminal : List ℕ) (number : ℕ)
      → lives ≡ before ++ life ∷ next ∷ later → (doubt : IsInDoubt system life terminal number)
      → SettlesDoubt system life (next ∷ later) terminal number doubt.before
