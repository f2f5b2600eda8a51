-- Which message a region takes.
use Rattle.std.specs.Prelude.{ℕ, ◌-◌, ◌==◌, nat_lt, Bool, not, ◌&&◌, ◌||◌, if◌then◌else◌, Option, Some, None, List, [], ◌∷◌, slice_index_or}
use Rattle.std.specs.Option.{option_map, option_or}
use Rattle.model_system.specs.declared.code_state.CodeState.{CodeState}
use Rattle.model_system.specs.declared.code.Code.{Code}
use Rattle.model_system.specs.declared.code.Transaction.{Transaction}
use Rattle.model_system.specs.System.{System}

-- a code that a region may serve: its name, the priority that counts now, and the message that it offers
pub record Candidate : Type 0 where
  pub code : List ℕ
  pub priority : ℕ
  pub id : ℕ

-- the priority that counts: the limit priority where the flag is raised, else the normal one
abbrev pub current_priority : Code → CodeState → ℕ
current_priority code state = if state.raised then code.transaction.limit_priority else state.priority

-- a code is served where it has the class, isn't stopped and has a priority above 0
abbrev pub is_code_served : ℕ → Code → CodeState → Bool
is_code_served class code state = (state.class == class) && not state.stopped && nat_lt 0 (current_priority code state)

-- What a code offers: its first message that no region has. A serial code offers none while a region has a message of it.
abbrev pub offered_by : Transaction → Bool → Option ℕ → Option ℕ
offered_by transaction worked_on first = if transaction.serial && worked_on then None else first

abbrev pub candidate_by : Code → CodeState → Option ℕ → Option Candidate
candidate_by code state offer = option_map (λ id. record { code = code.transaction.code; priority = current_priority code state; id = id }) offer

-- The code as a candidate, where it is served and offers a message. `offers` gives the message that a code offers.
abbrev pub candidate_of : (Code → Option ℕ) → ℕ → Code → CodeState → Option Candidate
candidate_of offers class code state =
    if is_code_served class code state then candidate_by code state (offers code) else None

-- the higher priority goes first, and on a tie the lower id
abbrev pub goes_first : Candidate → Candidate → Bool
goes_first a b = nat_lt b.priority a.priority || ((a.priority == b.priority) && nat_lt a.id b.id)

abbrev pub better : Option Candidate → Option Candidate → Option Candidate
better None b = b
better (Some a) None = Some a
better (Some a) (Some b) = if goes_first b a then Some b else Some a

-- of the codes with this class the one that goes first
abbrev pub best_of : (Code → Option ℕ) → ℕ → List Code → List CodeState → Option Candidate
best_of offers class [] states = None
best_of offers class (code ∷ codes) [] = None
best_of offers class (code ∷ codes) (state ∷ states) = better (candidate_of offers class code state) (best_of offers class codes states)

-- the first class that has a candidate is served
abbrev pub pick_among : (Code → Option ℕ) → List ℕ → List Code → List CodeState → Option Candidate
pick_among offers [] codes states = None
pick_among offers (class ∷ classes) codes states = option_or (best_of offers class codes states) (pick_among offers classes codes states)

-- what a region picks: its classes are looked at in their order
abbrev pub pick_of : System → ℕ → List CodeState → (Code → Option ℕ) → Option Candidate
pick_of system region states offers = pick_among offers (slice_index_or system.regions (region - 1) []) system.codes states
