-- A region's pick in the words of the rule.
use Rattle.std.specs.Prelude.{◌≡◌, ℕ, true, false, ◌⊎◌, List, [], ◌∷◌, Option, Some, None, IsSomeAnd}
use Rattle.std.specs.List.{AllByRecursion}
use Rattle.model_messages.specs.declared.queued.Queued.{Queued}
use Rattle.model_messages.specs.Queue.{AreInOrder, first_free, any_held, queued_at}
use Rattle.model_system.specs.declared.code.Code.{Code}
use Rattle.model_system.specs.declared.code_state.CodeState.{CodeState}
use Rattle.model_machine.specs.Pick.{Candidate, candidate_of, goes_first, offered_by}

-- what a code offers of the messages in the queues
abbrev pub offered_in : List Queued → Code → Option ℕ
offered_in queued code =
    offered_by code.transaction (any_held code.transaction.code queued) (first_free code.transaction.code queued)

-- a code of the class that may be served, with its priority and the message that it offers
abbrev pub IsEligible : (Code → Option ℕ) → ℕ → List Code → List CodeState → Candidate → Type 0
IsEligible offers class [] states c = ⊥
IsEligible offers class (code ∷ codes) [] c = ⊥
IsEligible offers class (code ∷ codes) (state ∷ states) c = (candidate_of offers class code state ≡ Some c) ⊎ IsEligible offers class codes states c

-- no code of the class may be served
abbrev pub NoneEligible : (Code → Option ℕ) → ℕ → List Code → List CodeState → Type 0
NoneEligible offers class codes states = (c : Candidate) → IsEligible offers class codes states c → ⊥

-- it may be served, and none of its class goes before it
pub record IsFirstToServe (offers : Code → Option ℕ) (class : ℕ) (codes : List Code) (states : List CodeState) (c : Candidate) : Type 0 where
  pub eligible : IsEligible offers class codes states c
  pub before : (d : Candidate) → IsEligible offers class codes states d → goes_first d c ≡ false

-- it is the first one of its class, and no class before has one
abbrev pub IsPicked : (Code → Option ℕ) → List ℕ → List Code → List CodeState → Candidate → Type 0
IsPicked offers [] codes states c = ⊥
IsPicked offers (class ∷ classes) codes states c =
    IsFirstToServe offers class codes states c ⊎ (NoneEligible offers class codes states × IsPicked offers classes codes states c)

-- no class has one
abbrev pub NonePicked : (Code → Option ℕ) → List ℕ → List Code → List CodeState → Type 0
NonePicked offers classes codes states = AllByRecursion (λ class. NoneEligible offers class codes states) classes

-- the message of this id is there, no region has it, and it is the code's first such message; ids ascend
pub record IsFirstFree (queued : List Queued) (code : List ℕ) (id : ℕ) : Type 0 where
  pub first : first_free code queued ≡ Some id
  pub free : IsSomeAnd (queued_at id queued) (λ q. q.holder ≡ None)
  pub ordered : AreInOrder queued

-- where the code is serial, no region has a message of it
abbrev pub IsUnheldIfSerial : List Queued → Code → Type 0
IsUnheldIfSerial queued code = code.transaction.serial ≡ true → any_held code.transaction.code queued ≡ false
