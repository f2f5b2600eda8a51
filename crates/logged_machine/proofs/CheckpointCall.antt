-- A checkpoint as a call: it is answered by its number, or refused, and the machine stands where it stood.
use Rattle.std.proofs.Common.{◌≡◌, ℕ, Bool, true, false, List, [], Option, Some, None, Result, refl, ap}
use Rattle.model_machine.specs.declared.entry.CheckpointRefused.{CheckpointRefused}
use Rattle.model_machine.specs.declared.entry.Entry.TheVariants.{Checked, Show as ShowEntry}
use Rattle.model_machine.specs.declared.entry.ShowAnswer.{ShowAnswer}
use Rattle.model_machine.specs.CommandAnswers.{checkpoint_answer, first_busy, unless_busy}
use Rattle.model_machine.specs.History.{checkpoint_number_in}
use Rattle.model_machine.specs.Machine.{Moment}
use Rattle.tm_machine.specs.Answers.{IsAnswered}
use Rattle.tm_machine.specs.Parts.{PartsState}

-- the answer is the one under the number that it tells
same_answer : (moment : Moment) (freeze : Bool) (number : ℕ) → checkpoint_answer moment freeze number ≡ checkpoint_answer moment freeze (checkpoint_number_in (Checked freeze (checkpoint_answer moment freeze number)))
same_answer moment false number = refl
same_answer moment true number = by (first_busy 1 moment.slots) where
  by : (busy : Option (ℕ × ℕ)) → unless_busy number busy ≡ unless_busy (checkpoint_number_in (Checked true (unless_busy number busy))) busy
  by None = refl
  by (Some busy) = refl

-- Where parts stand as they follow on themselves, which an entry that shows something tells, a checkpoint is answered by them.
pub checked_answer : (parts : PartsState) (terminal : List ℕ) (shown : ShowAnswer) → IsAnswered parts parts (ShowEntry terminal shown) → (freeze : Bool) (number : ℕ)
    → IsAnswered parts parts (Checked freeze (checkpoint_answer parts.moment freeze number))
checked_answer parts terminal shown is freeze number = record {
  may = record { call = tt; victims = by_answer (checkpoint_answer parts.moment freeze number); answer = ap (λ (a : Result ℕ CheckpointRefused). Checked freeze a) (same_answer parts.moment freeze number) };
  after = is.after;
  system = refl;
} where
  by_answer : (answer : Result ℕ CheckpointRefused) → Rattle.model_machine.specs.History.victims_in (Checked freeze answer) ≡ []
  by_answer answer = refl
