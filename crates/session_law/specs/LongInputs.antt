-- Inputs of more segments than any code takes.
use Rattle.std.specs.Prelude.{◌≡◌, ℕ, List}
use Rattle.model_machine.specs.declared.entry.ControlCall.TheVariants.{Input}
use Rattle.model_system.specs.System.{System}
use Rattle.model_machine.specs.Machine.{Moment}
use Rattle.model_machine.specs.MachineCalls.{input_answer, lasting_step}
use Rattle.model_session.specs.BoundedBlocks.{first_texts}

-- What such an input is answered, and what lasts of it, is the same where the texts behind its 17th are empty. A session
-- keeps no others of its `+` lines (Bounded of `model_session`).
pub record IsAnsweredAlike (system : System) (moment : Moment) (terminal : List ℕ) (number : ℕ) (texts : List (List ℕ)) : Type 0 where
  pub answer : input_answer system moment terminal number (first_texts texts) ≡ input_answer system moment terminal number texts
  pub step : lasting_step system moment (Input terminal number (first_texts texts)) ≡ lasting_step system moment (Input terminal number texts)
