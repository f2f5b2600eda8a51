-- Whether nothing is left to do as a call: it is answered, and the machine stands where it stood.
use Rattle.std.proofs.Common.{◌≡◌, Bool, refl, sym, ap}
use Rattle.model_machine.specs.declared.entry.Entry.TheVariants.{Quiet}
use Rattle.model_machine.specs.MachineCalls.{is_machine_quiet}
use Rattle.tm_machine.specs.Answers.{IsAnswered}
use Rattle.tm_machine.specs.Parts.{PartsState}
use Rattle.logged_machine.specs.TakenCheckpoint.{again}

pub quiet_answer : (parts : PartsState) (quiet : Bool) → again parts ≡ parts.moment → quiet ≡ is_machine_quiet parts.system parts.moment → IsAnswered parts parts (Quiet quiet)
quiet_answer parts quiet stays is = record {
  may = record { call = tt; victims = refl; answer = ap (λ (b : Bool). Quiet b) is };
  after = sym stays;
  system = refl;
}
