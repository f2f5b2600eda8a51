use Rattle.std.proofs.Common.{◌≡◌, ◌+◌, drop}
use Rattle.model_machine.specs.MachineCalls.{all_rest, is_machine_quiet}
use Rattle.tm_machine.proofs.parts.Parts.is_quiet.Given as goal

abbrev pub invariant-loop-place : goal.invariant-loop-place
invariant-loop-place l =
    is_machine_quiet l.self.system l.self.moment ≡ all_rest l.self.system l.self.moment (l.place + 1) (drop l.place l.self.moment.slots)
