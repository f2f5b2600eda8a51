-- Turns that go on by one.
use Rattle.std.proofs.Common.{◌≡◌, ℕ, suc, ◌+◌, false, List, [], ◌∷◌, ◌++◌, length, ◌∙◌, ap, arith}
use Rattle.model_machine.specs.declared.entry.Entry.{Entry}
use Rattle.model_machine.specs.declared.entry.ControlCall.TheVariants.{Turn}
use Rattle.model_system.specs.System.{System}
use Rattle.model_machine.specs.Machine.{Moment}
use Rattle.model_machine.specs.MachineCalls.{is_machine_quiet}
use Rattle.model_machine.specs.History.{call_of, after_entry, moment_after}
use Rattle.model_session.specs.QuietTurns.{region_behind_turns, AreTurns}

-- one turn more
pub AreTurns-append : (system : System) (entry : Entry) (entries : List Entry) (before : ℕ) (moment : Moment)
    → AreTurns system before moment entries
    → is_machine_quiet system (moment_after system moment entries) ≡ false
    → call_of entry ≡ Turn (region_behind_turns system (before + length entries))
    → AreTurns system before moment (entries ++ entry ∷ [])
AreTurns-append system entry [] before moment turns left call = (left, call ∙ ap (λ n. Turn (region_behind_turns system n)) (omega arith), tt)
AreTurns-append system entry (first ∷ entries) before moment turns left call =
    (turns.0, turns.1, AreTurns-append system entry entries (suc before) (after_entry system moment first) turns.2 left (call ∙ ap (λ n. Turn (region_behind_turns system n)) (omega arith)))
