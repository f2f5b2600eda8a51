-- Turns of the regions, one after another.
use Rattle.std.specs.Prelude.{◌≡◌, ℕ, suc, ◌+◌, ◌%◌, ◌≤◌, Bool, true, false, List, [], ◌∷◌, ◌++◌, length, codes, decimal}
use Rattle.model_machine.specs.declared.entry.Entry.{Entry}
use Rattle.model_machine.specs.declared.entry.ControlCall.TheVariants.{Turn}
use Rattle.model_system.specs.System.{System}
use Rattle.model_machine.specs.Machine.{Moment}
use Rattle.model_machine.specs.MachineCalls.{is_machine_quiet}
use Rattle.model_machine.specs.History.{call_of, after_entry, moment_after}
use Rattle.model_session.specs.Text.{spaced, line_end}

-- The regions turn in the order of their numbers, 1, 2, .. and round again: the one that turns after
-- so many turns.
abbrev pub region_behind_turns : System → ℕ → ℕ
region_behind_turns system turns = turns % length system.regions + 1

-- From this moment on these entries are turns, so many having gone before; something was left to do
-- before each.
abbrev pub AreTurns : System → ℕ → Moment → List Entry → Type 0
AreTurns system before moment [] = Unit {0}
AreTurns system before moment (entry ∷ entries) =
    (is_machine_quiet system moment ≡ false) × (call_of entry ≡ Turn (region_behind_turns system before))
    × AreTurns system (suc before) (after_entry system moment entry) entries

-- So many turns at most were done from this moment on. They ended where nothing was left to do, or
-- with the last of them.
pub record IsQuieted (most : ℕ) (system : System) (moment : Moment) (entries : List Entry) : Type 0 where
  pub turns : AreTurns system 0 moment entries
  pub few : length entries ≤ most
  pub ended : is_machine_quiet system (moment_after system moment entries) ≡ false → length entries ≡ most

-- The same, but the turns broke off before their end.
pub record IsBrokenOff (most : ℕ) (system : System) (moment : Moment) (entries : List Entry) : Type 0 where
  pub turns : AreTurns system 0 moment entries
  pub few : length entries + 1 ≤ most
  pub left : is_machine_quiet system (moment_after system moment entries) ≡ false

-- what is printed after so many turns, where nothing was left to do; and where something was
abbrev pub quiet_text : Bool → ℕ → List ℕ
quiet_text true turns = spaced (codes "QUIET") ++ decimal turns ++ line_end
quiet_text false turns = spaced (codes "TURNS SPENT") ++ decimal turns ++ line_end

abbrev pub quieted_text : System → Moment → List Entry → List ℕ
quieted_text system moment entries = quiet_text (is_machine_quiet system (moment_after system moment entries)) (length entries)
