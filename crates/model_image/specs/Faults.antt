-- Broken rules, and where.
use Rattle.std.specs.Prelude.{ℕ, Bool, List, Option, Some, None, Result, Ok, Err}
use Rattle.restart_data.specs.Rules.{first_broken, unless_rule_broken}

-- a rule and its sector
abbrev pub Fault : Type 0
Fault = ℕ × ℕ

-- what a sector is judged as
abbrev pub in_sector : {A : Type 0} → ℕ → Result A ℕ → Result A Fault
in_sector sector (Ok value) = Ok value
in_sector sector (Err rule) = Err (rule, sector)

-- a value, unless one of these rules is broken; the first of them stands with the sector
abbrev pub unless_any : {A : Type 0} → ℕ → List (ℕ × Bool) → A → Result A Fault
unless_any sector rules value = in_sector sector (unless_rule_broken (first_broken rules) value)

-- a value that is there, or else a broken rule
abbrev pub or_fault : {A : Type 0} → Fault → Option A → Result A Fault
or_fault fault (Some value) = Ok value
or_fault fault None = Err fault

-- a value, unless there is a fault
abbrev pub unless_fault : {A : Type 0} → Option Fault → A → Result A Fault
unless_fault None value = Ok value
unless_fault (Some fault) value = Err fault
