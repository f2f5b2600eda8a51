-- The rules that a script can break.
use Rattle.std.specs.Prelude.{◌≤◌, Result, Ok, Err}
use Rattle.text_rows.specs.declared.refused.LineRefused.{LineRefused}
use Rattle.text_rows.specs.declared.refused.LineRefused.TheVariants.{BadLine, Memory}

-- a rule that is named is one of the eleven
abbrev pub HasScriptRule : {X : Type 0} → Result X LineRefused → Type 0
HasScriptRule (Ok value) = Unit {0}
HasScriptRule (Err (BadLine line rule)) = rule ≤ 11
HasScriptRule (Err Memory) = Unit {0}
