-- The calls that the PCBs above 0 have.
use Rattle.std.specs.Prelude.{ℕ, Bool, true, false, List}
use Rattle.tm_types.specs.declared.function.Function.{Function}
use Rattle.tm_types.specs.declared.function.Function.TheVariants.{GU, GN, GNP, GHU, GHN, GHNP, ISRT, REPL, DLET, PURG, CHNG}
use Rattle.model_system.specs.declared.script_ssa.ScriptSsa.{ScriptSsa}
use Rattle.model_system.specs.declared.script_ssa.ScriptSsa.TheVariants.{Any, Equal, AtLeast}

-- A database PCB has the gets, ISRT, REPL and DLET.
abbrev pub is_database_function : Function → Bool
is_database_function GU = true
is_database_function GN = true
is_database_function GNP = true
is_database_function GHU = true
is_database_function GHN = true
is_database_function GHNP = true
is_database_function ISRT = true
is_database_function REPL = true
is_database_function DLET = true
is_database_function _ = false

-- A PCB for output has ISRT, PURG and CHNG.
abbrev pub is_output_function : Function → Bool
is_output_function ISRT = true
is_output_function PURG = true
is_output_function CHNG = true
is_output_function _ = false

-- the segment that an argument names
abbrev pub segment_name : ScriptSsa → List ℕ
segment_name (Any name) = name
segment_name (Equal name x) = name
segment_name (AtLeast name x) = name
