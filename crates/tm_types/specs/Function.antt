-- How each function of a call is written.
use Rattle.std.specs.Prelude.{ℕ, List, codes}
use Rattle.tm_types.specs.declared.function.Function.{Function}
use Rattle.tm_types.specs.declared.function.Function.TheVariants.{GU, GN, GNP, GHU, GHN, GHNP, ISRT, REPL, DLET, PURG, CHNG, ROLB, ROLL}

abbrev pub function_name : Function → List ℕ
function_name GU = codes "GU"
function_name GN = codes "GN"
function_name GNP = codes "GNP"
function_name GHU = codes "GHU"
function_name GHN = codes "GHN"
function_name GHNP = codes "GHNP"
function_name ISRT = codes "ISRT"
function_name REPL = codes "REPL"
function_name DLET = codes "DLET"
function_name PURG = codes "PURG"
function_name CHNG = codes "CHNG"
function_name ROLB = codes "ROLB"
function_name ROLL = codes "ROLL"
