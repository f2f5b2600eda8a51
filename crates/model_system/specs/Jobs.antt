-- What serves the messages of a code.
use Rattle.std.specs.Prelude.{ℕ, List, Option, find}
use Rattle.std.specs.Option.{option_map, option_and_then}
use Rattle.std.specs.Str.{bytes_eq}
use Rattle.model_system.specs.declared.program.ScriptLine.{ScriptLine}
use Rattle.model_system.specs.declared.code.Code.{Code}
use Rattle.model_system.specs.declared.code.Transaction.{Transaction}
use Rattle.model_system.specs.declared.pcb.Pcb.{Pcb}
use Rattle.model_system.specs.declared.system_program.SystemProgram.{SystemProgram}
use Rattle.model_system.specs.System.{System}
use Rattle.model_system.specs.Codes.{code_at}

-- what the messages of a code are served by: the system; the code's operands, the script of its program,
-- and the program's PCBs, which are numbered from 1
pub record Job : Type 0 where
  pub system : System
  pub transaction : Transaction
  pub lines : List ScriptLine
  pub pcbs : List Pcb

-- the program of a PSB
abbrev pub program_at : List SystemProgram → List ℕ → Option SystemProgram
program_at programs psb = find (λ program. bytes_eq program.psb psb) programs

abbrev pub job_with : System → Code → SystemProgram → Job
job_with system code program = record { system = system; transaction = code.transaction; lines = program.program; pcbs = program.pcbs }

-- the job of a code, by its program
abbrev pub job_by : System → Code → Option Job
job_by system code = option_map (job_with system code) (program_at system.programs code.psb)

-- the job of the code of this name
abbrev pub job_of : System → List ℕ → Option Job
job_of system name = option_and_then (job_by system) (code_at system.codes name)
