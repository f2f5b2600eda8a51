-- What holds of each system that a definition defines: what the rules on its macros give.
use Rattle.std.specs.Prelude.{◌≡◌, ◌⊎◌, ℕ, ◌-◌, ◌*◌, ◌≤◌, List, [], Option, Some, None, All, IsSome, IfSome, IsSomeAnd, IsTrue, length, map, position, slice_get}
use Rattle.std.specs.Str.{bytes_eq}
use Rattle.tm_types.specs.declared.dbd.Dbd.{Dbd}
use Rattle.tm_types.specs.declared.function.Function.{Function}
use Rattle.model_system.specs.declared.program.ScriptLine.{ScriptLine}
use Rattle.model_system.specs.declared.script_ssa.ScriptSsa.{ScriptSsa}
use Rattle.model_system.specs.declared.statement.Statement.TheVariants.{Call}
use Rattle.model_system.specs.Script.{ScriptState, call_ssa}
use Rattle.model_system.specs.FormatRule.{KeepsRule}
use Rattle.model_system.specs.declared.code.Code.{Code}
use Rattle.model_system.specs.declared.pcb.Pcb.{Pcb}
use Rattle.model_system.specs.declared.pcb.Pcb.TheVariants.{Database, Destination, Modifiable}
use Rattle.model_system.specs.Codes.{code_at, code_place}
use Rattle.model_system.specs.Jobs.{program_at}
use Rattle.model_system.specs.Pcbs.{pcb_at}
use Rattle.model_system.specs.System.{System}
use Rattle.model_system.specs.Areas.{most_sectors, sectors_needed}
use Rattle.model_data.specs.Conditions.{AreSsasOf}
use Rattle.model_data.specs.Search.{place_named}
use Rattle.system_types.specs.Definitions.{IsTransaction}
use Rattle.system_types.specs.Calls.{is_database_function, is_output_function, segment_name}

-- A database has 1 to 16 segment types, each with at most 1,900 bytes, and 1 to 4,096 roots; a record
-- of it has 1 to 8 sectors.
pub record IsDatabase (dbd : Dbd) : Type 0 where
  pub some_type : 1 ≤ length dbd.types
  pub few_types : length dbd.types ≤ 16
  pub short : All (λ type. type.bytes ≤ 1900) dbd.types
  pub some_root : 1 ≤ dbd.roots
  pub few_roots : dbd.roots ≤ 4096
  pub some_sector : 1 ≤ dbd.sectors
  pub few_sectors : dbd.sectors ≤ 8

-- the database of a PCB is there
abbrev pub IsPcbOf : List Dbd → Pcb → Type 0
IsPcbOf databases (Database number options) = (1 ≤ number) × (number ≤ length databases)
IsPcbOf databases (Destination name) = Unit {0}
IsPcbOf databases Modifiable = Unit {0}

-- a code has no scratch pad, or one of 16 to 1,000 bytes
pub record IsPadLength (pad : ℕ) : Type 0 where
  pub least : 1 ≤ pad → 16 ≤ pad
  pub most : pad ≤ 1000

-- the destination of a PCB is no code with conversations
abbrev pub IsSentTo : List Code → Pcb → Type 0
IsSentTo codes (Destination name) = IfSome (code_at codes name) (λ code. code.transaction.scratch_pad ≡ 0)
IsSentTo codes (Database number options) = Unit {0}
IsSentTo codes Modifiable = Unit {0}

-- the destination of a PCB is a terminal or a code
abbrev pub IsKnownTo : List (List ℕ) → List Code → Pcb → Type 0
IsKnownTo terminals codes (Destination name) = IsSome (position (λ other. bytes_eq other name) terminals) ⊎ IsSome (code_at codes name)
IsKnownTo terminals codes (Database number options) = Unit {0}
IsKnownTo terminals codes Modifiable = Unit {0}

-- A call on a database has a function of databases. Its arguments name segment types of it, and are in
-- order, whatever the script's variables hold.
pub record IsDatabaseCall (function : Function) (ssas : List ScriptSsa) (dbd : Dbd) : Type 0 where
  pub has_function : IsTrue (is_database_function function)
  pub named : All (λ ssa. IsSome (place_named dbd.types (segment_name ssa))) ssas
  pub in_order : (state : ScriptState) → AreSsasOf function dbd.types (map (call_ssa state) ssas)

-- a call for output has a function of output, and no arguments
pub record IsOutputCall (function : Function) (ssas : List ScriptSsa) : Type 0 where
  pub has_function : IsTrue (is_output_function function)
  pub none : ssas ≡ []

-- the PCB of a call is there, and the call is one that it has
abbrev pub IsCallOn : List Dbd → Function → List ScriptSsa → Option Pcb → Type 0
IsCallOn databases function ssas (Some (Database number options)) = IsSomeAnd (slice_get databases (number - 1)) (IsDatabaseCall function ssas)
IsCallOn databases function ssas (Some (Destination name)) = IsOutputCall function ssas
IsCallOn databases function ssas (Some Modifiable) = IsOutputCall function ssas
IsCallOn databases function ssas None = ⊥

-- A program has at most 8 PCBs. Each call of its script on a PCB above 0 is one that this PCB has; what
-- PCB 0 has is a rule of scripts.
pub record IsServable (databases : List Dbd) (pcbs : List Pcb) (lines : List ScriptLine) : Type 0 where
  pub few_pcbs : length pcbs ≤ 8
  pub databases_there : All (IsPcbOf databases) pcbs
  pub calls : (place number pcb : ℕ) (function : Function) (area : Option ℕ) (ssas : List ScriptSsa)
      → slice_get lines place ≡ Some (record { number = number; statement = Call function pcb area ssas })
      → 1 ≤ pcb → IsCallOn databases function ssas (pcb_at pcbs pcb)

-- each of these names is there once: it is found at its place
abbrev pub AreApart : List (List ℕ) → Type 0
AreApart names = (place : ℕ) (name : List ℕ) → slice_get names place ≡ Some name → position (λ other. bytes_eq other name) names ≡ Some place

-- The counts, the bytes of the queues and the sectors of a log area lie within their limits, the areas and the slots
-- have at most 65,536 sectors in all, and a log area at least 64 for each that the longest record has; databases
-- and programs are as above, each code has a program, numbers in their ranges and a scratch pad of a length as above,
-- and codes and terminals are found by their names at their places. Each PCB for output sends to a terminal
-- or a code, and to no code with conversations. Each format
-- keeps the rule among its lines.
pub record IsSystem (system : System) : Type 0 where
  pub least_bytes : 131072 ≤ system.qbytes
  pub most_bytes : system.qbytes ≤ 8388608
  pub least_logs : 64 ≤ system.logs
  pub most_logs : system.logs ≤ 2048
  pub enough_logs : 64 * most_sectors system ≤ system.logs
  pub few_sectors : sectors_needed system ≤ 65536
  pub few_databases : length system.databases ≤ 8
  pub databases : All IsDatabase system.databases
  pub few_programs : length system.programs ≤ 64
  pub programs : All (λ program. IsServable system.databases program.pcbs program.program) system.programs
  pub destinations : All (λ program. All (IsSentTo system.codes) program.pcbs) system.programs
  pub receivers : All (λ program. All (IsKnownTo system.terminals system.codes) program.pcbs) system.programs
  pub few_codes : length system.codes ≤ 256
  pub pads : All (λ code. IsPadLength code.transaction.scratch_pad) system.codes
  pub transactions : All (λ code. IsTransaction code.transaction) system.codes
  pub served : All (λ code. IsSome (program_at system.programs code.psb)) system.codes
  pub apart : (place : ℕ) (code : Code) → slice_get system.codes place ≡ Some code → code_place system.codes code.transaction.code ≡ Some place
  pub some_terminal : 1 ≤ length system.terminals
  pub few_terminals : length system.terminals ≤ 64
  pub terminals_apart : AreApart system.terminals
  pub few_formats : length system.formats ≤ 32
  pub formats : All (λ format. KeepsRule format.format) system.formats
  pub some_region : 1 ≤ length system.regions
  pub few_regions : length system.regions ≤ 8
