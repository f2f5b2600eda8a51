-- The system that macros define.
use Rattle.std.specs.Prelude.{ℕ, ◌+◌, List, [], ◌∷◌, ◌++◌, position, Option, Some, None, Result, Ok, Err}
use Rattle.std.specs.Option.{option_map_or}
use Rattle.std.specs.Str.{bytes_eq}
use Rattle.tm_types.specs.declared.dbd.Dbd.{Dbd}
use Rattle.tm_types.specs.declared.dbd.SegType.{SegType}
use Rattle.system_types.specs.declared.definition.Macro.{Macro}
use Rattle.system_types.specs.declared.definition.Macro.TheVariants.{Database, Segment, Application, DatabasePcb, DestinationPcb, ModifiablePcb, Transaction, Terminal, Region, Format, Program}
use Rattle.system_types.specs.declared.definition.MacroLine.{MacroLine}
use Rattle.sysdef_rules.specs.declared.lookups.MacroKind.TheVariants.{Segments}
use Rattle.model_system.specs.declared.code.Code.{Code}
use Rattle.model_system.specs.declared.pcb.Pcb.{Pcb}
use Rattle.model_system.specs.declared.pcb.Pcb.TheVariants as pcb
use Rattle.model_system.specs.declared.screen.Screen.{Screen}
use Rattle.model_system.specs.declared.screen.SystemFormat.{SystemFormat}
use Rattle.model_system.specs.declared.system_program.SystemProgram.{SystemProgram}
use Rattle.model_system.specs.System.{System}
use Rattle.sysdef_rules.specs.Lookups.{front, is_segment_named, line_number_of, pcbs_of}
use Rattle.sysdef_rules.specs.Cross.{cross_rules}
use Rattle.sysdef_rules.specs.DiskSizes.{control_in}

-- the value before those that follow, where there is one
abbrev pub value_and_then : {A : Type 0} → Option A → List A → List A
value_and_then (Some value) values = value ∷ values
value_and_then None values = values

-- the number of a segment's parent, counted from 1 among those before it; a root has 0
abbrev pub parent_number : List MacroLine → Option (List ℕ) → ℕ
parent_number before (Some parent) = line_number_of (is_segment_named parent) before
parent_number before None = 0

abbrev pub type_in : List MacroLine → Macro → Option SegType
type_in before (Segment name parent key bytes) = Some (record { name = name; parent = parent_number before parent; key = key; bytes = bytes })
type_in before _ = None

-- the segment types of a database, behind those before them
abbrev pub types_in : List MacroLine → List MacroLine → List SegType
types_in before [] = []
types_in before (line ∷ lines) = value_and_then (type_in before line.content) (types_in (before ++ line ∷ []) lines)

-- The segments of a database stand right behind its DBD.
abbrev pub database_in : Macro → List MacroLine → Option Dbd
database_in (Database name roots sectors) behind = Some (record { name = name; roots = roots; sectors = sectors; types = types_in [] (front Segments behind) })
database_in _ behind = None

-- what stands in the macros, in the order of their lines
abbrev pub databases_in : List MacroLine → List Dbd
databases_in [] = []
databases_in (line ∷ lines) = value_and_then (database_in line.content lines) (databases_in lines)

-- the number of the database with this name, counted from 1
abbrev pub database_number : List Dbd → List ℕ → ℕ
database_number databases name = option_map_or (λ place. place + 1) (position (λ database. bytes_eq database.name name) databases) 0

abbrev pub pcb_in : List Dbd → Macro → Option Pcb
pcb_in databases (DatabasePcb database options) = Some (pcb.Database (database_number databases database) options)
pcb_in databases (DestinationPcb destination) = Some (pcb.Destination destination)
pcb_in databases ModifiablePcb = Some pcb.Modifiable
pcb_in databases _ = None

abbrev pub pcbs_in : List Dbd → List MacroLine → List Pcb
pcbs_in databases [] = []
pcbs_in databases (line ∷ lines) = value_and_then (pcb_in databases line.content) (pcbs_in databases lines)

-- a program has the PCBs of its PSB
abbrev pub pcbs_for : List Dbd → List MacroLine → Macro → List Pcb
pcbs_for databases all (Program name lines) = pcbs_in databases (pcbs_of name all)
pcbs_for databases all _ = []

abbrev pub program_in : List Pcb → Macro → Option SystemProgram
program_in pcbs (Program name lines) = Some (record { psb = name; pcbs = pcbs; program = lines })
program_in pcbs _ = None

abbrev pub programs_in : List Dbd → List MacroLine → List MacroLine → List SystemProgram
programs_in databases all [] = []
programs_in databases all (line ∷ lines) = value_and_then (program_in (pcbs_for databases all line.content) line.content) (programs_in databases all lines)

-- the same where the PCBs for each line stand in a list
abbrev pub programs_with : List MacroLine → List (List Pcb) → List SystemProgram
programs_with [] lists = []
programs_with (line ∷ lines) [] = []
programs_with (line ∷ lines) (pcbs ∷ lists) = value_and_then (program_in pcbs line.content) (programs_with lines lists)

-- the formats, under their names
abbrev pub format_in : Macro → Option SystemFormat
format_in (Format name format) = Some (record { name = name; format = format })
format_in _ = None

abbrev pub formats_in : List MacroLine → List SystemFormat
formats_in [] = []
formats_in (line ∷ lines) = value_and_then (format_in line.content) (formats_in lines)

-- the terminals that have a format
abbrev pub screen_in : Macro → Option Screen
screen_in (Terminal name (Some format)) = Some (record { terminal = name; format = format })
screen_in _ = None

abbrev pub screens_in : List MacroLine → List Screen
screens_in [] = []
screens_in (line ∷ lines) = value_and_then (screen_in line.content) (screens_in lines)

abbrev pub terminal_in : Macro → Option (List ℕ)
terminal_in (Terminal name format) = Some name
terminal_in _ = None

abbrev pub terminals_in : List MacroLine → List (List ℕ)
terminals_in [] = []
terminals_in (line ∷ lines) = value_and_then (terminal_in line.content) (terminals_in lines)

abbrev pub region_in : Macro → Option (List ℕ)
region_in (Region classes) = Some classes
region_in _ = None

abbrev pub regions_in : List MacroLine → List (List ℕ)
regions_in [] = []
regions_in (line ∷ lines) = value_and_then (region_in line.content) (regions_in lines)

-- A code has the PSB of the last APPLCTN before it.
abbrev pub psb_after : Option (List ℕ) → Macro → Option (List ℕ)
psb_after psb (Application name) = Some name
psb_after psb _ = psb

abbrev pub code_in : Option (List ℕ) → Macro → Option Code
code_in (Some name) (Transaction transaction) = Some (record { psb = name; transaction = transaction })
code_in _ _ = None

abbrev pub codes_in : Option (List ℕ) → List MacroLine → List Code
codes_in psb [] = []
codes_in psb (line ∷ lines) = value_and_then (code_in psb line.content) (codes_in (psb_after psb line.content) lines)

abbrev pub system_of : List MacroLine → System
system_of lines = record {
  qbytes = (control_in lines).0;
  logs = (control_in lines).1;
  databases = databases_in lines;
  programs = programs_in (databases_in lines) lines lines;
  codes = codes_in None lines;
  terminals = terminals_in lines;
  screens = screens_in lines;
  formats = formats_in lines;
  regions = regions_in lines;
}

abbrev pub system_made : System → Result (Unit {0}) (ℕ × ℕ) → Result System (ℕ × ℕ)
system_made system (Ok _) = Ok system
system_made system (Err fault) = Err fault

-- the system, or the rule that is broken first and its line
unfoldable pub checked : List MacroLine → Result System (ℕ × ℕ)
checked lines = system_made (system_of lines) (cross_rules lines)
