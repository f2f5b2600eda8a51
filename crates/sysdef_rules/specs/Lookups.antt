-- What stands where among the macros.
use Rattle.std.specs.Prelude.{ℕ, ◌+◌, ◌-◌, ◌==◌, Bool, true, false, ◌&&◌, not, List, [], ◌∷◌, count_by, find, position, slice_get, Option, Some, None, if◌then◌else◌}
use Rattle.std.specs.List.{list_any}
use Rattle.std.specs.Option.{option_map_or}
use Rattle.std.specs.Str.{bytes_eq}
use Rattle.system_types.specs.declared.definition.Macro.{Macro}
use Rattle.system_types.specs.declared.definition.Macro.TheVariants.{Database, Segment, Application, DatabasePcb, DestinationPcb, ModifiablePcb, Transaction, Terminal, Region, Format, Program}
use Rattle.system_types.specs.declared.definition.MacroLine.{MacroLine}
use Rattle.sysdef_rules.specs.declared.lookups.MacroKind.{MacroKind}
use Rattle.sysdef_rules.specs.declared.lookups.MacroKind.TheVariants.{Databases, Segments, Pcbs, Codes, Terminals, Regions, Formats, Programs}

-- the macros of one kind with a name
abbrev pub is_database : List ℕ → Macro → Bool
is_database name (Database database roots sectors) = bytes_eq database name
is_database name _ = false

abbrev pub is_segment_named : List ℕ → Macro → Bool
is_segment_named name (Segment segment parent key bytes) = bytes_eq segment name
is_segment_named name _ = false

abbrev pub is_application_named : List ℕ → Macro → Bool
is_application_named name (Application psb) = bytes_eq psb name
is_application_named name _ = false

abbrev pub is_code_named : List ℕ → Macro → Bool
is_code_named name (Transaction transaction) = bytes_eq transaction.code name
is_code_named name _ = false

-- a code with a scratch pad
abbrev pub is_conversational : List ℕ → Macro → Bool
is_conversational name (Transaction transaction) = not (transaction.scratch_pad == 0) && bytes_eq transaction.code name
is_conversational name _ = false

abbrev pub is_terminal_named : List ℕ → Macro → Bool
is_terminal_named name (Terminal terminal format) = bytes_eq terminal name
is_terminal_named name _ = false

abbrev pub is_format_named : List ℕ → Macro → Bool
is_format_named name (Format format lines) = bytes_eq format name
is_format_named name _ = false

abbrev pub is_program_named : List ℕ → Macro → Bool
is_program_named name (Program program lines) = bytes_eq program name
is_program_named name _ = false

-- a PCB is on a database, or for output
abbrev pub is_pcb : Macro → Bool
is_pcb (DatabasePcb database options) = true
is_pcb (DestinationPcb destination) = true
is_pcb ModifiablePcb = true
is_pcb _ = false

-- the macros of a kind
abbrev pub is_of_kind : MacroKind → Macro → Bool
is_of_kind Databases (Database name roots sectors) = true
is_of_kind Segments (Segment name parent key bytes) = true
is_of_kind Pcbs content = is_pcb content
is_of_kind Codes (Transaction transaction) = true
is_of_kind Terminals (Terminal name format) = true
is_of_kind Formats (Format name format) = true
is_of_kind Regions (Region classes) = true
is_of_kind Programs (Program name lines) = true
is_of_kind _ _ = false

-- some of the lines has such a macro; how many have
abbrev pub has : (Macro → Bool) → List MacroLine → Bool
has test lines = list_any (λ line. test line.content) lines

abbrev pub count : MacroKind → List MacroLine → ℕ
count kind lines = count_by (λ line. is_of_kind kind line.content) lines

-- the lines at the front that have macros of one kind
abbrev pub front : MacroKind → List MacroLine → List MacroLine
front kind [] = []
front kind (line ∷ lines) = if is_of_kind kind line.content then line ∷ front kind lines else []

-- the lines behind the first one that has such a macro
abbrev pub lines_behind_first : (Macro → Bool) → List MacroLine → List MacroLine
lines_behind_first test [] = []
lines_behind_first test (line ∷ lines) = if test line.content then lines else lines_behind_first test lines

-- The segments of a database stand right behind its DBD, the PCBs of a PSB right behind its APPLCTN.
unfoldable pub segments_of : List ℕ → List MacroLine → List MacroLine
segments_of name lines = front Segments (lines_behind_first (is_database name) lines)

unfoldable pub pcbs_of : List ℕ → List MacroLine → List MacroLine
pcbs_of psb lines = front Pcbs (lines_behind_first (is_application_named psb) lines)

-- the line of this number, counted from 1
abbrev pub macro_line_numbered : List MacroLine → ℕ → Option MacroLine
macro_line_numbered lines number = if number == 0 then None else slice_get lines (number - 1)

-- the number of the first line that has such a macro, counted from 1, or 0 where none has
abbrev pub line_number_of : (Macro → Bool) → List MacroLine → ℕ
line_number_of test lines = option_map_or (λ place. place + 1) (position (λ line. test line.content) lines) 0

-- a segment's parent; a root has none
abbrev pub parent_in : Macro → Option (List ℕ)
parent_in (Segment name parent key bytes) = parent
parent_in _ = None

abbrev pub parent_at : Option MacroLine → Option (List ℕ)
parent_at (Some line) = parent_in line.content
parent_at None = None

-- the parent of the segment with this name
unfoldable pub parent_named : List MacroLine → List ℕ → Option (List ℕ)
parent_named segments name = parent_at (find (λ line. is_segment_named name line.content) segments)
