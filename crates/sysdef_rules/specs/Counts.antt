-- How many macros of each kind there are.
use Rattle.std.specs.Prelude.{ℕ, Bool, false, ◌||◌, ◌==◌, List, nat_le, slice_get, Option, None}
use Rattle.std.specs.Option.{option_map, option_or}
use Rattle.system_types.specs.declared.definition.Macro.{Macro}
use Rattle.system_types.specs.declared.definition.Macro.TheVariants.{Database, Application, Transaction, Terminal, Region, Format, Program, End}
use Rattle.system_types.specs.declared.definition.MacroLine.{MacroLine}
use Rattle.sysdef_rules.specs.declared.lookups.MacroKind.TheVariants.{Databases, Segments, Pcbs, Codes, Terminals, Regions, Formats, Programs}
use Rattle.sysdef_rules.specs.Lookups.{count, front}
use Rattle.sysdef_rules.specs.Segments.{own_line}

-- There are at most 8 databases, 256 codes, 64 terminals, 8 regions, 32 formats and 64 programs. The line of END
-- breaks the rule where there is no terminal or no region.
unfoldable pub breaks_count : List MacroLine → List MacroLine → Macro → Bool
breaks_count all before (Database name roots sectors) = nat_le 8 (count Databases before)
breaks_count all before (Transaction transaction) = nat_le 256 (count Codes before)
breaks_count all before (Terminal name format) = nat_le 64 (count Terminals before)
breaks_count all before (Region classes) = nat_le 8 (count Regions before)
breaks_count all before (Format name format) = nat_le 32 (count Formats before)
breaks_count all before (Program name lines) = nat_le 64 (count Programs before)
breaks_count all before End = (count Terminals all == 0) || (count Regions all == 0)
breaks_count all before _ = false

abbrev pub macro_number_at : Option MacroLine → Option ℕ
macro_number_at line = option_map (λ l. l.number) line

-- a database has at most 16 segments, and a PSB at most 8 PCBs: the first line past that
abbrev pub past_limit : Macro → List MacroLine → Option ℕ
past_limit (Database name roots sectors) behind = macro_number_at (slice_get (front Segments behind) 16)
past_limit (Application psb) behind = macro_number_at (slice_get (front Pcbs behind) 8)
past_limit _ behind = None

-- the lowest line of a macro and those that belong to it that is past a limit
abbrev pub broken_by_count : List MacroLine → List MacroLine → MacroLine → List MacroLine → Option ℕ
broken_by_count all before line behind = option_or (own_line line (breaks_count all before line.content)) (past_limit line.content behind)
