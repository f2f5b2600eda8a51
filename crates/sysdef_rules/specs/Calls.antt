-- The rules on the calls of a program.
use Rattle.std.specs.Prelude.{ℕ, zero, suc, nat_le, Bool, true, false, ◌&&◌, ◌||◌, not, List, [], ◌∷◌, find, length, Option, Some, None}
use Rattle.std.specs.Option.{option_map}
use Rattle.std.specs.Str.{bytes_eq}
use Rattle.tm_types.specs.declared.function.Function.{Function}
use Rattle.tm_types.specs.declared.function.Function.TheVariants.{ISRT}
use Rattle.model_system.specs.declared.program.ScriptLine.{ScriptLine}
use Rattle.model_system.specs.declared.script_ssa.ScriptSsa.{ScriptSsa}
use Rattle.model_system.specs.declared.script_ssa.ScriptSsa.TheVariants.{Any, Equal}
use Rattle.model_system.specs.declared.statement.Statement.{Statement}
use Rattle.model_system.specs.declared.statement.Statement.TheVariants.{Call}
use Rattle.system_types.specs.declared.definition.Macro.{Macro}
use Rattle.system_types.specs.declared.definition.Macro.TheVariants.{DatabasePcb, DestinationPcb, ModifiablePcb, Program}
use Rattle.system_types.specs.declared.definition.MacroLine.{MacroLine}
use Rattle.sysdef_rules.specs.declared.calls.CallRule.{CallRule}
use Rattle.sysdef_rules.specs.declared.calls.CallRule.TheVariants.{PcbMissing, SsaAstray, NoInsertPath}
use Rattle.system_types.specs.Calls.{is_database_function, is_output_function, segment_name}
use Rattle.sysdef_rules.specs.Lookups.{has, is_segment_named, segments_of, pcbs_of, macro_line_numbered, parent_named}

-- which functions a PCB has
abbrev pub pcb_has : Macro → Function → Bool
pcb_has (DatabasePcb database options) function = is_database_function function
pcb_has (DestinationPcb destination) function = is_output_function function
pcb_has ModifiablePcb function = is_output_function function
pcb_has _ function = false

abbrev pub pcb_serves : Option MacroLine → Function → Bool
pcb_serves (Some line) function = pcb_has line.content function
pcb_serves None function = false

-- A call on a PCB above 0 that isn't there, or that hasn't this function. What PCB 0 has is a rule of
-- scripts.
abbrev pub misses_pcb : List MacroLine → ℕ → Function → Bool
misses_pcb pcbs number function = nat_le 1 number && not (pcb_serves (macro_line_numbered pcbs number) function)

-- the segments of the database that a PCB is on
abbrev pub segments_in : List MacroLine → Macro → Option (List MacroLine)
segments_in all (DatabasePcb database options) = Some (segments_of database all)
segments_in all _ = None

abbrev pub segments_of_pcb : List MacroLine → Option MacroLine → Option (List MacroLine)
segments_of_pcb all (Some line) = segments_in all line.content
segments_of_pcb all None = None

-- within so many steps from a segment's parent up there stands this one
abbrev pub is_above : List MacroLine → List ℕ → ℕ → Option (List ℕ) → Bool
is_above segments above steps None = false
is_above segments above zero (Some name) = false
is_above segments above (suc steps) (Some name) = bytes_eq name above || is_above segments above steps (parent_named segments name)

-- A segment is a descendant of another that is its parent or stands further above. It has fewer
-- segments above it than its database has.
unfoldable pub is_descendant : List MacroLine → List ℕ → List ℕ → Bool
is_descendant segments name above = is_above segments above (length segments) (parent_named segments name)

abbrev pub is_below_segment : List MacroLine → List ℕ → Option (List ℕ) → Bool
is_below_segment segments name (Some above) = is_descendant segments name above
is_below_segment segments name None = true

-- the arguments name segments, each a descendant of the one before
abbrev pub go_down : List MacroLine → Option (List ℕ) → List ScriptSsa → Bool
go_down segments above [] = true
go_down segments above (ssa ∷ ssas) =
    has (is_segment_named (segment_name ssa)) segments && is_below_segment segments (segment_name ssa) above && go_down segments (Some (segment_name ssa)) ssas

-- An argument names a segment of the PCB's database, so a PCB without a database has none.
abbrev pub strays : Option (List MacroLine) → List ScriptSsa → Bool
strays (Some segments) ssas = not (go_down segments None ssas)
strays None [] = false
strays None (ssa ∷ ssas) = true

-- the root has no parent, and each other segment of a path has the one before as its parent
abbrev pub is_parent : Option (List ℕ) → Option (List ℕ) → Bool
is_parent (Some above) (Some parent) = bytes_eq parent above
is_parent None None = true
is_parent _ _ = false

-- the last argument of an ISRT is a name alone, and each other one asks for a key by =
abbrev pub has_insert_form : ScriptSsa → List ScriptSsa → Bool
has_insert_form (Any name) [] = true
has_insert_form (Equal name x) (next ∷ ssas) = true
has_insert_form _ _ = false

-- the arguments of an ISRT below a segment, one a level
abbrev pub fill_levels : List MacroLine → Option (List ℕ) → List ScriptSsa → Bool
fill_levels segments above [] = true
fill_levels segments above (ssa ∷ ssas) =
    is_parent above (parent_named segments (segment_name ssa)) && has_insert_form ssa ssas && fill_levels segments (Some (segment_name ssa)) ssas

-- one argument for each level from the root down to the segment that is inserted
abbrev pub is_insert_path : List MacroLine → List ScriptSsa → Bool
is_insert_path segments [] = false
is_insert_path segments (ssa ∷ ssas) = fill_levels segments None (ssa ∷ ssas)

abbrev pub misses_path : Option (List MacroLine) → Function → List ScriptSsa → Bool
misses_path (Some segments) ISRT ssas = not (is_insert_path segments ssas)
misses_path _ function ssas = false

abbrev pub breaks_call : CallRule → List MacroLine → List MacroLine → Statement → Bool
breaks_call PcbMissing all pcbs (Call function pcb area ssas) = misses_pcb pcbs pcb function
breaks_call SsaAstray all pcbs (Call function pcb area ssas) = strays (segments_of_pcb all (macro_line_numbered pcbs pcb)) ssas
breaks_call NoInsertPath all pcbs (Call function pcb area ssas) = misses_path (segments_of_pcb all (macro_line_numbered pcbs pcb)) function ssas
breaks_call rule all pcbs _ = false

-- the line of the first call of a script that breaks the rule
abbrev pub broken_call : CallRule → List MacroLine → List MacroLine → List ScriptLine → Option ℕ
broken_call rule all pcbs lines = option_map (λ line. line.number) (find (λ line. breaks_call rule all pcbs line.statement) lines)

abbrev pub broken_by_call : CallRule → List MacroLine → Macro → Option ℕ
broken_by_call rule all (Program name lines) = broken_call rule all (pcbs_of name all) lines
broken_by_call rule all _ = None
