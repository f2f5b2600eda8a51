-- What one line of a definition does.
use Rattle.std.specs.Prelude.{ℕ, suc, Bool, List, Result, Ok, Err, if◌then◌else◌}
use Rattle.std.specs.Option.{option_map_or}
use Rattle.text_rows.specs.Lines.{is_passed_over}
use Rattle.text_rows.specs.Operands.{macro_name}
use Rattle.text_rows.specs.Refusals.{at_line}
use Rattle.mfs_text.specs.Lines.{stray_rule}
use Rattle.model_system.specs.FormatLines.{FormatLines}
use Rattle.model_system.specs.declared.program.ScriptLine.{ScriptLine}
use Rattle.script_text.specs.Scripts.{is_script_last}
use Rattle.system_types.specs.declared.definition.Macro.{Macro}
use Rattle.system_types.specs.declared.definition.Macro.TheVariants.{Format, Program}
use Rattle.sysdef_rows.specs.declared.kinds.Kind.{Kind}
use Rattle.sysdef_rows.specs.declared.kinds.Kind.TheVariants.{End}
use Rattle.sysdef_text.specs.declared.modes.Mode.{Mode}
use Rattle.sysdef_text.specs.declared.modes.Mode.TheVariants.{InProgram, InFormat, Elsewhere}
use Rattle.sysdef_text.specs.declared.modes.Step.{Step}
use Rattle.sysdef_text.specs.declared.modes.Step.TheVariants.{Pass, Item, Last}
use Rattle.sysdef_rows.specs.Kinds.{kind_of}
use Rattle.sysdef_text.specs.Formats.{format_block, is_format_end}
use Rattle.sysdef_text.specs.MacroPlaces.{mode_after, within_definition, macro_line, program_line, format_head, is_program_word, is_format_word}
use Rattle.sysdef_text.specs.Programs.{program_block}

-- A line that is passed over leaves all as it was.
abbrev pub passed : Mode → Result (Unit {0}) (ℕ × ℕ) → Result Step (ℕ × ℕ)
passed mode (Ok _) = Ok (Pass mode)
passed mode (Err fault) = Err fault

-- A PROGRAM has the lines behind it, which are then passed up to and with ENDPROG.
abbrev pub program_read : Result (List ℕ) (ℕ × ℕ) → Result (List ScriptLine) (ℕ × ℕ) → Result Step (ℕ × ℕ)
program_read (Ok name) (Ok lines) = Ok (Item (Program name lines) InProgram)
program_read (Ok name) (Err fault) = Err fault
program_read (Err fault) lines = Err fault

abbrev pub program_step : Mode → Bool → ℕ → List ℕ → List (List ℕ) → Result Step (ℕ × ℕ)
program_step mode over number line behind = program_read (at_line number (program_line mode over line behind)) (program_block over (suc number) behind)

-- An FMT has the lines behind it, which are then passed up to and with FMTEND.
abbrev pub format_read : Result (List ℕ) (ℕ × ℕ) → Result FormatLines (ℕ × ℕ) → Result Step (ℕ × ℕ)
format_read (Ok name) (Ok format) = Ok (Item (Format name format) InFormat)
format_read (Ok name) (Err fault) = Err fault
format_read (Err fault) format = Err fault

abbrev pub format_step : Mode → Bool → ℕ → List ℕ → List (List ℕ) → Result Step (ℕ × ℕ)
format_step mode over number line behind = format_read (at_line number (format_head mode over line behind)) (format_block over (suc number) behind)

-- END is the last macro.
abbrev pub macro_read : Kind → Result Macro (ℕ × ℕ) → Result Step (ℕ × ℕ)
macro_read End (Ok macro) = Ok (Last macro)
macro_read kind (Ok macro) = Ok (Item macro (mode_after kind))
macro_read kind (Err fault) = Err fault

-- A name that is no macro's may be that of a macro of a format, which is astray.
abbrev pub macro_step : Result Kind ℕ → Mode → Bool → ℕ → List ℕ → List (List ℕ) → Result Step (ℕ × ℕ)
macro_step (Ok kind) mode over number line behind = macro_read kind (at_line number (macro_line kind mode over line behind))
macro_step (Err rule) mode over number line behind = Err (number, option_map_or (λ stray. stray) (stray_rule line) rule)

abbrev pub outside_step : Mode → Bool → ℕ → List ℕ → List (List ℕ) → Result Step (ℕ × ℕ)
outside_step mode over number line behind =
    if is_passed_over line then passed mode (at_line number (within_definition over behind))
    else (if is_program_word line then program_step mode over number line behind
    else (if is_format_word line then format_step mode over number line behind
    else macro_step (kind_of (macro_name line)) mode over number line behind))

-- The step of a line with this number, before the lines behind it.
unfoldable pub definition_step : Mode → Bool → ℕ → List ℕ → List (List ℕ) → Result Step (ℕ × ℕ)
definition_step InProgram over number line behind = Ok (Pass (if is_script_last line then Elsewhere else InProgram))
definition_step InFormat over number line behind = Ok (Pass (if is_format_end line then Elsewhere else InFormat))
definition_step mode over number line behind = outside_step mode over number line behind
