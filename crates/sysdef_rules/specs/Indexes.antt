-- Indexes of macros by their names.
use Rattle.std.specs.Prelude.{ℕ, Bool, List}
use Rattle.std.specs.BTreeMap.{BTreeMap}
use Rattle.system_types.specs.declared.definition.Macro.{Macro}
use Rattle.system_types.specs.declared.definition.MacroLine.{MacroLine}
use Rattle.system_types.specs.Indexes.{IsIndex}
use Rattle.sysdef_rules.specs.Lookups.{is_database, is_application_named, is_code_named, is_conversational, is_terminal_named, is_format_named, is_program_named}

-- the line has a macro of this name
abbrev pub on_line : (List ℕ → Macro → Bool) → List ℕ → MacroLine → Bool
on_line has_name name line = has_name name line.content

-- the indexes of the macros in these lines, for each kind that has names
pub record AreIndexes (lines : List MacroLine) (databases applications codes conversational terminals formats programs : BTreeMap (List ℕ) ℕ) : Type 0 where
  pub of_databases : IsIndex (on_line is_database) databases lines
  pub of_applications : IsIndex (on_line is_application_named) applications lines
  pub of_codes : IsIndex (on_line is_code_named) codes lines
  pub of_conversational : IsIndex (on_line is_conversational) conversational lines
  pub of_terminals : IsIndex (on_line is_terminal_named) terminals lines
  pub of_formats : IsIndex (on_line is_format_named) formats lines
  pub of_programs : IsIndex (on_line is_program_named) programs lines
