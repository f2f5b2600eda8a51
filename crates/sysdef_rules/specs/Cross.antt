-- The rules that macros keep among each other.
use Rattle.std.specs.Prelude.{ℕ, ◌==◌, nat_le, Bool, false, ◌&&◌, ◌||◌, not, List, [], ◌∷◌, ◌++◌, Option, Some, None, Result, Ok, Err}
use Rattle.std.specs.Option.{option_or}
use Rattle.model_system.specs.FormatRule as format_rule
use Rattle.system_types.specs.declared.definition.Macro.{Macro}
use Rattle.system_types.specs.declared.definition.Macro.TheVariants.{Database, Application, DatabasePcb, DestinationPcb, Transaction, Terminal, Format, Program}
use Rattle.system_types.specs.declared.definition.MacroLine.{MacroLine}
use Rattle.sysdef_rules.specs.declared.segments.SegmentRule.TheVariants.{Twice, ParentAstray, KeyTooLong, LevelTooHigh}
use Rattle.sysdef_rules.specs.declared.calls.CallRule.TheVariants.{PcbMissing, SsaAstray, NoInsertPath}
use Rattle.sysdef_rules.specs.declared.cross.CrossRule.{CrossRule}
use Rattle.sysdef_rules.specs.declared.cross.CrossRule.TheVariants.{DatabaseTwice, OfSegments, PsbTwice, DatabaseUnknown, DestinationUnknown, CodeTwice, TerminalTwice, ProgramMissing, ProgramAstray, OfCalls, OfFormats, WrongCount, WrongPad, DiskTooLarge, LogsTooShort}
use Rattle.sysdef_rules.specs.Lookups.{has, is_database, is_application_named, is_code_named, is_conversational, is_terminal_named, is_format_named, is_program_named}
use Rattle.sysdef_rules.specs.Segments.{own_line, broken_by_segment}
use Rattle.sysdef_rules.specs.Calls.{broken_by_call}
use Rattle.sysdef_rules.specs.Counts.{broken_by_count}
use Rattle.sysdef_rules.specs.DiskSizes.{breaks_logs, breaks_size}

-- Each rule says whether a macro breaks it, among all macros and behind those before it. The rules on
-- segments, on calls, on formats and on counts name the line of a segment, of a call, of a format or of a PCB
-- too.

-- a database stands once
unfoldable pub breaks_database : List MacroLine → Macro → Bool
breaks_database before (Database name roots sectors) = has (is_database name) before
breaks_database before _ = false

-- a PSB stands once
unfoldable pub breaks_psb : List MacroLine → Macro → Bool
breaks_psb before (Application psb) = has (is_application_named psb) before
breaks_psb before _ = false

-- the database of a PCB stands somewhere
unfoldable pub breaks_pcb : List MacroLine → Macro → Bool
breaks_pcb all (DatabasePcb database options) = not (has (is_database database) all)
breaks_pcb all _ = false

-- the destination of a PCB is a terminal or a code, and no code with a scratch pad
unfoldable pub breaks_destination : List MacroLine → Macro → Bool
breaks_destination all (DestinationPcb destination) =
    not (has (is_terminal_named destination) all || has (is_code_named destination) all) || has (is_conversational destination) all
breaks_destination all _ = false

-- a code stands once, and is no terminal
unfoldable pub breaks_code : List MacroLine → List MacroLine → Macro → Bool
breaks_code all before (Transaction transaction) = has (is_code_named transaction.code) before || has (is_terminal_named transaction.code) all
breaks_code all before _ = false

-- a terminal stands once
unfoldable pub breaks_terminal : List MacroLine → Macro → Bool
breaks_terminal before (Terminal name format) = has (is_terminal_named name) before
breaks_terminal before _ = false

-- an APPLCTN has its PROGRAM
unfoldable pub breaks_application : List MacroLine → Macro → Bool
breaks_application all (Application psb) = not (has (is_program_named psb) all)
breaks_application all _ = false

-- a PROGRAM has its APPLCTN, and stands once
unfoldable pub breaks_program : List MacroLine → List MacroLine → Macro → Bool
breaks_program all before (Program name lines) = not (has (is_application_named name) all) || has (is_program_named name) before
breaks_program all before _ = false

-- the format of a terminal stands somewhere, and a format stands once
unfoldable pub breaks_format : List MacroLine → List MacroLine → Macro → Bool
breaks_format all before (Terminal name (Some format)) = not (has (is_format_named format) all)
breaks_format all before (Format name format) = has (is_format_named name) before
breaks_format all before _ = false

-- a code has no scratch pad, or one of 16 to 1,000
unfoldable pub breaks_pad : Macro → Bool
breaks_pad (Transaction transaction) = not (transaction.scratch_pad == 0) && not (nat_le 16 transaction.scratch_pad && nat_le transaction.scratch_pad 1000)
breaks_pad _ = false

-- the lowest line of a format that breaks the rule among its lines
abbrev pub broken_within : MacroLine → Macro → Option ℕ
broken_within line (Format name format) = format_rule.broken_format_line line.number format
broken_within line _ = None

-- the lowest line of a macro, and of those that belong to it, that breaks the rule
unfoldable pub broken_macro_line : CrossRule → List MacroLine → List MacroLine → MacroLine → List MacroLine → Option ℕ
broken_macro_line DatabaseTwice all before line behind = own_line line (breaks_database before line.content)
broken_macro_line (OfSegments rule) all before line behind = broken_by_segment rule line line.content behind
broken_macro_line PsbTwice all before line behind = own_line line (breaks_psb before line.content)
broken_macro_line DatabaseUnknown all before line behind = own_line line (breaks_pcb all line.content)
broken_macro_line DestinationUnknown all before line behind = own_line line (breaks_destination all line.content)
broken_macro_line CodeTwice all before line behind = own_line line (breaks_code all before line.content)
broken_macro_line TerminalTwice all before line behind = own_line line (breaks_terminal before line.content)
broken_macro_line ProgramMissing all before line behind = own_line line (breaks_application all line.content)
broken_macro_line ProgramAstray all before line behind = own_line line (breaks_program all before line.content)
broken_macro_line (OfCalls rule) all before line behind = broken_by_call rule all line.content
broken_macro_line OfFormats all before line behind = option_or (own_line line (breaks_format all before line.content)) (broken_within line line.content)
broken_macro_line WrongCount all before line behind = broken_by_count all before line behind
broken_macro_line WrongPad all before line behind = own_line line (breaks_pad line.content)
broken_macro_line DiskTooLarge all before line behind = own_line line (breaks_size all line.content behind)
broken_macro_line LogsTooShort all before line behind = own_line line (breaks_logs all line.content)

-- the number of a rule
abbrev pub rule_number : CrossRule → ℕ
rule_number DatabaseTwice = 1
rule_number (OfSegments Twice) = 2
rule_number (OfSegments ParentAstray) = 3
rule_number (OfSegments KeyTooLong) = 4
rule_number (OfSegments LevelTooHigh) = 5
rule_number PsbTwice = 6
rule_number DatabaseUnknown = 7
rule_number DestinationUnknown = 8
rule_number CodeTwice = 9
rule_number TerminalTwice = 10
rule_number ProgramMissing = 11
rule_number ProgramAstray = 12
rule_number (OfCalls PcbMissing) = 13
rule_number (OfCalls SsaAstray) = 14
rule_number (OfCalls NoInsertPath) = 15
rule_number OfFormats = 16
rule_number WrongCount = 17
rule_number WrongPad = 18
rule_number DiskTooLarge = 20
rule_number LogsTooShort = 21

-- The lowest line that breaks a rule. What belongs to a macro stands behind it and before the next
-- macro that has such lines, so the first macro that breaks the rule has the lowest line.
abbrev pub first_line : CrossRule → List MacroLine → List MacroLine → List MacroLine → Option ℕ
first_line rule all before [] = None
first_line rule all before (line ∷ lines) = option_or (broken_macro_line rule all before line lines) (first_line rule all (before ++ line ∷ []) lines)

abbrev pub unless_line_broken : CrossRule → Option ℕ → Result (Unit {0}) (ℕ × ℕ)
unless_line_broken rule (Some line) = Err (line, rule_number rule)
unless_line_broken rule None = Ok tt

unfoldable pub keeps : CrossRule → List MacroLine → Result (Unit {0}) (ℕ × ℕ)
keeps rule all = unless_line_broken rule (first_line rule all [] all)

abbrev pub before_others : Result (Unit {0}) (ℕ × ℕ) → Result (Unit {0}) (ℕ × ℕ) → Result (Unit {0}) (ℕ × ℕ)
before_others (Ok _) others = others
before_others (Err fault) others = Err fault

-- the lowest rule of the list that is broken, and of it the lowest line
abbrev pub keeps_all : List CrossRule → List MacroLine → Result (Unit {0}) (ℕ × ℕ)
keeps_all [] all = Ok tt
keeps_all (rule ∷ rules) all = before_others (keeps rule all) (keeps_all rules all)

-- the rules in the order of their numbers
abbrev pub rules : List CrossRule
rules =
    DatabaseTwice ∷ OfSegments Twice ∷ OfSegments ParentAstray ∷ OfSegments KeyTooLong ∷ OfSegments LevelTooHigh ∷ PsbTwice ∷ DatabaseUnknown
    ∷ DestinationUnknown ∷ CodeTwice ∷ TerminalTwice ∷ ProgramMissing ∷ ProgramAstray ∷ OfCalls PcbMissing ∷ OfCalls SsaAstray ∷ OfCalls NoInsertPath
    ∷ OfFormats ∷ WrongCount ∷ WrongPad ∷ DiskTooLarge ∷ LogsTooShort ∷ []

unfoldable pub cross_rules : List MacroLine → Result (Unit {0}) (ℕ × ℕ)
cross_rules all = keeps_all rules all
