-- Where a macro may stand.
use Rattle.std.specs.Prelude.{ℕ, Bool, true, List, [], codes, Result, Ok, Err}
use Rattle.std.specs.Str.{bytes_eq}
use Rattle.text_rows.specs.Lines.{printable_line}
use Rattle.text_rows.specs.LowestRule.{also}
use Rattle.text_rows.specs.Operands.{macro_name, macro_operands}
use Rattle.system_types.specs.declared.definition.Macro.{Macro}
use Rattle.sysdef_rows.specs.declared.kinds.Kind.{Kind}
use Rattle.sysdef_rows.specs.declared.kinds.Kind.TheVariants.{Control, Database, Segment, Application, Pcb, Transaction}
use Rattle.sysdef_text.specs.declared.modes.Mode.{Mode}
use Rattle.sysdef_text.specs.declared.modes.Mode.TheVariants.{Start, BehindDatabase, BehindApplication, BehindTransaction, Elsewhere}
use Rattle.sysdef_rows.specs.Kinds.{macro_keys_known}
use Rattle.sysdef_rows.specs.Rows.{macro_row, read_format_name, program_name}

-- what has come behind a macro
abbrev pub mode_after : Kind → Mode
mode_after Database = BehindDatabase
mode_after Segment = BehindDatabase
mode_after Application = BehindApplication
mode_after Pcb = BehindApplication
mode_after Transaction = BehindTransaction
mode_after _ = Elsewhere

-- Rule 10: SEGM stands right behind DBD or SEGM, PCB right behind APPLCTN or PCB, and TRANSACT right
-- behind APPLCTN, PCB or TRANSACT.
abbrev pub family_place : Mode → Kind → Result (Unit {0}) ℕ
family_place BehindDatabase Segment = Ok tt
family_place BehindApplication Pcb = Ok tt
family_place BehindApplication Transaction = Ok tt
family_place BehindTransaction Transaction = Ok tt
family_place _ Segment = Err 10
family_place _ Pcb = Err 10
family_place _ Transaction = Err 10
family_place _ _ = Ok tt

-- Rule 14: IMSCTRL is the first macro, and no other.
abbrev pub control_place : Mode → Kind → Result (Unit {0}) ℕ
control_place Start Control = Ok tt
control_place Start _ = Err 14
control_place _ Control = Err 14
control_place _ _ = Ok tt

-- PROGRAM and FMT stand anywhere behind it.
abbrev pub program_line_place : Mode → Result (Unit {0}) ℕ
program_line_place Start = Err 14
program_line_place _ = Ok tt

-- Rule 12: no line passes 262,144 bytes. Where the text is longer its last line is the one that
-- passes; the lines behind a line tell whether it is the last.
abbrev pub within_definition : Bool → List (List ℕ) → Result (Unit {0}) ℕ
within_definition true [] = Err 12
within_definition _ _ = Ok tt

-- a macro with operands, or the lowest rule that its line breaks
unfoldable pub macro_line : Kind → Mode → Bool → List ℕ → List (List ℕ) → Result Macro ℕ
macro_line kind mode over line behind =
    also (also (also (macro_row kind (macro_operands line)) (macro_keys_known kind (macro_operands line))) (printable_line line))
    (also (also (family_place mode kind) (control_place mode kind)) (within_definition over behind))

-- the name of a PROGRAM, or the lowest rule that its line breaks
unfoldable pub program_line : Mode → Bool → List ℕ → List (List ℕ) → Result (List ℕ) ℕ
program_line mode over line behind =
    also (also (program_name line) (printable_line line)) (also (program_line_place mode) (within_definition over behind))

abbrev pub is_program_word : List ℕ → Bool
is_program_word line = bytes_eq (macro_name line) (codes "PROGRAM")

-- the name of an FMT, or the lowest rule that its line breaks
unfoldable pub format_head : Mode → Bool → List ℕ → List (List ℕ) → Result (List ℕ) ℕ
format_head mode over line behind =
    also (also (read_format_name (macro_operands line)) (printable_line line)) (also (program_line_place mode) (within_definition over behind))

abbrev pub is_format_word : List ℕ → Bool
is_format_word line = bytes_eq (macro_name line) (codes "FMT")
