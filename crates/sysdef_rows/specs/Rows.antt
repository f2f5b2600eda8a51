-- The table of macros: a row for each, with its operands and their defaults.
use Rattle.std.specs.Prelude.{ℕ, Bool, false, List, [], ◌∷◌, codes, Option, Some, None, Result, Ok, Err}
use Rattle.text_rows.specs.Lines.{split_at}
use Rattle.text_rows.specs.LowestRule.{also, both}
use Rattle.text_rows.specs.Names.{name_of}
use Rattle.text_rows.specs.Numbers.{number_between}
use Rattle.text_rows.specs.Operands.{known_among, needed, or_as}
use Rattle.model_system.specs.declared.code.SegmentKind.{SegmentKind}
use Rattle.model_system.specs.declared.code.SegmentKind.TheVariants.{Multiple}
use Rattle.system_types.specs.declared.definition.Macro.{Macro}
use Rattle.system_types.specs.declared.definition.Macro.TheVariants as macro
use Rattle.sysdef_rows.specs.declared.kinds.Kind.{Kind}
use Rattle.sysdef_rows.specs.declared.kinds.Kind.TheVariants.{Control, Database, Segment, Application, Pcb, Transaction, Terminal, Region, End}
use Rattle.sysdef_rows.specs.Kinds.{format_keys}
use Rattle.sysdef_rows.specs.Pcbs.{pcb_row}
use Rattle.sysdef_rows.specs.Values.{parent_name, parent_of, message_type_of, priorities_of, limits_of, pad_length_of, serial_of, classes_of}

-- IMSCTRL QBYTES, LOGS
abbrev pub control_made : Result (ℕ × ℕ) ℕ → Result Macro ℕ
control_made (Ok (qbytes, logs)) = Ok (macro.Control qbytes logs)
control_made (Err rule) = Err rule

unfoldable pub control_row : List (List ℕ) → Result Macro ℕ
control_row ops = control_made (both (or_as (codes "QBYTES") (number_between 131072 8388608) 8388608 ops) (or_as (codes "LOGS") (number_between 64 2048) 2048 ops))

-- DBD NAME, ROOTS, SECTORS
abbrev pub database_made : Result (List ℕ × (ℕ × ℕ)) ℕ → Result Macro ℕ
database_made (Ok (name, (roots, sectors))) = Ok (macro.Database name roots sectors)
database_made (Err rule) = Err rule

unfoldable pub slot_part : List (List ℕ) → Result (ℕ × ℕ) ℕ
slot_part ops = both (or_as (codes "ROOTS") (number_between 1 4096) 4096 ops) (or_as (codes "SECTORS") (number_between 1 8) 1 ops)

unfoldable pub database_row : List (List ℕ) → Result Macro ℕ
database_row ops = database_made (both (needed (codes "NAME") name_of ops) (slot_part ops))

-- SEGM NAME, PARENT, KEY, BYTES
abbrev pub segment_made : Result ((List ℕ × Option (List ℕ)) × (ℕ × ℕ)) ℕ → Result Macro ℕ
segment_made (Ok ((name, parent), (key, bytes))) = Ok (macro.Segment name parent key bytes)
segment_made (Err rule) = Err rule

unfoldable pub place_part : List (List ℕ) → Result (List ℕ × Option (List ℕ)) ℕ
place_part ops = both (needed (codes "NAME") name_of ops) (needed (codes "PARENT") parent_of ops)

unfoldable pub length_part : List (List ℕ) → Result (ℕ × ℕ) ℕ
length_part ops = both (needed (codes "KEY") (number_between 1 32) ops) (needed (codes "BYTES") (number_between 1 1900) ops)

unfoldable pub segment_row : List (List ℕ) → Result Macro ℕ
segment_row ops = segment_made (both (place_part ops) (length_part ops))

-- APPLCTN PSB
abbrev pub application_made : Result (List ℕ) ℕ → Result Macro ℕ
application_made (Ok psb) = Ok (macro.Application psb)
application_made (Err rule) = Err rule

unfoldable pub application_row : List (List ℕ) → Result Macro ℕ
application_row ops = application_made (needed (codes "PSB") name_of ops)

-- NAME LTERM, FORMAT
abbrev pub terminal_made : Result (List ℕ × Option (List ℕ)) ℕ → Result Macro ℕ
terminal_made (Ok (name, format)) = Ok (macro.Terminal name format)
terminal_made (Err rule) = Err rule

unfoldable pub terminal_row : List (List ℕ) → Result Macro ℕ
terminal_row ops = terminal_made (both (needed (codes "LTERM") name_of ops) (or_as (codes "FORMAT") (λ text. parent_name (name_of text)) None ops))

-- REGION CLASS
abbrev pub region_made : Result (List ℕ) ℕ → Result Macro ℕ
region_made (Ok classes) = Ok (macro.Region classes)
region_made (Err rule) = Err rule

unfoldable pub region_row : List (List ℕ) → Result Macro ℕ
region_row ops = region_made (needed (codes "CLASS") classes_of ops)

-- TRANSACT CODE, MSGTYPE, PRTY, PROCLIM, SPA, SEGNO, SEGSIZE, SERIAL
abbrev pub transaction_made : Result ((List ℕ × (SegmentKind × ℕ)) × ((ℕ × (ℕ × ℕ)) × ((ℕ × ℕ) × ((ℕ × ℕ) × (ℕ × Bool))))) ℕ → Result Macro ℕ
transaction_made (Ok ((code, (kind, class)), ((normal, (limit, count)), ((processing, statements), ((segments, size), (pad, serial)))))) =
    Ok (macro.Transaction (record {
      code = code;
      segment_kind = kind;
      class = class;
      normal_priority = normal;
      limit_priority = limit;
      limit_count = count;
      processing_count = processing;
      statement_limit = statements;
      segment_count = segments;
      segment_size = size;
      scratch_pad = pad;
      serial = serial;
    }))
transaction_made (Err rule) = Err rule

unfoldable pub code_part : List (List ℕ) → Result (List ℕ × (SegmentKind × ℕ)) ℕ
code_part ops = both (needed (codes "CODE") name_of ops) (or_as (codes "MSGTYPE") message_type_of (Multiple, 1) ops)

unfoldable pub pad_part : List (List ℕ) → Result (ℕ × Bool) ℕ
pad_part ops = both (or_as (codes "SPA") pad_length_of 0 ops) (or_as (codes "SERIAL") serial_of false ops)

unfoldable pub segment_part : List (List ℕ) → Result ((ℕ × ℕ) × (ℕ × Bool)) ℕ
segment_part ops = both (both (or_as (codes "SEGNO") (number_between 1 32) 32 ops) (or_as (codes "SEGSIZE") (number_between 5 2000) 2000 ops)) (pad_part ops)

unfoldable pub limit_part : List (List ℕ) → Result ((ℕ × (ℕ × ℕ)) × ((ℕ × ℕ) × ((ℕ × ℕ) × (ℕ × Bool)))) ℕ
limit_part ops = both (or_as (codes "PRTY") priorities_of (1, (1, 65535)) ops) (both (or_as (codes "PROCLIM") limits_of (65535, 65535) ops) (segment_part ops))

unfoldable pub transaction_row : List (List ℕ) → Result Macro ℕ
transaction_row ops = transaction_made (both (code_part ops) (limit_part ops))

-- the row of a kind; END has no operands
unfoldable pub macro_row : Kind → List (List ℕ) → Result Macro ℕ
macro_row Control ops = control_row ops
macro_row Database ops = database_row ops
macro_row Segment ops = segment_row ops
macro_row Application ops = application_row ops
macro_row Pcb ops = pcb_row ops
macro_row Transaction ops = transaction_row ops
macro_row Terminal ops = terminal_row ops
macro_row Region ops = region_row ops
macro_row End ops = Ok macro.End

-- PROGRAM: what stands behind the blank is the name
abbrev pub program_name_in : Option (List ℕ × List ℕ) → Result (List ℕ) ℕ
program_name_in None = Err 4
program_name_in (Some (name, [])) = Err 4
program_name_in (Some (name, byte ∷ bytes)) = name_of (byte ∷ bytes)

unfoldable pub program_name : List ℕ → Result (List ℕ) ℕ
program_name line = program_name_in (split_at 32 line)

-- FMT: its one operand is the name
unfoldable pub read_format_name : List (List ℕ) → Result (List ℕ) ℕ
read_format_name ops = also (needed (codes "NAME") name_of ops) (known_among format_keys ops)
