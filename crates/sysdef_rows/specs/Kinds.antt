-- The macros and their keys.
use Rattle.std.specs.Prelude.{ℕ, List, [], ◌∷◌, codes, Result, Ok, Err, if◌then◌else◌}
use Rattle.std.specs.Str.{bytes_eq}
use Rattle.text_rows.specs.Operands.{known_among}
use Rattle.sysdef_rows.specs.declared.kinds.Kind.{Kind}
use Rattle.sysdef_rows.specs.declared.kinds.Kind.TheVariants.{Control, Database, Segment, Application, Pcb, Transaction, Terminal, Region, End}
use Rattle.sysdef_rows.specs.Pcbs.{form_keys, pcb_form, pcb_keys}

-- Rule 1: the name is one of these.
unfoldable pub kind_of : List ℕ → Result Kind ℕ
kind_of name =
    if bytes_eq name (codes "IMSCTRL") then Ok Control
    else (if bytes_eq name (codes "DBD") then Ok Database
    else (if bytes_eq name (codes "SEGM") then Ok Segment
    else (if bytes_eq name (codes "APPLCTN") then Ok Application
    else (if bytes_eq name (codes "PCB") then Ok Pcb
    else (if bytes_eq name (codes "TRANSACT") then Ok Transaction
    else (if bytes_eq name (codes "NAME") then Ok Terminal
    else (if bytes_eq name (codes "REGION") then Ok Region
    else (if bytes_eq name (codes "END") then Ok End
    else Err 1))))))))

abbrev pub segment_keys : List (List ℕ)
segment_keys = codes "NAME" ∷ codes "PARENT" ∷ codes "KEY" ∷ codes "BYTES" ∷ []

abbrev pub transaction_keys : List (List ℕ)
transaction_keys = codes "CODE" ∷ codes "MSGTYPE" ∷ codes "PRTY" ∷ codes "PROCLIM" ∷ codes "SPA" ∷ codes "SEGNO" ∷ codes "SEGSIZE" ∷ codes "SERIAL" ∷ []

-- the keys that a macro has
abbrev pub macro_keys : Kind → List (List ℕ)
macro_keys Control = codes "QBYTES" ∷ codes "LOGS" ∷ []
macro_keys Database = codes "NAME" ∷ codes "ROOTS" ∷ codes "SECTORS" ∷ []
macro_keys Segment = segment_keys
macro_keys Application = codes "PSB" ∷ []
macro_keys Pcb = pcb_keys
macro_keys Transaction = transaction_keys
macro_keys Terminal = codes "LTERM" ∷ codes "FORMAT" ∷ []
macro_keys Region = codes "CLASS" ∷ []
macro_keys End = []

abbrev pub format_keys : List (List ℕ)
format_keys = codes "NAME" ∷ []

-- Rule 2: each operand has one of the macro's keys, or of the keys of the PCB's form.
unfoldable pub macro_keys_known : Kind → List (List ℕ) → Result (Unit {0}) ℕ
macro_keys_known Pcb operands = known_among (form_keys (pcb_form operands)) operands
macro_keys_known kind operands = known_among (macro_keys kind) operands
