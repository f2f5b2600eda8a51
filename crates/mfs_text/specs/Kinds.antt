-- The macros of a format and their keys.
use Rattle.std.specs.Prelude.{ℕ, Bool, true, false, ◌&&◌, not, List, [], ◌∷◌, codes, Result, Ok, Err, if◌then◌else◌}
use Rattle.std.specs.List.{list_any}
use Rattle.std.specs.Str.{bytes_eq}
use Rattle.text_rows.specs.Operands.{known_among, stands}
use Rattle.mfs_text.specs.declared.kinds.Kind.{Kind}
use Rattle.mfs_text.specs.declared.kinds.Kind.TheVariants.{Field, Message, Segment, MessageField, End}

-- the macros of a definition that stand in no format
abbrev pub other_macros : List (List ℕ)
other_macros =
    codes "IMSCTRL" ∷ codes "DBD" ∷ codes "SEGM" ∷ codes "APPLCTN" ∷ codes "PCB" ∷ codes "TRANSACT" ∷ codes "NAME" ∷ codes "REGION" ∷ codes "FMT"
    ∷ codes "PROGRAM" ∷ codes "END" ∷ []

-- Rule 1: the name is a macro's. Rule 10: it is that of a macro of a format.
unfoldable pub format_kind_of : List ℕ → Result Kind ℕ
format_kind_of name =
    if bytes_eq name (codes "DFLD") then Ok Field
    else (if bytes_eq name (codes "MSG") then Ok Message
    else (if bytes_eq name (codes "SEG") then Ok Segment
    else (if bytes_eq name (codes "MFLD") then Ok MessageField
    else (if bytes_eq name (codes "FMTEND") then Ok End
    else (if list_any (bytes_eq name) other_macros then Err 10
    else Err 1)))))

-- An MFLD with LIT is a literal, unless it has SRC too.
unfoldable pub has_literal : List (List ℕ) → Bool
has_literal ops = stands (codes "LIT") ops && not (stands (codes "SRC") ops)

abbrev pub field_keys : List (List ℕ)
field_keys = codes "NAME" ∷ codes "POS" ∷ codes "LTH" ∷ []

abbrev pub source_keys : List (List ℕ)
source_keys = codes "SRC" ∷ codes "LTH" ∷ codes "JUST" ∷ codes "FILL" ∷ []

-- the keys that a macro has, an MFLD those of its form
abbrev pub format_macro_keys : Kind → Bool → List (List ℕ)
format_macro_keys Field literal = field_keys
format_macro_keys Message literal = codes "TYPE" ∷ []
format_macro_keys Segment literal = []
format_macro_keys MessageField true = codes "LIT" ∷ []
format_macro_keys MessageField false = source_keys
format_macro_keys End literal = []

-- Rule 2: each operand has one of these keys.
unfoldable pub format_keys_known : Kind → List (List ℕ) → Result (Unit {0}) ℕ
format_keys_known kind operands = known_among (format_macro_keys kind (has_literal operands)) operands
