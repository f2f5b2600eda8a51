-- Texts that segments may have.
use Rattle.std.specs.Prelude.{ℕ, nat_le, Bool, ◌&&◌, List, length}
use Rattle.std.specs.List.{list_all}
use Rattle.tm_types.specs.Segment.{are_printable}
use Rattle.model_system.specs.declared.fields.FieldValue.{FieldValue}

-- at most 1,996 printable bytes
abbrev pub is_text : List ℕ → Bool
is_text text = nat_le (length text) 1996 && are_printable text

-- each value has a printable text
abbrev pub values_printable : List FieldValue → Bool
values_printable values = list_all (λ value. are_printable value.text) values
