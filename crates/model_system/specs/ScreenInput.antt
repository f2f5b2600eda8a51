-- What goes in from a screen.
use Rattle.std.specs.Prelude.{ℕ, not, List, [], ◌∷◌, ◌++◌, map, reverse, find, Option, Some, None, Result, Ok, Err}
use Rattle.std.specs.Option.{option_map, option_map_or}
use Rattle.std.specs.Str.{bytes_eq}
use Rattle.model_system.specs.declared.device_field.DeviceField.{DeviceField}
use Rattle.model_system.specs.declared.fields.FieldValue.{FieldValue}
use Rattle.model_system.specs.declared.message_field.MessageField.{MessageField}
use Rattle.model_system.specs.declared.message_field.MessageField.TheVariants.{Source, Literal}
use Rattle.model_system.specs.declared.message_field.MessageFieldLine.{MessageFieldLine}
use Rattle.model_system.specs.FormatRule.{has_field}
use Rattle.model_system.specs.FittedValues.{fitted_value}
use Rattle.model_system.specs.FormatLines.{FormatLines}

-- the last value that was given for a field; a field without one is empty
abbrev pub field_value_of : List FieldValue → List ℕ → List ℕ
field_value_of values name = option_map_or (λ value. value.text) (find (λ value. bytes_eq value.name name) (reverse values)) []

abbrev pub field_text_of : List FieldValue → MessageField → List ℕ
field_text_of values (Source source) = fitted_value source.justify source.fill source.width (field_value_of values source.name)
field_text_of values (Literal text) = text

-- the texts of the MFLDs of a segment, joined
abbrev pub field_texts_of : List FieldValue → List MessageFieldLine → List ℕ
field_texts_of values [] = []
field_texts_of values (line ∷ lines) = field_text_of values line.content ++ field_texts_of values lines

-- the first value that is given for a name that is no field
abbrev pub unknown_field : List DeviceField → List FieldValue → Option (List ℕ)
unknown_field fields values = option_map (λ value. value.name) (find (λ value. not (has_field value.name fields)) values)

abbrev pub unless_unknown : Option (List ℕ) → List (List ℕ) → Result (List (List ℕ)) (List ℕ)
unless_unknown None segments = Ok segments
unless_unknown (Some name) segments = Err name

-- each SEG gives one segment; a value for a name that is no field is refused
unfoldable pub entered : FormatLines → List FieldValue → Result (List (List ℕ)) (List ℕ)
entered format values = unless_unknown (unknown_field format.fields values) (map (λ segment. field_texts_of values segment.fields) format.input)
