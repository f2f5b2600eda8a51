-- The values of operands.
use Rattle.std.specs.Prelude.{ℕ, ◌+◌, ◌==◌, min, Bool, true, false, ◌&&◌, ◌||◌, not, List, [], ◌∷◌, ◌++◌, length, nat_le, codes, Option, Some, None, Result, Ok, Err, if◌then◌else◌}
use Rattle.std.specs.List.{list_any}
use Rattle.std.specs.Str.{bytes_eq}
use Rattle.text_rows.specs.Lists.{list_of, two_of, three_of}
use Rattle.text_rows.specs.LowestRule.{both, also}
use Rattle.text_rows.specs.Names.{name_of}
use Rattle.text_rows.specs.Numbers.{is_number, number_of, number_between}
use Rattle.model_system.specs.declared.code.SegmentKind.{SegmentKind}
use Rattle.model_system.specs.declared.code.SegmentKind.TheVariants.{Multiple, Single}

-- Rule 9: the words of MSGTYPE, SERIAL, MODIFY and PROCOPT.
unfoldable pub segment_kind_of : List ℕ → Result SegmentKind ℕ
segment_kind_of word = if bytes_eq word (codes "MULTSEG") then Ok Multiple else (if bytes_eq word (codes "SNGLSEG") then Ok Single else Err 9)

unfoldable pub response_of : List ℕ → Result (Unit {0}) ℕ
response_of word = if bytes_eq word (codes "NONRESPONSE") then Ok tt else Err 9

unfoldable pub serial_of : List ℕ → Result Bool ℕ
serial_of word = if bytes_eq word (codes "NO") then Ok false else if bytes_eq word (codes "YES") then Ok true else Err 9

-- PARENT: 0 alone is the root's, and no name
abbrev pub parent_name : Result (List ℕ) ℕ → Result (Option (List ℕ)) ℕ
parent_name (Ok name) = Ok (Some name)
parent_name (Err rule) = Err rule

unfoldable pub parent_of : List ℕ → Result (Option (List ℕ)) ℕ
parent_of text = if bytes_eq text (codes "0") then Ok None else parent_name (name_of text)

-- MODIFY: YES
unfoldable pub modify_of : List ℕ → Result (Unit {0}) ℕ
modify_of word = if bytes_eq word (codes "YES") then Ok tt else Err 9

-- one of the bytes is this letter
abbrev pub has_letter : ℕ → List ℕ → Bool
has_letter letter word = list_any (λ byte. byte == letter) word

-- G, I, R or D
abbrev pub is_option_letter : ℕ → Bool
is_option_letter byte = (byte == 71) || (byte == 73) || (byte == 82) || (byte == 68)

-- different ones of these letters
abbrev pub are_option_letters : List ℕ → Bool
are_option_letters [] = true
are_option_letters (byte ∷ bytes) = is_option_letter byte && not (has_letter byte bytes) && are_option_letters bytes

abbrev pub option_if : Bool → ℕ → ℕ
option_if allowed option = if allowed then option else 0

-- G, R and D allow to get, I to insert, R to replace and D to delete
unfoldable pub option_sum : List ℕ → ℕ
option_sum word =
    option_if (has_letter 71 word || has_letter 82 word || has_letter 68 word) 1 + option_if (has_letter 73 word) 2
    + option_if (has_letter 82 word) 4 + option_if (has_letter 68 word) 8

abbrev pub letter_options : List ℕ → Result ℕ ℕ
letter_options [] = Err 9
letter_options (byte ∷ bytes) = if are_option_letters (byte ∷ bytes) then Ok (option_sum (byte ∷ bytes)) else Err 9

-- PROCOPT: A is all four, else there are one or more different letters
unfoldable pub options_of : List ℕ → Result ℕ ℕ
options_of word = if bytes_eq word (codes "A") then Ok (1 + 2 + 4 + 8) else letter_options word

-- MSGTYPE: MULTSEG or SNGLSEG, NONRESPONSE, and a class of 1 to 255
abbrev pub message_type_in : Result (List ℕ × List ℕ × List ℕ) ℕ → Result (SegmentKind × ℕ) ℕ
message_type_in (Ok (kind, response, class)) = also (both (segment_kind_of kind) (number_between 1 255 class)) (response_of response)
message_type_in (Err rule) = Err rule

unfoldable pub message_type_of : List ℕ → Result (SegmentKind × ℕ) ℕ
message_type_of text = message_type_in (three_of text)

-- PRTY: the normal and the limit priority of 0 to 14, and the limit count of 1 to 65,535
abbrev pub priorities_in : Result (List ℕ × List ℕ × List ℕ) ℕ → Result (ℕ × (ℕ × ℕ)) ℕ
priorities_in (Ok (normal, limit, count)) = both (number_between 0 14 normal) (both (number_between 0 14 limit) (number_between 1 65535 count))
priorities_in (Err rule) = Err rule

unfoldable pub priorities_of : List ℕ → Result (ℕ × (ℕ × ℕ)) ℕ
priorities_of text = priorities_in (three_of text)

-- PROCLIM: a count of messages and a count of statements, each 1 to 65,535
abbrev pub limits_in : Result (List ℕ × List ℕ) ℕ → Result (ℕ × ℕ) ℕ
limits_in (Ok (count, statements)) = both (number_between 1 65535 count) (number_between 1 65535 statements)
limits_in (Err rule) = Err rule

unfoldable pub limits_of : List ℕ → Result (ℕ × ℕ) ℕ
limits_of text = limits_in (two_of text)

-- SPA: any number; above 65,535 it counts as 65,535. Which lengths a scratch pad may have is a rule among macros.
abbrev pub capped_pad : Result ℕ ℕ → Result ℕ ℕ
capped_pad (Ok number) = Ok number
capped_pad (Err rule) = if rule == 6 then Ok 65535 else Err rule

unfoldable pub pad_length_of : List ℕ → Result ℕ ℕ
pad_length_of text = if is_number text then Ok (min (number_of text) 65535) else Err 5

-- CLASS: 1 to 4 classes of 1 to 255
abbrev pub with_class : Result (ℕ × List ℕ) ℕ → Result (List ℕ) ℕ
with_class (Ok (class, classes)) = Ok (class ∷ classes)
with_class (Err rule) = Err rule

abbrev pub each_class : List (List ℕ) → Result (List ℕ) ℕ
each_class [] = Ok []
each_class (text ∷ texts) = with_class (both (number_between 1 255 text) (each_class texts))

abbrev pub classes_in : Result (List (List ℕ)) ℕ → Result (List ℕ) ℕ
classes_in (Ok texts) = if nat_le 1 (length texts) && nat_le (length texts) 4 then each_class texts else Err 8
classes_in (Err rule) = Err rule

unfoldable pub classes_of : List ℕ → Result (List ℕ) ℕ
classes_of text = classes_in (list_of text)

-- the classes with one more at the end
abbrev pub with_last_class : Result (List ℕ × ℕ) ℕ → Result (List ℕ) ℕ
with_last_class (Ok (classes, class)) = Ok (classes ++ class ∷ [])
with_last_class (Err rule) = Err rule
