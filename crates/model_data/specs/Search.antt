-- Which rows a call asks for.
use Rattle.std.specs.Prelude.{ℕ, ◌+◌, ◌==◌, nat_eq, nat_lt, Bool, true, false, ◌&&◌, List, [], ◌∷◌, ◌++◌, Option, None, Some, length, take, replicate, find, position, is_some}
use Rattle.std.specs.List.{list_any, list_all, starts_with}
use Rattle.std.specs.Option.{option_map_or}
use Rattle.std.specs.Ordering.{is_lt, is_eq, is_ge}
use Rattle.std.specs.Cmp.Lexicographic.{pointwise}
use Rattle.tm_types.specs.declared.dbd.SegType.{SegType}
use Rattle.tm_types.specs.declared.ssa.Ssa.{Ssa}
use Rattle.tm_types.specs.declared.ssa.KeyTest.{KeyTest}
use Rattle.tm_types.specs.declared.ssa.KeyTest.TheVariants.{Any, Equal, AtLeast}
use Rattle.tm_types.specs.SegTypes.{type_at}
use Rattle.model_data.specs.declared.row.Row.{Row}
use Rattle.model_data.specs.Path.{key_cmp, path_cmp, end_type}

-- bytes that a program gives, padded with blanks on the right or cut
abbrev pub fitted_key : ℕ → List ℕ → List ℕ
fitted_key n bytes = take n (bytes ++ replicate n 32)

-- the place of the type with this name
abbrev pub place_named : List SegType → List ℕ → Option ℕ
place_named types name = position (λ s. pointwise nat_eq s.name name) types

-- the number of the type with this name, counted from 1; 0 where there is none
abbrev pub number_named : List SegType → List ℕ → ℕ
number_named types name = option_map_or (λ place. place + 1) (place_named types name) 0

-- how many bytes a key of this type has
abbrev pub key_length : List SegType → ℕ → ℕ
key_length types number = option_map_or (λ s. s.key) (type_at types number) 0

-- how many bytes the data of this type has
abbrev pub data_length : List SegType → ℕ → ℕ
data_length types number = option_map_or (λ s. s.bytes) (type_at types number) 0

-- whether a key of n bytes meets what is asked of it
abbrev pub meets : KeyTest → ℕ → List ℕ → Bool
meets Any n key = true
meets (Equal x) n key = is_eq (key_cmp key (fitted_key n x))
meets (AtLeast x) n key = is_ge (key_cmp key (fitted_key n x))

-- whether the segment of this path, or the one of this type above it, meets what is asked
abbrev pub meets_at : KeyTest → ℕ → SegType → List (ℕ × List ℕ) → Bool
meets_at test number s path = list_any (λ p. (p.0 == number) && meets test s.key p.1) path

-- whether the segment of this path, or one above it, meets the argument; none meets an argument
-- that names no type
abbrev pub meets_ssa : List SegType → Ssa → List (ℕ × List ℕ) → Bool
meets_ssa types ssa path =
    option_map_or (λ s. meets_at ssa.test (number_named types ssa.segment) s path) (type_at types (number_named types ssa.segment)) false

-- the type that the last argument names
abbrev pub asked_number : List SegType → List Ssa → ℕ
asked_number types [] = 0
asked_number types (ssa ∷ []) = number_named types ssa.segment
asked_number types (ssa ∷ next ∷ ssas) = asked_number types (next ∷ ssas)

-- whether a segment fits the arguments: it has the type of the last one, and meets each; without
-- arguments each segment fits
abbrev pub fits : List SegType → List Ssa → List (ℕ × List ℕ) → Bool
fits types [] path = true
fits types (ssa ∷ ssas) path =
    (end_type path == asked_number types (ssa ∷ ssas)) && list_all (λ s. meets_ssa types s path) (ssa ∷ ssas)

-- whether a segment stands after a place; without a place each one does
abbrev pub is_after : Option (List (ℕ × List ℕ)) → List (ℕ × List ℕ) → Bool
is_after None path = true
is_after (Some place) path = is_lt (path_cmp place path)

abbrev pub pair_eq : ℕ × List ℕ → ℕ × List ℕ → Bool
pair_eq p q = nat_eq p.0 q.0 && pointwise nat_eq p.1 q.1

-- whether a path is this one, or goes on from it
abbrev pub is_within : List (ℕ × List ℕ) → List (ℕ × List ℕ) → Bool
is_within above path = starts_with pair_eq path above

-- whether a path goes on from this one
abbrev pub is_path_below : List (ℕ × List ℕ) → List (ℕ × List ℕ) → Bool
is_path_below above path = is_within above path && nat_lt (length above) (length path)

-- the row with this path
abbrev pub row_at : List (ℕ × List ℕ) → List Row → Option Row
row_at path rows = find (λ row. is_eq (path_cmp path row.path)) rows

-- whether there is a row with this path
abbrev pub is_row_there : List (ℕ × List ℕ) → List Row → Bool
is_row_there path rows = is_some (row_at path rows)

-- the first row after the place that fits
abbrev pub first_after : List SegType → List Ssa → Option (List (ℕ × List ℕ)) → List Row → Option Row
first_after types ssas place rows = find (λ row. is_after place row.path && fits types ssas row.path) rows

-- the first row after the place, and after this parent, that is below the parent and fits
abbrev pub first_below : List SegType → List Ssa → Option (List (ℕ × List ℕ)) → List (ℕ × List ℕ) → List Row → Option Row
first_below types ssas place parent rows =
    find (λ row. is_after place row.path && is_after (Some parent) row.path && is_path_below parent row.path && fits types ssas row.path) rows
