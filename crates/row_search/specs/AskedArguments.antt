-- The arguments of a call, looked up among the types of its database once.
use Rattle.std.specs.Prelude.{◌≡◌, ℕ, ◌≤◌, ◌==◌, ◌&&◌, Bool, true, false, List, Option, None, Some, length, map, min, take}
use Rattle.std.specs.List.{list_any}
use Rattle.std.specs.Option.{option_map}
use Rattle.std.specs.Ordering.{is_eq, is_ge}
use Rattle.tm_types.specs.declared.dbd.SegType.{SegType}
use Rattle.tm_types.specs.declared.ssa.Ssa.{Ssa}
use Rattle.tm_types.specs.declared.ssa.KeyTest.{KeyTest}
use Rattle.tm_types.specs.declared.ssa.KeyTest.TheVariants as test
use Rattle.tm_types.specs.SegTypes.{type_at}
use Rattle.model_data.specs.Path.{key_cmp}
use Rattle.model_data.specs.Search.{fitted_key, number_named, asked_number}
use Rattle.row_search.specs.declared.asked.AskedKey.{AskedKey}
use Rattle.row_search.specs.declared.asked.AskedKey.TheVariants.{Any, Equal, AtLeast}
use Rattle.row_search.specs.declared.asked.AskedSegment.{AskedSegment}

-- what is asked of a key of n bytes
abbrev pub asked_key : ℕ → KeyTest → AskedKey
asked_key n test.Any = Any
asked_key n (test.Equal x) = Equal (fitted_key n x)
asked_key n (test.AtLeast x) = AtLeast (fitted_key n x)

-- what is asked of a segment of the type with this number
abbrev pub asked_segment : ℕ → KeyTest → SegType → AskedSegment
asked_segment number asks segment = record { number = number; key = asked_key segment.key asks }

-- what an argument asks of a segment, if it names a type
abbrev pub looked_up : List SegType → Ssa → Option AskedSegment
looked_up types ssa = option_map (asked_segment (number_named types ssa.segment) ssa.test) (type_at types (number_named types ssa.segment))

-- whether a key is as asked
abbrev pub is_as_asked : AskedKey → List ℕ → Bool
is_as_asked Any key = true
is_as_asked (Equal x) key = is_eq (key_cmp key x)
is_as_asked (AtLeast x) key = is_ge (key_cmp key x)

-- whether the segment of this path, or one above it, meets what is asked
abbrev pub is_met : Option AskedSegment → List (ℕ × List ℕ) → Bool
is_met None path = false
is_met (Some asked) path = list_any (λ p. (p.0 == asked.number) && is_as_asked asked.key p.1) path

-- the number of the type that the last argument names, and what the first ones ask
pub record AreLookedUp (types : List SegType) (ssas : List Ssa) (last : ℕ) (first : List (Option AskedSegment)) : Type 0 where
  pub few_types : length types ≤ 255
  pub last_named : last ≡ asked_number types ssas
  pub each : take (min (length ssas) 8) first ≡ map (looked_up types) (take (min (length ssas) 8) ssas)
