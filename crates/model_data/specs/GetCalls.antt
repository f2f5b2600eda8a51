-- The gets: GU, GN and GNP, and the same with hold.
use Rattle.std.specs.Prelude.{ℕ, ◌==◌, nat_lt, Bool, not, ◌&&◌, List, [], ◌∷◌, Option, None, Some, if◌then◌else◌, length}
use Rattle.std.specs.Option.{option_map, option_map_or}
use Rattle.tm_types.specs.declared.dbd.SegType.{SegType}
use Rattle.tm_types.specs.declared.ssa.Ssa.{Ssa}
use Rattle.tm_types.specs.declared.ssa.KeyTest.{KeyTest}
use Rattle.tm_types.specs.declared.ssa.KeyTest.TheVariants.{Any, Equal, AtLeast}
use Rattle.tm_types.specs.declared.status.Status.{Status}
use Rattle.tm_types.specs.declared.status.Status.TheVariants.{Blank, GE, GB, GP, GA, GK}
use Rattle.tm_types.specs.SegTypes.{type_at}
use Rattle.model_data.specs.declared.row.Row.{Row}
use Rattle.model_data.specs.Path.{end_type}
use Rattle.model_data.specs.declared.call.Position.{Position}
use Rattle.model_data.specs.declared.call.Reach.{Reach}
use Rattle.model_data.specs.declared.call.Reach.TheVariants.{Start, Next, Parent}
use Rattle.model_data.specs.Search.{fitted_key, number_named, is_row_there, first_after, first_below}

-- the key of the root for which an argument on the root's type asks by `=`
abbrev pub key_asked : List SegType → KeyTest → Option (List ℕ)
key_asked types Any = None
key_asked types (Equal x) = option_map (λ s. fitted_key s.key x) (type_at types 1)
key_asked types (AtLeast x) = None

-- the key of the one root for which the first argument asks, if it does
abbrev pub asked_root : List SegType → List Ssa → Option (List ℕ)
asked_root types [] = None
asked_root types (ssa ∷ ssas) = if number_named types ssa.segment == 1 then key_asked types ssa.test else None

-- the row that a get reaches: from the start, after the position, or also below the parent, which
-- has to be there
abbrev pub row_reached : Reach → List SegType → List Ssa → Position → List Row → Option Row
row_reached Start types ssas at rows = first_after types ssas None rows
row_reached Next types ssas at rows = first_after types ssas at.position rows
row_reached Parent types ssas at rows =
    option_map_or (λ parent. if is_row_there parent rows then first_below types ssas at.position parent rows else None) at.parentage None

-- the status of a get that reaches no row. GN by a root's key has looked at that record alone; any
-- other GN has come to the end of the database.
abbrev pub missed_status : Reach → List SegType → List Ssa → Position → List Row → Status
missed_status Start types ssas at rows = GE
missed_status Next types ssas at rows = option_map_or (λ root. GE) (asked_root types ssas) GB
missed_status Parent types ssas at rows =
    option_map_or (λ parent. if is_row_there parent rows then GE else GP) at.parentage GP

-- the status of a GN or GNP without arguments that came from a position: GA where it went up to a
-- higher level, GK where it went to another type of the same level
abbrev pub level_status : List (ℕ × List ℕ) → List (ℕ × List ℕ) → Status
level_status from path =
    if nat_lt (length path) (length from) then GA
    else (if (length path == length from) && not (end_type path == end_type from) then GK else Blank)

abbrev pub moved_status : List Ssa → Option (List (ℕ × List ℕ)) → List (ℕ × List ℕ) → Status
moved_status [] (Some from) path = level_status from path
moved_status [] None path = Blank
moved_status (ssa ∷ ssas) from path = Blank

-- the status of a get that reaches a row of this path
abbrev pub reached_status : Reach → List Ssa → Position → List (ℕ × List ℕ) → Status
reached_status Start ssas at path = Blank
reached_status Next ssas at path = moved_status ssas at.position path
reached_status Parent ssas at path = moved_status ssas at.position path

-- where the PCB stands after a get has reached a row of this path: GNP keeps the parentage, and
-- only a get with hold sets the hold
abbrev pub parentage_at : Reach → Position → List (ℕ × List ℕ) → Option (List (ℕ × List ℕ))
parentage_at Start at path = Some path
parentage_at Next at path = Some path
parentage_at Parent at path = at.parentage

abbrev pub position_at : Reach → Bool → Position → List (ℕ × List ℕ) → Position
position_at reach hold at path =
    record {
      position = Some path;
      parentage = parentage_at reach at path;
      hold = if hold then Some path else None;
    }

-- where the PCB stands after a get has failed: all but GNP lose the parentage
abbrev pub position_failed : Reach → Position → Position
position_failed Start at = record at { parentage = None; hold = None }
position_failed Next at = record at { parentage = None; hold = None }
position_failed Parent at = record at { hold = None }

-- GB, the end of the database, also loses the position
abbrev pub position_missed : Reach → Status → Position → Position
position_missed reach GB at = record (position_failed reach at) { position = None }
position_missed reach _ at = position_failed reach at
