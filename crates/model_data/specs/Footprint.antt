-- What a database call needs before it is made: its footprint. These are the records that it looks at
-- or changes, and where it looks for a root, or adds or removes one, the sequence of the roots. What a
-- call answers and changes depends on nothing else of the rows.
use Rattle.std.specs.Prelude.{◌≡◌, ℕ, ◌==◌, Bool, false, not, ◌⊎◌, List, [], ◌∷◌, Option, None, Some, if◌then◌else◌, length, map, filter}
use Rattle.std.specs.List.{AllByRecursion}
use Rattle.std.specs.Option.{option_map_or}
use Rattle.std.specs.Ordering.{is_lt, is_eq}
use Rattle.tm_types.specs.declared.dbd.Dbd.{Dbd}
use Rattle.tm_types.specs.declared.dbd.SegType.{SegType}
use Rattle.tm_types.specs.declared.function.Function.{Function}
use Rattle.tm_types.specs.declared.function.Function.TheVariants.{GU, GN, GNP, GHU, GHN, GHNP, ISRT, REPL, DLET, PURG, CHNG, ROLB, ROLL}
use Rattle.tm_types.specs.declared.resource.Mode.{Mode}
use Rattle.tm_types.specs.declared.resource.Mode.TheVariants.{Shared, Exclusive}
use Rattle.model_data.specs.declared.row.Row.{Row}
use Rattle.model_data.specs.Path.{key_cmp, root_of}
use Rattle.model_data.specs.Rows.{record_of, roots}
use Rattle.model_data.specs.declared.call.DbCall.{DbCall}
use Rattle.model_data.specs.declared.call.Position.{Position}
use Rattle.model_data.specs.declared.need.Need.{Need}
use Rattle.model_data.specs.Search.{first_after}
use Rattle.model_data.specs.GetCalls.{asked_root}
use Rattle.model_data.specs.ChangeCalls.{insert_path, keeps_key}
use Rattle.model_data.specs.DatabaseCalls.{is_call_allowed}

abbrev pub record_need : Mode → List ℕ → Need
record_need mode root = record { root = Some root; mode = mode }

abbrev pub sequence_need : Mode → Need
sequence_need mode = record { root = None; mode = mode }

-- these roots up to that of the row that a get reaches; all of them where it reaches none
abbrev pub up_to : Option Row → List (List ℕ) → List (List ℕ)
up_to None keys = keys
up_to (Some row) keys = filter (λ key. not (is_lt (key_cmp (root_of row.path) key))) keys

-- these roots behind one
abbrev pub roots_behind : List ℕ → List (List ℕ) → List (List ℕ)
roots_behind root keys = filter (λ key. is_lt (key_cmp root key)) keys

-- whether the row that a get reaches is in the record of this root
abbrev pub has_reached : List ℕ → Option Row → Bool
has_reached root None = false
has_reached root (Some row) = is_eq (key_cmp root (root_of row.path))

-- a get that goes along these roots: the sequence, shared, and each record up to that of the row
abbrev pub along : Mode → Option Row → List (List ℕ) → List Need
along mode reached keys = sequence_need Shared ∷ map (record_need mode) (up_to reached keys)

-- a get that goes on from a place: its record, and where that doesn't have the row, those behind it;
-- without a place, all records from the first
abbrev pub onward : Mode → Option (List (ℕ × List ℕ)) → Option Row → List (List ℕ) → List Need
onward mode None reached keys = along mode reached keys
onward mode (Some place) reached keys =
    record_need mode (root_of place)
    ∷ (if has_reached (root_of place) reached then [] else along mode reached (roots_behind (root_of place) keys))

-- GU and GN, the first row after a place that fits: where the first argument asks for one root by its
-- key, that record alone
abbrev pub search_needs : Mode → Dbd → DbCall → Option (List (ℕ × List ℕ)) → List Row → List Need
search_needs mode dbd call place rows =
    option_map_or
    (λ root. record_need mode root ∷ [])
    (asked_root dbd.types call.ssas)
    (onward mode place (first_after dbd.types call.ssas place rows) (roots rows))

-- GNP: the record of the parentage
abbrev pub parent_needs : Mode → Position → List Need
parent_needs mode at = option_map_or (λ parent. record_need mode (root_of parent) ∷ []) at.parentage []

-- ISRT: the record of the new segment; before it, where that is a root, the sequence
abbrev pub insert_needs : List (ℕ × List ℕ) → List Need
insert_needs path =
    if length path == 1 then sequence_need Exclusive ∷ record_need Exclusive (root_of path) ∷ []
    else record_need Exclusive (root_of path) ∷ []

-- REPL: the record of the segment that was got with hold, unless the data has another key
abbrev pub replace_needs : List SegType → List ℕ → List (ℕ × List ℕ) → List Need
replace_needs types area held = if keeps_key types held area then record_need Exclusive (root_of held) ∷ [] else []

-- DLET: the record of the segment that was got with hold; behind it, where that is a root, the sequence
abbrev pub delete_needs : List (ℕ × List ℕ) → List Need
delete_needs held =
    record_need Exclusive (root_of held) ∷ (if length held == 1 then sequence_need Exclusive ∷ [] else [])

-- an allowed call: a get shares its records, and with hold has them alone
abbrev pub allowed_needs : Function → Dbd → DbCall → Position → List Row → List Need
allowed_needs GU dbd call at rows = search_needs Shared dbd call None rows
allowed_needs GN dbd call at rows = search_needs Shared dbd call at.position rows
allowed_needs GNP dbd call at rows = parent_needs Shared at
allowed_needs GHU dbd call at rows = search_needs Exclusive dbd call None rows
allowed_needs GHN dbd call at rows = search_needs Exclusive dbd call at.position rows
allowed_needs GHNP dbd call at rows = parent_needs Exclusive at
allowed_needs ISRT dbd call at rows = insert_needs (insert_path dbd.types call.ssas call.area)
allowed_needs REPL dbd call at rows = option_map_or (replace_needs dbd.types call.area) at.hold []
allowed_needs DLET dbd call at rows = option_map_or delete_needs at.hold []
allowed_needs PURG dbd call at rows = []
allowed_needs CHNG dbd call at rows = []
allowed_needs ROLB dbd call at rows = []
allowed_needs ROLL dbd call at rows = []

-- what a call needs, in the order in which it asks; a call that isn't allowed needs nothing
abbrev pub footprint : Dbd → DbCall → Position → List Row → List Need
footprint dbd call at rows =
    if is_call_allowed call.function call.options then allowed_needs call.function dbd call at rows else []

-- two lists of rows have the same record of this root; without one, the same roots
abbrev pub AgreeAt : Option (List ℕ) → List Row → List Row → Type 0
AgreeAt (Some root) a b = record_of root a ≡ record_of root b
AgreeAt None a b = roots a ≡ roots b

-- two lists of rows agree on what is needed
abbrev pub AgreeOn : List Need → List Row → List Row → Type 0
AgreeOn needs a b = AllByRecursion (λ need. AgreeAt need.root a b) needs

-- a need is one of these
abbrev pub IsNeeded : Need → List Need → Type 0
IsNeeded need [] = ⊥
IsNeeded need (first ∷ needs) = (first ≡ need) ⊎ IsNeeded need needs

-- the needs up to the first that is blocked, itself included; all of them where none is
abbrev pub up_to_blocked : (Need → Bool) → List Need → List Need
up_to_blocked blocked [] = []
up_to_blocked blocked (need ∷ needs) = need ∷ (if blocked need then [] else up_to_blocked blocked needs)

-- two lists of rows agree on all that isn't blocked
abbrev pub AgreeUnblocked : (Need → Bool) → List Need → List Row → List Row → Type 0
AgreeUnblocked blocked needs a b = AllByRecursion (λ need. blocked need ≡ false → AgreeAt need.root a b) needs
