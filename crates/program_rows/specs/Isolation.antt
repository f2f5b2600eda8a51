-- What a call asks for before it is made, and what the work in a region may rely on while others end theirs.
use Rattle.std.specs.Prelude.{ℕ, ◌==◌, ◌&&◌, Bool, Option, List, map, IsTrue}
use Rattle.std.specs.List.{list_any}
use Rattle.tm_types.specs.declared.dbd.Dbd.{Dbd}
use Rattle.tm_types.specs.declared.resource.Resource.{Resource}
use Rattle.model_data.specs.declared.row.Row.{Row}
use Rattle.model_data.specs.declared.call.DbCall.{DbCall}
use Rattle.model_data.specs.declared.call.Position.{Position}
use Rattle.model_data.specs.declared.need.Need.{Need}
use Rattle.model_data.specs.Footprint.{footprint, AgreeAt}
use Rattle.model_data.specs.declared.request.Request.{Request}
use Rattle.model_data.specs.Modes.{same_resource}
use Rattle.model_data.specs.Table.{EnqueueTable}
use Rattle.program_rows.specs.DatabasesState.{DatabasesState, database_rows_in, rows_numbered}

-- what a region asks for to have what is needed of the database of this number
abbrev pub request_of : ℕ → ℕ → Need → Request
request_of region number need = record { region = region; resource = record { db = number; root = need.root }; mode = need.mode }

-- what a call of a region on the database of this number asks for, on the rows that the region sees
abbrev pub requests_of_call : ℕ → ℕ → Dbd → DbCall → Position → DatabasesState → List Request
requests_of_call region number dbd call at databases =
    map (request_of region number) (footprint dbd call at (rows_numbered region number databases))

-- the region holds the resource, in whatever mode
abbrev pub region_holds : EnqueueTable → ℕ → Resource → Bool
region_holds table region resource = list_any (λ hold. same_resource hold.0.resource resource && (hold.0.region == region)) table.holds

-- In two states of the rows all that a region holds is the same: each record, and where it holds the sequence
-- of a database, the roots.
abbrev pub AgreeOnHeld : EnqueueTable → ℕ → List (List Row) → List (List Row) → Type 0
AgreeOnHeld table region before after =
    (number : ℕ) (root : Option (List ℕ)) → IsTrue (region_holds table region (record { db = number; root = root }))
    → AgreeAt root (database_rows_in number before) (database_rows_in number after)
