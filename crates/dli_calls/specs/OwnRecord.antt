-- The calls that look at one record alone.
use Rattle.std.specs.Prelude.{◌≡◌, ℕ, List, Option, None, Some, if◌then◌else◌, IfSome, OnSome}
use Rattle.std.specs.Option.{option_map, option_map_or}
use Rattle.tm_types.specs.declared.dbd.Dbd.{Dbd}
use Rattle.tm_types.specs.declared.dbd.SegType.{SegType}
use Rattle.tm_types.specs.declared.ssa.Ssa.{Ssa}
use Rattle.tm_types.specs.declared.function.Function.{Function}
use Rattle.tm_types.specs.declared.function.Function.TheVariants.{GNP, GHNP, ISRT, REPL, DLET}
use Rattle.model_data.specs.declared.row.Row.{Row}
use Rattle.model_data.specs.declared.call.DbCall.{DbCall}
use Rattle.model_data.specs.declared.call.Position.{Position}
use Rattle.model_data.specs.declared.call.Reach.{Reach}
use Rattle.model_data.specs.declared.call.Reach.TheVariants.{Start, Next, Parent}
use Rattle.model_data.specs.Path.{root_of}
use Rattle.model_data.specs.Rows.{record_of, AreRows}
use Rattle.model_data.specs.GetCalls.{row_reached}
use Rattle.model_data.specs.ChangeCalls.{insert_path, keeps_key}

-- those besides GU and GN, with hold or without
abbrev pub LooksAtOne : Function → Type 0
LooksAtOne GNP = Unit {0}
LooksAtOne GHNP = Unit {0}
LooksAtOne ISRT = Unit {0}
LooksAtOne REPL = Unit {0}
LooksAtOne DLET = Unit {0}
LooksAtOne _ = ⊥

-- GU and GN, with hold or without, which go along the records
abbrev pub GoesAlong : Reach → Type 0
GoesAlong Start = Unit {0}
GoesAlong Next = Unit {0}
GoesAlong Parent = ⊥

-- a REPL whose data has another key looks at no record
abbrev pub replaced_root : List SegType → List ℕ → List (ℕ × List ℕ) → Option (List ℕ)
replaced_root types area held = if keeps_key types held area then Some (root_of held) else None

-- the root of the record at which a call looks, if it looks at one: that of the parentage, of the new
-- segment, or of the segment that was got with hold
abbrev pub own_root : Function → List SegType → DbCall → Position → Option (List ℕ)
own_root GNP types call at = option_map root_of at.parentage
own_root GHNP types call at = option_map root_of at.parentage
own_root ISRT types call at = Some (root_of (insert_path types call.ssas call.area))
own_root REPL types call at = option_map_or (replaced_root types call.area) at.hold None
own_root DLET types call at = option_map root_of at.hold
own_root _ types call at = None

-- where there is a root whose record is to be looked at, these are rows of a database, and have this
-- record at the root
pub record IsRecordFor (dbd : Dbd) (root : Option (List ℕ)) (seen rows : List Row) : Type 0 where
  pub valid : OnSome root (AreRows dbd rows)
  pub own : IfSome root (λ key. record_of key rows ≡ seen)

-- rows in which a get reaches this row, or none; where it reaches one, they are rows of a database
pub record IsReachedIn (dbd : Dbd) (reach : Reach) (ssas : List Ssa) (at : Position) (found : Option Row) (rows : List Row) : Type 0 where
  pub valid : OnSome found (AreRows dbd rows)
  pub reached : found ≡ row_reached reach dbd.types ssas at rows
