-- The changes of open units that a snapshot tells of.
use Rattle.std.specs.Prelude.{◌≡◌, true, List}
use Rattle.std.specs.List.{list_all, AllByRecursion}
use Rattle.model_system.specs.System.{System}
use Rattle.log_records.specs.declared.record.Record.{Record}
use Rattle.log_records.specs.declared.record.Record.TheVariants.{Change}
use Rattle.model_image.specs.Slots.{is_image_of}
use Rattle.model_image.specs.Snapshot.{ascend}

abbrev pub IsChange : Record → Type 0
IsChange (Change unit database slot before after) = Unit {0}
IsChange _ = ⊥

-- They stand by unit, database and slot, each once. Each is of a slot that the system has, and both images are those of a
-- record or of none.
pub record AreChanges (system : System) (changes : List Record) : Type 0 where
  pub each : AllByRecursion IsChange changes
  pub ascending : ascend changes ≡ true
  pub images : list_all (is_image_of system) changes ≡ true
