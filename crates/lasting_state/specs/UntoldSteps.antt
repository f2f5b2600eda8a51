-- Why nothing is told.
use Rattle.std.specs.Prelude.{⊤}
use Rattle.log_records.specs.declared.untold.Untold.{Untold}
use Rattle.log_records.specs.declared.untold.Untold.TheVariants.{Memory, Full}

-- Where there was no room this holds; there is no more to say of want of memory.
abbrev pub WhereFull : Type 0 → Untold → Type 0
WhereFull P Memory = ⊤
WhereFull P Full = P
