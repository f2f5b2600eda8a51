-- When a record isn't touched.
use Rattle.std.specs.Prelude.{◌≡◌, ℕ, List, IsTrue}
use Rattle.unit_work.specs.declared.change.Change.{Change}
use Rattle.unit_work.specs.declared.unit.TouchRefused.{TouchRefused}
use Rattle.unit_work.specs.declared.unit.TouchRefused.TheVariants.{TooMany, Memory}
use Rattle.unit_work.specs.Changes.{is_full}

-- one record more than a unit may change, or want of memory
abbrev pub RefusesTouch : ℕ → List ℕ → List Change → TouchRefused → Type 0
RefusesTouch db root records (TooMany n) = (n ≡ 33) × IsTrue (is_full db root records)
RefusesTouch db root records Memory = Unit {0}
