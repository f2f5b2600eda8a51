-- The codes of a system have names of their own.
use Rattle.std.proofs.Common.{◌≡◌, ℕ, zero, suc, List, [], ◌∷◌, map, refl, sym, ◌∙◌, ap, Some}
use Rattle.std.specs.Prelude.{slice_get, position}
use Rattle.std.specs.Str.{bytes_eq}
use Rattle.std.proofs.lemmas.Option.{none-some, same_Some}
use Rattle.model_system.specs.declared.code.Code.{Code}
use Rattle.model_system.specs.System.{System}
use Rattle.system_types.specs.ValidSystem.{IsSystem}
use Rattle.checkpointing.specs.SnapshotRecords.{AreApart}
use Rattle.checkpointing.proofs.Named.{position_map}
use Rattle.model_image.specs.Snapshot.{code_names}

pub record Named (codes : List Code) (place : ℕ) (name : List ℕ) : Type 0 where
  pub code : Code
  pub found : slice_get codes place ≡ Some code
  pub is : code.transaction.code ≡ name

pub named : (codes : List Code) (place : ℕ) (name : List ℕ) → slice_get (map (λ code. code.transaction.code) codes) place ≡ Some name → Named codes place name
named [] place name found = absurd (none-some name found)
named (code ∷ codes) zero name found = record { code = code; found = refl; is = same_Some code.transaction.code name found }
named (code ∷ codes) (suc place) name found = let rest = named codes place name found in record { code = rest.code; found = rest.found; is = rest.is }

pub codes_apart : (system : System) → IsSystem system → AreApart (code_names system)
codes_apart system valid place name found =
    let at = named system.codes place name found in
    sym (position_map (λ (code : Code). code.transaction.code) name system.codes)
    ∙ ap (λ (n : List ℕ). position (λ (code : Code). bytes_eq code.transaction.code n) system.codes) (sym at.is)
    ∙ valid.apart place at.code at.found
