-- The path of the last row, by its place.
use Rattle.std.proofs.Common.{◌≡◌, ℕ, ◌+◌, ◌∷◌, [], List, length, get_or, zero, suc, refl, arith}
use Rattle.model_data.specs.declared.row.Row.{Row}
use Rattle.model_data.specs.RowsOfBytes.{last_path}

pub last_path_at : (rows : List Row) (i : ℕ) (d : Row) → i + 1 ≡ length rows → last_path rows ≡ (get_or rows i d).path
last_path_at [] i d e = absurd (omega arith)
last_path_at (r ∷ []) zero d e = refl
last_path_at (r ∷ []) (suc i) d e = absurd (omega arith)
last_path_at (r ∷ q ∷ rows) zero d e = absurd (omega arith)
last_path_at (r ∷ q ∷ rows) (suc i) d e = last_path_at (q ∷ rows) i d (omega arith)
