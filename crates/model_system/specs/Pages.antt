-- Pages.
use Rattle.std.specs.Prelude.{◌≡◌, ℕ, ◌==◌, List, length, IsTrue}
use Rattle.std.specs.List.{list_all}

-- a page has 24 rows of 80 bytes
pub record IsPage (rows : List (List ℕ)) : Type 0 where
  pub count : length rows ≡ 24
  pub widths : IsTrue (list_all (λ row. length row == 80) rows)
