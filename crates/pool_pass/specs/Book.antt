-- The book of a pool: all items of its value in their order, each with the number of the pass that added it.
use Rattle.std.specs.Prelude.{ℕ, ◌+◌, List, [], ◌∷◌, map, cond, ◌==◌}

module _ {I : Type 0} where
  -- the items without their numbers: the list of the value
  abbrev pub items_of : List (ℕ × I) → List I
  items_of book = map (λ entry. entry.1) book

  -- the items of one number, in their order
  abbrev pub under : ℕ → List (ℕ × I) → List I
  under number [] = []
  under number (entry ∷ book) = cond (entry.0 == number) (entry.1 ∷ under number book) (under number book)

  -- items with one number before each
  abbrev pub tagged : ℕ → List I → List (ℕ × I)
  tagged number items = map (λ item. (number, item)) items

  -- how often a number stands in a list of numbers, each with its list
  abbrev pub times : ℕ → List (ℕ × List I) → ℕ
  times number [] = 0
  times number (entry ∷ kept) = cond (entry.0 == number) 1 0 + times number kept
