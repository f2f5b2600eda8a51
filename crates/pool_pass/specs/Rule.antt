-- The rule of a pool's table: what is always true of the views of its seats, and what each of the five kinds of step makes of them.
-- A view has the number of passes, how many of them it is still to make, the book where it has it, and the numbers that stand in it, each with its list: its own first, and then those that it keeps for passes that were joined into it.
use Rattle.std.specs.Prelude.{◌≡◌, ◌⊎◌, ℕ, ◌+◌, ◌-◌, ◌<◌, ◌≤◌, List, [], ◌∷◌, ◌++◌, cond, is_some, Option, None, Some, length}
use Rattle.std.specs.List.{All}
use mathlib.Core.Option.{some}
use lib.ListN.{get_elem?}
use Rattle.pool_pass.specs.Book.{under, tagged, times}
use Rattle.pool_pass.specs.declared.views.View.{View}

module _ {I : Type 0} where
  -- a spent view has nothing
  abbrev pub spent : View I
  spent = record { passes = 0; to_make = 0; book = None; kept = [] }

  abbrev pub has_book : View I → ℕ
  has_book view = cond (is_some view.book) 1 0

  -- what the views have together of something that is counted in each
  abbrev pub in_all : (View I → ℕ) → List (View I) → ℕ
  in_all count [] = 0
  in_all count (view ∷ views) = count view + in_all count views

  -- One view, where `made` of the passes were made and the book is `whole`. Unless it is spent, the number of passes stands in it. Only who has the book makes passes, and it makes all that are left. Each list in it is that of the book's items of its number.
  pub record Fits (passes made : ℕ) (whole : List (ℕ × I)) (view : View I) : Type 0 where
    pub count : (view ≡ spent) ⊎ (view.passes ≡ passes)
    pub book : (view.book ≡ None) ⊎ (view.book ≡ Some whole)
    pub to_make : (view.to_make ≡ 0) ⊎ ((made + view.to_make ≡ passes) × (view.book ≡ Some whole))
    pub lists : All (λ entry. entry.1 ≡ under entry.0 whole) view.kept

  -- The rule. Just one view has the book. Each number whose pass was made stands in just one view, once; no other number stands in a view or in the book.
  pub record IsKept (passes : ℕ) (views : List (View I)) : Type 0 where
    pub made : ℕ
    pub whole : List (ℕ × I)
    pub few : made ≤ passes
    pub one_book : in_all has_book views ≡ 1
    pub one_place : (number : ℕ) → number < made → in_all (λ view. times number view.kept) views ≡ 1
    pub no_place : (number : ℕ) → made ≤ number → (in_all (λ view. times number view.kept) views ≡ 0) × (under number whole ≡ [])
    pub each : (seat : ℕ) (view : View I) → get_elem? views seat ≡ some view → Fits passes made whole view

  -- the first view: pass 0, which has an empty book and is to make the others
  abbrev pub maker : ℕ → View I
  maker passes = record { passes = passes; to_make = passes - 1; book = Some []; kept = (0, []) ∷ [] }

  -- 1. The maker makes a pass, and has one less left to make. The new pass has the next number and an empty list.
  abbrev pub after_making : View I → View I
  after_making view = record view { to_make = view.to_make - 1 }

  abbrev pub next_pass : View I → View I
  next_pass view = record { passes = view.passes; to_make = 0; book = None; kept = (view.passes - view.to_make, []) ∷ [] }

  -- 2. and 5. A view takes in another: the book joins the pass that has the lock, or an ended pass joins another, which keeps its lists. The other view is spent.
  abbrev pub taking_in : View I → View I → View I
  taking_in view other = record view { book = other.book; kept = view.kept ++ other.kept }

  -- 3. The pass that has the book puts items under its own number, at the end of the book and of its own list.
  abbrev pub own_number : List (ℕ × List I) → ℕ
  own_number [] = 0
  own_number (own ∷ kept) = own.0

  abbrev pub lengthened : List I → List (ℕ × List I) → List (ℕ × List I)
  lengthened added [] = []
  lengthened added (own ∷ kept) = (own.0, own.1 ++ added) ∷ kept

  abbrev pub noted : List (ℕ × I) → Option (List (ℕ × I)) → Option (List (ℕ × I))
  noted entries None = None
  noted entries (Some book) = Some (book ++ entries)

  abbrev pub written : List I → View I → View I
  written added view = record view { book = noted (tagged (own_number view.kept) added) view.book; kept = lengthened added view.kept }

  -- 4. The pass that has the book, and none to make, gives it to a seat of its own.
  abbrev pub without_book : View I → View I
  without_book view = record view { book = None }

  abbrev pub book_alone : View I → View I
  book_alone view = record view { kept = [] }

  -- What a step of the third kind tells. Each list is that of the book's items of its number, and where the view keeps as many numbers as there are passes, the book has no items but theirs.
  pub record Tells (view : View I) : Type 0 where
    pub whole : List (ℕ × I)
    pub book : view.book ≡ Some whole
    pub lists : All (λ entry. entry.1 ≡ under entry.0 whole) view.kept
    pub others : length view.kept ≡ view.passes → (number : ℕ) → times number view.kept ≡ 0 → under number whole ≡ []
