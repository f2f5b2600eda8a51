-- What callers see of a pass, and what is promised of a turn and of the whole.
use Rattle.std.specs.Prelude.{◌≡◌, ℕ, zero, suc, ◌-◌, List, [], ◌∷◌, ◌++◌, Option, Some, None, true, false}
use Rattle.std.specs.List.{All, FoldsTo}
use denote.Ref.{MutBor}
use Rattle.std.specs.Fn.{Mut, Takes}
use mathlib.Core.Bool.{Bool}
use Rattle.atomic_table.specs.Seated.{TableId}
use Rattle.pool_pass.specs.Book.{items_of, under, times}
use Rattle.pool_pass.specs.declared.views.View.{View}

-- the name of no table
abbrev pub no_table : TableId
no_table = record { words = 0; slots = 0; views_name = 0; atom = 0; block = 0; offset = 0; slot_names = [] }

-- A pass of a pool: how many passes the pool has, this one's number, what was added in its turns, and the numbers that were joined into it, each with its list.
pub record PassState (I : Type 0) : Type 0 where
  pub passes : ℕ
  pub number : ℕ
  pub list : List I
  pub joined : List (ℕ × List I)

-- A new pool: which table it has, and its passes.
pub record NewPoolState (I : Type 0) : Type 0 where
  pub table : TableId
  pub passes : List (PassState I)

module _ {I : Type 0} where
  -- the numbers that a pass keeps, each with its list: its own first
  abbrev pub kept : PassState I → List (ℕ × List I)
  kept pass = (pass.number, pass.list) ∷ pass.joined

  -- the passes from a number on, whose lists are empty
  abbrev pub passes_from : ℕ → ℕ → ℕ → List (PassState I)
  passes_from passes number zero = []
  passes_from passes number (suc more) = record { passes = passes; number = number; list = []; joined = [] } ∷ passes_from passes (suc number) more

  -- the passes of a new pool: pass k has the number k; the list of pass 0 is the value's, and the others are empty
  abbrev pub new_passes : ℕ → List I → List (PassState I)
  new_passes passes first = record { passes = passes; number = 0; list = first; joined = [] } ∷ passes_from passes 1 (passes - 1)

  -- the same pass, which keeps another as well
  abbrev pub with_joined : PassState I → PassState I → PassState I
  with_joined pass other = record pass { joined = pass.joined ++ kept other }

  -- the same pass with another list
  abbrev pub with_list : PassState I → List I → PassState I
  with_list pass list = record pass { list = list }

  -- The items of a list can be numbered so that those of this number are just these.
  pub record IsShare (number : ℕ) (mine all : List I) : Type 0 where
    pub book : List (ℕ × I)
    pub items : items_of book ≡ all
    pub share : under number book ≡ mine

  -- The items of a list can be numbered so that under each number that is kept stands just the list that is kept for it, and there are no other items.
  pub record IsWhole (lists : List (ℕ × List I)) (all : List I) : Type 0 where
    pub book : List (ℕ × I)
    pub items : items_of book ≡ all
    pub each : All (λ entry. entry.1 ≡ under entry.0 book) lists
    pub others : (number : ℕ) → times number lists ≡ 0 → under number book ≡ []

  -- How a seat's view is a pass
  abbrev pub view_of : PassState I → View I
  view_of pass = record { passes = pass.passes; to_make = 0; book = None; kept = kept pass }

  abbrev pub number_in : List (ℕ × List I) → ℕ
  number_in [] = 0
  number_in (own ∷ others) = own.0

  abbrev pub list_in : List (ℕ × List I) → List I
  list_in [] = []
  list_in (own ∷ others) = own.1

  abbrev pub others_in : List (ℕ × List I) → List (ℕ × List I)
  others_in [] = []
  others_in (own ∷ others) = others

  abbrev pub book_in : Option (List (ℕ × I)) → List (ℕ × I)
  book_in None = []
  book_in (Some book) = book

  abbrev pub pass_of : View I → PassState I
  pass_of view = record { passes = view.passes; number = number_in view.kept; list = list_in view.kept; joined = others_in view.kept }

  -- what a seat that is a pass knows and has
  abbrev pub IsPass : View I × List (ℕ × Unit {0}) → Type 0
  IsPass me = me ≡ (view_of (pass_of me.0), [])

  -- the maker's view when no pass is left to make
  abbrev pub all_made : View I → View I
  all_made view = record view { to_make = 0 }

  -- the view of a pass that has the book, and that of the book alone
  abbrev pub holding : PassState I → List (ℕ × I) → View I
  holding pass book = record { passes = pass.passes; to_make = 0; book = Some book; kept = kept pass }

  abbrev pub book_view : ℕ → List (ℕ × I) → View I
  book_view passes book = record { passes = passes; to_make = 0; book = Some book; kept = [] }

  -- a view that has the book and a number of its own
  abbrev pub holder_of : View I → View I
  holder_of view = record { passes = view.passes; to_make = view.to_make; book = Some (book_in view.book); kept = (number_in view.kept, list_in view.kept) ∷ others_in view.kept }

  abbrev pub passes_in : List (View I) → ℕ
  passes_in [] = 0
  passes_in (view ∷ views) = view.passes

  abbrev pub book_of : List (View I) → List (ℕ × I)
  book_of [] = []
  book_of (view ∷ views) = book_in view.book

  -- these are the views of the seat of the book
  abbrev pub IsBook : List (View I) → Type 0
  IsBook views = views ≡ book_view (passes_in views) (book_of views) ∷ []

  -- a list begins with another
  abbrev pub Lengthens : List I → List I → Type 0
  Lengthens before after = (added : List I) × (after ≡ before ++ added)

  -- two lists get the same items at their ends
  pub record IsNoted (before after list noted : List I) : Type 0 where
    pub added : List I
    pub longer : after ≡ before ++ added
    pub at_end : noted ≡ list ++ added

-- f may be called again at a `&mut` to x
abbrev pub TakesAtMut : {F A R : Type 0} → Mut F (MutBor A × Unit {0}) R → F → A → Type 0
TakesAtMut {F} {A} calls f x = (shown : MutBor A) → shown.now ≡ x → Takes calls f (shown, tt)

module _ {T I : Type 0} (list : T → List I) (number : ℕ) where
  -- A turn of the pass with this number, whose list was `before` and is `after`. The value was lent, and its items of this number were the pass's list. What ran on it put items at the end of its list, and these are now at the end of the pass's list.
  pub record IsTurn (ran : T → T → Type 0) (before after : List I) : Type 0 where
    pub lent : T
    pub left : T
    pub added : List I
    pub share : IsShare number before (list lent)
    pub run : ran lent left
    pub longer : list left ≡ list lent ++ added
    pub noted : after ≡ before ++ added

  -- Turns one after another, in which the closure answers false, and then one in which it answers true.
  module _ {F : Type 0} (calls : F → T → Bool → F → T → Type 0) where
    abbrev pub TurnsOnce : Bool → F × List I → Unit {0} → F × List I → Type 0
    TurnsOnce answer before one after = IsTurn (λ lent left. calls before.0 lent answer after.0 left) before.1 after.1

    pub record IsTurnsUntil (first : F) (before after : List I) : Type 0 where
      pub turns : List (Unit {0})
      pub state : F × List I
      pub last : F
      pub waits : FoldsTo (TurnsOnce false) (first, before) turns state
      pub ends : TurnsOnce true state tt (last, after)
