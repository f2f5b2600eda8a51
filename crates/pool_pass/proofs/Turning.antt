-- What a turn tells of a value's list.
use Rattle.std.proofs.Common.{◌≡◌, ℕ, List, [], ◌∷◌, ◌++◌, drop, length, refl, sym, ap, ◌∙◌, subst}
use Rattle.pool_pass.specs.Book.{items_of, under, tagged}
use Rattle.pool_pass.specs.Rule.{Tells}
use Rattle.pool_pass.specs.Passes.{PassState, holding, book_in, IsShare, Lengthens}
use Rattle.pool_pass.specs.declared.views.View.{View}
use Rattle.pool_pass.proofs.Books.{All-first, items-append, items-tagged}

module _ {I : Type 0} where
  drop_items : (book : List (ℕ × I)) (more : List I) → drop (length book) (items_of book ++ more) ≡ more
  drop_items [] more = refl
  drop_items (entry ∷ book) more = drop_items book more

  -- the book with what a list has behind its items has the items of that list
  pub listed : (book : List (ℕ × I)) (number : ℕ) (list : List I) → Lengthens (items_of book) list → items_of (book ++ tagged number (drop (length book) list)) ≡ list
  listed book number list longer =
      items-append book (tagged number (drop (length book) list)) ∙ ap (λ xs. items_of book ++ xs) (items-tagged number (drop (length book) list) ∙ ap (drop (length book)) longer.1 ∙ drop_items book longer.0) ∙ sym longer.1

  -- the pass that has the book knows its own items
  pub share : (pass : PassState I) (book : List (ℕ × I)) (view : View I) (list : List I) → view ≡ holding pass book → Tells view → items_of book ≡ list → IsShare pass.number pass.list list
  share pass book view list is tells items =
      let t : Tells (holding pass book) = subst Tells is tells in
      let whole : book ≡ t.whole = ap book_in t.book in
      record {
        book = t.whole;
        items = ap items_of (sym whole) ∙ items;
        share = sym (All-first (λ entry. entry.1 ≡ under entry.0 t.whole) (pass.number, pass.list) pass.joined t.lists);
      }
