use Rattle.std.proofs.Common.{◌≡◌, List, [], ◌∷◌, length, drop, refl, sym, ap, ◌∙◌, subst, arith}
use Rattle.std.specs.List.{All}
use Rattle.std.proofs.lemmas.List.Elements.{All-push}
use Rattle.std.proofs.lemmas.List.Sorted.{All-permutation}
use Rattle.atomic_table.specs.declared.shared.Seat.{Seat}
use Rattle.pool_pass.specs.declared.views.View.{View}
use Rattle.pool_pass.specs.Book.{items_of}
use Rattle.pool_pass.specs.Rule.{written, without_book, book_alone}
use Rattle.pool_pass.specs.Passes.{all_made, book_in, book_of, IsBook, IsPass}
use Rattle.pool_pass.proofs.Books.{items-tagged}
use Rattle.pool_pass.proofs.pool.NewPool.made.Goals as goal

pub invariant_of-result : goal.invariant_of-result
invariant_of-result g c =
    let r = c.requires.table in
    let w = c.write_down.ensures.seat in
    let m = c.make_passes.ensures in
    let l = c.lay_down.ensures in
    let b = c.into_badge-book.ensures in
    let list : List g.row.T-Item.Denot = g.T.Listed.list c.args.value in
    let first : List g.row.T-Item.Denot = drop (length (book_in c.args.room.maker.me.0.book)) list in
    let whole : first ≡ list = ap (λ me. drop (length (book_in me.0.book)) list) r.2 in
    let done = m.maker.1 ∙ ap (λ me. (all_made me.0, me.1)) (w.1 ∙ ap (λ me. (written first me.0, me.1)) r.2) in
    let views = b.2 ∙ ap (λ me. me.0 ∷ []) (l.book.1 ∙ ap (λ me. (book_alone me.0, [])) done) in
    let P : Seat (Unit {0}) (View g.row.T-Item.Denot) → Type 0 = λ seat. (seat.table_id ≡ c.args.room.table.shared.table_id) × IsPass seat.me in
    let same = m.maker.0 ∙ w.0 ∙ r.1 in (
      omega (arith, r.0),
      b.0 ∙ l.book.0 ∙ same,
      subst IsBook (sym views) refl,
      ap (λ vs. items_of (book_of vs)) views ∙ items-tagged 0 first ∙ whole,
      subst (All P) (sym c.push_reserved.ensures.items)
          (All-push P c.reverse.new.self.items c.lay_down.new.seat
          (All-permutation P c.make_passes.new.seats.items c.reverse.new.self.items c.reverse.ensures.permutation m.passes)
          (l.seat.0 ∙ same, subst IsPass (sym (l.seat.1 ∙ ap (λ me. (without_book me.0, me.1)) done)) refl)),
    )
