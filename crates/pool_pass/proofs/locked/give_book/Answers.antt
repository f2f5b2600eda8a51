use Rattle.std.proofs.Common.{length, drop, ap, ◌∙◌}
use Rattle.pool_pass.specs.Book.{items_of}
use Rattle.pool_pass.specs.Rule.{written, book_alone}
use Rattle.pool_pass.specs.Passes.{pass_of, book_in}
use Rattle.pool_pass.proofs.Turning.{listed}
use Rattle.pool_pass.proofs.locked.give_book.Goals as goal

pub returns-clause-listed : goal.returns-clause-listed
returns-clause-listed g c =
    let v = c.args.seat.now.me.0 in
    let book = book_in v.book in
    let list = g.T.Listed.list c.args.value.now in
    let added = drop (length book) list in
    ap (λ m. items_of (book_in m.0.book)) c.lay_down.ensures.book.1
    ∙ ap (λ m. items_of (book_in (book_alone m.0).book)) c.write_down.ensures.seat.1
    ∙ ap (λ m. items_of (book_in (book_alone (written added m.0)).book)) c.requires.pass
    ∙ listed book (pass_of v).number list c.requires.longer
