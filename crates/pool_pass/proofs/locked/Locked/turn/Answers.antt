use Rattle.std.proofs.Common.{sym, ap, ◌∙◌, ◌++◌}
use Rattle.pool_pass.specs.Book.{items_of}
use Rattle.pool_pass.specs.Passes.{pass_of, book_in, book_of, list_in}
use Rattle.pool_pass.proofs.Turning.{share}
use Rattle.pool_pass.proofs.locked.Locked.turn.Goals as goal

pub lend-answer-requires : goal.lend-answer-requires
lend-answer-requires g c =
    let seated = c.take_book.ensures.seat.1 in
    let items = ap (λ vs. items_of (book_of vs)) (sym c.into_seat.ensures.2 ∙ ap (λ b. b.views) c.replace-book.ensures.value) ∙ c.args.self.now.listed in
    c.requires.takes _ (share (pass_of c.args.seat.now.me.0) (book_in c.into_seat.result.me.0.book) c.take_book.new.seat.me.0 _ (ap (λ m. m.0) seated) c.take_book.ensures.tells items)

pub give_book-requires-clause-longer : goal.give_book-requires-clause-longer
give_book-requires-clause-longer g c =
    let seated = c.take_book.ensures.seat.1 in
    let items = ap (λ vs. items_of (book_of vs)) (sym c.into_seat.ensures.2 ∙ ap (λ b. b.views) c.replace-book.ensures.value) ∙ c.args.self.now.listed in
    let mine = share (pass_of c.args.seat.now.me.0) (book_in c.into_seat.result.me.0.book) c.take_book.new.seat.me.0 _ (ap (λ m. m.0) seated) c.take_book.ensures.tells items in
    let longer = c.requires.lengthens _ c.lend-answer.result _ mine c.lend-answer.ensures in
    let same = ap (λ m. items_of (book_in m.0.book)) seated ∙ items in
    (longer.0, longer.1 ∙ ap (λ xs. xs ++ longer.0) (sym same))

pub returns-clause-turn : goal.returns-clause-turn
returns-clause-turn g c =
    let seated = c.take_book.ensures.seat.1 in
    let items = ap (λ vs. items_of (book_of vs)) (sym c.into_seat.ensures.2 ∙ ap (λ b. b.views) c.replace-book.ensures.value) ∙ c.args.self.now.listed in
    let mine = share (pass_of c.args.seat.now.me.0) (book_in c.into_seat.result.me.0.book) c.take_book.new.seat.me.0 _ (ap (λ m. m.0) seated) c.take_book.ensures.tells items in
    let same = ap (λ m. items_of (book_in m.0.book)) seated ∙ items in
    let noted = c.give_book.ensures.noted in
    record {
      lent = c.args.self.now.value;
      left = c.lend-answer.new.value;
      added = noted.added;
      share = mine;
      run = c.lend-answer.ensures;
      longer = noted.longer ∙ ap (λ xs. xs ++ noted.added) same;
      noted = noted.at_end ∙ ap (λ m. list_in m.0.kept ++ noted.added) seated;
    }
