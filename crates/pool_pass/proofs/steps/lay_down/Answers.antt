use Rattle.std.proofs.Common.{ap}
use Rattle.pool_pass.specs.Passes.{book_in}
use Rattle.pool_pass.proofs.Keeping.{laying}
use Rattle.pool_pass.proofs.steps.lay_down.Goals as goal

pub split_seat-requires : goal.split_seat-requires
split_seat-requires g c =
    let v = c.args.seat.now.me.0 in
    (c.requires.table.0, c.requires.table.1, λ s h at. laying c.args.steps.now.key c.args.seat.now.id s.views v (book_in v.book) (ap (λ u. u.book) c.requires.holder.1) c.requires.holder.0 h at)
