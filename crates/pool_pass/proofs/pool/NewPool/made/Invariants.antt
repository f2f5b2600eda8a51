use Rattle.std.proofs.Common.{length, drop}
use Rattle.pool_pass.specs.Passes.{book_in}
use Rattle.pool_pass.proofs.pool.NewPool.made.Given as goal

-- the items of the value as it came
abbrev pub ghosts-write_down : goal.ghosts-write_down
ghosts-write_down g a = record { added = drop (length (book_in a.seat.now.me.0.book)) (g.T.Listed.list a.value.now) }
