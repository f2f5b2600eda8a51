use Rattle.pool_pass.proofs.Keeping.{making}
use Rattle.pool_pass.proofs.steps.make_pass.Goals as goal

pub split_seat-requires : goal.split_seat-requires
split_seat-requires g c = (c.requires.table.0, c.requires.table.1, λ s h at. making c.args.steps.now.key c.args.maker.now.id s.views c.args.maker.now.me.0 c.requires.left h at)
