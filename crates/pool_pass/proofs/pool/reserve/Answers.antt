use Rattle.pool_pass.proofs.Keeping.{opening}
use Rattle.pool_pass.proofs.pool.reserve.Goals as goal

pub of_words-requires : goal.of_words-requires
of_words-requires g c = opening g.row.I.Denot c.args.passes c.requires
