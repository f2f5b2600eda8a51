use Rattle.std.proofs.Common.{refl}
use Rattle.atomic_table.specs.Table.Act.{keeps}
use Rattle.pool_pass.specs.Rule.{written}
use Rattle.pool_pass.proofs.Keeping.{writing_as}
use Rattle.pool_pass.proofs.steps.write.Goals as goal

pub load-requires : goal.load-requires
load-requires g c =
    let v = c.args.seat.now.me.0 in
    let added = g.A.Added.added in (
      c.requires.table.0,
      c.requires.table.1,
      λ s h homes at low.
          let kept = writing_as c.args.steps.now.key c.args.seat.now.id s.views v added c.requires.holder h at in
          (written added v, keeps, tt, kept.0, (refl, kept.1)),
    )
