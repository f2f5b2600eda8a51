use Rattle.std.proofs.Common.{List, ℕ, length, sym, subst}
use Rattle.log_sectors.specs.SealedSector.{HasZerosBehind}
use Rattle.log_sectors.proofs.Sealing.{sealed-behind}
use Rattle.log_writer.proofs.seal.Seal.seal.Goals as goal

pub invariant_of-self : goal.invariant_of-self
invariant_of-self c = (
  c.requires.fits,
  subst (λ (l : List ℕ). HasZerosBehind (length c.args.payload.now) l) (sym c.reseal.ensures) (sealed-behind c.args.epoch c.args.sequence c.args.payload.now),
)
