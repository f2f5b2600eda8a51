use Rattle.std.proofs.Common.{List, ℕ, subst, sym}
use Rattle.log_sectors.specs.SealedSector.{HasZerosBehind}
use Rattle.log_sectors.proofs.Sealing.{blank-behind}
use Rattle.log_sectors.proofs.log_sector.seal.Goals as goal

pub reseal-requires-clause-behind : goal.reseal-requires-clause-behind
reseal-requires-clause-behind c = subst (λ (l : List ℕ). HasZerosBehind 0 l) (sym c.blank-sector.ensures) blank-behind
