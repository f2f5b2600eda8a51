use Rattle.std.proofs.Common.{List, ℕ, sym, subst, arith}
use Rattle.log_sectors.specs.SealedSector.{HasZerosBehind}
use Rattle.log_sectors.proofs.Sealing.{blank-behind}
use Rattle.log_writer.proofs.seal.Seal.new.Goals as goal

pub invariant_of-result : goal.invariant_of-result
invariant_of-result c = (omega arith, subst (λ (l : List ℕ). HasZerosBehind 0 l) (sym c.blank-sector.ensures) blank-behind)
