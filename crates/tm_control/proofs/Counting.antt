-- What a control region counts on as a life begins.
use Rattle.std.proofs.Common.{◌≡◌, ◌⊎◌, ℕ, ◌+◌, ◌≤◌, List, refl, sym, ap, subst, arith, ⊎_elim, IsTrue, length}
use Rattle.tm_disk.specs.Disk.{DiskState}
use Rattle.model_system.specs.System.{System}
use Rattle.model_machine.specs.Machine.{LastingState}
use Rattle.log_writer.specs.Writer.{Writer}
use Rattle.log_writer.specs.ForcedLog.{log_sectors_of}
use Rattle.restart_data.specs.declared.restart.RestartSector.{RestartSector}
use Rattle.checkpointing.specs.Counts.{CountsUpTo}
use Rattle.disk_law.specs.UnitCounts.{StandsUpTo}
use Rattle.disk_law.specs.JournalState.{JournalState}
use Rattle.openings.specs.OpenedImage.{IsBegunCold, IsColdImage, IsReopened}
use Rattle.openings.specs.declared.how.How.{How}
use Rattle.openings.specs.declared.how.How.TheVariants.{Found, Cold}
use Rattle.openings.specs.LifeBeginning.{BeginsLife}

module _ (how : How) (system : System) (text : List ℕ) (disk : DiskState) (opening : LastingState) (journal : JournalState) (next : ℕ) (b : BeginsLife how system text disk opening journal.restart journal.log next) (high : ℕ) where
  begun : IsBegunCold system b.parts opening → StandsUpTo (high + 1) journal next
  begun is = record {
    epoch = omega (arith, ap (λ (r : RestartSector). r.epoch) b.restart_is, is.first.epoch);
    sequence = omega (arith, ap (λ (w : Writer). w.sequence + w.place + log_sectors_of (length w.appended)) b.log_is, is.first.sequence);
    checkpoint = omega (arith, ap (λ (r : RestartSector). r.checkpoint) b.restart_is, is.first.checkpoint);
    unit = omega (arith, b.unit_is, is.next_unit);
  }

  reopened : CountsUpTo system high disk.shown → IsReopened system text disk.shown b.parts opening → StandsUpTo (high + 1) journal next
  reopened counts is =
      let c = counts is.restart is.found.has_restart in
      let unit : b.parts.next_unit ≤ high = subst (λ (n : ℕ). n ≤ high) (sym is.found.next) (c.unit is.found.snapshot is.found.has_snapshot) in
      record {
        epoch = omega (arith, ap (λ (r : RestartSector). r.epoch) b.restart_is, is.next.epoch, c.epoch);
        sequence = omega (arith, ap (λ (w : Writer). w.sequence + w.place + log_sectors_of (length w.appended)) b.log_is, is.next.sequence, c.sequence);
        checkpoint = omega (arith, ap (λ (r : RestartSector). r.checkpoint) b.restart_is, is.next.checkpoint, c.checkpoint);
        unit = omega (arith, b.unit_is, unit);
      }

  -- It stands one above what the image counts up to that is found, and one above nothing in a cold start.
  pub begins_up_to : (how ≡ Found → IsTrue disk.tells) → (how ≡ Found → CountsUpTo system high disk.shown) → StandsUpTo (high + 1) journal next
  begins_up_to tells counts = by how refl
    where
      by : (h : How) → how ≡ h → StandsUpTo (high + 1) journal next
      by Found is =
          ⊎_elim (λ (found : IsReopened system text disk.shown b.parts opening). reopened (counts is) found)
          (λ (cold : IsColdImage system disk.shown b.parts opening). begun cold.begun)
          (b.found is (tells is))
      by Cold is = begun (b.cold is)
