-- The log of an area is that of its image.
use Rattle.std.proofs.Common.{◌≡◌, ℕ, ◌+◌, List, length, ◌∙◌, ap, subst}
use Rattle.tm_disk.specs.Disk.{Image}
use Rattle.model_system.specs.System.{System}
use Rattle.log_sectors.specs.Chain.{chain, joined_payloads}
use Rattle.restart_data.specs.declared.restart.RestartSector.{RestartSector}
use Rattle.model_system.specs.Areas.{log_first}
use Rattle.model_image.specs.RecoveredState.{first_later}
use Rattle.image_reading.specs.declared.area.LogArea.{LogArea}
use Rattle.image_reading.specs.declared.reading.ReadLog.{ReadLog}
use Rattle.image_reading.specs.ReadLog.{IsAreaOf, IsCutInto, IsLogOf}

module _ (system : System) (restart : RestartSector) (image : Image) (count first : ℕ) (count_is : count ≡ system.logs) (first_is : first ≡ log_first system restart.log) where
  chain_is : chain count image first restart.sequence restart.epoch ≡ chain system.logs image (log_first system restart.log) restart.sequence restart.epoch
  chain_is = λ i. chain (count_is i) image (first_is i) restart.sequence restart.epoch

  pub log_of : (area : LogArea) (read : ReadLog) (bytes : List ℕ) → IsAreaOf count image first restart.sequence restart.epoch area → bytes ≡ area.payload → IsCutInto bytes read.records.items read.is_cut_off
      → read.next_sequence ≡ restart.sequence + area.sectors → read.later ≡ area.later → IsLogOf system restart image read
  log_of area read bytes of same cut sequence later = record {
    cut = subst (λ (l : List ℕ). IsCutInto l read.records.items read.is_cut_off) (same ∙ of.payload ∙ ap joined_payloads chain_is) cut;
    sequence = sequence ∙ ap (λ n. restart.sequence + n) (of.sectors ∙ ap (λ (sectors : List (List ℕ)). length sectors) chain_is);
    later = later ∙ of.later ∙ (λ i. first_later (count_is i) image (first_is i) restart.epoch);
  }
