-- The first log sector of a later epoch, of both areas.
use Rattle.std.proofs.Common.{◌≡◌, ℕ, ◌*◌, sym, ◌∙◌, ap, arith, Some, None}
use Rattle.std.specs.Prelude.{Option}
use Rattle.tm_disk.specs.Disk.{Image}
use Rattle.model_system.specs.System.{System}
use Rattle.model_system.specs.Areas.{log_first}
use Rattle.model_image.specs.RecoveredState.{first_later}
use Rattle.image_reading.proofs.Sectors.{in_both, later_in_both}

both_areas : (system : System) (image : Image) (epoch : ℕ) → first_later (2 * system.logs) image (log_first system 0) epoch ≡ in_both (first_later system.logs image (log_first system 0) epoch) (first_later system.logs image (log_first system 1) epoch)
both_areas system image epoch =
    ap (λ k. first_later k image (log_first system 0) epoch) (omega arith)
    ∙ later_in_both system.logs system.logs image (log_first system 0) epoch
    ∙ ap (λ k. in_both (first_later system.logs image (log_first system 0) epoch) (first_later system.logs image k epoch)) (omega arith)

pub found_in_first : (system : System) (image : Image) (epoch sector : ℕ) → Some sector ≡ first_later system.logs image (log_first system 0) epoch → Some sector ≡ first_later (2 * system.logs) image (log_first system 0) epoch
found_in_first system image epoch sector found =
    sym (both_areas system image epoch ∙ ap (λ (o : Option ℕ). in_both o (first_later system.logs image (log_first system 1) epoch)) (sym found))

pub found_in_second : (system : System) (image : Image) (epoch : ℕ) (found : Option ℕ) → None ≡ first_later system.logs image (log_first system 0) epoch → found ≡ first_later system.logs image (log_first system 1) epoch → found ≡ first_later (2 * system.logs) image (log_first system 0) epoch
found_in_second system image epoch found none is =
    is ∙ sym (both_areas system image epoch ∙ ap (λ (o : Option ℕ). in_both o (first_later system.logs image (log_first system 1) epoch)) (sym none))
