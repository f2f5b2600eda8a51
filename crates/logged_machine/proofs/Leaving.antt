-- What crashes leave, over one call of a disk and another.
use Rattle.std.proofs.Common.{◌⊎◌, inl, inr, ⊎_elim, arith}
use Rattle.tm_disk.specs.Disk.{Image, DiskState, IsDisk, ComesFrom, Within}
use Rattle.logged_machine.specs.LeftImages.{CrashesLeave}

pub leaves_same : (P : Image → Type 0) (disk : DiskState) → CrashesLeave P disk disk
leaves_same P disk = record { later = omega arith; from = λ time image early left. inl left }

-- what is said less of
pub leaves_same_then : (P Q : Image → Type 0) (old new : DiskState) → ((image : Image) → P image → Q image) → CrashesLeave P old new → CrashesLeave Q old new
leaves_same_then P Q old new by leaves = record {
  later = leaves.later;
  from = λ time image early left. ⊎_elim (λ was. inl was) (λ h. inr (by image h)) (leaves.from time image early left);
}

-- images that come from those that might be left before
pub leaves_within : (S : Image → Image → Type 0) (P : Image → Type 0) (old new : DiskState) → ((before after : Image) → old.may_leave before → S before after → P after)
    → Within S old new → CrashesLeave P old new
leaves_within S P old new by within = record {
  later = within.later;
  from = λ time image early left. ⊎_elim (λ was. inl was) (λ (c : ComesFrom S old image). inr (by c.before image c.left c.by)) (within.from time image early left);
}

-- since the call began
pub leaves_all : (P : Image → Type 0) (old new : DiskState) → IsDisk old → ((image : Image) → old.may_leave image → P image) → CrashesLeave P old new
    → (image : Image) → new.left_since old.clock image → P image
leaves_all P old new disk before leaves image left =
    ⊎_elim (λ was. before image (disk.now_alone image was)) (λ h. h) (leaves.from old.clock image (omega arith) left)

-- and now
pub leaves_now : (P : Image → Type 0) (old new : DiskState) → IsDisk old → IsDisk new → ((image : Image) → old.may_leave image → P image) → CrashesLeave P old new
    → (image : Image) → new.may_leave image → P image
leaves_now P old new old_disk new_disk before leaves image left =
    leaves_all P old new old_disk before leaves image (new_disk.now_counts old.clock image leaves.later left)
