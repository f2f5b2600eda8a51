use Rattle.std.proofs.Common.{◌≡◌, take}
use Rattle.seg_store.proofs.copying.copy_images.Given as goal

abbrev pub invariant-loop-image : goal.invariant-loop-image
invariant-loop-image l = l.copy.items ≡ take l.image-index l.images
