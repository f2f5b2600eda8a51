use Rattle.std.proofs.Common.{◌∙◌}
use Rattle.seg_store.proofs.Copied.{kept_copied}
use Rattle.seg_store.proofs.store.Store.copy.Goals as goal

pub invariant_of-result : goal.invariant_of-result
invariant_of-result c =
    kept_copied _ _ _ _ _ _ _ _ _ _ _ _ _ _ _ _ c.self.invariant c.in_ok-clone.ensures.cases (c.in_ok-copy_images.ensures ∙ c.deref.ensures.value)
    (c.in_ok-copy_list.ensures.items ∙ c.deref-2.ensures.value) (c.in_ok-copy_list-2.ensures.items ∙ c.deref-3.ensures.value)
    (c.in_ok-copy_list-3.ensures.items ∙ c.deref-4.ensures.value) c.in_ok-copy_list.ensures.room c.in_ok-copy_list-2.ensures.room
    c.in_ok-copy_list-3.ensures.room
