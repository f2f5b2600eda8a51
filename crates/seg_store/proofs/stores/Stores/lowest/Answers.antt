use Rattle.std.proofs.Common.{◌≡◌, ◌+◌, sym, ◌∙◌, subst, None}
use Rattle.std.specs.Prelude.{IfSome, ◌↔◌}
use Rattle.seg_store.specs.ChangedSlots.{AllStores}
use Rattle.seg_store.specs.OneSlot.{changed_count, without_slot, IsSlotPlace, IsMarked}
use Rattle.seg_store.proofs.OneSlot.{marks, if_some, lowest_there, lowest_marked, lowest_fewer, none_lowest, none_changed}
use Rattle.seg_store.proofs.stores.Stores.lowest.Goals as goal

pub returns-clause-there : goal.returns-clause-there
returns-clause-there c =
    let kept = c.self.inside.items.items in
    subst (λ (a : AllStores). IfSome c.lowest_of.result (λ place. IsSlotPlace place a.stores)) c.self.view_is
    (if_some c.lowest_of.result (λ place. IsSlotPlace place _) (λ place e. lowest_there kept c.lowest_of.ensures.valid place (sym c.lowest_of.ensures.value ∙ e)))

pub returns-clause-marked : goal.returns-clause-marked
returns-clause-marked c =
    let kept = c.self.inside.items.items in
    subst (λ (a : AllStores). IfSome c.lowest_of.result (λ place. IsMarked place a.changed)) c.self.view_is
    (if_some c.lowest_of.result (λ place. IsMarked place (marks kept)) (λ place e. lowest_marked kept c.lowest_of.ensures.valid place (sym c.lowest_of.ensures.value ∙ e)))

pub returns-clause-none : goal.returns-clause-none
returns-clause-none c =
    let kept = c.self.inside.items.items in
    subst (λ (a : AllStores). (c.lowest_of.result ≡ None) ↔ (changed_count a.changed ≡ 0)) c.self.view_is
    (λ e. none_lowest 1 (marks kept) (sym c.lowest_of.ensures.value ∙ e), λ z. c.lowest_of.ensures.value ∙ none_changed 1 (marks kept) z)

pub returns-clause-fewer : goal.returns-clause-fewer
returns-clause-fewer c =
    let kept = c.self.inside.items.items in
    subst (λ (a : AllStores). IfSome c.lowest_of.result (λ place. changed_count (without_slot place a.changed) + 1 ≡ changed_count a.changed)) c.self.view_is
    (if_some c.lowest_of.result (λ place. changed_count (without_slot place (marks kept)) + 1 ≡ changed_count (marks kept)) (λ place e. lowest_fewer kept c.lowest_of.ensures.valid place (sym c.lowest_of.ensures.value ∙ e)))
