-- Holders as keys of the enqueue table.
use Rattle.std.proofs.Common.{◌≡◌, refl, ◌∙◌, true, ◌&&◌}
use Rattle.std.specs.Ordering.{is_eq}
use Rattle.std.proofs.lemmas.Cmp.{eq_by_cmp_equiv}
use Rattle.model_data.specs.declared.request.Holder.{Holder}
use Rattle.model_data.specs.declared.request.Request.{Request}
use Rattle.model_data.specs.Modes.{holder_cmp}
use Rattle.model_data.specs.Table.{is_asker}
use Rattle.model_data.specs.EnqueueRequests.{asker}
use Rattle.tm_types.proofs.Ordered.{eqb_back}
use Rattle.model_data.proofs.Holders.{holder_total, resource_back, holder_ties}

pub asker_is : (q : Request) (h : Holder) → is_eq (holder_cmp (asker q) h) ≡ is_asker q h
asker_is q h = holder_ties (asker q) h ∙ (λ i. resource_back q.resource h.resource i && eqb_back q.region h.region i)

pub holder_same : (a : Holder) → is_eq (holder_cmp a a) ≡ true
holder_same a = (eq_by_cmp_equiv holder_total).refl a
