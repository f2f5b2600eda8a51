-- Holders and resources as keys.
use Rattle.std.proofs.Common.{◌&&◌, ◌∙◌, ◌≡◌, eqb, refl, sym, true}
use Rattle.std.proofs.lemmas.Bool.{eqb-true}
use Rattle.std.proofs.lemmas.Cmp.{eq_by_cmp_equiv, nat_cmp_total, on_total, then_total}
use Rattle.std.specs.Cmp.Lexicographic.{nat_list_cmp_total, options_total, pointwise, slice_cmp}
use Rattle.std.specs.Cmp.{IsTotalOrder}
use Rattle.std.specs.Option.{option_cmp, option_eq}
use Rattle.std.specs.Ordering.{is_eq, nat_cmp}
use Rattle.model_data.specs.Modes.{holder_cmp, resource_cmp, same_resource}
use Rattle.model_data.specs.declared.request.Holder.{Holder}
use Rattle.tm_types.proofs.Ordered.{both_true, is_equal, nat_ties, root_exact, root_ties, then_ties}
use Rattle.tm_types.specs.declared.resource.Resource.{Resource}

pub resource_total : IsTotalOrder resource_cmp
resource_total = then_total (on_total (λ (r : Resource). r.db) nat_cmp_total) (on_total (λ (r : Resource). r.root) (options_total nat_list_cmp_total))

pub holder_total : IsTotalOrder holder_cmp
holder_total = then_total (on_total (λ (h : Holder). h.resource) resource_total) (on_total (λ (h : Holder). h.region) nat_cmp_total)

pub resource_ties : (a b : Resource) → is_eq (resource_cmp a b) ≡ same_resource a b
resource_ties a b =
    then_ties (nat_cmp a.db b.db) (option_cmp (slice_cmp nat_cmp) a.root b.root)
    ∙ (λ i. nat_ties a.db b.db i && root_ties a.root b.root i)

pub resource_back : (a b : Resource) → same_resource a b ≡ same_resource b a
resource_back a b = sym (resource_ties a b) ∙ ((eq_by_cmp_equiv resource_total).symm a b ∙ resource_ties b a)

pub resource_same : (a : Resource) → same_resource a a ≡ true
resource_same a = sym (resource_ties a a) ∙ (eq_by_cmp_equiv resource_total).refl a

pub resource_next : (a b c : Resource) → same_resource a b ≡ true → same_resource a c ≡ same_resource b c
resource_next a b c h = sym (resource_ties a c) ∙ ((eq_by_cmp_equiv resource_total).congr a b c (resource_ties a b ∙ h) ∙ resource_ties b c)

pub holder_ties : (a b : Holder) → is_eq (holder_cmp a b) ≡ same_resource a.resource b.resource && eqb a.region b.region
holder_ties a b =
    then_ties (resource_cmp a.resource b.resource) (nat_cmp a.region b.region)
    ∙ (λ i. resource_ties a.resource b.resource i && nat_ties a.region b.region i)

pub resource_exact : (a b : Resource) → same_resource a b ≡ true → a ≡ b
resource_exact a b h =
    let parts = both_true (eqb a.db b.db) (option_eq (pointwise eqb) a.root b.root) h in
    let d : a.db ≡ b.db = eqb-true a.db b.db parts.0 in
    let r : a.root ≡ b.root = root_exact a.root b.root (is_equal _ (root_ties a.root b.root ∙ parts.1)) in
    λ i. record { db = d i; root = r i }

pub holder_exact : (a b : Holder) → is_eq (holder_cmp a b) ≡ true → a ≡ b
holder_exact a b h =
    let parts = both_true (same_resource a.resource b.resource) (eqb a.region b.region) (sym (holder_ties a b) ∙ h) in
    let s : a.resource ≡ b.resource = resource_exact a.resource b.resource parts.0 in
    let r : a.region ≡ b.region = eqb-true a.region b.region parts.1 in
    λ i. record { resource = s i; region = r i }
