-- Writing segments one after the other.
use Rattle.std.proofs.Common.{◌≡◌, ℕ, zero, suc, ◌+◌, ◌≤◌, List, [], ◌∷◌, ◌++◌, length, take, Some, None, sym, ap, ◌∙◌, subst, append_assoc, add-one, arith}
use Rattle.std.specs.List.{flat_map, slice_get, AllByRecursion}
use Rattle.std.proofs.lemmas.Option.{same_Some, none-some}
use Rattle.std.proofs.lemmas.List.{append-nil, take_all}
use Rattle.log_records.specs.RecordSpelling.{text}
use Rattle.std.proofs.lemmas.List.Concat.{flat_map-cons}
use Rattle.tm_types.specs.Segment.{IsSegmentText}

pub flat_map_more : (f : List ℕ → List ℕ) (ts : List (List ℕ)) (i : ℕ) (t : List ℕ) → slice_get ts i ≡ Some t → flat_map f (take (suc i) ts) ≡ flat_map f (take i ts) ++ f t
flat_map_more f [] i t e = absurd (none-some t e)
flat_map_more f (u ∷ us) zero t e = flat_map-cons f u [] ∙ append-nil (f u) ∙ ap f (same_Some u t e)
flat_map_more f (u ∷ us) (suc i) t e =
    flat_map-cons f u (take (suc i) us) ∙ ap (λ (x : List ℕ). f u ++ x) (flat_map_more f us i t e) ∙ sym (append_assoc (f u) (flat_map f (take i us)) (f t)) ∙ ap (λ (x : List ℕ). x ++ f t) (sym (flat_map-cons f u (take i us)))

pub all_more : (ts : List (List ℕ)) (i : ℕ) (t : List ℕ) → slice_get ts i ≡ Some t → AllByRecursion IsSegmentText (take i ts) → IsSegmentText t → AllByRecursion IsSegmentText (take (suc i) ts)
all_more [] i t e before here = absurd (none-some t e)
all_more (u ∷ us) zero t e before here = (subst (λ (x : List ℕ). IsSegmentText x) (sym (same_Some u t e)) here, tt)
all_more (u ∷ us) (suc i) t e before here = (before.0, all_more us i t e before.1 here)

pub none_past : (ts : List (List ℕ)) (i : ℕ) → slice_get ts i ≡ None → length ts ≤ i
none_past [] i e = omega arith
none_past (u ∷ us) zero e = absurd cc
none_past (u ∷ us) (suc i) e = let more = none_past us i e in omega arith

pub written_more : (old new before : List ℕ) (ts : List (List ℕ)) (i : ℕ) (t u : List ℕ) → slice_get ts i ≡ Some t → u ≡ t → new ≡ before ++ text u → before ≡ old ++ flat_map text (take i ts)
    → new ≡ old ++ flat_map text (take (i + 1) ts)
written_more old new before ts i t u here same more so_far =
    rw add-one (
    more ∙ ap (λ (x : List ℕ). before ++ text x) same ∙ ap (λ (x : List ℕ). x ++ text t) so_far ∙ append_assoc old (flat_map text (take i ts)) (text t)
    ∙ ap (λ (x : List ℕ). old ++ x) (sym (flat_map_more text ts i t here))
    )

pub each_more : (ts : List (List ℕ)) (i : ℕ) (t : List ℕ) → slice_get ts i ≡ Some t → AllByRecursion IsSegmentText (take i ts) → IsSegmentText t → AllByRecursion IsSegmentText (take (i + 1) ts)
each_more ts i t here before valid = rw add-one (all_more ts i t here before valid)

pub written_all : (old new : List ℕ) (ts : List (List ℕ)) (i : ℕ) → length ts ≤ i → new ≡ old ++ flat_map text (take i ts) → new ≡ old ++ flat_map text ts
written_all old new ts i past e = e ∙ ap (λ (x : List (List ℕ)). old ++ flat_map text x) (take_all i ts past)

pub each_all : (ts : List (List ℕ)) (i : ℕ) → length ts ≤ i → AllByRecursion IsSegmentText (take i ts) → AllByRecursion IsSegmentText ts
each_all ts i past h = subst (λ (x : List (List ℕ)). AllByRecursion IsSegmentText x) (take_all i ts past) h
