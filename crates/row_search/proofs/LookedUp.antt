-- What an argument that was looked up asks is what it asks by its name.
use Rattle.std.proofs.Common.{◌≡◌, ℕ, ◌∷◌, [], List, take, drop, map, refl, sym, ap, ◌∙◌, Option, None, Some, false, ◌&&◌}
use Rattle.std.specs.List.{list_all}
use Rattle.std.specs.Option.{option_map, option_map_or}
use Rattle.std.proofs.lemmas.List.{take-append-drop}
use Rattle.std.proofs.lemmas.List.Folds.{list_all-append, list_all-map}
use Rattle.tm_types.specs.declared.dbd.SegType.{SegType}
use Rattle.tm_types.specs.declared.ssa.Ssa.{Ssa}
use Rattle.tm_types.specs.declared.ssa.KeyTest.{KeyTest}
use Rattle.tm_types.specs.declared.ssa.KeyTest.TheVariants.{Any, Equal, AtLeast}
use Rattle.tm_types.specs.SegTypes.{type_at}
use Rattle.model_data.specs.Search.{number_named, meets_at, meets_ssa}
use Rattle.row_search.specs.declared.asked.AskedSegment.{AskedSegment}
use Rattle.row_search.specs.AskedArguments.{asked_segment, looked_up, is_met}

pub met_is : (types : List SegType) (ssa : Ssa) (path : List (ℕ × List ℕ)) → is_met (looked_up types ssa) path ≡ meets_ssa types ssa path
met_is types ssa path = by (number_named types ssa.segment) ssa.test (type_at types (number_named types ssa.segment))
  where
    by : (number : ℕ) (test : KeyTest) (found : Option SegType)
        → is_met (option_map (asked_segment number test) found) path ≡ option_map_or (λ s. meets_at test number s path) found false
    by number test None = refl
    by number Any (Some s) = refl
    by number (Equal x) (Some s) = refl
    by number (AtLeast x) (Some s) = refl

-- the first ones by what was looked up, and the rest by their names
pub all_is : (types : List SegType) (ssas : List Ssa) (path : List (ℕ × List ℕ)) (n : ℕ) (first : List (Option AskedSegment)) → first ≡ map (looked_up types) (take n ssas)
    → (list_all (λ a. is_met a path) first && list_all (λ s. meets_ssa types s path) (drop n ssas)) ≡ list_all (λ s. meets_ssa types s path) ssas
all_is types ssas path n first e =
    ap (λ b. b && list_all (λ s. meets_ssa types s path) (drop n ssas))
    (ap (list_all (λ a. is_met a path)) e ∙ (list_all-map (λ a. is_met a path) (looked_up types) (take n ssas) ∙ each (take n ssas)))
    ∙ (sym (list_all-append (λ s. meets_ssa types s path) (take n ssas) (drop n ssas)) ∙ ap (list_all (λ s. meets_ssa types s path)) (take-append-drop n ssas))
  where
    each : (xs : List Ssa) → list_all (λ s. is_met (looked_up types s) path) xs ≡ list_all (λ s. meets_ssa types s path) xs
    each [] = refl
    each (x ∷ xs) = λ i. met_is types x path i && each xs i
