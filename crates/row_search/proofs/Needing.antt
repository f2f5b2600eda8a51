-- A search along the records of a database, and the records that it needs.
use Rattle.std.proofs.Common.{◌≡◌, ℕ, ◌++◌, ◌∷◌, [], List, refl, sym, ◌∙◌, ap, Bool, true, false, cond, not, ◌&&◌, Option, None, Some}
use Rattle.std.specs.List.{AllByRecursion, filter, flat_map, find}
use Rattle.std.specs.Prelude.{map}
use Rattle.std.specs.List.Sorted.{IsStrictlySortedBy}
use Rattle.std.specs.Option.{option_map_or}
use Rattle.std.specs.Ordering.{is_lt, is_eq}
use Rattle.std.specs.declared.cmp.Ordering.TheVariants.{Less}
use Rattle.std.proofs.lemmas.Cmp.{tied_itself}
use Rattle.std.proofs.lemmas.Map.Keys.{sorted_head}
use Rattle.tm_types.specs.declared.dbd.Dbd.{Dbd}
use Rattle.tm_types.specs.declared.resource.Mode.{Mode}
use Rattle.tm_types.specs.declared.resource.Mode.TheVariants.{Shared}
use Rattle.tm_types.specs.declared.ssa.Ssa.{Ssa}
use Rattle.tm_types.specs.SegTypes.{IsHierarchy}
use Rattle.model_data.specs.declared.row.Row.{Row}
use Rattle.model_data.specs.Path.{key_cmp, root_of, IsPath}
use Rattle.model_data.specs.Row.{IsRow}
use Rattle.model_data.specs.Rows.{record_of, roots, AreRows}
use Rattle.model_data.proofs.Order.{key_total, turned_less}
use Rattle.model_data.proofs.Lists.{all_then, all_append}
use Rattle.model_data.proofs.Filters.{filter_none, filter_passes}
use Rattle.model_data.proofs.Records.{record_rooted}
use Rattle.model_data.specs.declared.need.Need.{Need}
use Rattle.model_data.specs.Search.{is_after, fits, first_after}
use Rattle.model_data.specs.Footprint.{record_need, sequence_need, up_to, roots_behind, has_reached, along, onward}
use Rattle.row_search.proofs.Finding.{find_front, find_back, find_has}
use Rattle.row_search.proofs.Places.{after_in_later}
use Rattle.row_search.proofs.Rising.{rows_rising, from_root}
use Rattle.row_search.proofs.Keys.{by_records, after_by_records}
use Rattle.model_data.proofs.Reading.{is_lt-true}

-- the first row that passes, record by record
abbrev pub found : (Row → Bool) → List Row → List (List ℕ) → Option Row
found test rows keys = find test (flat_map (λ key. record_of key rows) keys)

-- the records that a search for it needs
abbrev pub walk : (Row → Bool) → Mode → List Row → List (List ℕ) → List Need
walk test mode rows keys = map (record_need mode) (up_to (found test rows keys) keys)

-- the rows of records of greater keys have greater roots
flat_above : (key : List ℕ) (rows : List Row) (keys : List (List ℕ)) → AllByRecursion (λ k. key_cmp key k ≡ Less) keys
    → AllByRecursion (λ r. key_cmp key (root_of r.path) ≡ Less) (flat_map (λ k. record_of k rows) keys)
flat_above key rows [] h = tt
flat_above key rows (k ∷ keys) h =
    all_append (λ r. key_cmp key (root_of r.path) ≡ Less) (record_of k rows) (flat_map (λ x. record_of x rows) keys)
    (all_then (λ r. root_of r.path ≡ k) (λ r. key_cmp key (root_of r.path) ≡ Less) (record_of k rows) (λ r e. ap (key_cmp key) e ∙ h.0) (record_rooted k rows))
    (flat_above key rows keys h.1)

-- what is found among records of greater keys has a greater root
found_above : (test : Row → Bool) (key : List ℕ) (rows : List Row) (keys : List (List ℕ)) (row : Row) → AllByRecursion (λ k. key_cmp key k ≡ Less) keys
    → found test rows keys ≡ Some row → key_cmp key (root_of row.path) ≡ Less
found_above test key rows keys row h e =
    find_has (λ r. key_cmp key (root_of r.path) ≡ Less) test (flat_map (λ k. record_of k rows) keys) row (flat_above key rows keys h) e

found_in : (test : Row → Bool) (key : List ℕ) (rows : List Row) (row : Row) → find test (record_of key rows) ≡ Some row → root_of row.path ≡ key
found_in test key rows row e = find_has (λ r. root_of r.path ≡ key) test (record_of key rows) row (record_rooted key rows) e

-- the first record is needed, and where it doesn't have the row those behind it
pub walk_head : (test : Row → Bool) (mode : Mode) (rows : List Row) (key : List ℕ) (keys : List (List ℕ)) → IsStrictlySortedBy key_cmp (key ∷ keys)
    → walk test mode rows (key ∷ keys) ≡ record_need mode key ∷ option_map_or (λ row. []) (find test (record_of key rows)) (walk test mode rows keys)
walk_head test mode rows key keys s = by (find test (record_of key rows)) refl
  where
    up : AllByRecursion (λ k. key_cmp key k ≡ Less) keys
    up = sorted_head key_cmp key keys s

    alone : (root : List ℕ) → root ≡ key → filter (λ k. not (is_lt (key_cmp root k))) (key ∷ keys) ≡ key ∷ []
    alone root e =
        ap (λ r. filter (λ k. not (is_lt (key_cmp r k))) (key ∷ keys)) e
        ∙ (ap (λ o. cond (not (is_lt o)) (key ∷ filter (λ k. not (is_lt (key_cmp key k))) keys) (filter (λ k. not (is_lt (key_cmp key k))) keys)) (tied_itself key_total key)
        ∙ ap (λ ks. key ∷ ks)
        (filter_none (λ k. not (is_lt (key_cmp key k))) keys (all_then (λ k. key_cmp key k ≡ Less) (λ k. not (is_lt (key_cmp key k)) ≡ false) keys (λ k e. ap (λ o. not (is_lt o)) e) up)))

    later : (o : Option Row) → found test rows keys ≡ o → up_to o (key ∷ keys) ≡ key ∷ up_to o keys
    later None e = refl
    later (Some row) e =
        ap (λ o. cond (not (is_lt o)) (key ∷ filter (λ k. not (is_lt (key_cmp (root_of row.path) k))) keys) (filter (λ k. not (is_lt (key_cmp (root_of row.path) k))) keys))
        (turned_less key_total key (root_of row.path) (found_above test key rows keys row up e))

    by : (o : Option Row) → find test (record_of key rows) ≡ o
        → walk test mode rows (key ∷ keys) ≡ record_need mode key ∷ option_map_or (λ row. []) (find test (record_of key rows)) (walk test mode rows keys)
    by None e =
        ap (λ o. map (record_need mode) (up_to o (key ∷ keys))) (find_back test (record_of key rows) (flat_map (λ k. record_of k rows) keys) e)
        ∙ (ap (map (record_need mode)) (later (found test rows keys) refl)
        ∙ sym (ap (λ o. record_need mode key ∷ option_map_or (λ row. []) o (walk test mode rows keys)) e))
    by (Some row) e =
        ap (λ o. map (record_need mode) (up_to o (key ∷ keys))) (find_front test (record_of key rows) (flat_map (λ k. record_of k rows) keys) row e)
        ∙ (ap (map (record_need mode)) (alone (root_of row.path) (found_in test key rows row e))
        ∙ sym (ap (λ o. record_need mode key ∷ option_map_or (λ r. []) o (walk test mode rows keys)) e))

-- the first row after a place that fits, as a test
abbrev pub next_fits : Dbd → List Ssa → Option (List (ℕ × List ℕ)) → Row → Bool
next_fits dbd ssas place row = is_after place row.path && fits dbd.types ssas row.path

module _ (dbd : Dbd) (all : IsHierarchy dbd.types) (rows : List Row) (valid : AreRows dbd rows) where
  -- a search from the start goes along all records
  pub found_all : (test : Row → Bool) → find test rows ≡ found test rows (roots rows)
  found_all test = ap (find test) (by_records dbd all rows valid)

  pub along_is : (mode : Mode) (ssas : List Ssa)
      → along mode (first_after dbd.types ssas None rows) (roots rows) ≡ sequence_need Shared ∷ walk (next_fits dbd ssas None) mode rows (roots rows)
  along_is mode ssas = ap (λ o. along mode o (roots rows)) (found_all (next_fits dbd ssas None))

  module _ (ssas : List Ssa) (place : List (ℕ × List ℕ)) (path : IsPath dbd.types place) where
    -- a search from a place finds in its record, or goes along those behind it
    pub found_from : first_after dbd.types ssas (Some place) rows
        ≡ find (next_fits dbd ssas (Some place)) (record_of (root_of place) rows ++ flat_map (λ key. record_of key rows) (roots_behind (root_of place) (roots rows)))
    found_from =
        sym (after_in_later dbd.types all ssas place rows path (all_then (IsRow dbd.types rows) (λ r. IsPath dbd.types r.path) rows (λ r h. h.path) valid.each))
        ∙ ap (find (next_fits dbd ssas (Some place)))
        (from_root (root_of place) rows (rows_rising dbd all rows valid) ∙ ap (λ rs. record_of (root_of place) rows ++ rs) (after_by_records dbd all rows valid (root_of place)))

    pub found_here : (row : Row) → find (next_fits dbd ssas (Some place)) (record_of (root_of place) rows) ≡ Some row → first_after dbd.types ssas (Some place) rows ≡ Some row
    found_here row e =
        found_from ∙ find_front (next_fits dbd ssas (Some place)) (record_of (root_of place) rows) (flat_map (λ key. record_of key rows) (roots_behind (root_of place) (roots rows))) row e

    pub found_behind : find (next_fits dbd ssas (Some place)) (record_of (root_of place) rows) ≡ None
        → first_after dbd.types ssas (Some place) rows ≡ found (next_fits dbd ssas (Some place)) rows (roots_behind (root_of place) (roots rows))
    found_behind e =
        found_from ∙ find_back (next_fits dbd ssas (Some place)) (record_of (root_of place) rows) (flat_map (λ key. record_of key rows) (roots_behind (root_of place) (roots rows))) e

    pub onward_is : (mode : Mode)
        → onward mode (Some place) (first_after dbd.types ssas (Some place) rows) (roots rows)
        ≡ record_need mode (root_of place)
        ∷ option_map_or (λ row. []) (find (next_fits dbd ssas (Some place)) (record_of (root_of place) rows))
        (sequence_need Shared ∷ walk (next_fits dbd ssas (Some place)) mode rows (roots_behind (root_of place) (roots rows)))
    onward_is mode = by (find (next_fits dbd ssas (Some place)) (record_of (root_of place) rows)) refl
      where
        above : AllByRecursion (λ k. key_cmp (root_of place) k ≡ Less) (roots_behind (root_of place) (roots rows))
        above =
            all_then (λ k. is_lt (key_cmp (root_of place) k) ≡ true) (λ k. key_cmp (root_of place) k ≡ Less) (roots_behind (root_of place) (roots rows)) (λ k e. is_lt-true _ e)
            (filter_passes (λ k. is_lt (key_cmp (root_of place) k)) (roots rows))

        not_reached : (o : Option Row) → found (next_fits dbd ssas (Some place)) rows (roots_behind (root_of place) (roots rows)) ≡ o → has_reached (root_of place) o ≡ false
        not_reached None e = refl
        not_reached (Some row) e = ap is_eq (found_above (next_fits dbd ssas (Some place)) (root_of place) rows (roots_behind (root_of place) (roots rows)) row above e)

        by : (o : Option Row) → find (next_fits dbd ssas (Some place)) (record_of (root_of place) rows) ≡ o
            → onward mode (Some place) (first_after dbd.types ssas (Some place) rows) (roots rows)
            ≡ record_need mode (root_of place)
            ∷ option_map_or (λ row. []) (find (next_fits dbd ssas (Some place)) (record_of (root_of place) rows))
            (sequence_need Shared ∷ walk (next_fits dbd ssas (Some place)) mode rows (roots_behind (root_of place) (roots rows)))
        by None e =
            ap (λ o. onward mode (Some place) o (roots rows)) (found_behind e)
            ∙ (ap (λ b. record_need mode (root_of place) ∷ cond b [] (sequence_need Shared ∷ walk (next_fits dbd ssas (Some place)) mode rows (roots_behind (root_of place) (roots rows))))
            (not_reached (found (next_fits dbd ssas (Some place)) rows (roots_behind (root_of place) (roots rows))) refl)
            ∙ sym (ap (λ o. record_need mode (root_of place)
            ∷ option_map_or (λ row. []) o (sequence_need Shared ∷ walk (next_fits dbd ssas (Some place)) mode rows (roots_behind (root_of place) (roots rows)))) e))
        by (Some row) e =
            ap (λ o. onward mode (Some place) o (roots rows)) (found_here row e)
            ∙ (ap (λ b. record_need mode (root_of place) ∷ cond b [] (along mode (Some row) (roots_behind (root_of place) (roots rows))))
            (ap (λ k. is_eq (key_cmp (root_of place) k)) (found_in (next_fits dbd ssas (Some place)) (root_of place) rows row e) ∙ ap is_eq (tied_itself key_total (root_of place)))
            ∙ sym (ap (λ o. record_need mode (root_of place)
            ∷ option_map_or (λ r. []) o (sequence_need Shared ∷ walk (next_fits dbd ssas (Some place)) mode rows (roots_behind (root_of place) (roots rows)))) e))
