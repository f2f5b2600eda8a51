-- A call answers and changes alike on two lists of rows that agree on its footprint.
use Rattle.std.proofs.Common.{◌≡◌, ◌≢◌, ℕ, ◌≤◌, ◌∷◌, [], List, length, refl, sym, ◌∙◌, ap, subst, Bool, true, false, cond, not, ◌&&◌, Option, None, Some, eqb, arith, suc}
use Rattle.std.specs.List.{AllByRecursion, find, list_all}
use Rattle.std.specs.Prelude.{IfSome, nat_le}
use Rattle.std.specs.Option.{option_map_or}
use Rattle.std.specs.Ordering.{is_lt}
use Rattle.std.proofs.lemmas.Bool.{false≢true, eq-eqb, ne_eqb}
use Rattle.tm_types.specs.declared.dbd.Dbd.{Dbd}
use Rattle.tm_types.specs.declared.dbd.SegType.{SegType}
use Rattle.tm_types.specs.declared.function.Function.{Function}
use Rattle.tm_types.specs.declared.function.Function.TheVariants.{GU, GN, GNP, GHU, GHN, GHNP, ISRT, REPL, DLET, PURG, CHNG, ROLB, ROLL}
use Rattle.tm_types.specs.declared.resource.Mode.{Mode}
use Rattle.tm_types.specs.declared.resource.Mode.TheVariants.{Shared, Exclusive}
use Rattle.tm_types.specs.declared.status.Status.{Status}
use Rattle.tm_types.specs.declared.status.Status.TheVariants.{Blank, GE, GP, II, DJ, DA, AM}
use Rattle.tm_types.specs.Segment.{is_printable}
use Rattle.tm_types.specs.SegTypes.{IsHierarchy}
use Rattle.model_data.specs.declared.row.Row.{Row}
use Rattle.model_data.specs.Path.{key_cmp, root_of, end_type, parent_path, IsPath}
use Rattle.model_data.specs.Record.{IsUnder}
use Rattle.model_data.specs.Row.{IsRow}
use Rattle.model_data.specs.Rows.{record_of, with_record, roots, passes_length, AreRows}
use Rattle.model_data.proofs.Lists.{all_then, sorted_filter}
use Rattle.model_data.proofs.Records.{with_record_itself}
use Rattle.model_data.specs.declared.call.DbCall.{DbCall}
use Rattle.model_data.specs.declared.call.Position.{Position}
use Rattle.model_data.specs.declared.call.Reach.{Reach}
use Rattle.model_data.specs.declared.call.Reach.TheVariants.{Start, Next, Parent}
use Rattle.model_data.specs.declared.call.RowsLimit.{RowsLimit}
use Rattle.model_data.specs.declared.call.RowsLimit.TheVariants.{Roots, RecordLength}
use Rattle.model_data.specs.Search.{fitted_key, data_length, is_row_there, first_after, first_below}
use Rattle.model_data.specs.GetCalls.{asked_root, row_reached, missed_status, reached_status, position_at, position_missed}
use Rattle.model_data.specs.ChangeCalls.{insert_path, insert_row, insert_fault, keeps_key, replace_fault, delete_fault, with_row, with_data, without_path, passed_limit}
use Rattle.model_data.specs.DatabaseCalls.{DliResult, answered_unchanged, changed_to, unheld, get, insert, replace, delete, is_call_allowed, position_denied, denied, allowed, dli}
use Rattle.model_data.specs.Conditions.{AreInsertSsas, AreSsasOf, IsDbCall, IsPosition}
use Rattle.model_data.specs.Footprint.{record_need, sequence_need, roots_behind, onward, search_needs, parent_needs, insert_needs, replace_needs, delete_needs, allowed_needs, footprint, AgreeOn}
use Rattle.dli_calls.proofs.Edits.{row_added, under_with_row, row_changed as data_changed, under_changed, rows_removed, under_removed}
use Rattle.dli_calls.proofs.NewRows.{insert_is_row, replace_is_row}
use Rattle.row_search.proofs.Places.{there_in_record, below_in_record, asked_in_record}
use Rattle.dli_calls.proofs.Removing.{kept_there, held_there}
use Rattle.dli_calls.specs.AlikeCalls.{AreAlike}
use Rattle.dli_calls.proofs.Keys.{roots_ascending}
use Rattle.dli_calls.proofs.Walk.{found, walk, walk_found, next_fits, found_all, found_here, found_behind, along_is, onward_is}

-- a call that changes nothing, and answers alike
still : (dbd : Dbd) (a b : List Row) (status other : Status) (area bytes : Option (List ℕ)) (at after : Position) → status ≡ other → area ≡ bytes → at ≡ after
    → AreAlike dbd a b (answered_unchanged status area a at) (answered_unchanged other bytes b after)
still dbd a b status other area bytes at after s d p =
    record {
      status = s;
      area = d;
      position = p;
      changed = refl;
      refusal = refl;
      change = None;
      root = tt;
      whole = λ e. refl;
      under = tt;
      within = tt;
      rows_a = refl;
      rows_b = refl;
    }

pub path_some : (types : List SegType) (path : List (ℕ × List ℕ)) → IsPath types path → 1 ≤ length path
path_some types [] h = absurd h
path_some types (p ∷ path) h = omega arith

-- what is there in a record that two lists of rows have is there in both
there_alike : (a b : List Row) (path : List (ℕ × List ℕ)) → record_of (root_of path) a ≡ record_of (root_of path) b → is_row_there path a ≡ is_row_there path b
there_alike a b path e = sym (there_in_record path a) ∙ (ap (is_row_there path) e ∙ there_in_record path b)

module _ (dbd : Dbd) (all : IsHierarchy dbd.types) (a b : List Row) (valid_a : AreRows dbd a) (valid_b : AreRows dbd b) where
  module _ (call : DbCall) (mode : Mode) where
    -- a search that goes on from a place finds the same row
    onward_found : (place : Option (List (ℕ × List ℕ))) → IfSome place (IsPath dbd.types)
        → AgreeOn (onward mode place (first_after dbd.types call.ssas place a) (roots a)) a b
        → first_after dbd.types call.ssas place a ≡ first_after dbd.types call.ssas place b
    onward_found None path h =
        let agree : AgreeOn (sequence_need Shared ∷ walk (next_fits dbd call.ssas None) mode a (roots a)) a b =
        subst (λ needs. AgreeOn needs a b) (along_is dbd all a valid_a mode call.ssas) h in
        found_all dbd all a valid_a (next_fits dbd call.ssas None)
        ∙ (walk_found (next_fits dbd call.ssas None) mode a b (roots a) (roots_ascending dbd all a valid_a) agree.1
        ∙ (ap (found (next_fits dbd call.ssas None) b) agree.0
        ∙ sym (found_all dbd all b valid_b (next_fits dbd call.ssas None))))
    onward_found (Some place) path h = by (find (next_fits dbd call.ssas (Some place)) (record_of (root_of place) a)) refl agree.1
      where
        agree : AgreeOn (record_need mode (root_of place)
            ∷ option_map_or (λ row. []) (find (next_fits dbd call.ssas (Some place)) (record_of (root_of place) a))
            (sequence_need Shared ∷ walk (next_fits dbd call.ssas (Some place)) mode a (roots_behind (root_of place) (roots a)))) a b
        agree = subst (λ needs. AgreeOn needs a b) (onward_is dbd all a valid_a call.ssas place path mode) h

        there : find (next_fits dbd call.ssas (Some place)) (record_of (root_of place) b) ≡ find (next_fits dbd call.ssas (Some place)) (record_of (root_of place) a)
        there = ap (find (next_fits dbd call.ssas (Some place))) (sym agree.0)

        by : (o : Option Row) → find (next_fits dbd call.ssas (Some place)) (record_of (root_of place) a) ≡ o
            → AgreeOn (option_map_or (λ row. []) (find (next_fits dbd call.ssas (Some place)) (record_of (root_of place) a))
            (sequence_need Shared ∷ walk (next_fits dbd call.ssas (Some place)) mode a (roots_behind (root_of place) (roots a)))) a b
            → first_after dbd.types call.ssas (Some place) a ≡ first_after dbd.types call.ssas (Some place) b
        by None e g =
            let more : AgreeOn (sequence_need Shared ∷ walk (next_fits dbd call.ssas (Some place)) mode a (roots_behind (root_of place) (roots a))) a b =
            subst (λ o. AgreeOn (option_map_or (λ row. []) o (sequence_need Shared ∷ walk (next_fits dbd call.ssas (Some place)) mode a (roots_behind (root_of place) (roots a)))) a b) e g in
            found_behind dbd all a valid_a call.ssas place path e
            ∙ (walk_found (next_fits dbd call.ssas (Some place)) mode a b (roots_behind (root_of place) (roots a))
            (sorted_filter key_cmp (λ key. is_lt (key_cmp (root_of place) key)) (roots a) (roots_ascending dbd all a valid_a)) more.1
            ∙ (ap (λ keys. found (next_fits dbd call.ssas (Some place)) b (roots_behind (root_of place) keys)) more.0
            ∙ sym (found_behind dbd all b valid_b call.ssas place path (there ∙ e))))
        by (Some row) e g =
            found_here dbd all a valid_a call.ssas place path row e
            ∙ sym (found_here dbd all b valid_b call.ssas place path row (there ∙ e))

    paths : (rows : List Row) → AreRows dbd rows → AllByRecursion (λ r. IsPath dbd.types r.path) rows
    paths rows valid = all_then (IsRow dbd.types rows) (λ r. IsPath dbd.types r.path) rows (λ r h. h.path) valid.each

    -- and so does any search
    search_found : (place : Option (List (ℕ × List ℕ))) → IfSome place (IsPath dbd.types) → AgreeOn (search_needs mode dbd call place a) a b
        → first_after dbd.types call.ssas place a ≡ first_after dbd.types call.ssas place b
    search_found place path h = by (asked_root dbd.types call.ssas) refl h
      where
        by : (o : Option (List ℕ)) → asked_root dbd.types call.ssas ≡ o
            → AgreeOn (option_map_or (λ root. record_need mode root ∷ []) o (onward mode place (first_after dbd.types call.ssas place a) (roots a))) a b
            → first_after dbd.types call.ssas place a ≡ first_after dbd.types call.ssas place b
        by None e g = onward_found place path g
        by (Some root) e g =
            sym (asked_in_record dbd.types all call.ssas place root a (paths a valid_a) e)
            ∙ (ap (first_after dbd.types call.ssas place) g.0
            ∙ asked_in_record dbd.types all call.ssas place root b (paths b valid_b) e)

    -- below a parent the same row is reached
    parent_found : (at : Position) → IsPosition dbd.types at → AgreeOn (parent_needs mode at) a b
        → (row_reached Parent dbd.types call.ssas at a ≡ row_reached Parent dbd.types call.ssas at b)
        × (missed_status Parent dbd.types call.ssas at a ≡ missed_status Parent dbd.types call.ssas at b)
    parent_found at position h = by at.parentage position.parentage h
      where
        by : (o : Option (List (ℕ × List ℕ))) → IfSome o (IsPath dbd.types) → AgreeOn (option_map_or (λ parent. record_need mode (root_of parent) ∷ []) o []) a b
            → (option_map_or (λ parent. cond (is_row_there parent a) (first_below dbd.types call.ssas at.position parent a) None) o None
            ≡ option_map_or (λ parent. cond (is_row_there parent b) (first_below dbd.types call.ssas at.position parent b) None) o None)
            × (option_map_or (λ parent. cond (is_row_there parent a) GE GP) o GP ≡ option_map_or (λ parent. cond (is_row_there parent b) GE GP) o GP)
        by None path g = (refl, refl)
        by (Some parent) path g =
            let there : is_row_there parent a ≡ is_row_there parent b = there_alike a b parent g.0 in
            let below : first_below dbd.types call.ssas at.position parent a ≡ first_below dbd.types call.ssas at.position parent b =
            sym (below_in_record dbd.types call.ssas at.position parent a (path_some dbd.types parent path))
            ∙ (ap (first_below dbd.types call.ssas at.position parent) g.0
            ∙ below_in_record dbd.types call.ssas at.position parent b (path_some dbd.types parent path)) in
            (λ i. cond (there i) (below i) None, λ i. cond (there i) GE GP)

  -- a get that reaches the same, and misses alike, answers alike
  get_alike : (reach : Reach) (hold : Bool) (call : DbCall) (at : Position) → row_reached reach dbd.types call.ssas at a ≡ row_reached reach dbd.types call.ssas at b
      → missed_status reach dbd.types call.ssas at a ≡ missed_status reach dbd.types call.ssas at b → AreAlike dbd a b (get reach hold dbd call at a) (get reach hold dbd call at b)
  get_alike reach hold call at r m =
      subst (AreAlike dbd a b (get reach hold dbd call at a)) (λ i. got b (r i) (m i))
      (by (row_reached reach dbd.types call.ssas at a) (missed_status reach dbd.types call.ssas at a))
    where
      got : List Row → Option Row → Status → DliResult
      got rows o status =
          option_map_or (λ row. answered_unchanged (reached_status reach call.ssas at row.path) (Some row.bytes) rows (position_at reach hold at row.path)) o
          (answered_unchanged status None rows (position_missed reach status at))

      by : (o : Option Row) (status : Status) → AreAlike dbd a b (got a o status) (got b o status)
      by None status = still dbd a b status status None None (position_missed reach status at) (position_missed reach status at) refl refl refl
      by (Some row) status =
          still dbd a b (reached_status reach call.ssas at row.path) (reached_status reach call.ssas at row.path) (Some row.bytes) (Some row.bytes)
          (position_at reach hold at row.path) (position_at reach hold at row.path) refl refl refl

  -- a limit is passed alike
  limits_alike : (root : List ℕ) (new_a new_b : List Row) → record_of root new_a ≡ record_of root new_b → record_of root a ≡ record_of root b
      → (record_of root a ≡ [] → roots a ≡ roots b) → passed_limit dbd root new_a a ≡ passed_limit dbd root new_b b
  limits_alike root new_a new_b image kept same_roots =
      by (record_of root a) refl ∙ (λ i. passed (image i) (kept i) (length (roots b)))
    where
      passed : List Row → List Row → ℕ → Option RowsLimit
      passed new old count =
          cond (not (eqb (length new) 0) && eqb (length old) 0 && nat_le dbd.roots count) (Some Roots)
          (cond (passes_length dbd new) (Some RecordLength) None)

      by : (old : List Row) → record_of root a ≡ old → passed (record_of root new_a) (record_of root a) (length (roots a)) ≡ passed (record_of root new_a) (record_of root a) (length (roots b))
      by [] e = ap (λ keys. passed (record_of root new_a) (record_of root a) (length keys)) (same_roots e)
      by (x ∷ old) e =
          let some : eqb (length (record_of root a)) 0 ≡ false = ne_eqb (length (record_of root a)) 0 (λ z. let long : length (record_of root a) ≡ suc (length old) = ap length e in absurd (omega arith)) in
          elim (not (eqb (length (record_of root new_a)) 0)) as (λ c. cond (c && eqb (length (record_of root a)) 0 && nat_le dbd.roots (length (roots a))) (Some Roots) (cond (passes_length dbd (record_of root new_a)) (Some RecordLength) None)
          ≡ cond (c && eqb (length (record_of root a)) 0 && nat_le dbd.roots (length (roots b))) (Some Roots) (cond (passes_length dbd (record_of root new_a)) (Some RecordLength) None)) [
            | true ↦ rw some refl
            | false ↦ refl
          ]

  -- a change of one record to the same image is one alike
  changed_alike : (root : List ℕ) (new_a new_b image : List Row) (before after : Position) → new_a ≡ with_record root image a → new_b ≡ with_record root image b
      → IsUnder dbd.types root image → record_of root a ≡ record_of root b → (record_of root a ≡ [] → roots a ≡ roots b)
      → AreAlike dbd a b (changed_to dbd root a before new_a after) (changed_to dbd root b before new_b after)
  changed_alike root new_a new_b image before after is_a is_b under kept same_roots =
      subst (λ o. AreAlike dbd a b (changed_to dbd root a before new_a after) (by_limit b new_b o)) limits (by (passed_limit dbd root new_a a) refl)
    where
      by_limit : List Row → List Row → Option RowsLimit → DliResult
      by_limit old new o =
          option_map_or
          (λ limit. record { status = Blank; area = None; rows = old; position = before; changed = Some root; refusal = Some limit }) o
          (record { status = Blank; area = None; rows = new; position = after; changed = Some root; refusal = None })

      own : (rows new : List Row) → new ≡ with_record root image rows → record_of root new ≡ image
      own rows new is = ap (record_of root) is ∙ with_record_itself root image rows under.one_root

      limits : passed_limit dbd root new_a a ≡ passed_limit dbd root new_b b
      limits = limits_alike root new_a new_b (own a new_a is_a ∙ sym (own b new_b is_b)) kept same_roots

      by : (o : Option RowsLimit) → passed_limit dbd root new_a a ≡ o → AreAlike dbd a b (by_limit a new_a o) (by_limit b new_b o)
      by None e =
          record {
            status = refl;
            area = refl;
            position = refl;
            changed = refl;
            refusal = refl;
            change = Some (root, image);
            root = refl;
            whole = λ accepted. refl;
            under = under;
            within = e;
            rows_a = is_a;
            rows_b = is_b;
          }
      by (Some limit) e =
          record {
            status = refl;
            area = refl;
            position = refl;
            changed = refl;
            refusal = refl;
            change = None;
            root = tt;
            whole = λ accepted. (let clash : Some limit ≡ None = accepted in absurd (cc));
            under = tt;
            within = tt;
            rows_a = refl;
            rows_b = refl;
          }

  -- an ISRT
  insert_record : (path : List (ℕ × List ℕ)) → AgreeOn (insert_needs path) a b → record_of (root_of path) a ≡ record_of (root_of path) b
  insert_record path h = by (eqb (length path) 1) h
    where
      by : (c : Bool) → AgreeOn (cond c (sequence_need Exclusive ∷ record_need Exclusive (root_of path) ∷ []) (record_need Exclusive (root_of path) ∷ [])) a b
          → record_of (root_of path) a ≡ record_of (root_of path) b
      by true g = g.1.0
      by false g = g.0

  insert_roots : (path : List (ℕ × List ℕ)) → eqb (length path) 1 ≡ true → AgreeOn (insert_needs path) a b → roots a ≡ roots b
  insert_roots path e h =
      (subst (λ c. AgreeOn (cond c (sequence_need Exclusive ∷ record_need Exclusive (root_of path) ∷ []) (record_need Exclusive (root_of path) ∷ [])) a b) e h).0

  parent_rooted : (path : List (ℕ × List ℕ)) → eqb (length path) 1 ≡ false → root_of (parent_path path) ≡ root_of path
  parent_rooted [] e = refl
  parent_rooted (p ∷ []) e = absurd (false≢true (sym e ∙ eq-eqb (length (p ∷ [])) 1 refl))
  parent_rooted (p ∷ q ∷ path) e = refl

  insert_faults : (path : List (ℕ × List ℕ)) → AgreeOn (insert_needs path) a b → insert_fault path a ≡ insert_fault path b
  insert_faults path h = by (eqb (length path) 1) refl
    where
      here : is_row_there path a ≡ is_row_there path b
      here = there_alike a b path (insert_record path h)

      by : (c : Bool) → eqb (length path) 1 ≡ c → insert_fault path a ≡ insert_fault path b
      by true e = rw e (ap (λ t. cond t (Some II) None) here)
      by false e =
          let parent : is_row_there (parent_path path) a ≡ is_row_there (parent_path path) b =
          there_alike a b (parent_path path) (subst (λ k. record_of k a ≡ record_of k b) (sym (parent_rooted path e)) (insert_record path h)) in
          rw e (λ i. cond (not (parent i)) (Some GE) (cond (here i) (Some II) None))

  -- where a dependent may be inserted, its record is there
  pub parent_some : (path : List (ℕ × List ℕ)) → eqb (length path) 1 ≡ false → insert_fault path a ≡ None → record_of (root_of path) a ≢ []
  parent_some path e none empty = by (is_row_there (parent_path path) a) refl
    where
      by : (c : Bool) → is_row_there (parent_path path) a ≡ c → ⊥
      by true f =
          let found : is_row_there (parent_path path) [] ≡ true =
          ap (is_row_there (parent_path path)) (sym empty ∙ ap (λ k. record_of k a) (sym (parent_rooted path e))) ∙ (there_in_record (parent_path path) a ∙ f) in
          absurd (false≢true found)
      by false f =
          let clash : Some GE ≡ None = sym (λ i. cond (not (e i) && not (f i)) (Some GE) (cond (is_row_there path a) (Some II) None)) ∙ none in absurd (cc)

  insert_alike : (call : DbCall) (at : Position) → AreInsertSsas dbd.types 0 call.ssas → list_all is_printable call.area ≡ true
      → AgreeOn (insert_needs (insert_path dbd.types call.ssas call.area)) a b → AreAlike dbd a b (insert dbd call at a) (insert dbd call at b)
  insert_alike call at ssas printable h =
      subst (λ o. AreAlike dbd a b (insert dbd call at a) (by_fault b o)) (insert_faults (insert_path dbd.types call.ssas call.area) h)
      (by (insert_fault (insert_path dbd.types call.ssas call.area) a) refl)
    where
      path : List (ℕ × List ℕ)
      path = insert_path dbd.types call.ssas call.area

      row : Row
      row = insert_row dbd.types call.ssas call.area

      by_fault : List Row → Option Status → DliResult
      by_fault rows o =
          option_map_or (λ status. answered_unchanged status None rows (unheld at)) o
          (changed_to dbd (root_of (insert_path dbd.types call.ssas call.area)) rows at (with_row (insert_row dbd.types call.ssas call.area) rows)
          (record { position = Some (insert_path dbd.types call.ssas call.area); parentage = at.parentage; hold = None }))

      same_record : record_of (root_of path) a ≡ record_of (root_of path) b
      same_record = insert_record path h

      added : (rows : List Row) → AreRows dbd rows → insert_fault path rows ≡ None → with_row row rows ≡ with_record (root_of path) (with_row row (record_of (root_of path) rows)) rows
      added rows valid e = sym (row_added dbd all rows valid (root_of path) row refl (insert_is_row dbd.types all call.ssas call.area rows ssas printable e))

      same_roots : insert_fault path a ≡ None → record_of (root_of path) a ≡ [] → roots a ≡ roots b
      same_roots e empty = root_or (eqb (length path) 1) refl
        where
          root_or : (c : Bool) → eqb (length path) 1 ≡ c → roots a ≡ roots b
          root_or true f = insert_roots path f h
          root_or false f = absurd (parent_some path f e empty)

      by : (o : Option Status) → insert_fault path a ≡ o → AreAlike dbd a b (by_fault a o) (by_fault b o)
      by (Some status) e = still dbd a b status status None None (unheld at) (unheld at) refl refl refl
      by None e =
          changed_alike (root_of path) (with_row row a) (with_row row b) (with_row row (record_of (root_of path) a)) at (record { position = Some path; parentage = at.parentage; hold = None })
          (added a valid_a e)
          (added b valid_b (sym (insert_faults path h) ∙ e) ∙ ap (λ rs. with_record (root_of path) (with_row row rs) b) (sym same_record))
          (under_with_row dbd all a valid_a (root_of path) row refl (insert_is_row dbd.types all call.ssas call.area a ssas printable e))
          same_record (same_roots e)

  -- a REPL
  replace_held : (call : DbCall) (at : Position) (held : List (ℕ × List ℕ)) → IsPath dbd.types held → list_all is_printable call.area ≡ true
      → AgreeOn (replace_needs dbd.types call.area held) a b
      → AreAlike dbd a b
      (option_map_or (λ status. answered_unchanged status None a (unheld at)) (replace_fault dbd.types held call.area a)
      (changed_to dbd (root_of held) a at (with_data held (fitted_key (data_length dbd.types (end_type held)) call.area) a) (unheld at)))
      (option_map_or (λ status. answered_unchanged status None b (unheld at)) (replace_fault dbd.types held call.area b)
      (changed_to dbd (root_of held) b at (with_data held (fitted_key (data_length dbd.types (end_type held)) call.area) b) (unheld at)))
  replace_held call at held path printable h = by (keeps_key dbd.types held call.area) refl h
    where
      bytes : List ℕ
      bytes = fitted_key (data_length dbd.types (end_type held)) call.area

      by_fault : List Row → Option Status → DliResult
      by_fault rows o =
          option_map_or (λ status. answered_unchanged status None rows (unheld at)) o
          (changed_to dbd (root_of held) rows at (with_data held bytes rows) (unheld at))

      fresh : (rows : List Row) → AreRows dbd rows → replace_fault dbd.types held call.area rows ≡ None → IsRow dbd.types rows (record { path = held; bytes = bytes })
      fresh rows valid e = replace_is_row dbd.types all held call.area rows valid.each printable e

      whole : (rows : List Row) → AreRows dbd rows → replace_fault dbd.types held call.area rows ≡ None
          → with_data held bytes rows ≡ with_record (root_of held) (with_data held bytes (record_of (root_of held) rows)) rows
      whole rows valid e = sym (data_changed dbd all rows valid (root_of held) held bytes refl (fresh rows valid e))

      kept : record_of (root_of held) a ≡ record_of (root_of held) b → replace_fault dbd.types held call.area a ≡ replace_fault dbd.types held call.area b
      kept same = ap (λ t. cond (not (keeps_key dbd.types held call.area)) (Some DA) (cond t None (Some DJ))) (there_alike a b held same)

      either : record_of (root_of held) a ≡ record_of (root_of held) b → (o : Option Status) → replace_fault dbd.types held call.area a ≡ o → AreAlike dbd a b (by_fault a o) (by_fault b o)
      either same (Some status) e = still dbd a b status status None None (unheld at) (unheld at) refl refl refl
      either same None e =
          changed_alike (root_of held) (with_data held bytes a) (with_data held bytes b) (with_data held bytes (record_of (root_of held) a)) at (unheld at)
          (whole a valid_a e)
          (whole b valid_b (sym (kept same) ∙ e) ∙ ap (λ rs. with_record (root_of held) (with_data held bytes rs) b) (sym same))
          (under_changed dbd all a valid_a (root_of held) held bytes refl (fresh a valid_a e))
          same
          (λ empty. absurd (held_there held a (root_of held) refl (kept_there dbd.types held call.area a e) empty))

      by : (c : Bool) → keeps_key dbd.types held call.area ≡ c → AgreeOn (cond c (record_need Exclusive (root_of held) ∷ []) []) a b
          → AreAlike dbd a b (by_fault a (replace_fault dbd.types held call.area a)) (by_fault b (replace_fault dbd.types held call.area b))
      by true e g =
          subst (λ o. AreAlike dbd a b (by_fault a (replace_fault dbd.types held call.area a)) (by_fault b o)) (kept g.0) (either g.0 (replace_fault dbd.types held call.area a) refl)
      by false e g =
          let other : (rows : List Row) → replace_fault dbd.types held call.area rows ≡ Some DA = λ rows. ap (λ c. cond (not c) (Some DA) (delete_fault held rows)) e in
          subst (λ (z : Option Status × Option Status). AreAlike dbd a b (by_fault a z.0) (by_fault b z.1)) (λ i. (sym (other a) i, sym (other b) i))
          (still dbd a b DA DA None None (unheld at) (unheld at) refl refl refl)

  replace_alike : (call : DbCall) (at : Position) → IsPosition dbd.types at → list_all is_printable call.area ≡ true
      → AgreeOn (option_map_or (replace_needs dbd.types call.area) at.hold []) a b → AreAlike dbd a b (replace dbd call at a) (replace dbd call at b)
  replace_alike call at position printable h = by at.hold position.hold h
    where
      on : List Row → List (ℕ × List ℕ) → DliResult
      on rows held =
          option_map_or (λ status. answered_unchanged status None rows (unheld at)) (replace_fault dbd.types held call.area rows)
          (changed_to dbd (root_of held) rows at (with_data held (fitted_key (data_length dbd.types (end_type held)) call.area) rows) (unheld at))

      by : (o : Option (List (ℕ × List ℕ))) → IfSome o (IsPath dbd.types) → AgreeOn (option_map_or (replace_needs dbd.types call.area) o []) a b
          → AreAlike dbd a b (option_map_or (on a) o (answered_unchanged DJ None a (unheld at))) (option_map_or (on b) o (answered_unchanged DJ None b (unheld at)))
      by None path g = still dbd a b DJ DJ None None (unheld at) (unheld at) refl refl refl
      by (Some held) path g = replace_held call at held path printable g

  -- a DLET
  delete_alike : (at : Position) → IsPosition dbd.types at → AgreeOn (option_map_or delete_needs at.hold []) a b → AreAlike dbd a b (delete dbd at a) (delete dbd at b)
  delete_alike at position h = by at.hold position.hold h
    where
      by_fault : List Row → List (ℕ × List ℕ) → Option Status → DliResult
      by_fault rows held o =
          option_map_or (λ status. answered_unchanged status None rows (unheld at)) o
          (changed_to dbd (root_of held) rows at (without_path held rows) (unheld at))

      whole : (held : List (ℕ × List ℕ)) → IsPath dbd.types held → (rows : List Row) → AreRows dbd rows
          → without_path held rows ≡ with_record (root_of held) (without_path held (record_of (root_of held) rows)) rows
      whole held path rows valid = sym (rows_removed dbd all rows valid (root_of held) held refl (path_some dbd.types held path))

      kept : (held : List (ℕ × List ℕ)) → record_of (root_of held) a ≡ record_of (root_of held) b → delete_fault held a ≡ delete_fault held b
      kept held same = ap (λ t. cond t None (Some DJ)) (there_alike a b held same)

      either : (held : List (ℕ × List ℕ)) → IsPath dbd.types held → record_of (root_of held) a ≡ record_of (root_of held) b → (o : Option Status) → delete_fault held a ≡ o
          → AreAlike dbd a b (by_fault a held o) (by_fault b held o)
      either held path same (Some status) e = still dbd a b status status None None (unheld at) (unheld at) refl refl refl
      either held path same None e =
          changed_alike (root_of held) (without_path held a) (without_path held b) (without_path held (record_of (root_of held) a)) at (unheld at)
          (whole held path a valid_a)
          (whole held path b valid_b ∙ ap (λ rs. with_record (root_of held) (without_path held rs) b) (sym same))
          (under_removed dbd all a valid_a (root_of held) held refl (path_some dbd.types held path))
          same
          (λ empty. absurd (held_there held a (root_of held) refl e empty))

      by : (o : Option (List (ℕ × List ℕ))) → IfSome o (IsPath dbd.types) → AgreeOn (option_map_or delete_needs o []) a b
          → AreAlike dbd a b (option_map_or (λ held. by_fault a held (delete_fault held a)) o (answered_unchanged DJ None a (unheld at)))
          (option_map_or (λ held. by_fault b held (delete_fault held b)) o (answered_unchanged DJ None b (unheld at)))
      by None path g = still dbd a b DJ DJ None None (unheld at) (unheld at) refl refl refl
      by (Some held) path g =
          subst (λ o. AreAlike dbd a b (by_fault a held (delete_fault held a)) (by_fault b held o)) (kept held g.0) (either held path g.0 (delete_fault held a) refl)

  -- a call that isn't allowed
  denied_alike : (function : Function) (at : Position) → AreAlike dbd a b (denied function at a) (denied function at b)
  denied_alike function at = still dbd a b AM AM None None (position_denied function at) (position_denied function at) refl refl refl

  allowed_alike : (function : Function) (call : DbCall) (at : Position) → IsPosition dbd.types at → AreSsasOf function dbd.types call.ssas → list_all is_printable call.area ≡ true
      → AgreeOn (allowed_needs function dbd call at a) a b → AreAlike dbd a b (allowed function dbd call at a) (allowed function dbd call at b)
  allowed_alike GU call at position ssas printable h = get_alike Start false call at (search_found call Shared None tt h) refl
  allowed_alike GN call at position ssas printable h = get_alike Next false call at (search_found call Shared at.position position.position h) refl
  allowed_alike GNP call at position ssas printable h =
      get_alike Parent false call at (parent_found call Shared at position h).0 (parent_found call Shared at position h).1
  allowed_alike GHU call at position ssas printable h = get_alike Start true call at (search_found call Exclusive None tt h) refl
  allowed_alike GHN call at position ssas printable h = get_alike Next true call at (search_found call Exclusive at.position position.position h) refl
  allowed_alike GHNP call at position ssas printable h =
      get_alike Parent true call at (parent_found call Exclusive at position h).0 (parent_found call Exclusive at position h).1
  allowed_alike ISRT call at position ssas printable h = insert_alike call at ssas printable h
  allowed_alike REPL call at position ssas printable h = replace_alike call at position printable h
  allowed_alike DLET call at position ssas printable h = delete_alike at position h
  allowed_alike PURG call at position ssas printable h = denied_alike PURG at
  allowed_alike CHNG call at position ssas printable h = denied_alike CHNG at
  allowed_alike ROLB call at position ssas printable h = denied_alike ROLB at
  allowed_alike ROLL call at position ssas printable h = denied_alike ROLL at

  -- on rows that agree on what it needs, a call answers and changes alike
  pub same_call : (call : DbCall) (at : Position) → IsPosition dbd.types at → IsDbCall dbd.types call → AgreeOn (footprint dbd call at a) a b
      → AreAlike dbd a b (dli dbd call at a) (dli dbd call at b)
  same_call call at position valid h = by (is_call_allowed call.function call.options) h
    where
      by : (c : Bool) → AgreeOn (cond c (allowed_needs call.function dbd call at a) []) a b
          → AreAlike dbd a b (cond c (allowed call.function dbd call at a) (denied call.function at a)) (cond c (allowed call.function dbd call at b) (denied call.function at b))
      by true g = allowed_alike call.function call at position valid.ssas valid.area g
      by false g = denied_alike call.function at
