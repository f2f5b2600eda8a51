-- What a call changes it needs alone: the record, and where a root comes or goes, the sequence.
use Rattle.std.proofs.Common.{◌≡◌, ◌≢◌, ℕ, ◌++◌, ◌∷◌, [], List, length, refl, sym, ◌∙◌, ap, subst, Bool, true, false, cond, not, ◌&&◌, Option, None, Some, eqb, ◌⊎◌, inl, inr}
use Rattle.std.specs.List.{list_all}
use Rattle.std.specs.Prelude.{IfSome, filter}
use Rattle.std.specs.Option.{option_map_or}
use Rattle.std.specs.Ordering.{is_lt, is_gt}
use Rattle.std.proofs.lemmas.Bool.{false≢true, eq-eqb}
use Rattle.std.proofs.lemmas.Option.{same_Some, none-some}
use Rattle.tm_types.specs.declared.dbd.Dbd.{Dbd}
use Rattle.tm_types.specs.declared.function.Function.{Function}
use Rattle.tm_types.specs.declared.function.Function.TheVariants.{GU, GN, GNP, GHU, GHN, GHNP, ISRT, REPL, DLET, PURG, CHNG, ROLB, ROLL}
use Rattle.tm_types.specs.declared.resource.Mode.TheVariants.{Exclusive}
use Rattle.tm_types.specs.declared.status.Status.{Status}
use Rattle.tm_types.specs.declared.status.Status.TheVariants.{Blank, DJ, DA}
use Rattle.tm_types.specs.Segment.{is_printable}
use Rattle.tm_types.specs.SegTypes.{IsHierarchy}
use Rattle.model_data.specs.declared.row.Row.{Row}
use Rattle.model_data.specs.Path.{root_of, end_type, IsPath}
use Rattle.model_data.specs.Record.{IsUnder}
use Rattle.model_data.specs.Row.{IsRow, row_cmp}
use Rattle.model_data.specs.Rows.{record_of, rows_before, rows_after, with_record, roots, AreRows}
use Rattle.model_data.proofs.Roots.{first_row, record_roots, roots_append}
use Rattle.model_data.proofs.Whole.{record_is}
use Rattle.model_data.specs.declared.call.DbCall.{DbCall}
use Rattle.model_data.specs.declared.call.Position.{Position}
use Rattle.model_data.specs.declared.call.Reach.{Reach}
use Rattle.model_data.specs.declared.call.Reach.TheVariants.{Start, Next, Parent}
use Rattle.model_data.specs.declared.call.RowsLimit.{RowsLimit}
use Rattle.model_data.specs.Search.{fitted_key, data_length, is_within, pair_eq}
use Rattle.model_data.specs.GetCalls.{row_reached, missed_status, reached_status, position_at, position_missed}
use Rattle.model_data.specs.ChangeCalls.{insert_path, insert_row, insert_fault, keeps_key, replace_fault, delete_fault, with_row, with_data, without_path, passed_limit}
use Rattle.model_data.specs.DatabaseCalls.{DliResult, answered_unchanged, changed_to, unheld, get, insert, replace, delete, is_call_allowed, denied, allowed, dli}
use Rattle.model_data.specs.Conditions.{AreInsertSsas, AreSsasOf, IsDbCall, IsPosition}
use Rattle.model_data.specs.Footprint.{record_need, sequence_need, insert_needs, replace_needs, delete_needs, allowed_needs, footprint, IsNeeded}
use Rattle.row_search.proofs.Rising.{rows_rising, split_at_root, record_under}
use Rattle.dli_calls.proofs.Edits.{row_added, under_with_row, row_changed as data_changed, under_changed, rows_removed, under_removed}
use Rattle.dli_calls.proofs.NewRows.{insert_is_row, replace_is_row}
use Rattle.dli_calls.proofs.Removing.{kept_there, held_there}
use Rattle.dli_calls.proofs.Same.{path_some, parent_some}

module _ (dbd : Dbd) (rows : List Row) where
  -- a change names the record that it changes, also where it is refused
  names_root : (root : List ℕ) (new : List Row) (before after : Position) → (changed_to dbd root rows before new after).changed ≡ Some root
  names_root root new before after = by (passed_limit dbd root new rows)
    where
      by : (o : Option RowsLimit)
          → (option_map_or {U = DliResult} (λ limit. record { status = Blank; area = None; rows = rows; position = before; changed = Some root; refusal = Some limit }) o
          (record { status = Blank; area = None; rows = new; position = after; changed = Some root; refusal = None })).changed ≡ Some root
      by None = refl
      by (Some limit) = refl

  get_names_none : (reach : Reach) (hold : Bool) (call : DbCall) (at : Position) → (get reach hold dbd call at rows).changed ≡ None
  get_names_none reach hold call at = by (row_reached reach dbd.types call.ssas at rows)
    where
      by : (o : Option Row)
          → (option_map_or (λ row. answered_unchanged (reached_status reach call.ssas at row.path) (Some row.bytes) rows (position_at reach hold at row.path)) o
          (answered_unchanged (missed_status reach dbd.types call.ssas at rows) None rows (position_missed reach (missed_status reach dbd.types call.ssas at rows) at))).changed ≡ None
      by None = refl
      by (Some row) = refl

  none_named : {P : Type 0} (o : Option (List ℕ)) (root : List ℕ) → o ≡ None → o ≡ Some root → P
  none_named o root n e = absurd (none-some root (sym n ∙ e))

  insert_needed : (call : DbCall) (at : Position) (root : List ℕ) → (insert dbd call at rows).changed ≡ Some root
      → IsNeeded (record_need Exclusive root) (insert_needs (insert_path dbd.types call.ssas call.area))
  insert_needed call at root e = by (insert_fault path rows) e
    where
      path : List (ℕ × List ℕ)
      path = insert_path dbd.types call.ssas call.area

      needed : root_of path ≡ root → IsNeeded (record_need Exclusive root) (insert_needs path)
      needed same =
          elim (eqb (length path) 1) as (λ c. IsNeeded (record_need Exclusive root) (cond c (sequence_need Exclusive ∷ record_need Exclusive (root_of path) ∷ []) (record_need Exclusive (root_of path) ∷ []))) [
            | true ↦ inr (inl (ap (record_need Exclusive) same))
            | false ↦ inl (ap (record_need Exclusive) same)
          ]

      by : (o : Option Status)
          → (option_map_or (λ status. answered_unchanged status None rows (unheld at)) o
          (changed_to dbd (root_of path) rows at (with_row (insert_row dbd.types call.ssas call.area) rows) (record { position = Some path; parentage = at.parentage; hold = None }))).changed ≡ Some root
          → IsNeeded (record_need Exclusive root) (insert_needs path)
      by (Some status) f = none_named None root refl f
      by None f = needed (same_Some (root_of path) root (sym (names_root (root_of path) (with_row (insert_row dbd.types call.ssas call.area) rows) at (record { position = Some path; parentage = at.parentage; hold = None })) ∙ f))

  replace_needed : (call : DbCall) (at : Position) (root : List ℕ) → (replace dbd call at rows).changed ≡ Some root
      → IsNeeded (record_need Exclusive root) (option_map_or (replace_needs dbd.types call.area) at.hold [])
  replace_needed call at root e = by at.hold e
    where
      by_fault : List (ℕ × List ℕ) → Option Status → DliResult
      by_fault held o =
          option_map_or (λ status. answered_unchanged status None rows (unheld at)) o
          (changed_to dbd (root_of held) rows at (with_data held (fitted_key (data_length dbd.types (end_type held)) call.area) rows) (unheld at))

      same : (held : List (ℕ × List ℕ)) (o : Option Status) → (by_fault held o).changed ≡ Some root → root_of held ≡ root
      same held (Some status) f = none_named None root refl f
      same held None f =
          same_Some (root_of held) root (sym (names_root (root_of held) (with_data held (fitted_key (data_length dbd.types (end_type held)) call.area) rows) at (unheld at)) ∙ f)

      keeps : (held : List (ℕ × List ℕ)) → (by_fault held (replace_fault dbd.types held call.area rows)).changed ≡ Some root → (c : Bool) → keeps_key dbd.types held call.area ≡ c
          → IsNeeded (record_need Exclusive root) (cond c (record_need Exclusive (root_of held) ∷ []) [])
      keeps held f true g = inl (ap (record_need Exclusive) (same held (replace_fault dbd.types held call.area rows) f))
      keeps held f false g =
          none_named None root refl (subst (λ c. (by_fault held (cond (not c) (Some DA) (delete_fault held rows))).changed ≡ Some root) g f)

      by : (o : Option (List (ℕ × List ℕ))) → (option_map_or (λ held. by_fault held (replace_fault dbd.types held call.area rows)) o (answered_unchanged DJ None rows (unheld at))).changed ≡ Some root
          → IsNeeded (record_need Exclusive root) (option_map_or (replace_needs dbd.types call.area) o [])
      by None f = none_named None root refl f
      by (Some held) f =
          subst (λ c. IsNeeded (record_need Exclusive root) (cond c (record_need Exclusive (root_of held) ∷ []) [])) refl (keeps held f (keeps_key dbd.types held call.area) refl)

  delete_needed : (at : Position) (root : List ℕ) → (delete dbd at rows).changed ≡ Some root → IsNeeded (record_need Exclusive root) (option_map_or delete_needs at.hold [])
  delete_needed at root e = by at.hold e
    where
      by_fault : List (ℕ × List ℕ) → Option Status → DliResult
      by_fault held o =
          option_map_or (λ status. answered_unchanged status None rows (unheld at)) o (changed_to dbd (root_of held) rows at (without_path held rows) (unheld at))

      same : (held : List (ℕ × List ℕ)) (o : Option Status) → (by_fault held o).changed ≡ Some root → root_of held ≡ root
      same held (Some status) f = none_named None root refl f
      same held None f = same_Some (root_of held) root (sym (names_root (root_of held) (without_path held rows) at (unheld at)) ∙ f)

      by : (o : Option (List (ℕ × List ℕ))) → (option_map_or (λ held. by_fault held (delete_fault held rows)) o (answered_unchanged DJ None rows (unheld at))).changed ≡ Some root
          → IsNeeded (record_need Exclusive root) (option_map_or delete_needs o [])
      by None f = none_named None root refl f
      by (Some held) f = inl (ap (record_need Exclusive) (same held (delete_fault held rows) f))

  -- the record that a call changes, or is refused to change, it needs alone
  pub changed_needed : (call : DbCall) (at : Position) (root : List ℕ) → (dli dbd call at rows).changed ≡ Some root → IsNeeded (record_need Exclusive root) (footprint dbd call at rows)
  changed_needed call at root e = by (is_call_allowed call.function call.options) e
    where
      of : (function : Function) → (allowed function dbd call at rows).changed ≡ Some root → IsNeeded (record_need Exclusive root) (allowed_needs function dbd call at rows)
      of GU f = none_named (get Start false dbd call at rows).changed root (get_names_none Start false call at) f
      of GN f = none_named (get Next false dbd call at rows).changed root (get_names_none Next false call at) f
      of GNP f = none_named (get Parent false dbd call at rows).changed root (get_names_none Parent false call at) f
      of GHU f = none_named (get Start true dbd call at rows).changed root (get_names_none Start true call at) f
      of GHN f = none_named (get Next true dbd call at rows).changed root (get_names_none Next true call at) f
      of GHNP f = none_named (get Parent true dbd call at rows).changed root (get_names_none Parent true call at) f
      of ISRT f = insert_needed call at root f
      of REPL f = replace_needed call at root f
      of DLET f = delete_needed at root f
      of PURG f = none_named None root refl f
      of CHNG f = none_named None root refl f
      of ROLB f = none_named None root refl f
      of ROLL f = none_named None root refl f

      by : (c : Bool) → (cond c (allowed call.function dbd call at rows) (denied call.function at rows)).changed ≡ Some root
          → IsNeeded (record_need Exclusive root) (cond c (allowed_needs call.function dbd call at rows) [])
      by true f = of call.function f
      by false f = none_named None root refl f

-- what stands between two lists is some
some_between : (front : List Row) (row : Row) (back : List Row) → front ++ row ∷ back ≢ []
some_between [] row back = λ e. absurd (cc)
some_between (x ∷ front) row back = λ e. absurd (cc)

module _ (dbd : Dbd) (all : IsHierarchy dbd.types) (rows : List Row) (valid : AreRows dbd rows) where
  -- another image of a record that is there leaves the roots
  pub roots_stay : (root : List ℕ) (image : List Row) → record_of root rows ≢ [] → image ≢ [] → IsUnder dbd.types root image → roots (with_record root image rows) ≡ roots rows
  roots_stay root image there some under =
      joined image ∙ ((λ i. (roots (rows_before root rows) ++ same i) ++ roots (rows_after root rows))
      ∙ sym (ap roots (split_at_root root rows (rows_rising dbd all rows valid)) ∙ joined (record_of root rows)))
    where
      joined : (middle : List Row) → roots (rows_before root rows ++ middle ++ rows_after root rows) ≡ (roots (rows_before root rows) ++ roots middle) ++ roots (rows_after root rows)
      joined middle =
          roots_append (rows_before root rows ++ middle) (rows_after root rows)
          ∙ ap (λ keys. keys ++ roots (rows_after root rows)) (roots_append (rows_before root rows) middle)

      same : roots image ≡ roots (record_of root rows)
      same =
          record_roots dbd.types all root image (record { some = some; under = under })
          ∙ sym (record_roots dbd.types all root (record_of root rows) (record_is dbd rows root valid there).whole)

  -- a change that is refused leaves the rows
  refused_or : (root : List ℕ) (new : List Row) (before after : Position) → roots new ≡ roots rows → roots (changed_to dbd root rows before new after).rows ≡ roots rows
  refused_or root new before after e = by (passed_limit dbd root new rows)
    where
      by : (o : Option RowsLimit)
          → roots (option_map_or {U = DliResult} (λ limit. record { status = Blank; area = None; rows = rows; position = before; changed = Some root; refusal = Some limit }) o
          (record { status = Blank; area = None; rows = new; position = after; changed = Some root; refusal = None })).rows ≡ roots rows
      by None = e
      by (Some limit) = refl

  get_keeps : (reach : Reach) (hold : Bool) (call : DbCall) (at : Position) → roots (get reach hold dbd call at rows).rows ≡ roots rows
  get_keeps reach hold call at = by (row_reached reach dbd.types call.ssas at rows)
    where
      by : (o : Option Row)
          → roots (option_map_or (λ row. answered_unchanged (reached_status reach call.ssas at row.path) (Some row.bytes) rows (position_at reach hold at row.path)) o
          (answered_unchanged (missed_status reach dbd.types call.ssas at rows) None rows (position_missed reach (missed_status reach dbd.types call.ssas at rows) at))).rows ≡ roots rows
      by None = refl
      by (Some row) = refl

  -- an ISRT of a dependent
  insert_roots_stay : (call : DbCall) (at : Position) → AreInsertSsas dbd.types 0 call.ssas → list_all is_printable call.area ≡ true
      → eqb (length (insert_path dbd.types call.ssas call.area)) 1 ≡ false → roots (insert dbd call at rows).rows ≡ roots rows
  insert_roots_stay call at ssas printable dependent = by (insert_fault path rows) refl
    where
      path : List (ℕ × List ℕ)
      path = insert_path dbd.types call.ssas call.area

      row : Row
      row = insert_row dbd.types call.ssas call.area

      by : (o : Option Status) → insert_fault path rows ≡ o
          → roots (option_map_or (λ status. answered_unchanged status None rows (unheld at)) o
          (changed_to dbd (root_of path) rows at (with_row row rows) (record { position = Some path; parentage = at.parentage; hold = None }))).rows ≡ roots rows
      by (Some status) e = refl
      by None e =
          let fresh : IsRow dbd.types rows row = insert_is_row dbd.types all call.ssas call.area rows ssas printable e in
          refused_or (root_of path) (with_row row rows) at (record { position = Some path; parentage = at.parentage; hold = None })
          (ap roots (sym (row_added dbd all rows valid (root_of path) row refl fresh))
          ∙ roots_stay (root_of path) (with_row row (record_of (root_of path) rows)) (parent_some dbd all rows rows valid valid path dependent e)
          (some_between (filter (λ r. is_gt (row_cmp row r)) (record_of (root_of path) rows)) row (filter (λ r. is_lt (row_cmp row r)) (record_of (root_of path) rows)))
          (under_with_row dbd all rows valid (root_of path) row refl fresh))

  -- a REPL
  replace_roots_stay : (call : DbCall) (at : Position) → IsPosition dbd.types at → list_all is_printable call.area ≡ true → roots (replace dbd call at rows).rows ≡ roots rows
  replace_roots_stay call at position printable = by at.hold
    where
      changed_some : (held : List (ℕ × List ℕ)) (bytes : List ℕ) (old : List Row) → old ≢ [] → with_data held bytes old ≢ []
      changed_some held bytes [] h = absurd (h refl)
      changed_some held bytes (x ∷ old) h = λ e. absurd (cc)

      by_fault : (held : List (ℕ × List ℕ)) (o : Option Status) → replace_fault dbd.types held call.area rows ≡ o
          → roots (option_map_or (λ status. answered_unchanged status None rows (unheld at)) o
          (changed_to dbd (root_of held) rows at (with_data held (fitted_key (data_length dbd.types (end_type held)) call.area) rows) (unheld at))).rows ≡ roots rows
      by_fault held (Some status) e = refl
      by_fault held None e =
          let bytes : List ℕ = fitted_key (data_length dbd.types (end_type held)) call.area in
          let there : record_of (root_of held) rows ≢ [] = held_there held rows (root_of held) refl (kept_there dbd.types held call.area rows e) in
          let fresh : IsRow dbd.types rows (record { path = held; bytes = fitted_key (data_length dbd.types (end_type held)) call.area }) = replace_is_row dbd.types all held call.area rows valid.each printable e in
          refused_or (root_of held) (with_data held (fitted_key (data_length dbd.types (end_type held)) call.area) rows) at (unheld at)
          (ap roots (sym (data_changed dbd all rows valid (root_of held) held (fitted_key (data_length dbd.types (end_type held)) call.area) refl fresh))
          ∙ roots_stay (root_of held) (with_data held (fitted_key (data_length dbd.types (end_type held)) call.area) (record_of (root_of held) rows)) there
          (changed_some held (fitted_key (data_length dbd.types (end_type held)) call.area) (record_of (root_of held) rows) there)
          (under_changed dbd all rows valid (root_of held) held (fitted_key (data_length dbd.types (end_type held)) call.area) refl fresh))

      by : (o : Option (List (ℕ × List ℕ)))
          → roots (option_map_or (λ held. option_map_or (λ status. answered_unchanged status None rows (unheld at)) (replace_fault dbd.types held call.area rows)
          (changed_to dbd (root_of held) rows at (with_data held (fitted_key (data_length dbd.types (end_type held)) call.area) rows) (unheld at))) o (answered_unchanged DJ None rows (unheld at))).rows ≡ roots rows
      by None = refl
      by (Some held) = by_fault held (replace_fault dbd.types held call.area rows) refl

  -- a DLET of a dependent: the root isn't within it
  root_stays : (held : List (ℕ × List ℕ)) → IsPath dbd.types held → eqb (length held) 1 ≡ false → (old : List Row) → IsUnder dbd.types (root_of held) old → old ≢ [] → without_path held old ≢ []
  root_stays held path dependent [] under some = absurd (some refl)
  root_stays held path dependent (r ∷ old) under some =
      subst (λ c. cond c (r ∷ without_path held old) (without_path held old) ≢ []) (sym (apart held path dependent)) (λ e. absurd (cc))
    where
      apart : (above : List (ℕ × List ℕ)) → IsPath dbd.types above → eqb (length above) 1 ≡ false → not (is_within above r.path) ≡ true
      apart [] p e = absurd p
      apart (x ∷ []) p e = absurd (false≢true (sym e ∙ eq-eqb (length (x ∷ [])) 1 refl))
      apart (x ∷ y ∷ above) p e =
          ap (λ t. not (is_within (x ∷ y ∷ above) t)) (first_row dbd.types all (root_of held) r old under)
          ∙ elim (pair_eq x (1, root_of held)) as (λ c. not (c && false) ≡ true) [
            | true ↦ refl
            | false ↦ refl
          ]

  delete_roots_stay : (at : Position) (held : List (ℕ × List ℕ)) → IsPath dbd.types held → eqb (length held) 1 ≡ false → (o : Option Status) → delete_fault held rows ≡ o
      → roots (option_map_or (λ status. answered_unchanged status None rows (unheld at)) o (changed_to dbd (root_of held) rows at (without_path held rows) (unheld at))).rows ≡ roots rows
  delete_roots_stay at held path dependent (Some status) e = refl
  delete_roots_stay at held path dependent None e =
      let there : record_of (root_of held) rows ≢ [] = held_there held rows (root_of held) refl e in
      refused_or (root_of held) (without_path held rows) at (unheld at)
      (ap roots (sym (rows_removed dbd all rows valid (root_of held) held refl (path_some dbd.types held path)))
      ∙ roots_stay (root_of held) (without_path held (record_of (root_of held) rows)) there
      (root_stays held path dependent (record_of (root_of held) rows) (record_under dbd rows (root_of held) valid) there)
      (under_removed dbd all rows valid (root_of held) held refl (path_some dbd.types held path)))

  -- a call by which a root comes or goes needs the sequence alone
  pub roots_needed : (call : DbCall) (at : Position) → IsPosition dbd.types at → IsDbCall dbd.types call
      → (roots (dli dbd call at rows).rows ≡ roots rows) ⊎ IsNeeded (sequence_need Exclusive) (footprint dbd call at rows)
  roots_needed call at position ok = by (is_call_allowed call.function call.options)
    where
      insert_needed : AreInsertSsas dbd.types 0 call.ssas → (c : Bool) → eqb (length (insert_path dbd.types call.ssas call.area)) 1 ≡ c
          → (roots (insert dbd call at rows).rows ≡ roots rows)
          ⊎ IsNeeded (sequence_need Exclusive) (cond c (sequence_need Exclusive ∷ record_need Exclusive (root_of (insert_path dbd.types call.ssas call.area)) ∷ [])
          (record_need Exclusive (root_of (insert_path dbd.types call.ssas call.area)) ∷ []))
      insert_needed ssas true e = inr (inl refl)
      insert_needed ssas false e = inl (insert_roots_stay call at ssas ok.area e)

      held_needed : (held : List (ℕ × List ℕ)) → IsPath dbd.types held → (c : Bool) → eqb (length held) 1 ≡ c
          → (roots (option_map_or (λ status. answered_unchanged status None rows (unheld at)) (delete_fault held rows) (changed_to dbd (root_of held) rows at (without_path held rows) (unheld at))).rows ≡ roots rows)
          ⊎ IsNeeded (sequence_need Exclusive) (record_need Exclusive (root_of held) ∷ cond c (sequence_need Exclusive ∷ []) [])
      held_needed held path true e = inr (inr (inl refl))
      held_needed held path false e = inl (delete_roots_stay at held path e (delete_fault held rows) refl)

      delete_needed : (o : Option (List (ℕ × List ℕ))) → IfSome o (IsPath dbd.types)
          → (roots (option_map_or (λ held. option_map_or (λ status. answered_unchanged status None rows (unheld at)) (delete_fault held rows)
          (changed_to dbd (root_of held) rows at (without_path held rows) (unheld at))) o (answered_unchanged DJ None rows (unheld at))).rows ≡ roots rows)
          ⊎ IsNeeded (sequence_need Exclusive) (option_map_or delete_needs o [])
      delete_needed None path = inl refl
      delete_needed (Some held) path = held_needed held path (eqb (length held) 1) refl

      of : (function : Function) → AreSsasOf function dbd.types call.ssas
          → (roots (allowed function dbd call at rows).rows ≡ roots rows) ⊎ IsNeeded (sequence_need Exclusive) (allowed_needs function dbd call at rows)
      of GU ssas = inl (get_keeps Start false call at)
      of GN ssas = inl (get_keeps Next false call at)
      of GNP ssas = inl (get_keeps Parent false call at)
      of GHU ssas = inl (get_keeps Start true call at)
      of GHN ssas = inl (get_keeps Next true call at)
      of GHNP ssas = inl (get_keeps Parent true call at)
      of ISRT ssas = insert_needed ssas (eqb (length (insert_path dbd.types call.ssas call.area)) 1) refl
      of REPL ssas = inl (replace_roots_stay call at position ok.area)
      of DLET ssas = delete_needed at.hold position.hold
      of PURG ssas = inl refl
      of CHNG ssas = inl refl
      of ROLB ssas = inl refl
      of ROLL ssas = inl refl

      by : (c : Bool) → (roots (cond c (allowed call.function dbd call at rows) (denied call.function at rows)).rows ≡ roots rows)
          ⊎ IsNeeded (sequence_need Exclusive) (cond c (allowed_needs call.function dbd call at rows) [])
      by true = of call.function ok.ssas
      by false = inl refl
