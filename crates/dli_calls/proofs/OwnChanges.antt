-- What a change comes to on its record is what it comes to on all rows that have this record.
use Rattle.std.proofs.Common.{◌≡◌, ◌≢◌, ℕ, ◌≤◌, ◌∷◌, [], List, length, refl, sym, ◌∙◌, ap, subst, true, Option, None, Some, arith}
use Rattle.std.specs.Prelude.{filter, IsSome, IfSome}
use Rattle.std.specs.List.{list_all}
use Rattle.std.specs.Option.{option_map, option_map_or}
use Rattle.std.specs.Ordering.{is_lt, is_gt}
use Rattle.std.proofs.lemmas.Bool.{false≢true}
use Rattle.tm_types.specs.declared.dbd.Dbd.{Dbd}
use Rattle.tm_types.specs.declared.status.Status.{Status}
use Rattle.tm_types.specs.declared.status.Status.TheVariants.{Blank, DJ}
use Rattle.tm_types.specs.Segment.{is_printable}
use Rattle.model_data.specs.declared.row.Row.{Row}
use Rattle.model_data.specs.declared.call.DbCall.{DbCall}
use Rattle.model_data.specs.declared.call.Position.{Position}
use Rattle.model_data.specs.declared.call.RowsLimit.{RowsLimit}
use Rattle.model_data.specs.Path.{root_of, end_type, IsPath}
use Rattle.model_data.specs.Row.{IsRow, row_cmp}
use Rattle.model_data.specs.Rows.{record_of, AreRows}
use Rattle.model_data.specs.Search.{fitted_key, data_length}
use Rattle.model_data.specs.ChangeCalls.{insert_path, insert_row, insert_fault, delete_fault, replace_fault, with_row, with_data, without_path, passed_limit}
use Rattle.model_data.specs.Conditions.{AreInsertSsas, IsPosition}
use Rattle.model_data.specs.DatabaseCalls.{DliResult, answered_unchanged, unheld, changed_to, insert, replace, delete}
use Rattle.dli_calls.specs.declared.planned.Planned.{Planned}
use Rattle.dli_calls.specs.CallPlan.{Plans, IsThere}
use Rattle.dli_calls.specs.OwnRecord.{replaced_root, IsRecordFor}
use Rattle.dli_calls.proofs.Edits.{row_added, under_with_row, image_with_row, row_changed, under_changed, image_changed, rows_removed, under_removed, image_removed}
use Rattle.dli_calls.proofs.NewRows.{insert_is_path, insert_is_row, replace_is_row}
use Rattle.dli_calls.proofs.OwnRecord.{plans_unchanged, insert_seen, delete_seen, replace_seen, replaced_record}
use Rattle.dli_calls.proofs.Removing.{held_there, kept_there, plan_there, some_in}
use Rattle.dli_calls.proofs.Setting.{edit_is, plans_change, plans_insert}

-- a path that was got with hold isn't empty
pub held_some : (dbd : Dbd) (at : Position) (held : List (ℕ × List ℕ)) → IsPosition dbd.types at → at.hold ≡ Some held → 1 ≤ length held
held_some dbd at held h e = some held (subst (λ o. IfSome o (IsPath dbd.types)) e h.hold)
  where
    some : (path : List (ℕ × List ℕ)) → IsPath dbd.types path → 1 ≤ length path
    some [] g = absurd g
    some (p ∷ path) g = omega arith

-- the root of a path that isn't empty
pub root_is : (found : Option (List ℕ)) (root : List ℕ) → IsSome found → IfSome found (λ key. key ≡ root) → found ≡ Some root
root_is None root some e = absurd (false≢true some)
root_is (Some key) root some e = ap (λ k. Some k) e

-- a change's root is that of its record, whatever limit it passes
changed_root : (dbd : Dbd) (root : List ℕ) (old : List Row) (before : Position) (new : List Row) (after : Position) → (changed_to dbd root old before new after).changed ≡ Some root
changed_root dbd root old before new after = by (passed_limit dbd root new old)
  where
    by : (o : Option RowsLimit)
        → (option_map_or {U = DliResult} (λ limit. record { status = Blank; area = None; rows = old; position = before; changed = Some root; refusal = Some limit }) o
        (record { status = Blank; area = None; rows = new; position = after; changed = Some root; refusal = None })).changed ≡ Some root
    by None = refl
    by (Some limit) = refl

module _ (dbd : Dbd) (call : DbCall) (at : Position) (seen rows : List Row) (h : IsRecordFor dbd (Some (root_of (insert_path dbd.types call.ssas call.area))) seen rows) where
  abbrev insert_by : Option Status → DliResult
  insert_by o =
      option_map_or {U = DliResult} (λ status. answered_unchanged status None rows (unheld at)) o
      (changed_to dbd (root_of (insert_path dbd.types call.ssas call.area)) rows at (with_row (insert_row dbd.types call.ssas call.area) rows)
      (record { position = Some (insert_path dbd.types call.ssas call.area); parentage = at.parentage; hold = None }))

  fault_is : (o : Option Status) → insert_fault (insert_path dbd.types call.ssas call.area) seen ≡ o → insert_fault (insert_path dbd.types call.ssas call.area) rows ≡ o
  fault_is o e = sym (insert_seen (insert_path dbd.types call.ssas call.area) seen rows h.own) ∙ e

  -- an ISRT that has a fault
  pub insert_unmade : (status : Status) (p : Planned) → insert_fault (insert_path dbd.types call.ssas call.area) seen ≡ Some status
      → p ≡ record { status = status; area = None; position = unheld at; edit = None } → Plans dbd rows (insert dbd call at rows) p
  insert_unmade status p e is = plans_unchanged dbd rows (insert dbd call at rows) p status None (unheld at) (ap insert_by (fault_is (Some status) e)) is

  pub insert_not : (status : Status) → insert_fault (insert_path dbd.types call.ssas call.area) seen ≡ Some status → None ≡ (insert dbd call at rows).changed
  insert_not status e = sym (ap (λ o. (insert_by o).changed) (fault_is (Some status) e))

  pub insert_does : insert_fault (insert_path dbd.types call.ssas call.area) seen ≡ None → Some (root_of (insert_path dbd.types call.ssas call.area)) ≡ (insert dbd call at rows).changed
  insert_does e =
      sym (ap (λ o. (insert_by o).changed) (fault_is None e)
      ∙ changed_root dbd (root_of (insert_path dbd.types call.ssas call.area)) rows at (with_row (insert_row dbd.types call.ssas call.area) rows)
      (record { position = Some (insert_path dbd.types call.ssas call.area); parentage = at.parentage; hold = None }))

  -- and one that has none
  pub insert_made : (row : Row) (root : List ℕ) (image : List Row) (p : Planned) → AreInsertSsas dbd.types 0 call.ssas → list_all is_printable call.area ≡ true
      → insert_fault (insert_path dbd.types call.ssas call.area) seen ≡ None → row ≡ insert_row dbd.types call.ssas call.area → root ≡ root_of row.path → image ≡ with_row row seen
      → p ≡ record { status = Blank; area = None; position = record { position = Some row.path; parentage = at.parentage; hold = None }; edit = Some (record { root = root; image = image }) }
      → Plans dbd rows (insert dbd call at rows) p
  insert_made row root image p ssas printable e is rooted made planned =
      let valid : AreRows dbd rows = h.valid in
      let types = valid.types in
      let none : insert_fault (insert_path dbd.types call.ssas call.area) rows ≡ None = fault_is None e in
      let fresh : IsRow dbd.types rows row = subst (IsRow dbd.types rows) (sym is) (insert_is_row dbd.types types call.ssas call.area rows ssas printable none) in
      let own : record_of root rows ≡ seen = ap (λ k. record_of k rows) (rooted ∙ ap (λ (r : Row). root_of r.path) is) ∙ h.own in
      plans_insert dbd call at rows row root image p none is rooted
      (edit_is dbd root rows (with_row row rows) (with_row row (record_of root rows)) image (made ∙ ap (with_row row) (sym own))
      (image_with_row dbd types rows valid root row (sym rooted) fresh)
      (row_added dbd types rows valid root row (sym rooted) fresh)
      (under_with_row dbd types rows valid root row (sym rooted) fresh).one_root)
      planned

  pub insert_stands : (row : Row) → AreInsertSsas dbd.types 0 call.ssas → row ≡ insert_row dbd.types call.ssas call.area → IsPath dbd.types row.path
  insert_stands row ssas is =
      let valid : AreRows dbd rows = h.valid in
      subst (IsPath dbd.types) (sym (ap (λ (r : Row). r.path) is)) (insert_is_path dbd.types valid.types call.ssas call.area ssas)

-- an ISRT removes no record
pub insert_there : (rows : List Row) (row : Row) (seen : List Row) (p : Planned) (root : List ℕ) (image : List Row) → image ≡ with_row row seen
    → p.edit ≡ Some (record { root = root; image = image }) → IsThere rows p.edit
insert_there rows row seen p root image made e =
    plan_there rows p (record { root = root; image = image }) e
    (λ none. absurd (some_in (filter (λ r. is_gt (row_cmp row r)) seen) row (filter (λ r. is_lt (row_cmp row r)) seen) (sym made ∙ none)))

module _ (dbd : Dbd) (at : Position) (rows : List Row) where
  -- a change of what was got with hold, by why it isn't made
  abbrev held_by : List ℕ → List Row → Option Status → DliResult
  held_by root new o = option_map_or {U = DliResult} (λ status. answered_unchanged status None rows (unheld at)) o (changed_to dbd root rows at new (unheld at))

  held_changed : (root : List ℕ) (new : List Row) → (held_by root new None).changed ≡ Some root
  held_changed root new = changed_root dbd root rows at new (unheld at)

  abbrev on_hold : (List (ℕ × List ℕ) → DliResult) → Option (List (ℕ × List ℕ)) → DliResult
  on_hold change o = option_map_or {U = DliResult} change o (answered_unchanged DJ None rows (unheld at))

  abbrev deleted : List (ℕ × List ℕ) → DliResult
  deleted held = held_by (root_of held) (without_path held rows) (delete_fault held rows)

  abbrev replaced : DbCall → List (ℕ × List ℕ) → DliResult
  replaced call held =
      held_by (root_of held) (with_data held (fitted_key (data_length dbd.types (end_type held)) call.area) rows) (replace_fault dbd.types held call.area rows)

  -- with nothing got
  pub delete_none : (p : Planned) → at.hold ≡ None → p ≡ record { status = DJ; area = None; position = unheld at; edit = None } → Plans dbd rows (delete dbd at rows) p
  delete_none p e is = plans_unchanged dbd rows (delete dbd at rows) p DJ None (unheld at) (ap (on_hold deleted) e) is

  pub replace_none : (call : DbCall) (p : Planned) → at.hold ≡ None → p ≡ record { status = DJ; area = None; position = unheld at; edit = None } → Plans dbd rows (replace dbd call at rows) p
  replace_none call p e is = plans_unchanged dbd rows (replace dbd call at rows) p DJ None (unheld at) (ap (on_hold (replaced call)) e) is

  pub delete_none_root : at.hold ≡ None → None ≡ (delete dbd at rows).changed
  delete_none_root e = sym (ap (λ o. (on_hold deleted o).changed) e)

  pub replace_none_root : (call : DbCall) → at.hold ≡ None → None ≡ (replace dbd call at rows).changed
  replace_none_root call e = sym (ap (λ o. (on_hold (replaced call) o).changed) e)

  module _ (seen : List Row) (held : List (ℕ × List ℕ)) (holds : at.hold ≡ Some held) (h : IsRecordFor dbd (option_map root_of at.hold) seen rows) where
    delete_for : IsRecordFor dbd (Some (root_of held)) seen rows
    delete_for = subst (λ o. IsRecordFor dbd (option_map root_of o) seen rows) holds h

    delete_by : (o : Option Status) → delete_fault held seen ≡ o → delete dbd at rows ≡ held_by (root_of held) (without_path held rows) o
    delete_by o e = ap (on_hold deleted) holds ∙ ap (held_by (root_of held) (without_path held rows)) (sym (delete_seen held seen rows delete_for.own) ∙ e)

    pub delete_unmade : (status : Status) (p : Planned) → delete_fault held seen ≡ Some status → p ≡ record { status = status; area = None; position = unheld at; edit = None }
        → Plans dbd rows (delete dbd at rows) p
    delete_unmade status p e is = plans_unchanged dbd rows (delete dbd at rows) p status None (unheld at) (delete_by (Some status) e) is

    pub delete_not : (status : Status) → delete_fault held seen ≡ Some status → None ≡ (delete dbd at rows).changed
    delete_not status e = sym (ap (λ (d : DliResult). d.changed) (delete_by (Some status) e))

    pub delete_does : delete_fault held seen ≡ None → Some (root_of held) ≡ (delete dbd at rows).changed
    delete_does e = sym (ap (λ (d : DliResult). d.changed) (delete_by None e) ∙ held_changed (root_of held) (without_path held rows))

    pub delete_made : (root : List ℕ) (image : List Row) (p : Planned) → 1 ≤ length held → delete_fault held seen ≡ None → root_of held ≡ root → image ≡ without_path held seen
        → p ≡ record { status = Blank; area = None; position = unheld at; edit = Some (record { root = root; image = image }) } → Plans dbd rows (delete dbd at rows) p
    delete_made root image p some e rooted made is =
        let valid : AreRows dbd rows = delete_for.valid in
        let own : record_of root rows ≡ seen = ap (λ k. record_of k rows) (sym rooted) ∙ delete_for.own in
        subst (Plans dbd rows (delete dbd at rows)) (sym is)
        (subst (λ (d : DliResult). Plans dbd rows d (record { status = Blank; area = None; position = unheld at; edit = Some (record { root = root; image = image }) }))
        (sym (delete_by None e ∙ ap (λ k. changed_to dbd k rows at (without_path held rows) (unheld at)) rooted))
        (plans_change dbd root rows (without_path held rows) at (unheld at) image
        (edit_is dbd root rows (without_path held rows) (without_path held (record_of root rows)) image (made ∙ ap (without_path held) (sym own))
        (image_removed dbd valid.types rows valid root held rooted some)
        (rows_removed dbd valid.types rows valid root held rooted some)
        (under_removed dbd valid.types rows valid root held rooted some).one_root)))

    pub delete_there : (root : List ℕ) (image : List Row) (p : Planned) → delete_fault held seen ≡ None → root_of held ≡ root → p.edit ≡ Some (record { root = root; image = image }) → IsThere rows p.edit
    delete_there root image p e rooted is =
        plan_there rows p (record { root = root; image = image }) is (λ none. held_there held rows root rooted (sym (delete_seen held seen rows delete_for.own) ∙ e))

  module _ (call : DbCall) (seen : List Row) (held : List (ℕ × List ℕ)) (holds : at.hold ≡ Some held)
      (h : IsRecordFor dbd (option_map_or (replaced_root dbd.types call.area) at.hold None) seen rows)
    where
      abbrev pub bytes : List ℕ
      bytes = fitted_key (data_length dbd.types (end_type held)) call.area

      replace_for : IsRecordFor dbd (replaced_root dbd.types call.area held) seen rows
      replace_for = subst (λ o. IsRecordFor dbd (option_map_or (replaced_root dbd.types call.area) o None) seen rows) holds h

      fault_too : (o : Option Status) → replace_fault dbd.types held call.area seen ≡ o → replace_fault dbd.types held call.area rows ≡ o
      fault_too o e = sym (replace_seen dbd call.area held seen rows replace_for) ∙ e

      replace_by : (o : Option Status) → replace_fault dbd.types held call.area seen ≡ o → replace dbd call at rows ≡ held_by (root_of held) (with_data held bytes rows) o
      replace_by o e = ap (on_hold (replaced call)) holds ∙ ap (held_by (root_of held) (with_data held bytes rows)) (fault_too o e)

      pub replace_unmade : (status : Status) (p : Planned) → replace_fault dbd.types held call.area seen ≡ Some status
          → p ≡ record { status = status; area = None; position = unheld at; edit = None } → Plans dbd rows (replace dbd call at rows) p
      replace_unmade status p e is = plans_unchanged dbd rows (replace dbd call at rows) p status None (unheld at) (replace_by (Some status) e) is

      pub replace_not : (status : Status) → replace_fault dbd.types held call.area seen ≡ Some status → None ≡ (replace dbd call at rows).changed
      replace_not status e = sym (ap (λ (d : DliResult). d.changed) (replace_by (Some status) e))

      pub replace_does : replace_fault dbd.types held call.area seen ≡ None → Some (root_of held) ≡ (replace dbd call at rows).changed
      replace_does e = sym (ap (λ (d : DliResult). d.changed) (replace_by None e) ∙ held_changed (root_of held) (with_data held bytes rows))

      pub replace_made : (root : List ℕ) (image : List Row) (p : Planned) → list_all is_printable call.area ≡ true → replace_fault dbd.types held call.area seen ≡ None → root_of held ≡ root
          → image ≡ with_data held bytes seen
          → p ≡ record { status = Blank; area = None; position = unheld at; edit = Some (record { root = root; image = image }) } → Plans dbd rows (replace dbd call at rows) p
      replace_made root image p printable e rooted made is =
          let g = replaced_record dbd call.area held seen rows replace_for e in
          let valid : AreRows dbd rows = g.valid in
          let own : record_of root rows ≡ seen = ap (λ k. record_of k rows) (sym rooted) ∙ g.own in
          let fresh : IsRow dbd.types rows (record { path = held; bytes = bytes }) = replace_is_row dbd.types valid.types held call.area rows valid.each printable (fault_too None e) in
          subst (Plans dbd rows (replace dbd call at rows)) (sym is)
          (subst (λ (d : DliResult). Plans dbd rows d (record { status = Blank; area = None; position = unheld at; edit = Some (record { root = root; image = image }) }))
          (sym (replace_by None e ∙ ap (λ k. changed_to dbd k rows at (with_data held bytes rows) (unheld at)) rooted))
          (plans_change dbd root rows (with_data held bytes rows) at (unheld at) image
          (edit_is dbd root rows (with_data held bytes rows) (with_data held bytes (record_of root rows)) image (made ∙ ap (with_data held bytes) (sym own))
          (image_changed dbd valid.types rows valid root held bytes rooted fresh)
          (row_changed dbd valid.types rows valid root held bytes rooted fresh)
          (under_changed dbd valid.types rows valid root held bytes rooted fresh).one_root)))

      pub replace_there : (root : List ℕ) (image : List Row) (p : Planned) → replace_fault dbd.types held call.area seen ≡ None → root_of held ≡ root
          → p.edit ≡ Some (record { root = root; image = image }) → IsThere rows p.edit
      replace_there root image p e rooted is =
          plan_there rows p (record { root = root; image = image }) is
          (λ none. held_there held rows root rooted (kept_there dbd.types held call.area rows (fault_too None e)))
