-- A call that is made, or that waits, is the call by its definition, on the rows that its region sees.
use Rattle.std.proofs.Common.{◌≡◌, ◌≢◌, ℕ, ◌-◌, ◌≤◌, ◌<◌, List, [], ◌∷◌, length, map, refl, sym, ◌∙◌, ap, subst, Bool, true, false, cond, Option, None, Some, set, get_or, zero, suc, arith, ◌⊎◌, inl, inr, ⊎_elim}
use Rattle.std.specs.List.{AllByRecursion, slice_get}
use Rattle.std.specs.Option.{option_map}
use Rattle.std.specs.Prelude.{IfSome}
use Rattle.std.proofs.lemmas.List.{length-set}
use Rattle.tm_types.specs.declared.dbd.Dbd.{Dbd}
use Rattle.tm_types.specs.declared.abend.AbendCode.{AbendCode}
use Rattle.tm_types.specs.declared.resource.Mode.TheVariants.{Exclusive}
use Rattle.tm_types.specs.Segment.{IsSegmentText}
use Rattle.tm_types.specs.SegTypes.{IsHierarchy}
use Rattle.model_data.specs.declared.row.Row.{Row}
use Rattle.model_data.specs.Record.{IsRecord}
use Rattle.model_data.specs.Rows.{record_of, with_record, roots, AreRows}
use Rattle.model_data.proofs.Records.{with_record_itself}
use Rattle.model_data.specs.Conditions.{IsDbCall, IsPosition}
use Rattle.model_data.specs.declared.call.DbCall.{DbCall}
use Rattle.model_data.specs.declared.call.Position.{Position}
use Rattle.model_data.specs.declared.call.RowsLimit.{RowsLimit}
use Rattle.model_data.specs.declared.need.Need.{Need}
use Rattle.model_data.specs.Data.{with_changed_root, limit_abend_by, data_abend, limit_abend}
use Rattle.model_data.specs.DatabaseCalls.{DliResult, dli}
use Rattle.model_data.specs.Footprint.{footprint, record_need, sequence_need, AgreeAt, AgreeOn, IsNeeded, up_to_blocked}
use Rattle.model_data.specs.Table.{EnqueueTable}
use Rattle.model_data.specs.EnqueueRequests.{after_asks, first_blocked}
use Rattle.pi_enqueue.specs.KeptTable.{IsTableKept}
use Rattle.seg_rows.specs.RowsRefused.{set_refusal}
use Rattle.seg_store.specs.Slots.{Stored, AreSlots, slot_for, rows_of_slots, with_image}
use Rattle.seg_store.proofs.SlotRows.{record_image_root}
use Rattle.unit_work.specs.declared.change.Change.{Change}
use Rattle.unit_work.specs.Changes.{with_change, is_full}
use Rattle.dli_calls.specs.declared.planned.Edit.{Edit}
use Rattle.dli_calls.specs.declared.planned.Planned.{Planned}
use Rattle.dli_calls.specs.CallPlan.{limit_of, HasAnswer, PlansTo, PlansNone, PlansEdit, IsThere}
use Rattle.dli_calls.specs.AlikeCalls.{AreAlike, rows_changed}
use Rattle.dli_calls.proofs.Front.{agree_unblocked, agree_where_none, same_front}
use Rattle.dli_calls.proofs.Same.{same_call}
use Rattle.dli_calls.proofs.Changes.{changed_needed, roots_needed}
use Rattle.dli_calls.proofs.Kept.{rows_kept}
use Rattle.program_rows.specs.DatabasesState.{RegionRows, no_rows, roots_of, rows_of_stores, database_rows_in, data_of, region_at, rows_numbered}
use Rattle.program_rows.specs.Isolation.{request_of, requests_of_call}
use Rattle.program_rows.specs.CallAnswers.{told_blocked, IsAnswer, rows_after_call}
use Rattle.program_rows.specs.MadeCall.{Called}
use Rattle.program_rows.specs.ToldChanges.{call_told, changed_told, changed_touched, set_told, unless_stopped}
use Rattle.unit_work.specs.Images.{slots_of_database}
use Rattle.log_records.specs.declared.record.Record.{Record}
use Rattle.program_rows.specs.OpenUnits.{unit_records_of, unit_slots_of, with_open_units, regions_from, seen_by, HoldsAlone, AreUnits}
use Rattle.program_rows.specs.PlannedChanges.{databases_opened, IsSame, WaitsAt, IsPut, TakesSlot, edit_told, change_kept}
use Rattle.program_rows.specs.declared.answer.Answered as answer
use Rattle.program_rows.specs.declared.answer.DataAnswer.{DataAnswer}
use Rattle.program_rows.specs.declared.answer.DataAnswer.TheVariants.{Answered, Abend, Blocked}
use Rattle.program_rows.specs.declared.opened.Opened.{Opened}
use Rattle.program_rows.proofs.Aside.{same_there}
use Rattle.program_rows.proofs.Asking.{is_contested, IsAsked, asked_after}
use Rattle.program_rows.proofs.Backed.{all_there, dbds_all}
use Rattle.program_rows.proofs.Blocking.{kept_together, front_asks, none_contested}
use Rattle.program_rows.proofs.Followed.{follows}
use Rattle.program_rows.proofs.Overlay.{store_rows}
use Rattle.program_rows.proofs.Rooting.{roots_tell}
use Rattle.program_rows.proofs.Seen.{agree, region_is, regions_length, same_list, seen_valid, get_put, get_put_else}
use Rattle.program_rows.proofs.Setting.{rows_at_is, dbds_stay, changed_push}
use Rattle.program_rows.proofs.SetUnits.{Follows, IsSetIn, set_units, set_committed, set_others, set_seen}
use Rattle.program_rows.proofs.Stepping.{own_image}
use Rattle.std.proofs.lemmas.Bool.{cases_eq}

pub set_there : {A : Type 0} (xs : List A) (i : ℕ) (x : A) → set xs i (get_or xs i x) ≡ xs
set_there [] i x = refl
set_there (y ∷ xs) zero x = refl
set_there (y ∷ xs) (suc i) x = ap (λ ys. y ∷ ys) (set_there xs i x)

no_abend : (b : Bool) (code : AbendCode) (o : Option RowsLimit) → cond b (Some code) (option_map limit_abend o) ≡ None → o ≡ None
no_abend true code o e = let clash : Some code ≡ None = e in absurd (cc)
no_abend false code None e = refl
no_abend false code (Some limit) e = let clash : Some (limit_abend limit) ≡ None = e in absurd (cc)

need_asked : (region number : ℕ) (need : Need) (needs : List Need) → IsNeeded need needs → IsAsked (request_of region number need) (map (request_of region number) needs)
need_asked region number need [] h = absurd h
need_asked region number need (first ∷ needs) h = ⊎_elim (λ e. inl (ap (request_of region number) e)) (λ later. inr (need_asked region number need needs later)) h

module _ (o : Opened) (h : AreUnits (unit_records_of o.units.items) o.stores.stores o.table) (region number : ℕ) (first : 1 ≤ region) (last : region ≤ length (unit_records_of o.units.items)) (least : 1 ≤ number)
    (dbd : Dbd) (call : DbCall) (at : Position) (position : IsPosition dbd.types at) (ok : IsDbCall dbd.types call) (s : Stored) (there : slice_get o.stores.stores (number - 1) ≡ Some s) (same_dbd : s.dbd ≡ dbd) where
  abbrev pub place : ℕ
  place = region - 1

  abbrev pub units : List (List Change)
  units = unit_records_of o.units.items

  abbrev pub mine : List Row
  mine = database_rows_in number (rows_of_stores (seen_by place units o.stores.stores))

  abbrev pub stored : List Row
  stored = database_rows_in number (rows_of_stores o.stores.stores)

  pub up : suc (region - 1) ≡ region
  up = omega (arith, first)

  pub within : place < length (unit_records_of o.units.items)
  within = omega (arith, first, last)

  pub sees : region_at region (databases_opened o) ≡ record { rows = rows_of_stores (seen_by place units o.stores.stores); changed = roots_of (get_or units place []) }
  sees = region_is place units o.stores.stores within

  numbered_is : rows_numbered region number (databases_opened o) ≡ mine
  numbered_is = ap (λ (r : RegionRows). database_rows_in number r.rows) sees

  store_valid : AreSlots s.dbd s.slots
  store_valid = all_there (λ (x : Stored). AreSlots x.dbd x.slots) o.stores.stores (number - 1) s h.valid there

  pub types : IsHierarchy dbd.types
  types = subst (λ d. IsHierarchy d.types) same_dbd store_valid.types

  pub stored_rows : AreRows dbd stored
  stored_rows = subst (λ d. AreRows d stored) same_dbd (store_rows o.stores.stores number s h.valid there)

  pub mine_rows : AreRows dbd mine
  mine_rows =
      let found = same_there o.stores.stores (seen_by place units o.stores.stores) (number - 1) s (dbds_all o.stores.stores (set units place [])) there in
      subst (λ d. AreRows d mine) (found.2 ∙ same_dbd) (store_rows (seen_by place units o.stores.stores) number found.0 (seen_valid units o.stores.stores o.table h place) found.1)

  -- what other holders are against
  abbrev pub contested : Need → Bool
  contested = λ need. is_contested (request_of region number need) o.table.holds

  agree_free : (need : Need) → contested need ≡ false → AgreeAt need.root stored mine
  agree_free need free =
      agree units o.stores.stores o.table h place number least need
      (ap (λ r. is_contested (request_of r number need) o.table.holds) up ∙ free)

  front : up_to_blocked contested (footprint dbd call at stored) ≡ up_to_blocked contested (footprint dbd call at mine)
  front =
      same_front dbd types stored mine stored_rows mine_rows contested call at position
      (agree_unblocked contested stored mine agree_free (footprint dbd call at stored))

  -- what is asked by the rows in the stores is what is asked by those that the region sees
  pub same_asks : (first_blocked (map (request_of region number) (footprint dbd call at stored)) o.table ≡ first_blocked (requests_of_call region number dbd call at (databases_opened o)) o.table)
      × (after_asks region (map (request_of region number) (footprint dbd call at stored)) o.table ≡ after_asks region (requests_of_call region number dbd call at (databases_opened o)) o.table)
  same_asks =
      let both =
      front_asks region number contested o.table (kept_together o.table region h.compatible) (λ need. refl) (footprint dbd call at stored) (footprint dbd call at mine) front in (
        both.0 ∙ ap (λ rows. first_blocked (map (request_of region number) (footprint dbd call at rows)) o.table) (sym numbered_is),
        both.1 ∙ ap (λ rows. after_asks region (map (request_of region number) (footprint dbd call at rows)) o.table) (sym numbered_is),
      )

  same_regions : (new : Opened) → unit_records_of new.units.items ≡ unit_records_of o.units.items → new.stores.stores ≡ o.stores.stores → (databases_opened new).regions ≡ (databases_opened o).regions
  same_regions new u st = λ t. regions_from 0 (u t) (u t) (st t)

  same_committed : (new : Opened) → unit_records_of new.units.items ≡ unit_records_of o.units.items → new.stores.stores ≡ o.stores.stores → (databases_opened new).committed ≡ (databases_opened o).committed
  same_committed new u st = λ t. Rattle.program_rows.specs.OpenUnits.backed_all (u t) (st t)

  -- a call that waits
  pub waits : (a : DataAnswer) (new : Opened) → WaitsAt (map (request_of region number) (footprint dbd call at stored)) o.table a → unit_records_of new.units.items ≡ unit_records_of o.units.items
      → unit_slots_of new.units.items ≡ unit_slots_of o.units.items → new.stores.stores ≡ o.stores.stores → new.stores.changed ≡ o.stores.changed → new.table ≡ after_asks region (map (request_of region number) (footprint dbd call at stored)) o.table → Called region number dbd call at (databases_opened o) (databases_opened new) a
  waits (Answered a) new w u sl st ch t = absurd w
  waits (Abend code) new w u sl st ch t = absurd w
  waits (Blocked b) new w u sl st ch t =
      record {
        blocked = sym w ∙ ap told_blocked same_asks.0;
        abend = tt;
        gives = tt;
        leaves = same_regions new u st;
        asks = t ∙ same_asks.1;
        stays = λ i. with_open_units (u i) (sl i) (st i) (ch i) new.table;
        committed = same_committed new u st;
        dbds = ap (map (λ (x : Stored). x.dbd)) st;
      }

  -- a call that nothing blocks
  module _ (free : first_blocked (map (request_of region number) (footprint dbd call at stored)) o.table ≡ None) where
    agreed : AgreeOn (footprint dbd call at stored) stored mine
    agreed =
        agree_where_none contested stored mine (footprint dbd call at stored)
        (none_contested region number contested o.table (kept_together o.table region h.compatible) (λ need. refl) (footprint dbd call at stored) free)
        (agree_unblocked contested stored mine agree_free (footprint dbd call at stored))

    alike : AreAlike dbd stored mine (dli dbd call at stored) (dli dbd call at mine)
    alike = same_call dbd types stored mine stored_rows mine_rows call at position ok agreed

    unblocked : None ≡ told_blocked (first_blocked (requests_of_call region number dbd call at (databases_opened o)) o.table)
    unblocked = ap told_blocked (sym (sym same_asks.0 ∙ free))

    -- the same of what is seen
    by_mine : (P : DliResult → Type 0) → P (dli dbd call at mine) → P (dli dbd call at (rows_numbered region number (databases_opened o)))
    by_mine P h' = subst (λ rows. P (dli dbd call at rows)) (sym numbered_is) h'

    answers : (p : Planned) (a : answer.Answered) → HasAnswer (dli dbd call at stored) p → a.status ≡ p.status → a.area ≡ p.area → a.position ≡ p.position → IfSome p.area IsSegmentText
        → IsAnswer (dli dbd call at mine) a
    answers p a has st ar po text =
        record {
          status = st ∙ (has.status ∙ alike.status);
          area = ar ∙ (has.area ∙ alike.area);
          position = po ∙ (has.position ∙ alike.position);
          text = subst (λ o. IfSome o IsSegmentText) (sym ar) text;
        }

    -- a call that changes no record
    module _ (p : Planned) (a : answer.Answered) (new : Opened) (text : IfSome p.area IsSegmentText) (st : a.status ≡ p.status) (ar : a.area ≡ p.area) (po : a.position ≡ p.position) where
      pub reads : PlansTo dbd stored (dli dbd call at stored) p None → unit_records_of new.units.items ≡ unit_records_of o.units.items → new.stores.stores ≡ o.stores.stores
          → new.table ≡ after_asks region (map (request_of region number) (footprint dbd call at stored)) o.table → Called region number dbd call at (databases_opened o) (databases_opened new) (Answered a)
      reads plans u s_same t =
          let unchanged : (dli dbd call at mine).changed ≡ None = sym alike.changed ∙ plans.changed in
          record {
            blocked = unblocked;
            abend = by_mine (λ d. data_abend number (data_of region (databases_opened o) []) d ≡ None)
                (ap (λ c. limit_abend_by number (region_at region (databases_opened o)).changed c (dli dbd call at mine).refusal) unchanged);
            gives = by_mine (λ d. IsAnswer d a) (answers p a plans.answer st ar po text);
            leaves = by_mine (λ d. (databases_opened new).regions ≡ set (databases_opened o).regions (region - 1) (rows_after_call number d (region_at region (databases_opened o)))) (left unchanged);
            asks = t ∙ same_asks.1;
            stays = tt;
            committed = same_committed new u s_same;
            dbds = ap (map (λ (x : Stored). x.dbd)) s_same;
          }
        where
          kept_rows : (dli dbd call at mine).rows ≡ mine
          kept_rows = alike.rows_b ∙ by alike.change (sym (alike.whole plans.refusal) ∙ plans.changed)
            where
              by : (c : Option (List ℕ × List Row)) → option_map (λ x. x.0) c ≡ None → rows_changed c mine ≡ mine
              by None e = refl
              by (Some c) e = let clash : Some c.0 ≡ None = e in absurd (cc)

          left : (dli dbd call at mine).changed ≡ None → (databases_opened new).regions ≡ set (databases_opened o).regions (region - 1) (rows_after_call number (dli dbd call at mine) (region_at region (databases_opened o)))
          left unchanged =
              let rows : set (region_at region (databases_opened o)).rows (number - 1) (dli dbd call at mine).rows ≡ (region_at region (databases_opened o)).rows =
              ap (set (region_at region (databases_opened o)).rows (number - 1)) (kept_rows ∙ sym numbered_is) ∙ set_there (region_at region (databases_opened o)).rows (number - 1) [] in
              let same : rows_after_call number (dli dbd call at mine) (region_at region (databases_opened o)) ≡ region_at region (databases_opened o) =
              λ i. record { rows = rows i; changed = with_changed_root number (unchanged i) (region_at region (databases_opened o)).changed } in
              same_regions new u s_same ∙ sym (ap (set (databases_opened o).regions (region - 1)) same ∙ set_there (databases_opened o).regions (region - 1) no_rows)

    -- what the call tells, and the slots that it touches
    module _ (unit : ℕ) where
      free_now : first_blocked (requests_of_call region number dbd call at (databases_opened o)) o.table ≡ None
      free_now = sym same_asks.0 ∙ free

      -- the abend to which a plan leads, if it leads to one
      abbrev pub abend_at : Option Edit → Option AbendCode
      abend_at None = None
      abend_at (Some e) = limit_abend_by number (roots_of (get_or units place [])) (Some e.root) (limit_of (set_refusal dbd e.root e.image stored))

      told_where : (abend : Option AbendCode) (records : List Record) → data_abend number (data_of region (databases_opened o) []) (dli dbd call at (rows_numbered region number (databases_opened o))) ≡ abend
          → changed_told unit number (dli dbd call at (rows_numbered region number (databases_opened o))).changed (dli dbd call at (rows_numbered region number (databases_opened o))).rows o.stores.stores ≡ records
          → call_told unit region number dbd call at (databases_opened o) ≡ unless_stopped None abend records
      told_where abend records e told = λ i. unless_stopped (free_now i) (e i) (told i)

      -- of a call that changes no record
      changes_none : (p : Planned) → PlansNone stored (dli dbd call at stored) p → (dli dbd call at (rows_numbered region number (databases_opened o))).changed ≡ None
      changes_none p plans = by_mine (λ d. d.changed ≡ None) (sym alike.changed ∙ plans.changed)

      pub none_told : (p : Planned) → PlansNone stored (dli dbd call at stored) p → call_told unit region number dbd call at (databases_opened o) ≡ []
      none_told p plans =
          let unchanged = changes_none p plans in
          told_where None []
          (ap (λ c. limit_abend_by number (region_at region (databases_opened o)).changed c (dli dbd call at (rows_numbered region number (databases_opened o))).refusal) unchanged)
          (ap (λ c. changed_told unit number c (dli dbd call at (rows_numbered region number (databases_opened o))).rows o.stores.stores) unchanged)

      pub none_touched : (p : Planned) (slots : List Change) → PlansNone stored (dli dbd call at stored) p
          → changed_touched number (dli dbd call at (rows_numbered region number (databases_opened o))).changed o.stores.stores slots ≡ slots
      none_touched p slots plans = ap (λ c. changed_touched number c o.stores.stores slots) (changes_none p plans)

      -- of one that changes a record
      module _ (p : Planned) (e : Edit) (plans : PlansEdit dbd stored (dli dbd call at stored) p e) where
        changes_one : (dli dbd call at (rows_numbered region number (databases_opened o))).changed ≡ Some e.root
        changes_one = by_mine (λ d. d.changed ≡ Some e.root) (sym alike.changed ∙ plans.changed)

        abend_is : data_abend number (data_of region (databases_opened o) []) (dli dbd call at (rows_numbered region number (databases_opened o))) ≡ abend_at (Some e)
        abend_is =
            by_mine (λ d. data_abend number (data_of region (databases_opened o) []) d ≡ abend_at (Some e))
            (λ i. limit_abend_by number (ap (λ (r : RegionRows). r.changed) sees i) ((sym alike.changed ∙ plans.changed) i) ((sym alike.refusal ∙ plans.refusal) i))

        pub led_told : (code : AbendCode) → abend_at (Some e) ≡ Some code → call_told unit region number dbd call at (databases_opened o) ≡ []
        led_told code led = told_where (Some code) _ (abend_is ∙ led) refl

        pub edit_touched : (slots : List Change)
            → changed_touched number (dli dbd call at (rows_numbered region number (databases_opened o))).changed o.stores.stores slots ≡ changed_touched number (Some e.root) o.stores.stores slots
        edit_touched slots = ap (λ c. changed_touched number c o.stores.stores slots) changes_one

        pub edit_is_told : abend_at (Some e) ≡ None → call_told unit region number dbd call at (databases_opened o) ≡ edit_told unit number (Some e) o.stores.stores
        edit_is_told limits =
            told_where None (edit_told unit number (Some e) o.stores.stores) (abend_is ∙ limits)
            (ap (λ c. changed_told unit number c (dli dbd call at (rows_numbered region number (databases_opened o))).rows o.stores.stores) changes_one
            ∙ ap (λ image. set_told unit number image o.stores.stores (slot_for e.root (slots_of_database number o.stores.stores))) (by_mine (λ d. record_of e.root d.rows ≡ e.image) mine_image))
          where
            unrefused : (dli dbd call at stored).refusal ≡ None
            unrefused = plans.refusal ∙ no_abend _ _ (limit_of (set_refusal dbd e.root e.image stored)) limits

            image_rooted : AllByRecursion (λ row. Rattle.model_data.specs.Path.root_of row.path ≡ e.root) e.image
            image_rooted = ⊎_elim (λ none. subst (λ rows. AllByRecursion (λ (row : Row). Rattle.model_data.specs.Path.root_of row.path ≡ e.root) rows) (sym none) tt) (λ r. r.under.one_root) plans.image

            image_left : record_of e.root (dli dbd call at stored).rows ≡ e.image
            image_left = ap (record_of e.root) (plans.rows unrefused) ∙ with_record_itself e.root e.image stored image_rooted

            by : (c : Option (List ℕ × List Row)) → option_map (λ x. x.0) c ≡ Some e.root → IfSome c (λ x. Rattle.model_data.specs.Record.IsUnder dbd.types x.0 x.1)
                → (dli dbd call at stored).rows ≡ rows_changed c stored → record_of e.root (rows_changed c mine) ≡ e.image
            by None q under rows = let clash : (let none : Option (List ℕ) = None in none) ≡ Some e.root = q in absurd (cc)
            by (Some c) q under rows =
                let both : Some c.0 ≡ Some e.root = q in
                let root : c.0 ≡ e.root = cc in
                ap (λ k. record_of k (with_record c.0 c.1 mine)) (sym root)
                ∙ (with_record_itself c.0 c.1 mine under.one_root
                ∙ (sym (with_record_itself c.0 c.1 stored under.one_root)
                ∙ (ap (λ k. record_of k (with_record c.0 c.1 stored)) root ∙ (ap (record_of e.root) (sym rows) ∙ image_left))))

            mine_image : record_of e.root (dli dbd call at mine).rows ≡ e.image
            mine_image = ap (record_of e.root) alike.rows_b ∙ by alike.change (sym (alike.whole unrefused) ∙ plans.changed) alike.under alike.rows_a

    -- a call that sets a record
    module _ (p : Planned) (e : Edit) (new : Opened) (plans : PlansEdit dbd stored (dli dbd call at stored) p e) (exists : IsThere stored (Some e))
        (limits : limit_abend_by number (roots_of (get_or units place [])) (Some e.root) (limit_of (set_refusal dbd e.root e.image stored)) ≡ None) (slot : ℕ) (put : IsPut number e o.stores.stores new.stores.stores)
        (takes : TakesSlot put.s e slot) (room : is_full number e.root (get_or units place []) ≡ false)
        (u : unit_records_of new.units.items ≡ set units place (with_change (change_kept number slot e put.s) (get_or units place [])))
        (t : new.table ≡ after_asks region (map (request_of region number) (footprint dbd call at stored)) o.table) (kept : IsTableKept new.table) where
      abbrev pub change : Change
      change = change_kept number slot e put.s

      unrefused : (dli dbd call at stored).refusal ≡ None
      unrefused = plans.refusal ∙ no_abend _ _ (limit_of (set_refusal dbd e.root e.image stored)) limits

      image_rooted : AllByRecursion (λ row. Rattle.model_data.specs.Path.root_of row.path ≡ e.root) e.image
      image_rooted = ⊎_elim (λ none. subst (λ rows. AllByRecursion (λ (row : Row). Rattle.model_data.specs.Path.root_of row.path ≡ e.root) rows) (sym none) tt) (λ r. r.under.one_root) plans.image

      image_left : record_of e.root (dli dbd call at stored).rows ≡ e.image
      image_left = ap (record_of e.root) (plans.rows unrefused) ∙ with_record_itself e.root e.image stored image_rooted

      mine_left : (dli dbd call at mine).rows ≡ with_record e.root e.image mine
      mine_left = alike.rows_b ∙ by alike.change (sym (alike.whole unrefused) ∙ plans.changed) alike.under alike.rows_a
        where
          by : (c : Option (List ℕ × List Row)) → option_map (λ x. x.0) c ≡ Some e.root → IfSome c (λ x. Rattle.model_data.specs.Record.IsUnder dbd.types x.0 x.1)
              → (dli dbd call at stored).rows ≡ rows_changed c stored → rows_changed c mine ≡ with_record e.root e.image mine
          by None q under rows = let clash : (let none : Option (List ℕ) = None in none) ≡ Some e.root = q in absurd (cc)
          by (Some c) q under rows =
              let both : Some c.0 ≡ Some e.root = q in
              let root : c.0 ≡ e.root = cc in
              let image : e.image ≡ c.1 =
              sym image_left ∙ (ap (record_of e.root) rows ∙ (ap (λ k. record_of k (with_record c.0 c.1 stored)) (sym root) ∙ with_record_itself c.0 c.1 stored under.one_root)) in
              λ i. with_record (root i) (sym image i) mine

      same_store : put.s ≡ s
      same_store = let both : Some put.s ≡ Some s = sym put.at ∙ there in cc

      stored_is : stored ≡ rows_of_slots put.s.slots
      stored_is = rows_at_is number o.stores.stores put.s put.at

      holds_alone : (need : Need) → IsNeeded need (footprint dbd call at stored) → need.mode ≡ Exclusive → HoldsAlone new.table (suc place) (record { db = number; root = need.root })
      holds_alone need needed mode =
          subst (λ (table : EnqueueTable). HoldsAlone table (suc place) (record { db = number; root = need.root })) (sym t)
          (subst (λ k. HoldsAlone (after_asks region (map (request_of region number) (footprint dbd call at stored)) o.table) k (record { db = number; root = need.root })) (sym up)
          (asked_after region (map (request_of region number) (footprint dbd call at stored)) o.table (request_of region number need) free
          (need_asked region number need (footprint dbd call at stored) needed) mode))

      comes_or_goes : (roots (dli dbd call at stored).rows ≡ roots stored) → (change.before ≡ []) ⊎ (e.image ≡ []) → ⊥
      comes_or_goes same way =
          ⊎_elim
          (λ none.
          let absent : record_of e.root stored ≡ [] = ap (record_of e.root) stored_is ∙ none in
          let gone : e.image ≡ [] =
          sym image_left ∙ roots_tell dbd types stored (dli dbd call at stored).rows (rows_kept dbd types stored stored_rows call at position ok) (sym same) e.root absent in
          exists gone absent)
          (λ gone. exists gone (roots_tell dbd types (dli dbd call at stored).rows stored stored_rows same e.root (image_left ∙ gone))) way

      pub set_in : IsSetIn new.table (suc place) change o.stores.stores put.s put.t e.image
      set_in =
          record {
            least = least;
            at = put.at;
            place = takes.place;
            before = refl;
            dbd = put.dbd;
            slots = put.slots ∙ ap (λ k. with_image k e.image put.s.slots) takes.place;
            valid = put.valid;
            own = own_image put.s.dbd e.root e.image takes.image;
            mine = holds_alone (record_need Exclusive e.root) (changed_needed dbd stored call at e.root plans.changed) refl;
            comes = λ way. ⊎_elim (λ same. absurd (comes_or_goes same way)) (λ needed. holds_alone (sequence_need Exclusive) needed refl) (roots_needed dbd types stored stored_rows call at position ok);
          }

      pub after_units : Follows o.table new.table
      after_units = follows region number (footprint dbd call at stored) o.table new.table least h.numbered t kept

      -- the units are open again
      pub set_open : AreUnits (unit_records_of new.units.items) new.stores.stores new.table
      set_open =
          subst (λ us. AreUnits us new.stores.stores new.table) (sym u)
          (subst (λ ss. AreUnits (set units place (with_change (change_kept number slot e put.s) (get_or units place []))) ss new.table) (sym put.stores)
          (set_units units o.stores.stores o.table new.table h after_units place within change put.s put.t e.image set_in room))

      whole : (IsRecord put.s.dbd e.root e.image) ⊎ (e.image ≡ [])
      whole = ⊎_elim (λ none. inr none) (λ long. ⊎_elim (λ none. inr none) (λ r. inl (record_of_slot r long)) in_slot) takes.image
        where
          before_there : slice_get put.s.slots slot ≡ Some (record_of e.root (rows_of_slots put.s.slots))
          before_there = (Rattle.program_rows.proofs.Stepping.has_slot number e.root slot put.s takes.valid takes.place).at

          image_there : slice_get put.t.slots slot ≡ Some e.image
          image_there =
              ap (λ xs. slice_get xs slot) set_in.slots
              ∙ Rattle.unit_work.proofs.Backing.get_set_same put.s.slots slot e.image (Rattle.std.proofs.lemmas.Option.slice_get_within put.s.slots slot (record_of e.root (rows_of_slots put.s.slots)) before_there)

          in_slot : Rattle.seg_store.specs.Slots.IsSlot put.t.dbd e.image
          in_slot = all_there (Rattle.seg_store.specs.Slots.IsSlot put.t.dbd) put.t.slots slot e.image put.valid.each image_there

          record_of_slot : IsRecord put.t.dbd (Rattle.seg_store.specs.Slots.image_root e.image) e.image → Rattle.model_data.specs.Record.IsLongRecord put.s.dbd.types e.root e.image → IsRecord put.s.dbd e.root e.image
          record_of_slot r long = subst (λ d. IsRecord d e.root e.image) put.dbd (subst (λ k. IsRecord put.t.dbd k e.image) (record_image_root put.s.dbd.types e.root e.image long) r)

      new_regions : (databases_opened new).regions ≡ set (databases_opened o).regions (region - 1) (rows_after_call number (dli dbd call at mine) (region_at region (databases_opened o)))
      new_regions =
          (λ i. regions_from 0 (u i) (u i) (put.stores i))
          ∙ same_list no_rows (regions_from 0 us us now) (set (databases_opened o).regions (region - 1) (rows_after_call number (dli dbd call at mine) (region_at region (databases_opened o))))
          (regions_length 0 us us now ∙ (length-set units place (with_change change (get_or units place []))
          ∙ sym (length-set (databases_opened o).regions (region - 1) (rows_after_call number (dli dbd call at mine) (region_at region (databases_opened o))) ∙ regions_length 0 units units o.stores.stores)))
          (λ k lt.
          let inside : k < length units = omega (arith, lt, regions_length 0 us us now, length-set units place (with_change change (get_or units place []))) in
          ⊎_elim (λ same. own k same inside) (λ other. others k other inside) (cases_eq k place))
        where
          us : List (List Change)
          us = set units place (with_change change (get_or units place []))

          now : List Stored
          now = set o.stores.stores (number - 1) put.t

          sizes : (k : ℕ) → k < length units → k < length us
          sizes k inside = omega (arith, inside, length-set units place (with_change change (get_or units place [])))

          own : (k : ℕ) → k ≡ place → k < length units
              → get_or (regions_from 0 us us now) k no_rows ≡ get_or (set (databases_opened o).regions (region - 1) (rows_after_call number (dli dbd call at mine) (region_at region (databases_opened o)))) k no_rows
          own k same inside =
              ap (λ n. get_or (regions_from 0 us us now) n no_rows) same
              ∙ (region_is place us now (sizes place within)
              ∙ ((λ i. record { rows = rows i; changed = changed i })
              ∙ sym (ap (λ n. get_or (set (databases_opened o).regions (region - 1) (rows_after_call number (dli dbd call at mine) (region_at region (databases_opened o)))) n no_rows) same
              ∙ get_put (databases_opened o).regions place (rows_after_call number (dli dbd call at mine) (region_at region (databases_opened o))) no_rows (omega (arith, within, regions_length 0 units units o.stores.stores)))))
            where
              rows : rows_of_stores (seen_by place us now) ≡ set (region_at region (databases_opened o)).rows (number - 1) (dli dbd call at mine).rows
              rows =
                  set_seen units o.stores.stores o.table new.table h after_units place within change put.s put.t e.image set_in room whole
                  (λ none gone. exists gone (ap (record_of e.root) stored_is ∙ none))
                  ∙ (λ i. set (ap (λ (r : RegionRows). r.rows) (sym sees) i) (number - 1) (sym mine_left i))

              changed : roots_of (get_or us place []) ≡ with_changed_root number (dli dbd call at mine).changed (region_at region (databases_opened o)).changed
              changed =
                  ap roots_of (get_put units place (with_change change (get_or units place [])) [] within)
                  ∙ (changed_push change (get_or units place [])
                  ∙ (λ i. with_changed_root number ((sym plans.changed ∙ alike.changed) i) (ap (λ (r : RegionRows). r.changed) (sym sees) i)))

          others : (k : ℕ) → k ≢ place → k < length units
              → get_or (regions_from 0 us us now) k no_rows ≡ get_or (set (databases_opened o).regions (region - 1) (rows_after_call number (dli dbd call at mine) (region_at region (databases_opened o)))) k no_rows
          others k other inside =
              region_is k us now (sizes k inside)
              ∙ ((λ i. record {
                rows = rows_of_stores (set_others units o.stores.stores o.table new.table h after_units place within change put.s put.t e.image set_in room k other i);
                changed = roots_of (get_put_else units place k (with_change change (get_or units place [])) [] other i);
              })
              ∙ sym (get_put_else (databases_opened o).regions place k (rows_after_call number (dli dbd call at mine) (region_at region (databases_opened o))) no_rows other
              ∙ region_is k units o.stores.stores inside))

      pub sets : (a : answer.Answered) → IfSome p.area IsSegmentText → a.status ≡ p.status → a.area ≡ p.area → a.position ≡ p.position → Called region number dbd call at (databases_opened o) (databases_opened new) (Answered a)
      sets a text st ar po =
          record {
            blocked = unblocked;
            abend = by_mine (λ d. data_abend number (data_of region (databases_opened o) []) d ≡ None) without;
            gives = by_mine (λ d. IsAnswer d a) (answers p a (plans.answer unrefused) st ar po text);
            leaves = by_mine (λ d. (databases_opened new).regions ≡ set (databases_opened o).regions (region - 1) (rows_after_call number d (region_at region (databases_opened o)))) new_regions;
            asks = t ∙ same_asks.1;
            stays = tt;
            committed = (λ i. Rattle.program_rows.specs.OpenUnits.backed_all (u i) (put.stores i))
                ∙ set_committed units o.stores.stores o.table new.table h after_units place within change put.s put.t e.image set_in room;
            dbds = ap (map (λ (x : Stored). x.dbd)) put.stores ∙ dbds_stay o.stores.stores (number - 1) put.s put.t put.at put.dbd;
          }
        where
          without : data_abend number (data_of region (databases_opened o) []) (dli dbd call at mine) ≡ None
          without =
              (λ i. limit_abend_by number (ap (λ (r : RegionRows). r.changed) sees i) ((sym alike.changed ∙ plans.changed) i) ((sym alike.refusal ∙ plans.refusal) i)) ∙ limits

    -- a call that leads to an abend
    pub leads : (p : Planned) (e : Edit) (code : AbendCode) (new : Opened) → PlansEdit dbd stored (dli dbd call at stored) p e
        → limit_abend_by number (roots_of (get_or units place [])) (Some e.root) (limit_of (set_refusal dbd e.root e.image stored)) ≡ Some code → IsSame o new
        → Called region number dbd call at (databases_opened o) (databases_opened new) (Abend code)
    leads p e code new plans limits same =
        record {
          blocked = unblocked;
          abend = by_mine (λ d. data_abend number (data_of region (databases_opened o) []) d ≡ Some code)
              ((λ i. limit_abend_by number (ap (λ (r : RegionRows). r.changed) sees i) ((sym alike.changed ∙ plans.changed) i) ((sym alike.refusal ∙ plans.refusal) i)) ∙ limits);
          gives = tt;
          leaves = same_regions new same.units same.stores;
          asks = same.table;
          stays = λ i. with_open_units (same.units i) (same.slots i) (same.stores i) (same.changed i) (same.table i);
          committed = same_committed new same.units same.stores;
          dbds = ap (map (λ (x : Stored). x.dbd)) same.stores;
        }
