-- What the others see, and hold, once the changes of a unit stay.
use Rattle.std.proofs.Common.{◌≡◌, ◌≢◌, ℕ, ◌<◌, ◌≤◌, ◌∷◌, [], List, length, zero, suc, refl, sym, ◌∙◌, ap, subst, Bool, true, false, Option, None, Some, arith, get_or, set, eqb, ◌&&◌, ◌||◌, ⊎_elim}
use Rattle.std.specs.List.{AllByRecursion, list_any}
use Rattle.std.proofs.lemmas.Bool.{false≢true}
use Rattle.std.proofs.lemmas.List.{length-set}
use Rattle.tm_types.specs.declared.resource.Resource.{Resource}
use Rattle.tm_types.specs.declared.resource.Mode.{Mode}
use Rattle.model_data.specs.Rows.{record_of, roots}
use Rattle.model_data.proofs.Lists.{all_then}
use Rattle.model_data.specs.Footprint.{AgreeAt}
use Rattle.model_data.specs.declared.request.Holder.{Holder}
use Rattle.model_data.specs.Modes.{same_resource}
use Rattle.model_data.specs.Table.{EnqueueTable, holds_of}
use Rattle.pi_enqueue.specs.KeptTable.{held_mode}
use Rattle.seg_store.specs.Slots.{Stored}
use Rattle.unit_work.specs.declared.change.Change.{Change}
use Rattle.unit_work.specs.Changes.{is_record_changed}
use Rattle.unit_work.specs.BackOut.{backed_out, IsStored}
use Rattle.program_rows.specs.DatabasesState.{roots_of, rows_of_stores, database_rows_in, with_records_from}
use Rattle.program_rows.specs.Isolation.{AgreeOnHeld}
use Rattle.program_rows.specs.OpenUnits.{HoldsAlone, StaysInSlot, Sits, AreUnits, backed_all, seen_by}
use Rattle.program_rows.proofs.Together.{push, beside_others, get_set_else, set_apart}
use Rattle.program_rows.proofs.Backed.{IsGood, good_all, stay_all, record_back, roots_back, dbds_all}
use Rattle.program_rows.proofs.Apart.{holds_changed, others_apart, all_beside, all_good, all_rooted}
use Rattle.program_rows.proofs.Holders.{any_found, resource_exact}
use Rattle.program_rows.proofs.Seen.{others_beside, seen_valid}
use Rattle.program_rows.proofs.BackUnits.{keep_units}
use Rattle.program_rows.proofs.Overlay.{overlaid}

all_get : (P : List Change → Type 0) (units : List (List Change)) (i : ℕ) → AllByRecursion P units → i < length units → P (get_or units i [])
all_get P [] i h lt = absurd (omega arith)
all_get P (a ∷ units) zero h lt = h.0
all_get P (a ∷ units) (suc i) h lt = all_get P units i h.1 (omega arith)

module _ (units : List (List Change)) (stores : List Stored) (table : EnqueueTable) (h : AreUnits units stores table) (place : ℕ) (lt : place < length units) where
  kept : AreUnits (set units place []) stores table
  kept = keep_units units stores table h place lt

  -- the unit can be backed out of what is then committed
  pub good_then : IsGood (backed_all (set units place []) stores) (get_or units place [])
  good_then =
      good_all stores (get_or units place []) (set units place []) (all_get (IsGood stores) units place (all_good units stores table h) lt)
      (beside_others stores units place lt (all_rooted units stores table h) (all_beside units stores table h)) (others_beside units stores table h place)

  pub committed_last : backed_all units stores ≡ backed_out (get_or units place []) (backed_all (set units place []) stores)
  committed_last = push stores units place lt (all_rooted units stores table h) (all_beside units stores table h)

  module _ (k : ℕ) (inside : k < length units) (other : k ≢ place) where
    -- the stores without the changes of either
    abbrev pub neither : List Stored
    neither = backed_all (set (set units place []) k []) stores

    within : k < length (set units place [])
    within = omega (arith, inside, length-set units place [])

    theirs : get_or (set units place []) k [] ≡ get_or units k []
    theirs = get_set_else units place k [] other

    mine : get_or (set units k []) place [] ≡ get_or units place []
    mine = get_set_else units k place [] (λ e. other (sym e))

    swapped : set (set units k []) place [] ≡ set (set units place []) k []
    swapped = set_apart units k place [] [] other

    -- what is committed then is without the changes of the other
    then_is : backed_all (set units place []) stores ≡ backed_out (get_or units k []) neither
    then_is =
        push stores (set units place []) k within (all_rooted (set units place []) stores table kept) (all_beside (set units place []) stores table kept)
        ∙ ap (λ a. backed_out a (backed_all (set (set units place []) k []) stores)) theirs

    -- and what the other saw is without those of the unit
    saw_is : seen_by k units stores ≡ backed_out (get_or units place []) neither
    saw_is =
        push stores (set units k []) place (omega (arith, lt, length-set units k []))
        (all_rooted (set units k []) stores table (keep_units units stores table h k inside)) (others_beside units stores table h k)
        ∙ (λ t. backed_out (mine t) (backed_all (swapped t) stores))

    good_theirs : IsGood neither (get_or units k [])
    good_theirs =
        good_all stores (get_or units k []) (set (set units place []) k []) (all_get (IsGood stores) units k (all_good units stores table h) inside)
        (subst (λ a. AllByRecursion (Rattle.program_rows.proofs.Beside.AreBeside stores a) (set (set units place []) k [])) theirs
        (beside_others stores (set units place []) k within (all_rooted (set units place []) stores table kept) (all_beside (set units place []) stores table kept)))
        (others_beside (set units place []) stores table kept k)

    good_mine : IsGood neither (get_or units place [])
    good_mine =
        good_all stores (get_or units place []) (set (set units place []) k []) (all_get (IsGood stores) units place (all_good units stores table h) lt)
        (subst (λ us. AllByRecursion (Rattle.program_rows.proofs.Beside.AreBeside stores (get_or units place [])) us) swapped
        (subst (λ a. AllByRecursion (Rattle.program_rows.proofs.Beside.AreBeside stores a) (set (set units k []) place [])) mine
        (beside_others stores (set units k []) place (omega (arith, lt, length-set units k []))
        (all_rooted (set units k []) stores table (keep_units units stores table h k inside)) (others_beside units stores table h k))))
        (others_beside (set units place []) stores table kept k)

    -- what the other sees then: its own records as it saw them, all others as they are committed
    pub sees_then : rows_of_stores neither ≡ with_records_from (roots_of (get_or units k [])) (rows_of_stores (seen_by k units stores)) (rows_of_stores (backed_all (set units place []) stores))
    sees_then =
        overlaid neither (seen_by k units stores) (backed_all (set units place []) stores) (get_or units k [])
        (seen_valid (set units place []) stores table kept k) (seen_valid units stores table h k) (seen_valid units stores table h place)
        (dbds_all stores (set units k []) ∙ sym (dbds_all stores (set units place []))) (dbds_all stores (set (set units place []) k []) ∙ sym (dbds_all stores (set units place [])))
        (all_then (IsStored stores) (λ (c : Change). 1 ≤ c.db) (get_or units k []) (λ c st. st.least) (h.each k inside).can.stored)
        (λ db key least changed.
        sym (ap (λ ss. record_of key (database_rows_in db (rows_of_stores ss))) saw_is
        ∙ record_back neither (get_or units place []) db key least (seen_valid (set units place []) stores table kept k) good_mine
        (others_apart table stores h.compatible (suc k) (suc place) (get_or units k []) (get_or units place []) (h.each k inside) (h.each place lt) (λ e. other (omega (arith, e))) db key changed)))
        (λ db key least unchanged.
        sym (ap (λ ss. record_of key (database_rows_in db (rows_of_stores ss))) then_is
        ∙ record_back neither (get_or units k []) db key least (seen_valid (set units place []) stores table kept k) good_theirs unchanged))

    -- what it holds is committed as it was
    pub held_then : AgreeOnHeld table (suc k) (rows_of_stores (backed_all units stores)) (rows_of_stores (backed_all (set units place []) stores))
    held_then number root held_so = by root found.0 found.1 (least_of table.holds h.numbered held_so)
      where
        found : (mode : Mode) × (held_mode (suc k) (record { db = number; root = root }) table.holds ≡ Some mode)
        found = any_found (λ (holder : Holder). holds_of (record { db = number; root = root }) holder && eqb holder.region (suc k)) table.holds held_so

        least_of : (entries : List (Holder × Mode)) → AllByRecursion (λ hold. 1 ≤ hold.0.resource.db) entries
            → list_any (λ hold. same_resource hold.0.resource (record { db = number; root = root }) && eqb hold.0.region (suc k)) entries ≡ true → 1 ≤ number
        least_of [] n e = absurd (false≢true e)
        least_of (x ∷ entries) n e = each (same_resource x.0.resource (record { db = number; root = root }) && eqb x.0.region (suc k)) refl (least_of entries n.1)
          where
            left : (a b : Bool) → (a && b) ≡ true → a ≡ true
            left true b q = refl
            left false b q = absurd (false≢true q)

            each : (b : Bool) → (same_resource x.0.resource (record { db = number; root = root }) && eqb x.0.region (suc k)) ≡ b
                → (list_any (λ hold. same_resource hold.0.resource (record { db = number; root = root }) && eqb hold.0.region (suc k)) entries ≡ true → 1 ≤ number) → 1 ≤ number
            each false q rec =
                rec (sym (ap (λ b. b || list_any (λ hold. same_resource hold.0.resource (record { db = number; root = root }) && eqb hold.0.region (suc k)) entries) q) ∙ e)
            each true q rec = subst (λ (r : Resource). 1 ≤ r.db) (resource_exact x.0.resource (record { db = number; root = root }) (left (same_resource x.0.resource (record { db = number; root = root })) _ q)) n.0

        never : (r : Option (List ℕ)) (mode : Mode) → held_mode (suc k) (record { db = number; root = r }) table.holds ≡ Some mode → HoldsAlone table (suc place) (record { db = number; root = r }) → ⊥
        never r mode theirs_held alone = absurd (other (omega (arith, h.compatible.alone _ (suc place) (suc k) mode alone theirs_held)))

        unchanged : (key : List ℕ) (mode : Mode) → held_mode (suc k) (record { db = number; root = Some key }) table.holds ≡ Some mode → (b : Bool) → is_record_changed number key (get_or units place []) ≡ b
            → is_record_changed number key (get_or units place []) ≡ false
        unchanged key mode theirs_held false q = q
        unchanged key mode theirs_held true q =
            absurd (never (Some key) mode theirs_held (holds_changed table (suc place) number key (get_or units place []) (h.each place lt).alone q))

        stays : (mode : Mode) → held_mode (suc k) (record { db = number; root = None }) table.holds ≡ Some mode → AllByRecursion (λ c. c.db ≡ number → StaysInSlot stores c) (get_or units place [])
        stays mode theirs_held =
            all_then (Sits table stores (suc place)) (λ c. c.db ≡ number → StaysInSlot stores c) (get_or units place [])
            (λ c st d. ⊎_elim (λ x. x) (λ seq. absurd (never None mode theirs_held (subst (λ n. HoldsAlone table (suc place) (record { db = n; root = None })) d seq))) st)
            (h.each place lt).sits

        by : (r : Option (List ℕ)) (mode : Mode) → held_mode (suc k) (record { db = number; root = r }) table.holds ≡ Some mode → 1 ≤ number
            → AgreeAt r (database_rows_in number (rows_of_stores (backed_all units stores))) (database_rows_in number (rows_of_stores (backed_all (set units place []) stores)))
        by (Some key) mode theirs_held least =
            ap (λ ss. record_of key (database_rows_in number (rows_of_stores ss))) committed_last
            ∙ record_back (backed_all (set units place []) stores) (get_or units place []) number key least (seen_valid units stores table h place) good_then
            (unchanged key mode theirs_held (is_record_changed number key (get_or units place [])) refl)
        by None mode theirs_held least =
            ap (λ ss. roots (database_rows_in number (rows_of_stores ss))) committed_last
            ∙ roots_back (backed_all (set units place []) stores) (get_or units place []) number least (seen_valid units stores table h place) good_then
            (stay_all stores (get_or units place []) (set units place []) number least (all_get (IsGood stores) units place (all_good units stores table h) lt)
            (beside_others stores units place lt (all_rooted units stores table h) (all_beside units stores table h)) (others_beside units stores table h place) (stays mode theirs_held))
