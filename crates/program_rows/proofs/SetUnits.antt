-- The open units after one of them has set a record.
use Rattle.std.proofs.Common.{◌≡◌, ◌≢◌, ℕ, ◌+◌, ◌-◌, ◌<◌, ◌≤◌, ◌++◌, ◌∷◌, [], List, length, zero, suc, refl, sym, ◌∙◌, ap, subst, Bool, true, false, cond, Option, None, Some, arith, get_or, set, ◌⊎◌, inl, inr, ⊎_elim}
use Rattle.std.specs.List.{AllByRecursion, slice_get}
use Rattle.std.proofs.lemmas.Bool.{false≢true, cases_eq}
use Rattle.std.proofs.lemmas.List.{length-set}
use Rattle.model_data.specs.declared.row.Row.{Row}
use Rattle.model_data.specs.Record.{IsRecord}
use Rattle.model_data.specs.Rows.{record_of, with_record}
use Rattle.model_data.proofs.Lists.{all_then, all_append}
use Rattle.model_data.specs.Table.{EnqueueTable}
use Rattle.pi_enqueue.specs.KeptTable.{IsTableKept}
use Rattle.seg_store.specs.Slots.{Stored, has_root, AreSlots, slot_of_root, slot_for, rows_of_slots}
use Rattle.seg_store.proofs.SlotRows.{same_key, record_some}
use Rattle.unit_work.specs.declared.change.Change.{Change}
use Rattle.unit_work.specs.Changes.{is_record_changed, with_change, is_full}
use Rattle.unit_work.specs.BackOut.{is_touched, cleared_slot, backed_out}
use Rattle.unit_work.proofs.Keeping.{kept_touch}
use Rattle.program_rows.specs.DatabasesState.{rows_of_stores, database_rows_in}
use Rattle.program_rows.specs.OpenUnits.{HoldsAlone, StaysInSlot, Sits, IsOpenUnit, AreUnits, backed_all, seen_by, was_there}
use Rattle.unit_work.specs.Images.{slots_of_database, image_at}
use Rattle.program_rows.proofs.Stepping.{Own, HasSlot, Steps, steps, has_slot}
use Rattle.program_rows.proofs.Beside.{IsIdle, touched_is, none_touched, all_changed}
use Rattle.program_rows.proofs.Aside.{can_aside, cleared_where, slots_there}
use Rattle.program_rows.proofs.Together.{pull, all_by, get_set, get_set_else, set_twice, set_apart}
use Rattle.program_rows.proofs.Backed.{AreValid, all_there, record_all, rows_in_is}
use Rattle.program_rows.proofs.Apart.{holds_changed, free_where, all_beside}
use Rattle.program_rows.proofs.OneSlot.{OneSlot, slot_put, one_aside, one_all}
use Rattle.program_rows.proofs.SlotRows.{Replaces, one_rows}
use Rattle.program_rows.proofs.Seen.{others_beside, others_good, seen_valid}

-- the table of a region that has what it asked for
pub record Follows (old new : EnqueueTable) : Type 0 where
  pub kept : IsTableKept new
  pub regions : new.regions ≡ old.regions
  pub numbered : AllByRecursion (λ hold. 1 ≤ hold.0.resource.db) new.holds
  pub alone : (k : ℕ) (r : Rattle.tm_types.specs.declared.resource.Resource.Resource) → HoldsAlone old k r → HoldsAlone new k r

-- a record that is set in the slot that it takes, by a region that has it alone, and the sequence where the record comes or goes
pub record IsSetIn (table : EnqueueTable) (region : ℕ) (c : Change) (stores : List Stored) (s new : Stored) (image : List Row) : Type 0 where
  pub least : 1 ≤ c.db
  pub at : slice_get stores (c.db - 1) ≡ Some s
  pub place : slot_for c.root s.slots ≡ Some c.slot
  pub before : c.before ≡ record_of c.root (rows_of_slots s.slots)
  pub dbd : new.dbd ≡ s.dbd
  pub slots : new.slots ≡ set s.slots c.slot image
  pub valid : AreSlots new.dbd new.slots
  pub own : Own c.root image
  pub mine : HoldsAlone table region (record { db = c.db; root = Some c.root })
  pub comes : (c.before ≡ []) ⊎ (image ≡ []) → HoldsAlone table region (record { db = c.db; root = None })

valid_put : (stores : List Stored) (i : ℕ) (new : Stored) → AreValid stores → AreSlots new.dbd new.slots → AreValid (set stores i new)
valid_put [] i new h v = tt
valid_put (s ∷ stores) zero new h v = (v, h.1)
valid_put (s ∷ stores) (suc i) new h v = (h.0, valid_put stores i new h.1 v)

pub some_or_none : (image : List Row) → (image ≡ []) ⊎ (image ≢ [])
some_or_none [] = inl refl
some_or_none (row ∷ image) = inr (λ e. absurd (cc))

module _ (units : List (List Change)) (stores : List Stored) (table after : EnqueueTable) (h : AreUnits units stores table) (f : Follows table after) (place : ℕ) (lt : place < length units)
    (c : Change) (s new : Stored) (image : List Row) (i : IsSetIn after (suc place) c stores s new image) (room : is_full c.db c.root (get_or units place []) ≡ false) where
  mine : List Change
  mine = get_or units place []

  store_valid : AreSlots s.dbd s.slots
  store_valid = all_there (λ (x : Stored). AreSlots x.dbd x.slots) stores (c.db - 1) s h.valid i.at

  pub has : HasSlot c s
  has =
      subst (λ (before : List Row). HasSlot (record { db = c.db; slot = c.slot; root = c.root; before = before }) s) (sym i.before)
      (has_slot c.db c.root c.slot s store_valid i.place)

  pub one : OneSlot c.db c.slot c.before image stores (set stores (c.db - 1) new)
  one = slot_put c.db c.slot c.before image stores s new i.least i.at has.at i.dbd i.slots

  pub stepped : Steps c (get_or units place []) stores (set stores (c.db - 1) new)
  stepped =
      let db : c.db ≡ 1 + (c.db - 1) = omega (arith, i.least) in
      steps c (get_or units place []) (c.db - 1) stores s db i.at has (h.each place lt).can new image i.dbd i.slots i.own

  -- the units of the others are idle in the slot
  untouched : (k : ℕ) → k < length units → k ≢ place → (x : List Row) → Own c.root x → is_touched (get_or units k []) c.db x ≡ false
  untouched k inside other x own =
      ⊎_elim (λ none. ap (is_touched (get_or units k []) c.db) none ∙ none_touched (get_or units k []) c.db)
      (λ has_it. touched_is (get_or units k []) c.db c.root x has_it ∙ unchanged (is_record_changed c.db c.root (get_or units k [])) refl) own
    where
      unchanged : (b : Bool) → is_record_changed c.db c.root (get_or units k []) ≡ b → is_record_changed c.db c.root (get_or units k []) ≡ false
      unchanged false q = q
      unchanged true q =
          let theirs = f.alone (suc k) (record { db = c.db; root = Some c.root }) (holds_changed table (suc k) c.db c.root (get_or units k []) (h.each k inside).alone q) in
          let same : suc k ≡ suc place = f.kept.alone _ (suc k) (suc place) _ theirs i.mine in
          absurd (other (omega (arith, same)))

  unused : (k : ℕ) → k < length units → k ≢ place → was_there (get_or units k []) c.db c.slot ≡ false
  unused k inside other = by (was_there (get_or units k []) c.db c.slot) refl
    where
      by : (b : Bool) → was_there (get_or units k []) c.db c.slot ≡ b → was_there (get_or units k []) c.db c.slot ≡ false
      by false q = q
      by true q =
          let same : cleared_slot (get_or units k []) c.db c.before ≡ c.before = ap (λ b. cond b [] c.before) (untouched k inside other c.before has.own) in
          let none : c.before ≡ [] = sym same ∙ (ap (cleared_slot (get_or units k []) c.db) (sym one.before) ∙ cleared_where (get_or units k []) stores c.db c.slot (h.each k inside).can q) in
          let theirs = f.alone (suc k) (record { db = c.db; root = None })
          (free_where table stores (suc k) (get_or units k []) c.db c.slot (h.each k inside).sits q (one.before ∙ none)) in
          let clash : suc k ≡ suc place = f.kept.alone _ (suc k) (suc place) _ theirs (i.comes (inl none)) in
          absurd (other (omega (arith, clash)))

  pub idle_was : (k : ℕ) → k < length units → k ≢ place → IsIdle (get_or units k []) c.db c.slot c.before
  idle_was k inside other = record { untouched = untouched k inside other c.before has.own; unused = unused k inside other }

  pub idle_image : (k : ℕ) → k < length units → k ≢ place → IsIdle (get_or units k []) c.db c.slot image
  idle_image k inside other = record { untouched = untouched k inside other image i.own; unused = unused k inside other }

  alone_then : (k : ℕ) (rs : List Change) → AllByRecursion (λ x. HoldsAlone table k (record { db = x.db; root = Some x.root })) rs
      → AllByRecursion (λ x. HoldsAlone after k (record { db = x.db; root = Some x.root })) rs
  alone_then k rs =
      all_then (λ (x : Change). HoldsAlone table k (record { db = x.db; root = Some x.root })) (λ (x : Change). HoldsAlone after k (record { db = x.db; root = Some x.root })) rs
      (λ x a. f.alone k (record { db = x.db; root = Some x.root }) a)

  -- a record in another slot sits where it sat
  elsewhere : (x : Change) → 1 ≤ x.db → (x.db ≡ c.db → x.slot ≡ c.slot → ⊥) → StaysInSlot stores x → StaysInSlot (set stores (c.db - 1) new) x
  elsewhere x least apart st = record { was = st.was; is = ap (has_root x.root) (one.else x.db x.slot least apart) ∙ st.is }

  others_unit : (k : ℕ) → k < length units → k ≢ place → IsOpenUnit after (set stores (c.db - 1) new) (suc k) (get_or units k [])
  others_unit k inside other =
      let unit = h.each k inside in
      record {
        can = can_aside (get_or units k []) stores (set stores (c.db - 1) new) unit.can
            (one_aside c.db c.slot c.before image stores (set stores (c.db - 1) new) one (get_or units k []) (idle_was k inside other) (idle_image k inside other));
        kept = unit.kept;
        alone = alone_then (suc k) (get_or units k []) unit.alone;
        sits = each (get_or units k []) unit.sits unit.can.stored (all_changed (get_or units k []));
      }
    where
      one_sits : (x : Change) → 1 ≤ x.db → is_record_changed x.db x.root (get_or units k []) ≡ true → Sits table stores (suc k) x → Sits after (set stores (c.db - 1) new) (suc k) x
      one_sits x least own sit =
          ⊎_elim
          (λ st. inl (elsewhere x least
          (λ d p.
          let there : has_root x.root c.before ≡ true = ap (has_root x.root) (sym ((λ t. image_at (d t) (p t) stores) ∙ one.before)) ∙ st.is in
          let touched : is_touched (get_or units k []) c.db c.before ≡ true =
          touched_is (get_or units k []) c.db x.root c.before there ∙ (ap (λ n. is_record_changed n x.root (get_or units k [])) (sym d) ∙ own) in
          absurd (false≢true (sym (untouched k inside other c.before has.own) ∙ touched))) st))
          (λ seq. inr (f.alone (suc k) (record { db = x.db; root = None }) seq)) sit

      each : (rs : List Change) → AllByRecursion (Sits table stores (suc k)) rs → AllByRecursion (Rattle.unit_work.specs.BackOut.IsStored stores) rs
          → AllByRecursion (λ x. is_record_changed x.db x.root (get_or units k []) ≡ true) rs → AllByRecursion (Sits after (set stores (c.db - 1) new) (suc k)) rs
      each [] a b d = tt
      each (x ∷ rs) a b d = (one_sits x b.0.least d.0 a.0, each rs a.1 b.1 d.1)

  -- its own record sits, and so do those that it has changed before
  sits_own : (x : Change) → x.db ≡ c.db → x.slot ≡ c.slot → x.root ≡ c.root → x.before ≢ [] → (image ≡ []) ⊎ (image ≢ []) → Sits after (set stores (c.db - 1) new) (suc place) x
  sits_own x d p r was some =
      ⊎_elim
      (λ none. inr (subst (λ n. HoldsAlone after (suc place) (record { db = n; root = None })) (sym d) (i.comes (inr none))))
      (λ there.
      ⊎_elim (λ none. absurd (there none))
      (λ has_it. inl (record {
        was = was;
        is = ap (has_root x.root) ((λ t. image_at (d t) (p t) (set stores (c.db - 1) new)) ∙ one.here) ∙ (ap (λ k. has_root k image) r ∙ has_it);
      })) i.own) some

  old_sits : (x : Change) → 1 ≤ x.db → Sits table stores (suc place) x → Sits after (set stores (c.db - 1) new) (suc place) x
  old_sits x least sit =
      ⊎_elim
      (λ st.
      ⊎_elim
      (λ d. ⊎_elim (λ p. here st d p) (λ other. inl (elsewhere x least (λ d' p. other p) st)) (cases_eq x.slot c.slot))
      (λ other. inl (elsewhere x least (λ d p. other d) st)) (cases_eq x.db c.db))
      (λ seq. inr (f.alone (suc place) (record { db = x.db; root = None }) seq)) sit
    where
      here : StaysInSlot stores x → x.db ≡ c.db → x.slot ≡ c.slot → Sits after (set stores (c.db - 1) new) (suc place) x
      here st d p =
          let there : has_root x.root c.before ≡ true = ap (has_root x.root) (sym ((λ t. image_at (d t) (p t) stores) ∙ one.before)) ∙ st.is in
          ⊎_elim
          (λ none. absurd (false≢true (ap (has_root x.root) (sym none) ∙ there)))
          (λ has_it. sits_own x d p (roots c.before there has_it) st.was (some_or_none image)) has.own
        where
          roots : (image : List Row) → has_root x.root image ≡ true → has_root c.root image ≡ true → x.root ≡ c.root
          roots [] a b = absurd (false≢true a)
          roots (row ∷ rows) a b = sym (same_key x.root _ a) ∙ same_key c.root _ b

  new_sits : Sits after (set stores (c.db - 1) new) (suc place) c
  new_sits = ⊎_elim (λ none. inr (i.comes (inl none))) (λ was. sits_own c refl refl refl was (some_or_none image)) (some_or_none c.before)

  all_old : (rs : List Change) → AllByRecursion (Sits table stores (suc place)) rs → AllByRecursion (Rattle.unit_work.specs.BackOut.IsStored stores) rs
      → AllByRecursion (Sits after (set stores (c.db - 1) new) (suc place)) rs
  all_old [] a b = tt
  all_old (x ∷ rs) a b = (old_sits x b.0.least a.0, all_old rs a.1 b.1)

  all_with : (P : Change → Type 0) → AllByRecursion P (get_or units place []) → P c → AllByRecursion P (with_change c (get_or units place []))
  all_with P old fresh = by (is_record_changed c.db c.root (get_or units place []))
    where
      by : (b : Bool) → AllByRecursion P (cond b (get_or units place []) (get_or units place [] ++ c ∷ []))
      by true = old
      by false = all_append P (get_or units place []) (c ∷ []) old (fresh, tt)

  own_unit : IsOpenUnit after (set stores (c.db - 1) new) (suc place) (with_change c (get_or units place []))
  own_unit =
      let unit = h.each place lt in
      record {
        can = stepped.can;
        kept = kept_touch c (get_or units place []) (with_change c (get_or units place [])) unit.kept room refl;
        alone = all_with (λ x. HoldsAlone after (suc place) (record { db = x.db; root = Some x.root })) (alone_then (suc place) (get_or units place []) unit.alone) i.mine;
        sits = all_with (Sits after (set stores (c.db - 1) new) (suc place)) (all_old (get_or units place []) unit.sits unit.can.stored) new_sits;
      }

  -- they are open units again
  pub set_units : AreUnits (set units place (with_change c (get_or units place []))) (set stores (c.db - 1) new) after
  set_units =
      record {
        valid = valid_put stores (c.db - 1) new h.valid i.valid;
        compatible = f.kept;
        count = length-set units place (with_change c (get_or units place [])) ∙ (h.count ∙ sym f.regions);
        numbered = f.numbered;
        each = λ k inside.
            let within : k < length units = omega (arith, inside, length-set units place (with_change c (get_or units place []))) in
            ⊎_elim
            (λ same.
            subst (IsOpenUnit after (set stores (c.db - 1) new) (suc k)) (sym (ap (λ n. get_or (set units place (with_change c (get_or units place []))) n []) same ∙ get_set units place (with_change c (get_or units place [])) lt))
            (subst (λ n. IsOpenUnit after (set stores (c.db - 1) new) (suc n) (with_change c (get_or units place []))) (sym same) own_unit))
            (λ other.
            subst (IsOpenUnit after (set stores (c.db - 1) new) (suc k)) (sym (get_set_else units place k (with_change c (get_or units place [])) other)) (others_unit k within other)) (cases_eq k place);
      }

  -- what is committed is as it was
  pub set_committed : backed_all (set units place (with_change c (get_or units place []))) (set stores (c.db - 1) new) ≡ backed_all units stores
  set_committed =
      let us = set units place (with_change c (get_or units place [])) in
      pull (set stores (c.db - 1) new) (set units place (with_change c (get_or units place []))) place (omega (arith, lt, length-set units place (with_change c (get_or units place []))))
      (all_beside (set units place (with_change c (get_or units place []))) (set stores (c.db - 1) new) after set_units)
      ∙ ((λ t. backed_all (set_twice units place (with_change c (get_or units place [])) [] t) (backed_out (get_set units place (with_change c (get_or units place [])) lt t) (set stores (c.db - 1) new)))
      ∙ (ap (backed_all (set units place [])) stepped.committed
      ∙ sym (pull stores units place lt (all_beside units stores table h))))

  -- and so is what the others see
  pub set_others : (k : ℕ) → k ≢ place → seen_by k (set units place (with_change c (get_or units place []))) (set stores (c.db - 1) new) ≡ seen_by k units stores
  set_others k other =
      let fresh = with_change c (get_or units place []) in
      let now = set stores (c.db - 1) new in
      let there : place ≢ k = λ e. other (sym e) in
      let mine_now : get_or (set (set units place (with_change c (get_or units place []))) k []) place [] ≡ with_change c (get_or units place []) =
      get_set_else (set units place (with_change c (get_or units place []))) k place [] there ∙ get_set units place (with_change c (get_or units place [])) lt in
      let mine_then : get_or (set units k []) place [] ≡ get_or units place [] = get_set_else units k place [] there in
      let without : set (set (set units place (with_change c (get_or units place []))) k []) place [] ≡ set (set units k []) place [] =
      ap (λ us. set us place []) (set_apart units place k (with_change c (get_or units place [])) [] there) ∙ set_twice (set units k []) place (with_change c (get_or units place [])) [] in
      pull (set stores (c.db - 1) new) (set (set units place (with_change c (get_or units place []))) k []) place
      (omega (arith, lt, length-set units place (with_change c (get_or units place [])), length-set (set units place (with_change c (get_or units place []))) k []))
      (others_beside (set units place (with_change c (get_or units place []))) (set stores (c.db - 1) new) after set_units k)
      ∙ ((λ t. backed_all (without t) (backed_out (mine_now t) (set stores (c.db - 1) new)))
      ∙ (ap (backed_all (set (set units k []) place [])) stepped.committed
      ∙ sym (pull stores (set units k []) place (omega (arith, lt, length-set units k [])) (others_beside units stores table h k)
      ∙ ap (λ u. backed_all (set (set units k []) place []) (backed_out u stores)) mine_then)))

  idle_others : AllByRecursion (λ a. IsIdle a c.db c.slot c.before × IsIdle a c.db c.slot image) (set units place [])
  idle_others =
      all_by (λ a. IsIdle a c.db c.slot c.before × IsIdle a c.db c.slot image) (set units place [])
      (λ k inside.
      let within : k < length units = omega (arith, inside, length-set units place []) in
      ⊎_elim
      (λ same.
      subst (λ a. IsIdle a c.db c.slot c.before × IsIdle a c.db c.slot image) (sym (ap (λ n. get_or (set units n []) k []) (sym same) ∙ get_set units k [] within))
      (record { untouched = refl; unused = refl }, record { untouched = refl; unused = refl }))
      (λ other.
      subst (λ a. IsIdle a c.db c.slot c.before × IsIdle a c.db c.slot image) (sym (get_set_else units place k [] other)) (idle_was k within other, idle_image k within other)) (cases_eq k place))

  -- what its own region sees has the record
  pub set_seen : (IsRecord s.dbd c.root image) ⊎ (image ≡ []) → ((c.before ≡ []) → image ≢ [])
      → rows_of_stores (seen_by place (set units place (with_change c (get_or units place []))) (set stores (c.db - 1) new))
      ≡ set (rows_of_stores (seen_by place units stores)) (c.db - 1) (with_record c.root image (database_rows_in c.db (rows_of_stores (seen_by place units stores))))
  set_seen whole some =
      ap (λ us. rows_of_stores (backed_all us (set stores (c.db - 1) new))) (set_twice units place (with_change c (get_or units place [])) [])
      ∙ one_rows c.db c.slot c.before image (seen_by place units stores) (backed_all (set units place []) (set stores (c.db - 1) new))
      (one_all c.db c.slot c.before image stores (set stores (c.db - 1) new) (set units place []) one idle_others) s.dbd c.root slots_valid replaces
    where
      seen_one : OneSlot c.db c.slot c.before image (seen_by place units stores) (backed_all (set units place []) (set stores (c.db - 1) new))
      seen_one = one_all c.db c.slot c.before image stores (set stores (c.db - 1) new) (set units place []) one idle_others

      found : (t : Stored) × (slice_get (seen_by place units stores) (c.db - 1) ≡ Some t) × (t.dbd ≡ s.dbd)
      found =
          Rattle.program_rows.proofs.Aside.same_there stores (seen_by place units stores) (c.db - 1) s (Rattle.program_rows.proofs.Backed.dbds_all stores (set units place [])) i.at

      slots_valid : AreSlots s.dbd (slots_of_database c.db (seen_by place units stores))
      slots_valid =
          subst (λ xs. AreSlots s.dbd xs) (sym (slots_there c.db (seen_by place units stores) found.0 found.1))
          (subst (λ d. AreSlots d found.0.slots) found.2 (all_there (λ (x : Stored). AreSlots x.dbd x.slots) (seen_by place units stores) (c.db - 1) found.0 (seen_valid units stores table h place) found.1))

      absent : c.before ≡ [] → slot_of_root c.root (slots_of_database c.db (seen_by place units stores)) ≡ None
      absent none = by (slot_of_root c.root (slots_of_database c.db (seen_by place units stores))) refl
        where
          unchanged : AllByRecursion (λ a. is_record_changed c.db c.root a ≡ false) (set units place [])
          unchanged =
              all_by (λ a. is_record_changed c.db c.root a ≡ false) (set units place [])
              (λ k inside.
              let within : k < length units = omega (arith, inside, length-set units place []) in
              ⊎_elim
              (λ same. ap (is_record_changed c.db c.root) (ap (λ n. get_or (set units n []) k []) (sym same) ∙ get_set units k [] within))
              (λ other. ap (is_record_changed c.db c.root) (get_set_else units place k [] other) ∙ not_theirs k within other (is_record_changed c.db c.root (get_or units k [])) refl) (cases_eq k place))
            where
              not_theirs : (k : ℕ) → k < length units → k ≢ place → (b : Bool) → is_record_changed c.db c.root (get_or units k []) ≡ b → is_record_changed c.db c.root (get_or units k []) ≡ false
              not_theirs k inside other false q = q
              not_theirs k inside other true q =
                  let theirs = f.alone (suc k) (record { db = c.db; root = Some c.root }) (holds_changed table (suc k) c.db c.root (get_or units k []) (h.each k inside).alone q) in
                  let same : suc k ≡ suc place = f.kept.alone _ (suc k) (suc place) _ theirs i.mine in
                  absurd (other (omega (arith, same)))

          empty : record_of c.root (rows_of_slots (slots_of_database c.db (seen_by place units stores))) ≡ []
          empty =
              ap (record_of c.root) (sym (rows_in_is c.db (seen_by place units stores)))
              ∙ (record_all stores (set units place []) c.db c.root i.least h.valid (others_good units stores table h place) (others_beside units stores table h place) unchanged
              ∙ (ap (record_of c.root) (rows_in_is c.db stores ∙ ap rows_of_slots (slots_there c.db stores s i.at)) ∙ (sym i.before ∙ none)))

          by : (o : Option ℕ) → slot_of_root c.root (slots_of_database c.db (seen_by place units stores)) ≡ o → slot_of_root c.root (slots_of_database c.db (seen_by place units stores)) ≡ None
          by None q = q
          by (Some n) q = absurd (record_some s.dbd (slots_of_database c.db (seen_by place units stores)) c.root n slots_valid q empty)

      replaces : Replaces s.dbd c.root (slots_of_database c.db (seen_by place units stores)) c.slot image
      replaces =
          record {
            whole = ⊎_elim (λ r. inr r) (λ none. inl none) whole;
            there = ⊎_elim
                (λ none. inr (seen_one.before ∙ none, absent none, some none))
                (λ has_it. inl (ap (has_root c.root) seen_one.before ∙ has_it)) has.own;
          }
