-- What regions hold alone keeps their units apart.
use Rattle.std.proofs.Common.{◌≡◌, ◌≢◌, ℕ, ◌∷◌, [], List, suc, refl, sym, ◌∙◌, ap, subst, Bool, true, false, cond, None, Some, arith, get_or, eqb, ◌&&◌, ◌||◌, ◌⊎◌, inl, inr, ⊎_elim}
use Rattle.std.specs.List.{AllByRecursion}
use Rattle.std.proofs.lemmas.Bool.{false≢true, eqb-true}
use Rattle.model_data.specs.declared.row.Row.{Row}
use Rattle.model_data.specs.Table.{EnqueueTable}
use Rattle.pi_enqueue.specs.KeptTable.{IsTableKept}
use Rattle.seg_store.specs.Slots.{Stored, has_root}
use Rattle.seg_store.proofs.SlotRows.{same_key}
use Rattle.unit_work.specs.declared.change.Change.{Change}
use Rattle.unit_work.specs.Changes.{is_change_of_record, is_record_changed}
use Rattle.unit_work.specs.BackOut.{is_touched, was_in, cleared_slot}
use Rattle.program_rows.specs.OpenUnits.{HoldsAlone, Sits, IsOpenUnit, AreUnits, was_there}
use Rattle.unit_work.specs.Images.{image_at}
use Rattle.program_rows.proofs.Beside.{IsIdle, AreRooted, AreOthers, AreBeside, touched_is}
use Rattle.program_rows.proofs.Aside.{was_in_is, can_rooted, cleared_where}
use Rattle.program_rows.proofs.Together.{AreAllBeside, beside_by, all_by}
use Rattle.program_rows.proofs.Backed.{IsGood}
use Rattle.program_rows.proofs.Bools.{left_of, right_of}

-- the region has a record alone that its unit has changed
pub holds_changed : (table : EnqueueTable) (region db : ℕ) (root : List ℕ) (records : List Change) → AllByRecursion (λ c. HoldsAlone table region (record { db = c.db; root = Some c.root })) records
    → is_record_changed db root records ≡ true → HoldsAlone table region (record { db = db; root = Some root })
holds_changed table region db root [] h e = absurd (false≢true e)
holds_changed table region db root (c ∷ records) h e = by (is_change_of_record db root c) refl (holds_changed table region db root records h.1)
  where
    by : (b : Bool) → is_change_of_record db root c ≡ b → (is_record_changed db root records ≡ true → HoldsAlone table region (record { db = db; root = Some root })) → HoldsAlone table region (record { db = db; root = Some root })
    by true q rec =
        let database : c.db ≡ db = eqb-true c.db db (left_of (eqb c.db db) _ q) in
        let key : c.root ≡ root = sym (same_key c.root root (right_of (eqb c.db db) _ q)) in
        subst (λ k. HoldsAlone table region (record { db = db; root = Some k })) key
        (subst (λ n. HoldsAlone table region (record { db = n; root = Some c.root })) database h.0)
    by false q rec = rec (sym (ap (λ b. b || is_record_changed db root records) q) ∙ e)

-- an image that a unit has touched is of a record that it has changed
pub touched_root : (records : List Change) (db : ℕ) (image : List Row) → is_touched records db image ≡ true → (root : List ℕ) × (has_root root image ≡ true) × (is_record_changed db root records ≡ true)
touched_root records db image e = by records (found records e)
  where
    found : (rs : List Change) → is_touched rs db image ≡ true → (root : List ℕ) × (has_root root image ≡ true)
    found [] q = absurd (false≢true q)
    found (c ∷ rs) q = each (eqb c.db db && has_root c.root image) refl (found rs)
      where
        each : (b : Bool) → (eqb c.db db && has_root c.root image) ≡ b → (is_touched rs db image ≡ true → (root : List ℕ) × (has_root root image ≡ true)) → (root : List ℕ) × (has_root root image ≡ true)
        each true t rec = (c.root, right_of (eqb c.db db) _ t)
        each false t rec = rec (sym (ap (λ b. b || is_touched rs db image) t) ∙ q)

    by : (rs : List Change) → (root : List ℕ) × (has_root root image ≡ true) → (root : List ℕ) × (has_root root image ≡ true) × (is_record_changed db root records ≡ true)
    by rs f = (f.0, f.1, sym (touched_is records db f.0 image f.1) ∙ e)

-- where the record of a unit was and nothing is, its region has the sequence alone
pub free_where : (table : EnqueueTable) (stores : List Stored) (region : ℕ) (records : List Change) (db slot : ℕ) → AllByRecursion (Sits table stores region) records → was_there records db slot ≡ true
    → image_at db slot stores ≡ [] → HoldsAlone table region (record { db = db; root = None })
free_where table stores region [] db slot h e free = absurd (false≢true e)
free_where table stores region (c ∷ records) db slot h e free = by (was_in db slot c) refl (λ g. free_where table stores region records db slot h.1 g free)
  where
    by : (b : Bool) → was_in db slot c ≡ b → (was_there records db slot ≡ true → HoldsAlone table region (record { db = db; root = None })) → HoldsAlone table region (record { db = db; root = None })
    by false q rec = rec (sym (ap (λ b. b || was_there records db slot) q) ∙ e)
    by true q rec =
        let was = was_in_is db slot c q in
        ⊎_elim
        (λ st.
        let none : image_at c.db c.slot stores ≡ [] = (λ t. image_at (was.database t) (was.place t) stores) ∙ free in
        absurd (false≢true (ap (has_root c.root) (sym none) ∙ st.is)))
        (λ seq. subst (λ n. HoldsAlone table region (record { db = n; root = None })) was.database seq) h.0

module _ (table : EnqueueTable) (stores : List Stored) (compatible : IsTableKept table) (i k : ℕ) (a b : List Change)
    (unit_a : IsOpenUnit table stores i a) (unit_b : IsOpenUnit table stores k b) (other : i ≢ k) where
  pub others_apart : AreOthers a b
  others_apart db root e = by (is_record_changed db root b) refl
    where
      by : (c : Bool) → is_record_changed db root b ≡ c → is_record_changed db root b ≡ false
      by false q = q
      by true q =
          absurd (other (compatible.alone _ i k _ (holds_changed table i db root a unit_a.alone e) (holds_changed table k db root b unit_b.alone q)))

  -- an image that one has touched leaves the other idle
  touched_idle : (db slot : ℕ) → is_touched a db (image_at db slot stores) ≡ true → IsIdle b db slot (image_at db slot stores)
  touched_idle db slot e =
      let image = image_at db slot stores in
      let found = touched_root a db (image_at db slot stores) e in
      let untouched : is_touched b db (image_at db slot stores) ≡ false = touched_is b db found.0 (image_at db slot stores) found.1 ∙ others_apart db found.0 found.2 in
      record { untouched = untouched; unused = unused found.0 found.1 untouched (was_there b db slot) refl }
    where
      unused : (root : List ℕ) → has_root root (image_at db slot stores) ≡ true → is_touched b db (image_at db slot stores) ≡ false → (c : Bool) → was_there b db slot ≡ c → was_there b db slot ≡ false
      unused root h u false q = q
      unused root h u true q =
          let same : cleared_slot b db (image_at db slot stores) ≡ image_at db slot stores = ap (λ t. cond t [] (image_at db slot stores)) u in
          absurd (false≢true (ap (has_root root) (sym (cleared_where b stores db slot unit_b.can q) ∙ same) ∙ h))

pub units_beside : (table : EnqueueTable) (stores : List Stored) → IsTableKept table → (i k : ℕ) (a b : List Change) → IsOpenUnit table stores i a → IsOpenUnit table stores k b → i ≢ k → AreBeside stores a b
units_beside table stores compatible i k a b unit_a unit_b other =
    record {
      others = others_apart table stores compatible i k a b unit_a unit_b other;
      turned = others_apart table stores compatible k i b a unit_b unit_a (λ e. other (sym e));
      rooted_a = can_rooted a stores unit_a.can;
      rooted_b = can_rooted b stores unit_b.can;
      apart = λ db slot least lt.
          by db slot (is_touched a db (image_at db slot stores)) refl (is_touched b db (image_at db slot stores)) refl (was_there a db slot) refl (was_there b db slot) refl;
    }
  where
    by : (db slot : ℕ) (t : Bool) → is_touched a db (image_at db slot stores) ≡ t → (u : Bool) → is_touched b db (image_at db slot stores) ≡ u → (v : Bool) → was_there a db slot ≡ v
        → (w : Bool) → was_there b db slot ≡ w → IsIdle a db slot (image_at db slot stores) ⊎ IsIdle b db slot (image_at db slot stores)
    by db slot true p u q v r w s = inr (touched_idle table stores compatible i k a b unit_a unit_b other db slot p)
    by db slot false p true q v r w s = inl (touched_idle table stores compatible k i b a unit_b unit_a (λ e. other (sym e)) db slot q)
    by db slot false p false q false r w s = inl (record { untouched = p; unused = r })
    by db slot false p false q true r false s = inr (record { untouched = q; unused = s })
    by db slot false p false q true r true s =
        let free : image_at db slot stores ≡ [] = sym (ap (λ t. cond t [] (image_at db slot stores)) p) ∙ cleared_where a stores db slot unit_a.can r in
        absurd (other (compatible.alone _ i k _ (free_where table stores i a db slot unit_a.sits r free) (free_where table stores k b db slot unit_b.sits s free)))

-- open units are side by side, and each can be backed out
pub all_beside : (units : List (List Change)) (stores : List Stored) (table : EnqueueTable) → AreUnits units stores table → AreAllBeside stores units
all_beside units stores table h =
    beside_by stores units
    (λ i k less lt.
    units_beside table stores h.compatible (suc i) (suc k) (get_or units i []) (get_or units k []) (h.each i (omega arith)) (h.each k lt) (λ e. absurd (omega arith)))

pub all_good : (units : List (List Change)) (stores : List Stored) (table : EnqueueTable) → AreUnits units stores table → AllByRecursion (IsGood stores) units
all_good units stores table h = all_by (IsGood stores) units (λ i lt. record { can = (h.each i lt).can; once = (h.each i lt).kept.once })

pub all_rooted : (units : List (List Change)) (stores : List Stored) (table : EnqueueTable) → AreUnits units stores table → AllByRecursion AreRooted units
all_rooted units stores table h = all_by AreRooted units (λ i lt. can_rooted (get_or units i []) stores (h.each i lt).can)
