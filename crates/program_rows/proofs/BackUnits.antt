-- The open units after the changes of one are taken back, or stay, and after its region has released what it held.
use Rattle.std.proofs.Common.{◌≡◌, ◌≢◌, ℕ, ◌-◌, ◌<◌, ◌≤◌, ◌∷◌, [], List, length, suc, refl, sym, ◌∙◌, ap, subst, true, false, arith, get_or, set, not, eqb, inl, inr, ⊎_elim}
use Rattle.std.specs.List.{AllByRecursion}
use Rattle.std.proofs.lemmas.Bool.{cases_eq}
use Rattle.std.proofs.lemmas.List.{length-set}
use Rattle.model_data.specs.declared.row.Row.{Row}
use Rattle.model_data.proofs.Lists.{all_then, all_filter}
use Rattle.model_data.specs.Table.{EnqueueTable}
use Rattle.model_data.specs.EnqueueRequests.{released}
use Rattle.pi_enqueue.specs.KeptTable.{IsTableKept}
use Rattle.seg_store.specs.Slots.{Stored, has_root, is_slot_free}
use Rattle.unit_work.specs.declared.change.Change.{Change}
use Rattle.unit_work.specs.BackOut.{cleared, backed_out, IsStored, CanGoBack}
use Rattle.program_rows.specs.OpenUnits.{HoldsAlone, StaysInSlot, Sits, IsOpenUnit, AreUnits, backed_all, seen_by, was_there}
use Rattle.unit_work.specs.Images.{slots_of_database}
use Rattle.program_rows.proofs.Beside.{AreBeside}
use Rattle.program_rows.proofs.Aside.{goes, can_aside, aside_back, slots_there, was_there_own}
use Rattle.program_rows.proofs.Together.{pull, get_set, get_set_else, set_twice, set_apart}
use Rattle.program_rows.proofs.Backed.{valid_back, image_where}
use Rattle.program_rows.proofs.Apart.{units_beside, all_beside}
use Rattle.program_rows.proofs.Holders.{held_released}
use Rattle.program_rows.proofs.Seen.{others_beside}

-- a unit that has changed nothing
pub empty_unit : (table : EnqueueTable) (stores : List Stored) (region : ℕ) → IsOpenUnit table stores region []
empty_unit table stores region =
    record { can = record { stored = tt; fits = tt; apart = tt }; kept = record { once = tt; few = omega arith }; alone = tt; sits = tt }

pub some_free : (image : List Row) → image ≢ [] → is_slot_free image ≡ false
some_free [] h = absurd (h refl)
some_free (row ∷ image) h = refl

-- where the records of a unit sit, once another beside it is backed out
pub sits_back : (table : EnqueueTable) (stores : List Stored) (region : ℕ) (a b : List Change) → IsOpenUnit table stores region a → AreBeside stores a b
    → AllByRecursion (Sits table (backed_out b stores) region) a
sits_back table stores region a b unit beside = each a unit.sits (was_there_own a) unit.can.fits unit.can.stored
  where
    one : (c : Change) → (is_slot_free c.before ≡ false → was_there a c.db c.slot ≡ true) → CanGoBack (cleared a stores) c → IsStored stores c → StaysInSlot stores c → StaysInSlot (backed_out b stores) c
    one c used goes_back stored st =
        ⊎_elim (λ none. absurd (st.was none))
        (λ g.
        let within : c.slot < length (slots_of_database c.db stores) = subst (λ xs. c.slot < length xs) (sym (slots_there c.db stores g.s g.at)) g.within in
        record {
          was = st.was;
          is = ap (has_root c.root) (image_where stores a b c.db c.slot stored.least within beside (used (some_free c.before st.was))) ∙ st.is;
        }) (goes a stores c stored.least goes_back)

    each : (rs : List Change) → AllByRecursion (Sits table stores region) rs → AllByRecursion (λ c. is_slot_free c.before ≡ false → was_there a c.db c.slot ≡ true) rs
        → AllByRecursion (CanGoBack (cleared a stores)) rs → AllByRecursion (IsStored stores) rs → AllByRecursion (Sits table (backed_out b stores) region) rs
    each [] s u f t = tt
    each (c ∷ rs) s u f t = (⊎_elim (λ st. inl (one c u.0 f.0 t.0 st)) (λ seq. inr seq) s.0, each rs s.1 u.1 f.1 t.1)

module _ (units : List (List Change)) (stores : List Stored) (table : EnqueueTable) (h : AreUnits units stores table) (place : ℕ) (lt : place < length units) where
  pub beside_mine : (k : ℕ) → k < length units → k ≢ place → AreBeside stores (get_or units k []) (get_or units place [])
  beside_mine k inside other =
      units_beside table stores h.compatible (suc k) (suc place) (get_or units k []) (get_or units place []) (h.each k inside) (h.each place lt)
      (λ e. absurd (other (omega (arith, e))))

  -- its changes are taken back
  pub back_units : AreUnits (set units place []) (backed_out (get_or units place []) stores) table
  back_units =
      record {
        valid = valid_back stores (get_or units place []) h.valid (record { can = (h.each place lt).can; once = (h.each place lt).kept.once });
        compatible = h.compatible;
        count = length-set units place [] ∙ h.count;
        numbered = h.numbered;
        each = λ k inside.
            let within : k < length units = omega (arith, inside, length-set units place []) in
            ⊎_elim
            (λ same.
            subst (IsOpenUnit table (backed_out (get_or units place []) stores) (suc k)) (sym (ap (λ n. get_or (set units place []) n []) same ∙ get_set units place [] lt))
            (empty_unit table (backed_out (get_or units place []) stores) (suc k)))
            (λ other.
            subst (IsOpenUnit table (backed_out (get_or units place []) stores) (suc k)) (sym (get_set_else units place k [] other)) (theirs k within other)) (cases_eq k place);
      }
    where
      theirs : (k : ℕ) → k < length units → k ≢ place → IsOpenUnit table (backed_out (get_or units place []) stores) (suc k) (get_or units k [])
      theirs k inside other =
          let unit = h.each k inside in
          record {
            can = can_aside (get_or units k []) stores (backed_out (get_or units place []) stores) unit.can
                (aside_back stores (get_or units k []) (get_or units place []) (beside_mine k inside other));
            kept = unit.kept;
            alone = unit.alone;
            sits = sits_back table stores (suc k) (get_or units k []) (get_or units place []) unit (beside_mine k inside other);
          }

  pub back_committed : backed_all (set units place []) (backed_out (get_or units place []) stores) ≡ backed_all units stores
  back_committed = sym (pull stores units place lt (all_beside units stores table h))

  pub back_others : (k : ℕ) → k ≢ place → seen_by k (set units place []) (backed_out (get_or units place []) stores) ≡ seen_by k units stores
  back_others k other =
      let there : place ≢ k = λ e. other (sym e) in
      ap (λ us. backed_all us (backed_out (get_or units place []) stores)) (set_apart units place k [] [] there)
      ∙ sym (pull stores (set units k []) place (omega (arith, lt, length-set units k [])) (others_beside units stores table h k)
      ∙ ap (λ u. backed_all (set (set units k []) place []) (backed_out u stores)) (get_set_else units k place [] there))

  pub back_own : seen_by place (set units place []) (backed_out (get_or units place []) stores) ≡ backed_all units stores
  back_own = ap (λ us. backed_all us (backed_out (get_or units place []) stores)) (set_twice units place [] []) ∙ back_committed

  -- its changes stay
  pub keep_units : AreUnits (set units place []) stores table
  keep_units =
      record {
        valid = h.valid;
        compatible = h.compatible;
        count = length-set units place [] ∙ h.count;
        numbered = h.numbered;
        each = λ k inside.
            let within : k < length units = omega (arith, inside, length-set units place []) in
            ⊎_elim
            (λ same. subst (IsOpenUnit table stores (suc k)) (sym (ap (λ n. get_or (set units place []) n []) same ∙ get_set units place [] lt)) (empty_unit table stores (suc k)))
            (λ other. subst (IsOpenUnit table stores (suc k)) (sym (get_set_else units place k [] other)) (h.each k within)) (cases_eq k place);
      }

-- its region has released all
pub released_units : (units : List (List Change)) (stores : List Stored) (table : EnqueueTable) (place : ℕ) → AreUnits units stores table → get_or units place [] ≡ []
    → IsTableKept (released (suc place) table) → AreUnits units stores (released (suc place) table)
released_units units stores table place h none kept =
    record {
      valid = h.valid;
      compatible = kept;
      count = h.count;
      numbered = all_filter (λ hold. 1 ≤ hold.0.resource.db) (λ hold. not (eqb hold.0.region (suc place))) table.holds h.numbered;
      each = λ k inside.
          ⊎_elim
          (λ same. subst (IsOpenUnit (released (suc place) table) stores (suc k)) (sym (ap (λ n. get_or units n []) same ∙ none)) (empty_unit (released (suc place) table) stores (suc k)))
          (λ other. theirs k inside other) (cases_eq k place);
    }
  where
    theirs : (k : ℕ) → k < length units → k ≢ place → IsOpenUnit (released (suc place) table) stores (suc k) (get_or units k [])
    theirs k inside other =
        let unit = h.each k inside in
        let apart : suc k ≢ suc place = λ e. other (omega (arith, e)) in
        record {
          can = unit.can;
          kept = unit.kept;
          alone = all_then (λ (c : Change). HoldsAlone table (suc k) (record { db = c.db; root = Rattle.std.proofs.Common.Some c.root }))
              (λ (c : Change). HoldsAlone (released (suc place) table) (suc k) (record { db = c.db; root = Rattle.std.proofs.Common.Some c.root })) (get_or units k [])
              (λ c a. held_released (suc k) (suc place) (record { db = c.db; root = Rattle.std.proofs.Common.Some c.root }) table.holds apart ∙ a) unit.alone;
          sits = all_then (Sits table stores (suc k)) (Sits (released (suc place) table) stores (suc k)) (get_or units k [])
              (λ c s. ⊎_elim (λ st. inl st) (λ seq. inr (held_released (suc k) (suc place) (record { db = c.db; root = Rattle.std.proofs.Common.None }) table.holds apart ∙ seq)) s) unit.sits;
        }
