-- Open units after a region has asked.
use Rattle.std.proofs.Common.{◌≡◌, ℕ, ◌≤◌, ◌∷◌, [], List, map, suc, refl, sym, ◌∙◌, ap, subst, Some, None, get_or, inl, inr, ⊎_elim}
use Rattle.std.specs.List.{AllByRecursion}
use Rattle.std.specs.Ordering.{is_eq}
use Rattle.model_data.proofs.Lists.{all_then}
use Rattle.tm_types.specs.declared.resource.Mode.{Mode}
use Rattle.model_data.specs.declared.need.Need.{Need}
use Rattle.model_data.specs.declared.request.Holder.{Holder}
use Rattle.model_data.specs.declared.request.Request.{Request}
use Rattle.model_data.specs.Table.{EnqueueTable}
use Rattle.model_data.specs.EnqueueRequests.{asker, granted_mode, with_hold, waits_for_nothing, after_asks}
use Rattle.pi_enqueue.specs.KeptTable.{IsTableKept}
use Rattle.seg_store.specs.Slots.{Stored}
use Rattle.unit_work.specs.declared.change.Change.{Change}
use Rattle.program_rows.specs.Isolation.{request_of}
use Rattle.program_rows.specs.OpenUnits.{HoldsAlone, Sits, AreUnits}
use Rattle.program_rows.proofs.Holders.{holder_exact}
use Rattle.program_rows.proofs.Asking.{after_has, alone_after, regions_after_asks}
use Rattle.program_rows.proofs.Blocking.{all_put}
use Rattle.program_rows.proofs.SetUnits.{Follows}

numbered_asked : (region number : ℕ) → 1 ≤ number → (needs : List Need)
    → AllByRecursion (λ (q : Request). (holds : List (Holder × Mode)) → AllByRecursion (λ hold. 1 ≤ hold.0.resource.db) holds → AllByRecursion (λ hold. 1 ≤ hold.0.resource.db) (with_hold q holds))
    (map (request_of region number) needs)
numbered_asked region number least [] = tt
numbered_asked region number least (need ∷ needs) = (
  λ holds h.
      all_put (λ hold. 1 ≤ hold.0.resource.db) (asker (request_of region number need)) (granted_mode (request_of region number need) holds) holds
      (λ x same. subst (λ (k : Holder). 1 ≤ k.resource.db) (holder_exact (asker (request_of region number need)) x (ap is_eq same)) least) least h,
  numbered_asked region number least needs,
)

-- the table after a region has asked for what it needs of a database
pub follows : (region number : ℕ) (needs : List Need) (table after : EnqueueTable) → 1 ≤ number → AllByRecursion (λ hold. 1 ≤ hold.0.resource.db) table.holds
    → after ≡ after_asks region (map (request_of region number) needs) table → IsTableKept after → Follows table after
follows region number needs table after least numbered is kept =
    record {
      kept = kept;
      regions = ap (λ (t : EnqueueTable). t.regions) is ∙ regions_after_asks region (map (request_of region number) needs) table;
      numbered = subst (λ (t : EnqueueTable). AllByRecursion (λ hold. 1 ≤ hold.0.resource.db) t.holds) (sym is)
          (after_has (AllByRecursion (λ hold. 1 ≤ hold.0.resource.db)) region (map (request_of region number) needs) table (numbered_asked region number least needs) numbered);
      alone = λ k r a. subst (λ (t : EnqueueTable). HoldsAlone t k r) (sym is) (alone_after region (map (request_of region number) needs) table k r a);
    }

-- units stay open units
pub follow_units : (units : List (List Change)) (stores : List Stored) (table after : EnqueueTable) → AreUnits units stores table → Follows table after → AreUnits units stores after
follow_units units stores table after h f =
    record {
      valid = h.valid;
      compatible = f.kept;
      count = h.count ∙ sym f.regions;
      numbered = f.numbered;
      each = λ place lt.
          let unit = h.each place lt in
          record {
            can = unit.can;
            kept = unit.kept;
            alone = all_then (λ (c : Change). HoldsAlone table (suc place) (record { db = c.db; root = Some c.root })) (λ (c : Change). HoldsAlone after (suc place) (record { db = c.db; root = Some c.root }))
                (get_or units place []) (λ c a. f.alone (suc place) (record { db = c.db; root = Some c.root }) a) unit.alone;
            sits = all_then (Sits table stores (suc place)) (Sits after stores (suc place)) (get_or units place [])
                (λ c s. ⊎_elim (λ st. inl st) (λ seq. inr (f.alone (suc place) (record { db = c.db; root = None }) seq)) s) unit.sits;
          };
    }

-- the region waits for nothing
pub waits_not : (region : ℕ) (table : EnqueueTable) → AllByRecursion (λ hold. 1 ≤ hold.0.resource.db) table.holds → IsTableKept (waits_for_nothing region table) → Follows table (waits_for_nothing region table)
waits_not region table numbered kept = record { kept = kept; regions = refl; numbered = numbered; alone = λ k r a. a }
