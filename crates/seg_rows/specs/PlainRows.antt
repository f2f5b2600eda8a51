-- How the rows of a database are kept by their roots.
use Rattle.std.proofs.Common.{◌≡◌, ◌∙◌, ap, arith, refl, subst, sym}
use Rattle.std.specs.Prelude.{ℕ, ◌≤◌, true, List, length}
use Rattle.std.specs.List.{AllByRecursion}
use Rattle.std.specs.List.Sorted.{IsStrictlySortedBy}
use Rattle.std.specs.Map.{keys_of}
use Rattle.tm_types.specs.declared.dbd.Dbd.{Dbd}
use Rattle.tm_types.specs.SegTypes.{IsHierarchy}
use Rattle.model_data.specs.declared.row.Row.{Row}
use Rattle.model_data.specs.Path.{key_cmp}
use Rattle.model_data.specs.Record.{IsRecord}
use Rattle.model_data.specs.Rows.{Database, AreRows, roots}
use Rattle.seg_rows.specs.ReadRows.{AreReadOn}

-- each entry is a record under its root, the roots ascend, and are no more than the database may have
pub record ArePlainRowsKept (dbd : Dbd) (records : List (List ℕ × List Row)) : Type 0 where
  pub types : IsHierarchy dbd.types
  pub ascending : IsStrictlySortedBy key_cmp (keys_of records)
  pub each : AllByRecursion (λ entry. IsRecord dbd entry.0 entry.1) records
  pub few : length records ≤ dbd.roots

-- reading leaves all as it was
pub plain_none : (a : Database) → a ≡ a
plain_none a = refl

pub plain_on : (a b c : Database) → b ≡ a → c ≡ b → c ≡ a
plain_on a b c e f = f ∙ e

pub plain_same : (a b : Database) → b ≡ a → AreReadOn a.dbd b.dbd a.rows b.rows true true 0 0
plain_same a b e =
    record {
      database = ap (λ (d : Database). d.dbd) e;
      rows = record {
        valid = λ are. subst (λ (d : Database). AreRows a.dbd d.rows) (sym e) are;
        roots = ap (λ (d : Database). roots d.rows) e;
        told = λ told. ap (λ (d : Database). d.rows) e;
      };
      tells = refl;
      faults = omega arith;
    }
