-- What a look-up in a store tells of its rows.
use Rattle.std.proofs.Common.{◌≡◌, ◌≢◌, ◌↔◌, ℕ, [], List, Option, None, Some, Ok, true, Bor, refl, sym, subst, false}
use Rattle.std.specs.Option.{IfSome, IsNone}
use Rattle.tm_types.specs.declared.dbd.Dbd.{Dbd}
use Rattle.model_data.specs.declared.row.Row.{Row}
use Rattle.model_data.specs.Record.{IsRecord}
use Rattle.model_data.specs.Rows.{record_of, AreRows}
use Rattle.model_data.proofs.Whole.{record_is}
use Rattle.seg_rows.specs.ReadRows.{IsRecordRead, TellsRecord}

module _ (dbd : Dbd) (rows : List Row) (valid : AreRows dbd rows) (root : List ℕ) where
  pub found_read : (r : Option (Bor (List Row))) → IfSome r (λ image. image.now ≡ record_of root rows) → IsNone r ↔ (record_of root rows ≡ [])
      → IsRecordRead dbd true root rows (Ok r)
  found_read None found none = none.0 refl
  found_read (Some image) found none =
      let there : record_of root rows ≢ [] = λ e. let is : true ≡ false = none.1 e in absurd (cc) in
      record {
        valid = subst (IsRecord dbd root) (sym found) (record_is dbd rows root valid there);
        there = there;
        told = λ told. found;
      }

  pub found_tells : (r : Option (Bor (List Row))) → IfSome r (λ image. image.now ≡ record_of root rows) → IsNone r ↔ (record_of root rows ≡ []) → TellsRecord root rows (Ok r)
  found_tells None found none = none.0 refl
  found_tells (Some image) found none = sym found
