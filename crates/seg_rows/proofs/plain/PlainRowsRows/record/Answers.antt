use Rattle.std.proofs.Common.{ap, refl, subst}
use Rattle.std.proofs.Common.{Ok, true}
use Rattle.model_data.specs.Rows.{Database, record_of, AreRows}
use Rattle.seg_rows.specs.ReadRows.{IsRecordRead}
use Rattle.seg_rows.proofs.Kept.{kept_rows, read_answer, read_tells}
use Rattle.seg_rows.proofs.plain.PlainRowsRows.record.Goals as goal

pub returns : goal.returns
returns c = (
  (
    refl,
    λ left. tt,
    record {
      on = c.self.view_is;
      own = read_tells c.self.inside.dbd c.self.inside.records.entries c.args.root.now c.self.invariant c.get.result c.get.ensures.value;
      others = λ other apart. ap (λ (d : Database). record_of other d.rows) c.self.view_is;
      cause = tt;
    },
  ),
  record {
    found =
        subst (λ (d : Database). IsRecordRead d.dbd true c.args.root.now d.rows (Ok c.get.result)) c.self.view_is
        (read_answer c.self.inside.dbd c.self.inside.records.entries c.args.root.now c.self.invariant c.get.result c.get.ensures.value);
    valid = subst (λ (d : Database). AreRows d.dbd d.rows) c.self.view_is (kept_rows c.self.inside.dbd c.self.inside.records.entries c.self.invariant);
    left = tt;
  },
)
