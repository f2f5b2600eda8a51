use Rattle.std.proofs.Common.{◌≡◌, ◌+◌, ◌-◌, length, sym, ap, ◌∙◌, arith}
use Rattle.model_data.specs.declared.row.Row.{Row}
use Rattle.model_data.specs.RowsOfBytes.{last_path}
use Rattle.seg_rows.proofs.Lists.{last_path_at}
use Rattle.seg_rows.proofs.image.RecordImage.last_path.Goals as goal

pub returns-in-len1-up : goal.returns-in-len1-up
returns-in-len1-up c =
    let rows = c.as_slice.result.now in
    let last : length rows - 1 + 1 ≡ length rows = omega (arith, c.in-len1-up.len_at_least) in
    c.as_slice-in-len1-up.ensures
    ∙ (ap (λ (r : Row). r.path) c.row-item.is
    ∙ (sym (last_path_at rows (length rows - 1) c.row-item.result last)
    ∙ ap last_path (c.as_slice.ensures.value ∙ c.self.view_is)))
