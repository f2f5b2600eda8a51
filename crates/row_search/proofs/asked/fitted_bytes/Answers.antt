use Rattle.std.proofs.Common.{◌≡◌, take, ◌∙◌, rules, arith}
use Rattle.std.specs.Prelude.{vec_len}
use Rattle.row_search.proofs.Fitting.{blanks_behind}
use Rattle.row_search.proofs.asked.fitted_bytes.Goals as goal

pub returns : goal.returns
returns c =
    let front : c.extend_from_slice.new.self.items ≡ take c.min-size.result c.args.bytes.now = search rules in
    c.from_vec.ensures
    ∙ blanks_behind c.args.length c.min-size.result (vec_len c.extend_from_slice.new.self) c.args.bytes.now c.extend_from_slice.new.self.items c.resize.new.self.items
    c.min-size.ensures front (omega arith) c.in_ok-resize.ensures.items
