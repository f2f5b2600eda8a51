use Rattle.std.proofs.Common.{◌≡◌, take, length, ◌∙◌, rules, arith}
use Rattle.std.specs.Prelude.{vec_len}
use Rattle.model_messages.proofs.Padded.{fits}
use Rattle.model_messages.proofs.pads.fitted.Goals as goal

pub returns : goal.returns
returns c =
    let front : c.extend_from_slice.new.self.items ≡ take c.min-size.result c.args.text.now = search rules in
    let long : vec_len c.extend_from_slice.new.self ≡ length c.extend_from_slice.new.self.items = omega arith in
    c.from_vec.ensures
    ∙ fits c.args.length c.min-size.result (vec_len c.extend_from_slice.new.self) c.args.text.now c.extend_from_slice.new.self.items c.resize.new.self.items
    c.min-size.ensures front long c.in_ok-resize.ensures.items
